-- The output of the plain back end and the sender is that of the definitions.
use Rattle.std.proofs.Common.{◌≡◌, ℕ, List, Option, subst}
use Rattle.corr_model.specs.declared.plan.Plan.{Plan}
use Rattle.corr_model.specs.Outputs.{output}
use Rattle.corr_model.specs.Visibilities.{Lists}
use Rattle.vis_back.specs.Sets.{columns_of}
use Rattle.vis_value.specs.Crosses.{cross_value}
use Rattle.vis_value.proofs.OutputOfCross.{heap_of_cross}
use Rattle.vis_send.specs.declared.tally.Sent.{Sent}
use Rattle.vis_send.specs.Marks.{nothing}
use Rattle.vis_send.specs.Sending.{SendsWhole}
use Rattle.vis_send.specs.Emitters.{sender_strings}
use Rattle.vis_send.proofs.OutputLemmas.{output_of_sender}
use Rattle.corr_serial.specs.declared.outcome.Ran.{Ran}
use Rattle.corr_serial.specs.Outputs.{Meaning, output_by}
use Rattle.corr_serial.specs.Runs.{SendsBy, SendsSome, SendsOutput}

-- what the plain back end and the sender mean
abbrev pub plain_meaning : Plan → Meaning
plain_meaning plan = record { strings = sender_strings plan; value = λ cs from to. cross_value plan cs from to }

pub plain_output : (plan : Plan) (lists : Lists) → output_by (plain_meaning plan) plan lists ≡ output plan lists
plain_output plan lists =
    output_of_sender plan lists (λ n. cross_value plan (columns_of plan lists n) 0 plan.heaps)
    (heap_of_cross plan lists)

pub plain_sends : (plan : Plan) (ran : Ran) (before after : Option (List (List ℕ))) (sent : Sent) (lists : Lists)
    → SendsBy ran before after sent (output_by (plain_meaning plan) plan lists)
    → SendsBy ran before after sent (output plan lists)
plain_sends plan ran before after sent lists h = subst (SendsBy ran before after sent) (plain_output plan lists) h

pub plain_counted : (plan : Plan) (before after : Option (List (List ℕ))) (sent : Sent)
    → SendsSome (plain_meaning plan) plan before after sent → SendsOutput plan before after sent
plain_counted plan before after sent h =
    record {
      lists = h.lists;
      sends = subst (λ l. SendsWhole before after nothing sent l) (plain_output plan h.lists) h.sends;
    }

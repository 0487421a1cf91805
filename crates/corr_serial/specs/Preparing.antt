-- What a run works with before it begins. This project's own.
use Rattle.std.specs.Prelude.{◌≡◌, ℕ, false}
use Rattle.corr_model.specs.declared.plan.Plan.{Plan}
use Rattle.corr_model.specs.Plans.{Fits}
use Rattle.vis_send.specs.declared.tally.Sent.{Sent}
use Rattle.vis_send.specs.Marks.{nothing}
use Rattle.corr_machine.specs.Machines.{opening}
use Rattle.corr_core.specs.Standing.{StandFor}
use Rattle.corr_core.specs.Sends.{value_with}
use Rattle.corr_core.specs.Cores.{CoreView}
use Rattle.corr_serial.specs.Going.{ValuesOf}

-- what contracts see of it: the plan, the back end and the emitter
pub record PreparedView (B E : Type 0) : Type 0 where
  pub plan : Plan
  pub backend : B
  pub emit : E

-- the core stands for the machine's opening and sent nothing, and as many reports have room as there are antennas
pub record IsPrepared {B E : Type 0} (value : ValuesOf B) (core : CoreView B E) (tally : Sent)
    (reports : ℕ) : Type 0 where
  pub fits : Fits core.parts.plan
  pub stands : StandFor (value_with (value core.backend) core.parts.plan) core.parts (opening core.parts.plan)
  pub calm : core.failed ≡ false
  pub sent : tally ≡ nothing
  pub one_each : reports ≡ core.parts.plan.antennas

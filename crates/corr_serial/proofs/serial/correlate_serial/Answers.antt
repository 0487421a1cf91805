use Rattle.corr_serial.proofs.CrossLemmas.{plain_sends, plain_counted}
use Rattle.corr_serial.specs.Runs.{list_of}
use Rattle.corr_serial.proofs.serial.correlate_serial.Goals as goal

pub returns-clause-sends : goal.returns-clause-sends
returns-clause-sends g c =
    λ lists given. plain_sends c.args.prepared.plan _ _ _ _ (list_of lists) (c.serial_with.ensures.sends lists given)

pub returns-clause-front : goal.returns-clause-front
returns-clause-front g c =
    λ told lists given go.
    plain_sends c.args.prepared.plan _ _ _ _ lists (c.serial_with.ensures.front told lists given go)

pub returns-clause-counted : goal.returns-clause-counted
returns-clause-counted g c = λ whole. plain_counted c.args.prepared.plan _ _ _ (c.serial_with.ensures.counted whole)

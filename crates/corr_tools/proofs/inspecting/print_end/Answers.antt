use Rattle.corr_report.specs.Inspected.{datagrams_text}
use Rattle.corr_tools.specs.Inspecting.{fault_text}
use Rattle.corr_tools.proofs.TextLemmas.{front_of_more, written_then}
use Rattle.corr_tools.proofs.inspecting.print_end.Goals as goal

pub returns-in-Err-clause-written : goal.returns-in-Err-clause-written
returns-in-Err-clause-written g c =
    front_of_more _ _ (datagrams_text c.args.count) (fault_text c.args.source) c.in-Err.ensures.written

pub returns-clause-written : goal.returns-clause-written
returns-clause-written g c =
    written_then _ _ _ c.print_fault.result (datagrams_text c.args.count) (fault_text c.args.source)
    c.in_default.ensures.written c.print_fault.ensures.written

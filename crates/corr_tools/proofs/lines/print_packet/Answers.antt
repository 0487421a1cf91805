use Rattle.std.specs.List.{flat_map}
use Rattle.corr_report.specs.Inspected.{packet_text, pointer_text}
use Rattle.corr_tools.proofs.TextLemmas.{front_of_more, written_then}
use Rattle.corr_tools.proofs.lines.print_packet.Goals as goal

pub returns-in-Err-clause-written : goal.returns-in-Err-clause-written
returns-in-Err-clause-written g c =
    front_of_more _ _ (packet_text c.args.place c.args.packet.now) (flat_map pointer_text c.args.packet.now.pointers)
    c.in-Err.ensures.written

pub returns-clause-written : goal.returns-clause-written
returns-clause-written g c =
    written_then _ _ _ c.print_pointers.result (packet_text c.args.place c.args.packet.now)
    (flat_map pointer_text c.args.packet.now.pointers) c.in_default.ensures.written c.print_pointers.ensures.written

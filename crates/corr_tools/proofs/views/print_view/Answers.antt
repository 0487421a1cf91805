use Rattle.vis_read.specs.Views.{view_of}
use Rattle.corr_report.specs.Decoded.{heap_text}
use Rattle.corr_tools.specs.Decoding.{baselines_text}
use Rattle.corr_tools.proofs.TextLemmas.{front_of_more, written_then}
use Rattle.corr_tools.proofs.views.print_view.Goals as goal

pub returns-in-Err-clause-written : goal.returns-in-Err-clause-written
returns-in-Err-clause-written g c =
    front_of_more _ _ (heap_text (view_of c.args.view.now)) (baselines_text (view_of c.args.view.now))
    c.in-Err.ensures.written

pub returns-clause-written : goal.returns-clause-written
returns-clause-written g c =
    written_then _ _ _ c.print_baselines.result (heap_text (view_of c.args.view.now))
    (baselines_text (view_of c.args.view.now)) c.in_default.ensures.written c.print_baselines.ensures.written

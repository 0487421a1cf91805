use Rattle.std.proofs.Common.{sym, ◌∙◌, subst}
use Rattle.std.specs.Prelude.{Some}
use Rattle.corr_site.specs.declared.answers.Failed.{Failed}
use Rattle.corr_cli.specs.Beginning.{IsNowAt}
use Rattle.corr_cli.proofs.BeginLemmas.{placed_result}
use Rattle.corr_cli.proofs.PlacedLemmas.{own_of}
use Rattle.corr_cli.proofs.SaysLemmas.{text_says}
use Rattle.corr_cli.proofs.said.said_text.Goals as goal

pub returns-in-Ok-clause-says : goal.returns-in-Ok-clause-says
returns-in-Ok-clause-says g c =
    λ bytes told.
    text_says Failed _ _ c.fill.new.buf c.in-Ok.len _ c.settings_of.result c.in-Ok.ensures.within c.in-Ok.ensures.length
    c.in-Ok.ensures.text c.settings_of.ensures.says bytes (c.begin.ensures.left ∙ told)

pub returns-in-Ok-clause-at : goal.returns-in-Ok-clause-at
returns-in-Ok-clause-at g c =
    let at = g.D.TextSource.at in
    own_of (at c.args.text.now) (at c.fill.new.source) (g.D.TextSource.begun c.fill.new.source) c.args.config.now
    (subst (λ now. IsNowAt (at c.args.text.now) now (Some c.args.config.now)) (sym c.in-Ok.ensures.at)
    (placed_result (at c.args.text.now) (at c.begin.new.self) c.begin.result c.args.config.now c.if-is_err.ensures.value
    c.begin.ensures.at))

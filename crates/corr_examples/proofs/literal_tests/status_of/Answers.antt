use Rattle.std.proofs.Common.{◌≡◌, ap, ◌∙◌, map, refl, inl}
use Rattle.std.specs.Prelude.{string_bytes}
use Rattle.corr_examples.specs.Literals.{literal_words}
use Rattle.corr_examples.proofs.LiteralLemmas.{asks, has_form, literal_output, sent_all}
use Rattle.corr_examples.proofs.literal_tests.status_of.Goals as goal

pub returns : goal.returns
returns g c = record {
  sent = λ zero.
      let same : map string_bytes c.deref.result.now ≡ literal_words =
      ap (map string_bytes) c.deref.ensures.value ∙ c.in_ok-words.ensures in
      sent_all _ _ _ c.requires.empty
      (c.run-status.ensures.theorem refl (asks _ same) (has_form _ same) (inl (inl zero))) ∙ literal_output
      g.row.WORKERS;
}

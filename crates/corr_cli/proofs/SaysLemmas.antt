-- What was read of words and of the text of settings.
use Rattle.std.proofs.Common.{◌≡◌, ◌≤◌, ℕ, Bool, List, take, length, Option, Some, None, refl, sym, ap, ◌∙◌, subst}
use Rattle.std.specs.Prelude.{Result, Ok, Err, IfOk, IfErr, option_and_then}
use Rattle.corr_text.specs.Filling.{Fills}
use Rattle.corr_text.proofs.FillLemmas.{text_held}
use Rattle.corr_words.specs.declared.command.PlainWords.{PlainWords}
use Rattle.corr_words.specs.declared.command.Command.TheVariants.{Plain, Correlate}
use Rattle.corr_words.specs.Forms.{form}
use Rattle.corr_settings.specs.declared.refusal.SetRefusal.{SetRefusal}
use Rattle.corr_settings.specs.Read.{settings}
use Rattle.corr_settings.proofs.CutLemmas.{settings_cut}
use Rattle.corr_cli.specs.declared.said.Telling.{Telling}
use Rattle.corr_cli.specs.declared.said.Telling.TheVariants.{Packets, Summary}
use Rattle.corr_cli.specs.declared.said.Asked.{Asked}
use Rattle.corr_cli.specs.declared.answer.Answer.{Answer}
use Rattle.corr_cli.specs.declared.answer.Answer.TheVariants as answers
use Rattle.corr_cli.specs.Said.{if_over_sources, of_plain}
use Rattle.corr_cli.specs.Says.{IsOfNumbers, IsOfText, IsSaidBy, Says, SaysCause, SaysText}

-- the front of a text that fills the buffer says what the whole text says
pub text_says : (E : Type 0) (told now : Option (List ℕ)) (buf : List ℕ) (n : ℕ) (telling : Telling)
    (r : Result Asked Answer) → n ≤ length buf → length buf ≡ 65537 → Fills {E = E} told now buf (Ok n)
    → SaysText (settings (take n buf)) telling r → (bytes : List ℕ) → told ≡ Some bytes
    → SaysText (settings bytes) telling r
text_says E None now buf n telling r within long h says bytes e = absurd cc
text_says E (Some left) now buf n telling r within long h says bytes e =
    let same : left ≡ bytes = cc in
    let held : take n buf ≡ take 65537 left = text_held left now buf n within h ∙ ap (λ k. take k left) long in
    subst (λ s. SaysText s telling r) (ap settings held ∙ (settings_cut left ∙ ap settings same)) says

-- the words are those of `plain`
pub plain_says : (words : List (List ℕ)) (text : Option (List ℕ)) (p : PlainWords) (r : Result Asked Answer)
    → form words ≡ Some (Plain p) → SaysText (of_plain p) Packets r → IfErr r IsOfNumbers → Says words text r
plain_says words text p (Ok asked) is h of = record {
  said = record { command = Plain p; is_form = ap (option_and_then if_over_sources) is; says = h.0 };
  tells = sym h.1;
}
plain_says words text p (Err (answers.Settings refusal)) is h of =
    record { command = Plain p; is_form = ap (option_and_then if_over_sources) is; says = h }
plain_says words text p (Err answers.Usage) is h of = absurd of
plain_says words text p (Err answers.SettingsFault) is h of = absurd of
plain_says words text p (Err answers.NoMemory) is h of = absurd of
plain_says words text p (Err answers.SinkFault) is h of = absurd of
plain_says words text p (Err (answers.NotBegun a)) is h of = absurd of
plain_says words text p (Err (answers.Sent packets fault)) is h of = absurd of
plain_says words text p (Err (answers.Summed sent reports fault)) is h of = absurd of
plain_says words text p (Err (answers.Simulated packets)) is h of = absurd of

pub plain_cause : (faults : ℕ) (r : Result Asked Answer) → IfErr r IsOfNumbers → SaysCause faults faults r
plain_cause faults (Ok asked) of = refl
plain_cause faults (Err (answers.Settings refusal)) of = refl
plain_cause faults (Err answers.Usage) of = absurd of
plain_cause faults (Err answers.SettingsFault) of = absurd of
plain_cause faults (Err answers.NoMemory) of = absurd of
plain_cause faults (Err answers.SinkFault) of = absurd of
plain_cause faults (Err (answers.NotBegun a)) of = absurd of
plain_cause faults (Err (answers.Sent packets fault)) of = absurd of
plain_cause faults (Err (answers.Summed sent reports fault)) of = absurd of
plain_cause faults (Err (answers.Simulated packets)) of = absurd of

said_ok : (config : List ℕ) (serial : Bool) (text : Option (List ℕ)) (asked : Asked)
    → ((bytes : List ℕ) → text ≡ Some bytes → SaysText (settings bytes) Summary (Ok asked))
    → IsSaidBy (Correlate config serial) text (Ok asked.settings)
said_ok config serial None asked says = tt
said_ok config serial (Some bytes) asked says = (says bytes refl).0

said_err : (config : List ℕ) (serial : Bool) (text : Option (List ℕ)) (refusal : SetRefusal)
    → ((bytes : List ℕ) → text ≡ Some bytes → SaysText (settings bytes) Summary (Err (answers.Settings refusal)))
    → IsSaidBy (Correlate config serial) text (Err refusal)
said_err config serial None refusal says = tt
said_err config serial (Some bytes) refusal says = says bytes refl

-- the words name a text
pub correlate_says : (words : List (List ℕ)) (text : Option (List ℕ)) (config : List ℕ) (serial : Bool)
    (r : Result Asked Answer) → form words ≡ Some (Correlate config serial)
    → ((bytes : List ℕ) → text ≡ Some bytes → SaysText (settings bytes) Summary r) → IfOk r (λ a. a.telling ≡ Summary)
    → IfErr r IsOfText → Says words text r
correlate_says words text config serial (Ok asked) is says tells of = record {
  said = record {
    command = Correlate config serial;
    is_form = ap (option_and_then if_over_sources) is;
    says = said_ok config serial text asked says;
  };
  tells = sym tells;
}
correlate_says words text config serial (Err (answers.Settings refusal)) is says tells of =
    record {
      command = Correlate config serial;
      is_form = ap (option_and_then if_over_sources) is;
      says = said_err config serial text refusal says;
    }
correlate_says words text config serial (Err answers.SettingsFault) is says tells of = rw is refl
correlate_says words text config serial (Err answers.NoMemory) is says tells of =
    record {
      command = Correlate config serial;
      is_form = ap (option_and_then if_over_sources) is;
      accepted = λ p refusal e. absurd cc;
    }
correlate_says words text config serial (Err answers.Usage) is says tells of = absurd of
correlate_says words text config serial (Err answers.SinkFault) is says tells of = absurd of
correlate_says words text config serial (Err (answers.NotBegun a)) is says tells of = absurd of
correlate_says words text config serial (Err (answers.Sent packets fault)) is says tells of = absurd of
correlate_says words text config serial (Err (answers.Summed sent reports fault)) is says tells of = absurd of
correlate_says words text config serial (Err (answers.Simulated packets)) is says tells of = absurd of

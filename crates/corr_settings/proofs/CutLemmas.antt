-- A text that is longer than a settings text may be is refused by its front alone.
use Rattle.std.proofs.Common.{◌≡◌, ◌<◌, ◌≤◌, ◌⊎◌, ℕ, List, length, take, cond, true, Err, inl, inr, ap, sym, ◌∙◌, arith}
use Rattle.std.specs.Prelude.{nat_lt}
use Rattle.std.proofs.lemmas.Bool.Decides.{nat_tests}
use Rattle.std.proofs.lemmas.List.{take_all, length-take-le}
use Rattle.corr_settings.specs.declared.refusal.SetRefusal.TheVariants.{TooLong}
use Rattle.corr_settings.specs.Read.{document, of_table, settings}

is_long : (n : ℕ) → 65536 < n → nat_lt 65536 n ≡ true
is_long n h = grind (arith, nat_tests)

short_or_long : (n : ℕ) → (n ≤ 65537) ⊎ (65537 < n)
short_or_long n = grind arith

-- a text that is too long
long_refused : (bytes : List ℕ) → 65536 < length bytes → settings bytes ≡ Err TooLong
long_refused bytes h = ap (λ b. cond b (Err TooLong) (of_table (document bytes))) (is_long (length bytes) h)

-- the first 65,537 bytes of a text say what the whole text says
pub settings_cut : (bytes : List ℕ) → settings (take 65537 bytes) ≡ settings bytes
settings_cut bytes =
    elim (short_or_long (length bytes)) [
      | inl short ↦ ap settings (take_all 65537 bytes short)
      | inr long ↦
          let cut : length (take 65537 bytes) ≡ 65537 = length-take-le 65537 bytes (omega (arith, long)) in
          long_refused (take 65537 bytes) (omega (arith, cut)) ∙ sym (long_refused bytes (omega (arith, long)))
    ]

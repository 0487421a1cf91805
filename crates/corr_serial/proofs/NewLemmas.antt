-- Room for reports, while it is made.
use Rattle.std.proofs.Common.{◌≡◌, ◌≤◌, ◌+◌, ℕ, List, [], ◌∷◌, ◌++◌, length, sym, ◌∙◌, ap, arith}
use Rattle.std.proofs.lemmas.List.{length_push}
use Rattle.stream_feed.specs.declared.report.StreamReport.{StreamReport}

-- so many reports are there
pub record ReportsTo (most : ℕ) (reports : List StreamReport) (len room n : ℕ) : Type 0 where
  pub counted : len ≡ n
  pub many : length reports ≡ n
  pub fits_in : most ≤ room

pub reports_none : (most : ℕ) (reports : List StreamReport) (len room : ℕ) → reports ≡ [] → len ≡ 0 → most ≤ room
    → ReportsTo most reports len room 0
reports_none most reports len room none zero fits = record { counted = zero; many = ap length none; fits_in = fits }

pub reports_more : (most : ℕ) (reports after : List StreamReport) (r : StreamReport) (len later room now n : ℕ)
    → ReportsTo most reports len room n → after ≡ reports ++ r ∷ [] → later ≡ len + 1 → now ≡ room
    → ReportsTo most after later now (n + 1)
reports_more most reports after r len later room now n i e el er = record {
  counted = let c = i.counted in omega arith;
  many = ap length e ∙ length_push reports r ∙ ap (λ k. k + 1) i.many;
  fits_in = let c = i.fits_in in omega arith;
}

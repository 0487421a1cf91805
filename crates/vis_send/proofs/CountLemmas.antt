-- What is counted of strings: their number, their bytes, and the mark over all bytes.
use Rattle.std.proofs.Common.{◌≡◌, ℕ, ◌+◌, ◌-◌, ◌^◌, ◌≤◌, min, List, [], ◌∷◌, ◌++◌, length, fold, flat_map, refl, sym, ap, ◌∙◌, arith}
use Rattle.std.proofs.lemmas.List.Sums.{fold-append}
use Rattle.std.specs.Prelude.{sum_by}
use Rattle.std.proofs.lemmas.List.Sums.{sum_by-cons}
use Rattle.vis_send.specs.declared.tally.Sent.{Sent}
use Rattle.vis_send.specs.Marks.{marked, counted, nothing, one_more, more, sent_of}

-- a count that goes on twice goes on by both at once: numbers stay at the end of 64 bits
counted_counted : (count x y : ℕ) → counted (counted count x) y ≡ counted count (x + y)
counted_counted count x y = omega arith

packets_of : (sent : Sent) (strings : List (List ℕ)) → sent.packets ≤ 2 ^ 64 - 1
    → (more sent strings).packets ≡ counted sent.packets (length strings)
packets_of sent [] fits = omega arith
packets_of sent (s ∷ ss) fits =
    packets_of (one_more sent s) ss (omega arith) ∙ counted_counted sent.packets 1 (length ss) ∙ ap
    (counted sent.packets) (omega arith)

bytes_of : (sent : Sent) (strings : List (List ℕ)) → sent.bytes ≤ 2 ^ 64 - 1
    → (more sent strings).bytes ≡ counted sent.bytes (sum_by length strings)
bytes_of sent [] fits = omega arith
bytes_of sent (s ∷ ss) fits =
    bytes_of (one_more sent s) ss (omega arith) ∙ counted_counted sent.bytes (length s) (sum_by length ss) ∙ ap
    (counted sent.bytes) (sym (sum_by-cons length s ss))

mark_of : (sent : Sent) (strings : List (List ℕ))
    → (more sent strings).mark ≡ fold marked sent.mark (flat_map (λ string. string) strings)
mark_of sent [] = refl
mark_of sent (s ∷ ss) =
    mark_of (one_more sent s) ss ∙ sym (fold-append marked sent.mark s (flat_map (λ string. string) ss))

-- the same of strings alone
pub packets_sent : (strings : List (List ℕ)) → (sent_of strings).packets ≡ min (length strings) (2 ^ 64 - 1)
packets_sent strings =
    let whole : (sent_of strings).packets ≡ counted 0 (length strings) = packets_of nothing strings (omega arith) in
    omega (arith, whole)

pub bytes_sent : (strings : List (List ℕ)) → (sent_of strings).bytes ≡ min (sum_by length strings) (2 ^ 64 - 1)
bytes_sent strings =
    let whole : (sent_of strings).bytes ≡ counted 0 (sum_by length strings) = bytes_of nothing strings (omega arith) in
    omega (arith, whole)

pub mark_sent : (strings : List (List ℕ)) → (sent_of strings).mark ≡ fold marked 0 (flat_map (λ string. string) strings)
mark_sent strings = mark_of nothing strings

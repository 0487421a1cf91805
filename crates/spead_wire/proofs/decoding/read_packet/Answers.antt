use Rattle.std.proofs.Common.{◌≡◌, ◌≤◌, ◌+◌, sym, subst, arith, length, Option, Some, None, IfSome, ℕ, refl, rules}
use Rattle.spead_wire.proofs.WireLemmas.{said-small, last_value-small, All-own, few_own, IsSmall}
use Rattle.spead_wire.proofs.decoding.read_packet.Goals as goal

pub overflow_add-end : goal.overflow_add-end
overflow_add-end c =
    let offset = said-small 3 c.args.words _ _ _ c.in_ok-offset.offset c.requires.widths
    c.special-special.ensures.offset c.ok_or-2.ensures.value c.in_ok-offset.was in
    let claimed = said-small 4 c.args.words _ _ _ c.in_ok-claimed.claimed c.requires.widths
    c.special-special.ensures.payload_len c.ok_or-3.ensures.value c.in_ok-claimed.was in
    omega arith

within_size : (size : Option ℕ) (end : ℕ) → ((s : ℕ) → size ≡ Some s → end ≤ s) → IfSome size (λ s. end ≤ s)
within_size None end h = tt
within_size (Some s) end h = h s refl

pub invariant_of-result : goal.invariant_of-result
invariant_of-result c =
    let claimed = said-small 4 c.args.words _ _ _ c.in_ok-claimed.claimed c.requires.widths
    c.special-special.ensures.payload_len c.ok_or-3.ensures.value c.in_ok-claimed.was in
    let own = few_own c.args.words in
    let few = c.requires.few in
    record {
      counter = said-small 1 c.args.words _ _ _ c.in_ok-counter.counter c.requires.widths
          c.special-special.ensures.counter c.ok_or.ensures.value c.in_ok-counter.was;
      size = subst IsSmall (sym c.special-special.ensures.size) (last_value-small 2 c.args.words c.requires.widths);
      offset = said-small 3 c.args.words _ _ _ c.in_ok-offset.offset c.requires.widths c.special-special.ensures.offset
          c.ok_or-2.ensures.value c.in_ok-offset.was;
      few = omega arith;
      pointers = All-own c.args.words c.requires.widths;
      payload = omega arith;
      within = within_size c.special-special.result.size (c.in_ok-offset.offset + length c.args.payload.now)
          (search rules);
    }

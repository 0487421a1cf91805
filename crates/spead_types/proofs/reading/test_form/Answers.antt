use Rattle.std.proofs.Common.{◌≡◌, ◌∙◌, sym, length, nat_le, ◌&&◌, rules, tests}
use Rattle.std.specs.List.{list_all}
use Rattle.std.proofs.lemmas.Iterator.Consumers.{YieldsList-from_first}
use Rattle.std.proofs.lemmas.Iterator.Search.{all_from_yields_List}
use Rattle.corr_model.specs.Descriptors.{types_of, is_letter}
use Rattle.spead_types.proofs.EntryLemmas.{lengths_pass, letter_fails, width_fails, shape_many, types_many, none_late}
use Rattle.spead_types.proofs.reading.test_form.Goals as goal
use Rattle.spead_types.proofs.reading.test_form.Goals.{then-shape-gt56-via-then-shape-gt56, then-shape-gt56-via-else-shape-gt56+then-types-gt24}

pub returns-then-not-all-clause-found : goal.returns-then-not-all-clause-found
returns-then-not-all-clause-found c =
    let letters : c.all.result ≡ list_all (λ t. is_letter t.letter) (types_of c.args.types.now)
    = all_from_yields_List (λ t. is_letter t.letter) _ _ c.all.result c.all.ensures.ran
    (YieldsList-from_first (λ x. x) (λ s. s) (types_of c.args.types.now) c.new.ensures)
    (λ x b q k. search (rules, tests)) in
    lengths_pass c.args.id c.unwrap_or-id.result (length c.args.shape.now) (length c.args.types.now) c.is_empty.result
    (types_of c.args.types.now) c.unwrap_or-id.ensures c.if-id-lt-LEAST_ID.false c.if-id-gt-MOST_ID.false
    c.if-shape-ne0.false c.if-types-ne0.false c.is_empty.ensures c.if-is_empty.false
    ∙ letter_fails (length c.args.shape.now) (length c.args.types.now) (types_of c.args.types.now)
    (sym letters ∙ c.if-not-all.true)

pub returns-then-not-all-2-clause-found : goal.returns-then-not-all-2-clause-found
returns-then-not-all-2-clause-found c =
    let letters : c.all.result ≡ list_all (λ t. is_letter t.letter) (types_of c.args.types.now)
    = all_from_yields_List (λ t. is_letter t.letter) _ _ c.all.result c.all.ensures.ran
    (YieldsList-from_first (λ x. x) (λ s. s) (types_of c.args.types.now) c.new.ensures)
    (λ x b q k. search (rules, tests)) in
    let widths : c.all-2.result ≡ list_all (λ t. nat_le 1 t.bits && nat_le t.bits 64) (types_of c.args.types.now)
    = all_from_yields_List (λ t. nat_le 1 t.bits && nat_le t.bits 64) _ _ c.all-2.result c.all-2.ensures.ran
    (YieldsList-from_first (λ x. x) (λ s. s) (types_of c.args.types.now) c.new-2.ensures)
    (λ x b q k. search (rules, tests)) in
    lengths_pass c.args.id c.unwrap_or-id.result (length c.args.shape.now) (length c.args.types.now) c.is_empty.result
    (types_of c.args.types.now) c.unwrap_or-id.ensures c.if-id-lt-LEAST_ID.false c.if-id-gt-MOST_ID.false
    c.if-shape-ne0.false c.if-types-ne0.false c.is_empty.ensures c.if-is_empty.false
    ∙ width_fails (length c.args.shape.now) (length c.args.types.now) (types_of c.args.types.now)
    (sym letters ∙ c.if-not-all.false) (sym widths ∙ c.if-not-all-2.true)

pub returns-then-shape-gt56-clause-found : goal.returns-then-shape-gt56-clause-found
returns-then-shape-gt56-clause-found c =
    let letters : c.all.result ≡ list_all (λ t. is_letter t.letter) (types_of c.args.types.now)
    = all_from_yields_List (λ t. is_letter t.letter) _ _ c.all.result c.all.ensures.ran
    (YieldsList-from_first (λ x. x) (λ s. s) (types_of c.args.types.now) c.new.ensures)
    (λ x b q k. search (rules, tests)) in
    let widths : c.all-2.result ≡ list_all (λ t. nat_le 1 t.bits && nat_le t.bits 64) (types_of c.args.types.now)
    = all_from_yields_List (λ t. nat_le 1 t.bits && nat_le t.bits 64) _ _ c.all-2.result c.all-2.ensures.ran
    (YieldsList-from_first (λ x. x) (λ s. s) (types_of c.args.types.now) c.new-2.ensures)
    (λ x b q k. search (rules, tests)) in
    lengths_pass c.args.id c.unwrap_or-id.result (length c.args.shape.now) (length c.args.types.now) c.is_empty.result
    (types_of c.args.types.now) c.unwrap_or-id.ensures c.if-id-lt-LEAST_ID.false c.if-id-gt-MOST_ID.false
    c.if-shape-ne0.false c.if-types-ne0.false c.is_empty.ensures c.if-is_empty.false
    ∙ elim c.then-shape-gt56.branch [
      | then-shape-gt56-via-then-shape-gt56 w ↦ shape_many (length c.args.shape.now) (length c.args.types.now)
          (types_of c.args.types.now) (sym letters ∙ c.if-not-all.false) (sym widths ∙ c.if-not-all-2.false)
          w.if-shape-gt56.true
      | then-shape-gt56-via-else-shape-gt56+then-types-gt24 w ↦ types_many (length c.args.shape.now)
          (length c.args.types.now) (types_of c.args.types.now) (sym letters ∙ c.if-not-all.false)
          (sym widths ∙ c.if-not-all-2.false) w.if-types-gt24.true
    ]

pub returns-clause-found : goal.returns-clause-found
returns-clause-found c =
    let letters : c.all.result ≡ list_all (λ t. is_letter t.letter) (types_of c.args.types.now)
    = all_from_yields_List (λ t. is_letter t.letter) _ _ c.all.result c.all.ensures.ran
    (YieldsList-from_first (λ x. x) (λ s. s) (types_of c.args.types.now) c.new.ensures)
    (λ x b q k. search (rules, tests)) in
    let widths : c.all-2.result ≡ list_all (λ t. nat_le 1 t.bits && nat_le t.bits 64) (types_of c.args.types.now)
    = all_from_yields_List (λ t. nat_le 1 t.bits && nat_le t.bits 64) _ _ c.all-2.result c.all-2.ensures.ran
    (YieldsList-from_first (λ x. x) (λ s. s) (types_of c.args.types.now) c.new-2.ensures)
    (λ x b q k. search (rules, tests)) in
    lengths_pass c.args.id c.unwrap_or-id.result (length c.args.shape.now) (length c.args.types.now) c.is_empty.result
    (types_of c.args.types.now) c.unwrap_or-id.ensures c.if-id-lt-LEAST_ID.false c.if-id-gt-MOST_ID.false
    c.if-shape-ne0.false c.if-types-ne0.false c.is_empty.ensures c.if-is_empty.false
    ∙ none_late (length c.args.shape.now) (length c.args.types.now) (types_of c.args.types.now)
    (sym letters ∙ c.if-not-all.false) (sym widths ∙ c.if-not-all-2.false) c.if-shape-gt56.false
    c.if-types-gt24.false

use Rattle.std.proofs.Common.{◌≡◌, ◌<◌, if◌then◌else◌, length, take, Some, None, sym, ap, subst, ◌∙◌, arith}
use Rattle.std.specs.List.{position}
use Rattle.corr_model.specs.Descriptors.{DescribedItem}
use Rattle.std.proofs.lemmas.List.{length-take}
use Rattle.item_group.specs.declared.applied.Taken.TheVariants.{Changed, Full}
use Rattle.item_group.proofs.TableLemmas.{has_id, holds_replaced, holds_pushed, holds_full, room_replaced, full_where_new}
use Rattle.item_group.proofs.table.Table.put.Goals as goal

pub returns-in-Some-clause-holds : goal.returns-in-Some-clause-holds
returns-in-Some-clause-holds c = λ ds h.
    let place = c.in-Some.place in
    let same = ap (λ (d : DescribedItem). d.id) c.descriptor.view_is in
    let found : position (has_id c.descriptor.inside.id) c.args.self.now ≡ Some place =
    sym c.place.ensures ∙ c.in-Some.is in
    holds_replaced c.self.inside.entries c.args.self.now ds c.args.descriptor c.self.inside.len place c.self.view_is
    (subst (λ id. position (has_id id) c.args.self.now ≡ Some place) same found) h

pub returns-in-Some-clause-taken : goal.returns-in-Some-clause-taken
returns-in-Some-clause-taken c =
    let place = c.in-Some.place in
    let same = ap (λ (d : DescribedItem). d.id) c.descriptor.view_is in
    let found : position (has_id c.descriptor.inside.id) c.args.self.now ≡ Some place =
    sym c.place.ensures ∙ c.in-Some.is in
    let room = room_replaced c.args.self.now c.args.descriptor.id place
    (subst (λ id. position (has_id id) c.args.self.now ≡ Some place) same found) in
    ap (λ b. if b then Full else Changed) (sym room)

pub returns-in-None-clause-holds : goal.returns-in-None-clause-holds
returns-in-None-clause-holds c = λ ds h.
    let fields = c.self.inside in
    let same = ap (λ (d : DescribedItem). d.id) c.descriptor.view_is in
    let found : position (has_id c.descriptor.inside.id) c.args.self.now ≡ None = sym c.place.ensures ∙ c.in-None.is in
    let size : length (take fields.len fields.entries) ≡ length c.args.self.now = ap length c.self.view_is in
    let full = full_where_new c.args.self.now c.args.descriptor.id
    (omega (arith, length-take fields.len fields.entries))
    (subst (λ id. position (has_id id) c.args.self.now ≡ None) same found) in
    holds_full c.args.self.now ds c.args.descriptor full h

pub returns-in-None-clause-taken : goal.returns-in-None-clause-taken
returns-in-None-clause-taken c =
    let fields = c.self.inside in
    let same = ap (λ (d : DescribedItem). d.id) c.descriptor.view_is in
    let found : position (has_id c.descriptor.inside.id) c.args.self.now ≡ None = sym c.place.ensures ∙ c.in-None.is in
    let size : length (take fields.len fields.entries) ≡ length c.args.self.now = ap length c.self.view_is in
    let full = full_where_new c.args.self.now c.args.descriptor.id
    (omega (arith, length-take fields.len fields.entries))
    (subst (λ id. position (has_id id) c.args.self.now ≡ None) same found) in
    ap (λ b. if b then Full else Changed) (sym full)

pub returns-in-None-2-clause-holds : goal.returns-in-None-2-clause-holds
returns-in-None-2-clause-holds c = λ ds h.
    let fields = c.self.inside in
    let same = ap (λ (d : DescribedItem). d.id) c.descriptor.view_is in
    let found : position (has_id c.descriptor.inside.id) c.args.self.now ≡ None = sym c.place.ensures ∙ c.in-None.is in
    let room : fields.len < 64 = omega arith in
    holds_pushed fields.entries c.args.self.now ds c.args.descriptor fields.len c.self.view_is room (omega arith)
    (subst (λ id. position (has_id id) c.args.self.now ≡ None) same found) h

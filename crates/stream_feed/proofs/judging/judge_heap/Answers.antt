use Rattle.std.proofs.Common.{refl, ap, rules}
use Rattle.std.specs.Prelude.{option_map, unwrap_or, []}
use Rattle.item_group.specs.Looking.{said}
use Rattle.stream_rules.specs.declared.judged.Judged.TheVariants as answers
use Rattle.stream_feed.proofs.AnswerLemmas.{judges_quiet, judges_beyond, judges_late, judges_at, keeps_placed}
use Rattle.stream_feed.proofs.judging.judge_heap.Goals as goal

pub returns-in-Stop-clause-judges : goal.returns-in-Stop-clause-judges
returns-in-Stop-clause-judges c = λ js heap is none_due unreached a.
    judges_quiet c.args.marks.now c.args.columns.now js heap c.args.stop _ _ _ _ c.plan.ensures.value c.antenna.ensures
    c.place_of.ensures is a answers.Stop c.in-Stop.ensures.verdict refl

pub returns-in-Undescribed-clause-judges : goal.returns-in-Undescribed-clause-judges
returns-in-Undescribed-clause-judges c = λ js heap is none_due unreached a.
    judges_quiet c.args.marks.now c.args.columns.now js heap c.args.stop _ _ _ _ c.plan.ensures.value c.antenna.ensures
    c.place_of.ensures is a answers.Undescribed c.in-Undescribed.ensures.verdict refl

pub returns-in-Foreign-clause-judges : goal.returns-in-Foreign-clause-judges
returns-in-Foreign-clause-judges c = λ js heap is none_due unreached a.
    judges_quiet c.args.marks.now c.args.columns.now js heap c.args.stop _ _ _ _ c.plan.ensures.value c.antenna.ensures
    c.place_of.ensures is a (answers.Foreign c.in-Foreign.antenna) c.in-Foreign.ensures.verdict refl

pub returns-in-BeforeStart-clause-judges : goal.returns-in-BeforeStart-clause-judges
returns-in-BeforeStart-clause-judges c = λ js heap is none_due unreached a.
    judges_quiet c.args.marks.now c.args.columns.now js heap c.args.stop _ _ _ _ c.plan.ensures.value c.antenna.ensures
    c.place_of.ensures is a answers.BeforeStart c.in-BeforeStart.ensures.verdict refl

pub returns-in-OffGrid-clause-judges : goal.returns-in-OffGrid-clause-judges
returns-in-OffGrid-clause-judges c = λ js heap is none_due unreached a.
    judges_quiet c.args.marks.now c.args.columns.now js heap c.args.stop _ _ _ _ c.plan.ensures.value c.antenna.ensures
    c.place_of.ensures is a answers.OffGrid c.in-OffGrid.ensures.verdict refl

pub returns-in-Wild-clause-judges : goal.returns-in-Wild-clause-judges
returns-in-Wild-clause-judges c = λ js heap is none_due unreached a.
    judges_quiet c.args.marks.now c.args.columns.now js heap c.args.stop _ _ _ _ c.plan.ensures.value c.antenna.ensures
    c.place_of.ensures is a answers.Wild c.in-Wild.ensures.verdict refl

pub returns-in-Beyond-clause-judges : goal.returns-in-Beyond-clause-judges
returns-in-Beyond-clause-judges c = λ js heap is none_due unreached a.
    judges_beyond c.args.marks.now c.args.columns.now js heap c.args.stop _ _ _ _ c.plan.ensures.value c.antenna.ensures
    c.place_of.ensures is a c.in-Beyond.n _
    c.in-Beyond.ensures.verdict c.in-Beyond.ensures.place c.raise.ensures

pub returns-in-Late-clause-judges : goal.returns-in-Late-clause-judges
returns-in-Late-clause-judges c = λ js heap is none_due unreached a.
    judges_late c.args.marks.now c.args.columns.now js heap c.args.stop _ _ _ _ c.plan.ensures.value c.antenna.ensures
    c.place_of.ensures is a
    c.in-Late.ensures.verdict c.in-Late.ensures.place

pub returns-in-Some-clause-judges : goal.returns-in-Some-clause-judges
returns-in-Some-clause-judges c = λ js heap is none_due unreached a.
    judges_at c.args.marks.now c.args.columns.now js heap c.args.stop _ _ _ _ c.plan.ensures.value c.antenna.ensures
    c.place_of.ensures is a c.in-At.n c.in-At.t c.in-Some.sight.samples.now _ _ _
    c.in-At.ensures.verdict c.in-At.ensures.place
    (ap (λ o. unwrap_or (option_map (λ s. s.samples) (option_map said o)) []) c.in-Some.is) (search rules)
    c.plan.ensures.as_many c.plan.ensures.some none_due unreached c.place_heap.ensures.places

pub returns-in-Some-clause-keeps : goal.returns-in-Some-clause-keeps
returns-in-Some-clause-keeps c = keeps_placed _ _ _ _ _ _ _ _ (search rules) c.place_heap.ensures.places

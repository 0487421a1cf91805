use Rattle.std.proofs.Common.{true, map, string_bytes, ap, sym, subst, ◌∙◌}
use Rattle.corr_words.specs.Forms.{Reads, sound_form}
use Rattle.corr_words.proofs.FlagLemmas.{flagged_rest, two_slices, unflagged}
use Rattle.corr_words.proofs.reading.read_rest.Goals as goal

pub returns-in-Some-clause-form : goal.returns-in-Some-clause-form
returns-in-Some-clause-form c =
    let words = map string_bytes c.args.rest.now in
    let said = flagged_rest c.args.command.now words c.in-Some.place c.in-Some.ensures.some.0
    c.in-Some.ensures.some.1 in
    let same = c.new.ensures ∙ two_slices string_bytes c.args.rest.now _ _ _ c.in-Some.place c.split_at.ensures.front
    c.split_at.ensures.back c.split_at-in-Some.ensures.back in
    subst (λ o. Reads o c.read_sound.result) (sym (said ∙ ap (sound_form c.args.command.now true) (sym same)))
    c.read_sound.ensures.form

pub returns-in-None-clause-form : goal.returns-in-None-clause-form
returns-in-None-clause-form c =
    subst (λ o. Reads o c.read_sound-in-None.result)
    (sym (unflagged c.args.command.now (map string_bytes c.args.rest.now) _ c.in-None.ensures.none
    c.new-in-None.ensures)) c.read_sound-in-None.ensures.form

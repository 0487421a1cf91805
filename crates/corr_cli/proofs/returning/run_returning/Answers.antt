use Rattle.std.proofs.Common.{◌<◌, length, map, refl, sym, ap, ◌∙◌, arith, inl, inr}
use Rattle.std.specs.Prelude.{string_bytes}
use Rattle.corr_cli.proofs.RunLemmas.{some_of}
use Rattle.corr_cli.proofs.CauseLemmas.{told_code, done_code, usage_exactly, refused_as, refused_code, what_sent, front_sent, source_failed, runs_whole_told}
use Rattle.corr_cli.proofs.FormLemmas.{other_usage, reads_none, unread_words}
use Rattle.corr_cli.proofs.SimulatedRunLemmas as simulated
use Rattle.corr_cli.proofs.ToolRunLemmas.{faults_same, no_refusal, no_run, no_text_read, tool_says, untouched}
use Rattle.corr_cli.proofs.returning.run_returning.Goals as goal

pub returns-clause-usage : goal.returns-clause-usage
returns-clause-usage g c =
    let some : 0 < length c.args.sources.now = omega (arith, c.requires.sources) in
    let d = some_of c.args.sources.now some in
    other_usage (map string_bytes c.args.words.now) _ (sym c.if-names_tool.ensures) (sym c.if-names_simulated.ensures)
    (usage_exactly (map string_bytes c.args.words.now) _ _ _ d c.answer.result c.answer.ensures.comes
    (told_code _ _ _ _ c.answer.result _ c.tell.ensures))

pub returns-clause-settings : goal.returns-clause-settings
returns-clause-settings g c =
    λ two.
    let some : 0 < length c.args.sources.now = omega (arith, c.requires.sources) in
    let d = some_of c.args.sources.now some in
    inl (refused_as (map string_bytes c.args.words.now) _ _ _ d c.answer.result c.answer.ensures.comes
    (told_code _ _ _ _ c.answer.result _ c.tell.ensures) two)

pub returns-clause-refused : goal.returns-clause-refused
returns-clause-refused g c =
    λ are.
    let some : 0 < length c.args.sources.now = omega (arith, c.requires.sources) in
    let d = some_of c.args.sources.now some in
    refused_code (map string_bytes c.args.words.now) _ _ _ d c.answer.result c.answer.ensures.comes
    (told_code _ _ _ _ c.answer.result _ c.tell.ensures) are

pub returns-clause-output : goal.returns-clause-output
returns-clause-output g c =
    λ run lists has given whole.
    let some : 0 < length c.args.sources.now = omega (arith, c.requires.sources) in
    let d = some_of c.args.sources.now some in
    (what_sent (map string_bytes c.args.words.now) _ _ _ d c.answer.result c.answer.ensures.comes
    (told_code _ _ _ _ c.answer.result _ c.tell.ensures) run has whole).sent.output lists given

pub returns-clause-taken : goal.returns-clause-taken
returns-clause-taken g c =
    λ run has whole.
    let some : 0 < length c.args.sources.now = omega (arith, c.requires.sources) in
    let d = some_of c.args.sources.now some in
    (what_sent (map string_bytes c.args.words.now) _ _ _ d c.answer.result c.answer.ensures.comes
    (told_code _ _ _ _ c.answer.result _ c.tell.ensures) run has whole).sent.taken

pub returns-clause-front : goal.returns-clause-front
returns-clause-front g c =
    λ run lists has given four.
    let some : 0 < length c.args.sources.now = omega (arith, c.requires.sources) in
    let d = some_of c.args.sources.now some in
    (front_sent (map string_bytes c.args.words.now) _ _ _ d c.answer.result c.answer.ensures.comes
    (told_code _ _ _ _ c.answer.result _ c.tell.ensures) run has four).output lists given

pub returns-clause-source_fault : goal.returns-clause-source_fault
returns-clause-source_fault g c =
    λ run has three.
    let some : 0 < length c.args.sources.now = omega (arith, c.requires.sources) in
    let d = some_of c.args.sources.now some in
    source_failed (map string_bytes c.args.words.now) _ _ _ d c.answer.result c.answer.ensures.comes
    (told_code _ _ _ _ c.answer.result _ c.tell.ensures) run has three

pub returns-clause-whole : goal.returns-clause-whole
returns-clause-whole g c =
    λ run has quiet sink_quiet print_quiet text_quiet.
    let some : 0 < length c.args.sources.now = omega (arith, c.requires.sources) in
    let d = some_of c.args.sources.now some in
    runs_whole_told (map string_bytes c.args.words.now) _ _ _ d c.answer.result c.answer.ensures.comes _ _ _ _
    c.tell.ensures run has quiet sink_quiet print_quiet text_quiet

pub returns-clause-begun_settings : goal.returns-clause-begun_settings
returns-clause-begun_settings g c =
    λ done needs. c.answer.ensures.begun_settings
    (done_code c.answer.result _ (told_code _ _ _ _ c.answer.result _ c.tell.ensures) done) needs

pub returns-then-names_tool-clause-unused : goal.returns-then-names_tool-clause-unused
returns-then-names_tool-clause-unused g c =
    λ run has. no_run (map string_bytes c.args.words.now) (sym c.if-names_tool.ensures) _ run has

pub returns-then-names_tool-clause-output : goal.returns-then-names_tool-clause-output
returns-then-names_tool-clause-output g c =
    λ run lists has given whole. no_run (map string_bytes c.args.words.now) (sym c.if-names_tool.ensures) _ run has

pub returns-then-names_tool-clause-taken : goal.returns-then-names_tool-clause-taken
returns-then-names_tool-clause-taken g c =
    λ run has whole. no_run (map string_bytes c.args.words.now) (sym c.if-names_tool.ensures) _ run has

pub returns-then-names_tool-clause-front : goal.returns-then-names_tool-clause-front
returns-then-names_tool-clause-front g c =
    λ run lists has given four. no_run (map string_bytes c.args.words.now) (sym c.if-names_tool.ensures) _ run has

pub returns-then-names_tool-clause-begun : goal.returns-then-names_tool-clause-begun
returns-then-names_tool-clause-begun g c =
    λ run has done. no_run (map string_bytes c.args.words.now) (sym c.if-names_tool.ensures) _ run has

pub returns-then-names_tool-clause-at_sources : goal.returns-then-names_tool-clause-at_sources
returns-then-names_tool-clause-at_sources g c =
    λ run has. no_run (map string_bytes c.args.words.now) (sym c.if-names_tool.ensures) _ run has

pub returns-then-names_tool-clause-at_sink : goal.returns-then-names_tool-clause-at_sink
returns-then-names_tool-clause-at_sink g c =
    λ run has. no_run (map string_bytes c.args.words.now) (sym c.if-names_tool.ensures) _ run has

pub returns-then-names_tool-clause-source_fault : goal.returns-then-names_tool-clause-source_fault
returns-then-names_tool-clause-source_fault g c =
    λ run has three. no_run (map string_bytes c.args.words.now) (sym c.if-names_tool.ensures) _ run has

pub returns-then-names_tool-clause-whole : goal.returns-then-names_tool-clause-whole
returns-then-names_tool-clause-whole g c =
    λ run has quiet sink_quiet print_quiet text_quiet.
    no_run (map string_bytes c.args.words.now) (sym c.if-names_tool.ensures) _ run has

pub returns-then-names_tool-clause-begun_settings : goal.returns-then-names_tool-clause-begun_settings
returns-then-names_tool-clause-begun_settings g c =
    λ done needs. no_text_read (map string_bytes c.args.words.now) (sym c.if-names_tool.ensures) needs

pub returns-then-names_tool-clause-refused : goal.returns-then-names_tool-clause-refused
returns-then-names_tool-clause-refused g c =
    λ are. no_refusal (map string_bytes c.args.words.now) (sym c.if-names_tool.ensures) _ are

pub returns-then-names_tool-clause-usage : goal.returns-then-names_tool-clause-usage
returns-then-names_tool-clause-usage g c =
    (tool_says _ _ _ _ _ _ _ c.run_tool.ensures.tool).usage

pub returns-then-names_tool-clause-settings : goal.returns-then-names_tool-clause-settings
returns-then-names_tool-clause-settings g c =
    λ two. absurd ((tool_says _ _ _ _ _ _ _ c.run_tool.ensures.tool).not_settings two)

pub returns-then-names_tool-clause-settings_fault : goal.returns-then-names_tool-clause-settings_fault
returns-then-names_tool-clause-settings_fault g c =
    λ eight. absurd ((tool_says _ _ _ _ _ _ _ c.run_tool.ensures.tool).not_text eight)

pub returns-then-names_tool-clause-sink_fault : goal.returns-then-names_tool-clause-sink_fault
returns-then-names_tool-clause-sink_fault g c =
    (tool_says _ _ _ _ _ _ _ c.run_tool.ensures.tool).sink_rose

pub returns-then-names_tool-clause-print_fault : goal.returns-then-names_tool-clause-print_fault
returns-then-names_tool-clause-print_fault g c =
    (tool_says _ _ _ _ _ _ _ c.run_tool.ensures.tool).print_rose

pub returns-then-names_tool-clause-done : goal.returns-then-names_tool-clause-done
returns-then-names_tool-clause-done g c =
    λ none.
    let some : 0 < length c.args.sources.now = omega (arith, c.requires.sources) in
    let calm = (tool_says _ _ _ _ _ _ _ c.run_tool.ensures.tool).calm none in (
      faults_same c.args.sources.now c.index-sources-0.result c.run_tool.new.source some c.index-sources-0.is
          g.S.PacketSource.faults (calm.0 ∙ ap g.S.PacketSource.faults (sym c.index-sources-0.is)),
      calm.1,
      calm.2,
      refl,
    )

pub returns-then-names_tool-clause-no_memory : goal.returns-then-names_tool-clause-no_memory
returns-then-names_tool-clause-no_memory g c =
    λ five.
    let some : 0 < length c.args.sources.now = omega (arith, c.requires.sources) in
    let out = (tool_says _ _ _ _ _ _ _ c.run_tool.ensures.tool).out five in
    record {
      same = untouched c.args.sources.now c.index-sources-0.result c.run_tool.new.source some c.index-sources-0.is
          (out.0 ∙ sym c.index-sources-0.is);
      sink_unbegun = out.1.unbegun;
      nothing = out.1.quiet;
    }

pub returns-clause-settings_source : goal.returns-clause-settings_source
returns-clause-settings_source g c =
    λ unread. c.answer.ensures.settings_source (reads_none (map string_bytes c.args.words.now) unread)

pub returns-clause-simulated_output : goal.returns-clause-simulated_output
returns-clause-simulated_output g c =
    λ command run h done.
    simulated.other_not (map string_bytes c.args.words.now) command (sym c.if-names_tool.ensures)
    (sym c.if-names_simulated.ensures) h.is_form h.is_simulated

pub returns-then-names_tool-clause-simulated_output : goal.returns-then-names_tool-clause-simulated_output
returns-then-names_tool-clause-simulated_output g c =
    λ command run h done.
    simulated.tool_not (map string_bytes c.args.words.now) command (sym c.if-names_tool.ensures) h.is_form
    h.is_simulated

pub returns-clause-simulated_front : goal.returns-clause-simulated_front
returns-clause-simulated_front g c =
    λ command run h four.
    simulated.other_not (map string_bytes c.args.words.now) command (sym c.if-names_tool.ensures)
    (sym c.if-names_simulated.ensures) h.is_form h.is_simulated

pub returns-then-names_tool-clause-simulated_front : goal.returns-then-names_tool-clause-simulated_front
returns-then-names_tool-clause-simulated_front g c =
    λ command run h four.
    simulated.tool_not (map string_bytes c.args.words.now) command (sym c.if-names_tool.ensures) h.is_form
    h.is_simulated

pub returns-clause-simulated_whole : goal.returns-clause-simulated_whole
returns-clause-simulated_whole g c =
    λ command run h sink_quiet print_quiet text_quiet.
    simulated.other_not (map string_bytes c.args.words.now) command (sym c.if-names_tool.ensures)
    (sym c.if-names_simulated.ensures) h.is_form h.is_simulated

pub returns-then-names_tool-clause-simulated_whole : goal.returns-then-names_tool-clause-simulated_whole
returns-then-names_tool-clause-simulated_whole g c =
    λ command run h sink_quiet print_quiet text_quiet.
    simulated.tool_not (map string_bytes c.args.words.now) command (sym c.if-names_tool.ensures) h.is_form
    h.is_simulated

pub returns-clause-simulated_refused : goal.returns-clause-simulated_refused
returns-clause-simulated_refused g c =
    λ h. simulated.other_not (map string_bytes c.args.words.now) h.command (sym c.if-names_tool.ensures)
    (sym c.if-names_simulated.ensures) h.is_form h.is_simulated

pub returns-then-names_tool-clause-simulated_refused : goal.returns-then-names_tool-clause-simulated_refused
returns-then-names_tool-clause-simulated_refused g c =
    λ h. simulated.tool_not (map string_bytes c.args.words.now) h.command (sym c.if-names_tool.ensures) h.is_form
    h.is_simulated

pub returns-then-names_tool-clause-simulated : goal.returns-then-names_tool-clause-simulated
returns-then-names_tool-clause-simulated g c =
    λ named. simulated.tool_simulates_not (map string_bytes c.args.words.now) (sym c.if-names_tool.ensures) named

pub returns-then-names_tool-clause-simulated_sources : goal.returns-then-names_tool-clause-simulated_sources
returns-then-names_tool-clause-simulated_sources g c =
    λ named. simulated.tool_simulates_not (map string_bytes c.args.words.now) (sym c.if-names_tool.ensures) named

pub returns-then-names_simulated-clause-unused : goal.returns-then-names_simulated-clause-unused
returns-then-names_simulated-clause-unused g c =
    λ run has. simulated.no_run (map string_bytes c.args.words.now) (sym c.if-names_simulated.ensures) _ run has

pub returns-then-names_simulated-clause-output : goal.returns-then-names_simulated-clause-output
returns-then-names_simulated-clause-output g c =
    λ run lists has given whole.
    simulated.no_run (map string_bytes c.args.words.now) (sym c.if-names_simulated.ensures) _ run has

pub returns-then-names_simulated-clause-taken : goal.returns-then-names_simulated-clause-taken
returns-then-names_simulated-clause-taken g c =
    λ run has whole. simulated.no_run (map string_bytes c.args.words.now) (sym c.if-names_simulated.ensures) _ run has

pub returns-then-names_simulated-clause-front : goal.returns-then-names_simulated-clause-front
returns-then-names_simulated-clause-front g c =
    λ run lists has given four.
    simulated.no_run (map string_bytes c.args.words.now) (sym c.if-names_simulated.ensures) _ run has

pub returns-then-names_simulated-clause-begun : goal.returns-then-names_simulated-clause-begun
returns-then-names_simulated-clause-begun g c =
    λ run has done. simulated.no_run (map string_bytes c.args.words.now) (sym c.if-names_simulated.ensures) _ run has

pub returns-then-names_simulated-clause-at_sources : goal.returns-then-names_simulated-clause-at_sources
returns-then-names_simulated-clause-at_sources g c =
    λ run has. simulated.no_run (map string_bytes c.args.words.now) (sym c.if-names_simulated.ensures) _ run has

pub returns-then-names_simulated-clause-at_sink : goal.returns-then-names_simulated-clause-at_sink
returns-then-names_simulated-clause-at_sink g c =
    λ run has. simulated.no_run (map string_bytes c.args.words.now) (sym c.if-names_simulated.ensures) _ run has

pub returns-then-names_simulated-clause-source_fault : goal.returns-then-names_simulated-clause-source_fault
returns-then-names_simulated-clause-source_fault g c =
    λ run has three. simulated.no_run (map string_bytes c.args.words.now) (sym c.if-names_simulated.ensures) _ run has

pub returns-then-names_simulated-clause-whole : goal.returns-then-names_simulated-clause-whole
returns-then-names_simulated-clause-whole g c =
    λ run has quiet sink_quiet print_quiet text_quiet.
    simulated.no_run (map string_bytes c.args.words.now) (sym c.if-names_simulated.ensures) _ run has

pub returns-then-names_simulated-clause-at_settings : goal.returns-then-names_simulated-clause-at_settings
returns-then-names_simulated-clause-at_settings g c =
    λ config serial is. simulated.no_correlate (map string_bytes c.args.words.now) (sym c.if-names_simulated.ensures)
    config serial is

pub returns-then-names_simulated-clause-begun_settings : goal.returns-then-names_simulated-clause-begun_settings
returns-then-names_simulated-clause-begun_settings g c =
    λ done needs. simulated.no_text_read (map string_bytes c.args.words.now) (sym c.if-names_simulated.ensures) needs

pub returns-then-names_simulated-clause-refused : goal.returns-then-names_simulated-clause-refused
returns-then-names_simulated-clause-refused g c =
    λ are. simulated.no_refusal (map string_bytes c.args.words.now) (sym c.if-names_simulated.ensures) _ are

pub returns-then-names_simulated-clause-settings_source : goal.returns-then-names_simulated-clause-settings_source
returns-then-names_simulated-clause-settings_source g c =
    λ unread. c.run_simulated.ensures.unread
    (unread_words (map string_bytes c.args.words.now) (sym c.if-names_simulated.ensures) unread)

pub returns-then-names_simulated-clause-usage : goal.returns-then-names_simulated-clause-usage
returns-then-names_simulated-clause-usage g c =
    simulated.simulated_usage _ (map string_bytes c.args.words.now) _ _ _ _ c.run_simulated.ensures.ran

pub returns-then-names_simulated-clause-settings : goal.returns-then-names_simulated-clause-settings
returns-then-names_simulated-clause-settings g c =
    λ two. inr (simulated.simulated_settings _ (map string_bytes c.args.words.now) _ _ _ _ c.run_simulated.ensures.ran
    (sym c.if-names_simulated.ensures) two)

pub returns-then-names_simulated-clause-settings_fault : goal.returns-then-names_simulated-clause-settings_fault
returns-then-names_simulated-clause-settings_fault g c =
    simulated.simulated_text _ (map string_bytes c.args.words.now) _ _ _ _ c.run_simulated.ensures.ran

pub returns-then-names_simulated-clause-sink_fault : goal.returns-then-names_simulated-clause-sink_fault
returns-then-names_simulated-clause-sink_fault g c =
    simulated.simulated_sink _ (map string_bytes c.args.words.now) _ _ _ _ c.run_simulated.ensures.ran

pub returns-then-names_simulated-clause-print_fault : goal.returns-then-names_simulated-clause-print_fault
returns-then-names_simulated-clause-print_fault g c =
    simulated.simulated_print _ (map string_bytes c.args.words.now) _ _ _ _ c.run_simulated.ensures.ran

pub returns-then-names_simulated-clause-done : goal.returns-then-names_simulated-clause-done
returns-then-names_simulated-clause-done g c =
    λ none. let calm = simulated.simulated_done _ (map string_bytes c.args.words.now) _ _ _ _
    c.run_simulated.ensures.ran none in (record { each = λ a d. refl }, calm.0, calm.1, calm.2)

pub returns-then-names_simulated-clause-no_memory : goal.returns-then-names_simulated-clause-no_memory
returns-then-names_simulated-clause-no_memory g c =
    λ five. let unused =
    simulated.simulated_out _ (map string_bytes c.args.words.now) _ _ _ _ c.run_simulated.ensures.ran five in
    record { same = refl; sink_unbegun = unused.unbegun; nothing = unused.quiet }

pub returns-then-names_simulated-clause-simulated_output : goal.returns-then-names_simulated-clause-simulated_output
returns-then-names_simulated-clause-simulated_output g c =
    simulated.simulated_sent _ (map string_bytes c.args.words.now) _ _ _ _ c.run_simulated.ensures.ran refl

pub returns-then-names_simulated-clause-simulated_front : goal.returns-then-names_simulated-clause-simulated_front
returns-then-names_simulated-clause-simulated_front g c =
    simulated.simulated_front _ (map string_bytes c.args.words.now) _ _ _ _ c.run_simulated.ensures.ran refl

pub returns-then-names_simulated-clause-simulated_refused : goal.returns-then-names_simulated-clause-simulated_refused
returns-then-names_simulated-clause-simulated_refused g c =
    simulated.simulated_refused _ (map string_bytes c.args.words.now) _ _ _ _ c.run_simulated.ensures.ran

pub returns-then-names_simulated-clause-simulated_whole : goal.returns-then-names_simulated-clause-simulated_whole
returns-then-names_simulated-clause-simulated_whole g c =
    simulated.simulated_whole _ (map string_bytes c.args.words.now) _ _ _ _ c.run_simulated.ensures.ran

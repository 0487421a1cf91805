use Rattle.std.proofs.Common.{◌≡◌, ◌<◌, ◌↔◌, true, false, length, map, string_bytes, refl, sym, ap, ◌∙◌, subst, arith, inl, inr}
use Rattle.std.specs.Prelude.{IsNone}
use Rattle.corr_site.specs.Outside.{Appended}
use Rattle.corr_words.specs.declared.command.Command.TheVariants.{Trial}
use Rattle.corr_words.specs.Forms.{form}
use Rattle.corr_threads.specs.declared.seat.Seat.{Seat}
use Rattle.corr_serial.specs.Runs.{known}
use Rattle.corr_cli.specs.Runs.{AppendsPackets, IsWhole, RanAs}
use Rattle.corr_cli.specs.Simulating.{SimulatedRan}
use Rattle.corr_cli.proofs.RunLemmas.{some_of}
use Rattle.corr_cli.proofs.CauseLemmas.{told_code, done_code, usage_exactly, refused_as, refused_code, what_sent, front_sent, source_failed, runs_whole_told, none_failed_told}
use Rattle.corr_cli.proofs.FormLemmas.{other_usage, reads_none, unread_words}
use Rattle.corr_cli.proofs.SimulatedRunLemmas as simulated
use Rattle.corr_cli.proofs.ThreadLemmas.{asks_other, asks_simulated, never_trial, over_no_trial, trial_known_as, trial_output, known_alone, known_as, known_given, known_taken, named_given, named_lists, named_output, threads_never_simulated, threads_never_tool, threads_no_simulated, threads_no_tool}
use Rattle.corr_cli.proofs.threaded.run.Goals as goal

pub returns-then-asks_threads-clause-usage : goal.returns-then-asks_threads-clause-usage
returns-then-asks_threads-clause-usage g c =
    let some : 0 < length c.args.sources.now = omega (arith, c.requires.sources) in
    let d = some_of c.args.sources.now some in
    other_usage (map string_bytes c.args.words.now) _
    (threads_no_tool (map string_bytes c.args.words.now) (sym c.if-asks_threads.ensures))
    (threads_no_simulated (map string_bytes c.args.words.now) (sym c.if-asks_threads.ensures))
    (usage_exactly (map string_bytes c.args.words.now) _ _ _ d c.answer_in_threads.result
    c.answer_in_threads.ensures.comes (told_code _ _ _ _ c.answer_in_threads.result _ c.tell.ensures))

pub returns-then-asks_threads-clause-settings : goal.returns-then-asks_threads-clause-settings
returns-then-asks_threads-clause-settings g c =
    λ two.
    let some : 0 < length c.args.sources.now = omega (arith, c.requires.sources) in
    let d = some_of c.args.sources.now some in
    inl (refused_as (map string_bytes c.args.words.now) _ _ _ d c.answer_in_threads.result
    c.answer_in_threads.ensures.comes (told_code _ _ _ _ c.answer_in_threads.result _ c.tell.ensures) two)

pub returns-then-asks_threads-clause-refused : goal.returns-then-asks_threads-clause-refused
returns-then-asks_threads-clause-refused g c =
    λ are.
    let some : 0 < length c.args.sources.now = omega (arith, c.requires.sources) in
    let d = some_of c.args.sources.now some in
    refused_code (map string_bytes c.args.words.now) _ _ _ d c.answer_in_threads.result
    c.answer_in_threads.ensures.comes (told_code _ _ _ _ c.answer_in_threads.result _ c.tell.ensures) are

pub returns-then-asks_threads-clause-output : goal.returns-then-asks_threads-clause-output
returns-then-asks_threads-clause-output g c =
    λ is run lists has given whole.
    let names = sym (known_as g.O.Observation.names (map string_bytes c.args.words.now) (sym c.if-asks_threads.ensures))
    ∙ is in
    let some : 0 < length c.args.sources.now = omega (arith, c.requires.sources) in
    let d = some_of c.args.sources.now some in
    (what_sent (map string_bytes c.args.words.now) _ _ _ d c.answer_in_threads.result c.answer_in_threads.ensures.comes
    (told_code _ _ _ _ c.answer_in_threads.result _ c.tell.ensures) run has whole).sent.output lists
    (known_given run.plan (λ s. g.S.PacketSource.gives s.source) (λ s. g.S.PacketSource.given s.source)
    g.O.Observation.names c.args.sources.now lists names given)

pub returns-then-asks_threads-clause-taken : goal.returns-then-asks_threads-clause-taken
returns-then-asks_threads-clause-taken g c =
    λ is run has whole.
    let names = sym (known_as g.O.Observation.names (map string_bytes c.args.words.now) (sym c.if-asks_threads.ensures))
    ∙ is in
    let some : 0 < length c.args.sources.now = omega (arith, c.requires.sources) in
    let d = some_of c.args.sources.now some in
    known_taken run.plan (λ s. g.S.PacketSource.gives s.source) (λ s. g.S.PacketSource.given s.source)
    g.O.Observation.names c.args.sources.now c.answer_in_threads.new.sources names
    ((what_sent (map string_bytes c.args.words.now) _ _ _ d c.answer_in_threads.result
    c.answer_in_threads.ensures.comes (told_code _ _ _ _ c.answer_in_threads.result _ c.tell.ensures) run
    has whole).sent.taken)

pub returns-then-asks_threads-clause-front : goal.returns-then-asks_threads-clause-front
returns-then-asks_threads-clause-front g c =
    λ is run lists has given four.
    let names = sym (known_as g.O.Observation.names (map string_bytes c.args.words.now) (sym c.if-asks_threads.ensures))
    ∙ is in
    let some : 0 < length c.args.sources.now = omega (arith, c.requires.sources) in
    let d = some_of c.args.sources.now some in
    (front_sent (map string_bytes c.args.words.now) _ _ _ d c.answer_in_threads.result c.answer_in_threads.ensures.comes
    (told_code _ _ _ _ c.answer_in_threads.result _ c.tell.ensures) run has four).output lists
    (known_given run.plan (λ s. g.S.PacketSource.gives s.source) (λ s. g.S.PacketSource.given s.source)
    g.O.Observation.names c.args.sources.now lists names given)

pub returns-then-asks_threads-clause-source_fault : goal.returns-then-asks_threads-clause-source_fault
returns-then-asks_threads-clause-source_fault g c =
    λ run has three.
    let some : 0 < length c.args.sources.now = omega (arith, c.requires.sources) in
    let d = some_of c.args.sources.now some in
    source_failed (map string_bytes c.args.words.now) _ _ _ d c.answer_in_threads.result
    c.answer_in_threads.ensures.comes (told_code _ _ _ _ c.answer_in_threads.result _ c.tell.ensures) run has three

pub returns-then-asks_threads-clause-whole : goal.returns-then-asks_threads-clause-whole
returns-then-asks_threads-clause-whole g c =
    λ run has quiet sink_quiet print_quiet text_quiet.
    let some : 0 < length c.args.sources.now = omega (arith, c.requires.sources) in
    let d = some_of c.args.sources.now some in
    runs_whole_told (map string_bytes c.args.words.now) _ _ _ d c.answer_in_threads.result
    c.answer_in_threads.ensures.comes _ _ _ _ c.tell.ensures run has quiet sink_quiet print_quiet text_quiet

pub returns-then-asks_threads-clause-begun_settings : goal.returns-then-asks_threads-clause-begun_settings
returns-then-asks_threads-clause-begun_settings g c =
    λ done needs. c.answer_in_threads.ensures.begun_settings
    (done_code c.answer_in_threads.result _ (told_code _ _ _ _ c.answer_in_threads.result _ c.tell.ensures) done)
    needs

pub returns-then-asks_threads-clause-theorem : goal.returns-then-asks_threads-clause-theorem
returns-then-asks_threads-clause-theorem g c =
    λ names asks form whole.
    let O = g.O.Observation in
    let S = g.S.PacketSource in
    let T : Type 0 = Seat g.row.O.Denot g.row.S.Denot in
    let some : 0 < length c.args.sources.now = omega (arith, c.requires.sources) in
    let d = some_of c.args.sources.now some in
    let o = c.requires.observed names asks form in
    let lists = named_lists o.run.plan O.list in
    let given = named_given O.plan o.run.plan O.list (λ s. S.gives s.source) (λ s. S.belongs s.source)
    (λ s. S.given s.source) c.args.sources.now
    (λ (s : T) a. (g.met.S.PacketSource g.world.𝓛 g.world.𝓜 g.world.𝓡
    ((λ q k. k), (λ k. k), (λ k. k), λ k. k)).belongs_tells s.source a) o.is in
    let all = subst (λ p. IsWhole c.tell.result.code (λ s. S.begun s.source) p c.answer_in_threads.new.sources)
    (sym o.is.same_plan) whole in
    subst (λ l. Appended (g.K.PacketSink.sent c.args.sink.now) l (g.K.PacketSink.sent c.answer_in_threads.new.sink))
    (named_output O.plan o.run.plan O.list o.is.same_plan)
    ((what_sent (map string_bytes c.args.words.now) _ _ _ d c.answer_in_threads.result c.answer_in_threads.ensures.comes
    (told_code _ _ _ _ c.answer_in_threads.result _ c.tell.ensures) o.run o.has all).sent.output lists
    (known_given o.run.plan (λ s. S.gives s.source) (λ s. S.given s.source) O.names c.args.sources.now
    lists names given))

pub returns-then-asks_threads-clause-theorem_front : goal.returns-then-asks_threads-clause-theorem_front
returns-then-asks_threads-clause-theorem_front g c =
    λ names asks form four.
    let O = g.O.Observation in
    let S = g.S.PacketSource in
    let T : Type 0 = Seat g.row.O.Denot g.row.S.Denot in
    let some : 0 < length c.args.sources.now = omega (arith, c.requires.sources) in
    let d = some_of c.args.sources.now some in
    let o = c.requires.observed names asks form in
    let lists = named_lists o.run.plan O.list in
    let given = named_given O.plan o.run.plan O.list (λ s. S.gives s.source) (λ s. S.belongs s.source)
    (λ s. S.given s.source) c.args.sources.now
    (λ (s : T) a. (g.met.S.PacketSource g.world.𝓛 g.world.𝓜 g.world.𝓡
    ((λ q k. k), (λ k. k), (λ k. k), λ k. k)).belongs_tells s.source a) o.is in
    subst (λ l. AppendsPackets (g.K.PacketSink.sent c.args.sink.now) (g.K.PacketSink.sent c.answer_in_threads.new.sink)
    l) (named_output O.plan o.run.plan O.list o.is.same_plan)
    ((front_sent (map string_bytes c.args.words.now) _ _ _ d c.answer_in_threads.result
    c.answer_in_threads.ensures.comes (told_code _ _ _ _ c.answer_in_threads.result _ c.tell.ensures) o.run o.has
    four).output lists
    (known_given o.run.plan (λ s. S.gives s.source) (λ s. S.given s.source) O.names c.args.sources.now
    lists names given))

pub returns-then-asks_threads-clause-settings_source : goal.returns-then-asks_threads-clause-settings_source
returns-then-asks_threads-clause-settings_source g c =
    λ unread. c.answer_in_threads.ensures.settings_source (reads_none (map string_bytes c.args.words.now) unread)

pub returns-then-asks_threads-clause-ran : goal.returns-then-asks_threads-clause-ran
returns-then-asks_threads-clause-ran g c =
    λ tool other.
    let S = g.S.PacketSource in
    let K = g.K.PacketSink in
    let D = g.D.TextSource in
    let P = g.P.TextSink in
    let words = map string_bytes c.args.words.now in
    subst (λ b. RanAs words
    (record {
      knows = b;
      gives = known b (λ s. S.gives s.source);
      given = λ s. S.given s.source;
      begun = λ s. S.begun s.source;
      faults = λ s. S.faults s.source;
      old = c.args.sources.now;
      now = c.answer_in_threads.new.sources;
      sent_before = K.sent c.args.sink.now;
      sent = K.sent c.answer_in_threads.new.sink;
      sink_faults_before = K.faults c.args.sink.now;
      sink_faults = K.faults c.answer_in_threads.new.sink;
      sink_begun = K.begun c.answer_in_threads.new.sink;
    })
    (record {
      text = D.left c.args.settings.now;
      faults_before = D.faults c.args.settings.now;
      faults = D.faults c.answer_in_threads.new.settings;
    })
    (P.written c.args.print.now) (P.written c.tell.new.print) (P.faults c.args.print.now) (P.faults c.tell.new.print)
    c.tell.result.code)
    (sym (known_as g.O.Observation.names words (sym c.if-asks_threads.ensures)))
    (record { answer = c.answer_in_threads.result; comes = c.answer_in_threads.ensures.comes; told = c.tell.ensures })

pub returns-then-asks_threads-clause-simulated_refused : goal.returns-then-asks_threads-clause-simulated_refused
returns-then-asks_threads-clause-simulated_refused g c =
    λ h. simulated.other_not (map string_bytes c.args.words.now) h.command
    (threads_no_tool (map string_bytes c.args.words.now) (sym c.if-asks_threads.ensures))
    (threads_no_simulated (map string_bytes c.args.words.now) (sym c.if-asks_threads.ensures)) h.is_form
    h.is_simulated

pub returns-then-asks_threads-clause-simulated_output : goal.returns-then-asks_threads-clause-simulated_output
returns-then-asks_threads-clause-simulated_output g c =
    λ is command run h done.
    simulated.other_not (map string_bytes c.args.words.now) command
    (threads_no_tool (map string_bytes c.args.words.now) (sym c.if-asks_threads.ensures))
    (threads_no_simulated (map string_bytes c.args.words.now) (sym c.if-asks_threads.ensures)) h.is_form
    h.is_simulated

pub returns-then-asks_threads-clause-simulated_front : goal.returns-then-asks_threads-clause-simulated_front
returns-then-asks_threads-clause-simulated_front g c =
    λ is command run h four.
    simulated.other_not (map string_bytes c.args.words.now) command
    (threads_no_tool (map string_bytes c.args.words.now) (sym c.if-asks_threads.ensures))
    (threads_no_simulated (map string_bytes c.args.words.now) (sym c.if-asks_threads.ensures)) h.is_form
    h.is_simulated

pub returns-then-asks_threads-clause-simulated_whole : goal.returns-then-asks_threads-clause-simulated_whole
returns-then-asks_threads-clause-simulated_whole g c =
    λ command run h sink_quiet print_quiet text_quiet.
    simulated.other_not (map string_bytes c.args.words.now) command
    (threads_no_tool (map string_bytes c.args.words.now) (sym c.if-asks_threads.ensures))
    (threads_no_simulated (map string_bytes c.args.words.now) (sym c.if-asks_threads.ensures)) h.is_form
    h.is_simulated

pub returns-then-asks_threads-clause-done : goal.returns-then-asks_threads-clause-done
returns-then-asks_threads-clause-done g c =
    λ none.
    let some : 0 < length c.args.sources.now = omega (arith, c.requires.sources) in
    let d = some_of c.args.sources.now some in
    none_failed_told (map string_bytes c.args.words.now) _ _ _ d c.answer_in_threads.result
    c.answer_in_threads.ensures.comes _ _ _ _ c.tell.ensures none

pub returns-then-asks_threads-clause-tool : goal.returns-then-asks_threads-clause-tool
returns-then-asks_threads-clause-tool g c =
    λ named first is now also.
    threads_never_tool (map string_bytes c.args.words.now) (sym c.if-asks_threads.ensures) named

pub returns-then-asks_threads-clause-simulated_sources : goal.returns-then-asks_threads-clause-simulated_sources
returns-then-asks_threads-clause-simulated_sources g c =
    λ named. threads_never_simulated (map string_bytes c.args.words.now) (sym c.if-asks_threads.ensures) named

pub returns-then-asks_threads-clause-simulated : goal.returns-then-asks_threads-clause-simulated
returns-then-asks_threads-clause-simulated g c =
    λ named. threads_never_simulated (map string_bytes c.args.words.now) (sym c.if-asks_threads.ensures) named

pub returns-clause-ran : goal.returns-clause-ran
returns-clause-ran g c =
    λ tool other.
    let S = g.S.PacketSource in
    let K = g.K.PacketSink in
    let D = g.D.TextSource in
    let P = g.P.TextSink in
    let words = map string_bytes c.args.words.now in
    subst (λ b. RanAs words
    (record {
      knows = b;
      gives = known b (λ s. S.gives s.source);
      given = λ s. S.given s.source;
      begun = λ s. S.begun s.source;
      faults = λ s. S.faults s.source;
      old = c.args.sources.now;
      now = c.run_returning.new.sources;
      sent_before = K.sent c.args.sink.now;
      sent = K.sent c.run_returning.new.sink;
      sink_faults_before = K.faults c.args.sink.now;
      sink_faults = K.faults c.run_returning.new.sink;
      sink_begun = K.begun c.run_returning.new.sink;
    })
    (record {
      text = D.left c.args.settings.now;
      faults_before = D.faults c.args.settings.now;
      faults = D.faults c.run_returning.new.settings;
    })
    (P.written c.args.print.now) (P.written c.run_returning.new.print) (P.faults c.args.print.now)
    (P.faults c.run_returning.new.print) c.run_returning.result.code)
    (sym (known_alone g.O.Observation.names words (sym c.if-needs_threads.ensures)))
    (c.run_returning.ensures.ran tool other)

pub returns-then-needs_threads-clause-unused : goal.returns-then-needs_threads-clause-unused
returns-then-needs_threads-clause-unused g c =
    λ run has. simulated.no_run (map string_bytes c.args.words.now)
    (asks_simulated (map string_bytes c.args.words.now) (sym c.if-asks_threads.ensures)
    (sym c.if-needs_threads.ensures)) _ run has

pub returns-then-needs_threads-clause-output : goal.returns-then-needs_threads-clause-output
returns-then-needs_threads-clause-output g c =
    λ is run lists has given whole.
    simulated.no_run (map string_bytes c.args.words.now)
    (asks_simulated (map string_bytes c.args.words.now) (sym c.if-asks_threads.ensures)
    (sym c.if-needs_threads.ensures)) _ run has

pub returns-then-needs_threads-clause-taken : goal.returns-then-needs_threads-clause-taken
returns-then-needs_threads-clause-taken g c =
    λ is run has whole. simulated.no_run (map string_bytes c.args.words.now)
    (asks_simulated (map string_bytes c.args.words.now) (sym c.if-asks_threads.ensures)
    (sym c.if-needs_threads.ensures)) _ run has

pub returns-then-needs_threads-clause-front : goal.returns-then-needs_threads-clause-front
returns-then-needs_threads-clause-front g c =
    λ is run lists has given four.
    simulated.no_run (map string_bytes c.args.words.now)
    (asks_simulated (map string_bytes c.args.words.now) (sym c.if-asks_threads.ensures)
    (sym c.if-needs_threads.ensures)) _ run has

pub returns-then-needs_threads-clause-begun : goal.returns-then-needs_threads-clause-begun
returns-then-needs_threads-clause-begun g c =
    λ run has done. simulated.no_run (map string_bytes c.args.words.now)
    (asks_simulated (map string_bytes c.args.words.now) (sym c.if-asks_threads.ensures)
    (sym c.if-needs_threads.ensures)) _ run has

pub returns-then-needs_threads-clause-at_sources : goal.returns-then-needs_threads-clause-at_sources
returns-then-needs_threads-clause-at_sources g c =
    λ run has. simulated.no_run (map string_bytes c.args.words.now)
    (asks_simulated (map string_bytes c.args.words.now) (sym c.if-asks_threads.ensures)
    (sym c.if-needs_threads.ensures)) _ run has

pub returns-then-needs_threads-clause-at_sink : goal.returns-then-needs_threads-clause-at_sink
returns-then-needs_threads-clause-at_sink g c =
    λ run has. simulated.no_run (map string_bytes c.args.words.now)
    (asks_simulated (map string_bytes c.args.words.now) (sym c.if-asks_threads.ensures)
    (sym c.if-needs_threads.ensures)) _ run has

pub returns-then-needs_threads-clause-source_fault : goal.returns-then-needs_threads-clause-source_fault
returns-then-needs_threads-clause-source_fault g c =
    λ run has three. simulated.no_run (map string_bytes c.args.words.now)
    (asks_simulated (map string_bytes c.args.words.now) (sym c.if-asks_threads.ensures)
    (sym c.if-needs_threads.ensures)) _ run has

pub returns-then-needs_threads-clause-whole : goal.returns-then-needs_threads-clause-whole
returns-then-needs_threads-clause-whole g c =
    λ run has quiet sink_quiet print_quiet text_quiet.
    simulated.no_run (map string_bytes c.args.words.now)
    (asks_simulated (map string_bytes c.args.words.now) (sym c.if-asks_threads.ensures)
    (sym c.if-needs_threads.ensures)) _ run has

pub returns-then-needs_threads-clause-at_settings : goal.returns-then-needs_threads-clause-at_settings
returns-then-needs_threads-clause-at_settings g c =
    λ config serial is. simulated.no_correlate (map string_bytes c.args.words.now)
    (asks_simulated (map string_bytes c.args.words.now) (sym c.if-asks_threads.ensures)
    (sym c.if-needs_threads.ensures)) config serial is

pub returns-then-needs_threads-clause-begun_settings : goal.returns-then-needs_threads-clause-begun_settings
returns-then-needs_threads-clause-begun_settings g c =
    λ done needs. simulated.no_text_read (map string_bytes c.args.words.now)
    (asks_simulated (map string_bytes c.args.words.now) (sym c.if-asks_threads.ensures)
    (sym c.if-needs_threads.ensures)) needs

pub returns-then-needs_threads-clause-refused : goal.returns-then-needs_threads-clause-refused
returns-then-needs_threads-clause-refused g c =
    λ are. simulated.no_refusal (map string_bytes c.args.words.now)
    (asks_simulated (map string_bytes c.args.words.now) (sym c.if-asks_threads.ensures)
    (sym c.if-needs_threads.ensures)) _ are

pub returns-then-needs_threads-clause-settings_source : goal.returns-then-needs_threads-clause-settings_source
returns-then-needs_threads-clause-settings_source g c =
    λ unread. c.trial_in_threads.ensures.unread
    (unread_words (map string_bytes c.args.words.now)
    (asks_simulated (map string_bytes c.args.words.now) (sym c.if-asks_threads.ensures)
    (sym c.if-needs_threads.ensures)) unread)

pub returns-then-needs_threads-clause-usage : goal.returns-then-needs_threads-clause-usage
returns-then-needs_threads-clause-usage g c =
    simulated.simulated_usage _ (map string_bytes c.args.words.now) _ _ _ _ c.trial_in_threads.ensures.ran

pub returns-then-needs_threads-clause-settings : goal.returns-then-needs_threads-clause-settings
returns-then-needs_threads-clause-settings g c =
    λ two. inr (simulated.simulated_settings _ (map string_bytes c.args.words.now) _ _ _ _
    c.trial_in_threads.ensures.ran
    (asks_simulated (map string_bytes c.args.words.now) (sym c.if-asks_threads.ensures)
    (sym c.if-needs_threads.ensures)) two)

pub returns-then-needs_threads-clause-settings_fault : goal.returns-then-needs_threads-clause-settings_fault
returns-then-needs_threads-clause-settings_fault g c =
    simulated.simulated_text _ (map string_bytes c.args.words.now) _ _ _ _ c.trial_in_threads.ensures.ran

pub returns-then-needs_threads-clause-sink_fault : goal.returns-then-needs_threads-clause-sink_fault
returns-then-needs_threads-clause-sink_fault g c =
    simulated.simulated_sink _ (map string_bytes c.args.words.now) _ _ _ _ c.trial_in_threads.ensures.ran

pub returns-then-needs_threads-clause-print_fault : goal.returns-then-needs_threads-clause-print_fault
returns-then-needs_threads-clause-print_fault g c =
    simulated.simulated_print _ (map string_bytes c.args.words.now) _ _ _ _ c.trial_in_threads.ensures.ran

pub returns-then-needs_threads-clause-done : goal.returns-then-needs_threads-clause-done
returns-then-needs_threads-clause-done g c =
    λ none. let calm = simulated.simulated_done _ (map string_bytes c.args.words.now) _ _ _ _
    c.trial_in_threads.ensures.ran none in (record { each = λ a d. refl }, calm.0, calm.1, calm.2)

pub returns-then-needs_threads-clause-no_memory : goal.returns-then-needs_threads-clause-no_memory
returns-then-needs_threads-clause-no_memory g c =
    λ five. let unused =
    simulated.simulated_out _ (map string_bytes c.args.words.now) _ _ _ _ c.trial_in_threads.ensures.ran five in
    record { same = refl; sink_unbegun = unused.unbegun; nothing = unused.quiet }

pub returns-then-needs_threads-clause-simulated_output : goal.returns-then-needs_threads-clause-simulated_output
returns-then-needs_threads-clause-simulated_output g c =
    λ is. simulated.simulated_sent _ (map string_bytes c.args.words.now) _ _ _ _ c.trial_in_threads.ensures.ran
    (sym (trial_known_as g.O.Observation.names (map string_bytes c.args.words.now)
    (asks_other (map string_bytes c.args.words.now) (sym c.if-asks_threads.ensures)
    (sym c.if-needs_threads.ensures))) ∙ is)

pub returns-then-needs_threads-clause-simulated_front : goal.returns-then-needs_threads-clause-simulated_front
returns-then-needs_threads-clause-simulated_front g c =
    λ is. simulated.simulated_front _ (map string_bytes c.args.words.now) _ _ _ _ c.trial_in_threads.ensures.ran
    (sym (trial_known_as g.O.Observation.names (map string_bytes c.args.words.now)
    (asks_other (map string_bytes c.args.words.now) (sym c.if-asks_threads.ensures)
    (sym c.if-needs_threads.ensures))) ∙ is)

pub returns-then-needs_threads-clause-simulated_refused : goal.returns-then-needs_threads-clause-simulated_refused
returns-then-needs_threads-clause-simulated_refused g c =
    simulated.simulated_refused _ (map string_bytes c.args.words.now) _ _ _ _ c.trial_in_threads.ensures.ran

pub returns-then-needs_threads-clause-simulated_whole : goal.returns-then-needs_threads-clause-simulated_whole
returns-then-needs_threads-clause-simulated_whole g c =
    simulated.simulated_whole _ (map string_bytes c.args.words.now) _ _ _ _ c.trial_in_threads.ensures.ran

pub trial_in_threads-requires-clause-trial : goal.trial_in_threads-requires-clause-trial
trial_in_threads-requires-clause-trial g c =
    λ lifetimes outlives.
    (asks_other (map string_bytes c.args.words.now) (sym c.if-asks_threads.ensures)
    (sym c.if-needs_threads.ensures))

pub trial_in_threads-requires-clause-observed : goal.trial_in_threads-requires-clause-observed
trial_in_threads-requires-clause-observed g c =
    λ lifetimes outlives named is.
    c.requires.simulated named
    (asks_other (map string_bytes c.args.words.now) (sym c.if-asks_threads.ensures)
    (sym c.if-needs_threads.ensures)) is

pub returns-then-needs_threads-clause-ran : goal.returns-then-needs_threads-clause-ran
returns-then-needs_threads-clause-ran g c =
    λ tool other. absurd
    (let clash : true ≡ false =
    sym (asks_simulated (map string_bytes c.args.words.now) (sym c.if-asks_threads.ensures)
    (sym c.if-needs_threads.ensures)) ∙ other in cc)

pub returns-then-needs_threads-clause-tool : goal.returns-then-needs_threads-clause-tool
returns-then-needs_threads-clause-tool g c =
    λ named first is now also.
    simulated.tool_simulates_not (map string_bytes c.args.words.now) named
    (asks_simulated (map string_bytes c.args.words.now) (sym c.if-asks_threads.ensures)
    (sym c.if-needs_threads.ensures))

pub returns-then-needs_threads-clause-tool_sources : goal.returns-then-needs_threads-clause-tool_sources
returns-then-needs_threads-clause-tool_sources g c =
    λ named. simulated.tool_simulates_not (map string_bytes c.args.words.now) named
    (asks_simulated (map string_bytes c.args.words.now) (sym c.if-asks_threads.ensures)
    (sym c.if-needs_threads.ensures))

pub returns-then-needs_threads-clause-simulated : goal.returns-then-needs_threads-clause-simulated
returns-then-needs_threads-clause-simulated g c =
    λ named.
    let D = g.D.TextSource in
    let K = g.K.PacketSink in
    let P = g.P.TextSink in
    subst (λ b. SimulatedRan b (form (map string_bytes c.args.words.now))
    (record {
      text = D.left c.args.settings.now;
      begun = D.begun c.trial_in_threads.new.settings;
      at = D.at c.trial_in_threads.new.settings;
      faults_before = D.faults c.args.settings.now;
      faults =
          D.faults c.trial_in_threads.new.settings;
    })
    (record {
      sent_before = K.sent c.args.sink.now;
      sent = K.sent c.trial_in_threads.new.sink;
      begun = K.begun c.trial_in_threads.new.sink;
      at = K.at c.trial_in_threads.new.sink;
      faults_before = K.faults c.args.sink.now;
      faults = K.faults c.trial_in_threads.new.sink;
    })
    (record {
      before = P.written c.args.print.now;
      now = P.written c.trial_in_threads.new.print;
      faults_before = P.faults c.args.print.now;
      faults = P.faults c.trial_in_threads.new.print;
    })
    c.trial_in_threads.result.code)
    (sym (trial_known_as g.O.Observation.names (map string_bytes c.args.words.now)
    (asks_other (map string_bytes c.args.words.now) (sym c.if-asks_threads.ensures)
    (sym c.if-needs_threads.ensures)))) c.trial_in_threads.ensures.ran

pub returns-then-needs_threads-clause-theorem : goal.returns-then-needs_threads-clause-theorem
returns-then-needs_threads-clause-theorem g c =
    λ names asks form whole. absurd (let clash : true ≡ false = sym asks ∙ sym c.if-asks_threads.ensures in cc)

pub returns-then-needs_threads-clause-trial_theorem : goal.returns-then-needs_threads-clause-trial_theorem
returns-then-needs_threads-clause-trial_theorem g c =
    λ names asks has done.
    let O = g.O.Observation in
    let o = c.requires.simulated names asks has in
    subst (λ l. Appended (g.K.PacketSink.sent c.args.sink.now) l (g.K.PacketSink.sent c.trial_in_threads.new.sink))
    (trial_output O.plan O.list o.run.plan o.seed o.is)
    (simulated.simulated_sent _ (map string_bytes c.args.words.now) _ _ _ _ c.trial_in_threads.ensures.ran names
    (Trial o.config o.seed false) o.run o.simulates done)

pub returns-then-asks_threads-clause-trial_theorem : goal.returns-then-asks_threads-clause-trial_theorem
returns-then-asks_threads-clause-trial_theorem g c =
    λ names asks has done. over_no_trial (map string_bytes c.args.words.now) (sym c.if-asks_threads.ensures) asks

pub returns-clause-trial_theorem : goal.returns-clause-trial_theorem
returns-clause-trial_theorem g c =
    λ names asks has done. never_trial (map string_bytes c.args.words.now) (sym c.if-needs_threads.ensures) asks

pub returns-clause-theorem : goal.returns-clause-theorem
returns-clause-theorem g c =
    λ names asks has whole. absurd (let clash : true ≡ false = sym asks ∙ sym c.if-asks_threads.ensures in cc)

pub returns-then-needs_threads-clause-theorem_front : goal.returns-then-needs_threads-clause-theorem_front
returns-then-needs_threads-clause-theorem_front g c =
    λ names asks form four. absurd (let clash : true ≡ false = sym asks ∙ sym c.if-asks_threads.ensures in cc)

pub returns-clause-theorem_front : goal.returns-clause-theorem_front
returns-clause-theorem_front g c =
    λ names asks form four. absurd (let clash : true ≡ false = sym asks ∙ sym c.if-asks_threads.ensures in cc)

pub returns-then-needs_threads-clause-trial_front : goal.returns-then-needs_threads-clause-trial_front
returns-then-needs_threads-clause-trial_front g c =
    λ names asks has four.
    let O = g.O.Observation in
    let o = c.requires.simulated names asks has in
    subst (λ l. AppendsPackets (g.K.PacketSink.sent c.args.sink.now) (g.K.PacketSink.sent c.trial_in_threads.new.sink)
    l) (trial_output O.plan O.list o.run.plan o.seed o.is)
    (simulated.simulated_front _ (map string_bytes c.args.words.now) _ _ _ _ c.trial_in_threads.ensures.ran names
    (Trial o.config o.seed false) o.run o.simulates four)

pub returns-then-asks_threads-clause-trial_front : goal.returns-then-asks_threads-clause-trial_front
returns-then-asks_threads-clause-trial_front g c =
    λ names asks has four. over_no_trial (map string_bytes c.args.words.now) (sym c.if-asks_threads.ensures) asks

pub returns-clause-trial_front : goal.returns-clause-trial_front
returns-clause-trial_front g c =
    λ names asks has four. never_trial (map string_bytes c.args.words.now) (sym c.if-needs_threads.ensures) asks

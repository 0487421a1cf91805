-- What a command over simulated inputs comes to, by what was read and what was run.
use Rattle.std.proofs.Common.{◌≡◌, ◌<◌, ◌≤◌, ◌+◌, ◌-◌, ◌^◌, ℕ, suc, Bool, true, false, List, [], ◌∷◌, ◌++◌, take, drop, length, map, get_or, Option, Some, None, refl, sym, ap, ◌∙◌, subst, cond, arith}
use Rattle.std.specs.Prelude.{Result, Ok, Err, is_some, nat_lt}
use Rattle.std.proofs.lemmas.Bool.{ltb-true}
use Rattle.std.proofs.lemmas.List.{append_assoc, get_or-map, length-map, map-append, take_all}
use Rattle.corr_model.specs.declared.plan.Plan.{Plan}
use Rattle.corr_model.specs.Lists.{numbers}
use Rattle.corr_model.specs.Outputs.{output}
use Rattle.corr_model.specs.Visibilities.{Lists}
use Rattle.corr_model.proofs.CountedLists.{length-numbers, numbers_push}
use Rattle.corr_site.specs.declared.place.Place.{Place}
use Rattle.corr_site.specs.Outside.{Appended, Rises}
use Rattle.corr_site.proofs.Laws.{appended_nothing}
use Rattle.stream_feed.specs.declared.report.StreamReport.{StreamReport}
use Rattle.stream_feed.proofs.ColumnLemmas.{get_or_mapped}
use Rattle.ant_sim.specs.Simulated.{simulated}
use Rattle.ant_sim.specs.Blocks.{Spot, rest_of}
use Rattle.corr_words.specs.declared.command.Command.{Command}
use Rattle.corr_words.specs.declared.command.Command.TheVariants.{Trial, Simulate}
use Rattle.corr_settings.specs.declared.settings.Settings.{Settings as Run}
use Rattle.corr_settings.specs.declared.refusal.SetRefusal.{SetRefusal}
use Rattle.corr_settings.specs.Plain.{antenna_refusal}
use Rattle.corr_settings.specs.Read.{settings, unless_refused}
use Rattle.corr_serial.specs.Sources.{HasLeastRise}
use Rattle.vis_send.specs.declared.tally.Sent.{Sent as Tally}
use Rattle.vis_send.specs.Marks.{sent_of}
use Rattle.corr_serial.specs.Runs.{AreGiven, known, list_of}
use Rattle.corr_tools.specs.declared.relaying.Relayed.{Relayed}
use Rattle.corr_tools.specs.declared.relaying.Relayed.TheVariants as relayed
use Rattle.corr_tools.specs.Relaying.{RelayHasCause, Relays}
use Rattle.corr_cli.specs.declared.said.Asked.{Asked}
use Rattle.corr_cli.specs.declared.said.Telling.TheVariants.{Summary}
use Rattle.corr_cli.specs.declared.answer.Answer.{Answer}
use Rattle.corr_cli.specs.declared.answer.Answer.TheVariants.{Usage, SettingsFault, Settings, NotBegun, Sent, Summed, Simulated, SinkFault, NoMemory}
use Rattle.corr_cli.specs.Placing.{IsAtOwn}
use Rattle.corr_cli.specs.Runs.{AppendsPackets, IsOverBegun, IsSummed, RunsPlan, Seen}
use Rattle.corr_cli.specs.Says.{IsOfText, SaysCause, SaysText}
use Rattle.corr_cli.specs.Tools.{SinkSeen}
use Rattle.corr_cli.specs.Observed.{IsObserved, IsTrialOf}
use Rattle.corr_cli.specs.Simulating.{AreReported, AreSimulated, ComesTo, ConfigSeen, IsIdle, IsLeft, NeverFails, RunsFor, SaysFor, SendsList, WordsCome, accepted_for, answer_to, config_of, read_for, simulated_inputs}
use Rattle.corr_cli.proofs.OutputLemmas.{same_output}
use Rattle.corr_cli.proofs.PlacedLemmas.{not_begun}

-- settings that were read, or refused, for a command
pub says_ok : (command : Command) (text : Option (List ℕ)) (run : Run) (r : Result Run SetRefusal)
    → ((bytes : List ℕ) → text ≡ Some bytes → settings bytes ≡ Ok run) → accepted_for command run ≡ r
    → SaysFor command text r
says_ok command None run r h e = tt
says_ok command (Some bytes) run r h e = ap (read_for command) (h bytes refl) ∙ e

says_err : (command : Command) (text : Option (List ℕ)) (refusal : SetRefusal)
    → ((bytes : List ℕ) → text ≡ Some bytes → settings bytes ≡ Err refusal) → SaysFor command text (Err refusal)
says_err command None refusal h = tt
says_err command (Some bytes) refusal h = ap (read_for command) (h bytes refl)

module _ (knows : Bool) (command : Command) (config : ConfigSeen) (sink : SinkSeen) where
  -- the settings were read
  pub comes_of_asked : (asked : Asked)
      → ((bytes : List ℕ) → config.text ≡ Some bytes → SaysText (settings bytes) Summary (Ok asked))
      → config.begun ≡ true → config.faults ≡ config.faults_before
      → (answer : Answer) → RunsFor knows command asked.settings sink answer → ComesTo knows command config sink answer
  comes_of_asked asked says begun calm (Settings refusal) runs = (
    says_ok command config.text asked.settings (Err refusal) (λ bytes told. (says bytes told).0) runs.0,
    record { idle = runs.1; calm = calm },
  )
  comes_of_asked asked says begun calm NoMemory runs = record { idle = runs; calm = calm }
  comes_of_asked asked says begun calm SinkFault runs =
      record {
        run = asked.settings;
        says = says_ok command config.text asked.settings (Ok asked.settings) (λ bytes told. (says bytes told).0)
            runs.accepted;
        begun = begun;
        calm = calm;
        runs = runs;
      }
  comes_of_asked asked says begun calm (Summed sent reports fault) runs =
      record {
        run = asked.settings;
        says = says_ok command config.text asked.settings (Ok asked.settings) (λ bytes told. (says bytes told).0)
            runs.accepted;
        begun = begun;
        calm = calm;
        runs = runs;
      }
  comes_of_asked asked says begun calm (Simulated packets) runs =
      record {
        run = asked.settings;
        says = says_ok command config.text asked.settings (Ok asked.settings) (λ bytes told. (says bytes told).0)
            runs.accepted;
        begun = begun;
        calm = calm;
        runs = runs;
      }
  comes_of_asked asked says begun calm Usage runs = absurd runs
  comes_of_asked asked says begun calm SettingsFault runs = absurd runs
  comes_of_asked asked says begun calm (NotBegun antenna) runs = absurd runs
  comes_of_asked asked says begun calm (Sent packets fault) runs = absurd runs

  -- there was nothing to run
  pub comes_of_answer : (answer : Answer) → IsOfText answer
      → ((bytes : List ℕ) → config.text ≡ Some bytes → SaysText (settings bytes) Summary (Err answer))
      → SaysCause config.faults_before config.faults (Err answer) → IsIdle sink
      → ComesTo knows command config sink answer
  comes_of_answer SettingsFault of says cause idle = (cause, idle)
  comes_of_answer (Settings refusal) of says cause idle =
      (says_err command config.text refusal says, record { idle = idle; calm = cause })
  comes_of_answer NoMemory of says cause idle = record { idle = idle; calm = cause }
  comes_of_answer Usage of says cause idle = absurd of
  comes_of_answer SinkFault of says cause idle = absurd of
  comes_of_answer (NotBegun antenna) of says cause idle = absurd of
  comes_of_answer (Sent packets fault) of says cause idle = absurd of
  comes_of_answer (Summed sent reports fault) of says cause idle = absurd of
  comes_of_answer (Simulated packets) of says cause idle = absurd of

-- what words come to, by their form
module _ (knows : Bool) (o : Option Command) (config : ConfigSeen) (sink : SinkSeen) where
  pub words_some : (c : Command) (answer : Answer) → o ≡ Some c → ComesTo knows c config sink answer
      → IsAtOwn config.begun config.at (config_of c) → WordsCome knows o config sink answer
  words_some c answer is comes at =
      let both : WordsCome knows (Some c) config sink answer =
      (comes, at) in subst (λ k. WordsCome knows k config sink answer) (sym is) both

  pub words_none : o ≡ None → IsLeft config sink → WordsCome knows o config sink Usage
  words_none is left =
      let both : WordsCome knows None config sink Usage =
      (refl, left) in subst (λ k. WordsCome knows k config sink Usage) (sym is) both

pub words_out : (knows : Bool) (o : Option Command) (config : ConfigSeen) (sink : SinkSeen) → is_some o ≡ true
    → config.begun ≡ false → IsLeft config sink → WordsCome knows o config sink NoMemory
words_out knows None config sink some unbegun left = absurd cc
words_out knows (Some c) config sink some unbegun left = (left, not_begun config.begun config.at (config_of c) unbegun)

-- what a source that gives a list is seen as
abbrev pub list_at : Spot → List (List ℕ)
list_at s = simulated s.plan s.seed s.antenna

module _ {S : Type 0} (source : S → Spot) where
  abbrev pub seen_of : Bool → List S → List S → SinkSeen → Seen S
  seen_of knows old now sink = record {
    knows = knows;
    gives = known knows (λ s. Some (list_at (source s)));
    given = λ s. length (list_at (source s)) - length (rest_of (source s));
    begun = λ s. true;
    faults = λ s. 0;
    old = old;
    now = now;
    sent_before = sink.sent_before;
    sent = sink.sent;
    sink_faults_before = sink.faults_before;
    sink_faults = sink.faults;
    sink_begun = sink.begun;
  }

never_rises : {P : Type 0} → Rises 0 0 → P
never_rises h = absurd (omega (arith, h.rose))

pub some_spot : Plan → Spot
some_spot plan = record { plan = plan; seed = 0; antenna = 0; block = 0; numbers = [] }

-- no simulated source fails
no_fault : {S : Type 0} (some : S) (count : ℕ) (old now : List S) (fault : Option ℕ)
    → HasLeastRise (λ s. 0) count old now fault → fault ≡ None
no_fault some count old now None h = refl
no_fault some count old now (Some least) h = never_rises (h.rose some)

module _ {S : Type 0} (plan : Plan) (seed : ℕ) (source : S → Spot) (some : S) (old : List S)
    (are : AreSimulated plan seed source old) where
  inputs_many : length (simulated_inputs plan seed) ≡ plan.antennas
  inputs_many = length-map (numbers 0 plan.antennas) (simulated plan seed) ∙ length-numbers 0 plan.antennas

  pub seats_many : length old ≡ plan.antennas
  seats_many = sym (length-map old (λ s. list_at (source s))) ∙ (ap length are.lists ∙ inputs_many)

  input_at : (a : ℕ) → a < plan.antennas → get_or (simulated_inputs plan seed) a [] ≡ simulated plan seed a
  input_at a within = get_or_mapped (simulated plan seed) 0 plan.antennas a [] within ∙ ap (simulated plan seed)
      (let e : 0 + a ≡ a = omega arith in e)

  -- the output of the simulated inputs
  output_is : output plan (list_of (simulated_inputs plan seed)) ≡ output plan (simulated plan seed)
  output_is = same_output plan (list_of (simulated_inputs plan seed)) (simulated plan seed) input_at

  list_here : (a : ℕ) (d : S) → a < plan.antennas
      → list_at (source (get_or old a d)) ≡ get_or (simulated_inputs plan seed) a []
  list_here a d within =
      sym (get_or-map (λ s. list_at (source s)) old a d [] (omega (arith, within, seats_many))) ∙ ap
      (λ l. get_or l a []) are.lists

  rest_here : (a : ℕ) (d : S) → a < plan.antennas
      → rest_of (source (get_or old a d)) ≡ get_or (simulated_inputs plan seed) a []
  rest_here a d within =
      sym (get_or-map (λ s. rest_of (source s)) old a d [] (omega (arith, within, seats_many))) ∙ ap
      (λ l. get_or l a []) are.left

  none_here : (a : ℕ) (d : S) → a < plan.antennas
      → length (list_at (source (get_or old a d))) - length (rest_of (source (get_or old a d))) ≡ 0
  none_here a d within = let one = ap length (list_here a d within) in let two =
      ap length (rest_here a d within) in omega (arith, one, two)

  -- the sources give the simulated inputs
  are_given : AreGiven plan (λ s. Some (list_at (source s)))
      (λ s. length (list_at (source s)) - length (rest_of (source s))) old (simulated_inputs plan seed)
  are_given = record {
    as_many = inputs_many;
    told = λ a d within. ap Some (list_here a d within);
    none_given = none_here;
  }

  -- they are those of an observation that names the simulated inputs
  pub are_observed : (theirs : Plan) (list : Lists) → IsTrialOf theirs list plan seed
      → IsObserved theirs (λ s a. Some (list_at (source s)) ≡ Some (list a))
      (λ s. length (list_at (source s)) - length (rest_of (source s))) plan old
  are_observed theirs list is = record {
    same_plan = is.same_plan;
    are = record {
      belong = λ a d within. ap Some (list_here a d within ∙ (input_at a within ∙ is.lists a within));
      none_given = none_here;
    };
  }

  module _ (now : List S) (sink : SinkSeen) where
    reported : (sent : Tally) (reports : List StreamReport)
        → IsSummed plan (seen_of source true old now sink) sent reports → AreReported plan seed reports
    reported sent reports h = record {
      as_many = h.reports_are.as_many;
      each = λ a r within.
          h.whole.each a some r (simulated plan seed a) within (ap Some (list_here a some within ∙ input_at a within))
          (none_here a some within);
    }

    -- what a run over the simulated inputs comes to
    pub trial_runs : (knows : Bool) (run : Run) (config : List ℕ) (serial : Bool) → run.plan ≡ plan
        → IsAtOwn sink.begun sink.at run.output
        → (answer : Answer) → IsOverBegun answer → RunsPlan Summary plan (seen_of source knows old now sink) answer
        → RunsFor knows (Trial config seed serial) run sink answer
    trial_runs true run config serial same at (Summed sent reports fault) over runs = record {
      accepted = refl;
      begun = runs.1.all_begun.sink;
      at = at;
      calm = runs.1.sink_kept;
      sent = λ is. subst (λ p. Appended sink.sent_before (output p (simulated p seed)) sink.sent) (sym same)
          (subst (λ strings. Appended sink.sent_before strings sink.sent) output_is
          (runs.1.output (simulated_inputs plan seed) are_given));
      counts = (
        no_fault some plan.antennas old now fault runs.1.least,
        λ is. subst (λ p. (sent ≡ sent_of (output p (simulated p seed))) × AreReported p seed reports) (sym same) (
          runs.2.counted (simulated_inputs plan seed) are_given ∙ ap sent_of output_is,
          reported sent
              reports runs.2,
        ),
      );
    }
    trial_runs false run config serial same at (Summed sent reports fault) over runs = record {
      accepted = refl;
      begun = runs.1.all_begun.sink;
      at = at;
      calm = runs.1.sink_kept;
      sent = λ is. absurd cc;
      counts = (no_fault some plan.antennas old now fault runs.1.least, λ is. absurd cc);
    }
    trial_runs true run config serial same at SinkFault over runs = record {
      accepted = refl;
      at = at;
      rose = runs.sink_rose;
      front = λ is. subst (λ p. AppendsPackets sink.sent_before sink.sent (output p (simulated p seed))) (sym same)
          (subst (AppendsPackets sink.sent_before sink.sent) output_is
          (runs.output (simulated_inputs plan seed) are_given));
    }
    trial_runs false run config serial same at SinkFault over runs =
        record { accepted = refl; at = at; rose = runs.sink_rose; front = λ is. absurd cc }
    trial_runs knows run config serial same at (Sent packets fault) over runs = absurd (let clash = runs.0 in cc)
    trial_runs knows run config serial same at (Simulated packets) over runs = absurd over
    trial_runs knows run config serial same at (NotBegun antenna) over runs = absurd over
    trial_runs knows run config serial same at Usage over runs = absurd over
    trial_runs knows run config serial same at SettingsFault over runs = absurd over
    trial_runs knows run config serial same at (Settings refusal) over runs = absurd over
    trial_runs knows run config serial same at NoMemory over runs = absurd over

-- so many seats with simulated sources are there
pub record SeatsTo {S : Type 0} (plan : Plan) (seed : ℕ) (source : S → Spot) (seats : List S)
    (len room n : ℕ) : Type 0 where
  pub counted : len ≡ n
  pub fits_in : plan.antennas ≤ room
  pub lists : map (λ s. list_at (source s)) seats ≡ map (simulated plan seed) (numbers 0 n)
  pub left : map (λ s. rest_of (source s)) seats ≡ map (simulated plan seed) (numbers 0 n)

one_list : {S : Type 0} (f : S → List (List ℕ)) (g : ℕ → List (List ℕ)) (xs : List S) (x : S) (n : ℕ)
    → map f xs ≡ map g (numbers 0 n) → f x ≡ g n → map f (xs ++ x ∷ []) ≡ map g (numbers 0 (n + 1))
one_list f g xs x n before here =
    map-append f xs (x ∷ []) ∙ ap (λ l. l ++ f x ∷ []) before ∙ ap (λ y. map g (numbers 0 n) ++ y ∷ [])
    (here ∙ ap g (let e : n ≡ 0 + n = omega arith in e))
    ∙ sym (ap (λ k. map g (numbers 0 k)) (let e : n + 1 ≡ suc n = omega arith in e) ∙
    (ap (map g) (numbers_push 0 n) ∙ map-append g (numbers 0 n) ((0 + n) ∷ [])))

module _ {S : Type 0} (plan : Plan) (seed : ℕ) (source : S → Spot) where
  pub seats_none : (seats : List S) (len room : ℕ) → seats ≡ [] → len ≡ 0 → plan.antennas ≤ room
      → SeatsTo plan seed source seats len room 0
  seats_none seats len room none zero fits =
      record {
        counted = zero;
        fits_in = fits;
        lists = ap (map (λ s. list_at (source s))) none;
        left = ap (map (λ s. rest_of (source s))) none;
      }

  pub seats_more : (seats after : List S) (s : S) (spot : Spot) (len later room now n : ℕ)
      → SeatsTo plan seed source seats len room n → source s ≡ spot → list_at spot ≡ simulated plan seed n
      → rest_of spot ≡ simulated plan seed n
      → after ≡ seats ++ s ∷ [] → later ≡ len + 1 → now ≡ room → SeatsTo plan seed source after later now (n + 1)
  seats_more seats after s spot len later room now n i has list rest e el er =
      subst (λ ss. SeatsTo plan seed source ss later now (n + 1)) (sym e) (record {
        counted = let c = i.counted in omega arith;
        fits_in = let c = i.fits_in in omega arith;
        lists = one_list (λ k. list_at (source k)) (simulated plan seed) seats s n i.lists (ap list_at has ∙ list);
        left = one_list (λ k. rest_of (source k)) (simulated plan seed) seats s n i.left (ap rest_of has ∙ rest);
      })

  pub seats_all : (seats : List S) (len room n : ℕ) → SeatsTo plan seed source seats len room n → n ≡ plan.antennas
      → AreSimulated plan seed source seats
  seats_all seats len room n i at =
      record {
        lists = i.lists ∙ ap (λ k. map (simulated plan seed) (numbers 0 k)) at;
        left = i.left ∙ ap (λ k. map (simulated plan seed) (numbers 0 k)) at;
      }

-- a relay of a source that counts no fault
pub never_fails : (sink sink_now : ℕ) (how : Relayed) → RelayHasCause 0 0 sink sink_now how → NeverFails how
never_fails sink sink_now (relayed.Done count) h = tt
never_fails sink sink_now relayed.SinkFault h = tt
never_fails sink sink_now (relayed.SourceFault count) h = never_rises h.0

module _ (list : List (List ℕ)) (sink : SinkSeen) (given given_now mid_faults : ℕ) (none : given ≡ 0)
    (few : length list < 2 ^ 64) where
  coming_all : take (2 ^ 64 - 1) (drop given list) ≡ list
  coming_all = ap (λ k. take (2 ^ 64 - 1) (drop k list)) none ∙ take_all (2 ^ 64 - 1) list (omega (arith, few))

  -- what the relay of a whole list comes to
  pub relay_sends : sink.begun ≡ true → mid_faults ≡ sink.faults_before → (before : Option (List (List ℕ)))
      → before ≡ sink.sent_before → (how : Relayed)
      → Relays (Some list) given given_now (2 ^ 64 - 1) before sink.sent how
      → RelayHasCause 0 0 mid_faults sink.faults how → SendsList list sink (answer_to how)
  relay_sends begun calm before quiet (relayed.Done count) h cause =
      let same : h.strings ≡ list = h.taken.all list refl ∙ coming_all in
      record {
        begun = begun;
        calm = cause.1 ∙ calm;
        sent = subst (λ l. Appended sink.sent_before l sink.sent) same
            (subst (λ b. Appended b h.strings sink.sent) quiet h.sent);
        counted = h.counted ∙ ap length same;
      }
  relay_sends begun calm before quiet (relayed.SourceFault count) h cause = never_rises cause.0
  relay_sends begun calm before quiet relayed.SinkFault h cause =
      let front = h.taken.first list refl in
      record {
        rose = subst (λ n. Rises n sink.faults) calm cause.1;
        front = record {
          front = h.strings;
          rest = h.unsent ∷ front.rest;
          whole = sym coming_all ∙ (front.splits ∙ append_assoc h.strings (h.unsent ∷ []) front.rest);
          appends =
              subst (λ b. Appended b h.strings sink.sent) quiet h.sent;
        };
      }

-- the sink could not be begun: a front of any list was sent
pub unsent : (list : List (List ℕ)) (sink : SinkSeen) → sink.sent ≡ sink.sent_before
    → Rises sink.faults_before sink.faults → SendsList list sink SinkFault
unsent list sink same rose = record {
  rose = rose;
  front = record { front = []; rest = list; whole = refl; appends = same ∙ appended_nothing sink.sent_before };
}

-- the list of an antenna of the plan was sent
pub simulate_runs : (config : List ℕ) (seed antenna : ℕ) (out : Place) (run : Run) (plan : Plan) (sink : SinkSeen)
    (answer : Answer) → run.plan ≡ plan → antenna_refusal plan antenna ≡ None → IsAtOwn sink.begun sink.at out
    → SendsList (simulated plan seed antenna) sink answer
    → RunsFor true (Simulate config seed antenna out) run sink answer
simulate_runs config seed antenna out run plan sink (Simulated packets) same has at h = record {
  accepted = ap (λ p. unless_refused (antenna_refusal p antenna) run) same ∙ ap (λ o. unless_refused o run) has;
  begun = h.begun;
  at = at;
  calm = h.calm;
  sent = λ is. subst (λ p. Appended sink.sent_before (simulated p seed antenna) sink.sent) (sym same) h.sent;
  counts = h.counted ∙ ap (λ p. length (simulated p seed antenna)) (sym same);
}
simulate_runs config seed antenna out run plan sink SinkFault same has at h = record {
  accepted = ap (λ p. unless_refused (antenna_refusal p antenna) run) same ∙ ap (λ o. unless_refused o run) has;
  at = at;
  rose = h.rose;
  front = λ is. subst (λ p. AppendsPackets sink.sent_before sink.sent (simulated p seed antenna)) (sym same) h.front;
}
simulate_runs config seed antenna out run plan sink NoMemory same has at h = h
simulate_runs config seed antenna out run plan sink Usage same has at h = absurd h
simulate_runs config seed antenna out run plan sink SettingsFault same has at h = absurd h
simulate_runs config seed antenna out run plan sink (Settings refusal) same has at h = absurd h
simulate_runs config seed antenna out run plan sink (NotBegun a) same has at h = absurd h
simulate_runs config seed antenna out run plan sink (Sent packets fault) same has at h = absurd h
simulate_runs config seed antenna out run plan sink (Summed sent reports fault) same has at h = absurd h

-- the plan does not have the antenna
pub refused_runs : (config : List ℕ) (seed antenna : ℕ) (out : Place) (run : Run) (plan : Plan) (sink : SinkSeen)
    (refusal : SetRefusal) → run.plan ≡ plan → antenna_refusal plan antenna ≡ Some refusal → IsIdle sink
    → RunsFor true (Simulate config seed antenna out) run sink (Settings refusal)
refused_runs config seed antenna out run plan sink refusal same has idle =
    (ap (λ p. unless_refused (antenna_refusal p antenna) run) same ∙ ap (λ o. unless_refused o run) has, idle)

has_by : (b : Bool) {A : Type 0} (x : A) → cond b None (Some x) ≡ None → b ≡ true
has_by true x h = refl
has_by false x h = absurd cc

-- an antenna that is not refused is one of the plan
pub has_antenna : (plan : Plan) (antenna : ℕ) → antenna_refusal plan antenna ≡ None → antenna < plan.antennas
has_antenna plan antenna h = ltb-true antenna plan.antennas (has_by (nat_lt antenna plan.antennas) _ h)

pub comes_same : (knows : Bool) (c d : Command) (config : ConfigSeen) (sink : SinkSeen) (answer : Answer) → c ≡ d
    → ComesTo knows d config sink answer → ComesTo knows c config sink answer
comes_same knows c d config sink answer is h = subst (λ k. ComesTo knows k config sink answer) (sym is) h

pub sends_same : (list other : List (List ℕ)) (sink : SinkSeen) (answer : Answer) → list ≡ other
    → SendsList list sink answer → SendsList other sink answer
sends_same list other sink answer is h = subst (λ l. SendsList l sink answer) is h

pub answers_same : (list : List (List ℕ)) (sink : SinkSeen) (answer other : Answer) → answer ≡ other
    → SendsList list sink other → SendsList list sink answer
answers_same list sink answer other is h = subst (SendsList list sink) (sym is) h

pub are_same : {S : Type 0} (plan other : Plan) (seed : ℕ) (source : S → Spot) (old items : List S) → plan ≡ other
    → old ≡ items → AreSimulated other seed source items → AreSimulated plan seed source old
are_same plan other seed source old items same is h =
    subst (λ p. AreSimulated p seed source old) (sym same) (subst (AreSimulated other seed source) (sym is) h)

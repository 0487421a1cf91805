-- An output that is read back and printed, datagram by datagram.
use Rattle.std.proofs.Common.{◌≡◌, ℕ, suc, ◌+◌, ◌≤◌, Bool, true, false, if◌then◌else◌, List, [], ◌∷◌, ◌++◌, length, Option, Some, None, take, map, fold, refl, sym, ap, subst, ◌∙◌, arith}
use Rattle.std.specs.Prelude.{Result, Ok}
use Rattle.std.specs.Option.{option_or}
use Rattle.std.specs.List.{list_any}
use Rattle.corr_site.specs.Outside.{HasCause, NextGives, Writes}
use Rattle.corr_site.specs.declared.answers.Next.TheVariants as next
use Rattle.corr_site.specs.declared.answers.Failed.{Failed}
use Rattle.corr_site.proofs.Laws.{appended_nothing}
use Rattle.vis_read.specs.declared.cause.ReadCause.{ReadCause}
use Rattle.vis_read.specs.declared.cause.ReadCause.TheVariants as causes
use Rattle.vis_read.specs.Readings.{Answer, Reading, end_cause, next_read, reading, seen, seen_from, unread}
use Rattle.vis_read.specs.Endings.{cause_in, first_cause, is_stop}
use Rattle.vis_read.specs.Standing.{ReaderState, StandsFor}
use Rattle.vis_read.proofs.EndingLemmas.{end_is_seen}
use Rattle.vis_read.proofs.HeapReads.{seen_behind}
use Rattle.corr_tools.specs.declared.decoding.Ended.{Ended}
use Rattle.corr_tools.specs.declared.decoding.Ended.TheVariants as ended
use Rattle.corr_tools.specs.declared.decoding.Decoded.{Decoded}
use Rattle.corr_tools.specs.declared.decoding.Shown.{Shown}
use Rattle.corr_tools.specs.Printing.{GoesOn, GoesOnCause}
use Rattle.corr_tools.specs.Taking.{TakesAll, TakesFirst, coming, string_limit}
use Rattle.corr_tools.specs.Decoding.{Decodes, EndsAs, EndsSo, IsOfEnd, Reads, Shows, TakesTo, answer_text, answers_text, decode_text, ended_text, first_refused, refused_at}
use Rattle.corr_tools.proofs.TakenLemmas.{IsTaking, none_taken, took_first, took_limit, took_more}
use Rattle.corr_tools.proofs.RelayLemmas.{KeepsSource}
use Rattle.corr_tools.proofs.TextLemmas.{caused_more, written_more}
use Rattle.corr_tools.proofs.ReadLemmas.{answers_next, first_next, first_of_more, rest_refused}

-- so many datagrams were read, none of them refused, and their lines printed
pub record IsDecoding (limit : ℕ) (gives : Option (List (List ℕ))) (given now count : ℕ) (reader : ReaderState)
    (before after : Option (List ℕ)) (faults_before faults : ℕ) (printed : Result Unit Failed) : Type 0 where
  pub strings : List (List ℕ)
  pub taking : IsTaking gives given now count strings
  pub same_limit : reader.live.limit ≡ limit
  pub stands : StandsFor reader strings
  pub unrefused : first_refused 0 (seen limit strings) ≡ None
  pub written : Writes before after printed (answers_text (seen limit strings))
  pub cause : HasCause faults_before faults printed

-- what holds before each datagram that is decoded
pub record DecodeLoop {S P A : Type 0} (begun : S → Bool) (at : S → A) (gives : S → Option (List (List ℕ)))
    (belongs : S → ℕ → Type 0) (given faults : S → ℕ) (written : P → Option (List ℕ)) (print_faults : P → ℕ)
    (reader_old reader : ReaderState) (source_old source : S) (print_old print : P) (count : ℕ)
    (printed : Result Unit Failed) : Type 0 where
  pub source_keeps : KeepsSource begun at gives belongs faults source_old source
  pub decoding : IsDecoding reader_old.live.limit (gives source_old) (given source_old) (given source) count reader
      (written print_old) (written print) (print_faults print_old) (print_faults print) printed

pub none_decoded : (gives : Option (List (List ℕ))) (given : ℕ) (reader : ReaderState) (before : Option (List ℕ))
    (faults : ℕ) (x : Unit) → StandsFor reader []
    → IsDecoding reader.live.limit gives given given 0 reader before before faults faults (Ok x)
none_decoded gives given reader before faults x stands = record {
  strings = [];
  taking = none_taken gives given;
  same_limit = refl;
  stands = stands;
  unrefused = refl;
  written = appended_nothing before;
  cause = record { later = omega arith; failed = tt; kept = refl };
}

-- as many answers as datagrams
as_many_seen : (limit : ℕ) (r : Reading) (l : List (List ℕ)) → length (seen_from limit r l) ≡ length l
as_many_seen limit r [] = refl
as_many_seen limit r (bytes ∷ l) = ap suc (as_many_seen limit (next_read limit r bytes).after l)

-- the answers to one datagram more
answers_more : (limit : ℕ) (old new : ReaderState) (bytes : List ℕ) (printed : Result Unit Failed)
    (before after : Option (List ℕ)) (shown : Shown) (l : List (List ℕ)) → old.live.limit ≡ limit → StandsFor old l
    → (h : Shows old bytes new printed before after shown)
    → seen limit (l ++ bytes ∷ []) ≡ seen limit l ++ h.answer ∷ []
answers_more limit old new bytes printed before after shown l same stands h =
    subst (λ n. seen n (l ++ bytes ∷ []) ≡ seen n l ++ h.answer ∷ []) same (h.answered l stands)

-- where none was refused before, the next is the first, if it is
refused_next : (limit count : ℕ) (old new : ReaderState) (bytes : List ℕ) (printed : Result Unit Failed)
    (before after : Option (List ℕ)) (shown : Shown) (l : List (List ℕ)) → old.live.limit ≡ limit → StandsFor old l
    → length l ≡ count
    → first_refused 0 (seen limit l) ≡ None → Shows old bytes new printed before after shown
    → first_refused 0 (seen limit (l ++ bytes ∷ [])) ≡ refused_at count shown.cause
refused_next limit count old new bytes printed before after shown l same stands as_many none h =
    let place : 0 + length (seen limit l) ≡ count = omega (arith, as_many_seen limit unread l, as_many) in
    ap (first_refused 0) (answers_more limit old new bytes printed before after shown l same stands h)
    ∙ first_next 0 (seen limit l) h.answer none
    ∙ ap (λ n. refused_at n (cause_in h.answer)) place
    ∙ ap (refused_at count) h.cause

-- the lines on one datagram more
text_next : (limit : ℕ) (old new : ReaderState) (bytes : List ℕ) (printed : Result Unit Failed)
    (before after : Option (List ℕ)) (shown : Shown) (l : List (List ℕ)) → old.live.limit ≡ limit → StandsFor old l
    → (h : Shows old bytes new printed before after shown)
    → answers_text (seen limit l) ++ answer_text h.answer ≡ answers_text (seen limit (l ++ bytes ∷ []))
text_next limit old new bytes printed before after shown l same stands h =
    sym (ap answers_text (answers_more limit old new bytes printed before after shown l same stands h) ∙ answers_next
    (seen limit l) h.answer)

pub decoded_more : (limit : ℕ) (gives told : Option (List (List ℕ))) (given mid now count n : ℕ) (old new : ReaderState)
    (before after last : Option (List ℕ)) (faults_before faults_mid faults : ℕ) (printed : Result Unit Failed)
    (shown : Shown) (buf bytes : List ℕ)
    → IsDecoding limit gives given mid count old before after faults_before faults_mid printed → told ≡ gives
    → NextGives told mid now buf (next.Packet n) → bytes ≡ take n buf
    → Shows old bytes new printed after last shown → GoesOnCause printed faults_mid faults shown.print
    → shown.cause ≡ None
    → IsDecoding limit gives given now (count + 1) new before last faults_before faults shown.print
decoded_more limit gives told given mid now count n old new before after last faults_before faults_mid faults printed
    shown buf bytes h same k front shows cause none = record {
      strings = h.strings ++ bytes ∷ [];
      taking = took_more gives given mid now count n h.strings buf bytes h.taking
          (subst (λ g. NextGives g mid now buf (next.Packet n)) same k) front;
      same_limit = shows.limit ∙ h.same_limit;
      stands = shows.stands h.strings h.stands;
      unrefused = refused_next limit count old new bytes printed after last shown h.strings h.same_limit h.stands
          h.taking.as_many h.unrefused shows ∙ ap (refused_at count) none;
      written = subst (λ t. Writes before last shown.print t)
          (text_next limit old new bytes printed after last shown h.strings h.same_limit h.stands shows)
          (written_more before after last printed shown.print (answers_text (seen limit h.strings))
          (answer_text shows.answer) h.written shows.written);
      cause = caused_more faults_before faults_mid faults after last printed shown.print (answer_text shows.answer) h.cause
          shows.written cause;
    }

-- a reading that ends so, where the answer says so
pub reads_as : (limit : ℕ) (l : List (List ℕ)) (before now : Option (List ℕ)) (how : Ended) (result : Decoded)
    → result.ended ≡ how → EndsAs (seen limit l) how → Writes before now result.print (decode_text limit l how)
    → Reads limit l before now result
reads_as limit l before now how result is ends written = record {
  ends = subst (EndsAs (seen limit l)) (sym is) ends;
  written = subst (λ e. Writes before now result.print (decode_text limit l e)) (sym is) written;
}

-- the same of what is told, where all of it was taken
told_all : (limit : ℕ) (gives : Option (List (List ℕ))) (given now : ℕ) (taken : List (List ℕ))
    (before after : Option (List ℕ)) (result : Decoded) → TakesAll gives given now string_limit taken
    → Reads limit taken before after result
    → (strings : List (List ℕ)) → gives ≡ Some strings
    → Reads limit (coming strings given string_limit) before after result
told_all limit gives given now taken before after result takes reads strings told =
    subst (λ l. Reads limit l before after result) (takes.all strings told) reads

-- the same of what is told, where what was taken ends with the first that is refused
told_first : (limit : ℕ) (gives : Option (List (List ℕ))) (given now place : ℕ) (cause : ReadCause)
    (taken : List (List ℕ)) (before after : Option (List ℕ)) (result : Decoded)
    → result.ended ≡ ended.Refused place cause
    → TakesFirst gives given now string_limit taken → EndsAs (seen limit taken) (ended.Refused place cause)
    → Writes before after result.print (decode_text limit taken (ended.Refused place cause))
    → (strings : List (List ℕ)) → gives ≡ Some strings
    → Reads limit (coming strings given string_limit) before after result
told_first limit gives given now place cause taken before after result is takes ends written strings told =
    let front = takes.first strings told in
    subst (λ l. Reads limit l before after result) (sym front.splits)
    (reads_as limit (taken ++ front.rest) before after (ended.Refused place cause) result is
    (ap (first_refused 0) (seen_behind limit unread taken front.rest) ∙ first_of_more 0 (seen limit taken) _ _ ends)
    (subst (λ t. Writes before after result.print (t ++ ended_text (ended.Refused place cause)))
    (sym (rest_refused limit 0 unread taken front.rest _ ends)) written))

-- ---- how the reading ends

pub decodes_refused : (limit : ℕ) (gives told : Option (List (List ℕ))) (given mid now count n : ℕ)
    (old new : ReaderState) (before after last final : Option (List ℕ)) (faults_before faults_mid : ℕ)
    (printed : Result Unit Failed) (shown : Shown) (buf bytes : List ℕ)
    (cause : ReadCause) (result : Decoded)
    → IsDecoding limit gives given mid count old before after faults_before faults_mid printed → told ≡ gives
    → NextGives told mid now buf (next.Packet n) → bytes ≡ take n buf → Shows old bytes new printed after last shown
    → shown.cause ≡ Some cause
    → count + 1 ≤ string_limit → result.ended ≡ ended.Refused count cause
    → GoesOn shown.print last final result.print (ended_text (ended.Refused count cause))
    → Decodes limit gives given now before final result
decodes_refused limit gives told given mid now count n old new before after last final faults_before faults_mid printed
    shown buf bytes cause result h same k front shows why few is text =
    let taken = h.strings ++ bytes ∷ [] in
    let taking = took_more gives given mid now count n h.strings buf bytes h.taking
    (subst (λ g. NextGives g mid now buf (next.Packet n)) same k) front in
    let takes = took_first gives given now (count + 1) string_limit taken taking few in
    let ends : EndsAs (seen limit taken) (ended.Refused count cause) =
    refused_next limit count old new bytes printed after last shown h.strings h.same_limit h.stands h.taking.as_many
    h.unrefused shows ∙ ap (refused_at count) why in
    let lines = subst (λ t. Writes before last shown.print t)
    (text_next limit old new bytes printed after last shown h.strings h.same_limit h.stands shows)
    (written_more before after last printed shown.print (answers_text (seen limit h.strings)) (answer_text shows.answer)
    h.written shows.written) in
    let written = written_more before last final shown.print result.print (answers_text (seen limit taken))
    (ended_text (ended.Refused count cause)) lines text in
    record {
      taken = taken;
      takes = subst (TakesTo gives given now taken) (sym is) (takes, taking.as_many);
      reads = reads_as limit taken before final (ended.Refused count cause) result is ends written;
      told = told_first limit gives given now count cause taken before final result is takes ends written;
    }

-- the end of an input of which nothing was refused
takes_to : (gives : Option (List (List ℕ))) (given now : ℕ) (taken : List (List ℕ)) (how : Ended) → IsOfEnd how
    → TakesAll gives given now string_limit taken → TakesTo gives given now taken how
takes_to gives given now taken ended.Whole own h = h
takes_to gives given now taken (ended.NoStop count) own h = h
takes_to gives given now taken (ended.Refused place cause) own h = absurd own
takes_to gives given now taken ended.SourceFault own h = absurd own

pub decodes_end : (limit : ℕ) (gives : Option (List (List ℕ))) (given mid now count : ℕ) (reader : ReaderState)
    (before after final : Option (List ℕ)) (faults_before faults : ℕ) (printed : Result Unit Failed) (how : Ended)
    (result : Decoded)
    → (h : IsDecoding limit gives given mid count reader before after faults_before faults printed)
    → TakesAll gives given now string_limit h.strings → EndsSo reader count how → IsOfEnd how
    → result.ended ≡ how → GoesOn printed after final result.print (ended_text how)
    → Decodes limit gives given now before final result
decodes_end limit gives given mid now count reader before after final faults_before faults printed how result h takes
    ends own is text =
    let ends_as : EndsAs (seen limit h.strings) how = subst (λ n. EndsAs (seen n h.strings) how) h.same_limit
    (ends h.strings h.stands (subst (λ n. first_refused 0 (seen n h.strings) ≡ None) (sym h.same_limit) h.unrefused)
    (sym h.taking.as_many)) in
    let reads = reads_as limit h.strings before final how result is ends_as
    (written_more before after final printed result.print (answers_text (seen limit h.strings)) (ended_text how)
    h.written text) in
    record {
      taken = h.strings;
      takes = subst (TakesTo gives given now h.strings) (sym is) (takes_to gives given now h.strings how own takes);
      reads = reads;
      told = told_all limit gives given now h.strings before final result takes reads;
    }

-- the same where as many datagrams were taken as may be
pub decodes_limit : (limit : ℕ) (gives : Option (List (List ℕ))) (given now count : ℕ) (reader : ReaderState)
    (before after final : Option (List ℕ)) (faults_before faults : ℕ) (printed : Result Unit Failed) (how : Ended)
    (result : Decoded)
    → IsDecoding limit gives given now count reader before after faults_before faults printed → count ≡ string_limit
    → EndsSo reader string_limit how → IsOfEnd how
    → result.ended ≡ how → GoesOn printed after final result.print (ended_text how)
    → Decodes limit gives given now before final result
decodes_limit limit gives given now count reader before after final faults_before faults printed how result h full
    ends own is text =
    decodes_end limit gives given now now count reader before after final faults_before faults printed how result h
    (took_limit gives given now count string_limit h.strings h.taking full)
    (subst (λ n. EndsSo reader n how) (sym full) ends) own is text

pub decodes_fault : (limit : ℕ) (gives : Option (List (List ℕ))) (given mid now count : ℕ) (reader : ReaderState)
    (before after final : Option (List ℕ)) (faults_before faults : ℕ) (printed : Result Unit Failed) (result : Decoded)
    → (h : IsDecoding limit gives given mid count reader before after faults_before faults printed)
    → TakesAll gives given now string_limit h.strings
    → result.ended ≡ ended.SourceFault → GoesOn printed after final result.print (ended_text ended.SourceFault)
    → Decodes limit gives given now before final result
decodes_fault limit gives given mid now count reader before after final faults_before faults printed result h
    takes is text =
    let reads = reads_as limit h.strings before final ended.SourceFault result is h.unrefused
    (written_more before after final printed result.print (answers_text (seen limit h.strings))
    (ended_text ended.SourceFault) h.written text) in
    record {
      taken = h.strings;
      takes = subst (TakesTo gives given now h.strings) (sym is) takes;
      reads = reads;
      told = told_all limit gives given now h.strings before final result takes reads;
    }

-- ---- the end of an input

or_none : {A : Type 0} (o p : Option A) → option_or o p ≡ None → (o ≡ None) × (p ≡ None)
or_none (Some y) p h = absurd cc
or_none None p h = (refl, h)

none_at : (place : ℕ) (o : Option ReadCause) → refused_at place o ≡ None → o ≡ None
none_at place None h = refl
none_at place (Some c) h = absurd cc

-- where none is refused, there is no first cause
no_cause : (place : ℕ) (answers : List Answer) → first_refused place answers ≡ None → first_cause answers ≡ None
no_cause place [] h = refl
no_cause place (a ∷ answers) h =
    let both = or_none (refused_at place (cause_in a)) (first_refused (place + 1) answers) h in
    ap (λ o. fold option_or o (map cause_in answers)) (none_at place (cause_in a) both.0) ∙ no_cause (place + 1)
    answers both.1

-- so the end is refused where no stop is among the answers
end_of_unrefused : (limit : ℕ) (l : List (List ℕ)) → first_refused 0 (seen limit l) ≡ None
    → end_cause (reading limit l).turn ≡ (if list_any is_stop (seen limit l) then None else Some causes.NoStop)
end_of_unrefused limit l none =
    end_is_seen limit l ∙ ap (λ o. option_or o (if list_any is_stop (seen limit l) then None else Some causes.NoStop))
    (no_cause 0 (seen limit l) none)

has_stop : (stop : Bool) → None ≡ (if stop then None else Some causes.NoStop) → stop ≡ true
has_stop true h = refl
has_stop false h = absurd cc

has_none : (stop : Bool) (c : ReadCause) → Some c ≡ (if stop then None else Some causes.NoStop) → stop ≡ false
has_none true c h = absurd cc
has_none false c h = refl

pub ends_whole : (reader : ReaderState) (count : ℕ)
    → ((l : List (List ℕ)) → StandsFor reader l → None ≡ end_cause (reading reader.live.limit l).turn)
    → EndsSo reader count ended.Whole
ends_whole reader count finish =
    λ l stands none as_many. (none, has_stop _ (finish l stands ∙ end_of_unrefused reader.live.limit l none))

pub ends_without : (reader : ReaderState) (count : ℕ) (c : ReadCause)
    → ((l : List (List ℕ)) → StandsFor reader l → Some c ≡ end_cause (reading reader.live.limit l).turn)
    → EndsSo reader count (ended.NoStop count)
ends_without reader count c finish = λ l stands none as_many. (
  none,
  has_none _ c (finish l stands ∙ end_of_unrefused reader.live.limit l none),
  as_many ∙ sym
      (as_many_seen reader.live.limit unread l),
)

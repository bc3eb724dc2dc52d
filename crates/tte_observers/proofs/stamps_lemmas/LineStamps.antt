-- The stamps of lines along a run: they tell its order, stay under further events, and end well.
use Rattle.std.{specs.{Io.KnownBytes.Appends, List.All, Prelude.{option_map, option_to_list}}}
use Rattle.std.proofs.{Common.{if◌then◌else◌, ◌&&◌, ◌+ℤ◌, ◌<ℤ◌, ◌<◌, ◌≢◌, ◌⊎◌, length-append, negsuc, not}}
use Rattle.std.proofs.{lemmas.{Int.ints, List.Elements.All-contains}}
use Rattle.drift_clock.{proofs.ExactSegments.{exact_begins, exact_laws, exact_steps}}
use Rattle.drift_clock.{specs.Segment.{fresh_segment, segment_count, segment_reading, stepped_segment}}
use Rattle.drift_world.{proofs.Agreements.reads_same, specs.Locals.IsLocalClockBefore}
use Rattle.net_plan.specs.Ranges.{IsInRange}
use Rattle.precision_law.{proofs.traffic_lemmas.safety_lemmas.Lawful.lawful}
use Rattle.precision_law.{specs.traffic.safety.Under.{IsUnder, scenario_of}}
use Rattle.run_law.{proofs.{records.Order.contains, runs.Places.{in_parts, in_right, parted}}}
use Rattle.run_law.specs.{device.States.{adjustment_after, is_synchronised, state_after}, law.FirstLaws.IsEventInRange}
use Rattle.run_law.specs.{records.Happenings.earlier}
use Rattle.run_law.specs.{scenario.{Hypothesis.AreWithinHypothesis, Scenarios.{is_broken, is_turned_on_at}}}
use Rattle.schedule_checker.specs.Refusals.{RefusalIsOne}
use Rattle.sync_state.specs.declared.state.State.TheVariants.{Integrating}
use Rattle.tte_forms.proofs.{Octets.{for_all, for_more}, networks.Answers.{accepted_alone, network_answer_one}}
use Rattle.tte_forms.proofs.Puts
use Puts.{PutFails-behind, PutFails-more, PutsLines-append, PutsLines-fails, PutsLines-more, answer_widened}
use Rattle.tte_forms.specs.{Answering.{ForOctets, GivesAnswer}, Putting.PutFails}
use Rattle.tte_forms.specs.{declared.status.Status.TheVariants.{Done, WriteFault}, networks.Accepting.IsNetworkAnswer}
use Rattle.tte_io.specs.{Faults.next_count, Told.AppendsFront, declared.ends.Sink.Ghosts}
use Rattle.tte_observers.proofs.stamps_lemmas.{SameRecords.{IsUpTo, same_before, up_to_mark}}
use Rattle.tte_observers.proofs.stamps_lemmas.{granules_lemmas.Stamped.{agree, behind_later, of_locals, tell_order}}
use Rattle.tte_observers.proofs.stamps_lemmas.Words
use Words.{◌++◌, ◌+◌, ◌∙◌, ◌∷◌, ◌≡◌, ◌≤ℤ◌, ◌≤◌, Answer, AreAdmitted, AreFrom, AreRecordsBefore, AreRecordsSoFar}
use Words.{DeviceId, Event, ExactWorld, GranuleRefused, IsAtLine, IsIn, IsStampAnswer, IsTraceAnswer, List}
use Words.{MeansAccepted, Network, None, Note, Option, PutsLines, PutsLines-none, ReadFault, Scenario, Shown, Some}
use Words.{Status, Units, [], admitted_in_order, amount, ap, append-nil, append_assoc, arith, cases_lt, clock_reading}
use Words.{device_name, granule_answer, happenings, inl, inr, last_time, least_granule, length, line_at, line_stamps}
use Words.{lines_by_first, pos, refl, shown_as, stamp_line, stamp_lines, stamp_of, stamps_behind, subst, suc, sym}
use Words.{told_by, unsigned_abs, zero, ℕ, ℤ}
use Rattle.tte_observers.specs.stamps.{Answer.{IsStampStatus, StampEnds, StampStops, StampTakesLittle}}
use Rattle.tte_observers.specs.stamps.{Safely.{IsStampRefusal, IsStampedRun, IsStampedToFault, StampsTell}}
use Rattle.tte_observers.specs.stamps.{StampLines.lines_by}
use Rattle.tte_observers.specs.stamps.granules.{Laws.IsRunInGranules, Lines.{IsLineOf, Line, scenario_at}}
use Rattle.tte_observers.specs.stamps.granules.{Stamps.{IsShownAt, stamp_at}}
use Rattle.tte_traces.{specs.{Along.IsAllAdmitted, Answer.IsRunStatus}}
use Rattle.tte_traces.proofs.{Answers.trace_answer_one, Ends.trace_given}
use Rattle.tte_traces.proofs.{EventOrder.{last_before, last_of, not_earlier}, Given.all_done}
use Rattle.tte_traces.proofs.Runs
use Runs.{IsSafe, admitted_under, lasts_under, of_fault, of_whole, trace_answers_exist, trace_safe}
use Rattle.world_drive.{proofs.{Earlier.{no_further, so_far_at}, exact_lemmas.Events.{last_is, last_or_none}}}
use Rattle.world_drive.{specs.exact.Records.{AreAllRecords, HaveEnded}}
use Rattle.world_law.specs.source.Agreeing.{scenario}

-- ---- how `stamp` ends

module _ (granule : Units) (network : Network) (trace : List ℕ) where
  pub refused_alone : amount granule < least_granule network → {b : Answer} → IsStampAnswer granule trace network b
      → b ≡ granule_answer network
  refused_alone low (inl refused) = refused.1
  refused_alone low (inr run) = absurd (let le = run.0 in omega (arith, low, le))

  pub run_alone : least_granule network ≤ amount granule → {b : Answer} → IsStampAnswer granule trace network b
      → IsTraceAnswer (stamp_lines (amount granule)) trace network b
  run_alone fine (inl refused) = absurd (let low = refused.0 in omega (arith, low, fine))
  run_alone fine (inr run) = run.1

module _ (granule : Units) (network : Network) {Unread : Type 0} (second left : Option (List ℕ)) (status : Status) (old new : Shown) where
  -- an answer was given
  pub general_of : IsInRange network → StampEnds granule network Unread second left status old new
      → ForOctets second (λ trace. GivesAnswer (IsStampAnswer granule trace network) status old new)
  general_of range (inl refused) =
      for_all second (λ trace. GivesAnswer (IsStampAnswer granule trace network) status old new)
      (λ trace. inl (granule_answer network, inl (refused.0, refl), refused.1))
  general_of range (inr run) =
      let lines = stamp_lines (amount granule) in
      for_more second (λ trace. GivesAnswer (IsTraceAnswer lines trace network) status old new)
      (λ trace. GivesAnswer (IsStampAnswer granule trace network) status old new)
      (λ trace g. answer_widened (IsTraceAnswer lines trace network) (IsStampAnswer granule trace network) status old new (λ a is. inr (run.0, is)) g)
      (trace_given (λ trace. IsTraceAnswer lines trace network) second status old new (λ trace. trace_answers_exist lines network trace range)
      run.1.general)

  -- where a read failed, what was put stops behind the lines that were taken
  pub stops_of : (first : Option (List ℕ)) → ForOctets first (λ octets. MeansAccepted octets network) → status ≡ ReadFault
      → StampEnds granule network Unread second left status old new → StampStops granule first second left old new
  stops_of first means is (inl refused) = absurd (refused.2 is)
  stops_of first means is (inr run) = let cut = run.1.cut is in (cut.0, (network, means, cut.1))

  -- little was taken of the trace, or it is unread
  pub little_of : (first : Option (List ℕ)) → ForOctets first (λ octets. MeansAccepted octets network)
      → StampEnds granule network Unread second left status old new → Unread ⊎ ((status ≢ GranuleRefused) × StampTakesLittle granule first second left old new)
  little_of first means (inl refused) = inl refused.3
  little_of first means (inr run) = inr (run.2, (network, means, run.1.little))

-- ---- the granule

-- it is less than the least, or it is not
pub less_of : (granule least : ℤ) (units : ℕ) → pos 1 ≤ℤ granule → least ≡ pos units → granule <ℤ least → unsigned_abs granule < units
less_of (pos n) least units some is less = omega (arith, ints, is, less)
less_of (negsuc n) least units some is less = absurd (omega (arith, ints, some))

pub not_less_of : (granule : ℤ) (units : ℕ) → pos 1 ≤ℤ granule → (granule <ℤ pos units → ⊥) → units ≤ unsigned_abs granule
not_less_of (pos n) units some not =
    elim (cases_lt n units) [ inl lt ↦ absurd (not (omega (arith, ints, lt))) | inr ge ↦ ge ]
not_less_of (negsuc n) units some not = absurd (omega (arith, ints, some))

-- ---- the statuses

pub stamp_status : (status : Status) → IsRunStatus status → IsStampStatus status
stamp_status GranuleRefused is = tt
stamp_status other is = is

pub no_granule : (status : Status) → IsRunStatus status → status ≢ GranuleRefused
no_granule status is same = subst IsRunStatus same is

pub not_read : {PutFails : Type 0} (status : Status) → (status ≡ GranuleRefused) ⊎ ((status ≡ WriteFault) × PutFails) → status ≢ ReadFault
not_read status (inl is) read = cc
not_read status (inr w) read = let is = w.0 in cc

-- ---- the answer of `stamp` is one, and valid input is answered to its end

pub stamp_answer_one : (granule : Units) (network : Network) (trace : List ℕ) (a b : Answer) → IsStampAnswer granule trace network a
    → IsStampAnswer granule trace network b → a ≡ b
stamp_answer_one granule network trace a b (inl p) q = p.1 ∙ sym (refused_alone granule network trace p.0 q)
stamp_answer_one granule network trace a b (inr p) q =
    trace_answer_one (stamp_lines (amount granule)) network trace a b p.1 (run_alone granule network trace p.0 q)

-- the octets of a network file and of a trace have one answer
pub stamp_one : RefusalIsOne → (granule : Units) {octets : List ℕ} (trace : List ℕ) (a b : Answer)
    → IsNetworkAnswer (IsStampAnswer granule trace) octets a → IsNetworkAnswer (IsStampAnswer granule trace) octets b
    → a ≡ b
stamp_one one granule {octets} trace a b p q =
    network_answer_one one (IsStampAnswer granule trace) octets (λ network accepted. stamp_answer_one granule network trace) a b p q

-- an accepted network under a trace that is admitted to its end is stamped to its end, in granules that it allows
pub stamp_done : (granule : Units) {octets trace : List ℕ} {network : Network} {events : List Event}
    → MeansAccepted octets network → least_granule network ≤ amount granule → IsAllAdmitted network trace events
    → (a : Answer) → IsNetworkAnswer (IsStampAnswer granule trace) octets a → a.status ≡ Done
stamp_done granule {octets} {trace} {network} {events} m fine all a is =
    all_done (stamp_lines (amount granule)) trace network events a all
    (run_alone granule network trace fine (accepted_alone (IsStampAnswer granule trace) octets network m a is))

-- ---- the stamp of one device, and those of the first devices: one device

module _ (granule : ℕ) (network : Network) (world : ExactWorld) (number : ℕ) (before : List Event) (event : Event) (notes : List Note) (device : DeviceId)
    (at : IsAtLine network world number before event notes) where
  number_is : length (before ++ event ∷ []) ≡ number
  number_is = let own = at.counted in let longer = length-append before (event ∷ []) in omega (arith, own, longer)

  -- what the world shows is what the line is stamped by
  shown_at_line : (o : Option ℤ)
      → IsLocalClockBefore (scenario network (clock_reading network (before ++ event ∷ [])) (before ++ event ∷ [])) (happenings network notes) device
      world.now o → IsShownAt network (line_at network before event notes) device o
  shown_at_line o is =
      subst (λ t. IsLocalClockBefore (scenario network (clock_reading network (before ++ event ∷ [])) (before ++ event ∷ []))
      (happenings network notes) device t o) (ap unsigned_abs at.reached.now) is

  -- the lines of the stamp
  lines_are : (o : Option ℤ)
      → IsLocalClockBefore (scenario network (clock_reading network (before ++ event ∷ [])) (before ++ event ∷ [])) (happenings network notes) device
      world.now o → lines_by granule network (line_at network before event notes) device
      ≡ option_to_list (option_map (stamp_line number (device_name network device)) (option_map (stamp_of granule) o))
  lines_are o is =
      ap (λ (x : Option ℤ). option_to_list (option_map (stamp_line (length (before ++ event ∷ [])) (device_name network device)) x))
      (sym (of_locals granule network (line_at network before event notes) device o (shown_at_line o is)))
      ∙ ap (λ n. option_to_list (option_map (stamp_line n (device_name network device)) (option_map (stamp_of granule) o))) number_is

  -- it does not stamp the line
  pub none_put : {K : Type 0} (sink : Ghosts K) (out : K)
      → IsLocalClockBefore (scenario network (clock_reading network (before ++ event ∷ [])) (before ++ event ∷ [])) (happenings network notes) device
      world.now None
      → PutsLines (lines_by granule network (line_at network before event notes) device) (shown_as (told_by sink out)) (shown_as (told_by sink out))
  none_put sink out is =
      subst (λ ls. PutsLines ls (shown_as (told_by sink out)) (shown_as (told_by sink out))) (sym (lines_are None is))
      (PutsLines-none (shown_as (told_by sink out)))

  -- it does, and the line of its stamp was put
  pub one_put : {K : Type 0} (sink : Ghosts K) (local : ℤ) (text : List ℕ) (old new : K)
      → IsLocalClockBefore (scenario network (clock_reading network (before ++ event ∷ [])) (before ++ event ∷ [])) (happenings network notes) device
      world.now (Some local)
      → text ≡ stamp_line number (device_name network device) (stamp_of granule local) → Appends (sink.written old) (sink.written new) text
      → sink.puts new ≡ next_count (sink.puts old)
      → PutsLines (lines_by granule network (line_at network before event notes) device) (shown_as (told_by sink old)) (shown_as (told_by sink new))
  one_put sink local text old new is same written counted =
      let from = shown_as (told_by sink old) in
      let now = shown_as (told_by sink new) in
      subst (λ ls. PutsLines ls from now) (ap (λ (t : List ℕ). t ∷ []) same ∙ sym (lines_are (Some local) is))
      (PutsLines-more text now (PutsLines-none from) written counted)

  -- its put failed
  pub one_fails : {K : Type 0} (sink : Ghosts K) (local : ℤ) (text : List ℕ) (old new : K)
      → IsLocalClockBefore (scenario network (clock_reading network (before ++ event ∷ [])) (before ++ event ∷ [])) (happenings network notes) device
      world.now (Some local)
      → text ≡ stamp_line number (device_name network device) (stamp_of granule local) → AppendsFront (sink.written old) (sink.written new) text
      → sink.puts new ≡ next_count (sink.puts old)
      → PutFails (lines_by granule network (line_at network before event notes) device) (shown_as (told_by sink old)) (shown_as (told_by sink new))
  one_fails sink local text old new is same front counted =
      let from = shown_as (told_by sink old) in
      let now = shown_as (told_by sink new) in
      subst (λ ls. PutFails ls from now) (ap (λ (t : List ℕ). t ∷ []) same ∙ sym (lines_are (Some local) is))
      (PutsLines-fails text [] now (PutsLines-none from) front counted)

-- ---- the first devices

-- the lines of more devices begin with those of fewer
pub first_devices : (granule : ℕ) (network : Network) (line : Line) (k n : ℕ) → k ≤ n
    → (rest : List (List ℕ)) × (lines_by_first granule network line n ≡ lines_by_first granule network line k ++ rest)
first_devices granule network line k zero le =
    let none : zero ≡ k = omega (arith, le) in
    ([], ap (lines_by_first granule network line) none ∙ sym (append-nil (lines_by_first granule network line k)))
first_devices granule network line k (suc m) le = elim (cases_lt m k) [
  | inl lt ↦
      (let all : suc m ≡ k = omega (arith, le, lt) in
      ([], ap (lines_by_first granule network line) all ∙ sym (append-nil (lines_by_first granule network line k))))
  | inr ge ↦
      (let r = first_devices granule network line k m ge in
      let next = lines_by granule network line (record { 0 = m }) in
      (r.0 ++ next, ap (λ (ls : List (List ℕ)). ls ++ next) r.1 ∙ append_assoc (lines_by_first granule network line k) r.0 next))
]

-- the stamp of one more device was put
pub one_more_device : {K : Type 0} (sink : Ghosts K) (network : Network) (line : Line) (k : ℕ) (granule own : ℕ) (old now new : K) → own ≡ granule
    → PutsLines (lines_by_first granule network line k) (shown_as (told_by sink old)) (shown_as (told_by sink now))
    → PutsLines (lines_by own network line (record { 0 = k })) (shown_as (told_by sink now)) (shown_as (told_by sink new))
    → PutsLines (lines_by_first granule network line (k + 1)) (shown_as (told_by sink old)) (shown_as (told_by sink new))
one_more_device sink network line k granule own old now new same first one =
    let from = shown_as (told_by sink old) in
    let to = shown_as (told_by sink new) in
    let next : suc k ≡ k + 1 = omega arith in
    let more : PutsLines (lines_by_first granule network line (suc k)) from to =
    PutsLines-append first
    (subst (λ (n : ℕ). PutsLines (lines_by n network line (record { 0 = k })) (shown_as (told_by sink now)) to) same one) in
    subst (λ n. PutsLines (lines_by_first granule network line n) from to) next more

-- the put of its line failed
pub devices_fail : {K : Type 0} (sink : Ghosts K) (network : Network) (line : Line) (k n : ℕ) (granule own : ℕ) (old now new : K) → own ≡ granule
    → suc k ≤ n → PutsLines (lines_by_first granule network line k) (shown_as (told_by sink old)) (shown_as (told_by sink now))
    → PutFails (lines_by own network line (record { 0 = k })) (shown_as (told_by sink now)) (shown_as (told_by sink new))
    → PutFails (lines_by_first granule network line n) (shown_as (told_by sink old)) (shown_as (told_by sink new))
devices_fail sink network line k n granule own old now new same le first one =
    let from = shown_as (told_by sink old) in
    let to = shown_as (told_by sink new) in
    let fails = PutFails-behind (lines_by granule network line (record { 0 = k })) to first
    (subst (λ (m : ℕ). PutFails (lines_by m network line (record { 0 = k })) (shown_as (told_by sink now)) to) same one) in
    let rest = first_devices granule network line (suc k) n le in
    let more : PutFails (lines_by_first granule network line (suc k) ++ rest.0) from to =
    PutFails-more rest.0 fails in
    subst (λ ls. PutFails ls from to) (sym rest.1) more

-- ---- the stamps of a line are by the records of earlier times alone

-- the records of both are the same before the time
abbrev pub AreSameAt : Network → List Note → List Note → ℕ → Type 0
AreSameAt network notes others t = earlier t (happenings network notes) ≡ earlier t (happenings network others)

module _ (granule : ℕ) (network : Network) (notes others : List Note) where
  -- a device's stamp
  same_stamp : (before : List Event) (event : Event) (device : DeviceId) → AreSameAt network notes others (amount event.time)
      → stamp_at granule network (line_at network before event notes) device ≡ stamp_at granule network (line_at network before event others) device
  same_stamp before event device same =
      let s = scenario_at network (line_at network before event []) in
      let t = amount event.time in
      ap (λ hs. if not (is_broken s device t)
      && is_synchronised (if is_turned_on_at s device t then Integrating else state_after s hs device)
      then Some (stamp_of granule (pos (s.reading device t) +ℤ (adjustment_after s hs device).0)) else None) same

  same_by_first : (before : List Event) (event : Event) (k : ℕ) → AreSameAt network notes others (amount event.time)
      → lines_by_first granule network (line_at network before event notes) k ≡ lines_by_first granule network (line_at network before event others) k
  same_by_first before event zero same = refl
  same_by_first before event (suc k) same =
      let device : DeviceId = record { 0 = k } in
      ap (λ (ls : List (List ℕ)). ls ++ lines_by granule network (line_at network before event notes) device) (same_by_first before event k same)
      ∙ ap (λ (o : Option ℤ). lines_by_first granule network (line_at network before event others) k
      ++ option_to_list (option_map (stamp_line (length (before ++ event ∷ [])) (device_name network device)) o)) (same_stamp before event device same)

  -- those of the lines of events, where the records are the same before each of their times
  pub same_behind : (before events : List Event) → ((e : Event) → IsIn e events → AreSameAt network notes others (amount e.time))
      → stamps_behind granule network notes before events ≡ stamps_behind granule network others before events
  same_behind before [] same = refl
  same_behind before (event ∷ events) same =
      ap (λ (ls : List (List ℕ)). ls ++ stamps_behind granule network notes (before ++ event ∷ []) events)
      (same_by_first before event (length network.device) (same event (inl refl)))
      ∙ ap (λ (ls : List (List ℕ)). line_stamps granule network (line_at network before event others) ++ ls)
      (same_behind (before ++ event ∷ []) events (λ e i. same e (inr i)))

-- the stamps of lines and of those behind them
pub stamps_parts : (granule : ℕ) (network : Network) (notes : List Note) (before events more : List Event)
    → stamps_behind granule network notes before (events ++ more)
    ≡ stamps_behind granule network notes before events ++ stamps_behind granule network notes (before ++ events) more
stamps_parts granule network notes before [] more = ap (λ es. stamps_behind granule network notes es more) (sym (append-nil before))
stamps_parts granule network notes before (event ∷ events) more =
    let one = line_stamps granule network (line_at network before event notes) in
    ap (λ (ls : List (List ℕ)). one ++ ls) (stamps_parts granule network notes (before ++ event ∷ []) events more)
    ∙ ap (λ es. one ++ (stamps_behind granule network notes (before ++ event ∷ []) events ++ stamps_behind granule network notes es more))
    (append_assoc before (event ∷ []) events)
    ∙ sym (append_assoc one (stamps_behind granule network notes (before ++ event ∷ []) events)
    (stamps_behind granule network notes (before ++ event ∷ events) more))

-- ---- the stamps of lines stay under further events

-- no event is later than the last
abbrev pub AreUpToLast : List Event → Type 0
AreUpToLast events = (e : Event) → IsIn e events → amount e.time ≤ amount (last_time events)

-- the events have no end, and those behind them are not earlier than the next, nor this than the last of them
pub record MayFollow (events : List Event) (event : Event) (others : List Event) : Type 0 where
  pub from : AreFrom (amount event.time) (event ∷ others)
  pub unended : HaveEnded events → ⊥
  pub order : amount (last_time events) ≤ amount event.time

-- there are none behind them, or they may follow
abbrev pub FollowOn : List Event → List Event → Type 0
FollowOn events [] = Unit {0}
FollowOn events (event ∷ others) = MayFollow events event others

-- the records so far are the run under all, up to a mark that no earlier time is behind
record IsFront (network : Network) (events more : List Event) (notes : List Note) : Type 0 where
  pub mark : List ℕ
  pub up_to : (t : ℕ) → t ≤ amount (last_time events) → IsUpTo t mark
  pub run : AreRecordsBefore network (events ++ more) mark notes

is_front : (network : Network) (events more : List Event) (notes : List Note) → FollowOn events more → AreRecordsSoFar network events notes
    → IsFront network events more notes
is_front network events [] notes on run = record {
  mark = amount (last_time events) ∷ 2 ∷ [];
  up_to = λ t le. up_to_mark t (amount (last_time events)) (2 ∷ []) le;
  run = subst (λ es. AreRecordsBefore network es (amount (last_time events) ∷ 2 ∷ []) notes) (sym (append-nil events)) run;
}
is_front network events (event ∷ others) notes on run =
    let t = amount (last_time events) in
    record {
      mark = t ∷ 1 ∷ (length events + 1) ∷ [];
      up_to = λ u le. up_to_mark u t (1 ∷ (length events + 1) ∷ []) le;
      run = lasts_under network events event others notes on.from on.unended
          (no_further t (amount event.time) (length events + 1) on.order) (so_far_at network events notes run);
    }

-- the stamps by the records so far are the first of those by the records of a run under further events
pub stamps_stay : (granule : ℕ) (network : Network) (events more : List Event) (notes others : List Note)
    {mark : List ℕ} → AreUpToLast events → FollowOn events more → AreRecordsSoFar network events notes
    → AreRecordsBefore network (events ++ more) mark others → IsUpTo (amount (last_time events)) mark
    → stamp_lines granule network (events ++ more) others ≡ stamp_lines granule network events notes
    ++ stamps_behind granule network others events more
stamps_stay granule network events more notes others last on run whole up =
    let front = is_front network events more notes on run in
    let s : Scenario = record { network = network; reading = clock_reading network (events ++ more); events = events ++ more } in
    let same : (e : Event) → IsIn e events → AreSameAt network others notes (amount e.time) = λ e i.
    same_before s (amount e.time)
    (λ p before. up p (up_to_mark (amount e.time) (amount (last_time events)) [] (last e i) p before))
    (front.up_to (amount e.time) (last e i)) whole front.run in
    stamps_parts granule network others [] events more
    ∙ ap (λ (ls : List (List ℕ)). ls ++ stamps_behind granule network others events more) (same_behind granule network others notes [] events same)

-- ---- the order of the events of a trace: of events within the hypothesis

pub begun : (events : List Event) → All IsEventInRange events → (e : Event) → IsIn e events → pos 0 ≤ℤ e.time.0
begun events times e i = (All-contains IsEventInRange events e times (contains events e i)).time

-- none is later than the last
no_later : (network : Network) (events front : List Event) (last : Event) → events ≡ front ++ last ∷ [] → AreWithinHypothesis network events
    → ((e : Event) → IsIn e events → pos 0 ≤ℤ e.time.0) → (e : Event) → IsIn e (front ++ last ∷ []) → amount e.time ≤ amount last.time
no_later network events front last same within from_zero e i = elim (in_parts e front (last ∷ []) i) [
  | inl before ↦
      let at = parted e front before in
      let whole : events ≡ (at.0 ++ e ∷ []) ++ (at.1 ++ last ∷ []) =
      same ∙ ap (λ (es : List Event). es ++ last ∷ []) at.2 ∙ append_assoc at.0 (e ∷ at.1) (last ∷ []) ∙ sym (append_assoc at.0 (e ∷ []) (at.1 ++ last ∷ [])) in
      behind_later network events at.0 (at.1 ++ last ∷ []) e whole within from_zero last (in_right last at.1 (last ∷ []) (inl refl))
  | inr (inl is) ↦ subst (λ (d : Event). amount d.time ≤ amount last.time) (sym is) (omega arith)
  | inr (inr none) ↦ absurd none
]

pub hypothesis_up_to_last : (network : Network) (events : List Event) → AreWithinHypothesis network events
    → ((e : Event) → IsIn e events → pos 0 ≤ℤ e.time.0) → AreUpToLast events
hypothesis_up_to_last network events within from_zero e i = elim (last_or_none events) [
  | inl none ↦ absurd (subst (IsIn e) none i)
  | inr some ↦
      let time = ap (λ es. amount (last_time es)) some.2 ∙ ap amount (last_is some.0 some.1) in
      subst (λ t. amount e.time ≤ t) (sym time) (no_later network events some.0 some.1 some.2 within from_zero e (subst (IsIn e) some.2 i))
]

-- ---- of admitted events

module _ (network : Network) (octets : List ℕ) (events : List Event) where
  pub admitted_up_to_last : AreAdmitted network octets events → AreUpToLast events
  admitted_up_to_last all e i =
      let at = parted e events i in
      let order = (admitted_in_order network octets (at.0 ++ e ∷ at.1)
      (subst (AreAdmitted network octets) at.2 all)).order in
      subst (λ es. amount e.time ≤ amount (last_time es)) (sym at.2) (last_of at.0 at.1 e order)

  pub admitted_follow : (more : List Event) → AreAdmitted network octets (events ++ more) → FollowOn events more
  admitted_follow [] all = tt {0}
  admitted_follow (event ∷ others) all =
      let order = (admitted_in_order network octets (events ++ event ∷ others) all).order in
      let follows : MayFollow events event others = record {
        from = λ k e is. not_earlier 0 events others event k e order is;
        unended = (all events others event refl).has.is_open.unended;
        order = last_before events others event order;
      } in
      follows

  -- the last of some is no later than the last of all
  pub last_grows : (more : List Event) → AreAdmitted network octets (events ++ more)
      → amount (last_time events) ≤ amount (last_time (events ++ more))
  last_grows [] all = subst (λ es. amount (last_time events) ≤ amount (last_time es))
      (sym (append-nil events)) (omega arith)
  last_grows (event ∷ others) all =
      let order = (admitted_in_order network octets (events ++ event ∷ others) all).order in
      let one = last_before events others event order in
      let two = last_of events others event order in
      omega (arith, one, two)

-- ---- the stamps of a run agree, and tell the order of lines

-- up to a time a clock reads what it read before further events, which are not earlier
reads_on : (network : Network) (device : DeviceId) (x t : ℕ) → x ≤ t → (past more : List Event) → AreFrom t more
    → clock_reading network past device x ≡ clock_reading network (past ++ more) device x
reads_on network device x t le past [] from = ap (λ es. clock_reading network es device x) (sym (append-nil past))
reads_on network device x t le past (e ∷ more) from =
    let late = from 0 e refl in
    sym (reads_same fresh_segment stepped_segment segment_reading (λ c. c.grain) segment_count exact_steps network past e device x (omega (arith, le, late)))
    ∙ reads_on network device x t le (past ++ e ∷ []) more (λ k d is. from (suc k) d is)
    ∙ ap (λ es. clock_reading network es device x) (append_assoc past (e ∷ []) more)

-- the network under the events, where its clocks are exact
abbrev exact_scenario : Network → List Event → Scenario
exact_scenario network events = scenario_of fresh_segment stepped_segment segment_reading network events

module _ (granule : ℕ) (network : Network) (octets : List ℕ) (events : List Event) (mark : List ℕ) (notes : List Note)
    (under : IsUnder network events) (all : AreAdmitted network octets events) (run : AreRecordsBefore network events mark notes)
    (up : IsUpTo (amount (last_time events)) mark) (fine : least_granule network ≤ granule) where
  in_run : IsRunInGranules granule (exact_scenario network events) mark notes
  in_run = record { lawful = lawful fresh_segment stepped_segment segment_reading exact_laws exact_begins under; run = run; fine = fine }

  is_line : (before behind : List Event) (event : Event) → events ≡ before ++ event ∷ behind
      → IsLineOf (exact_scenario network events) mark (happenings network notes) (line_at network before event notes)
  is_line before behind event is =
      let order = (admitted_in_order network octets (before ++ event ∷ behind) (subst (AreAdmitted network octets) is all)).order in
      let trace : events ≡ (before ++ event ∷ []) ++ behind = is ∙ sym (append_assoc before (event ∷ []) behind) in
      let last : amount event.time ≤ amount (last_time events) =
      subst (λ es. amount event.time ≤ amount (last_time es)) (sym is) (last_of before behind event order) in
      record {
        before = before;
        event = event;
        behind = behind;
        befallen = refl;
        trace = trace;
        time = refl;
        reads = λ device x le.
            reads_on network device x (amount event.time) le (before ++ event ∷ []) behind
            (λ k e at. not_earlier 0 before behind event (suc k) e order at)
            ∙ ap (λ es. clock_reading network es device x) (sym trace);
        records = refl;
        covers = λ place b. up place (up_to_mark (amount event.time) (amount (last_time events)) [] last place b);
      }

  pub stamps_tell : StampsTell granule network events notes
  stamps_tell = record {
    agree = λ before behind event d e stamp other is one two.
        agree granule (exact_scenario network events) mark notes (line_at network before event notes) d e stamp other in_run (is_line before behind event is)
        one two;
    order = λ before behind front back event later d e stamp more is same one two apart.
        tell_order granule (exact_scenario network events) mark notes (line_at network before event notes) (line_at network front later notes) d e stamp more
        in_run
        (is_line before behind event is) (is_line front back later same) one two apart;
  }

-- ---- what `stamp` puts are the stamps of a run that goes well, and they tell

module _ (granule : ℕ) (octets trace : List ℕ) (network : Network) (range : IsInRange network) (accepted : MeansAccepted octets network)
    (fine : least_granule network ≤ granule) (events : List Event) (notes : List Note) (admitted : AreAdmitted network trace events) where
  tells_whole : AreAllRecords network events notes → StampsTell granule network events notes
  tells_whole records =
      let t = amount (last_time events) in
      let last = (admitted_in_order network trace events admitted).last records.0 records.1 in
      let le : t ≤ amount records.0 + 1 = subst (λ u. t ≤ amount u + 1) (sym last) (omega arith) in
      stamps_tell granule network trace events ((amount records.0 + 1) ∷ []) notes (admitted_under trace events range accepted admitted)
      admitted records.2 (up_to_mark t (amount records.0 + 1) [] le) fine

  tells_to_fault : AreRecordsSoFar network events notes → StampsTell granule network events notes
  tells_to_fault records =
      let t = amount (last_time events) in
      stamps_tell granule network trace events (t ∷ 2 ∷ []) notes (admitted_under trace events range accepted admitted) admitted records
      (up_to_mark t t (2 ∷ []) (omega arith)) fine

-- an answer of `stamp` for an accepted network is safe
pub stamp_safe : (granule : Units) (network : Network) → IsInRange network → (octets trace : List ℕ) (a : Answer) → MeansAccepted octets network
    → IsStampAnswer granule trace network a
    → IsSafe (IsStampedRun (amount granule) octets trace) (IsStampedToFault (amount granule) octets trace) IsStampRefusal a
stamp_safe granule network range octets trace a m (inl refused) =
    subst (IsSafe (IsStampedRun (amount granule) octets trace) (IsStampedToFault (amount granule) octets trace) IsStampRefusal) (sym refused.1)
    (record { safe = inl (inr (inr (inr (least_granule network, refl)))); whole = λ old new puts. tt })
stamp_safe granule network range octets trace a m (inr run) =
    let units = amount granule in
    trace_safe (IsStampedRun units octets trace) (IsStampedToFault units octets trace) IsStampRefusal (stamp_lines units) trace network
    (λ events notes admitted records. of_whole octets trace network range m events admitted notes _ records
    (tells_whole units octets trace network range m run.0 events notes admitted records, refl))
    (λ events notes fault admitted there records. of_fault octets trace network range m events admitted notes _ fault there records
    (tells_to_fault units octets trace network range m run.0 events notes admitted records, refl)) a run.1

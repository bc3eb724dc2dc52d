-- The lines of votes along a run, and what they tell of a sender that is outvoted.
use Rattle.std.{specs.{Io.KnownBytes.Appends, Prelude.{OnErr, OnOk, option_and_then, option_map, slice_get}}}
use Rattle.std.proofs.Common
use Common.{◌%◌, ◌*◌, ◌-◌, ◌/◌, ◌≢◌, Err, None, Ok, Result, append_assoc, cond, find, get_or, nat_lt, suc, zero}
use Rattle.std.proofs.lemmas.{Bool.{cases_lt, false_from_ne_true, lt-ltb, ltb-true}, List.length-map}
use Rattle.std.proofs.lemmas.{Option.{same_Some, slice_get_read, slice_get_within}}
use Rattle.device_rules.specs.frames.traced.RecordOctets.{record_octets}
use Rattle.drift_clock.specs.Segment.{fresh_segment, segment_reading, stepped_segment}
use Rattle.net_plan.{proofs.SameIds.same_vl}
use Rattle.net_plan.specs.{Bearers.vl_names, Belonging.device_name, Places.{device_at, is_end_system}, Ranges.IsInRange}
use Rattle.net_plan.specs.{declared.tables.Device.Device}
use Rattle.precision_law.specs.traffic.safety.{Headline.IsEventOf, Under.scenario_of}
use Rattle.run_law.{proofs.{records.Order.as_many, runs.{NetworkRuns.one_more, Places.{in_left, in_right}}}}
use Rattle.run_law.specs.{law.Safety.{FramesAreDelivered, IsOwed}, records.{Happenings.happening, Order.IsIn}}
use Rattle.run_law.specs.{scenario.Scenarios.Scenario}
use Rattle.schedule_checker.specs.Refusals.{RefusalIsOne}
use Rattle.trace_text.proofs.WordsBack.{place_found}
use Rattle.tte_forms.{specs.{Answering.{ForOctets, line_answer}, Putting.PutFails, networks.Accepting.IsNetworkAnswer}}
use Rattle.tte_forms.proofs.{frames.Frames.Gives-behind, networks.Answers.{accepted_alone, network_answer_one}}
use Rattle.tte_forms.proofs.Puts
use Puts.{PutFails-behind, PutFails-more, PutsLines-append, PutsLines-fails, PutsLines-more, answer_widened, one_given}
use Rattle.tte_io.specs.{Faults.next_count, Told.AppendsFront, declared.ends.Sink.Ghosts}
use Rattle.tte_observers.proofs.votes_lemmas.{law_lemmas.Outvoted.two_outvote_the_third}
use Rattle.tte_observers.proofs.votes_lemmas.Words
use Words.{if◌then◌else◌, ◌++◌, ◌+◌, ◌<◌, ◌^◌, ◌∙◌, ◌∷◌, ◌≡◌, ◌≤◌, ◌⊎◌, Answer, AreNamed, Bool, DeviceId, Done, Event}
use Words.{Gives, GivesAnswer, GivesOne, Happening, IsTraceAnswer, IsVoteAnswer, List, MayThey, MeansAccepted}
use Words.{NameRefused, Names, Network, Note, Option, PutsLines, PutsLines-none, ReadFault, Shown, Some, Status}
use Words.{VirtualLink, VlId, VoteRefused, Voters, Votes, VotesEnd, WriteFault, [], ap, append-nil, arith, ballot_of}
use Words.{false, fault_lines, fault_status, for_all, for_more, happenings, inl, inr, key_of, length, lines_at}
use Words.{no_lines, refl, shown_by, subst, sym, true, vote_lines, voted, ℕ}
use Rattle.tte_observers.specs.{declared.votes.{ballots.votes.KeptVotes.KeptVotes, voter.Voter.Voter}}
use Rattle.tte_observers.specs.votes.{Ending.VoteEnds, Putting.PutsAll, Safely.TwoOutvote}
use Rattle.tte_observers.specs.votes.{Streaming.{IsOfRun, VoteStops, VoteTakesLittle}}
use Rattle.tte_observers.specs.votes.{VoteLines.{ballot_lines, is_cast, lines_before, lines_by_first, vote_line}}
use Rattle.tte_observers.specs.votes.{Voting.{SeesVotes, StopsVotes}, ballots.Keeping.{AreOpenFrom, IsNext}}
use Rattle.tte_observers.specs.votes.{tmr.Vote.no_votes}
use Rattle.tte_observers.specs.votes.Answer.{IsFirstUnknown, IsNamed, IsUnknown, IsVoteRefusal, IsVoteStatus, IsVoting}
use Rattle.tte_observers.specs.votes.Answer.{name_line}
use Rattle.tte_observers.specs.votes.law.{Ballots.{is_delivery, payload_in, payload_taken}}
use Rattle.tte_observers.specs.votes.law.{Outvoting.{AreTwoOwed, sent_payload}, Voting.are_matches}
use Rattle.tte_traces.proofs.{Answers.{IsFaultBehind, faulty_answer, faulty_is, trace_answer_one, whole_is}}
use Rattle.tte_traces.proofs.{Given.all_done, Runs.trace_answers_exist}
use Rattle.tte_traces.proofs.Ends.{done_no_read, fault_no_read, for_stopped, little_at, little_so_far, puts_shown}
use Rattle.tte_traces.proofs.Ends.{trace_ended, trace_given, trace_stopped, writes_answer}
use Rattle.tte_traces.specs.{Along.{IsAllAdmitted, PutsAlong}, Answer.IsRunStatus}
use Rattle.tte_traces.specs.{Lines.{AreAdmitted, IsFault, behind_lines}, Report.{StopsLines, shown_as}, Taking.IsStopAt}
use Rattle.tte_traces.specs.{declared.{fault.{TraceFault.TraceFault, TraceStop.TraceStop}, lines.Trace.Trace}}
use Rattle.tte_units.proofs.general_lemmas.Options.{opened}
use Rattle.world_drive.specs.{Driving.{DrivesAll, DrivesSoFar}, Observing.{Sees, Stops, Told, told_by}}
use Rattle.world_drive.specs.{declared.observing.Cut.Cut}
use Rattle.world_drive.specs.{exact.{Records.{AreAllRecords, AreRecordsSoFar}, Worlds.{ExactWorld, StandsExact}}}
use Rattle.tte_io.specs.declared.ends.Sink as sinks
use Rattle.tte_io.specs.declared.ends.Source as sources
use Rattle.tte_traces.specs.declared.fault.TraceStop.TheVariants as ends
use Rattle.world_drive.specs.declared.observing.Cut.TheVariants as cuts

-- ---- the observer of `vote` puts nothing along the run

-- what it sees
abbrev pub vote_sees : Sees Voter
vote_sees network events notes instant old put it = SeesVotes network notes old put it

abbrev pub vote_stops : Stops Voter
vote_stops network events notes cut old put = StopsVotes old put

-- the answers that it is for
abbrev pub IsOwn : Voter → List ℕ → Network → Answer → Type 0
IsOwn begun octets network a = IsTraceAnswer (vote_lines begun.votes.voters) octets network a

none_along : (old put : Told) → put ≡ old → PutsLines [] (shown_as old) (shown_as put)
none_along old put same = subst (λ t. PutsLines [] (shown_as old) (shown_as t)) (sym same) (PutsLines-none (shown_as old))

none_stops : (cut : Cut) (old put : Told) → put ≡ old → StopsLines [] cut old put
none_stops cuts.WriteFault old put same = inr (none_along old put same)
none_stops cuts.OutOfMemory old put same = none_along old put same

pub votes_along : (begun : Voter) → PutsAlong begun vote_sees vote_stops no_lines (IsOwn begun)
votes_along begun = record {
  at_first = λ network. refl;
  so_far = λ network events notes old put o run seen. none_along old put seen.nothing;
  all = λ network octets events notes old put o admitted run seen. none_along old put seen.nothing;
  front = λ network octets events notes admitted run a is. (a.lines, refl);
  short = λ network octets events next befallen notes cut old put at stops. ([], none_stops cut old put stops, λ a is. (a.lines, refl));
}

-- ---- how `vote` ends, where the drive came to its end or to a fault: the votes are put, and all is passed on

-- ---- the answer that was given

module _ (voters : Voters) (network : Network) (octets : List ℕ) (events : List Event) (notes : List Note) (status : Status) (old new : Shown) where
  pub whole_given : IsAllAdmitted network octets events → AreAllRecords network events notes
      → Gives (record { status = Done; lines = vote_lines voters network events notes }) status old new
      → GivesOne (IsTraceAnswer (vote_lines voters) octets network) status old new
  whole_given all records g =
      let answer : Answer = record { status = Done; lines = vote_lines voters network events notes } in
      let is : IsTraceAnswer (vote_lines voters) octets network answer = record {
        events = events;
        admitted = all.admitted;
        is = inl (record { ended = all.ended; none_left = all.none_left; notes = notes; records = records; answer = refl });
      } in
      one_given (IsTraceAnswer (vote_lines voters) octets network) answer status old new is
      (λ b i. whole_is (vote_lines voters) network octets events notes b all records i) g

  pub fault_given : (fault : TraceFault) → IsFaultBehind network octets events fault → AreRecordsSoFar network events notes
      → Gives (faulty_answer (vote_lines voters) network events notes fault) status old new
      → GivesOne (IsTraceAnswer (vote_lines voters) octets network) status old new
  fault_given fault b records g =
      let answer = faulty_answer (vote_lines voters) network events notes fault in
      let is : IsTraceAnswer (vote_lines voters) octets network answer = record {
        events = events;
        admitted = b.admitted;
        is = inr (record { fault = fault; is = b.is; notes = notes; records = records; answer = refl });
      } in
      one_given (IsTraceAnswer (vote_lines voters) octets network) answer status old new is
      (λ a i. faulty_is (vote_lines voters) network octets events notes fault a b records i) g

-- ---- behind a drive by which nothing was put

module _ {B K : Type 0} (source : sources.Ghosts B) (sink : sinks.Ghosts K) (begun : Voter) (network : Network) (first : B) (origin : Trace) (now : B)
    (trace : Trace) (old put : K) where
  -- what was put behind it is all that was put
  all_of : (a : Answer) (status : Status) (new : K) → told_by sink put ≡ told_by sink old → Gives a status (shown_by sink put) (shown_by sink new)
      → Gives a status (shown_by sink old) (shown_by sink new)
  all_of a status new same g =
      let none : PutsLines [] (shown_as (told_by sink old)) (shown_as (told_by sink put)) =
      subst (λ t. PutsLines [] (shown_as (told_by sink old)) (shown_as t)) (sym same) (PutsLines-none (shown_as (told_by sink old))) in
      Gives-behind a status (puts_shown sink [] old put none) g

  abbrev Ends : Status → K → Type 0
  Ends status new = VotesEnd begun.votes.voters network (source.left first) (source.left now) status (shown_by sink old) (shown_by sink new)

  -- all events befell
  pub ends_all : {X : Type 0} (world : ExactWorld) (it : Voter) (status : Status) (new : K)
      → (d : DrivesAll sink (trace_ended source) vote_sees network first origin now trace world begun it old put)
      → Gives (record { status = Done; lines = vote_lines begun.votes.voters network [] d.notes }) status (shown_by sink put) (shown_by sink new)
      → (status ≡ Done) ⊎ ((status ≡ WriteFault) × X) → Ends status new
  ends_all world it status new d g which =
      let a : Answer = record { status = Done; lines = vote_lines begun.votes.voters network d.events d.notes } in
      record {
        general =
            for_more (source.left first) (λ octets. AreAdmitted network octets d.events × (behind_lines (length d.events) octets ≡ []))
            (λ octets. GivesOne (IsTraceAnswer (vote_lines begun.votes.voters) octets network) status (shown_by sink old) (shown_by sink new))
            (λ octets e.
            whole_given begun.votes.voters network octets d.events d.notes status (shown_by sink old) (shown_by sink new)
            (record { admitted = e.0; ended = d.have_ended; none_left = e.1 }) d.records (all_of a status new d.sees.nothing g)) d.ended.some;
        cut = λ is. absurd (done_no_read status which is);
        little =
            little_so_far source sink begun vote_sees vote_stops no_lines (IsOwn begun) (votes_along begun) network first origin now trace old put d.events
            (shown_by sink new) (λ octets told. let e = d.ended.all octets told in (e.0, e.1, e.2)) d.ended.few d.so_far
            (writes_answer a status g);
      }

  -- the trace has a fault
  pub ends_fault : {X : Type 0} (it : Voter) (stop : TraceStop) (fault : TraceFault) (line : ℕ) (status : Status) (new : K)
      → (d : DrivesSoFar sink (trace_stopped source sink) vote_sees network first origin stop now trace begun it old put) → stop ≡ ends.Fault fault
      → line ≡ trace.lines + 1
      → Gives (record { status = fault_status fault; lines = vote_lines begun.votes.voters network [] d.notes ++ fault_lines line fault }) status
      (shown_by sink put) (shown_by sink new) → (status ≡ fault_status fault) ⊎ ((status ≡ WriteFault) × X) → Ends status new
  ends_fault it stop fault line status new d is number g which =
      let count : line ≡ length d.events + 1 = number ∙ ap (λ n. n + 1) d.stopped.lines in
      let a = faulty_answer (vote_lines begun.votes.voters) network d.events d.notes fault in
      let gives : Gives a status (shown_by sink put) (shown_by sink new) =
      subst (λ (n : ℕ). Gives (record { status = fault_status fault; lines = vote_lines begun.votes.voters network [] d.notes ++ fault_lines n fault }) status
      (shown_by sink put) (shown_by sink new)) count g in
      record {
        general =
            for_stopped source sink begun vote_sees vote_stops no_lines (IsOwn begun) (votes_along begun) network first origin now trace old put it stop d
            (λ octets. GivesOne (IsTraceAnswer (vote_lines begun.votes.voters) octets network) status (shown_by sink old) (shown_by sink new))
            (λ octets admitted at.
            let behind : IsFault network d.events (behind_lines (length d.events) octets) fault =
            subst (IsStopAt network d.events (behind_lines (length d.events) octets)) is at in
            fault_given begun.votes.voters network octets d.events d.notes status (shown_by sink old) (shown_by sink new) fault
            (record { admitted = admitted; is = behind }) d.so_far (all_of a status new d.sees.nothing gives));
        cut = λ read. absurd (fault_no_read fault status which read);
        little =
            little_at source sink begun vote_sees vote_stops no_lines (IsOwn begun) (votes_along begun) network first origin now trace old put it stop d
            (shown_by sink new) (writes_answer a status gives);
      }

-- ---- the answer of `vote` is one, and valid input is answered to its end: the names

named_one : (network : Network) {name : List ℕ} (vl other : VlId) → IsNamed network name vl
    → IsNamed network name other → vl ≡ other
named_one network {name} vl other p q =
    let here = place_found (vl_names network.vl) name vl.0 p in
    let there = place_found (vl_names network.vl) name other.0 q in
    let same : vl.0 ≡ other.0 = cc in same_vl vl other same

-- a word names one virtual link, or none
not_both : (network : Network) {name : List ℕ} (vl : VlId) → IsNamed network name vl → IsUnknown network name → ⊥
not_both network vl named none = none vl.0 named.bears

abbrev the_voters : VlId → VlId → VlId → Voters
the_voters a b c = record { first = a; second = b; third = c }

module _ (network : Network) (names : Names) where
  voters_one : {voters other : Voters} → AreNamed network names voters → AreNamed network names other → voters ≡ other
  voters_one {voters} {other} p q =
      ap (λ v. the_voters v voters.second voters.third)
      (named_one network voters.first other.first p.first q.first)
      ∙ ap (λ v. the_voters other.first v voters.third)
      (named_one network voters.second other.second p.second q.second)
      ∙ ap (λ v. the_voters other.first other.second v)
      (named_one network voters.third other.third p.third q.third)

  -- where all words name virtual links, none is unknown
  all_known : {voters : Voters} (place : ℕ) → AreNamed network names voters → IsFirstUnknown network names place → ⊥
  all_known {voters} place named (inl (is, none)) = not_both network voters.first named.first none
  all_known {voters} place named (inr (inl (vl, is, one, none))) = not_both network voters.second named.second none
  all_known {voters} place named (inr (inr (vl, other, is, one, two, none))) =
      not_both network voters.third named.third none

  -- the first unknown word stands at one place
  unknown_one : (place other : ℕ) → IsFirstUnknown network names place → IsFirstUnknown network names other
      → place ≡ other
  unknown_one place other (inl p) (inl q) = p.0 ∙ sym q.0
  unknown_one place other (inl p) (inr (inl q)) = absurd (not_both network q.0 q.2 p.1)
  unknown_one place other (inl p) (inr (inr q)) = absurd (not_both network q.0 q.3 p.1)
  unknown_one place other (inr (inl p)) (inl q) = absurd (not_both network p.0 p.2 q.1)
  unknown_one place other (inr (inl p)) (inr (inl q)) = p.1 ∙ sym q.1
  unknown_one place other (inr (inl p)) (inr (inr q)) = absurd (not_both network q.1 q.4 p.3)
  unknown_one place other (inr (inr p)) (inl q) = absurd (not_both network p.0 p.3 q.1)
  unknown_one place other (inr (inr p)) (inr (inl q)) = absurd (not_both network p.1 p.4 q.3)
  unknown_one place other (inr (inr p)) (inr (inr q)) = p.2 ∙ sym q.2

-- ---- the virtual links

same_link : (network : Network) (vl : VlId) (a b : VirtualLink) → slice_get network.vl vl.0 ≡ Some a → slice_get network.vl vl.0 ≡ Some b → a ≡ b
same_link network vl a b p q = same_Some a b (sym p ∙ q)

-- they may vote, or they may not
may_one : {network : Network} {voters : Voters} {may other : Bool} → MayThey network voters may
    → MayThey network voters other → may ≡ other
may_one {network} {voters} (a, b, c, p) (d, e, f, q) =
    sym p.told
    ∙ ap (λ x. are_matches x b c) (same_link network voters.first a d p.first q.first)
    ∙ ap (λ x. are_matches d x c) (same_link network voters.second b e p.second q.second)
    ∙ ap (λ x. are_matches d e x) (same_link network voters.third c f p.third q.third)
    ∙ q.told

module _ (network : Network) (names : Names) where
  not_may : {voters other : Voters} → AreNamed network names voters → AreNamed network names other
      → MayThey network voters true → MayThey network other false → ⊥
  not_may p q may not =
      let same = voters_one network names q p in
      let no : true ≡ false = may_one may (subst (λ v. MayThey network v false) same not) in absurd cc

  -- ---- the answer

  refusal_one : (a b : Answer) → IsVoteRefusal names network a → IsVoteRefusal names network b → a ≡ b
  refusal_one a b (inl p) (inl q) =
      p.2 ∙ ap (λ n. line_answer NameRefused (name_line n)) (unknown_one network names p.0 q.0 p.1 q.1) ∙ sym q.2
  refusal_one a b (inl p) (inr q) = absurd (all_known network names p.0 q.1 p.1)
  refusal_one a b (inr p) (inl q) = absurd (all_known network names q.0 p.1 q.1)
  refusal_one a b (inr p) (inr q) = p.3 ∙ sym q.3

  -- where they vote there is no refusal
  no_refusal : {voters : Voters} (a : Answer) → AreNamed network names voters → MayThey network voters true
      → IsVoteRefusal names network a → ⊥
  no_refusal a named may (inl p) = all_known network names p.0 named p.1
  no_refusal a named may (inr p) = not_may named p.1 may p.2

  voting_alone : {trace : List ℕ} {voters : Voters} {a : Answer} → AreNamed network names voters
      → IsVoting names trace network a → IsTraceAnswer (vote_lines voters) trace network a
  voting_alone {trace} {a} named p =
      subst (λ v. IsTraceAnswer (vote_lines v) trace network a) (voters_one network names p.1 named) p.3

vote_answer_one : (names : Names) (trace : List ℕ) (network : Network) (a b : Answer) → IsVoteAnswer names trace network a
    → IsVoteAnswer names trace network b → a ≡ b
vote_answer_one names trace network a b (inl p) (inl q) = refusal_one network names a b p q
vote_answer_one names trace network a b (inl p) (inr q) = absurd (no_refusal network names a q.1 q.2 p)
vote_answer_one names trace network a b (inr p) (inl q) = absurd (no_refusal network names b p.1 p.2 q)
vote_answer_one names trace network a b (inr p) (inr q) =
    trace_answer_one (vote_lines p.0) network trace a b p.3 (voting_alone network names p.1 q)

-- the octets of a network file and of a trace have one answer
pub vote_one : RefusalIsOne → (names : Names) {octets : List ℕ} (trace : List ℕ) (a b : Answer)
    → IsNetworkAnswer (IsVoteAnswer names trace) octets a → IsNetworkAnswer (IsVoteAnswer names trace) octets b
    → a ≡ b
vote_one one names {octets} trace a b p q =
    network_answer_one one (IsVoteAnswer names trace) octets (λ network accepted. vote_answer_one names trace network) a b p q

done_of : {names : Names} {trace : List ℕ} {network : Network} {events : List Event} {voters : Voters} {a : Answer}
    → AreNamed network names voters → MayThey network voters true → IsAllAdmitted network trace events
    → IsVoteAnswer names trace network a → a.status ≡ Done
done_of {names} {network} {a} named may all (inl p) = absurd (no_refusal network names a named may p)
done_of {names} {trace} {network} {events} {voters} {a} named may all (inr p) =
    all_done (vote_lines voters) trace network events a all (voting_alone network names named p)

-- an accepted network under a trace that is admitted to its end is voted to its end, where the words name virtual links
-- that may vote
pub vote_done : {names : Names} {octets trace : List ℕ} {network : Network} {events : List Event} {voters : Voters}
    → MeansAccepted octets network → AreNamed network names voters → MayThey network voters true
    → IsAllAdmitted network trace events → (a : Answer) → IsNetworkAnswer (IsVoteAnswer names trace) octets a
    → a.status ≡ Done
vote_done {names} {octets} {trace} {network} m named may all a is =
    done_of named may all (accepted_alone (IsVoteAnswer names trace) octets network m a is)

-- ---- how `vote` ends

-- a virtual link that is read is the network's
pub vl_read : (xs ys : List VirtualLink) (i : ℕ) (x : VirtualLink) → xs ≡ ys → i < length ys → x ≡ get_or xs i x → slice_get ys i ≡ Some x
vl_read xs ys i x same less at = slice_get_read ys (length ys) i x refl less (at ∙ ap (λ (zs : List VirtualLink). get_or zs i x) same)

-- a virtual link that is named is one of the network's
pub named_there : (network : Network) {name : List ℕ} (vl : VlId) → IsNamed network name vl → vl.0 < length network.vl
named_there network {name} vl named =
    let within = slice_get_within (vl_names network.vl) vl.0 name named.bears in
    let many = length-map network.vl (λ (v : VirtualLink). v.name) in omega (arith, within, many)

module _ (names : Names) (network : Network) {Unread : Type 0} (second left : Option (List ℕ)) (status : Status) (old new : Shown) where
  -- an answer was given
  pub general_of : IsInRange network → VoteEnds names network Unread second left status old new
      → ForOctets second (λ trace. GivesAnswer (IsVoteAnswer names trace network) status old new)
  general_of range (inl (a, is, given, not, unread)) =
      for_all second (λ trace. GivesAnswer (IsVoteAnswer names trace network) status old new) (λ trace. inl (a, inl is, given))
  general_of range (inr (voters, named, may, ends, of)) =
      for_more second (λ trace. GivesAnswer (IsTraceAnswer (vote_lines voters) trace network) status old new)
      (λ trace. GivesAnswer (IsVoteAnswer names trace network) status old new)
      (λ trace h. answer_widened (IsTraceAnswer (vote_lines voters) trace network) (IsVoteAnswer names trace network) status old new
      (λ a is. inr (voters, named, may, is)) h)
      (trace_given (λ trace. IsTraceAnswer (vote_lines voters) trace network) second status old new
      (λ trace. trace_answers_exist (vote_lines voters) network trace range) ends.general)

  -- where a read failed, nothing was put
  pub stops_of : (first : Option (List ℕ)) → ForOctets first (λ octets. MeansAccepted octets network) → status ≡ ReadFault
      → VoteEnds names network Unread second left status old new → VoteStops first second left old new
  stops_of first means is (inl (a, refused, given, not, unread)) = absurd (not is)
  stops_of first means is (inr (voters, named, may, ends, of)) = let cut = ends.cut is in (cut.0, (network, means, cut.1))

  -- little was taken of the trace, or it is unread
  pub little_of : (first : Option (List ℕ)) → ForOctets first (λ octets. MeansAccepted octets network)
      → VoteEnds names network Unread second left status old new → Unread ⊎ (IsOfRun status × VoteTakesLittle first second left old new)
  little_of first means (inl (a, refused, given, not, unread)) = inl unread
  little_of first means (inr (voters, named, may, ends, of)) = inr (of, (network, means, ends.little))

-- ---- the statuses

pub vote_status : (status : Status) → IsRunStatus status → IsVoteStatus status
vote_status NameRefused is = tt
vote_status VoteRefused is = tt
vote_status other is = is

pub of_run : (status : Status) → IsRunStatus status → IsOfRun status
of_run status is = (λ same. subst IsRunStatus same is, λ same. subst IsRunStatus same is)

-- a refusal is no failed read
pub not_read : {PutFails : Type 0} (wanted status : Status) → (wanted ≡ ReadFault → ⊥) → (status ≡ wanted) ⊎ ((status ≡ WriteFault) × PutFails)
    → status ≢ ReadFault
not_read wanted status not (inl is) read = not (sym is ∙ read)
not_read wanted status not (inr w) read = let is = w.0 in cc

-- ---- the lines of votes by the places of their ballots

abbrev pub the_device : ℕ → DeviceId
the_device n = record { 0 = n }

module _ (network : Network) (voters : Voters) (hs : List Happening) where
  -- the line of the ballot of a cycle at a device, if it has one
  abbrev pub lines_of : ℕ → ℕ → List (List ℕ)
  lines_of cycle device = lines_at network cycle (the_device device) (ballot_of voters hs cycle (the_device device))

  -- the lines of the ballots before a place
  unfoldable pub lines_to : ℕ → List (List ℕ)
  lines_to zero = []
  lines_to (suc k) = lines_to k ++ lines_of (k / 2 ^ 32) (k % 2 ^ 32)

  pub lines_none : lines_to 0 ≡ []
  unfolding lines_to
  lines_none = refl

  pub lines_more : (k : ℕ) → lines_to (suc k) ≡ lines_to k ++ lines_of (k / 2 ^ 32) (k % 2 ^ 32)
  unfolding lines_to
  lines_more k = refl

  -- those before the place of a cycle and a device, and its own
  pub lines_next : (cycle device : ℕ) → device < 2 ^ 32 → lines_to (cycle * 2 ^ 32 + device + 1) ≡ lines_to (cycle * 2 ^ 32 + device) ++ lines_of cycle device
  lines_next cycle device less =
      let k = cycle * 2 ^ 32 + device in
      let next : k + 1 ≡ suc k = omega arith in
      let one : k / 2 ^ 32 ≡ cycle = omega (arith, less) in
      let two : k % 2 ^ 32 ≡ device = omega (arith, less) in
      ap lines_to next ∙ lines_more k ∙ ap (λ c. lines_to k ++ lines_of c (k % 2 ^ 32)) one ∙ ap (λ d. lines_to k ++ lines_of cycle d) two

  -- lines of more places begin with those of fewer
  pub lines_front : (k n : ℕ) → k ≤ n → (rest : List (List ℕ)) × (lines_to n ≡ lines_to k ++ rest)
  lines_front k zero le =
      let none : zero ≡ k = omega (arith, le) in ([], ap lines_to none ∙ sym (append-nil (lines_to k)))
  lines_front k (suc m) le = elim (cases_lt m k) [
    | inl lt ↦ (let all : suc m ≡ k = omega (arith, le, lt) in ([], ap lines_to all ∙ sym (append-nil (lines_to k))))
    | inr ge ↦
        (let r = lines_front k m ge in
        let own = lines_of (m / 2 ^ 32) (m % 2 ^ 32) in
        (r.0 ++ own, lines_more m ∙ ap (λ (ls : List (List ℕ)). ls ++ own) r.1 ∙ append_assoc (lines_to k) r.0 own))
  ]

  -- ---- the devices of a cycle

  within : (b : Bool) (votes : Votes) (cycle device : ℕ) → b ≡ true
      → (if b then ballot_lines network cycle (the_device device) votes else []) ≡ ballot_lines network cycle (the_device device) votes
  within true votes cycle device e = refl
  within false votes cycle device e = absurd cc

  beyond : (b : Bool) (votes : Votes) (cycle device : ℕ) → b ≡ false → (if b then ballot_lines network cycle (the_device device) votes else []) ≡ []
  beyond true votes cycle device e = absurd cc
  beyond false votes cycle device e = refl

  lines_own : (cycle device : ℕ) → device < length network.device
      → lines_of cycle device ≡ ballot_lines network cycle (the_device device) (ballot_of voters hs cycle (the_device device))
  lines_own cycle device less =
      within (nat_lt device (length network.device)) (ballot_of voters hs cycle (the_device device)) cycle device (lt-ltb device (length network.device) less)

  lines_beyond : (cycle device : ℕ) → length network.device ≤ device → lines_of cycle device ≡ []
  lines_beyond cycle device le =
      let n = length network.device in
      beyond (nat_lt device n) (ballot_of voters hs cycle (the_device device)) cycle device
      (false_from_ne_true (nat_lt device n) (λ is. let less = ltb-true device n is in omega (arith, le, less)))

  by_one : (cycle k : ℕ) → lines_by_first network voters hs cycle (suc k) ≡ lines_by_first network voters hs cycle k
      ++ ballot_lines network cycle (the_device k) (ballot_of voters hs cycle (the_device k))
  unfolding lines_by_first
  by_one cycle k = refl

  by_none : (cycle : ℕ) → lines_by_first network voters hs cycle 0 ≡ []
  unfolding lines_by_first
  by_none cycle = refl

  -- up to a device of the network
  lines_within : (cycle d : ℕ) → d ≤ length network.device → length network.device < 2 ^ 32
      → lines_to (cycle * 2 ^ 32 + d) ≡ lines_to (cycle * 2 ^ 32) ++ lines_by_first network voters hs cycle d
  lines_within cycle zero le few =
      let first = lines_to (cycle * 2 ^ 32) in
      let same : cycle * 2 ^ 32 + 0 ≡ cycle * 2 ^ 32 = omega arith in
      ap lines_to same ∙ sym (append-nil first) ∙ ap (λ (ls : List (List ℕ)). first ++ ls) (sym (by_none cycle))
  lines_within cycle (suc d) le few =
      let first = lines_to (cycle * 2 ^ 32) in
      let own = ballot_lines network cycle (the_device d) (ballot_of voters hs cycle (the_device d)) in
      let front = lines_by_first network voters hs cycle d in
      let next : cycle * 2 ^ 32 + suc d ≡ cycle * 2 ^ 32 + d + 1 = omega arith in
      ap lines_to next
      ∙ lines_next cycle d (omega (arith, le, few))
      ∙ ap (λ (ls : List (List ℕ)). ls ++ lines_of cycle d) (lines_within cycle d (omega (arith, le)) few)
      ∙ ap (λ (ls : List (List ℕ)). (first ++ front) ++ ls) (lines_own cycle d (omega (arith, le)))
      ∙ append_assoc first front own
      ∙ ap (λ (ls : List (List ℕ)). first ++ ls) (sym (by_one cycle d))

  -- the others have none
  lines_behind : (cycle k : ℕ) → length network.device + k ≤ 2 ^ 32
      → lines_to (cycle * 2 ^ 32 + (length network.device + k)) ≡ lines_to (cycle * 2 ^ 32 + length network.device)
  lines_behind cycle zero le =
      let same : cycle * 2 ^ 32 + (length network.device + 0) ≡ cycle * 2 ^ 32 + length network.device = omega arith in ap lines_to same
  lines_behind cycle (suc k) le =
      let n = length network.device in
      let next : cycle * 2 ^ 32 + (n + suc k) ≡ cycle * 2 ^ 32 + (n + k) + 1 = omega arith in
      ap lines_to next
      ∙ lines_next cycle (n + k) (omega (arith, le))
      ∙ ap (λ (ls : List (List ℕ)). lines_to (cycle * 2 ^ 32 + (n + k)) ++ ls) (lines_beyond cycle (n + k) (omega arith))
      ∙ append-nil (lines_to (cycle * 2 ^ 32 + (n + k)))
      ∙ lines_behind cycle k (omega (arith, le))

  -- ---- the cycles

  before_one : (cycle : ℕ) → lines_before network voters hs (suc cycle) ≡ lines_before network voters hs cycle
      ++ lines_by_first network voters hs cycle (length network.device)
  unfolding lines_before
  before_one cycle = refl

  before_none : lines_before network voters hs 0 ≡ []
  unfolding lines_before
  before_none = refl

  lines_cycles : (cycle : ℕ) → length network.device < 2 ^ 32 → lines_to (cycle * 2 ^ 32) ≡ lines_before network voters hs cycle
  lines_cycles zero few = lines_none ∙ sym before_none
  lines_cycles (suc cycle) few =
      let n = length network.device in
      let first = lines_to (cycle * 2 ^ 32) in
      let own = lines_by_first network voters hs cycle n in
      let left = 2 ^ 32 - n in
      let whole : suc cycle * 2 ^ 32 ≡ cycle * 2 ^ 32 + (n + left) = omega (arith, few) in
      ap lines_to whole
      ∙ lines_behind cycle left (omega (arith, few))
      ∙ lines_within cycle n (omega arith) few
      ∙ ap (λ (ls : List (List ℕ)). ls ++ own) (lines_cycles cycle few)
      ∙ sym (before_one cycle)

  -- the lines of all places
  pub lines_all : length network.device < 2 ^ 32 → lines_before network voters hs (2 ^ 32) ≡ lines_to (2 ^ 64)
  lines_all few =
      let all : 2 ^ 32 * 2 ^ 32 ≡ 2 ^ 64 = omega arith in sym (lines_cycles (2 ^ 32) few) ∙ ap lines_to all

-- ---- ballots on which nothing is cast

open_lines : (network : Network) (cycle device : ℕ) (votes : Votes) → votes ≡ no_votes → lines_at network cycle (the_device device) votes ≡ []
open_lines network cycle device votes e =
    ap (λ v. lines_at network cycle (the_device device) v) e ∙ either (nat_lt device (length network.device))
  where
    either : (b : Bool) → (if b then ballot_lines network cycle (the_device device) no_votes else []) ≡ []
    either true = refl
    either false = refl

module _ (network : Network) (voters : Voters) (ns : List Note) where
  -- from a place up to another there are none
  pub lines_open : (from to : ℕ) → from ≤ to → to ≤ 2 ^ 64 → AreOpenFrom network voters ns from to
      → lines_to network voters (happenings network ns) to ≡ lines_to network voters (happenings network ns) from
  lines_open from zero le most opened =
      let same : zero ≡ from = omega (arith, le) in ap (lines_to network voters (happenings network ns)) same
  lines_open from (suc m) le most opened = elim (cases_lt m from) [
    | inl lt ↦ (let all : suc m ≡ from = omega (arith, le, lt) in ap (lines_to network voters (happenings network ns)) all)
    | inr ge ↦
        (let hs = happenings network ns in
        let cycle = m / 2 ^ 32 in
        let device = m % 2 ^ 32 in
        let small : cycle < 2 ^ 32 = omega (arith, most) in
        let less : device < 2 ^ 32 = omega arith in
        let at : key_of cycle (the_device device) ≡ m = omega arith in
        let none = opened cycle (the_device device) small less (omega (arith, at, ge)) (omega (arith, at)) in
        let own = lines_of network voters hs cycle device in
        lines_more network voters hs m
        ∙ ap (λ (ls : List (List ℕ)). lines_to network voters hs m ++ ls)
        (open_lines network cycle device (ballot_of voters hs cycle (the_device device)) none)
        ∙ append-nil (lines_to network voters hs m)
        ∙ lines_open from m ge (omega (arith, most)) (λ c d a b f t. opened c d a b f (omega (arith, t))))
  ]

  -- those up to the next ballot that is kept, and its own
  pub lines_given : (from cycle : ℕ) (device : DeviceId) (ballot : Votes) (left : KeptVotes) → IsNext network voters ns from cycle device ballot left
      → lines_to network voters (happenings network ns) (key_of cycle device + 1)
      ≡ lines_to network voters (happenings network ns) from ++ lines_at network cycle device ballot
  lines_given from cycle device ballot left next =
      let hs = happenings network ns in
      let c = next.in_cycle in
      let d = next.of_device in
      let key = key_of cycle device in
      lines_next network voters hs cycle device.0 d
      ∙ ap (λ (ls : List (List ℕ)). ls ++ lines_of network voters hs cycle device.0)
      (lines_open from key next.not_before (omega (arith, c, d)) next.passed)
      ∙ ap (λ v. lines_to network voters hs from ++ lines_at network cycle device v) (sym next.is)

-- ---- the lines of ballots are put one after another

-- a record that the world gave has the next number
pub number_given : {network : Network} {world : ExactWorld} {events : List Event} (notes : List Note) (note : Note)
    → StandsExact network world events (notes ++ note ∷ []) → note.number ≡ length notes + 1
number_given {network} notes note stands =
    let hs = happenings network notes in
    let due = (stands.is.run.founded hs [] (happening network hs note) (one_more network notes note)).1 in
    due.number ∙ ap (λ n. n + 1) (as_many network notes)

module _ (network : Network) (voters : Voters) (ns : List Note) where
  abbrev to : ℕ → List (List ℕ)
  to k = lines_to network voters (happenings network ns) k

  -- at first
  pub puts_first : (s : Shown) → PutsLines (lines_to network voters (happenings network ns) 0) s s
  puts_first s = subst (λ ls. PutsLines ls s s) (sym (lines_none network voters (happenings network ns))) (PutsLines-none s)

  module _ (from cycle : ℕ) (device : DeviceId) (ballot : Votes) (left : KeptVotes) (next : IsNext network voters ns from cycle device ballot left)
      (old now new : Shown) (puts : PutsLines (lines_to network voters (happenings network ns) from) old now) where
    -- one more ballot
    pub puts_next : PutsLines (lines_at network cycle device ballot) now new
        → PutsLines (lines_to network voters (happenings network ns) (key_of cycle device + 1)) old new
    puts_next own =
        subst (λ ls. PutsLines ls old new) (sym (lines_given network voters ns from cycle device ballot left next))
        (PutsLines-append puts own)

    pub next_within : key_of cycle device + 1 ≤ 2 ^ 64
    next_within = let c = next.in_cycle in let d = next.of_device in omega (arith, c, d)

    -- its put failed
    pub puts_fail : length network.device < 2 ^ 32 → PutFails (lines_at network cycle device ballot) now new
        → PutFails (lines_before network voters (happenings network ns) (2 ^ 32)) old new
    puts_fail few own =
        let hs = happenings network ns in
        let key = key_of cycle device in
        let rest = lines_front network voters hs (key + 1) (2 ^ 64) next_within in
        let fails : PutFails (to (key + 1)) old new =
        subst (λ ls. PutFails ls old new) (sym (lines_given network voters ns from cycle device ballot left next))
        (PutFails-behind (lines_at network cycle device ballot) new puts own) in
        subst (λ ls. PutFails ls old new) (sym (lines_all network voters hs few ∙ rest.1)) (PutFails-more rest.0 fails)

  -- none is left
  pub puts_all : (from : ℕ) (old new : Shown) → length network.device < 2 ^ 32 → from ≤ 2 ^ 64 → AreOpenFrom network voters ns from (2 ^ 64)
      → PutsLines (lines_to network voters (happenings network ns) from) old new
      → PutsLines (lines_before network voters (happenings network ns) (2 ^ 32)) old new
  puts_all from old new few le none puts =
      let hs = happenings network ns in
      subst (λ ls. PutsLines ls old new)
      (sym (lines_all network voters hs few ∙ lines_open network voters ns from (2 ^ 64) le (omega arith) none)) puts

-- ---- one line

-- the line of a ballot with a seat cast, at a device of the network
pub line_of : (network : Network) (cycle : ℕ) (device : DeviceId) (v : Votes) (text : List ℕ) → device.0 < length network.device → is_cast v ≡ true
    → text ≡ vote_line cycle (device_name network device) (voted v) → lines_at network cycle device v ≡ text ∷ []
line_of network cycle device v text less some is =
    by (nat_lt device.0 (length network.device)) (is_cast v) (vote_line cycle (device_name network device) (voted v) ∷ [])
    (lt-ltb device.0 (length network.device) less) some
    ∙ ap (λ (t : List ℕ). t ∷ []) (sym is)
  where
    by : (a b : Bool) (ls : List (List ℕ)) → a ≡ true → b ≡ true → (if a then (if b then ls else []) else []) ≡ ls
    by true true ls e f = refl
    by true false ls e f = absurd cc
    by false b ls e f = absurd cc

-- what it is made of
pub line_text : (text : List ℕ) (cycle : ℕ) (name own : List ℕ) (o p : Option (List ℕ)) → text ≡ vote_line cycle name o → name ≡ own → o ≡ p
    → text ≡ vote_line cycle own p
line_text text cycle name own o p is same equal = is ∙ ap (λ n. vote_line cycle n o) same ∙ ap (λ x. vote_line cycle own x) equal

-- it was put, or its put failed
pub put_one : {T E K : Type 0} (sink : Ghosts K) (r : Result T E) (text : List ℕ) (lines : List (List ℕ)) (old new : K) → lines ≡ text ∷ []
    → OnOk r (Appends (sink.written old) (sink.written new) text) → OnErr r (AppendsFront (sink.written old) (sink.written new) text)
    → sink.puts new ≡ next_count (sink.puts old) → PutsAll sink lines r old new
put_one sink (Ok x) text lines old new is all front counted =
    let a = shown_by sink old in
    record {
      all = subst (λ ls. PutsLines ls a (shown_by sink new)) (sym is)
          (PutsLines-more text (shown_by sink new) (PutsLines-none a) all counted);
      fails = tt {0};
    }
put_one sink (Err e) text lines old new is all front counted =
    let a = shown_by sink old in
    record {
      all = tt {0};
      fails = subst (λ ls. PutFails ls a (shown_by sink new)) (sym is)
          (PutsLines-fails text [] (shown_by sink new) (PutsLines-none a) front counted);
    }

-- ---- a vote stands in the lines

-- a ballot with a value has a seat cast
cast_of : (v : Votes) (payload : List ℕ) → voted v ≡ Some payload → is_cast v ≡ true
cast_of v payload is = by v.first v.second v.third is
  where
    by : (a b c : Option (List ℕ)) → voted (record { first = a; second = b; third = c }) ≡ Some payload
        → is_cast (record { first = a; second = b; third = c }) ≡ true
    by (Some x) b c e = refl
    by None (Some y) c e = refl
    by None None (Some z) e = refl
    by None None None e = absurd cc

-- its line is that of the value
own_line : (network : Network) (cycle : ℕ) (device : DeviceId) (v : Votes) (payload : List ℕ) → voted v ≡ Some payload
    → ballot_lines network cycle device v ≡ vote_line cycle (device_name network device) (Some payload) ∷ []
own_line network cycle device v payload is =
    let line = vote_line cycle (device_name network device) (voted v) in
    cast (is_cast v) (line ∷ []) (cast_of v payload is)
    ∙ ap (λ o. vote_line cycle (device_name network device) o ∷ []) is
  where
    cast : (b : Bool) (ls : List (List ℕ)) → b ≡ true → (if b then ls else []) ≡ ls
    cast true ls e = refl
    cast false ls e = absurd cc

module _ (network : Network) (voters : Voters) (hs : List Happening) (cycle device : ℕ) (payload : List ℕ)
    (is : voted (ballot_of voters hs cycle (the_device device)) ≡ Some payload) where
  abbrev line : List ℕ
  line = vote_line cycle (device_name network (the_device device)) (Some payload)

  in_own : IsIn line (ballot_lines network cycle (the_device device) (ballot_of voters hs cycle (the_device device)))
  in_own = subst (IsIn line) (sym (own_line network cycle (the_device device) (ballot_of voters hs cycle (the_device device)) payload is)) (inl refl)

  in_cycle : (k : ℕ) → device < k → IsIn line (lines_by_first network voters hs cycle k)
  unfolding lines_by_first
  in_cycle zero less = absurd (omega (arith, less))
  in_cycle (suc m) less =
      let front = lines_by_first network voters hs cycle m in
      let own = ballot_lines network cycle (the_device m) (ballot_of voters hs cycle (the_device m)) in
      elim (cases_lt device m) [
        | inl lt ↦ in_left line front own (in_cycle m lt)
        | inr ge ↦
            (let same : device ≡ m = omega (arith, ge, less) in
            in_right line front own
            (subst (λ d. IsIn line (ballot_lines network cycle (the_device d) (ballot_of voters hs cycle (the_device d)))) same in_own))
      ]

  -- before a later cycle
  pub in_lines : (n : ℕ) → cycle < n → device < length network.device → IsIn line (lines_before network voters hs n)
  unfolding lines_before
  in_lines zero less there = absurd (omega (arith, less))
  in_lines (suc m) less there =
      let front = lines_before network voters hs m in
      let own = lines_by_first network voters hs m (length network.device) in
      elim (cases_lt cycle m) [
        | inl lt ↦ in_left line front own (in_lines m lt there)
        | inr ge ↦
            (let same : cycle ≡ m = omega (arith, ge, less) in
            in_right line front own
            (subst (λ c. IsIn line (lines_by_first network voters hs c (length network.device))) same (in_cycle (length network.device) there)))
      ]

-- ---- in a run that goes well two correct senders outvote the third, and the lines tell it

-- ---- records of events add no vote

find_still : {X : Type 0} (p : X → Bool) (xs : List X) (x : X) → p x ≡ false → find p (xs ++ x ∷ []) ≡ find p xs
find_still {X} p [] x e = ap (λ (b : Bool). cond b (Some x) (find p [])) e
find_still {X} p (y ∷ xs) x e = ap (λ (o : Option X). cond (p y) (Some y) o) (find_still p xs x e)

taken_still : (hs : List Happening) (h : Happening) (vl : VlId) (cycle : ℕ) (device : DeviceId) → is_delivery vl cycle device h.note.body ≡ false
    → payload_taken (hs ++ h ∷ []) vl cycle device ≡ payload_taken hs vl cycle device
taken_still hs h vl cycle device e =
    ap (λ (o : Option Happening). option_map payload_in (option_and_then record_octets o))
    (find_still (λ (g : Happening). is_delivery vl cycle device g.note.body) hs h e)

abbrev the_ballot : Option (List ℕ) → Option (List ℕ) → Option (List ℕ) → Votes
the_ballot a b c = record { first = a; second = b; third = c }

ballot_still : (hs : List Happening) (h : Happening) (voters : Voters) (cycle : ℕ) (device : DeviceId)
    → ((vl : VlId) → is_delivery vl cycle device h.note.body ≡ false) → ballot_of voters (hs ++ h ∷ []) cycle device ≡ ballot_of voters hs cycle device
ballot_still hs h voters cycle device e =
    let more = hs ++ h ∷ [] in
    ap (λ o. the_ballot o (payload_taken more voters.second cycle device) (payload_taken more voters.third cycle device))
    (taken_still hs h voters.first cycle device (e voters.first))
    ∙ ap (λ o. the_ballot (payload_taken hs voters.first cycle device) o (payload_taken more voters.third cycle device))
    (taken_still hs h voters.second cycle device (e voters.second))
    ∙ ap (λ o. the_ballot (payload_taken hs voters.first cycle device) (payload_taken hs voters.second cycle device) o)
    (taken_still hs h voters.third cycle device (e voters.third))

no_delivery : {time : ℕ} {n : Note} (vl : VlId) (cycle : ℕ) (device : DeviceId) → IsEventOf time n
    → is_delivery vl cycle device n.body ≡ false
no_delivery vl cycle device is = ap (λ body. is_delivery vl cycle device body) is.is

events_still : (network : Network) (voters : Voters) (cycle : ℕ) (device : DeviceId) (time : ℕ) (front rest : List Note)
    → ((n : Note) → IsIn n rest → IsEventOf time n)
    → ballot_of voters (happenings network (front ++ rest)) cycle device ≡ ballot_of voters (happenings network front) cycle device
events_still network voters cycle device time front [] only = ap (λ ns. ballot_of voters (happenings network ns) cycle device) (append-nil front)
events_still network voters cycle device time front (n ∷ rest) only =
    let hs = happenings network front in
    ap (λ ns. ballot_of voters (happenings network ns) cycle device) (sym (append_assoc front (n ∷ []) rest))
    ∙ events_still network voters cycle device time (front ++ n ∷ []) rest (λ m i. only m (inr i))
    ∙ ap (λ gs. ballot_of voters gs cycle device) (one_more network front n)
    ∙ ballot_still hs (happening network hs n) voters cycle device
    (λ vl. no_delivery vl cycle device (only n (inl refl)))

-- ---- a frame that is owed is owed to a device of the network

module _ (s : Scenario) (hs : List Happening) (until : ℕ) where
  owed_there : {vl : VlId} {of_vl : VirtualLink} {cycle : ℕ} {device : DeviceId}
      → IsOwed s hs until vl of_vl cycle device → device.0 < length s.network.device
  owed_there {device} owed =
      let some = opened (λ (d : Device). is_end_system d.role ≡ true) (device_at s.network device) owed.end_system in
      slice_get_within s.network.device device.0 some.0 some.1

  two_there : (voters : Voters) {a b c : VirtualLink} {cycle : ℕ} {device : DeviceId}
      → AreTwoOwed s hs until voters a b c cycle device → device.0 < length s.network.device
  two_there voters (inl two) = owed_there two.0
  two_there voters (inr (inl two)) = owed_there two.0
  two_there voters (inr (inr two)) = owed_there two.0

-- ---- two outvote the third

-- by records that have the ballots of the run, and where the lines begin with their votes
pub outvoted : (network : Network) (events : List Event) (voters : Voters) (run written : List Note) (until : ℕ) (rest : List (List ℕ))
    → FramesAreDelivered (scenario_of fresh_segment stepped_segment segment_reading network events) (happenings network run) until
    → ((cycle : ℕ) (device : DeviceId) → ballot_of voters (happenings network written) cycle device ≡ ballot_of voters (happenings network run) cycle device)
    → TwoOutvote voters network events run written until (vote_lines voters network events written ++ rest)
outvoted network events voters run written until rest delivered same a b c cycle device may small two =
    let s = scenario_of fresh_segment stepped_segment segment_reading network events in
    let hs = happenings network run in
    let gs = happenings network written in
    let value : voted (ballot_of voters gs cycle device) ≡ Some (sent_payload a cycle) =
    ap voted (same cycle device) ∙ two_outvote_the_third s hs until voters a b c cycle device may delivered two in
    record {
      value = value;
      told = in_left _ (vote_lines voters network events written) rest
          (in_lines network voters gs cycle device.0 (sent_payload a cycle) value (2 ^ 32) small
          (two_there s hs until voters two));
    }

-- behind the records of a run those of events are written
pub outvoted_before : (network : Network) (events : List Event) (voters : Voters) (time : ℕ) (front rest written : List Note) (until : ℕ)
    (behind : List (List ℕ)) → FramesAreDelivered (scenario_of fresh_segment stepped_segment segment_reading network events) (happenings network front) until
    → written ≡ front ++ rest → ((n : Note) → IsIn n rest → IsEventOf time n)
    → TwoOutvote voters network events front written until (vote_lines voters network events written ++ behind)
outvoted_before network events voters time front rest written until behind delivered parts only =
    outvoted network events voters front written until behind delivered
    (λ cycle device.
    ap (λ ns. ballot_of voters (happenings network ns) cycle device) parts ∙ events_still network voters cycle device time front rest only)

-- The answer for the words, and that of `wire` among them.
use Rattle.std.{proofs.Common.{◌∙◌, ◌≡◌, List, None, Option, Some, ap, inl, inr, length, refl, subst, sym, ℕ}}
use Rattle.std.{specs.Prelude.IfSome}
use Rattle.drift_world.specs.Running.{behind_events, last_time}
use Rattle.net_plan.specs.{Bearers.link_names, Bounds.BetaIsUnique}
use Rattle.net_plan.specs.{declared.{event.Event.Event, ids.LinkId.LinkId, network.Network.Network, tables.Way.Way}}
use Rattle.run_law.{proofs.runs.NetworkRuns.run_is_one, specs.declared.note.Note.Note}
use Rattle.schedule_checker.specs.Refusals.{RefusalIsOne}
use Rattle.trace_text.proofs.WordsBack.{place_found}
use Rattle.tte_forms.proofs.{FormLemmas.form_in_range, Octets.for_more, Puts.answered_done, frames.Answers.shows_frames}
use Rattle.tte_forms.proofs.{networks.Answers.{acceptance_one, accepted_alone, alone_by, network_answer_one, one_by}}
use Rattle.tte_forms.specs.{Answering.{Answer, Answers, ForOctets, Gives, GivesAnswer, IsDone, with_line}}
use Rattle.tte_forms.specs.{Forms.{IsFormInRange, form_of}, Putting.Shown, frames.Answer.show_answer}
use Rattle.tte_forms.specs.{networks.{Accepting.{IsNetworkAnswer, MeansAccepted}, Checking.IsAcceptance}}
use Rattle.tte_forms.specs.declared.{status.Status.{Status, TheVariants.{Done, ReadFault, WriteFault}}}
use Rattle.tte_forms.specs.declared.form.Form.{Form}
use Rattle.tte_forms.specs.declared.form.Form.{TheVariants.{Audit, Capture, Check, Run, Show, Stamp, Storm, Vote, Wire}}
use Rattle.tte_observers.proofs.{captures_lemmas.{Packets.shows_packets, wires_lemmas.Along.{all_whole, either_stops}}}
use Rattle.tte_observers.proofs.{stamps_lemmas.LineStamps.{stamp_done, stamp_one}}
use Rattle.tte_observers.proofs.{votes_lemmas.VoteLines.{vote_done, vote_one}}
use Rattle.tte_reports.proofs.Reports.{audit_done, report_one}
use Rattle.tte_observers.specs.{stamps.Answer.IsStampAnswer, votes.Answer.{IsVoteAnswer, the_names}}
use Rattle.tte_observers.specs.captures.{Answer.capture_answer, pcap.Writing.head_octets}
use Rattle.tte_observers.specs.captures.wires.Answer.{EndsEither, IsCapture, IsHeaded, IsNamed, IsWireAnswer}
use Rattle.tte_observers.specs.captures.wires.Answer.{IsWireNetworkAnswer, silent_lines, way_lines}
use Rattle.tte_reports.{specs.{Answer.audit_limit, Reports.{IsAuditAnswer, IsAuditedAnswer}}}
use Rattle.tte_run.specs.{SecondFiles.{ForSecond, second_of}, Top.{AnswerIsOne, AnswersWords, IsFormAnswer}}
use Rattle.tte_run.specs.{Whole.{Completes, MeansRun}}
use Rattle.tte_traces.proofs.{Admitted.{end_has_no_fault, fault_one, stopped_one}, Answers.whole_is}
use Rattle.tte_traces.proofs.{Completes.{run_done, run_one}, storms_lemmas.Summed.storm_one}
use Rattle.tte_traces.specs.{Along.IsAllAdmitted, Answer.{IsRunAnswer, IsTraceAnswer}, FaultLine.fault_status}
use Rattle.tte_traces.specs.{Lines.{AreAdmitted, behind_lines}, declared.fault.TraceFault.TraceFault}
use Rattle.tte_traces.specs.{storms.Answer.IsStormAnswer}
use Rattle.tte_units.specs.Amount.{amount}
use Rattle.world_drive.specs.exact.Records.{clock_reading}

-- ---- the answer of `wire` is one, and valid input is written to its end: the packets of a way

module _ (link : LinkId) (way : Way) (network : Network) (octets : List ℕ) where
  -- the answer where a trace has a fault
  abbrev broken_off : List Event → List Note → TraceFault → Answer
  broken_off events notes fault = record { status = fault_status fault; lines = way_lines link way network events notes }

  either_one : (events : List Event) (a b : Answer) → AreAdmitted network octets events → EndsEither (way_lines link way) network octets events a
      → EndsEither (way_lines link way) network octets events b → a ≡ b
  either_one events a b all (inl w) (inl v) =
      let admitted : IsAllAdmitted network octets events = record { admitted = all; ended = w.ended; none_left = w.none_left } in
      let whole : IsTraceAnswer (way_lines link way) octets network b = record { events = events; admitted = all; is = inl v } in
      w.answer ∙ sym (whole_is (way_lines link way) network octets events w.notes b admitted w.records whole)
  either_one events a b all (inl w) (inr g) = absurd (end_has_no_fault network events (behind_lines (length events) octets) g.fault w.none_left w.ended g.is)
  either_one events a b all (inr f) (inl v) = absurd (end_has_no_fault network events (behind_lines (length events) octets) f.fault v.none_left v.ended f.is)
  either_one events a b all (inr f) (inr g) =
      let faults = fault_one network events (behind_lines (length events) octets) f.fault g.fault f.is g.is in
      let same = run_is_one network (clock_reading network events) events (behind_events (amount (last_time events))) f.notes g.notes f.records g.records in
      f.answer
      ∙ ap (λ (t : TraceFault). broken_off events f.notes t) faults
      ∙ ap (λ (ns : List Note). broken_off events ns g.fault) same
      ∙ sym g.answer

  capture_one : (a b : Answer) → IsCapture link way octets network a → IsCapture link way octets network b → a ≡ b
  capture_one a b i j =
      let same = stopped_one network octets j.events i.events j.admitted (either_stops link way network octets j.is) i.admitted
      (either_stops link way network octets i.is) in
      either_one i.events a b i.admitted i.is (subst (λ (es : List Event). EndsEither (way_lines link way) network octets es b) same j.is)

  headed_one : (a b : Answer) → IsHeaded (IsCapture link way octets network) a → IsHeaded (IsCapture link way octets network) b → a ≡ b
  headed_one a b p q = p.2 ∙ ap (with_line head_octets) (capture_one p.0 q.0 p.1 q.1) ∙ sym q.2

-- ---- a name

-- one link is the first of a name
named_one : (network : Network) (name : List ℕ) (link other : LinkId) → IsNamed network name link → IsNamed network name other → link ≡ other
named_one network name link other p q =
    let here = place_found (link_names network.link) name link.0 p in
    let there = place_found (link_names network.link) name other.0 q in
    let same : link.0 ≡ other.0 = cc in ap (λ (n : ℕ). record { 0 = n }) same

wire_answer_one : (name : List ℕ) (way : Way) (trace : List ℕ) (network : Network) (a b : Answer) → IsWireAnswer name way trace network a
    → IsWireAnswer name way trace network b → a ≡ b
wire_answer_one name way trace network a b (inl p) (inl q) = p.1 ∙ sym q.1
wire_answer_one name way trace network a b (inl p) (inr q) = absurd (p.0 q.0.0 q.1.bears)
wire_answer_one name way trace network a b (inr p) (inl q) = absurd (q.0 p.0.0 p.1.bears)
wire_answer_one name way trace network a b (inr p) (inr q) =
    let same = named_one network name q.0 p.0 q.1 p.1 in
    headed_one p.0 way network trace a b p.2 (subst (λ (l : LinkId). IsHeaded (IsCapture l way trace network) b) same q.2)

-- ---- a network file

-- the octets of a network file and of a trace have one answer
wire_one : RefusalIsOne → (name : List ℕ) (way : Way) (octets trace : List ℕ) (a b : Answer) → IsWireNetworkAnswer (IsWireAnswer name way trace) octets a
    → IsWireNetworkAnswer (IsWireAnswer name way trace) octets b → a ≡ b
wire_one one name way octets trace a b p q =
    one_by silent_lines (IsWireAnswer name way trace) octets one (λ network accepted. wire_answer_one name way trace network) a b p q

done_of : (name : List ℕ) (way : Way) (octets trace : List ℕ) (network : Network) (events : List Event) (link : LinkId)
    → IsAllAdmitted network trace events → IsNamed network name link → (a : Answer) → IsWireAnswer name way trace network a → a.status ≡ Done
done_of name way octets trace network events link all named a (inl h) = absurd (h.0 link.0 named.bears)
done_of name way octets trace network events link all named a (inr h) =
    let whole = all_whole h.0 way network trace events all h.2.1 in
    ap (λ (x : Answer). x.status) h.2.2 ∙ ap (λ (x : Answer). x.status) whole.answer

-- of an accepted network whose whole trace is admitted, and which has the link, all is written
wire_done : (name : List ℕ) (way : Way) (octets trace : List ℕ) (network : Network) (events : List Event) (link : LinkId) → MeansAccepted octets network
    → IsAllAdmitted network trace events → IsNamed network name link → (a : Answer) → IsWireNetworkAnswer (IsWireAnswer name way trace) octets a
    → a.status ≡ Done
wire_done name way octets trace network events link m all named a is =
    done_of name way octets trace network events link all named a (alone_by silent_lines (IsWireAnswer name way trace) octets network m a is)

-- ---- the answer for the words

-- the one answer for the octets of a file is one of those
pub as_one : (answer : List ℕ → Answer) (first : Option (List ℕ)) (status : Status) (old new : Shown) → Answers answer first status old new
    → ForOctets first (λ octets. GivesAnswer (λ a. a ≡ answer octets) status old new)
as_one answer first status old new g =
    for_more first (λ octets. Gives (answer octets) status old new) (λ octets. GivesAnswer (λ a. a ≡ answer octets) status old new)
    (λ octets h. inl (answer octets, refl, h)) g

all_admitted : {octets trace : List ℕ} {n : Network} {events : List Event} → MeansRun octets trace n events → IsAllAdmitted n trace events
all_admitted m = record { admitted = m.admitted; ended = m.ended; none_left = m.none_left }

-- ---- valid input is answered to its end

module _ (status : Status) (old new : Shown) (SourceRose SinkRose : Type 0) (read : status ≡ ReadFault → SourceRose)
    (write : status ≡ WriteFault → SinkRose) where
  -- where all answers are done
  by : (Is : Answer → Type 0) → GivesAnswer Is status old new → ((a : Answer) → Is a → a.status ≡ Done) → (SourceRose → ⊥) → (SinkRose → ⊥) → IsDone status
  by Is g done quiet calm = answered_done Is status old new SourceRose SinkRose g done read write quiet calm

  completes : (form : Form) (first second : Option (List ℕ))
      → ForOctets first (λ octets. ForSecond (second_of (Some form)) second (λ other. GivesAnswer (IsFormAnswer (Some form) octets other) status old new))
      → Completes (Some form) first second SourceRose SinkRose status
  completes form None second g = tt
  completes Show (Some octets) second g = λ quiet calm ps short s.
      by (λ a. a ≡ show_answer octets) g (λ a is. ap (λ (x : Answer). x.status) (is ∙ shows_frames.whole octets ps short s)) quiet calm
  completes Check (Some octets) second g = λ quiet calm n m.
      by (IsNetworkAnswer IsAcceptance octets) g (λ a is. ap (λ (x : Answer). x.status) (accepted_alone IsAcceptance octets n m a is).answer) quiet calm
  completes (Storm seed cycles) (Some octets) second g = λ quiet calm n m.
      by (IsNetworkAnswer (IsStormAnswer seed cycles) octets) g
      (λ a is. ap (λ (x : Answer). x.status) (accepted_alone (IsStormAnswer seed cycles) octets n m a is).answer) quiet calm
  completes Capture (Some octets) second g = λ quiet calm head ps m.
      by (λ a. a ≡ capture_answer octets) g
      (λ a is. ap (λ (x : Answer). x.status) (is ∙ shows_packets.whole octets head ps m.file m.opened m.packets)) quiet calm
  completes Run (Some octets) None g = λ quiet calm. tt
  completes Run (Some octets) (Some trace) g = λ quiet calm n events m.
      by (IsNetworkAnswer (IsRunAnswer trace) octets) g (run_done m.accepted (all_admitted m)) quiet calm
  completes (Stamp granule) (Some octets) None g = λ quiet calm. tt
  completes (Stamp granule) (Some octets) (Some trace) g = λ quiet calm n events m fine.
      by (IsNetworkAnswer (IsStampAnswer granule trace) octets) g (stamp_done granule m.accepted fine (all_admitted m)) quiet calm
  completes Audit (Some octets) None g = λ quiet calm. tt
  completes Audit (Some octets) (Some report) g = λ quiet calm n count m fits audited.
      by (IsNetworkAnswer (IsAuditAnswer report) octets) g (audit_done m fits audited) quiet calm
  completes (Wire name way) (Some octets) None g = λ quiet calm. tt
  completes (Wire name way) (Some octets) (Some trace) g = λ quiet calm n events link m named.
      by (IsWireNetworkAnswer (IsWireAnswer name way trace) octets) g
      (wire_done name way octets trace n events link m.accepted (all_admitted m) named) quiet calm
  completes (Vote one two three) (Some octets) None g = λ quiet calm. tt
  completes (Vote one two three) (Some octets) (Some trace) g = λ quiet calm n events voters m named may.
      by (IsNetworkAnswer (IsVoteAnswer (the_names one two three) trace) octets) g
      (vote_done m.accepted named may (all_admitted m)) quiet calm

-- what is answered for the form is answered for the words
pub words_as : {f form : Option Form} → f ≡ form → (first second : Option (List ℕ)) (status : Status) (old new : Shown)
    → AnswersWords f first second status old new → AnswersWords form first second status old new
words_as {f} {form} same first second status old new a = subst (λ (x : Option Form). AnswersWords x first second status old new) same a

-- and so valid input of the words is answered to its end
pub whole_as : {f : Form} {form : Option Form} → Some f ≡ form → (first second : Option (List ℕ)) (status : Status) (old new : Shown)
    {SourceRose SinkRose : Type 0}
    → ForOctets first (λ octets. ForSecond (second_of (Some f)) second (λ other. GivesAnswer (IsFormAnswer (Some f) octets other) status old new))
    → (status ≡ ReadFault → SourceRose) → (status ≡ WriteFault → SinkRose) → Completes form first second SourceRose SinkRose status
whole_as {f} {form} same first second status old new {SourceRose} {SinkRose} g read write =
    subst (λ (x : Option Form). Completes x first second SourceRose SinkRose status) same
    (completes status old new SourceRose SinkRose read write f first second g)

-- ---- the answer is one

form_one : BetaIsUnique → RefusalIsOne → (form : Option Form) → IfSome form IsFormInRange → (octets trace : List ℕ) (a b : Answer)
    → IsFormAnswer form octets trace a → IsFormAnswer form octets trace b → a ≡ b
form_one unique one None range octets trace a b p q = p ∙ sym q
form_one unique one (Some Show) range octets trace a b p q = p ∙ sym q
form_one unique one (Some Check) range octets trace a b p q = network_answer_one one IsAcceptance octets (λ n accepted. acceptance_one unique n) a b p q
form_one unique one (Some Run) range octets trace a b p q = run_one one trace a b p q
form_one unique one (Some (Storm seed cycles)) range octets trace a b p q = storm_one one seed cycles range.1 a b p q
form_one unique one (Some (Stamp granule)) range octets trace a b p q = stamp_one one granule trace a b p q
form_one unique one (Some Audit) range octets trace a b p q =
    report_one one audit_limit IsAuditedAnswer (λ network text notes end x y rules of i j. i ∙ sym j) trace a b p q
form_one unique one (Some Capture) range octets trace a b p q = p ∙ sym q
form_one unique one (Some (Wire link way)) range octets trace a b p q = wire_one one link way octets trace a b p q
form_one unique one (Some (Vote x y z)) range octets trace a b p q = vote_one one (the_names x y z) trace a b p q

pub one_answer : BetaIsUnique → RefusalIsOne → AnswerIsOne
one_answer unique one words octets trace a b p q = form_one unique one (form_of words) (form_in_range words) octets trace a b p q

-- The answer of a command over a report, whose records are read one by one and are of a safe run.
use Rattle.std.proofs.{Math.Seq.drop-append_seam}
use Rattle.std.proofs.Common
use Common.{◌++◌, ◌+◌, ◌-◌, ◌<◌, ◌^◌, ◌∙◌, ◌∷◌, ◌≡◌, ◌≤ℤ◌, ◌≤◌, ◌⊎◌, List, None, Option, Some, [], ap, append_assoc}
use Common.{arith, inl, inr, length, pos, refl, subst, sym, take, ℕ}
use Rattle.std.proofs.lemmas.{Option.{slice_get_past, slice_get_read}}
use Rattle.std.proofs.lemmas.List.{Elements.{All-cons, All-head, All-nil, All-tail, Contains-push}, append-nil}
use Rattle.std.proofs.lemmas.List.{length-append, length-drop, take-append-drop}
use Rattle.std.specs.{List.{All, Contains, concat, cons_option}}
use Rattle.std.specs.{Prelude.{IfSome, MatchOption, drop, get_or, position, slice_get, suc, zero}}
use Rattle.audit_law.specs.events.Readings.{scenario_under}
use Rattle.audit_sweep.{proofs.records_lemmas.Numbered.number_of, specs.{Indexing.IsIndex, declared.index.Index.Index}}
use Rattle.drift_clock.{proofs.ExactSegments.{exact_begins, exact_laws}}
use Rattle.drift_clock.{specs.Segment.{fresh_segment, segment_reading, stepped_segment}}
use Rattle.net_plan.specs.{Belonging.IsOfNetwork}
use Rattle.net_plan.specs.declared.{event.{Event.Event, What.{TheVariants.{End, Hold}, What}}, ids.LinkId.LinkId}
use Rattle.net_plan.specs.declared.{network.Network.Network, tables.Way.Way}
use Rattle.precision_law.{proofs.traffic_lemmas.safety_lemmas.Lawful.{end_in_time, ended, own}}
use Rattle.precision_law.{specs.traffic.safety.{Headline.GoesWell, Under.IsUnder}}
use Rattle.report_text.specs.{Laws.AreOfNetwork, NoteLine.{note_line, note_text, report_of}}
use Rattle.report_text.specs.{Ranges.{IsBodyInRange, IsBodyOf, IsNoteInRange, IsNoteOf}}
use Rattle.run_law.{proofs.{records.Order.soon, runs.Places.in_right}}
use Rattle.run_law.specs.{declared.note.{Note.Note, NoteBody.NoteBody}, law.FirstLaws.IsEventInRange}
use Rattle.run_law.specs.{records.{Happenings.{happening, happenings}, Order.IsIn}, runs.DueRecords.EndsAt}
use Rattle.schedule_checker.specs.Refusals.{RefusalIsOne}
use Rattle.schedule_tables.specs.Rules.{KeepsRules}
use Rattle.trace_text.specs.Ranges.{IsTime, IsWhatInRange}
use Rattle.tte_audit.proofs.{Meet.{GoesOn, apart_of, meet, no_octets}, OneAnswer.{answer_law, same_of}}
use Rattle.tte_audit.proofs.{ReportText.{happening_there, no_lf, record_at, text_at}}
use Rattle.tte_audit.proofs.{RightEvents.{clocked, ends_soon, within}}
use Rattle.tte_audit.specs.{Answers.IsAudited, Named.IsNamed, declared.refusal.AuditRefusal.AuditRefusal}
use Rattle.tte_audit.specs.Report
use Report.{BeginsWith, BeginsWithRecord, EndWith, IsOfEvents, IsTextOf, LineThen, event_by, events_of, is_line_end}
use Rattle.tte_forms.proofs.{Octets.for_more, Puts.answer_widened}
use Rattle.tte_forms.proofs.{networks.Answers.{accepted_alone, network_answer_one}}
use Rattle.tte_forms.specs.{Answering.{Answer, ForOctets, Gives, GivesAnswer}, Putting.{PutsNone, Shown}}
use Rattle.tte_forms.specs.{declared.status.Status.{Status, TheVariants.{Done, ReadFault, WriteFault}}}
use Rattle.tte_forms.specs.{networks.Accepting.{IsNetworkAnswer, MeansAccepted}}
use Rattle.tte_reports.{proofs.{Answers.{kept_apart, no_report_given}, Sources.GivesFiles}}
use Rattle.tte_reports.specs.{Answer.{FailsAudit, audit_limit, report_refused_answer}}
use Rattle.tte_reports.specs.{Commands.{AnswersWhole, CompletesReport}, Folding.{Holds, IsTakenSoFar}}
use Rattle.tte_reports.specs.{NoReports.{IsNoReport, no_report_answer}, Places.{ArePlaces, BeginsAt, note_at}}
use Rattle.tte_reports.specs.{Safely.{AuditsSafely, ReportsSafeRun}}
use Rattle.tte_reports.specs.{declared.{no_report.NoReport.NoReport, records.Records.Records}}
use Rattle.tte_reports.specs.Reports
use Reports.{AnswersFor, AreLeft, AreLines, IsAuditAnswer, IsJudgedAnswer, IsOneFor, IsReportAnswer, IsReportOf}
use Reports.{IsSomeReport}
use Rattle.tte_units.{proofs.general_lemmas.Lists.pushed, specs.{Amount.amount, declared.units.Units.Units}}
use Rattle.run_law.specs.declared.note.NoteBody.TheVariants as notes
use Rattle.tte_audit.specs.declared.refusal.AuditRefusal.TheVariants as refusals
use Rattle.tte_reports.specs.declared.no_report.NoReport.TheVariants as causes

-- ---- the records of a report, taken one after another

module _ {T : Type 0} (holds : Holds T) (network : Network) (notes : List Note) where
  pub taken_none : (taker : T) (records : Records) → holds network notes [] taker taker → AreLeft network records notes
      → IsTakenSoFar holds network notes taker taker records
  taken_none taker records none left = record { before = []; rest = notes; parts = refl; taken = none; left = left }

  pub taken_more : (begun taker : T) (old : Records) (so : IsTakenSoFar holds network notes begun taker old) (note : Note) (rest : List Note) (more : T)
      (new : Records) → so.rest ≡ note ∷ rest → holds network notes (so.before ++ note ∷ []) begun more → AreLeft network new rest
      → IsTakenSoFar holds network notes begun more new
  taken_more begun taker old so note rest more new is has left = record {
    before = so.before ++ note ∷ [];
    rest = rest;
    parts = so.parts ∙ ap (λ (ns : List Note). so.before ++ ns) is ∙ sym (append_assoc so.before (note ∷ []) rest);
    taken = has;
    left = left;
  }

  pub taken_all : (begun taker : T) (records : Records) (so : IsTakenSoFar holds network notes begun taker records) → so.rest ≡ []
      → holds network notes notes begun taker
  taken_all begun taker records so none =
      subst (λ ns. holds network notes ns begun taker)
      (sym (so.parts ∙ ap (λ (ns : List Note). so.before ++ ns) none ∙ append-nil so.before)) so.taken

-- the next record takes octets
pub fewer_left : {network : Network} (note : Note) {notes rest : List Note} (old new : Records) → notes ≡ note ∷ rest
    → AreLeft network old notes → AreLeft network new rest → length new.rest.now < length old.rest.now
fewer_left {network} note {rest} old new is before after =
    let whole : old.rest.now ≡ note_line network note ++ concat (report_of network rest) =
    before.text ∙ ap (λ ns. concat (report_of network ns)) is in
    let long = ap (λ xs. length xs) whole ∙ length-append (note_line network note) (concat (report_of network rest)) in
    let short = ap (λ xs. length xs) after.text in
    let line = length-append (note_text network note) (10 ∷ []) in
    omega (arith, long, short, line)

-- ---- the records of a report are read one after another

pub begun_lines : {network : Network} {octets : List ℕ} {notes : List Note} → BeginsWith network octets notes []
    → AreLines network octets notes
begun_lines {network} {notes} h =
    record { of_network = h.records; text = h.text ∙ append-nil (concat (report_of network notes)) }

-- the records behind the first
abbrev behind_first : (network : Network) (n : Note) (ns : List Note) → AreOfNetwork network (n ∷ ns) → AreOfNetwork network ns
behind_first network n ns h = record { of_network = All-tail (IsNoteOf network) n ns h.of_network; in_range = All-tail IsNoteInRange n ns h.in_range }

abbrev pub line_then : (network : Network) (octets : List ℕ) (n : Note) (ns : List Note) → AreLines network octets (n ∷ ns)
    → LineThen network n.number octets (concat (report_of network ns))
line_then network octets n ns h = record {
  note = n;
  of_network = All-head (IsNoteOf network) n ns h.of_network.of_network;
  in_range = All-head IsNoteInRange n ns h.of_network.in_range;
  number = refl;
  text = h.text;
}

-- no LF, no record
pub none_left : {network : Network} {octets : List ℕ} (notes : List Note) → IsNamed network
    → position is_line_end octets ≡ None → AreLines network octets notes → notes ≡ []
none_left [] named e h = refl
none_left {network} {octets} (n ∷ ns) named e h =
    let line = line_then network octets n ns h in
    absurd (no_lf network n.number octets named e
    (record { note = n; of_network = line.of_network; in_range = line.in_range; number = refl; rest = concat (report_of network ns); text = h.text }))

-- octets before an LF that are the text of no record are before none
pub no_text_left : {network : Network} {octets : List ℕ} (notes : List Note) (i : ℕ) → IsNamed network
    → position is_line_end octets ≡ Some i → ((n : Note) → IsTextOf network n (take i octets) → ⊥)
    → AreLines network octets notes → notes ≡ []
no_text_left [] i named e none h = refl
no_text_left {network} {octets} (n ∷ ns) i named e none h =
    let line = line_then network octets n ns h in
    absurd (none n (record {
      of_network = line.of_network;
      in_range = line.in_range;
      same = text_at network n.number octets (concat (report_of network ns)) i named e line;
    }))

-- a record comes first, and lines of others behind it
pub record FirstThen (network : Network) (notes : List Note) (note : Note) (left : List ℕ) : Type 0 where
  pub rest : List Note
  pub is : notes ≡ note ∷ rest
  pub lines : AreLines network left rest

one_record : {network : Network} {note : Note} {octets left : List ℕ} → BeginsWithRecord network note octets left
    → AreOfNetwork network (note ∷ [])
one_record {network} {note} h = record {
  of_network = All-cons (IsNoteOf network) note [] h.of_network (All-nil (IsNoteOf network));
  in_range = All-cons IsNoteInRange note [] h.in_range (All-nil IsNoteInRange);
}

pub first_then : {network : Network} {note : Note} {octets left : List ℕ} {notes : List Note} → IsNamed network
    → BeginsWithRecord network note octets left → AreLines network octets notes → FirstThen network notes note left
first_then {network} {note} {octets} {left} {notes} named b h =
    let here = one_record b in
    let lines : concat (report_of network (note ∷ [])) ++ left ≡ concat (report_of network notes) ++ [] =
    ap (λ (t : List ℕ). t ++ left) (append-nil (note_line network note)) ∙ sym b.text ∙ h.text ∙ sym (append-nil (concat (report_of network notes))) in
    by_meeting network note left notes h (meet (note ∷ []) notes left [] (apart_of named) here h.of_network lines)
  where
    by_others : (network : Network) (note : Note) (left : List ℕ) (notes : List Note) (more : List Note) → AreOfNetwork network notes
        → notes ≡ note ∷ more → left ≡ concat (report_of network more) ++ [] → FirstThen network notes note left
    by_others network note left notes more all is text =
        let all' = subst (AreOfNetwork network) is all in
        record {
          rest = more;
          is = is;
          lines = record { of_network = behind_first network note more all'; text = text ∙ append-nil (concat (report_of network more)) };
        }

    none_behind : (network : Network) (note : Note) (left : List ℕ) (notes more : List Note) → AreOfNetwork network notes
        → note ∷ [] ≡ notes ++ more → [] ≡ concat (report_of network more) ++ left → FirstThen network notes note left
    none_behind network note left notes (m ∷ ms) all is text = absurd (no_octets network m ms left text)
    none_behind network note left notes [] all is text = by_others network note left notes [] all (sym (is ∙ append-nil notes)) (sym text)

    by_meeting : (network : Network) (note : Note) (left : List ℕ) (notes : List Note) {octets : List ℕ} → AreLines network octets notes
        → GoesOn network (note ∷ []) notes left [] ⊎ GoesOn network notes (note ∷ []) [] left → FirstThen network notes note left
    by_meeting network note left notes h (inl on) = by_others network note left notes on.more h.of_network on.is on.text
    by_meeting network note left notes h (inr on) = none_behind network note left notes on.more h.of_network on.is on.text

-- ---- the events of a report are such as the laws on runs ask for: what holds of records holds of their events

with_one : (P : Event → Type 0) (o : Option Event) (es : List Event) → IfSome o P → All P es → All P (cons_option o es)
with_one P None es one all = all
with_one P (Some e) es one all = All-cons P e es one all

all_events : (P : Event → Type 0) (Q : Note → Type 0) → ((n : Note) → Q n → IfSome (event_by n.time n.body) P) → (ns : List Note) → All Q ns
    → All P (events_of ns)
all_events P Q each [] all = All-nil P
all_events P Q each (n ∷ ns) all =
    with_one P (event_by n.time n.body) (events_of ns) (each n (All-head Q n ns all)) (all_events P Q each ns (All-tail Q n ns all))

-- ---- the event of one record

of_network : (network : Network) (time : Units) (body : NoteBody) → IsBodyOf network body → IfSome (event_by time body) (λ e. IsOfNetwork network e.what)
of_network network time (notes.Event line what) h = h
of_network network time body h = tt

-- where it sets a hold, that is not negative
abbrev HoldsNoLess : Event → Type 0
HoldsNoLess event = (link : LinkId) (way : Way) (delay : Units) → event.what ≡ Hold link way delay → pos 0 ≤ℤ delay.0

holds : (what : What) (link : LinkId) (way : Way) (delay : Units) → IsWhatInRange what → what ≡ Hold link way delay → pos 0 ≤ℤ delay.0
holds what link way delay range is = let hold : IsTime delay = subst IsWhatInRange is range in hold.least

holds_no_less : (time : Units) (body : NoteBody) → IsBodyInRange body → IfSome (event_by time body) HoldsNoLess
holds_no_less time (notes.Event line what) h = λ link way delay is. holds what link way delay h.1 is
holds_no_less time body h = tt

-- ---- all events

in_range : (es : List Event) → ((e : Event) → IsIn e es → pos 0 ≤ℤ e.time.0) → All HoldsNoLess es → All IsEventInRange es
in_range [] begun all = All-nil IsEventInRange
in_range (e ∷ es) begun all =
    All-cons IsEventInRange e es (record { time = begun e (inl refl); hold = All-head HoldsNoLess e es all })
    (in_range es (λ d i. begun d (inr i)) (All-tail HoldsNoLess e es all))

-- the events of a report of a network that keeps the rules are such as the laws ask for
pub report_under : {network : Network} {octets : List ℕ} {ns : List Note} {time : Units} → IsNamed network
    → KeepsRules network → IsOfEvents network octets ns time → IsUnder network (events_of ns)
report_under {network} {ns} named rules of =
    let text = of.text.records in
    record {
      range = named.in_range;
      rules = rules;
      of_network = all_events (λ e. IsOfNetwork network e.what) (IsNoteOf network) (λ n h. of_network network n.time n.body h) ns text.of_network;
      times =
          in_range (events_of ns) (clocked ns named of.right).begun
          (all_events HoldsNoLess IsNoteInRange (λ n h. holds_no_less n.time n.body h.body) ns text.in_range);
      within = within network ns of.right;
    }

-- they end at the time of the last
pub report_ends : (events : List Event) (time : Units) → EndWith events time → EndsAt events time
report_ends events time ends =
    let end : Event = record { time = time; what = End } in
    subst (λ (es : List Event). Contains es end) (sym ends.1) (Contains-push ends.0 end)

-- ---- the answer of a command over a report: how it is given, and that it is one

-- ---- the records of a report are one list, with one end

pub audited_of : {network : Network} {octets : List ℕ} {notes : List Note} {end : Units}
    → IsReportOf network octets notes end → IsAudited network octets (length notes)
audited_of {notes} {end} h = record { notes = notes; time = end; events = h.events; run = h.run; counted = refl }

module _ {network : Network} {octets : List ℕ} {notes others : List Note} {end last : Units}
    (named : IsNamed network) (a : IsReportOf network octets notes end)
    (b : IsReportOf network octets others last) where
  pub one_notes : notes ≡ others
  one_notes = (same_of named a.events b.events).lists

  pub one_end : end ≡ last
  one_end = (same_of named a.events b.events).times

-- ---- how an answer is given

-- what is answered for the records of the report that was read is answered for the octets of the file
pub report_given : (limit : ℕ) (IsAnswerFor : AnswersFor) (network : Network) (left : Option (List ℕ)) (report : List ℕ)
    (status : Status) (old new : Shown)
    → ForOctets left (λ octets. (length octets ≤ limit) × (report ≡ octets) × IsSomeReport network octets)
    → ((notes : List Note) (end : Units) → IsReportOf network report notes end → GivesAnswer (IsAnswerFor network notes end) status old new)
    → ForOctets left (λ octets. GivesAnswer (IsReportAnswer limit IsAnswerFor octets network) status old new)
report_given limit IsAnswerFor network left report status old new h given =
    for_more left (λ octets. (length octets ≤ limit) × (report ≡ octets) × IsSomeReport network octets)
    (λ octets. GivesAnswer (IsReportAnswer limit IsAnswerFor octets network) status old new)
    (λ octets (fits, same, (notes, end, of)).
    answer_widened (IsAnswerFor network notes end) (IsReportAnswer limit IsAnswerFor octets network) status old new
    (λ a is. inr (fits, inr (notes, end, of, is))) (given notes end (subst (λ xs. IsReportOf network xs notes end) (sym same) of))) h

-- that there is no report is the answer for the octets of the file
pub no_report_answered : (limit : ℕ) (IsAnswerFor : AnswersFor) (network : Network) (left : Option (List ℕ))
    (cause : NoReport) (status : Status) {old new : Shown}
    → ForOctets left (λ octets. IsNoReport limit network octets cause)
    → Gives (no_report_answer cause) status old new → ((cause ≡ causes.ReadFault) ⊎ (cause ≡ causes.OutOfMemory)
    → (status ≡ WriteFault → ⊥) × PutsNone old new) → ForOctets left
    (λ octets. GivesAnswer (IsReportAnswer limit IsAnswerFor octets network) status old new)
no_report_answered limit IsAnswerFor network left cause status {old} {new} h g unput =
    for_more left (λ octets. IsNoReport limit network octets cause)
    (λ octets. GivesAnswer (IsReportAnswer limit IsAnswerFor octets network) status old new)
    (λ octets none. no_report_given limit (IsReportAnswer limit IsAnswerFor octets network) network octets cause status old new
    (λ long. inl (long, refl)) (λ refusal fits fails. inr (fits, inl (refusal, fails, refl))) none g unput) h

-- ---- the answer is one

report_or_fails : {network : Network} {octets : List ℕ} {notes : List Note} {end : Units} {refusal : AuditRefusal}
    → KeepsRules network → IsReportOf network octets notes end → FailsAudit network octets refusal → ⊥
report_or_fails {network} {octets} {notes} {refusal} rules r f =
    (answer_law network octets (kept_apart network rules r.range)).not_both (length notes) refusal f.of_report
    (audited_of r) f.refused

-- a report has the answers for its records alone
judged_alone : (IsAnswerFor : AnswersFor) {network : Network} {octets : List ℕ} {notes : List Note} {end : Units}
    → KeepsRules network → IsReportOf network octets notes end → (b : Answer)
    → IsJudgedAnswer IsAnswerFor octets network b → IsAnswerFor network notes end b
judged_alone IsAnswerFor rules r b (inl h) = absurd (report_or_fails rules r h.1)
judged_alone IsAnswerFor {network} {end} rules r b (inr h) =
    let named = kept_apart network rules r.range in
    let same = one_notes named h.2 r in
    let ends = one_end named h.2 r in
    subst (λ (ns : List Note). IsAnswerFor network ns end b) same (subst (λ (e : Units). IsAnswerFor network h.0 e b) ends h.3)

pub report_alone : (limit : ℕ) (IsAnswerFor : AnswersFor) {network : Network} {octets : List ℕ} {notes : List Note}
    {end : Units} → KeepsRules network → length octets ≤ limit → IsReportOf network octets notes end → (b : Answer)
    → IsReportAnswer limit IsAnswerFor octets network b → IsAnswerFor network notes end b
report_alone limit IsAnswerFor rules fits r b (inl h) = absurd (omega (arith, h.0, fits))
report_alone limit IsAnswerFor rules fits r b (inr h) = judged_alone IsAnswerFor rules r b h.1

judged_one : (IsAnswerFor : AnswersFor) → IsOneFor IsAnswerFor → {network : Network} {octets : List ℕ} (a b : Answer)
    → KeepsRules network → IsJudgedAnswer IsAnswerFor octets network a → IsJudgedAnswer IsAnswerFor octets network b
    → a ≡ b
judged_one IsAnswerFor one {network} {octets} a b rules (inl p) (inl q) =
    let same = (answer_law network octets (kept_apart network rules p.1.range)).one_refusal p.0 q.0 p.1.of_report q.1.of_report p.1.refused q.1.refused in
    p.2 ∙ ap report_refused_answer same ∙ sym q.2
judged_one IsAnswerFor one {network} {octets} a b rules (inr p) q =
    one network octets p.0 p.1 a b rules p.2 p.3 (judged_alone IsAnswerFor rules p.2 b q)
judged_one IsAnswerFor one {network} {octets} a b rules p (inr q) =
    one network octets q.0 q.1 a b rules q.2 (judged_alone IsAnswerFor rules q.2 a p) q.3

answers_one : (limit : ℕ) (IsAnswerFor : AnswersFor) → IsOneFor IsAnswerFor
    → {network : Network} {octets : List ℕ} (a b : Answer) → KeepsRules network
    → IsReportAnswer limit IsAnswerFor octets network a → IsReportAnswer limit IsAnswerFor octets network b → a ≡ b
answers_one limit IsAnswerFor one a b rules (inl p) (inl q) = p.1 ∙ sym q.1
answers_one limit IsAnswerFor one a b rules (inl p) (inr q) = absurd (omega (arith, p.0, q.0))
answers_one limit IsAnswerFor one a b rules (inr p) (inl q) = absurd (omega (arith, q.0, p.0))
answers_one limit IsAnswerFor one a b rules (inr p) (inr q) = judged_one IsAnswerFor one a b rules p.1 q.1

-- the octets of a network file and of a report have one answer, where its records have
pub report_one : RefusalIsOne → (limit : ℕ) (IsAnswerFor : AnswersFor) → IsOneFor IsAnswerFor
    → {octets : List ℕ} (report : List ℕ) (a b : Answer)
    → IsNetworkAnswer (IsReportAnswer limit IsAnswerFor report) octets a
    → IsNetworkAnswer (IsReportAnswer limit IsAnswerFor report) octets b → a ≡ b
report_one refusal limit IsAnswerFor one {octets} report a b p q =
    network_answer_one refusal (IsReportAnswer limit IsAnswerFor report) octets
    (λ network accepted x y. answers_one limit IsAnswerFor one {network = network} {octets = report} x y
    accepted.rules) a b p q

-- ---- valid input

-- a report of an accepted network is answered to its end, where no count of faults rose
pub answered_whole : (limit : ℕ) (IsAnswerFor : AnswersFor) (octets report : List ℕ) (status : Status)
    {old new : Shown} (SourceRose SinkRose : Type 0) → GivesAnswer
    (IsNetworkAnswer (IsReportAnswer limit IsAnswerFor report) octets) status old new
    → (status ≡ ReadFault → SourceRose) → (status ≡ WriteFault → SinkRose) → (SourceRose → ⊥) → (SinkRose → ⊥)
    → AnswersWhole limit IsAnswerFor octets report status
answered_whole limit IsAnswerFor octets report status SourceRose SinkRose (inl (a, is, inl g)) read write quiet calm
    network notes end m fits r =
    inr (a, report_alone limit IsAnswerFor m.rules fits r a (accepted_alone (IsReportAnswer limit IsAnswerFor report) octets network m a is), g.0)
answered_whole limit IsAnswerFor octets report status SourceRose SinkRose (inl (a, is, inr (inl g))) read write quiet
    calm network notes end m fits r =
    absurd (calm (write g.0))
answered_whole limit IsAnswerFor octets report status SourceRose SinkRose (inl (a, is, inr (inr (inl f, p)))) read
    write quiet calm network notes end m fits r =
    absurd (quiet (read f))
answered_whole limit IsAnswerFor octets report status SourceRose SinkRose (inl (a, is, inr (inr (inr o, p)))) read
    write quiet calm network notes end m fits r =
    inl o
answered_whole limit IsAnswerFor octets report status SourceRose SinkRose (inr (inl f, p)) read write quiet calm
    network notes end m fits r =
    absurd (quiet (read f))
answered_whole limit IsAnswerFor octets report status SourceRose SinkRose (inr (inr o, p)) read write quiet calm
    network notes end m fits r = inl o

pub completed : (limit : ℕ) (IsAnswerFor : AnswersFor) (first second : Option (List ℕ)) (status : Status) (old new : Shown)
    (SourceRose SinkRose : Type 0) → GivesFiles (IsReportAnswer limit IsAnswerFor) first second status old new → (status ≡ ReadFault → SourceRose)
    → (status ≡ WriteFault → SinkRose) → CompletesReport limit IsAnswerFor first second SourceRose SinkRose status
completed limit IsAnswerFor (Some octets) (Some report) status old new SourceRose SinkRose g read write = λ quiet calm.
    answered_whole limit IsAnswerFor octets report status SourceRose SinkRose g read write quiet calm
completed limit IsAnswerFor (Some octets) None status old new SourceRose SinkRose g read write = tt
completed limit IsAnswerFor None second status old new SourceRose SinkRose g read write = tt

-- a report of a run of an accepted network is audited
done_of : {network : Network} {report : List ℕ} {count : ℕ} (a : Answer) → KeepsRules network
    → length report ≤ audit_limit → IsAudited network report count → IsAuditAnswer report network a → a.status ≡ Done
done_of a rules fits audited (inl h) = absurd (omega (arith, h.0, fits))
done_of {network} {report} {count} a rules fits audited (inr (within, inl h)) =
    absurd ((answer_law network report (kept_apart network rules h.1.range)).not_both count h.0 h.1.of_report audited h.1.refused)
done_of a rules fits audited (inr (within, inr h)) = ap (λ (x : Answer). x.status) h.3

pub audit_done : {octets report : List ℕ} {network : Network} {count : ℕ} → MeansAccepted octets network
    → length report ≤ audit_limit → IsAudited network report count → (a : Answer)
    → IsNetworkAnswer (IsAuditAnswer report) octets a → a.status ≡ Done
audit_done {octets} {report} {network} m fits audited a is =
    done_of a m.rules fits audited (accepted_alone (IsAuditAnswer report) octets network m a is)

-- ---- a report that is not refused is that of a run that is safe

safe_run : {octets report : List ℕ} {network : Network} {notes : List Note} {end : Units}
    → MeansAccepted octets network → IsReportOf network report notes end → ReportsSafeRun octets report
safe_run {network} {notes} {end} accepted r =
    let events = events_of notes in
    let named : IsNamed network = kept_apart network accepted.rules r.range in
    record {
      network = network;
      accepted = accepted;
      notes = notes;
      text = r.events.text.text ∙ append-nil (concat (report_of network notes));
      run = ended fresh_segment stepped_segment segment_reading exact_laws exact_begins network events end notes
          (report_under named accepted.rules r.events) (report_ends events end r.events.ends) r.run;
      time = end;
      events = r.events;
    }

-- no refusal is told as done
not_done : (refusal : AuditRefusal) → Done ≡ (report_refused_answer refusal).status → ⊥
not_done (refusals.Form n) e = cc
not_done (refusals.Events n) e = cc
not_done (refusals.Unfounded n) e = cc
not_done (refusals.Lacking t) e = cc
not_done refusals.OutOfMemory e = cc

told : (a b : Answer) → Done ≡ a.status → a ≡ b → Done ≡ b.status
told a b done same = done ∙ ap (λ (x : Answer). x.status) same

-- ---- whatever is answered for the records

module _ (limit : ℕ) (IsAnswerFor : AnswersFor) where
  -- what is answered by done for an accepted network is the report of such a run
  done_safely : (octets report : List ℕ) (network : Network) (a : Answer) → MeansAccepted octets network → IsReportAnswer limit IsAnswerFor report network a
      → Done ≡ a.status → ReportsSafeRun octets report
  done_safely octets report network a accepted (inl h) done = let e = told a _ done h.1 in absurd cc
  done_safely octets report network a accepted (inr (fits, inl h)) done = absurd (not_done h.0 (told a _ done h.2))
  done_safely octets report network a accepted (inr (fits, inr h)) done = safe_run accepted h.2

  answered_safely : (octets report : List ℕ) (a : Answer) → IsNetworkAnswer (IsReportAnswer limit IsAnswerFor report) octets a → Done ≡ a.status
      → ReportsSafeRun octets report
  answered_safely octets report a (inl h) done = let e = told a _ done h.1 in absurd cc
  answered_safely octets report a (inr (inl h)) done = let e = told a _ done h.2 in absurd cc
  answered_safely octets report a (inr (inr (inl h))) done = let e = told a _ done h.2 in absurd cc
  answered_safely octets report a (inr (inr (inr h))) done = done_safely octets report h.0 a h.1 h.2 done

  given_safely : (octets report : List ℕ) (status : Status) (old new : Shown) → status ≡ Done
      → GivesAnswer (IsNetworkAnswer (IsReportAnswer limit IsAnswerFor report) octets) status old new → ReportsSafeRun octets report
  given_safely octets report status old new done (inl (a, is, inl g)) = answered_safely octets report a is (sym done ∙ g.0)
  given_safely octets report status old new done (inl (a, is, inr (inl g))) = let e = g.0 in absurd cc
  given_safely octets report status old new done (inl (a, is, inr (inr (inl r, p)))) = absurd cc
  given_safely octets report status old new done (inl (a, is, inr (inr (inr m, p)))) = absurd cc
  given_safely octets report status old new done (inr (inl r, p)) = absurd cc
  given_safely octets report status old new done (inr (inr m, p)) = absurd cc

  pub files_safely : (first second : Option (List ℕ)) (status : Status) (old new : Shown) → GivesFiles (IsReportAnswer limit IsAnswerFor) first second status old new
      → AuditsSafely first second status
  files_safely first second status old new g done =
      for_more first (λ octets. ForOctets second (λ report. GivesAnswer (IsNetworkAnswer (IsReportAnswer limit IsAnswerFor report) octets) status old new))
      (λ octets. ForOctets second (λ report. ReportsSafeRun octets report))
      (λ octets h. for_more second (λ report. GivesAnswer (IsNetworkAnswer (IsReportAnswer limit IsAnswerFor report) octets) status old new)
      (λ report. ReportsSafeRun octets report) (λ report. given_safely octets report status old new done) h) g

-- the run that a report tells goes well up to its end
pub report_well : {network : Network} {octets : List ℕ} {notes : List Note} {end : Units} → KeepsRules network
    → IsReportOf network octets notes end → GoesWell (scenario_under network (events_of notes))
    (happenings network notes) (amount end)
report_well {network} {notes} {end} rules r =
    let events = events_of notes in
    let under = report_under (kept_apart network rules r.range) rules r.events in
    own fresh_segment stepped_segment segment_reading exact_laws exact_begins network events (amount end) notes under
    (end_in_time under end (report_ends events end r.events.ends)) r.run

-- ---- the times of a report

module _ (network : Network) (octets : List ℕ) (notes : List Note) (end : Units) where
  -- the end comes no later than 2^60
  pub end_soon : IsReportOf network octets notes end → amount end ≤ 2 ^ 60
  end_soon r = ends_soon notes end r.range r.events.right r.events.ends

  -- it is that of the index
  pub end_same : {index : Index} → IsReportOf network octets notes end
      → IsIndex network (events_of notes) (happenings network notes) index → end ≡ index.end
  end_same r shows = (shows.end end).1 (report_ends (events_of notes) end r.events.ends)

  -- no record comes later
  pub none_later : IsReportOf network octets notes end → (before behind : List Note) (note : Note)
      → notes ≡ before ++ note ∷ behind → amount note.time ≤ amount end
  none_later r before behind note parts =
      let own = happening network (happenings network before) note in
      let there = happening_there network notes before behind note parts in
      let among = subst (IsIn own) (sym there.1) (in_right own (happenings network before) (own ∷ there.0)
      (inl refl)) in
      let early = soon own (amount end + 1) (r.run.within own among) in
      omega (arith, early)

-- ---- where the lines of a report's records begin

-- behind the first LF the lines of the other records begin
line_behind : {network : Network} {octets : List ℕ} (notes : List Note) (i : ℕ) → IsNamed network
    → position is_line_end octets ≡ Some i → AreLines network octets notes
    → (n : Note) × FirstThen network notes n (drop (i + 1) octets)
line_behind {octets} [] i named e h =
    let none : position is_line_end octets ≡ None = ap (position is_line_end) h.text in absurd cc
line_behind {network} {octets} (n ∷ ns) i named e h =
    let line = line_then network octets n ns h in
    let same = text_at network n.number octets _ i named e line in
    let here = record_at {network = network} octets i {note = n} e
    (record { of_network = line.of_network; in_range = line.in_range; same = same }) in
    (n, first_then named here h)

-- ---- found one after another

-- the lines of the first records were found in the octets, of which these are left
pub record AreFound (network : Network) (octets rest : List ℕ) (notes : List Note) (places : List ℕ) : Type 0 where
  pub before : List Note
  pub behind : List Note
  pub parts : notes ≡ before ++ behind
  pub left : AreLines network rest behind
  pub count : length places ≡ length before
  pub each : (i place : ℕ) → slice_get places i ≡ Some place → BeginsAt network octets notes i place

-- of the octets these are left, and so whatever records they are the lines of, the first were found
pub record IsFoundSoFar (octets rest places : List ℕ) : Type 0 where
  pub front : List ℕ
  pub whole : octets ≡ front ++ rest
  pub found : (network : Network) (notes : List Note) → IsNamed network → AreLines network octets notes → AreFound network octets rest notes places

pub found_none : (octets : List ℕ) → IsFoundSoFar octets octets []
found_none octets = record {
  front = [];
  whole = refl;
  found = λ network notes named h. record {
    before = [];
    behind = notes;
    parts = refl;
    left = h;
    count = refl;
    each = λ i place there. absurd cc;
  };
}

-- the place of what is left
pub place_left : {octets rest places : List ℕ} → IsFoundSoFar octets rest places → length rest ≤ length octets
place_left {rest} h =
    let long = ap (λ xs. length xs) h.whole ∙ length-append h.front rest in omega (arith, long)

module _ (octets rest places : List ℕ) (so : IsFoundSoFar octets rest places) (i : ℕ) (e : position is_line_end rest ≡ Some i) where
  here : length octets - length rest ≡ length so.front
  here = let long = ap (λ xs. length xs) so.whole ∙ length-append so.front rest in omega (arith, long)

  begins_here : drop (length octets - length rest) octets ≡ rest
  begins_here = ap (λ (n : ℕ). drop n octets) here ∙ ap (λ (xs : List ℕ). drop (length so.front) xs) so.whole ∙ drop-append_seam so.front rest

  module _ (network : Network) (notes : List Note) (f : AreFound network octets rest notes places) where
    begins_at : BeginsAt network octets notes (length f.before) (length octets - length rest)
    begins_at =
        let notes_left : drop (length f.before) notes ≡ f.behind =
        ap (λ (ns : List Note). drop (length f.before) ns) f.parts ∙ drop-append_seam f.before f.behind in
        record {
          within = omega arith;
          lines = subst (λ xs. AreLines network xs (drop (length f.before) notes)) (sym begins_here)
              (subst (λ ns. AreLines network rest ns) (sym notes_left) f.left);
        }

    each_more : (k place : ℕ) → slice_get (places ++ (length octets - length rest) ∷ []) k ≡ Some place → BeginsAt network octets notes k place
    each_more k place there =
        elim (pushed places (length octets - length rest) place k there) [
          | inl old ↦ f.each k place old
          | inr new ↦
              subst (λ n. BeginsAt network octets notes k n) new.1
              (subst (λ n. BeginsAt network octets notes n (length octets - length rest)) (sym (new.0 ∙ f.count)) begins_at)
        ]

    one_more : IsNamed network → AreFound network octets (drop (i + 1) rest) notes (places ++ (length octets - length rest) ∷ [])
    one_more named =
        let next = line_behind f.behind i named e f.left in
        record {
          before = f.before ++ next.0 ∷ [];
          behind = next.1.rest;
          parts = f.parts ∙ ap (λ (ns : List Note). f.before ++ ns) next.1.is ∙ sym (append_assoc f.before (next.0 ∷ []) next.1.rest);
          left = next.1.lines;
          count =
              let a = length-append places ((length octets - length rest) ∷ []) in
              let b = length-append f.before (next.0 ∷ []) in
              omega (arith, a, b, f.count);
          each = each_more;
        }

pub found_one : {octets rest places : List ℕ} → IsFoundSoFar octets rest places → (i : ℕ)
    → position is_line_end rest ≡ Some i → IsFoundSoFar octets (drop (i + 1) rest)
    (places ++ (length octets - length rest) ∷ [])
found_one {octets} {rest} {places} so i e = record {
  front = so.front ++ take (i + 1) rest;
  whole = so.whole ∙ ap (λ (xs : List ℕ). so.front ++ xs) (sym (take-append-drop (i + 1) rest))
      ∙ sym (append_assoc so.front (take (i + 1) rest) (drop (i + 1) rest));
  found = λ network notes named h. one_more octets rest places so i e network notes (so.found network notes named h) named;
}

-- none is left
pub found_all : {octets rest places : List ℕ} → IsFoundSoFar octets rest places → position is_line_end rest ≡ None
    → {network : Network} {notes : List Note} → IsNamed network → AreLines network octets notes
    → ArePlaces network octets notes places
found_all so e {network} {notes} named h =
    let f = so.found network notes named h in
    let none = none_left f.behind named e f.left in
    let all = f.parts ∙ ap (λ (ns : List Note). f.before ++ ns) none ∙ append-nil f.before in
    record { count = f.count ∙ ap (λ ns. length ns) (sym all); each = f.each }

-- ---- the record of a number

got_at : (notes rest : List Note) (note : Note) (k : ℕ) → drop k notes ≡ note ∷ rest → slice_get notes k ≡ Some note
got_at [] rest note zero e = absurd cc
got_at [] rest note (suc k) e = absurd cc
got_at (n ∷ ns) rest note zero e = let same : n ≡ note = cc in ap Some same
got_at (n ∷ ns) rest note (suc k) e = got_at ns rest note k e

at_number : (notes : List Note) (number : ℕ) → (number ≡ 0 → ⊥) → note_at notes number ≡ slice_get notes (number - 1)
at_number notes number some = ap (λ n. note_at notes n) (number_of number some)

module _ (network : Network) (octets : List ℕ) (notes : List Note) (places : List ℕ) (are : ArePlaces network octets notes places) (number : ℕ)
    (some : number ≡ 0 → ⊥) where
  -- the place of its line was found
  pub place_read : (place : ℕ) → number - 1 < length places → place ≡ get_or places (number - 1) place
      → BeginsAt network octets notes (number - 1) place
  place_read place less is = are.each (number - 1) place (slice_get_read places (length places) (number - 1) place refl less is)

  -- what is read there is the record
  pub note_read : (P : Note → List Note → Type 0) → number - 1 < length places → (result : Option Note)
      → MatchOption result (drop (number - 1) notes ≡ []) (λ note. (rest : List Note) × (drop (number - 1) notes ≡ note ∷ rest) × P note rest)
      → result ≡ note_at notes number
  note_read P less None none =
      let left = sym (length-drop (number - 1) notes) ∙ ap (λ ns. length ns) none in
      let count = are.count in absurd (omega (arith, left, less, count))
  note_read P less (Some note) h = sym (at_number notes number some ∙ got_at notes h.0 note (number - 1) h.1)

  -- where no place was found there is none
  pub none_read : length places ≤ number - 1 → None ≡ note_at notes number
  none_read past =
      let count = are.count in sym (at_number notes number some ∙ slice_get_past notes (number - 1) (omega (arith, past, count)))

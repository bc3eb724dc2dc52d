-- The text of a report: parted at line ends, read and swept record by record, and answered.
use Rattle.std.{specs.{List.{cons_option, join_with_byte, slice_split}, Prelude.{filter_map, slice_get}}}
use Rattle.std.proofs.{Common.{◌≢◌, drop, suc, zero}}
use Rattle.std.proofs.lemmas.{Bool.cases_lt}
use Rattle.std.proofs.lemmas.List.{Elements.{All-nil, All-push, filter_map-append}}
use Rattle.std.proofs.lemmas.List.{Splits.{join_with_byte-slice_split, length-slice_split, slice_split_at}}
use Rattle.audit_law.proofs.law_lemmas.{Founded.timely, Owed.lack_law}
use Rattle.audit_sweep.proofs.Lacks.{sound_more, sound_none}
use Rattle.report_text.{proofs.SameReports.note_unbroken, specs.Ranges.{IsNoteInRange, IsNoteOf}}
use Rattle.run_law.proofs.{law.FirstDeliveries.at_length, records.Order.{as_many, happenings_on}}
use Rattle.audit_law.specs.law.{DebtLaws.IsFirstDebt, Debts.IsPaid}
use Rattle.audit_law.specs.law.{Findings.{AreSound, IsLacking, IsSound, IsUnfoundedAt, LacksNothing}, Owed.Pays}
use Rattle.audit_law.specs.law.{TracedEvents.{OwesEvent, TellsEvent}}
use Rattle.audit_sweep.specs.{Indexing.IsIndex, Judging.Befalls, Sweeping.IsSwept}
use Rattle.audit_sweep.specs.{declared.{index.Index.Index, sweep.Sweep.Sweep}}
use Rattle.fault_hypothesis.proofs.storm_lemmas.Storms.{any_split}
use Rattle.run_law.proofs.{runs.{Grow.in_two, NetworkRuns.one_more, Places.in_right}}
use Rattle.run_law.specs.records.{Happenings.{Happening, happening, time_of}, Order.{IsBefore, IsIn}}
use Rattle.run_law.specs.records.{Ranks.{key, members_in, rank}}
use Rattle.trace_text.proofs.Splitting.{PartedAt, parted}
use Rattle.tte_audit.proofs.{Meet.{GoesOn, apart_of, meet, next_line, no_octets}, OneAnswer.same_of, Passed.passed_law}
use Rattle.tte_audit.proofs.{ReportLacks.report_lack_law, RightEvents.{ends_with, may_there, told}}
use Rattle.tte_audit.proofs.Words
use Words.{◌++◌, ◌+◌, ◌∙◌, ◌∷◌, ◌≡◌, ◌≤◌, Any, AreEventsRight, BeginsWith, BeginsWithLine, BeginsWithRecord, End}
use Words.{EndWith, Event, IsDue, IsEventFault, IsRefusedBy, IsTextOf, List, MayCome, Network, None, Note, NoteBody}
use Words.{Option, Some, Units, [], amount, any_behind, any_first, ap, append-nil, append_assoc, arith, behind_time}
use Words.{codes, concat, event_by, events_of, happenings, inl, inr, is_line_end, length, length-append, note_line}
use Words.{note_text, place_of, position, refl, report_of, scenario_of, subst, sym, take, with_event, ℕ}
use Rattle.tte_audit.specs.{Answers.{AreSoundNotes, IsAudited, IsFirstLackOf}, Laws.{IsOfReport, NoneIsUnanswered}}
use Rattle.tte_audit.specs.{Named.IsNamed, Passing.IsIndexOf, Report.{AreNumbered, IsFormFault, IsOfEvents, LineThen}}
use Rattle.tte_audit.specs.{declared.refusal.AuditRefusal.AuditRefusal}
use Rattle.tte_io.specs.Line.{lf}
use Rattle.tte_units.specs.Amount.{units_of}
use Rattle.audit_law.specs.law.Owed as debts
use Rattle.run_law.specs.declared.note.NoteBody.TheVariants as notes
use Rattle.tte_audit.specs.declared.refusal.AuditRefusal.TheVariants as refusals

-- ---- the events of a report, read record by record

more_events : (befallen : List Event) (time : Units) (body : NoteBody) → befallen ++ events_of
    (record { number = 0; time = time; body = body } ∷ []) ≡ with_event befallen time body
more_events befallen time (notes.Event line what) = refl
more_events befallen time other = append-nil befallen

pub events_on : (before : List Note) (note : Note) → events_of (before ++ note ∷ []) ≡ with_event (events_of before) note.time note.body
events_on before note = filter_map-append (λ (n : Note). event_by n.time n.body) before (note ∷ []) ∙ more_events (events_of before) note.time note.body

one_filtered : {X Y : Type 0} (h : X → Option Y) (x : X) (xs : List X) (o : Option Y) → h x ≡ o → length (filter_map h xs) ≤ length xs
    → length (filter_map h (x ∷ xs)) ≤ length (x ∷ xs)
one_filtered h x xs None e few = rw e (omega (arith, few))
one_filtered h x xs (Some y) e few = rw e (omega (arith, few))

some_filtered : {X Y : Type 0} (h : X → Option Y) (xs : List X) → length (filter_map h xs) ≤ length xs
some_filtered h [] = omega arith
some_filtered h (x ∷ xs) = one_filtered h x xs (h x) refl (some_filtered h xs)

pub few_events : (ns : List Note) → length (events_of ns) ≤ length ns
few_events ns = some_filtered (λ (n : Note). event_by n.time n.body) ns

pub right_none : (network : Network) → AreEventsRight network []
right_none network [] behind note e = absurd cc
right_none network (b ∷ before) behind note e = absurd cc

pub right_on : (network : Network) (ns : List Note) (n : Note) → AreEventsRight network ns → MayCome network (events_of ns) n.time n.body
    → AreEventsRight network (ns ++ n ∷ [])
right_on network ns n right may before behind x e =
    elim (in_two ns before (x ∷ behind) n e) [
      | inl l ↦ absurd (cc l.0)
      | inr r ↦ by_others ns n right may before behind x r.others r.last r.whole
    ]
  where
    by_others : (ns : List Note) (n : Note) → AreEventsRight network ns → MayCome network (events_of ns) n.time n.body
        → (before behind : List Note) (x : Note) (others : List Note) → x ∷ behind ≡ others ++ n ∷ [] → ns ≡ before ++ others
        → MayCome network (events_of before) x.time x.body
    by_others ns n right may before behind x [] last whole =
        let same : x ≡ n = cc in
        let all : ns ≡ before = whole ∙ append-nil before in
        subst (λ (y : Note). MayCome network (events_of before) y.time y.body) (sym same)
        (subst (λ ms. MayCome network (events_of ms) n.time n.body) all may)
    by_others ns n right may before behind x (o ∷ others) last whole =
        let same : x ≡ o = cc in
        right before others x (whole ∙ ap (λ (y : Note). before ++ y ∷ others) (sym same))

-- the record behind these may not come
pub fault_here : (network : Network) (ns : List Note) (n : Note) (k : ℕ) → AreEventsRight network ns
    → (MayCome network (events_of ns) n.time n.body → ⊥) → k ≡ length ns + 1 → IsEventFault network (ns ++ n ∷ []) k
fault_here network ns n k right wrong number =
    record { before = ns; note = n; behind = []; parts = refl; number = number; right_before = right; wrong = wrong }

-- what may not come first stays so
pub fault_on : {network : Network} {ns : List Note} (n : Note) {k : ℕ} → IsEventFault network ns k
    → IsEventFault network (ns ++ n ∷ []) k
fault_on n fault = record {
  before = fault.before;
  note = fault.note;
  behind = fault.behind ++ n ∷ [];
  parts = ap (λ (ms : List Note). ms ++ n ∷ []) fault.parts ∙ append_assoc fault.before (fault.note ∷ fault.behind) (n ∷ []);
  number = fault.number;
  right_before = fault.right_before;
  wrong = fault.wrong;
}

-- ---- a report is parted at the ends of its lines

split_at : (octets : List ℕ) (i : ℕ) → position is_line_end octets ≡ Some i
    → slice_split is_line_end octets ≡ take i octets ∷ slice_split is_line_end (drop (i + 1) octets)
split_at octets i e = let h : PartedAt is_line_end octets (position is_line_end octets) = parted is_line_end octets in rw e at h

split_whole : (octets : List ℕ) → position is_line_end octets ≡ None → slice_split is_line_end octets ≡ octets ∷ []
split_whole octets e = let h : PartedAt is_line_end octets (position is_line_end octets) = parted is_line_end octets in rw e at h

-- there is a part at least
some_part : (octets : List ℕ) → slice_split is_line_end octets ≢ []
some_part octets e = omega (arith, ap length e, length-slice_split is_line_end octets)

join_more : (w : List ℕ) (ws : List (List ℕ)) → ws ≢ [] → join_with_byte lf (w ∷ ws) ≡ w ++ lf ∷ join_with_byte lf ws
join_more w [] some = absurd (some refl)
join_more w (v ∷ vs) some = refl

join_back : (octets : List ℕ) → join_with_byte lf (slice_split is_line_end octets) ≡ octets
join_back octets = join_with_byte-slice_split lf octets

-- the octets are those before the first LF, the LF, and those behind it
pub parts_at : (octets : List ℕ) (i : ℕ) → position is_line_end octets ≡ Some i → octets ≡ take i octets ++ lf ∷ drop (i + 1) octets
parts_at octets i e =
    let rest = drop (i + 1) octets in
    sym (join_back octets)
    ∙ ap (join_with_byte lf) (split_at octets i e)
    ∙ join_more (take i octets) (slice_split is_line_end rest) (some_part rest)
    ∙ ap (λ (t : List ℕ). take i octets ++ lf ∷ t) (join_back rest)

-- ---- the line of a record

head_of : List ℕ → List (List ℕ) → List ℕ
head_of d [] = d
head_of d (w ∷ ws) = w

tail_of : List (List ℕ) → List (List ℕ)
tail_of [] = []
tail_of (w ∷ ws) = ws

split_line : {network : Network} {n : ℕ} {octets left : List ℕ} → IsNamed network
    → (h : LineThen network n octets left) → slice_split is_line_end octets ≡ note_text network h.note
    ∷ slice_split is_line_end left
split_line {network} {octets} {left} named h =
    let text = note_text network h.note in
    let whole : octets ≡ text ++ lf ∷ left = h.text ∙ append_assoc text (codes "\n") left in
    ap (slice_split is_line_end) whole
    ∙ slice_split_at is_line_end text lf left (note_unbroken network h.note named.in_range (record { of_network = h.of_network; in_range = h.in_range })) refl

abbrev pub then_of : (network : Network) (n : ℕ) (octets : List ℕ) → (h : BeginsWithLine network n octets) → LineThen network n octets h.rest
then_of network n octets h = record { note = h.note; of_network = h.of_network; in_range = h.in_range; number = h.number; text = h.text }

-- octets without an LF begin with no line
pub no_lf : (network : Network) (n : ℕ) (octets : List ℕ) → IsNamed network → position is_line_end octets ≡ None → BeginsWithLine network n octets → ⊥
unfolding tail_of
no_lf network n octets named e h =
    some_part h.rest (sym (ap tail_of (split_line named (then_of network n octets h))) ∙ ap tail_of
    (split_whole octets e))

-- the text of the line with which they begin
pub text_at : (network : Network) (n : ℕ) (octets left : List ℕ) (i : ℕ) → IsNamed network → position is_line_end octets ≡ Some i
    → (h : LineThen network n octets left) → take i octets ≡ note_text network h.note
unfolding head_of
text_at network n octets left i named e h = ap (head_of []) (sym (split_at octets i e) ∙ split_line named h)

-- the text of the first line is one
pub one_text : (network : Network) (n m : ℕ) (octets left rest : List ℕ) → IsNamed network → (a : LineThen network n octets left)
    → (b : LineThen network m octets rest) → note_text network a.note ≡ note_text network b.note
unfolding head_of
one_text network n m octets left rest named a b = ap (head_of []) (sym (split_line named a) ∙ split_line named b)

-- where the octets before the first LF are a record's text, its line is the first
pub record_at : {network : Network} (octets : List ℕ) (i : ℕ) {note : Note} → position is_line_end octets ≡ Some i
    → IsTextOf network note (take i octets) → BeginsWithRecord network note octets (drop (i + 1) octets)
record_at {network} octets i {note} e h =
    record { of_network = h.of_network; in_range = h.in_range; text = text_of network octets i note e h }
  where
    text_of : (network : Network) (octets : List ℕ) (i : ℕ) (note : Note) → position is_line_end octets ≡ Some i → IsTextOf network note (take i octets)
        → octets ≡ note_line network note ++ drop (i + 1) octets
    text_of network octets i note e h = parts_at octets i e ∙ ap (λ (t : List ℕ). t ++ lf ∷ drop (i + 1) octets) h.same
        ∙ sym (append_assoc (note_text network note) (codes "\n") (drop (i + 1) octets))

-- ---- a reading goes on by a line

numbered_on : (notes : List Note) (note : Note) → AreNumbered notes → note.number ≡ length notes + 1 → AreNumbered (notes ++ note ∷ [])
numbered_on notes note numbers next before behind x e =
    elim (in_two notes before (x ∷ behind) note e) [
      | inl l ↦ absurd (cc l.0)
      | inr r ↦ by_others notes note numbers next before behind x r.others r.last r.whole
    ]
  where
    by_others : (notes : List Note) (note : Note) → AreNumbered notes → note.number ≡ length notes + 1
        → (before behind : List Note) (x : Note) (others : List Note) → x ∷ behind ≡ others ++ note ∷ [] → notes ≡ before ++ others
        → x.number ≡ length before + 1
    by_others notes note numbers next before behind x [] last whole =
        let same : x ≡ note = cc in
        ap (λ (n : Note). n.number) same ∙ next ∙ ap (λ ns. length ns + 1) (whole ∙ append-nil before)
    by_others notes note numbers next before behind x (o ∷ others) last whole =
        let same : x ≡ o = cc in
        numbers before others x (whole ∙ ap (λ n. before ++ n ∷ others) (sym same))

pub report_on : (network : Network) (notes : List Note) (note : Note)
    → concat (report_of network (notes ++ note ∷ [])) ≡ concat (report_of network notes) ++ note_line network note
report_on network [] note = append-nil (note_line network note)
report_on network (n ∷ ns) note = ap (λ (t : List ℕ). note_line network n ++ t) (report_on network ns note)
    ∙ sym (append_assoc (note_line network n) (concat (report_of network ns)) (note_line network note))

pub begins_on : {network : Network} {octets rest left : List ℕ} {notes : List Note}
    → BeginsWith network octets notes rest → (h : LineThen network (length notes + 1) rest left)
    → BeginsWith network octets (notes ++ h.note ∷ []) left
begins_on {network} {left} {notes} begins h = record {
  records = record {
    of_network = All-push (IsNoteOf network) notes h.note begins.records.of_network h.of_network;
    in_range = All-push IsNoteInRange notes h.note begins.records.in_range h.in_range;
  };
  numbers = numbered_on notes h.note begins.numbers h.number;
  text =
      begins.text
      ∙ ap (λ (t : List ℕ). concat (report_of network notes) ++ t) h.text
      ∙ sym (append_assoc (concat (report_of network notes)) (note_line network h.note) left)
      ∙ ap (λ (t : List ℕ). t ++ left) (sym (report_on network notes h.note));
}

-- a record whose line comes first, and so does that of its number
abbrev pub line_of : (network : Network) (note : Note) (n : ℕ) (octets left : List ℕ) → BeginsWithRecord network note octets left → note.number ≡ n
    → LineThen network n octets left
line_of network note n octets left h number = record { note = note; of_network = h.of_network; in_range = h.in_range; number = number; text = h.text }

pub begins_more : {network : Network} {octets rest left : List ℕ} {notes : List Note} {note : Note}
    → BeginsWith network octets notes rest → BeginsWithRecord network note rest left → note.number ≡ length notes + 1
    → BeginsWith network octets (notes ++ note ∷ []) left
begins_more {network} {rest} {left} {notes} {note} begins h next =
    begins_on begins (line_of network note (length notes + 1) rest left h next)

-- a line takes some octets
pub shorter : {network : Network} {note : Note} {octets left : List ℕ} → BeginsWithRecord network note octets left
    → length left + 1 ≤ length octets
shorter {network} {note} {left} h =
    omega (arith, ap length h.text, length-append (note_line network note) left, length-append (note_text network note) (codes "\n"))

-- at first no line is read
pub begins_none : (network : Network) (octets : List ℕ) → BeginsWith network octets [] octets
begins_none network octets = record {
  records = record { of_network = All-nil (IsNoteOf network); in_range = All-nil IsNoteInRange };
  numbers = λ before behind note e. absurd (no_note before behind note e);
  text = refl;
}
  where
    no_note : (before behind : List Note) (note : Note) → [] ≡ before ++ note ∷ behind → ⊥
    no_note [] behind note e = cc
    no_note (b ∷ before) behind note e = cc

pub no_octets_left : (octets : List ℕ) → length octets ≡ 0 → octets ≡ []
no_octets_left [] e = refl
no_octets_left (o ∷ octets) e = absurd (omega (arith, e))

-- ---- no octets are neither the report of a run nor refused

-- a list in front of which one more is taken from behind
moved : {X : Type 0} (ns before behind : List X) (x : X) → ns ≡ before ++ x ∷ behind → ns ≡ (before ++ x ∷ []) ++ behind
moved ns before behind x parts = parts ∙ sym (append_assoc before (x ∷ []) behind)

-- ---- the form of the lines

module _ (network : Network) (octets : List ℕ) (right : (n : ℕ) → IsFormFault network octets n → ⊥)
    (none : (ns : List Note) → BeginsWith network octets ns [] → ⊥) where
  -- where no line is at fault, the octets are the lines of some records
  lines_from : (most : ℕ) (rest : List ℕ) (before : List Note) → BeginsWith network octets before rest → length rest ≤ most → ⊥
  lines_from most [] before begins few = none before begins
  lines_from zero (o ∷ rest) before begins few = absurd (omega (arith, few))
  lines_from (suc most) (o ∷ rest) before begins few =
      right (length before + 1)
      (record {
        before = before;
        rest = o ∷ rest;
        begins = begins;
        some = λ e. cc;
        number = refl;
        no_line = λ line.
            let less = shorter {network = network} {note = line.note} {octets = o ∷ rest} {left = line.rest} (record { of_network = line.of_network; in_range = line.in_range; text = line.text }) in
            lines_from most line.rest (before ++ line.note ∷ [])
            (begins_on {left = line.rest} begins
            (record { note = line.note; of_network = line.of_network; in_range = line.in_range; number = line.number; text = line.text }))
            (omega (arith, few, less));
      })

  all_lines : ⊥
  all_lines = lines_from (length octets) octets [] (begins_none network octets) (omega arith)

-- ---- the events

-- where no record may not come, all may
all_right : (network : Network) (ns : List Note) → ((n : ℕ) → IsEventFault network ns n → ⊥) → (AreEventsRight network ns → ⊥) → ⊥
all_right network ns right none = go [] ns refl (right_none network)
  where
    go : (before behind : List Note) → ns ≡ before ++ behind → AreEventsRight network before → ⊥
    go before [] parts come = none (subst (AreEventsRight network) (sym (parts ∙ append-nil before)) come)
    go before (note ∷ behind) parts come =
        right (length before + 1)
        (record {
          before = before;
          note = note;
          behind = behind;
          parts = parts;
          number = refl;
          right_before = come;
          wrong = λ may. go (before ++ note ∷ []) behind (moved ns before behind note parts) (right_on network before note come may);
        })

any_last : (front : List Event) (event : Event) → event.what ≡ End → Any (λ (e : Event). e.what ≡ End) (front ++ event ∷ [])
any_last [] event is = any_first (λ (e : Event). e.what ≡ End) event [] is
any_last (e ∷ front) event is = any_behind (λ (d : Event). d.what ≡ End) e (front ++ event ∷ []) (any_last front event is)

-- an end is the last event, since none may befall the network behind it
end_with : (network : Network) (ns : List Note) → AreEventsRight network ns → Any (λ (e : Event). e.what ≡ End) (events_of ns)
    → (time : Units) × EndWith (events_of ns) time
end_with network ns right has =
    let at = any_split (λ (e : Event). e.what ≡ End) (events_of ns) has in by at.0 at.1 at.2 at.3 at.4
  where
    by : (front : List Event) (event : Event) (behind : List Event) → events_of ns ≡ front ++ event ∷ behind → event.what ≡ End
        → (time : Units) × EndWith (events_of ns) time
    by front event [] parts is = (event.time, subst (λ es. EndWith es event.time) (sym parts) (ends_with front event is))
    by front event (e ∷ behind) parts is =
        let may = may_there network ns (front ++ event ∷ []) behind e right (moved (events_of ns) front (e ∷ behind) event parts) in
        absurd (may.1.unended (any_last front event is))

-- ---- the records

-- where no record is the first that is not sound, all are
all_sound : {N : Type 0} (place : N → List ℕ) (IsDue : List N → N → Type 0) (mark : List ℕ) (ns : List N)
    → ((n : ℕ) → IsUnfoundedAt place IsDue mark ns n → ⊥) → (AreSound place IsDue mark ns → ⊥) → ⊥
all_sound {N} place IsDue mark ns right none = go [] ns refl (sound_none place IsDue mark)
  where
    go : (before behind : List N) → ns ≡ before ++ behind → AreSound place IsDue mark before → ⊥
    go before [] parts sound = none (subst (AreSound place IsDue mark) (sym (parts ∙ append-nil before)) sound)
    go before (x ∷ behind) parts sound =
        right (length before + 1)
        (record {
          before = before;
          record_there = x;
          behind = behind;
          parts = parts;
          number = refl;
          sound_before = sound;
          unsound = λ is. go (before ++ x ∷ []) behind (moved ns before behind x parts) (sound_more IsDue sound is);
        })

module _ (network : Network) (ns : List Note) (end : Units) (none : (t : Units) → IsFirstLackOf network ns end t → ⊥) where
  abbrev IsMissing : Happening → Type 0
  IsMissing x = IsLacking place_of (IsDue (scenario_of network ns)) (happenings network ns) x

  soon : (x : Happening) → IsBefore (place_of x) (behind_time end) → time_of x ≤ amount end
  soon x within = timely (time_of x) (amount end) (rank x.note.body ∷ key (members_in x) x.note.body) within

  -- where at no time a record is the first that is lacking, none is
  lacks_from : (most : ℕ) (x : Happening) → IsMissing x → IsBefore (place_of x) (behind_time end) → time_of x + 1 ≤ most → ⊥
  lacks_from zero x lacks within small = omega (arith, small)
  lacks_from (suc most) x lacks within small =
      none (units_of (time_of x))
      (record {
        at = time_of x;
        lack = record {
          missing = x;
          lacking = lacks;
          within = within;
          at = refl;
          first = λ other also. elim (cases_lt (time_of other) (time_of x)) [
            | inl less ↦
                absurd (lacks_from most other also (inl (omega (arith, less, soon x within))) (omega (arith, less, small)))
            | inr late ↦ late
          ];
        };
        is = refl;
      })

  none_lacks : LacksNothing place_of (IsDue (scenario_of network ns)) (behind_time end) (happenings network ns)
  none_lacks x lacks within = lacks_from (time_of x + 1) x lacks within (omega arith)

-- ---- the answer

module _ (network : Network) (octets : List ℕ) (named : IsNamed network)
    (fits : (refusal : AuditRefusal) → IsOfReport refusal → IsRefusedBy network octets refusal → ⊥)
    (none : (count : ℕ) → IsAudited network octets count → ⊥) where
  by_records : (ns : List Note) (end : Units) → IsOfEvents network octets ns end → ⊥
  by_records ns end of =
      all_sound place_of (IsDue (scenario_of network ns)) (behind_time end) (happenings network ns)
      (λ n fault. fits (refusals.Unfounded n) tt (ns, end, of, fault))
      (λ sound.
      none (length ns)
      ((passed_law network octets ns end named of).1
      (sound, none_lacks network ns end (λ t lack. fits (refusals.Lacking t) tt (ns, end, of, sound, lack)))))

  by_events : (ns : List Note) → BeginsWith network octets ns [] → ⊥
  by_events ns text =
      all_right network ns (λ n fault. fits (refusals.Events n) tt (ns, text, inl fault))
      (λ right.
      fits (refusals.Events (length ns + 1)) tt (
        ns,
        text,
        inr (record {
          right = right;
          unended = λ has. let ends = end_with network ns right has in by_records ns ends.0 (record { text = text; right = right; ends = ends.1 });
          number = refl;
        }),
      ))

pub answered : NoneIsUnanswered
answered network octets named fits none =
    all_lines network octets (λ n fault. fits (refusals.Form n) tt fault) (by_events network octets named fits none)

-- ---- the records of a report, swept one by one

-- of a report whose events are right these octets are left behind the records that were taken
pub record IsUnderWay (network : Network) (octets : List ℕ) (records : ℕ) (rest : List ℕ) (sweep : Sweep) : Type 0 where
  pub notes : List Note
  pub end : Units
  pub of : IsOfEvents network octets notes end
  pub taken : List Note
  pub begins : BeginsWith network octets taken rest
  pub counted : records ≡ length taken
  pub swept : IsSwept network (events_of notes) end (happenings network taken) sweep

-- ---- the records behind those that were taken

over : (network : Network) (notes taken more : List Note) (rest : List ℕ) → taken ≡ notes ++ more → [] ≡ concat (report_of network more) ++ rest
    → GoesOn network taken notes rest []
over network notes taken [] rest is text =
    record { more = []; is = sym (is ∙ append-nil notes) ∙ sym (append-nil taken); text = sym text }
over network notes taken (m ∷ ms) rest is text = absurd (no_octets network m ms rest text)

-- the records that were read first are a front of all
pub front_of : {network : Network} {octets rest : List ℕ} {taken notes : List Note} → IsNamed network
    → BeginsWith network octets taken rest → BeginsWith network octets notes [] → GoesOn network taken notes rest []
front_of {network} {rest} {taken} {notes} named begins all =
    elim (meet taken notes rest [] (apart_of named) begins.records all.records (sym begins.text ∙ all.text)) [
      | inl on ↦ on
      | inr on ↦ over network notes taken on.more rest on.is on.text
    ]

-- a record whose line comes next is that behind those that were taken
pub record IsNext (network : Network) (octets : List ℕ) (taken notes : List Note) (note : Note) (left : List ℕ) : Type 0 where
  pub behind : List Note
  pub parts : notes ≡ taken ++ note ∷ behind
  pub begins : BeginsWith network octets (taken ++ note ∷ []) left

pub next_record : {network : Network} {octets rest left : List ℕ} {taken notes : List Note} {note : Note} (n : ℕ)
    → IsNamed network → BeginsWith network octets taken rest → BeginsWith network octets notes [] → n ≡ length taken
    → BeginsWithRecord network note rest left → note.number ≡ n + 1 → IsNext network octets taken notes note left
next_record {taken} {note} n named begins all counted here number =
    let next : note.number ≡ length taken + 1 = number ∙ ap (λ k. k + 1) counted in
    let more = begins_more begins here next in
    let on = front_of named more all in
    record { behind = on.more; parts = on.is ∙ append_assoc taken (note ∷ []) on.more; begins = more }

-- where no line comes next, all were taken
pub all_taken : {network : Network} {octets rest : List ℕ} {taken notes : List Note} (n : ℕ) → IsNamed network
    → BeginsWith network octets taken rest → BeginsWith network octets notes [] → n ≡ length taken
    → (BeginsWithLine network (n + 1) rest → ⊥) → notes ≡ taken
all_taken {network} {octets} {rest} {taken} {notes} n named begins all counted none =
    let on = front_of named begins all in
    ended on.more on.is on.text
  where
    ended : (more : List Note) → notes ≡ taken ++ more → rest ≡ concat (report_of network more) ++ [] → notes ≡ taken
    ended [] is text = is ∙ append-nil taken
    ended (m ∷ ms) is text =
        absurd (none (subst (λ k. BeginsWithLine network (k + 1) rest) (sym counted)
        (next_line network octets taken m ms rest all is text)))

-- ---- the event of a record

event_there : (all front behind : List Event) (o : Option Event) (event : Event) → all ≡ front ++ cons_option o behind → o ≡ Some event
    → slice_get all (length front) ≡ Some event
event_there all front behind o event parts is =
    let whole : all ≡ front ++ event ∷ behind = parts ∙ ap (λ (x : Option Event). front ++ cons_option x behind) is in
    subst (λ (es : List Event). slice_get es (length front) ≡ Some event) (sym whole) (at_length front behind event)

befalls_by : (network : Network) (befallen all : List Event) (time : Units) (body : NoteBody) → MayCome network befallen time body
    → ((event : Event) → event_by time body ≡ Some event → slice_get all (length befallen) ≡ Some event) → Befalls all time body
befalls_by network befallen all time (notes.Event line what) may there = record {
  event = record { time = time; what = what };
  before = length befallen;
  line_is = may.next;
  is = there (record { time = time; what = what }) refl;
  at = refl;
  same = refl;
}
befalls_by network befallen all time body may there = tt

-- the event of a record, if it has one, befalls as the record says
pub befalls_there : (network : Network) (ns taken behind : List Note) (note : Note) → AreEventsRight network ns → ns ≡ taken ++ note ∷ behind
    → Befalls (events_of ns) note.time note.body
befalls_there network ns taken behind note right parts =
    let events : events_of ns ≡ events_of taken ++ cons_option (event_by note.time note.body) (events_of behind) =
    ap events_of parts ∙ filter_map-append (λ (n : Note). event_by n.time n.body) taken (note ∷ behind) in
    befalls_by network (events_of taken) (events_of ns) note.time note.body (right taken behind note parts)
    (λ event is. event_there (events_of ns) (events_of taken) (events_of behind) (event_by note.time note.body) event events is)

-- ---- the records with their frames

-- a record of a report, with those before it and those behind it
pub happening_there : (network : Network) (ns front behind : List Note) (note : Note) → ns ≡ front ++ note ∷ behind
    → (gs : List Happening) × (happenings network ns ≡ happenings network front ++ happening network (happenings network front) note ∷ gs)
happening_there network ns front behind note parts =
    let on = happenings_on network (front ++ note ∷ []) behind in
    let h = happening network (happenings network front) note in (
      on.0,
      ap (happenings network) (parts ∙ sym (append_assoc front (note ∷ []) behind))
          ∙ on.1
          ∙ ap (λ (hs : List Happening). hs ++ on.0) (one_more network front note)
          ∙ append_assoc (happenings network front) (h ∷ []) on.0,
    )

-- ---- one record more

pub swept_on : {network : Network} {befallen : List Event} {end : Units} (taken : List Note) (note : Note)
    {sweep : Sweep} → IsSwept network befallen end (happenings network taken
    ++ happening network (happenings network taken) note ∷ []) sweep
    → IsSwept network befallen end (happenings network (taken ++ note ∷ [])) sweep
swept_on {network} {befallen} {end} taken note {sweep} swept =
    subst (λ hs. IsSwept network befallen end hs sweep) (sym (one_more network taken note)) swept

pub swept_all : {network : Network} (octets : List ℕ) (ns taken : List Note) {end : Units} {sweep : Sweep}
    → ns ≡ taken → IsSwept network (events_of ns) end (happenings network taken) sweep
    → IsSwept network (events_of ns) end (happenings network ns) sweep
swept_all {network} octets ns taken {end} {sweep} all swept =
    subst (λ ms. IsSwept network (events_of ns) end (happenings network ms) sweep) (sym all) swept

-- a record that is not sound is the first
pub unfounded_at : {network : Network} {octets : List ℕ} {ns : List Note} (taken behind : List Note) (note : Note)
    {end : Units} (n : ℕ) → IsOfEvents network octets ns end → ns ≡ taken ++ note ∷ behind → n ≡ length taken + 1
    → AreSound place_of (IsDue (scenario_of network ns)) (behind_time end) (happenings network taken) →
    (IsSound place_of (IsDue (scenario_of network ns)) (behind_time end) (happenings network taken) (happening
    network (happenings network taken) note) → ⊥) → IsRefusedBy network octets (refusals.Unfounded n)
unfounded_at {network} {ns} taken behind note {end} n of parts number sound unsound =
    let whole = happening_there network ns taken behind note parts in (
      ns,
      end,
      of,
      record {
        before = happenings network taken;
        record_there = happening network (happenings network taken) note;
        behind = whole.0;
        parts = whole.1;
        number = number ∙ ap (λ k. k + 1) (sym (as_many network taken));
        sound_before = sound;
        unsound = unsound;
      },
    )

-- ---- the end of the records

tells_line : (network : Network) (befallen : List Event) (time : Units) (body : NoteBody) (event : Event) (line : ℕ) → event_by time body ≡ Some event
    → MayCome network befallen time body → line ≡ length befallen + 1 → TellsEvent line body
tells_line network befallen time (notes.Event other what) event line is may at = may.next ∙ sym at
tells_line network befallen time body event line is may at = absurd cc

parted_at : (es : List Event) (i : ℕ) (event : Event) → slice_get es i ≡ Some event
    → (front : List Event) × (behind : List Event) × (es ≡ front ++ event ∷ behind) × (length front ≡ i)
parted_at [] i event e = absurd cc
parted_at (x ∷ es) zero event e = let same : x ≡ event = cc in ([], es, ap (λ (y : Event). y ∷ es) same, refl)
parted_at (x ∷ es) (suc i) event e =
    let more = parted_at es i event e in
    (x ∷ more.0, more.1, ap (λ (ys : List Event). x ∷ ys) more.2, ap suc more.3)

-- each event of a report has its record
pub events_paid : (network : Network) (ns : List Note) {until line : ℕ} → AreEventsRight network ns
    → OwesEvent (scenario_of network ns) until line → IsPaid (happenings network ns) (Pays (scenario_of network ns))
    (debts.event line)
events_paid network ns {line} right owes =
    let at = parted_at (events_of ns) owes.before owes.event owes.is in
    let by = told ns at.0 at.1 owes.event at.2 in
    let whole = happening_there network ns by.front by.rest by.note by.whole in
    let h = happening network (happenings network by.front) by.note in
    let number : line ≡ length (events_of by.front) + 1 = owes.line_is ∙ ap (λ k. k + 1) (sym at.3 ∙ ap length (sym by.same)) in (
      h,
      subst (IsIn h) (sym whole.1) (in_right h (happenings network by.front) (h ∷ whole.0) (inl refl)),
      tells_line network (events_of by.front) by.note.time by.note.body owes.event line by.tells (right by.front by.rest by.note by.whole) number,
    )

module _ (network : Network) (octets : List ℕ) (ns : List Note) (end : Units) where
  -- a report whose records are all sound, and that lacks nothing, is passed
  pub passes : (n : ℕ) → IsNamed network → IsOfEvents network octets ns end → n ≡ length ns
      → AreSoundNotes network ns end → LacksNothing place_of (IsDue (scenario_of network ns)) (behind_time end)
      (happenings network ns) → IsAudited network octets n
  passes n named of counted sound lacks =
      subst (IsAudited network octets) (sym counted) ((passed_law network octets ns end named of).1 (sound, lacks))

  -- what its records show is what the octets tell
  pub indexed : {index : Index} → IsNamed network → IsOfEvents network octets ns end
      → IsIndex network (events_of ns) (happenings network ns) index → IsIndexOf network octets index
  indexed {index} named of h notes time other =
      subst (λ ms. IsIndex network (events_of ms) (happenings network ms) index)
      (same_of named of other).lists h

  -- and one that lacks something is refused by the time of that
  pub lacks_at : {t : ℕ} → IsOfEvents network octets ns end → AreSoundNotes network ns end
      → IsFirstDebt (scenario_of network ns) (happenings network ns) (amount end) t
      → IsRefusedBy network octets (refusals.Lacking (units_of t))
  lacks_at {t} of sound debt = (ns, end, of, sound, (report_lack_law network ns end t sound).1 debt)

-- which is no later than the end
pub lacks_by_end : (network : Network) (ns : List Note) (end : Units) {t : ℕ} → AreSoundNotes network ns end
    → IsFirstDebt (scenario_of network ns) (happenings network ns) (amount end) t → t ≤ amount end
lacks_by_end network ns end {t} sound debt =
    let lack = (lack_law (scenario_of network ns) (happenings network ns) (amount end) t sound).1 debt in
    let x = lack.missing in
    let soon = timely (time_of x) (amount end) (rank x.note.body ∷ key (members_in x) x.note.body) lack.within in
    omega (arith, soon, lack.at)

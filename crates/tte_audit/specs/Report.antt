-- A report, as the records that it tells, and the events among them.
use Rattle.std.specs.{List.concat, Prelude.{length, pos, ℕ}}
use Rattle.std.specs.Prelude.{◌++◌, ◌+◌, ◌==◌, ◌∷◌, ◌≡◌, ◌≢◌, ◌≤ℤ◌, Any, Bool, List, None, Option, Some, [], filter_map}
use Rattle.{audit_law.specs.events.Readings.scenario_under, net_plan.specs.declared.network.Network.Network}
use Rattle.{net_plan.specs.declared.event.Event.Event, run_law.specs.scenario.Scenarios.Scenario, tte_io.specs.Line.lf}
use Rattle.{net_plan.specs.declared.event.What.TheVariants.End, run_law.specs.scenario.Hypothesis.IsWithinHypothesis}
use Rattle.{report_text.specs.Laws.AreOfNetwork, tte_units.specs.Amount.amount}
use Rattle.report_text.specs.{NoteLine.{note_line, note_text, report_of}, Ranges.{IsNoteInRange, IsNoteOf}}
use Rattle.{run_law.specs.declared.note.{Note.Note, NoteBody.NoteBody}, tte_units.specs.declared.units.Units.Units}
use Rattle.run_law.specs.declared.note.NoteBody.TheVariants as notes

-- ---- form

-- does the octet end a line?
abbrev pub is_line_end : ℕ → Bool
is_line_end octet = octet == lf

-- the record that says this
abbrev pub saying : ℕ → Units → NoteBody → Note
saying number time body = record { number = number; time = time; body = body }

-- the text, without LF, is that of this record of the network
pub record IsTextOf (network : Network) (note : Note) (text : List ℕ) : Type 0 where
  pub of_network : IsNoteOf network note
  pub in_range : IsNoteInRange note
  pub same : text ≡ note_text network note

-- each record has its place as its number, from 1
abbrev pub AreNumbered : List Note → Type 0
AreNumbered notes = (before behind : List Note) (note : Note) → notes ≡ before ++ note ∷ behind
    → note.number ≡ length before + 1

-- the octets begin with the lines of these records, and then these are left
pub record BeginsWith (network : Network) (octets : List ℕ) (notes : List Note) (rest : List ℕ) : Type 0 where
  pub records : AreOfNetwork network notes
  pub numbers : AreNumbered notes
  pub text : octets ≡ concat (report_of network notes) ++ rest

-- the octets begin with the line of a record of this number
pub record BeginsWithLine (network : Network) (n : ℕ) (octets : List ℕ) : Type 0 where
  pub note : Note
  pub of_network : IsNoteOf network note
  pub in_range : IsNoteInRange note
  pub number : note.number ≡ n
  pub rest : List ℕ
  pub text : octets ≡ note_line network note ++ rest

-- the octets begin with the line of this record, and then these are left
pub record BeginsWithRecord (network : Network) (note : Note) (octets left : List ℕ) : Type 0 where
  pub of_network : IsNoteOf network note
  pub in_range : IsNoteInRange note
  pub text : octets ≡ note_line network note ++ left

-- the octets begin with the line of this record, which has this number, and then these are left
pub record IsNextLine (network : Network) (number : ℕ) (octets left : List ℕ) (note : Note) : Type 0 where
  pub begins : BeginsWithRecord network note octets left
  pub numbered : note.number ≡ number

-- the octets begin with the line of a record of this number, and then these are left
pub record LineThen (network : Network) (n : ℕ) (octets left : List ℕ) : Type 0 where
  pub note : Note
  pub of_network : IsNoteOf network note
  pub in_range : IsNoteInRange note
  pub number : note.number ≡ n
  pub text : octets ≡ note_line network note ++ left

-- the line of this number is the first that is no line of a record of its number, or lacks its LF
pub record IsFormFault (network : Network) (octets : List ℕ) (n : ℕ) : Type 0 where
  pub before : List Note
  pub rest : List ℕ
  pub begins : BeginsWith network octets before rest
  pub some : rest ≢ []
  pub number : n ≡ length before + 1
  pub no_line : BeginsWithLine network n rest → ⊥

-- ---- events

-- the event of a record at the time, where it has one
abbrev pub event_by : Units → NoteBody → Option Event
event_by time (notes.Event line what) = Some (record { time = time; what = what })
event_by time other = None

-- the events of the records
abbrev pub events_of : List Note → List Event
events_of ns = filter_map (λ note. event_by note.time note.body) ns

-- the events with that of one more record, where it has one
abbrev pub with_event : List Event → Units → NoteBody → List Event
with_event befallen time (notes.Event line what) = befallen ++ record { time = time; what = what } ∷ []
with_event befallen time other = befallen

-- the event of this line may befall the network from time 0 on, given those before it
pub record MayBefall (network : Network) (befallen : List Event) (line : ℕ) (event : Event) : Type 0 where
  pub next : line ≡ length befallen + 1
  pub begun : pos 0 ≤ℤ event.time.0
  pub within : IsWithinHypothesis network befallen event
  pub unended : Any (λ e. e.what ≡ End) befallen → ⊥

-- the record has no event
abbrev pub HasNoEvent : NoteBody → Type 0
HasNoEvent (notes.Event line what) = ⊥
HasNoEvent other = Unit {0}

-- a record with this may come at the time, given the events before it: what is no event always may
abbrev pub MayCome : Network → List Event → Units → NoteBody → Type 0
MayCome network befallen time (notes.Event line what) =
    MayBefall network befallen line (record { time = time; what = what })
MayCome network befallen time other = Unit {0}

-- each record may come, given the events before it
abbrev pub AreEventsRight : Network → List Note → Type 0
AreEventsRight network ns = (before behind : List Note) (note : Note) → ns ≡ before ++ note ∷ behind
    → MayCome network (events_of before) note.time note.body

-- the record of this number is the first that may not come
pub record IsEventFault (network : Network) (ns : List Note) (n : ℕ) : Type 0 where
  pub before : List Note
  pub note : Note
  pub behind : List Note
  pub parts : ns ≡ before ++ note ∷ behind
  pub number : n ≡ length before + 1
  pub right_before : AreEventsRight network before
  pub wrong : MayCome network (events_of before) note.time note.body → ⊥

-- no record is that of an end, and this number is one more than their count
pub record IsEndless (network : Network) (ns : List Note) (n : ℕ) : Type 0 where
  pub right : AreEventsRight network ns
  pub unended : Any (λ e. e.what ≡ End) (events_of ns) → ⊥
  pub number : n ≡ length ns + 1

-- ---- the scenario of a report

-- the network under the events of the records
abbrev pub scenario_of : Network → List Note → Scenario
scenario_of network ns = scenario_under network (events_of ns)

-- just behind all that is of this time
abbrev pub behind_time : Units → List ℕ
behind_time time = (amount time + 1) ∷ []

-- the last of the events is the end, at this time
abbrev pub EndWith : List Event → Units → Type 0
EndWith events time = (front : List Event) × (events ≡ front ++ record { time = time; what = End } ∷ [])

-- the octets are the lines of these records, whose events may befall the network, the last one being the end, at this
-- time
pub record IsOfEvents (network : Network) (octets : List ℕ) (ns : List Note) (time : Units) : Type 0 where
  pub text : BeginsWith network octets ns []
  pub right : AreEventsRight network ns
  pub ends : EndWith (events_of ns) time

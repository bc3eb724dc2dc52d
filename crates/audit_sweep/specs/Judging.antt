-- What is known of a record before it is judged.
use Rattle.std.specs.Prelude.{◌^◌, ◌≤ℤ◌, ◌≤◌, List, pos, ℕ}
use Rattle.{net_plan.specs.declared.event.Event.Event, tte_units.specs.{Amount.amount, declared.units.Units.Units}}
use Rattle.{net_plan.specs.declared.network.Network.Network, run_law.specs.records.Ranks.{place_at, place_of}}
use Rattle.{report_text.specs.Ranges.IsBodyOf, run_law.specs.records.Order.AllBefore}
use Rattle.run_law.specs.{declared.note.NoteBody.NoteBody, records.Happenings.Happening, runs.DueRecords.IsEventRecord}
use Rattle.run_law.specs.declared.note.NoteBody.TheVariants as notes

-- where the record is of an event, that befalls so
abbrev pub Befalls : List Event → Units → NoteBody → Type 0
Befalls events time (notes.Event line what) = IsEventRecord events time line what
Befalls events time other = Unit {0}

-- the record stands behind all of these
pub record StandsBehind (hs : List Happening) (time : Units) (body : NoteBody) : Type 0 where
  pub members : ℕ
  pub before : AllBefore place_of hs (place_at (amount time) members body)

-- the things that the record names are the network's, and its time is from 0 on and none too late for a clock
pub record IsJudgeable (network : Network) (time : Units) (body : NoteBody) : Type 0 where
  pub of_network : IsBodyOf network body
  pub begun : pos 0 ≤ℤ time.0
  pub timely : amount time ≤ 2 ^ 60

-- What the observer of `stamp` sees of a run.
use Rattle.std.specs.Prelude.{◌++◌, ◌+◌, ◌∷◌, ◌≡◌, Err, List, Ok, Result, [], length, ℕ}
use Rattle.drift_clock.specs.Segment.{fresh_segment, segment_reading, stepped_segment}
use Rattle.{drift_world.specs.Locals.MayShowBefore, tte_io.specs.declared.ends.Sink.Ghosts}
use Rattle.{net_plan.specs.declared.event.Event.Event, world_drive.specs.Observing.{Told, told_by}}
use Rattle.{net_plan.specs.declared.network.Network.Network, tte_observers.specs.stamps.StampLines.stamp_lines}
use Rattle.run_law.specs.declared.note.Note.{Note}
use Rattle.{tte_forms.specs.Putting.{PutFails, PutsLines}, tte_traces.specs.Report.{StopsLines, shown_as}}
use Rattle.world_drive.specs.{declared.observing.Cut.{Cut, TheVariants.OutOfMemory}, machines.Standing.StandsAsDevice}
use Rattle.world_drive.specs.exact.{Records.AreRecordsSoFar, Worlds.{ExactWorld, IsReached, StandsExact}}

-- the world stands right behind the event of the trace's line of this number
pub record IsAtLine (network : Network) (world : ExactWorld) (number : ℕ) (before : List Event) (event : Event)
    (notes : List Note) : Type 0 where
  pub stands : StandsExact network world (before ++ event ∷ []) notes
  pub reached : IsReached world event.time
  pub counted : number ≡ length before + 1

-- the world is of the network, and only events of its instant are worked off
pub record MayStamp (network : Network) (world : ExactWorld) : Type 0 where
  pub same : world.network ≡ network
  pub before : MayShowBefore fresh_segment stepped_segment segment_reading StandsAsDevice world

-- the lines were put, or the put of one of them failed
abbrev pub PutsAll : {T K : Type 0} → Ghosts K → Result T Cut → List (List ℕ) → K → K → Type 0
PutsAll sink (Ok x) lines old new = PutsLines lines (shown_as (told_by sink old)) (shown_as (told_by sink new))
PutsAll sink (Err e) lines old new = PutFails lines (shown_as (told_by sink old)) (shown_as (told_by sink new))

-- the stamps of the lines so far were put, by the records of the run so far
pub record PutsStamps (granule : ℕ) (network : Network) (events : List Event) (old put : Told) : Type 0 where
  pub notes : List Note
  pub records : AreRecordsSoFar network events notes
  pub puts : PutsLines (stamp_lines granule network events notes) (shown_as old) (shown_as put)

-- they were put until writing failed, or memory ran out
pub record StopsStamps (granule : ℕ) (network : Network) (events : List Event) (cut : Cut)
    (old put : Told) : Type 0 where
  pub notes : List Note
  pub records : AreRecordsSoFar network events notes
  pub stops : StopsLines (stamp_lines granule network events notes) cut old put

-- what was put so far was put where memory ran out
pub stops_here : (granule : ℕ) (network : Network) (events : List Event) (old put : Told)
    → PutsStamps granule network events old put → StopsStamps granule network events OutOfMemory old put
stops_here granule network events old put p = record { notes = p.notes; records = p.records; stops = p.puts }

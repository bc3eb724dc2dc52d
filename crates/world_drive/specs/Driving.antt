-- How a drive ends.
use Rattle.std.specs.Prelude.{◌++◌, ◌+◌, ◌∷◌, ◌≡◌, List, None, Option, Some, [], ℕ}
use Rattle.drift_world.specs.Running.{last_time}
use Rattle.{net_plan.specs.declared.event.Event.Event, tte_io.specs.declared.ends.Sink.Ghosts}
use Rattle.{net_plan.specs.declared.network.Network.Network, world_drive.specs.exact.Worlds.{ExactWorld, StandsExact}}
use Rattle.{run_law.specs.declared.note.Note.Note, world_drive.specs.declared.{driving.Drove.Drove, observing.Cut.Cut}}
use Rattle.{run_law.specs.records.Order.IsBefore, tte_units.specs.Amount.amount, world_drive.specs.Seeing.HasBefallen}
use Rattle.world_drive.specs.{Observing.{FailsBy, Grows, Sees, Stops, Told, start_by, told_by}, Sources.{Gave, Stopped}}
use Rattle.world_drive.specs.exact.Records.{AreAllRecords, AreRecordsBefore, AreRecordsSoFar, HaveEnded}
use Rattle.world_drive.specs.declared.driving.Drove.TheVariants as ends

-- the observer had seen all records up to that of the last of these events, and what was put grew from there
pub record HasSeenSoFar {K O : Type 0} (sink : Ghosts K) (see : Sees O) (network : Network) (events : List Event)
    (begun : O) (old new : K) : Type 0 where
  pub notes : List Note
  pub records : AreRecordsSoFar network events notes
  pub observer : O
  pub between : Told
  pub sees : see network events notes None (start_by sink old begun) between observer
  pub grew : Grows between (told_by sink new)

-- all events of the source befell the world, and all records of the run are seen
pub record DrivesAll {B K E O : Type 0} (sink : Ghosts K) (end : Gave B E) (see : Sees O) (network : Network)
    (first : B)
    (origin : E) (from : B) (source : E) (world : ExactWorld) (begun observer : O) (old new : K) : Type 0 where
  pub events : List Event
  pub notes : List Note
  pub ended : end network first origin events from source
  pub have_ended : HaveEnded events
  pub stands : StandsExact network world events notes
  pub records : AreAllRecords network events notes
  pub sees : see network events notes None (start_by sink old begun) (told_by sink new) observer
  pub so_far : HasSeenSoFar sink see network events begun old new
  pub quiet : sink.faults new ≡ sink.faults old

-- the source stopped for a cause, and all records up to that of the last event are seen
pub record DrivesSoFar {B S K E O : Type 0} (sink : Ghosts K) (stop : Stopped B S K E) (see : Sees O)
    (network : Network)
    (first : B) (origin : E) (cause : S) (from : B) (source : E) (begun observer : O) (old new : K) : Type 0 where
  pub events : List Event
  pub notes : List Note
  pub before : K
  pub quiet : sink.faults before ≡ sink.faults old
  pub stopped : stop network first origin events cause from source before new
  pub so_far : AreRecordsSoFar network events notes
  pub sees : see network events notes None (start_by sink old begun) (told_by sink new) observer

-- what is before the mark of these records is up to the time of the last event
pub record IsUpToEnd (network : Network) (events : List Event) (notes : List Note) : Type 0 where
  pub mark : List ℕ
  pub up_to : (p : List ℕ) → IsBefore p mark → IsBefore p ((amount (last_time events) + 1) ∷ [])
  pub run : AreRecordsBefore network events mark notes

-- the records are those on the way to the next event, or up to its own; or, behind the last, on the way to the end
abbrev pub IsCutAt : {B E : Type 0} → Gave B E → Gave B E → Network → B → E → List Event → Option Event → List Event
    → List Note
    → B → E → Type 0
IsCutAt gave ended network first origin events (Some event) befallen notes from source =
    gave network first origin (events ++ event ∷ []) from source × HasBefallen network events event befallen notes
IsCutAt gave ended network first origin events None befallen notes from source =
    ended network first origin events from source × HaveEnded events × (befallen ≡ events)
    × IsUpToEnd network events notes

-- the observer failed, or memory ran out, behind these events, of which all records up to that of the last were seen
pub record DrivesCut {B K E O : Type 0} (sink : Ghosts K) (give end : Gave B E) (see : Sees O) (stop : Stops O)
    (network : Network) (first : B) (origin : E) (cut : Cut) (from : B) (source : E) (begun : O) (old new : K) : Type
    0 where
  pub events : List Event
  pub so_far : HasSeenSoFar sink see network events begun old new
  pub next : Option Event
  pub befallen : List Event
  pub notes : List Note
  pub at : IsCutAt give end network first origin events next befallen notes from source
  pub stops : stop network befallen notes cut (start_by sink old begun) (told_by sink new)
  pub cause : FailsBy sink old new cut

-- how a drive ends
abbrev pub Drives : {B S K E O : Type 0} → Ghosts K → Gave B E → Gave B E → Stopped B S K E → Sees O → Stops O → Network
    → B → E
    → Drove S → B → E → ExactWorld → O → O → K → K → Type 0
Drives sink gave ended stopped sees stops network first origin ends.All from source world begun observer old new =
    DrivesAll sink ended sees network first origin from source world begun observer old new
Drives sink gave ended stopped sees stops network first origin (ends.Stopped cause) from source world begun observer old
    new =
    DrivesSoFar sink stopped sees network first origin cause from source begun observer old new
Drives sink gave ended stopped sees stops network first origin (ends.Cut cut) from source world begun observer old new =
    DrivesCut sink gave ended sees stops network first origin cut from source begun old new

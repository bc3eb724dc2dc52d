-- Events of a later time, and times behind the end.
use Rattle.std.specs.Prelude.{if◌then◌else◌, ◌&&◌, ◌+◌, ◌<ℤ◌, ◌∷◌, ◌≡◌, ◌≤ℤ◌, ◌≤◌, List, [], false, int_lt, pos, true}
use Rattle.std.specs.Prelude.{ℕ, ℤ}
use Rattle.drift_world.specs.Running.{HoldsATime, StandsUnder, reading_of}
use Rattle.run_law.specs.scenario.Hypothesis.{IsWithinHypothesis}
use Rattle.{net_plan.specs.Belonging.IsOfNetwork, world_law.specs.world.World.World}
use Rattle.net_plan.specs.declared.{event.Event.Event, network.Network.Network}
use Rattle.{run_law.specs.{declared.note.Note.Note, runs.DueRecords.IsRunOf}, tte_units.specs.Amount.{amount, units_of}}
use Rattle.{tte_units.specs.declared.units.Units.Units, world_state.specs.declared.kept.Kept.Kept}
use Rattle.world_state.specs.Keeping.{Meaning}

-- it may befall at its time: that is not past, where it is the present time nothing of it but events is worked off, and
-- the end has not come
pub record IsOpenFrom {C M : Type 0} (world : World C (Kept M)) (event : Event) : Type 0 where
  pub time : pos world.now ≤ℤ event.time.0
  pub early : event.time.0 ≡ pos world.now → world.early ≡ true
  pub unended : world.ended ≡ false

-- these events and records leave the world where it stands; where the event is later than the present time, no record
-- before it is left; and it is within the hypothesis after these events
pub record ComesBehind {C M : Type 0} (fresh : ℕ → C) (after_step : C → ℕ → ℤ → C) (reading : C → ℕ → ℕ)
    (stands : Meaning M) (network : Network) (world : World C (Kept M)) (events : List Event) (notes : List Note)
    (event : Event) : Type 0 where
  pub is : StandsUnder fresh after_step reading stands network world events notes
  pub none_left : pos world.now <ℤ event.time.0
      → IsRunOf network (reading_of fresh after_step reading network events) events (amount event.time ∷ []) notes
  pub within : IsWithinHypothesis network events event

-- the event of this line may be applied to the world: it is of the next line, it may befall at its time, a hold that it
-- sets is a time, and it does so for some events and records, and is the network's
pub record MayApply {C M : Type 0} (fresh : ℕ → C) (after_step : C → ℕ → ℤ → C) (reading : C → ℕ → ℕ)
    (stands : Meaning M) (world : World C (Kept M)) (line : ℕ) (event : Event) : Type 0 where
  pub next : line ≡ world.lines + 1
  pub opens : IsOpenFrom world event
  pub hold : HoldsATime event.what
  pub events : List Event
  pub notes : List Note
  pub comes : ComesBehind fresh after_step reading stands world.network world events notes event
  pub of_network : IsOfNetwork world.network event.what

-- the world is at the time, and nothing of it but events is worked off
pub record IsAtTime {C M : Type 0} (world : World C (Kept M)) (time : Units) : Type 0 where
  pub now : pos world.now ≡ time.0
  pub early : world.early ≡ true

-- memory ran out before an event of the time befell the network. The world may have come nearer to the time: the event
-- may befall still, and no event, no record and no end is lost
pub record MayApplyAgain {C M : Type 0} (old new : World C (Kept M)) (time : Units) : Type 0 where
  pub same : new.network ≡ old.network
  pub lines : new.lines ≡ old.lines
  pub given : new.given ≡ old.given
  pub ended : new.ended ≡ old.ended
  pub later : old.now ≤ new.now
  pub not_past : pos new.now ≤ℤ time.0
  pub early : time.0 ≡ pos new.now → new.early ≡ true

-- the time, or the one behind the end, where that has come and is earlier
abbrev pub bounded : {C M : Type 0} → World C (Kept M) → Units → Units
bounded world until = if world.ended && int_lt (pos (world.now + 1)) until.0 then units_of (world.now + 1) else until

-- How a world comes nearer to a time, turn by turn.
use Rattle.std.specs.Prelude.{if◌then◌else◌, ◌*◌, ◌+◌, ◌-◌, ◌<◌, ◌∷◌, ◌≡◌, ◌≤◌, ◌⊎◌, List, [], drop, length, nat_lt}
use Rattle.std.specs.Prelude.{ℕ}
use Rattle.net_plan.specs.declared.network.Network.{Network}
use Rattle.world_state.specs.declared.timers.Timer.{Timer}
use Rattle.drift_world.specs.declared.{next.Turn.{TheVariants.{Ends, Gives, GoesOn}, Turn}, state.State.State}

-- how much is due at the time of these timers: more of one of a lower rank, as more comes behind it
abbrev pub due_work : ℕ → List Timer → ℕ
due_work now [] = 0
due_work now (t ∷ ts) = (if nat_lt now t.time then 0 else 7 - t.rank) + due_work now ts

-- how much there is to work off: events, what is under way, frames that wait, and clocks to be shown
abbrev pub burden : {C M : Type 0} → Network → State C M → ℕ
burden network state =
    (if state.pending then 1 else 0) + length state.befell.items + length state.under_way.entries
    + length state.waiting.items
    + (length network.device - state.shown)

-- how much devices have to do by themselves now
abbrev pub acting : {C M : Type 0} → Network → State C M → ℕ
acting network state = due_work state.time (drop (length network.device) state.timers)

-- there is less to work off, or as much, and devices have less to do
abbrev pub IsLess : {C M : Type 0} → Network → State C M → State C M → Type 0
IsLess network old new =
    (burden network new < burden network old)
    ⊎ ((burden network new ≡ burden network old) × (acting network new < acting network old))

-- how far it is to the time: a unit of time, or one to work off, is more than all that devices have to do
abbrev pub distance : {C M : Type 0} → Network → ℕ → State C M → ℕ
distance network until state = ((until - state.time) + burden network state) * (7 * length network.device + 1)
    + acting network state

-- a turn that goes on comes nearer to the time
abbrev pub Nears : {C M : Type 0} → Network → ℕ → State C M → State C M → Turn → Type 0
Nears network until old new GoesOn = distance network until new < distance network until old
Nears network until old new Gives = Unit {0}
Nears network until old new Ends = Unit {0}

-- one where time may pass, and that goes on, does not go away from it
abbrev pub IsNoFarther : {C M : Type 0} → Network → ℕ → State C M → State C M → Turn → Type 0
IsNoFarther network until old new GoesOn = distance network until new ≤ distance network until old
IsNoFarther network until old new Gives = Unit {0}
IsNoFarther network until old new Ends = Unit {0}

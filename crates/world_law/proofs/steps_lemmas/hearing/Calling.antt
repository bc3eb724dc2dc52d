-- A device that a world keeps may be called, sound or broken, as its source comes.
use Rattle.{run_law.specs.machines.{Calls.order_of_phase, Nodes.turning_on}, world_law.specs.world.World.IsCalledBy}
use Rattle.world_law.proofs.steps_lemmas.Words.{◌+◌, ◌^◌, ◌∷◌, ◌≡◌, ◌≤◌, DeviceId, IsBefore, IsReadyAt, IsSteady, List, MayCall, Node, Phase, Scenario}
use Rattle.world_law.proofs.steps_lemmas.Words.{amount, arith, cases_lt, ints, moment_of, rank_of_call, reading_for, refl, whole, ℕ}

pub ranked_so : (phase : Phase) → rank_of_call phase ≡ order_of_phase phase + 1
ranked_so turning_on = refl
ranked_so phase = refl

-- a node that is ready, and was called last not later than the frontier, may be called by a source that is not before
-- it
pub may_call : (s : Scenario) (frontier : List ℕ) (now : ℕ) (device : DeviceId) (node : Node) (phase : Phase)
    (more : List ℕ)
    → IsReadyAt (s.reading device) s.network device node now → IsCalledBy node frontier now
    → IsSteady (s.reading device) (amount s.network.precision)
    → now ≤ 2 ^ 60 → (IsBefore (now ∷ rank_of_call phase ∷ more) frontier → ⊥) → MayCall s.network device node
    (moment_of s device now) phase
may_call s frontier now device node phase more ready by steady limit waits = grind
    (arith, whole, amount, ints, ranked_so, cases_lt, rank_of_call, reading_for)

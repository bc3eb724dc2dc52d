-- An event that does not turn a device on, and does not break it, leaves it as it was.
use Rattle.run_law.specs.machines.Answers.{node_turned_on}
use Rattle.world_law.{proofs.runs.Agreement.{heard_same, local_same, next_same}, specs.device.Left.IsCounted}
use Rattle.world_law.proofs.Words.{◌∙◌, ◌≡◌, ◌≤◌, Agree, DeviceId, Event, Happening, IsIn, IsLeft, List, Network, Node, arith, earlier}
use Rattle.world_law.proofs.Words.{false, is_broken, is_timed, is_turned_on_at, refl, scenario, state_after, time_of, true, ℕ}

-- the clocks read the same up to the time
abbrev pub ReadAlike : (DeviceId → ℕ → ℕ) → (DeviceId → ℕ → ℕ) → ℕ → Type 0
ReadAlike f g t = (device : DeviceId) (x : ℕ) → x ≤ t → f device x ≡ g device x

same_events : (n : Network) (f g : DeviceId → ℕ → ℕ) (events : List Event) (t : ℕ) → ReadAlike f g t → Agree n f g events events t
same_events n f g events t reads = record { reads = reads; befell = λ u le. refl }

module _ (n : Network) (f g : DeviceId → ℕ → ℕ) (events more : List Event) (hs : List Happening) (device : DeviceId)
    (t : ℕ) (node : Node) (reads : ReadAlike f g t) (all : ((h : Happening) → IsIn h hs → time_of h ≤ t)) where
  pub counts_still : is_broken (scenario n f events) device t ≡ is_broken (scenario n g more) device t
      → IsCounted (scenario n f events) hs device t node → IsCounted (scenario n g more) hs device t node
  counts_still sound left =
      let a = same_events n f g events t reads in
      record {
        plan = left.plan;
        adjustment = left.adjustment;
        integrated = left.integrated;
        number = λ timed. left.number timed ∙ next_same n f g events events hs t t device a (omega arith);
        changed = left.changed ∙ local_same hs t device a (omega arith);
        heard = λ timed. left.heard timed ∙ heard_same n f g events events hs t t device a (omega arith) all;
        started = left.started;
        broken = left.broken ∙ sound;
      }

  pub stands_still : is_broken (scenario n f events) device t ≡ is_broken (scenario n g more) device t
      → is_turned_on_at (scenario n f events) device t ≡ is_turned_on_at (scenario n g more) device t
      → IsLeft (scenario n f events) hs device t node → IsLeft (scenario n g more) hs device t node
  stands_still sound same left = record {
    counted = counts_still sound left.counted;
    state = left.state ∙ (rw same);
    points = left.points;
  }

-- an event turns it on
pub is_turned_on : (n : Network) (f g : DeviceId → ℕ → ℕ) (events more : List Event) {hs : List Happening}
    {device : DeviceId} {t : ℕ} {node : Node} → ReadAlike f g t → ((h : Happening) → IsIn h hs → time_of h ≤ t)
    → is_broken (scenario n f events) device t ≡ is_broken (scenario n g more) device t
    → is_turned_on_at (scenario n g more) device t ≡ true → is_timed node.standing.state ≡ false
    → IsLeft (scenario n f events) hs device t node → IsLeft (scenario n g more) hs device t (node_turned_on node)
is_turned_on n f g events more reads all sound on off left = grind (arith, counts_still, state_after, scenario, earlier)

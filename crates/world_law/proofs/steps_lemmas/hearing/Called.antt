-- A device that is called, and takes nothing by it, is kept as before.
use Rattle.world_law.proofs.{steps_lemmas.ripening.Called.left_called}
use Rattle.world_law.proofs.steps_lemmas.Words.{◌∷◌, ◌≡◌, DeviceId, Happening, IsAlike, IsBefore, IsKept}
use Rattle.world_law.proofs.steps_lemmas.Words.{IsOut, IsPending, IsReadyAt, List, Moment, Network, Node, Phase, Scenario, Task, [], arith, called, doing}
use Rattle.world_law.proofs.steps_lemmas.Words.{emitting, ints, moment_of, rank_of_call, reading_for, refl, undone_alike}
use Rattle.world_law.proofs.steps_lemmas.Words.{waiting_alike, ℕ}

-- the called device, and the device before the call, are alike
to_called : (node : Node) (moment : Moment) (phase : Phase) → IsAlike node (called moment phase node)
to_called node moment phase = record { standing = refl; broken = refl; changed = refl; taken = refl; done = λ d there. there }

-- what the called device has still to do, it had before
was_pending : (network : Network) (device : DeviceId) (node : Node) (moment : Moment) (phase : Phase) (task : Task)
    → IsPending network device (called moment phase node) task
    → IsPending network device node task × (reading_for network node task ≡ reading_for network (called moment phase node) task)
was_pending network device node moment phase (emitting sent) p =
    ((p.0, waiting_alike network device node (called moment phase node) refl (λ c there. there) p.1), refl)
was_pending network device node moment phase (doing deed) p =
    ((p.0, undone_alike network device node (called moment phase node) (to_called node moment phase) p.1), refl)

-- a called device is ready at the instant of the call
pub ready_called : (s : Scenario) {now : ℕ} {device : DeviceId} {node : Node} (phase : Phase)
    → IsReadyAt (s.reading device) s.network device node now
    → IsReadyAt (s.reading device) s.network device (called (moment_of s device now) phase node) now
ready_called s phase ready = grind (arith, moment_of, ints, was_pending)

-- what is said of a device's machine after a call, as a relation of the device before it
abbrev pub After : {M : Type 0} → (M → Network → DeviceId → Node → Type 0) → M → (Node → Node) → M → Network → DeviceId → Node → Type 0
After stands after by machine network device node = stands after network device (by node)

-- a device is kept by any relation that its node is in
pub kept_by : {M : Type 0} {stands : M → Network → DeviceId → Node → Type 0}
    (then_ : M → Network → DeviceId → Node → Type 0) {s : Scenario} {hs coming : List Happening} {frontier : List ℕ}
    {now : ℕ} {device : DeviceId} {machine : M} (k : IsKept stands s hs coming frontier now device machine)
    → then_ machine s.network device k.node → IsKept then_ s hs coming frontier now device machine
kept_by then_ k is = grind arith

module _ {M : Type 0} (stands : M → Network → DeviceId → Node → Type 0) {s : Scenario} {hs coming : List Happening}
    {frontier : List ℕ} where
  -- a sound device that is called so is kept, where the call's kind is not later than the frontier
  pub kept_called : {now : ℕ} {device : DeviceId} {machine : M} (after : M) (phase : Phase)
      (k : IsKept (After stands after (called (moment_of s device now) phase)) s hs coming frontier now device machine)
      → ((p : List ℕ) → IsBefore p (now ∷ rank_of_call phase ∷ []) → IsBefore p frontier)
      → IsKept stands s hs coming frontier now device after
  kept_called {now} {device} after phase k come =
      let m = moment_of s device now in
      record {
        node = called m phase k.node;
        is = k.is;
        sound = k.sound;
        up = k.up;
        acted = k.acted;
        told = k.told;
        left = left_called m phase k.left;
        taken = k.taken;
        worked = record {
          undone = λ deed u x from lt.
              k.worked.undone deed
              (undone_alike s.network device k.node (called (moment_of s device now) phase k.node)
              (to_called k.node (moment_of s device now) phase) u) x from
              lt;
          done = k.worked.done;
          unsent = λ sent w x lt.
              k.worked.unsent sent (waiting_alike s.network device k.node
              (called (moment_of s device now) phase k.node) refl (λ c there. there) w) x lt;
          sent = k.worked.sent;
        };
        bare = k.bare;
        ready = ready_called s phase k.ready;
        still = k.still;
        turned = k.turned;
        cleared = k.cleared;
        phase = λ at p b. come p b;
      }

  -- and so is a broken one, where the frontier goes on
  pub out_called : (then_ : List ℕ) {now : ℕ} {device : DeviceId} {machine : M} (after : M) (phase : Phase)
      (k : IsOut stands s hs coming frontier now device machine)
      → stands after s.network device (called (moment_of s device now) phase k.node)
      → ((p : List ℕ) → IsBefore p (now ∷ rank_of_call phase ∷ []) → IsBefore p then_)
      → IsOut stands s hs coming then_ now device after
  out_called then_ after phase k is come = grind (arith, called, moment_of, ready_called)

  -- where a frame arrives, the device has not acted at the instant
  pub not_yet_acted : {now : ℕ} {device : DeviceId} {machine : M} (more : List ℕ)
      (k : IsKept stands s hs coming frontier now device machine)
      → (IsBefore (now ∷ 2 ∷ more) frontier → ⊥) → k.up ≡ now
  not_yet_acted more k waits = grind arith

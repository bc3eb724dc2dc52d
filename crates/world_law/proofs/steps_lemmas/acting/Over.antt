-- How a device stands at the next unit of time, for which the instant is over.
use Rattle.world_law.proofs.steps_lemmas.Words.{◌++◌, ◌+◌, ◌≡◌, ◌≤◌, DeviceId, Happening, HasDoneFrom, HasSentFrom, IsLeft, IsTurnedOnBy}
use Rattle.world_law.proofs.steps_lemmas.Words.{List, Node, Scenario, changed_at, false, is_broken, is_turned_on_at}
use Rattle.world_law.proofs.steps_lemmas.Words.{true, ℕ}

-- what is known of the next unit of time: no event is of it
pub record IsCalm (s : Scenario) (hs zs : List Happening) (now : ℕ) (device : DeviceId) : Type 0 where
  pub falls : (x y : ℕ) → x ≤ y → s.reading device x ≤ s.reading device y
  pub off : is_turned_on_at s device (now + 1) ≡ false
  pub broken : is_broken s device (now + 1) ≡ is_broken s device now
  pub turned : is_turned_on_at s device now ≡ true → IsTurnedOnBy (hs ++ zs) device now

-- how it stands at the next unit of time
pub record IsOver (s : Scenario) (js : List Happening) (now : ℕ) (device : DeviceId) (node : Node) : Type 0 where
  pub left : IsLeft s js device (now + 1) node
  pub done : HasDoneFrom s.network (s.reading device) device node (changed_at js device (now + 1)) (now + 1) (now + 1)
  pub sent : HasSentFrom s device node (now + 1) (now + 1)

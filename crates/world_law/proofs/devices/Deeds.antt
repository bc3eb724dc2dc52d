-- What a device has done, while time passes and while it acts.
use Rattle.world_law.proofs.Words.{◌≡◌, DeviceId, Happening, HasDone, HasDoneFrom, List, Node, Scenario, arith, changed_at, ℕ}

-- and so it stands at the next time, where the records show the same last change
pub rests : (s : Scenario) (hs : List Happening) {device : DeviceId} {t changed : ℕ} {node : Node}
    → HasDoneFrom s.network (s.reading device) device node changed t t → changed_at hs device t ≡ changed
    → HasDone s hs device t node
rests s hs has same = record {
  undone = λ deed u x from lt. has.undone deed u x (omega arith) lt;
  done = λ deed there. let x = has.done deed there in (x.0, omega (arith, x.1), x.2, x.3);
}

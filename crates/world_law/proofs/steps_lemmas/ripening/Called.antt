-- A device that is called stands as the records leave it, as it stood before.
use Rattle.{std.proofs.Common.arith, world_law.proofs.steps_lemmas.Words.{DeviceId, Happening, IsLeft, List, Moment, Node, Phase, Scenario, called, ℕ}}

-- only its last call is another
pub left_called : {s : Scenario} {hs : List Happening} {device : DeviceId} {t : ℕ} {node : Node} (moment : Moment)
    (phase : Phase) → IsLeft s hs device t node → IsLeft s hs device t (called moment phase node)
left_called moment phase left = grind arith

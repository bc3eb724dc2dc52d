-- Messages that no schedule serves.
use Rattle.std.specs.Prelude.{◌≤◌, List, length}
use Rattle.lens_plan.specs.{joining.{Extends.Extends, Served.{AreServed, IsServedBy}}, messages.Message.Message}
use Rattle.net_plan.specs.{Ranges.IsInRange, declared.{ids.VlId.VlId, network.Network.Network}}
use Rattle.schedule_tables.specs.Rules.{KeepsRules}

-- no accepted network that is this one with virtual links and rows added serves the message by a virtual link that was
-- added
abbrev pub NoneServes : Network → Message → Type 0
NoneServes network m =
    (planned : Network) (vl : VlId) → IsInRange planned → KeepsRules planned → Extends network planned
    → length network.vl ≤ vl.0 → IsServedBy planned vl m → ⊥

-- and none serves them all, where one virtual link was added for each
abbrev pub NoneServesAll : Network → List Message → Type 0
NoneServesAll network ms =
    (planned : Network) → IsInRange network → IsInRange planned → KeepsRules planned → Extends network planned
    → AreServed network planned ms → ⊥

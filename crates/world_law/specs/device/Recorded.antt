-- What the records of an instant tell of the acts of a device.
use Rattle.std.specs.{List.Contains, Prelude.{if◌then◌else◌, ◌<◌, ℕ}}
use Rattle.net_plan.specs.declared.{ids.{DeviceId.DeviceId, LinkId.LinkId, VlId.VlId}}
use Rattle.run_law.specs.{declared.note.NoteBody.NoteBody, machines.Nodes.{Node, correcting}}
use Rattle.run_law.specs.{scenario.{Scenarios.Scenario, Ways.{is_cut, way_from}}}
use Rattle.run_law.specs.declared.note.NoteBody.TheVariants as notes

-- what the records show of a dispatch: that its frame met a cut way, or that it was sent
abbrev pub dispatch_body : Scenario → DeviceId → ℕ → LinkId → ℕ → VlId → ℕ → NoteBody
dispatch_body s device now link cause vl cycle =
    if is_cut s link (way_from s.network device link) now then notes.Lost device link cause
    else notes.TtSent device link cause vl cycle

-- of its correction points it has cleared only earlier ones than its next
abbrev pub HasCleared : Node → Type 0
HasCleared node = (cycle : ℕ) → Contains node.done (correcting cycle) → cycle < node.standing.number

-- Who puts octets of its own on a link.
use Rattle.std.specs.Prelude.{◌≡◌, List, Some, false, true, ℕ}
use Rattle.net_plan.specs.{Places.link_at, declared.{event.What.TheVariants.Send, ids.DeviceId.DeviceId}}
use Rattle.net_plan.specs.declared.{ids.LinkId.LinkId, tables.Link.Link}
use Rattle.precision_law.specs.{Blocks.state_left, Epochs.has_time, Views.{IsView, View}}
use Rattle.run_law.specs.{records.{Happenings.Happening, Order.IsIn}, scenario.Scenarios.{is_broken, is_turned_on_at}}
use Rattle.run_law.specs.declared.note.NoteBody.TheVariants as notes

-- only a broken device does
abbrev pub SendersAreBroken : Type 0
SendersAreBroken =
    (v : View) (h : Happening) (line : ℕ) (link : LinkId) (octets : List ℕ) (l : Link) → IsView v → IsIn h v.records
    → h.note.body ≡ notes.Event line (Send link octets) → link_at v.scenario.network link ≡ Some l
    → is_broken v.scenario l.child v.until ≡ true

-- a device that has the common time is not turned on
abbrev pub TimedAreNotTurnedOn : Type 0
TimedAreNotTurnedOn =
    (v : View) (device : DeviceId) (t : ℕ) → IsView v → has_time (state_left v device t) ≡ true
    → is_turned_on_at v.scenario device t ≡ false

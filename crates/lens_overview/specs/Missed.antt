-- Which frames are missing: those that are owed and not delivered.
use Rattle.std.specs.Prelude.{◌↔◌, ◌≡◌, List, ℕ}
use Rattle.lens_overview.specs.Cells.{Missed}
use Rattle.net_plan.specs.declared.{ids.LinkId.LinkId, tables.VirtualLink.VirtualLink}
use Rattle.run_law.specs.{law.Safety.IsOwed, records.{Happenings.Happening, Order.IsIn}, scenario.Scenarios.Scenario}
use Rattle.run_law.specs.declared.note.NoteBody.TheVariants as notes

-- the frame of the virtual link in the cycle is owed to the device, and no record says that it is delivered
pub record IsMissed (s : Scenario) (hs : List Happening) (until : ℕ) (m : Missed) : Type 0 where
  pub of_vl : VirtualLink
  pub owed : IsOwed s hs until m.vl of_vl m.cycle m.device
  pub none : (h : Happening) (link : LinkId) (cause : ℕ) → IsIn h hs
      → h.note.body ≡ notes.Delivered m.device link cause m.vl m.cycle → ⊥

-- these are all of them
abbrev pub AreMissed : Scenario → List Happening → ℕ → List Missed → Type 0
AreMissed s hs until missed = (m : Missed) → IsIn m missed ↔ IsMissed s hs until m

-- What holds of the windows in the picture of a report.
use Rattle.std.specs.Prelude.{ℕ, ℤ, ◌≡◌, ◌*◌, ◌/◌, ◌-ℤ◌, ◌≤ℤ◌, ◌≤◌, List, Option, Some, unsigned_abs}
use Rattle.{lens.specs.draw.Picture.clocks_of, tte_reports.specs.Reports.IsReportOf}
use Rattle.{lens_svg.specs.{Sketching.plan_of, declared.mark.Mark.Mark}, schedule_tables.specs.Rules.KeepsRules}
use Rattle.{lens_svg.specs.Windows.{came_of, window_by}, tte_units.specs.declared.units.Units.Units}
use Rattle.{lens_svg.specs.{Views.View, declared.window.Came.Came}, net_plan.specs.declared.ids.LinkId.LinkId}
use Rattle.{lens_svg.specs.declared.mark.Look.TheVariants.Taken, schedule_tables.specs.declared.window.Window.Window}
use Rattle.{net_plan.specs.declared.ids.VlId.VlId, run_law.specs.{declared.note.Note.Note, records.Order.IsIn}}
use Rattle.{net_plan.specs.declared.network.Network.Network, run_law.specs.device.Standpoints.offset_in_cycle}

-- so far into a box of 24 pixels the tick of a place of the window stands: 24 times how far the place lies behind the
-- window's beginning, by its length, rounded down
abbrev pub true_tick : Window → ℤ → ℕ
true_tick window at = 24 * unsigned_abs (at -ℤ window.from.0) / unsigned_abs (window.to.0 -ℤ window.from.0)

-- a frame of the virtual link that came by the link when the receiver's local clock showed this came in its window, and
-- so it is drawn
pub record ShowsWindow (network : Network) (link : LinkId) (vl : VlId) (clock : ℤ) (drawn : Option Came) : Type 0 where
  pub window : Window
  pub is : window_by network vl link ≡ Some window
  pub not_before : window.from.0 ≤ℤ offset_in_cycle network clock
  pub not_behind : offset_in_cycle network clock ≤ℤ window.to.0
  pub came : Came
  pub drawn_as : drawn ≡ Some came
  pub tick : came.tick ≡ true_tick window (offset_in_cycle network clock)
  pub inside : came.tick ≤ 24

-- in the picture of each part of the run of a report over a network that keeps the rules, each frame that is taken has
-- the box of its window, with the tick inside
abbrev pub PicturesShowWindows : Type 0
PicturesShowWindows =
    (network : Network) (view : View) (octets : List ℕ) (notes : List Note) (end : Units) → KeepsRules network
    → IsReportOf network octets notes end
    → (mark : Mark) (link : LinkId) (vl : VlId) → IsIn mark (plan_of network view notes).marks
    → mark.look ≡ Taken link vl
    → ShowsWindow network link vl (clocks_of network notes mark.device mark.time)
    (came_of network mark (clocks_of network notes mark.device mark.time))

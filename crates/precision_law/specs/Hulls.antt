-- The hull of a cycle: from the first to the last dispatch of its frames by good masters.
use Rattle.std.specs.Int.{int_max, int_min}
use Rattle.std.specs.Prelude.{◌&&◌, ◌*◌, ◌+ℤ◌, ◌-ℤ◌, ◌<◌, ◌==◌, ◌≡◌, ◌≤ℤ◌, Bool, List, None, Option, Some, false}
use Rattle.std.specs.Prelude.{filter, fold, int_le, not, option_and_then, pos, suc, zero, ℕ, ℤ}
use Rattle.{net_plan.specs.declared.ids.DeviceId.DeviceId, run_law.specs.records.Happenings.{Happening, time_of}}
use Rattle.{precision_law.specs.{Sizes.Sizes, Views.{IsDispatch, View}}, run_law.specs.declared.note.NoteBody.NoteBody}
use Rattle.run_law.specs.scenario.Scenarios.{is_broken}
use Rattle.run_law.specs.declared.note.NoteBody.TheVariants as notes

-- from an instant to another, which may lie before time 0
pub record Hull : Type 0 where
  pub least : ℤ
  pub greatest : ℤ

-- ---- what follows from the hull of the cycle before

-- no dispatch of the next cycle is earlier
abbrev pub first_dispatch : Sizes → Hull → ℤ
first_dispatch n hull = (hull.least +ℤ pos n.cycle) -ℤ pos n.reach

-- and none is later
abbrev pub last_dispatch : Sizes → Hull → ℤ
last_dispatch n hull = (hull.greatest +ℤ pos n.cycle) +ℤ pos n.reach

-- no correction point of the next cycle is earlier
abbrev pub first_correction : Sizes → Hull → ℤ
first_correction n hull = ((hull.least +ℤ pos n.cycle) +ℤ pos n.correction) -ℤ pos (2 * n.reach)

-- and none is later
abbrev pub last_correction : Sizes → Hull → ℤ
last_correction n hull = ((hull.greatest +ℤ pos n.cycle) +ℤ pos n.correction) +ℤ pos (2 * n.reach)

-- ---- the hull of a cycle

-- is the record the dispatch of a good master's frame of the cycle, in time?
abbrev pub is_dispatch : View → Hull → ℕ → Happening → NoteBody → Bool
is_dispatch v before cycle h (notes.Sent device of_cycle) =
    not (is_broken v.scenario device v.until) && of_cycle == cycle
    && (int_le (first_dispatch v.sizes before) (pos (time_of h))
    && int_le (pos (time_of h)) (last_dispatch v.sizes before))
is_dispatch v before cycle h other = false

-- the hull so far, with one more instant
abbrev pub widened : Option Hull → ℤ → Option Hull
widened None t = Some (record { least = t; greatest = t })
widened (Some hull) t = Some (record { least = int_min hull.least t; greatest = int_max hull.greatest t })

-- the hull of the times of records, if there are any
abbrev pub hull_over : List Happening → Option Hull
hull_over hs = fold (λ hull h. widened hull (pos (time_of h))) None hs

-- the hull of the clocks' starts
abbrev pub start_hull : Sizes → Hull
start_hull n = record { least = pos 0 -ℤ pos n.settled; greatest = pos 0 }

-- the hull of a cycle, if good masters dispatched its frames in time; that of cycle 0 is that of the starts
abbrev pub hull_of : View → ℕ → Option Hull
hull_of v zero = Some (start_hull v.sizes)
hull_of v (suc cycle) =
    option_and_then (λ before. hull_over (filter (λ h. is_dispatch v before (suc cycle) h h.note.body) v.records))
    (hull_of v cycle)

-- the hull is at most so wide as the dispatches of a cycle may lie apart
abbrev pub IsNarrow : Sizes → Hull → Type 0
IsNarrow n hull = hull.greatest ≤ℤ (hull.least +ℤ pos n.spread)

-- the time lies in the hull of the cycle
pub record IsInHull (v : View) (cycle time : ℕ) : Type 0 where
  pub hull : Hull
  pub is : hull_of v cycle ≡ Some hull
  pub least : hull.least ≤ℤ pos time
  pub most : pos time ≤ℤ hull.greatest

-- each dispatch of a good master before the time lies in the hull of its cycle
abbrev pub IsTidyBefore : View → ℕ → Type 0
IsTidyBefore v t =
    (h : Happening) (device : DeviceId) (cycle : ℕ) → IsDispatch v h device cycle → time_of h < t
    → IsInHull v cycle (time_of h)

-- ---- blocks

-- the block of a cycle is over just before `next`: behind the last correction of the cycle; that of cycle 0 is over
-- before time 0
abbrev pub IsOverBefore : View → ℕ → ℕ → Type 0
IsOverBefore v zero next = next ≡ 0
IsOverBefore v (suc cycle) next =
    (hull : Hull) × (hull_of v cycle ≡ Some hull) × (pos next ≡ (last_correction v.sizes hull +ℤ pos 1))

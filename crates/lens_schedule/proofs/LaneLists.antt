-- The lanes of the ports below a number.
use Rattle.lens_schedule.specs.{Lanes.{lane_at, lane_of, lanes_below, leaves_by}, declared.lanes.Lane.Lane}
use Rattle.net_plan.specs.declared.network.Network.{Network}
use Rattle.{schedule_tables.specs.declared.entry.Entry.Entry, std.specs.{List.list_any, Prelude.{Bool, false, if◌then◌else◌, true}}}
use Rattle.std.proofs.Common.{◌++◌, ◌+◌, ◌∷◌, ◌≡◌, ◌≤◌, List, [], ap, arith, length, length-append, refl, suc, sym, zero, ℕ}
use Rattle.{lens_schedule.proofs.Joins.nothing_more, std.proofs.lemmas.Bool.false≢true}

-- one port more
pub lanes_next : (network : Network) (entries : List Entry) (n : ℕ)
    → lanes_below network entries (n + 1) ≡ lanes_below network entries n ++ lane_at network entries n
lanes_next network entries n = let next : n + 1 ≡ suc n = omega arith in ap (lanes_below network entries) next

none_at : (lane : Lane) (has : Bool) (old : List Lane) → has ≡ false → old ≡ old ++ (if has then lane ∷ [] else [])
none_at lane false old is = nothing_more old
none_at lane true old is = absurd (false≢true (sym is))

module _ (network : Network) (entries : List Entry) where
  -- a port by which no row leaves has none
  pub no_lane : (n : ℕ) (old : List Lane) → list_any (leaves_by n) entries ≡ false
      → old ≡ old ++ lane_at network entries n
  no_lane n old is = none_at (lane_of network entries n) (list_any (leaves_by n) entries) old is

  at_most_one : (n : ℕ) (has : Bool) → list_any (leaves_by n) entries ≡ has → length (lane_at network entries n) ≤ 1
  at_most_one n true is = rw is (omega arith)
  at_most_one n false is = rw is (omega arith)

  -- each has a lane or none
  pub few_lanes : (n : ℕ) → length (lanes_below network entries n) ≤ n
  few_lanes zero = omega arith
  few_lanes (suc n) =
      let before = few_lanes n in
      let here = at_most_one n (list_any (leaves_by n) entries) refl in
      omega (arith, before, here, length-append (lanes_below network entries n) (lane_at network entries n))

-- The cycle of a local value and its place in the cycle.
use Rattle.precision_law.proofs.traffic_lemmas.Words.{◌*◌, ◌+◌, ◌-◌, ◌<ℤ◌, ◌<◌, ◌∙◌, ◌≡◌, ◌≤ℤ◌, IsView, Network, View, ap, arith, cycle_at, ints, negsuc}
use Rattle.{precision_law.proofs.traffic_lemmas.Words.{offset_in_cycle, pos, sym, ℕ, ℤ}, tte_units.proofs.general_lemmas.Integers.{whole as not_negative}}
use Rattle.std.proofs.lemmas.Nat.{div-mul-add, mod-mul-add}
use Rattle.precision_law.proofs.traffic_lemmas.ports.Dispatched.{cycle_is}

-- the cycle of a network is not negative
pub cycle_whole : {v : View} → IsView v → v.scenario.network.cycle.0 ≡ pos v.sizes.cycle
cycle_whole {v} is =
    not_negative v.scenario.network.cycle.0 (omega (arith, ints, is.lawful.range.cycle.least)) ∙ ap (λ n. pos n)
    (sym (cycle_is is))

-- a value so far in a cycle
pub record IsSoFarIn (network : Network) (z : ℤ) (cycle place : ℕ) : Type 0 where
  pub cycle_is : cycle_at network z ≡ cycle
  pub place_is : offset_in_cycle network z ≡ pos place

-- it is in the cycle, and there
pub so_far_in : (network : Network) (length : ℕ) (z : ℤ) (cycle place : ℕ) → network.cycle.0 ≡ pos length → z ≡ pos (cycle * length + place) → place < length
    → IsSoFarIn network z cycle place
so_far_in network length z cycle place whole is less = grind (arith, cycle_is, div-mul-add, mod-mul-add)

-- a value between the ends of a cycle is so far in it
pub so_far : (z : ℤ) (from length : ℕ) → pos from ≤ℤ z → z <ℤ pos (from + length) → (place : ℕ) × (z ≡ pos (from + place)) × (place < length)
so_far (pos m) from length least most = (m - from, ap (λ n. pos n) (omega (arith, ints)), omega (arith, ints))
so_far (negsuc m) from length least most = absurd (omega (arith, ints))

-- A site's numbers.
use Rattle.{net_plan.specs.Ranges.IsLinkInRange, schedule_tables.specs.Rules.KeepsRules, std.proofs.Common.All, tte_units.specs.Amount.units_of}
use Rattle.{std.proofs.lemmas.List.Elements.All-map, switch_ports.{proofs.Amounts.zero_least, specs.{Standpoints.IsSiteInRange, declared.site.Site.Site}}}
use Rattle.switch_ports.proofs.Words.{◌*◌, ◌+◌, ◌^◌, ◌≡◌, ◌≤ℤ◌, ◌≤◌, Bool, DeviceId, IsInRange, IsSiteOf, IsWithin, Link, List, Network, Port, SyncPlan, amount}
use Rattle.switch_ports.proofs.Words.{amount_most, arith, expected_by, false, if◌then◌else◌, ints, is_cm, its_amount, map, port_of, pos, subst, sym, true, ℕ, ℤ}
use Rattle.schedule_tables.specs.declared.rule.Rule.TheVariants as rules

small_offset : (b : Bool) (d p q : ℕ) → d ≤ 2 ^ 40 → p ≤ 2 ^ 40 → q ≤ 2 ^ 40 → (if b then d + (2 * p + q) else 2 * d + (2 * p + q)) ≤ 2 ^ 43
small_offset true d p q a b c = omega (arith, a, b, c)
small_offset false d p q a b c = omega (arith, a, b, c)

pub expected_most : {network : Network} (device : DeviceId) → IsInRange network → expected_by network device ≤ 2 ^ 43
expected_most {network} device range =
    small_offset (is_cm network device) (amount network.dmax) (amount network.precision) (amount network.calc)
    (amount_most range.dmax)
    (amount_most range.precision) (amount_most range.calc)

within_43 : (n : ℕ) → n ≤ 2 ^ 43 → IsWithin 0 (2 ^ 43) (units_of n)
within_43 n h = record { least = omega (arith, ints); most = omega (arith, ints, h) }

wires_in_range : (network : Network) (device : DeviceId) (links : List Link) → All (IsLinkInRange network) links
    → All (λ (port : Port). IsWithin 0 (2 ^ 40) port.wire) (map (port_of network device) links)
wires_in_range network device links all =
    All-map (λ (port : Port). IsWithin 0 (2 ^ 40) port.wire) (port_of network device) links
    (λ k d lt. let l = all k d lt in record { least = zero_least 1 (2 ^ 40) _ l.wire.least; most = l.wire.most })

pub site_in_range : {network : Network} {device : DeviceId} {site : Site} → IsInRange network
    → IsSiteOf network device site → IsSiteInRange site
site_in_range {network} {device} range is = record {
  cycle = subst (λ (p : SyncPlan). IsWithin (2 ^ 32) (2 ^ 40) p.cycle_length) (sym is.plan) range.cycle;
  dmax = subst (IsWithin 1 (2 ^ 40)) (sym is.dmax) range.dmax;
  precision = subst (IsWithin 1 (2 ^ 40)) (sym is.precision) range.precision;
  correction = subst (IsWithin 0 (2 ^ 40)) (sym is.correction) range.correction;
  calc = subst (IsWithin 1 (2 ^ 40)) (sym is.calc) range.calc;
  expected = subst (λ (p : SyncPlan). IsWithin 0 (2 ^ 43) p.expected) (sym is.plan)
      (within_43 _ (expected_most device range));
  wires = subst (All (λ (port : Port). IsWithin 0 (2 ^ 40) port.wire)) (sym is.ports) (wires_in_range network device network.link range.links);
}

less : (x y : ℤ) (m n : ℕ) → x ≡ pos m → y ≡ pos n → m ≤ n → x ≤ℤ y
less x y m n a b h = omega (arith, ints, a, b, h)

-- a compression takes a precision at most
pub calc_short : {network : Network} → IsInRange network → KeepsRules network → network.calc.0 ≤ℤ network.precision.0
calc_short {network} range keeps =
    less _ _ _ _ (its_amount range.calc) (its_amount range.precision) (keeps rules.Precision 0).calc

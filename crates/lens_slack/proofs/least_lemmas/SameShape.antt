-- The rules of a network's shape are kept with other times too, where no start is beyond settled.
use Rattle.{lens_slack.{proofs.least_lemmas.SamePlan.first_path_to, specs.declared.least.times.Times.Times}, net_plan.specs.declared.network.Network.Network}
use Rattle.{lens_slack.specs.least.{Parts.IsStartOf, Times.with_times}, tte_units.{proofs.general_lemmas.Lists.in_all, specs.declared.units.Units.Units}}
use Rattle.{net_plan.proofs.Amounts.amount_within, std.{proofs.lemmas.Int.ints, specs.Prelude.{◌≤ℤ◌, IfSome}}, tte_units.specs.Amount.{amount, units_of}}
use Rattle.{net_plan.specs.Ranges.{IsDeviceInRange, IsInRange, IsWithin}, std.proofs.Common.{◌^◌, ◌≡◌, ◌≤◌, None, Option, Some, ap, arith, pos, ℕ, ℤ}}
use Rattle.net_plan.specs.Rules.{HasOneCm, IsConnected, IsWithinLimits, MastersSuffice}
use Rattle.net_plan.specs.declared.tables.Device.{Device}
use Rattle.schedule_checker.proofs.Elements.{all_of_each}
use Rattle.schedule_tables.specs.Rules.{IsKept, KeepsBelow}
use Rattle.schedule_tables.specs.declared.rule.Rule.TheVariants.{CompressionMasters, Connections, Correction, Delays, DevicesDiffer, Joints}
use Rattle.schedule_tables.specs.declared.rule.Rule.TheVariants.{Limits, LinksDiffer, Masters, Precision, Settling}
use Rattle.std.specs.List.{All}

-- a start that is no more than so much
abbrev some_units : ℤ → Option Units
some_units z = Some (record { 0 = z })

start_within : (most : ℕ) (o : Option Units) → IfSome o (IsWithin 0 (2 ^ 40)) → ((k : ℕ) → o ≡ Some (units_of k) → k ≤ most) → IfSome o (λ s. s.0 ≤ℤ pos most)
start_within most None range all = tt
start_within most (Some s) range all =
    let whole = (amount_within range).0 in
    let few = all (amount s) (ap some_units whole) in
    omega (arith, ints, whole, few)

module _ (n : Network) (t : Times) (range : IsInRange n) (most : (k : ℕ) → IsStartOf n k → k ≤ t.settled) where
  abbrev m : Network
  m = with_times n t

  starts : All (λ (d : Device). IfSome d.start (λ s. s.0 ≤ℤ pos t.settled)) n.device
  starts =
      all_of_each (λ (d : Device). IfSome d.start (λ s. s.0 ≤ℤ pos t.settled)) n.device
      (λ place d at.
      start_within t.settled d.start (in_all IsDeviceInRange n.device place d range.devices at).start (λ k is. most k (place, d, at, is)))

  limits : (part : ℕ) → IsWithinLimits n part → IsWithinLimits m part
  limits part h = record { devices = h.devices; links = h.links; vls = h.vls; rows = h.rows }

  cms : (part : ℕ) → HasOneCm n part → HasOneCm m part
  cms part h = record { on_a = h.on_a; on_b = h.on_b }

  connected : (i : ℕ) → IsConnected n i → IsConnected m i
  connected i h = record {
    ends = h.ends;
    relays = h.relays;
    paths = λ c member. let p = h.paths c member in (p.0, p.1, first_path_to n t c (record { 0 = i }) p.0 p.2);
  }

  masters : (part : ℕ) → MastersSuffice n part → MastersSuffice m part
  masters part h = record {
    least = h.least;
    most = h.most;
    members = h.members;
    threshold_least = h.threshold_least;
    threshold_most = h.threshold_most;
    begin_on = h.begin_on;
    starts = λ at. starts;
    one_faulty = h.one_faulty;
  }

  pub shape_with : KeepsBelow 8 n → KeepsBelow 8 m
  shape_with shape Limits less = λ part. limits part (shape Limits less part)
  shape_with shape DevicesDiffer less = shape DevicesDiffer less
  shape_with shape LinksDiffer less = shape LinksDiffer less
  shape_with shape CompressionMasters less = λ part. cms part (shape CompressionMasters less part)
  shape_with shape Joints less = shape Joints less
  shape_with shape Connections less = λ i. connected i (shape Connections less i)
  shape_with shape Masters less = λ part. masters part (shape Masters less part)
  shape_with shape rule less = absurd (omega (arith, less))

module _ (m : Network) (shape : KeepsBelow 8 m) (delays : IsKept Delays m) (settling : IsKept Settling m)
    (precision : IsKept Precision m) (correction : IsKept Correction m) where
  -- each rule below 12, where those below 8 are kept and the four of times
  pub rules_below : KeepsBelow 12 m
  rules_below Limits less = shape Limits (omega arith)
  rules_below DevicesDiffer less = shape DevicesDiffer (omega arith)
  rules_below LinksDiffer less = shape LinksDiffer (omega arith)
  rules_below CompressionMasters less = shape CompressionMasters (omega arith)
  rules_below Joints less = shape Joints (omega arith)
  rules_below Connections less = shape Connections (omega arith)
  rules_below Masters less = shape Masters (omega arith)
  rules_below Delays less = delays
  rules_below Settling less = settling
  rules_below Precision less = precision
  rules_below Correction less = correction
  rules_below rule less = absurd (omega (arith, less))

use Rattle.{drift_world.specs.Locals.{IsLocalClock, IsLocalValue}, run_law.specs.records.Happenings.happenings, tte_traces.specs.declared.storms.spreads.Ends.Ends}
use Rattle.std.proofs.Common.{◌+◌, ◌-ℤ◌, ◌<ℤ◌, ◌<◌, ◌^◌, ◌∙◌, ◌≡◌, FitsSigned, None, Option, Some, ap, arith, inl, length, neg_ℤ, of_z, pos, subst, sym, to_z}
use Rattle.{net_plan.specs.declared.network.Network.Network, std.specs.{Int.w64, Prelude.IfSome}, world_drive.proofs.devices_lemmas.Small.are_small}
use Rattle.tte_traces.{proofs.storms.spreads.spread_at.Goals.{in-None, in-Some}, specs.storms.{Answer.exact_scenario, Spreads.{AreEnds, IsSpreadAt, Widens}}}
use Rattle.tte_traces.proofs.storms_lemmas.Locals.{apart_fits, apart_is, ends_stay, ends_widen, no_spread, spread_of, units_are, value_is, wide_is}
use Rattle.tte_units.specs.Amount.{amount}
use Rattle.tte_traces.proofs.storms.spreads.spread_at.Goals as goal

pub devices-init : goal.devices-init
devices-init c = record { ends = λ events notes complete d lt. absurd (omega (arith, lt)); wide = tt }

pub local_at-requires : goal.local_at-requires
local_at-requires c =
    let all = ap (λ l. length l) c.as_slice.ensures in
    record {
      may = record {
        there = subst (λ (n : Network). c.devices.device < length n.device) (sym c.requires.same)
            (omega (arith, all, c.devices-test.true, c.devices.auto.device-end));
        time = record { begun = c.requires.begun; limit = c.requires.limit };
        may = inl c.requires.complete;
      };
    }

pub whole_units-requires-clause-low : goal.whole_units-requires-clause-low
whole_units-requires-clause-low c =
    let small = c.in-Some.ensures.small are_small in
    subst (λ z. neg_ℤ (pos (2 ^ 62)) <ℤ z) (sym (wide_is small)) small.low

pub whole_units-requires-clause-high : goal.whole_units-requires-clause-high
whole_units-requires-clause-high c =
    let small = c.in-Some.ensures.small are_small in
    subst (λ z. z <ℤ pos (2 ^ 62)) (sym (wide_is small)) small.high

pub with_local-requires-clause-local : goal.with_local-requires-clause-local
with_local-requires-clause-local c =
    let small = c.in-Some.ensures.small are_small in
    subst IsLocalValue (sym (units_are small c.whole_units.ensures)) small

pub with_local-requires-clause-wide : goal.with_local-requires-clause-wide
with_local-requires-clause-wide c = c.devices.invariant.wide

pub devices-preserved : goal.devices-preserved
devices-preserved c = record {
  ends = λ events notes complete.
      let network = c.args.network.now in
      let s = exact_scenario network events in
      let hs = happenings network notes in
      let t = amount c.args.t in
      let n = c.devices.device in
      let old = c.devices.invariant.ends events notes complete in
      let is = c.local_at.ensures.local network events notes complete in
      elim c.match-local_at.branch [
        | in-Some w ↦
            let shown = subst (λ (o : Option _). IsLocalClock s hs (record { 0 = n }) t o) w.in-Some.is is in
            let small = w.in-Some.ensures.small are_small in
            let z = to_z w64 (of_z w64 w.whole_units.result.0) in
            let same : z ≡ w.in-Some.local = units_are small w.whole_units.ensures in
            let widens : Widens c.devices.ends z w.with_local.result = record {
              least = w.with_local.ensures.least;
              greatest = w.with_local.ensures.greatest;
              lesser = w.with_local.ensures.lesser;
              least_is = w.with_local.ensures.least_is;
              greatest_is = w.with_local.ensures.greatest_is;
            } in
            subst (AreEnds s hs t (n + 1)) (sym w.ends-is)
            (ends_widen s hs t n c.devices.ends
            (subst (λ l. n < length l) c.as_slice.ensures c.devices-test.true) shown.0 shown.1
            (subst (λ z. Widens c.devices.ends z w.with_local.result) same widens) old)
        | in-None w ↦
            subst (AreEnds s hs t (n + 1)) (sym w.ends-is)
            (ends_stay s hs t n c.devices.ends (subst (λ (o : Option _). IsLocalClock s hs (record { 0 = n }) t o) w.in-None.is is) old)
      ];
  wide = elim c.match-local_at.branch [
    | in-Some w ↦ subst (λ (o : Option Ends). IfSome o (λ e. IsLocalValue e.least × IsLocalValue e.greatest)) (sym w.ends-is) w.with_local.ensures.wide
    | in-None w ↦ subst (λ (o : Option Ends). IfSome o (λ e. IsLocalValue e.least × IsLocalValue e.greatest)) (sym w.ends-is) c.devices.invariant.wide
  ];
}

pub overflow_sub-result : goal.overflow_sub-result
overflow_sub-result c =
    let ends = c.in-Some-ends.ends in
    let wide = subst (λ (o : Option Ends). IfSome o (λ e. IsLocalValue e.least × IsLocalValue e.greatest)) c.in-Some-ends.is c.devices.invariant.wide in
    subst (λ z. FitsSigned w64 (z -ℤ to_z w64 (of_z w64 ends.least))) (sym (value_is wide.1))
    (subst (λ z. FitsSigned w64 (ends.greatest -ℤ z)) (sym (value_is wide.0)) (apart_fits wide.1 wide.0))

pub returns-in-Some-ends : goal.returns-in-Some-ends
returns-in-Some-ends c = λ events notes complete.
    let network = c.args.network.now in
    let s = exact_scenario network events in
    let hs = happenings network notes in
    let t = amount c.args.t in
    let ends = c.in-Some-ends.ends in
    let wide = subst (λ (o : Option Ends). IfSome o (λ e. IsLocalValue e.least × IsLocalValue e.greatest)) c.in-Some-ends.is c.devices.invariant.wide in
    let are = subst (AreEnds s hs t c.devices.device) c.in-Some-ends.is (c.devices.invariant.ends events notes complete) in
    let all : c.devices.device ≡ length network.device =
    omega (arith, c.devices-test.false, c.devices.auto.device-end) ∙ ap (λ l. length l) c.as_slice.ensures in
    subst (IsSpreadAt s hs t) (sym (apart_is wide.1 wide.0))
    (spread_of s hs t ends (subst (λ n. AreEnds s hs t n (Some ends)) all are))

pub returns-in-None-ends : goal.returns-in-None-ends
returns-in-None-ends c = λ events notes complete.
    let network = c.args.network.now in
    let s = exact_scenario network events in
    let hs = happenings network notes in
    let t = amount c.args.t in
    let are = subst (AreEnds s hs t c.devices.device) c.in-None-ends.is (c.devices.invariant.ends events notes complete) in
    let all : c.devices.device ≡ length network.device =
    omega (arith, c.devices-test.false, c.devices.auto.device-end) ∙ ap (λ l. length l) c.as_slice.ensures in
    no_spread s hs t (subst (λ n. AreEnds s hs t n None) all are)

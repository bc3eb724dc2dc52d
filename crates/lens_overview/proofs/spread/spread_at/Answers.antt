use Rattle.{audit_law.specs.events.Readings.scenario_under, lens_overview.specs.{Spreads.{apart, ends_at}, declared.spread.LocalExtremes.LocalExtremes}}
use Rattle.std.{proofs.Common.{◌∙◌, ◌≡◌, Option, Some, ap, arith, length, sym, ℕ}, specs.Prelude.option_map}
use Rattle.lens_overview.proofs.spread.spread_at.Goals as goal

pub returns-in-Some : goal.returns-in-Some
returns-in-Some c befallen hs k =
    let s = scenario_under c.args.network.now befallen in
    let size = c.as_slice.ensures in
    let few = c.requires.range.few_devices in
    let all : c.devices.place ≡ length c.args.network.now.device = grind (arith, c.devices-test.false, c.devices.auto.place-end, size, few) in
    ap (λ (n : ℕ). Some n) c.apart.ensures
    ∙ ap (λ (e : Option LocalExtremes). option_map apart e)
    (sym c.in-Some.is ∙ c.devices.invariant.value befallen hs k ∙ ap (λ n. ends_at s hs c.args.time n) all)

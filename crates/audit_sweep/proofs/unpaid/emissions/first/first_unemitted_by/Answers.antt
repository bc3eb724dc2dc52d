use Rattle.{audit_devices.specs.stretches.Keeping.Stretches, audit_sweep.specs.unpaid.emissions.Firsts.TellsFirstOf}
use Rattle.{audit_law.specs.events.Readings.scenario_under, tte_units.proofs.general_lemmas.Lists.some_at}
use Rattle.audit_sweep.proofs.unpaid_lemmas.emissions_lemmas.FirstUnpaid
use FirstUnpaid.{entries_all, entries_more, entries_none, none_of_others}
use Rattle.{audit_sweep.specs.unpaid.emissions.Emissions.{IsTold, OwesWithin}, std.proofs.Common.{◌+◌, ◌∙◌, arith, subst, sym}}
use Rattle.audit_sweep.proofs.unpaid.emissions.first.first_unemitted_by.Goals as goal

pub returns-then-not-is_cm : goal.returns-then-not-is_cm
returns-then-not-is_cm c befallen hs kept founded =
    none_of_others (scenario_under c.args.network.now befallen) hs c.args.until c.args.device (sym c.is_cm.ensures ∙ c.if-not-is_cm.true)

pub changes-init : goal.changes-init
changes-init c befallen hs stretches kept founded there = entries_none (scenario_under c.args.network.now befallen) hs c.args.until c.args.device stretches

pub first_unemitted_behind-unemitted-requires-clause-place : goal.first_unemitted_behind-unemitted-requires-clause-place
first_unemitted_behind-unemitted-requires-clause-place c stretches there =
    let count = c.changes-place-end.ensures stretches there in
    omega (arith, count, c.changes-test.true)

pub changes-preserved : goal.changes-preserved
changes-preserved c befallen hs stretches kept founded there =
    let s = scenario_under c.args.network.now befallen in
    let count = c.changes-place-end.ensures stretches there in
    let at = some_at stretches.entries c.changes.place (omega (arith, count, c.changes-test.true)) in
    subst (λ r. TellsFirstOf (OwesWithin s hs c.args.until c.args.device stretches.collections stretches.entries (c.changes.place + 1))
    (IsTold s hs c.args.device) r) (sym c.earlier_of-first.ensures)
    (entries_more s hs c.args.until c.args.device stretches at.0 c.changes.place c.changes.first c.first_unemitted_behind-unemitted.result at.1
    (c.changes.invariant befallen hs stretches kept founded there)
    (c.first_unemitted_behind-unemitted.ensures befallen hs stretches at.0 kept founded there at.1))

pub returns : goal.returns
returns c befallen hs kept founded =
    let s = scenario_under c.args.network.now befallen in
    let device = c.args.device in
    let some = some_at c.args.stretches.now.kept.items device.0 (omega (arith, c.requires.device, c.requires.count)) in
    let stretches : Stretches = some.0 in
    let count = c.changes-place-end.ensures stretches some.1 in
    let most = c.changes.auto.place-end in
    let least = c.changes-test.false in
    let cm = sym c.is_cm.ensures ∙ c.if-not-is_cm.false in
    entries_all s hs c.args.until device stretches c.changes.place c.changes.first (kept.stands device stretches some.1 cm)
    (omega (arith, count, most, least)) (c.changes.invariant befallen hs stretches kept founded some.1)

use Rattle.{audit_law.specs.collections.Kept.emissions_in, std.proofs.Common.{◌+◌, ◌-◌, ◌∙◌, ◌≡◌, FitsSigned, arith, rules, subst, sym, w64}}
use Rattle.{audit_law.specs.{declared.collections.emitted.Emitted.Emitted, events.Reaches.IsFirstReach}, audit_sweep.specs.unpaid.emissions.Firsts.TellsFirstOf}
use Rattle.{audit_law.specs.events.Readings.{clock_reading, scenario_under}, audit_sweep.specs.unpaid.emissions.Emissions.{IsTold, OwesBehind}}
use Rattle.audit_sweep.proofs.unpaid_lemmas.emissions_lemmas.FirstUnpaid
use FirstUnpaid.{emission_there, entry_points, least_short, length_there, not_negative, short_there, some_points}
use FirstUnpaid.{walk_begun, walk_none, walk_paid, walk_unpaid, walk_unreached}
use Rattle.{std.{proofs.lemmas.Int.to_z-of_z, specs.Int.w128}, tte_units.proofs.general_lemmas.Lists.some_at}
use Rattle.audit_sweep.proofs.unpaid.emissions.first.first_unemitted_behind.Goals as goal

pub len-left-requires : goal.len-left-requires
len-left-requires c =
    let some = c.requires.kept in
    some_points c.args.network.now some.1 c.args.stretches.now c.args.device c.args.place c.changed-begun.result.0 c.changed-begun.result.1.collections.now
    c.changed-begun.result.1.gathering some.2.stands c.requires.master (omega (arith, c.requires.device, c.requires.count)) c.requires.place
    c.changed-begun.ensures

pub clusters-init : goal.clusters-init
clusters-init c befallen hs kept e is founded there at =
    let s = scenario_under c.args.network.now befallen in
    let keeps = is.stands c.args.device kept there c.requires.master in
    let long = length_there c.args.network.now hs c.args.device kept e c.args.place c.changed-begun.result.0 c.changed-begun.result.1.collections.now
    c.changed-begun.result.1.gathering c.len-left.result keeps at (c.changed-begun.ensures kept e there at) c.len-left.ensures in
    (omega (arith, long), walk_none s hs c.args.until c.args.device kept.collections e c.len-left.result (omega (arith, long)))

pub emission-requires : goal.emission-requires
emission-requires c =
    let some = c.requires.kept in
    some_points c.args.network.now some.1 c.args.stretches.now c.args.device c.args.place c.changed-begun.result.0 c.changed-begun.result.1.collections.now
    c.changed-begun.result.1.gathering some.2.stands c.requires.master (omega (arith, c.requires.device, c.requires.count)) c.requires.place
    c.changed-begun.ensures

pub returns-in_default : goal.returns-in_default
returns-in_default c befallen hs kept e is founded there at =
    let keeps = is.stands c.args.device kept there c.requires.master in
    let got = emission_there c.args.network.now hs c.args.device kept e c.args.place c.changed-begun.result.0 c.changed-begun.result.1.collections.now
    c.changed-begun.result.1.gathering (c.clusters.left - 1) c.emission.result keeps at (c.changed-begun.ensures kept e there at) c.emission.ensures in
    let most = (c.clusters.invariant befallen hs kept e is founded there at).0 in
    let some = some_at (emissions_in kept.collections e.gathering) (c.clusters.left - 1) (omega (arith, most, c.clusters-test.true)) in
    absurd (c.in_default.not-Some some.0 (sym got ∙ some.1))

pub clusters-preserved-in_default-reach : goal.clusters-preserved-in_default-reach
clusters-preserved-in_default-reach c befallen hs kept e is founded there at =
    let s = scenario_under c.args.network.now befallen in
    let device = c.args.device in
    let keeps = is.stands device kept there c.requires.master in
    let a : Emitted = c.in-Some.emitted in
    let k = c.clusters.left - 1 in
    let next : c.clusters.left ≡ (c.clusters.left - 1) + 1 = omega (arith, c.clusters-test.true) in
    let got = emission_there c.args.network.now hs device kept e c.args.place c.changed-begun.result.0 c.changed-begun.result.1.collections.now
    c.changed-begun.result.1.gathering k c.emission.result keeps at (c.changed-begun.ensures kept e there at) c.emission.ensures ∙ c.in-Some.is in
    let old = c.clusters.invariant befallen hs kept e is founded there at in
    let most = old.0 in
    let told = subst (λ n. TellsFirstOf (OwesBehind s hs c.args.until device kept.collections e n) (IsTold s hs device) c.clusters.first) next old.1 in
    let reach = subst (λ z. IsFirstReach (clock_reading c.args.network.now befallen device) 0 z c.args.until c.reach.result)
    (to_z-of_z w128 a.at (search rules))
    (c.reach.ensures c.args.network.now befallen is.remembers c.requires.device) in
    let low = subst (λ r. IsFirstReach (clock_reading c.args.network.now befallen device) 0 a.at c.args.until r) c.in_default-reach.is reach in
    (omega (arith, most), walk_unreached s hs c.args.until device kept.collections e k a c.clusters.first got low told)

pub returns-then-time-begun : goal.returns-then-time-begun
returns-then-time-begun c befallen hs kept e is founded there at =
    let s = scenario_under c.args.network.now befallen in
    let device = c.args.device in
    let keeps = is.stands device kept there c.requires.master in
    let a : Emitted = c.in-Some.emitted in
    let k = c.clusters.left - 1 in
    let next : c.clusters.left ≡ (c.clusters.left - 1) + 1 = omega (arith, c.clusters-test.true) in
    let behind = c.changed-begun.ensures kept e there at in
    let got = emission_there c.args.network.now hs device kept e c.args.place c.changed-begun.result.0 c.changed-begun.result.1.collections.now
    c.changed-begun.result.1.gathering k c.emission.result keeps at behind c.emission.ensures ∙ c.in-Some.is in
    let old = c.clusters.invariant befallen hs kept e is founded there at in
    let told = subst (λ n. TellsFirstOf (OwesBehind s hs c.args.until device kept.collections e n) (IsTold s hs device) c.clusters.first) next old.1 in
    let reach = subst (λ z. IsFirstReach (clock_reading c.args.network.now befallen device) 0 z c.args.until c.reach.result)
    (to_z-of_z w128 a.at (search rules))
    (c.reach.ensures c.args.network.now befallen is.remembers c.requires.device) in
    let found = subst (λ r. IsFirstReach (clock_reading c.args.network.now befallen device) 0 a.at c.args.until r) c.in-Some-reach.is reach in
    let points = entry_points e c.args.place keeps at in
    let begun = behind.time_is in
    walk_begun s hs c.args.until device kept.collections e k a c.in-Some-reach.time c.clusters.first
    (not_negative kept.collections.ow _ keeps.ow)
    points.1.gathers got found.0 (omega (arith, c.if-time-begun.true, begun)) told

pub is_unemitted-requires-clause-short : goal.is_unemitted-requires-clause-short
is_unemitted-requires-clause-short c =
    let some = c.requires.kept in
    let a : Emitted = c.in-Some.emitted in
    let device = c.args.device in
    let reading = clock_reading c.args.network.now some.0 device in
    let remembers = some.2.remembers in
    let fits : FitsSigned w64 a.opened = search rules in
    let reach = subst (λ z. IsFirstReach reading 0 z c.args.until c.reach.result) (to_z-of_z w128 a.at (search rules))
    (c.reach.ensures c.args.network.now some.0 remembers c.requires.device) in
    let found = subst (λ r. IsFirstReach reading 0 a.at c.args.until r) c.in-Some-reach.is reach in
    let timely = found.1 in
    let limit = c.requires.limit in
    short_there c.args.network.now some.1 c.args.stretches.now device c.args.place c.changed-begun.result.0 c.changed-begun.result.1.collections.now
    c.changed-begun.result.1.gathering (c.clusters.left - 1) c.in-Some-reach.time a some.2.stands c.requires.master
    (omega (arith, c.requires.device, c.requires.count)) c.requires.place c.changed-begun.ensures
    (λ n points clusters has are. sym c.in-Some.is ∙ c.emission.ensures n points clusters has are) (least_short a.opened fits)
    (c.reading_law.ensures c.args.network.now some.0 device remembers.range remembers.within remembers.begun) (omega (arith, timely, limit)) found.0

pub clusters-preserved-then-is_unemitted : goal.clusters-preserved-then-is_unemitted
clusters-preserved-then-is_unemitted c befallen hs kept e is founded there at =
    let s = scenario_under c.args.network.now befallen in
    let device = c.args.device in
    let keeps = is.stands device kept there c.requires.master in
    let a : Emitted = c.in-Some.emitted in
    let k = c.clusters.left - 1 in
    let next : c.clusters.left ≡ (c.clusters.left - 1) + 1 = omega (arith, c.clusters-test.true) in
    let behind = c.changed-begun.ensures kept e there at in
    let got = emission_there c.args.network.now hs device kept e c.args.place c.changed-begun.result.0 c.changed-begun.result.1.collections.now
    c.changed-begun.result.1.gathering k c.emission.result keeps at behind c.emission.ensures ∙ c.in-Some.is in
    let old = c.clusters.invariant befallen hs kept e is founded there at in
    let most = old.0 in
    let told = subst (λ n. TellsFirstOf (OwesBehind s hs c.args.until device kept.collections e n) (IsTold s hs device) c.clusters.first) next old.1 in
    let reach = subst (λ z. IsFirstReach (clock_reading c.args.network.now befallen device) 0 z c.args.until c.reach.result)
    (to_z-of_z w128 a.at (search rules))
    (c.reach.ensures c.args.network.now befallen is.remembers c.requires.device) in
    let found = subst (λ r. IsFirstReach (clock_reading c.args.network.now befallen device) 0 a.at c.args.until r) c.in-Some-reach.is reach in
    let unpaid = c.is_unemitted.ensures.unemitted c.args.network.now befallen hs is founded c.requires.device c.requires.master found.0
    c.if-is_unemitted.true in
    let begun = behind.time_is in (
      omega (arith, most),
      subst (λ r. TellsFirstOf (OwesBehind s hs c.args.until device kept.collections e k) (IsTold s hs device) r) (sym c.earlier_of-first.ensures)
          (walk_unpaid s hs c.args.until device kept.collections e k a c.clusters.first got found.0 found.1
          (omega (arith, c.if-time-begun.false, begun)) unpaid.0 unpaid.1 told),
    )

pub clusters-preserved : goal.clusters-preserved
clusters-preserved c befallen hs kept e is founded there at =
    let s = scenario_under c.args.network.now befallen in
    let device = c.args.device in
    let keeps = is.stands device kept there c.requires.master in
    let a : Emitted = c.in-Some.emitted in
    let k = c.clusters.left - 1 in
    let next : c.clusters.left ≡ (c.clusters.left - 1) + 1 = omega (arith, c.clusters-test.true) in
    let got = emission_there c.args.network.now hs device kept e c.args.place c.changed-begun.result.0 c.changed-begun.result.1.collections.now
    c.changed-begun.result.1.gathering k c.emission.result keeps at (c.changed-begun.ensures kept e there at) c.emission.ensures ∙ c.in-Some.is in
    let old = c.clusters.invariant befallen hs kept e is founded there at in
    let most = old.0 in
    let told = subst (λ n. TellsFirstOf (OwesBehind s hs c.args.until device kept.collections e n) (IsTold s hs device) c.clusters.first) next old.1 in
    let reach = subst (λ z. IsFirstReach (clock_reading c.args.network.now befallen device) 0 z c.args.until c.reach.result)
    (to_z-of_z w128 a.at (search rules))
    (c.reach.ensures c.args.network.now befallen is.remembers c.requires.device) in
    let found = subst (λ r. IsFirstReach (clock_reading c.args.network.now befallen device) 0 a.at c.args.until r) c.in-Some-reach.is reach in (
      omega (arith, most),
      walk_paid s hs c.args.until device kept.collections e k a c.in-Some-reach.time c.clusters.first got found.0
          (c.is_unemitted.ensures.told c.args.network.now befallen hs is founded c.requires.device c.requires.master found.0 c.if-is_unemitted.false) told,
    )

pub returns : goal.returns
returns c befallen hs kept e is founded there at =
    let s = scenario_under c.args.network.now befallen in
    let none : c.clusters.left ≡ 0 = omega (arith, c.clusters-test.false) in
    subst (λ n. TellsFirstOf (OwesBehind s hs c.args.until c.args.device kept.collections e n) (IsTold s hs c.args.device) c.clusters.first) none
    (c.clusters.invariant befallen hs kept e is founded there at).1

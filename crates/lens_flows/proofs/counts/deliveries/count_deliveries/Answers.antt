use Rattle.std.proofs.{Common.{◌<◌, ◌^◌, ◌∙◌, ◌≡◌, ap, arith, length, rules, subst, sym, take, ℕ}, Math.Seq.take-length, lemmas.List.take_more}
use Rattle.lens_flows.proofs.counts_lemmas.Telling
use Telling.{few_counted, next_delivered, none_delivered, others_delivered, taken_short}
use Rattle.lens_flows.specs.{counts.Deliveries.AreDeliveries, judge.Courses.scenario_of}
use Rattle.lens_flows.proofs.counts.deliveries.count_deliveries.Goals.{else-is_of, then-is_of}
use Rattle.lens_flows.proofs.counts.deliveries.count_deliveries.Goals as goal

pub one_more-counted-requires-clause-few : goal.one_more-counted-requires-clause-few
one_more-counted-requires-clause-few c =
    let some = c.requires.known in
    let s = scenario_of c.args.course.now some.0 in
    let few = few_counted (c.deliveries.invariant some.0 some.1 some.2) in
    let short = taken_short c.deliveries.delivery-index c.args.deliveries.now in
    let total = few.0 in
    let by_a = few.1 in
    let by_b = few.2 in
    let all : length c.args.deliveries.now < 2 ^ 63 = search rules in
    record { total = omega (arith, total, short, all); by_a = omega (arith, by_a, short, all); by_b = omega (arith, by_b, short, all) }

pub deliveries-init : goal.deliveries-init
deliveries-init c befallen hs known = none_delivered (scenario_of c.args.course.now befallen) hs c.args.flow.now

pub deliveries-preserved : goal.deliveries-preserved
deliveries-preserved c befallen hs known =
    let s = scenario_of c.args.course.now befallen in
    let ds = c.args.deliveries.now in
    let flow = c.args.flow.now in
    let n = c.deliveries.delivery-index in
    let old = c.deliveries.counted in
    let so = c.deliveries.invariant befallen hs known in
    elim c.if-is_of.branch [
      | then-is_of w ↦
          let new = w.one_more-counted.result in
          let of = sym c.is_of.ensures ∙ w.if-is_of.true in
          rw w.counted-is (subst (λ xs. AreDeliveries s hs xs flow new) (sym (take_more ds n _ c.deliveries-test.true))
          (next_delivered _ new known so of w.one_more-counted.ensures))
      | else-is_of w ↦
          let other = sym c.is_of.ensures ∙ w.if-is_of.false in
          rw w.counted-is (subst (λ xs. AreDeliveries s hs xs flow old) (sym (take_more ds n _ c.deliveries-test.true))
          (others_delivered _ so other))
    ]

pub returns : goal.returns
returns c befallen hs known =
    let s = scenario_of c.args.course.now befallen in
    let ds = c.args.deliveries.now in
    let whole : take c.deliveries.delivery-index ds ≡ ds =
    ap (λ (i : ℕ). take i ds) (omega (arith, c.deliveries-test.false, c.deliveries.auto.delivery-index-end)) ∙ take-length ds in
    subst (λ xs. AreDeliveries s hs xs c.args.flow.now c.deliveries.counted) whole (c.deliveries.invariant befallen hs known)

use Rattle.std.{proofs.{Common.{◌<◌, ◌∙◌, arith, inl, inr, subst, sym}, lemmas.Bool.false≢true}}
use Rattle.run_law.specs.{declared.outside.Outside.{TheVariants.Order}, scenario.Hypothesis.{Violates, condition_number}}
use Rattle.fault_hypothesis.proofs.Ordering.{first_two, none_before, none_behind, number_of_place, up_to_place}
use Rattle.fault_hypothesis.proofs.watch.Watch.judge.Goals as goal

pub returns-then-violates-2 : goal.returns-then-violates-2
returns-then-violates-2 c = λ network admitted w of_network. record {
  violates = (c.violates-2.ensures network admitted w of_network).0 c.if-violates-2.true;
  first = λ earlier below v.
      first_two (λ e. condition_number e < 2 → Violates network admitted c.args.event.now e → ⊥)
      (λ low early. false≢true (sym c.if-violates.false ∙ (c.violates.ensures network admitted w of_network).1 early))
      (λ low late. absurd (omega arith))
      earlier (omega arith) below v;
}

pub conditions-init : goal.conditions-init
conditions-init c = record {
  behind = c.own_of-first.ensures.behind;
  least = c.own_of-first.ensures.least;
  most = c.own_of-first.ensures.most;
  none = λ network admitted w of_network earlier low v.
      none_before network admitted c.args.event.now
      (λ early. false≢true (sym c.if-violates.false ∙ (c.violates.ensures network admitted w of_network).1 early))
      (λ late. false≢true (sym c.if-violates-2.false ∙ (c.violates-2.ensures network admitted w of_network).1 late))
      earlier (omega (arith, c.own_of-first.ensures.first)) v;
}

pub returns-then-violates-3 : goal.returns-then-violates-3
returns-then-violates-3 c = λ network admitted w of_network. record {
  violates = (c.violates-in-conditions.ensures network admitted w of_network).0 c.if-violates-3.true;
  first = λ earlier below v.
      let lower = below in
      let within : c.conditions.place < 11 = omega (arith, c.conditions-test.true, c.conditions.invariant.most) in
      c.conditions.invariant.none network admitted w of_network earlier
      (omega (arith, number_of_place c.conditions.place Order within)) v;
}

pub conditions-preserved : goal.conditions-preserved
conditions-preserved c = record {
  behind = c.conditions.invariant.behind;
  least = omega (arith, c.conditions.invariant.least);
  most = c.conditions.invariant.most;
  none = λ network admitted w of_network earlier low v.
      elim (up_to_place c.conditions.place Order earlier low) [
        | inl lower ↦ c.conditions.invariant.none network admitted w of_network earlier lower v
        | inr here ↦
            false≢true (sym c.if-violates-3.false ∙ (c.violates-in-conditions.ensures network admitted w of_network).1
            (subst (Violates network admitted c.args.event.now) (sym here) v))
      ];
}

pub returns : goal.returns
returns c = λ network admitted w of_network.
    none_behind network admitted c.args.event.now c.conditions.place c.conditions.invariant.least
    (omega (arith, c.conditions-test.false, c.conditions.invariant.behind)) (c.conditions.invariant.none network admitted w of_network)

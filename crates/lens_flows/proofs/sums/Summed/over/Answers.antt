use Rattle.std.proofs.{Common.{◌∙◌, ap, arith, sum_by, take, ℕ}, Math.Seq.take-length, lemmas.Int.ints}
use Rattle.lens_flows.{proofs.Summing.sum_more, specs.Sums.number_of}
use Rattle.lens_flows.proofs.sums.Summed.over.Goals as goal

pub overflow_add-sum : goal.overflow_add-sum
overflow_add-sum c =
    let few = c.flows.invariant.few in
    let one = c.of.type_inv in
    let same = c.from-sum.ensures in
    let test = c.flows-test.true in
    omega (arith, ints, few, one, same, test)

pub flows-preserved : goal.flows-preserved
flows-preserved c =
    let few = c.flows.invariant.few in
    let one = c.of.type_inv in
    let same = c.from-sum.ensures in
    record {
      counted =
          sum_more (number_of c.args.self) c.args.told.now _ c.flows.one-index c.flows.sum c.from-sum.result c.flows-test.true c.flows.invariant.counted
          (same ∙ c.of.ensures ∙ ap (number_of c.args.self) c.one-item.is);
      few = omega (arith, few, one, same);
    }

pub returns : goal.returns
returns c =
    let all = c.args.told.now in
    c.flows.invariant.counted
    ∙ ap (λ (i : ℕ). sum_by (number_of c.args.self) (take i all)) (omega (arith, c.flows-test.false, c.flows.auto.one-index-end))
    ∙ ap (sum_by (number_of c.args.self)) (take-length all)

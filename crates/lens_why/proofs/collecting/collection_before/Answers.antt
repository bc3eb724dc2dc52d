use Rattle.std.proofs.Common.{arith}
use Rattle.lens_why.proofs.Permanents.{collected_all, collected_more, collected_none}
use Rattle.lens_why.proofs.collecting.collection_before.Goals as goal

pub records-init : goal.records-init
records-init c = record {
  some = omega arith;
  so = λ notes end h of there. collected_none c.args.network.now c.args.report.now.octets notes end of c.args.device c.args.number h there;
}

pub records-preserved : goal.records-preserved
records-preserved c = record {
  some = omega (arith, c.records.invariant.some);
  so = λ notes end h of there. collected_more c.args.network.now c.args.report.now.octets notes end of c.args.device c.args.number h there c.records.at
      c.records.last c.behind_record-last.result c.records.invariant.some c.records-test.true (c.records.invariant.so notes end h of there)
      (λ g before here last. c.behind_record-last.ensures notes end g before of here last);
}

pub returns : goal.returns
returns c notes end h of there =
    collected_all c.args.network.now c.args.report.now.octets notes end of c.args.device c.args.number h there c.records.at c.records.last
    c.records-test.false (c.records.invariant.so notes end h of there)

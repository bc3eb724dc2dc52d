use Rattle.std.proofs.Common.{arith}
use Rattle.lens_why.proofs.Cutting.{cut_all, cut_more, cut_none}
use Rattle.lens_why.proofs.seeking.cut_before.Goals as goal

pub records-init : goal.records-init
records-init c = record {
  some = omega arith;
  so = λ notes end h of there. cut_none c.args.network.now c.args.report.now.octets notes end of c.args.link c.args.way c.args.number h there;
}

pub records-preserved : goal.records-preserved
records-preserved c = record {
  some = omega (arith, c.records.invariant.some);
  so = λ notes end h of there. cut_more c.args.network.now c.args.report.now.octets notes end of c.args.link c.args.way c.args.number h there c.records.at
      c.records.since c.cut_behind-since.result c.records.invariant.some c.records-test.true (c.records.invariant.so notes end h of there)
      (λ g here. c.cut_behind-since.ensures notes end g of here);
}

pub returns : goal.returns
returns c notes end h of there =
    cut_all c.args.network.now c.args.report.now.octets notes end of c.args.link c.args.way c.args.number h there c.records.at c.records.since
    c.records-test.false (c.records.invariant.so notes end h of there)

use Rattle.std.proofs.Common.{◌∙◌, arith, sym}
use Rattle.lens_why.proofs.LastRecords.{sought_back, sought_found, sought_from, sought_none}
use Rattle.lens_why.proofs.seeking.last_before.Goals as goal

pub records-init : goal.records-init
records-init c notes end h of there = sought_from c.args.network.now c.args.report.now.octets notes end of c.args.sought h c.args.number there

pub records-preserved : goal.records-preserved
records-preserved c notes end h of there =
    sought_back c.args.network.now c.args.report.now.octets notes end of c.args.sought h c.records.at (c.records.invariant notes end h of there)
    c.records-test.true (λ g here. sym c.if-is_sought_at.false ∙ c.is_sought_at.ensures notes end g of here)

pub returns-then-is_sought_at : goal.returns-then-is_sought_at
returns-then-is_sought_at c notes end h of there =
    sought_found c.args.network.now c.args.report.now.octets notes end of c.args.sought h c.records.at (c.records.invariant notes end h of there)
    c.records-test.true (λ g here. sym c.if-is_sought_at.true ∙ c.is_sought_at.ensures notes end g of here)

pub returns : goal.returns
returns c notes end h of there =
    sought_none c.args.network.now c.args.report.now.octets notes end of c.args.sought h c.records.at (c.records.invariant notes end h of there)
    (omega (arith, c.records-test.false))

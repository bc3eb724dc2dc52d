use Rattle.{pcf_codec.proofs.Zeros.{ends, looks_on, stops}, std.proofs.Common.{◌∙◌, arith, refl, sym}}
use Rattle.pcf_codec.proofs.pcf.read_zeros.Goals as goal

pub loop-i-init : goal.loop-i-init
loop-i-init c = record { left = c.args.count; place = refl; same = refl }

pub returns-then-octets-i-ne0 : goal.returns-then-octets-i-ne0
returns-then-octets-i-ne0 c =
    let l = c.loop-i.invariant in
    sym (stops _ _ _ c.if-octets-i-ne0.true (omega (arith, l.place))) ∙ l.same

pub loop-i-preserved : goal.loop-i-preserved
loop-i-preserved c = looks_on _ _ _ _ c.loop-i.invariant c.loop-i-test.true c.if-octets-i-ne0.false

pub returns : goal.returns
returns c =
    let l = c.loop-i.invariant in
    sym (ends _ _ _ (omega (arith, l.place))) ∙ l.same

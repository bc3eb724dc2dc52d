use Rattle.{device_rules.proofs.Numbers.expected_is, std.proofs.{Common.arith, lemmas.Int.ints}}
use Rattle.device_rules.proofs.network.expected_at.Goals as goal

pub returns-clause-value : goal.returns-clause-value
returns-clause-value c =
    let e = expected_is c.args.device c.args.cycle c.requires in
    let a = c.begun.ensures.value in
    let b = c.expected_by.ensures.value in
    omega (arith, ints)

use Rattle.{net_plan.proofs.InRange.amount_most, std.proofs.{Common.{◌^◌, ◌∙◌, ◌≤◌}, Math.Nat.mul-le-mul_left}}
use Rattle.device_rules.proofs.network.begun.Goals as goal

pub returns-clause-high : goal.returns-clause-high
returns-clause-high c =
    let most : c.from-2.result ≤ 2 ^ 40 = rw (c.from-2.ensures ∙ c.amount.ensures.value)
    (amount_most c.requires.cycle) in
    rw c.from.ensures (mul-le-mul_left c.args.cycle most)

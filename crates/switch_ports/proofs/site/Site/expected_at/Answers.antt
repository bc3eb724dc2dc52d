use Rattle.switch_ports.proofs.{Reckoning.{sum_fits, sum_is, times_fits}, Words.{amount, amount_most, its_amount}}
use Rattle.switch_ports.proofs.site.Site.expected_at.Goals as goal

pub overflow_mul-result : goal.overflow_mul-result
overflow_mul-result c =
    let length = c.args.self.now.plan.cycle_length in
    let range = c.requires.site.cycle in
    times_fits c.from.result length.0 c.args.cycle (amount length) c.from.ensures (its_amount range) c.requires.cycle
    (amount_most range)

pub overflow_add-result : goal.overflow_add-result
overflow_add-result c =
    let plan = c.args.self.now.plan in
    let site = c.requires.site in
    sum_fits c.from.result plan.cycle_length.0 plan.expected.0 c.args.cycle (amount plan.cycle_length) (amount plan.expected) c.from.ensures
    (its_amount site.cycle) (its_amount site.expected) c.requires.cycle
    (amount_most site.cycle) (amount_most site.expected)

pub returns : goal.returns
returns c =
    let plan = c.args.self.now.plan in
    let site = c.requires.site in
    sum_is c.from.result plan.cycle_length.0 plan.expected.0 c.args.cycle (amount plan.cycle_length) (amount plan.expected) c.from.ensures
    (its_amount site.cycle) (its_amount site.expected) c.requires.cycle
    (amount_most site.cycle) (amount_most site.expected)

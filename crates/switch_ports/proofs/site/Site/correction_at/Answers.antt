use Rattle.switch_ports.proofs.{Reckoning.{comes, comes_not, less_fits, most_value}, Words.{◌*◌, ◌+◌, Units, amount, amount_most, ap}}
use Rattle.std.{proofs.Common.{FitsSigned, rules}, specs.Int.w64}
use Rattle.switch_ports.proofs.site.Site.correction_at.Goals as goal

pub overflow_sub-result : goal.overflow_sub-result
overflow_sub-result c =
    let site = c.args.self.now in
    let ranges = c.requires.site in
    let fit : FitsSigned w64 c.args.adjustment.0 = search rules in
    less_fits c.correction_value-value.result.0 c.args.adjustment.0 (c.args.cycle * amount site.plan.cycle_length + amount site.correction)
    (ap (λ (u : Units). u.0) c.correction_value-value.ensures)
    (most_value _ _ _ c.requires.cycle (amount_most ranges.cycle) (amount_most ranges.correction))
    c.requires.small fit

pub returns-then-changed-value : goal.returns-then-changed-value
returns-then-changed-value c =
    let site = c.args.self.now in
    let ranges = c.requires.site in
    let fit : FitsSigned w64 c.args.adjustment.0 = search rules in
    let changed : FitsSigned w64 c.args.changed.0 = search rules in
    comes c.correction_value-value.result.0 c.args.adjustment.0 c.args.changed.0 (c.args.cycle * amount site.plan.cycle_length + amount site.correction)
    (ap (λ (u : Units). u.0) c.correction_value-value.ensures)
    (most_value _ _ _ c.requires.cycle (amount_most ranges.cycle) (amount_most ranges.correction))
    c.requires.small fit changed c.if-changed-value.true

pub returns-else-changed-value : goal.returns-else-changed-value
returns-else-changed-value c =
    let site = c.args.self.now in
    let ranges = c.requires.site in
    let changed : FitsSigned w64 c.args.changed.0 = search rules in
    comes_not c.correction_value-value.result.0 c.args.adjustment.0 c.args.changed.0 (c.args.cycle * amount site.plan.cycle_length + amount site.correction)
    (ap (λ (u : Units). u.0) c.correction_value-value.ensures)
    (most_value _ _ _ c.requires.cycle (amount_most ranges.cycle) (amount_most ranges.correction))
    changed c.if-changed-value.false

use Rattle.std.proofs.Common.{◌*◌, ◌+◌, ◌-◌, ◌∙◌, ◌≡◌, ap, arith, max, refl, ℕ}
use Rattle.lens_slack.{proofs.least_lemmas.Leasts.are_least, specs.least.Parts.drift_over}
use Rattle.schedule_checker.{proofs.ShapeRules.tree_of, specs.Timing.errors_of}
use Rattle.lens_slack.proofs.least.computing.least_times.Goals as goal

left_of_path : (dmax path steady drift : ℕ) → dmax ≡ steady + path + drift → dmax - path ≡ steady + drift
left_of_path dmax path steady drift is = omega (arith, is)

pub longest_delay-path-requires-clause-tree : goal.longest_delay-path-requires-clause-tree
longest_delay-path-requires-clause-tree c = tree_of c.rules_give_trees.ensures c.args.network.now c.requires.shape

pub steady_beta-requires-clause-tree : goal.steady_beta-requires-clause-tree
steady_beta-requires-clause-tree c = tree_of c.rules_give_trees.ensures c.args.network.now c.requires.shape

pub returns-clause-least : goal.returns-clause-least
returns-clause-least c =
    let n = c.args.network.now in
    let steady = c.steady_beta.result in
    let path = c.longest_delay-path.result in
    let dmax = c.least_dmax-dmax.result in
    let errors = c.errors_at-errors.result in
    let start = c.greatest_start.result in
    let port = c.slowest_port.result in
    let settled = c.greater-settled.result in
    let precision = c.greater-precision.result in
    let correction = 2 * dmax + c.amount-2.result + 10 * precision in
    are_least {steady = steady} {path = path} {errors = errors} {start = start} {port = port} {t = record {
      dmax = dmax;
      settled = settled;
      precision = precision;
      correction = correction;
      tt_start = correction + dmax + 4 * precision + port;
    }} (record {
      is_steady = c.steady_beta.ensures.steady;
      is_longest = c.longest_delay-path.ensures.longest;
      is_start = c.greatest_start.ensures.greatest;
      is_port = c.slowest_port.ensures.greatest;
      fixed = c.least_dmax-dmax.ensures.fixed;
      least = c.least_dmax-dmax.ensures.least;
      is_errors = c.errors_at-errors.ensures.value ∙ ap (errors_of n) (left_of_path dmax path steady (drift_over n dmax) c.least_dmax-dmax.ensures.fixed);
      settled = c.greater-settled.ensures;
      precision = c.greater-precision.ensures ∙ ap (λ (calc : ℕ). max (settled + 2 * errors) calc) c.amount.ensures.value;
      correction = ap (λ calc. 2 * dmax + calc + 10 * precision) c.amount-2.ensures.value;
      tt_start = refl;
    }) c.requires.range c.requires.shape

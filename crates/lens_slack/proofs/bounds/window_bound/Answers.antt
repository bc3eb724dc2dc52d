use Rattle.std.{proofs.{Common.{◌^◌, ◌∙◌, ◌≡◌, ◌≤◌, ap, arith, rules}, lemmas.Int.ints}, specs.Prelude.unsigned_abs}
use Rattle.schedule_tables.specs.{Windows.window_end, declared.window.Window.Window}
use Rattle.lens_slack.{proofs.Spots.{window_first, window_small}, specs.declared.spot.Finding.Finding}
use Rattle.lens_slack.proofs.bounds.window_bound.Goals as goal

pub returns-clause-tightest : goal.returns-clause-tightest
returns-clause-tightest c = window_first c.args.row c.found.result c.entry_of.ensures.is (search rules)

pub returns-clause-small : goal.returns-clause-small
returns-clause-small c =
    let n = c.args.network.now in
    let entry = c.entry_of.result in
    let end : c.amount.result ≡ window_end n entry = c.amount.ensures.value ∙ ap (λ (w : Window). unsigned_abs w.to.0) c.window_of-window.ensures in
    let small = window_small n c.requires.range entry c.entry_of.ensures.range in
    let cycle = c.requires.range.cycle in
    let precision = c.requires.range.precision in
    let first : c.amount-3.result ≤ 2 ^ 40 = omega (arith, ints, c.amount-3.ensures.value, cycle.least, cycle.most) in
    let second : c.amount-2.result ≤ 2 ^ 40 = omega (arith, ints, c.amount-2.ensures.value, precision.least, precision.most) in
    record {
      has = omega (arith, ap (λ (f : Finding). f.has) c.found.ensures, first);
      wants = omega (arith, ap (λ (f : Finding). f.wants) c.found.ensures, end, small, second);
    }

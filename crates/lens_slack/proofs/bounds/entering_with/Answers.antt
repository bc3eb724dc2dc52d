use Rattle.std.specs.Prelude.{unsigned_abs}
use Rattle.lens_slack.{proofs.Spots.window_small, specs.declared.spot.Finding.Finding}
use Rattle.{schedule_tables.specs.{Windows.window_end, declared.window.Window.Window}, std.proofs.{Common.{◌^◌, ◌∙◌, ◌≡◌, ◌≤◌, ap, arith}, lemmas.Int.ints}}
use Rattle.lens_slack.proofs.bounds.entering_with.Goals as goal

pub returns-clause-small : goal.returns-clause-small
returns-clause-small c =
    let n = c.args.network.now in
    let entry = c.args.entering.now in
    let end : c.amount-wants.result ≡ window_end n entry = c.amount-wants.ensures.value ∙ ap (λ (w : Window). unsigned_abs w.to.0) c.window_of.ensures in
    let small = window_small n c.requires.range entry c.requires.entering in
    let offset = c.requires.entry.row.offset in
    let less : c.amount.result ≤ 2 ^ 40 = omega (arith, ints, c.amount.ensures.value, offset.least, offset.most) in
    record {
      has = omega (arith, ap (λ (f : Finding). f.has) c.found.ensures, less);
      wants = omega (arith, ap (λ (f : Finding). f.wants) c.found.ensures, end, small);
    }

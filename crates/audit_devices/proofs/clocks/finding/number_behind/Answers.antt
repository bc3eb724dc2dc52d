use Rattle.std.{proofs.{Common.{◌+◌, ◌/◌, ◌∙◌, ◌≡◌, ◌≤ℤ◌, Fits, ap, arith, pos, rules, subst, sym, w64, ℕ, ℤ}, lemmas.Int.{ints, to_z-of_z}}, specs.Int.w128}
use Rattle.std.specs.Prelude.{◌+ℤ◌, ◌-ℤ◌}
use Rattle.audit_devices.{proofs.clocks_lemmas.Reached.{IsBehind, quotient_behind, quotient_near}}
use Rattle.audit_devices.{specs.clocks.Finding.value_in}
use Rattle.audit_devices.proofs.clocks.finding.number_behind.Goals as goal

pub returns-else-passed-series-clause-behind : goal.returns-else-passed-series-clause-behind
returns-else-passed-series-clause-behind c =
    let far : pos c.distance.result ≡ (c.args.passed -ℤ c.args.series.first) =
    c.distance.ensures.value ∙ ap (λ z. z -ℤ c.args.series.first) (to_z-of_z w128 c.args.passed (search rules)) in
    (subst (λ (k : ℕ). IsBehind c.args.series c.args.passed (c.distance.result / k + 1)) (sym c.from.ensures)
    (quotient_behind c.args.series c.args.passed c.distance.result c.requires.step far)).behind

pub returns-else-passed-series-clause-least : goal.returns-else-passed-series-clause-least
returns-else-passed-series-clause-least c =
    let far : pos c.distance.result ≡ (c.args.passed -ℤ c.args.series.first) =
    c.distance.ensures.value ∙ ap (λ z. z -ℤ c.args.series.first) (to_z-of_z w128 c.args.passed (search rules)) in
    (subst (λ (k : ℕ). IsBehind c.args.series c.args.passed (c.distance.result / k + 1)) (sym c.from.ensures)
    (quotient_behind c.args.series c.args.passed c.distance.result c.requires.step far)).least

pub returns-else-passed-series-clause-near : goal.returns-else-passed-series-clause-near
returns-else-passed-series-clause-near c =
    let far : pos c.distance.result ≡ (c.args.passed -ℤ c.args.series.first) =
    c.distance.ensures.value ∙ ap (λ z. z -ℤ c.args.series.first) (to_z-of_z w128 c.args.passed (search rules)) in
    let near = subst (λ (k : ℕ). value_in c.args.series (c.distance.result / k + 1) ≤ℤ (c.args.passed +ℤ pos c.args.series.step)) (sym c.from.ensures)
    (quotient_near c.args.series c.args.passed c.distance.result far) in
    let most = c.requires.most in
    let step : Fits w64 c.args.series.step = search rules in
    omega (arith, ints, near, most, step)

use Rattle.{net_plan.specs.Bounds.{IsBeta, gamma_of}, std.proofs.lemmas.Int.ints, tte_forms.specs.{Putting.shown_by}}
use Rattle.tte_forms.{proofs.networks.Answers.acceptance, specs.networks.NetworkLine.acceptance_line}
use Rattle.{std.proofs.Common.{◌∙◌, ◌≡◌, ap, arith, pos}}
use Rattle.tte_forms.proofs.checking.put_acceptance.Goals as goal

pub returns-clause-gives : goal.returns-clause-gives
returns-clause-gives g c =
    let shown = shown_by g.K.Sink in
    let n = c.args.accepted.now in
    let beta = c.amount.result in
    let is : IsBeta n (pos beta) =
    rw c.amount.ensures.whole at (rw c.network-network.ensures.value at c.beta.ensures) in
    let gamma : c.amount-2.result ≡ gamma_of n = omega (arith, ints, c.amount-2.ensures.whole, c.gamma.ensures) ∙ ap gamma_of c.network-network.ensures.value in
    let line =
    c.as_slice.ensures ∙ c.make_acceptance_line.ensures ∙ ap (acceptance_line beta) gamma in
    acceptance n beta c.put_last.result (shown c.args.out.now) (shown c.put_last.new.out) is
    (rw line at c.put_last.ensures.gives)

use Rattle.audit_sweep.proofs.unpaid_lemmas.Words.{◌+◌, ◌∙◌, ◌≡◌, IsPaidSo, List, Paid, Some, ap, arith, slice_get, subst, sym}
use Rattle.{std.proofs.Common.◌-◌, tte_units.proofs.general_lemmas.Lists.got_at}
use Rattle.audit_sweep.proofs.unpaid.payments.Payments.of.Goals as goal

pub returns-in-Some : goal.returns-in-Some
returns-in-Some c hs h are there =
    let place = c.args.number - 1 in
    let paid = c.in-Some.paid.now in
    let got : slice_get c.args.self.now place ≡ Some paid = ap (λ (xs : List Paid). slice_get xs place) (sym (c.deref.ensures.value ∙ c.self.view_is))
    ∙ got_at c.deref.result.now place paid c.in-Some.ensures.lookup.3.0 c.in-Some.ensures.lookup.1 in
    let from : place + 1 ≡ c.args.number = omega (arith, c.if-number-eq0.false) in
    subst (λ n. IsPaidSo hs n paid) from (are.each place paid got)

use Rattle.audit_sweep.proofs.unpaid.payments.Payments.push.Goals.{then-cause-eq0-via-else-cause-eq0+then-count-cause, then-cause-eq0-via-then-cause-eq0}
use Rattle.audit_sweep.proofs.unpaid_lemmas.{Debts.{more_marked, more_unmarked}, Words.{slice_get, subst, sym}}
use Rattle.tte_units.proofs.general_lemmas.Lists.{got_at}
use Rattle.audit_sweep.proofs.unpaid_lemmas.Words.{◌+◌, ◌<◌, ◌∙◌, ◌∷◌, ◌≡◌, ◌⊎◌, List, Paid, Some, [], ap, arith, cause_of, inl, inr, length, paid_by}
use Rattle.{audit_sweep.specs.unpaid.Payments.{ArePayments, both, nothing}, std.proofs.Common.{◌++◌, ◌-◌, length-append, slice_set}}
use Rattle.audit_sweep.proofs.unpaid.payments.Payments.push.Goals as goal

pub returns-then-cause-eq0 : goal.returns-then-cause-eq0
returns-then-cause-eq0 c hs h are body number =
    let items : c.push.new.self.items ≡ c.args.self.now ++ nothing ∷ [] = c.in-Ok.ensures.items
    ∙ ap (λ (xs : List Paid). xs ++ c.nothing.result ∷ []) c.self.view_is
    ∙ ap (λ (p : Paid). c.args.self.now ++ p ∷ []) c.nothing.ensures in
    let count : c.len-count.result ≡ length hs = omega (arith, c.len-count.ensures, ap length c.self.view_is, are.count) in
    let cause : c.cause_of-cause.result ≡ cause_of h.note.body = c.cause_of-cause.ensures ∙ ap cause_of (sym body) in
    let none : (cause_of h.note.body ≡ 0) ⊎ (length hs < cause_of h.note.body) = elim c.then-cause-eq0.branch [
      | then-cause-eq0-via-then-cause-eq0 w ↦ let zero = w.if-cause-eq0 in inl (omega (arith, zero, cause))
      | then-cause-eq0-via-else-cause-eq0+then-count-cause w ↦ let high = w.if-count-cause in inr (omega (arith, high, cause, count))
    ] in
    subst (λ xs. ArePayments (hs ++ h ∷ []) xs) (sym items) (more_unmarked h are number none)

pub returns : goal.returns
returns c hs h are body number =
    let items : c.push.new.self.items ≡ c.args.self.now ++ nothing ∷ [] = c.in-Ok.ensures.items
    ∙ ap (λ (xs : List Paid). xs ++ c.nothing.result ∷ []) c.self.view_is
    ∙ ap (λ (p : Paid). c.args.self.now ++ p ∷ []) c.nothing.ensures in
    let place = c.cause_of-cause.result - 1 in
    let count : c.len-count.result ≡ length hs = omega (arith, c.len-count.ensures, ap length c.self.view_is, are.count) in
    let cause : c.cause_of-cause.result ≡ cause_of h.note.body = c.cause_of-cause.ensures ∙ ap cause_of (sym body) in
    let own : cause_of h.note.body ≡ place + 1 = omega (arith, cause, c.if-cause-eq0.false) in
    let low : place < length hs = omega (arith, count, c.if-cause-eq0.false, c.if-count-cause.false) in
    let old = c.index.result.now in
    let was : slice_get (c.args.self.now ++ nothing ∷ []) place ≡ Some old = ap (λ (xs : List Paid). slice_get xs place) (sym items)
    ∙ got_at c.push.new.self.items place old (omega (arith, low, ap length items, length-append c.args.self.now (nothing ∷ []), are.count)) c.index.ensures in
    let after : both old (paid_by h.note.body) ≡ c.and.result =
    ap (λ b. both old (paid_by b)) body ∙ ap (λ p. both old p) (sym c.by.ensures) ∙ sym c.and.ensures in
    subst (λ (p : Paid). ArePayments (hs ++ h ∷ []) (slice_set c.push.new.self.items place p)) after
    (subst (λ (xs : List Paid). ArePayments (hs ++ h ∷ []) (slice_set xs place (both old (paid_by h.note.body)))) (sym items)
    (more_marked h place old are number own low was))

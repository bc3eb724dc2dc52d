use Rattle.lens_plan.{proofs.PlannedRows.served_next, specs.{joining.Served.IsServedBy, messages.Message.Message}}
use Rattle.std.proofs.{Common.{◌+◌, ◌∙◌, ◌≡◌, Some, ap, arith, length, refl, subst, sym, ℕ}, lemmas.Option.{slice_get-get_or, slice_get_within}}
use Rattle.lens_plan.proofs.joining.served.are_served.Goals as goal

pub messages-preserved : goal.messages-preserved
messages-preserved c =
    let messages = c.args.messages.now in
    let n = c.messages.place in
    let m = c.index-messages-place.result in
    let there = slice_get-get_or messages n m c.messages-test.true ∙ ap (λ (x : Message). Some x) (sym c.index-messages-place.is) in
    let here : length c.as_slice-first.result.now + n ≡ length c.args.network.now.vl + n = ap (λ k. k + n) (ap length c.as_slice-first.ensures) in
    served_next c.args.network.now messages n c.messages.invariant there
    (subst (λ (k : ℕ). IsServedBy c.args.planned.now (record { 0 = k }) m) here (c.if-not-is_served_by.ensures.0 refl))

pub returns : goal.returns
returns c =
    let first = ap length c.as_slice-first.ensures in
    let count = ap length c.as_slice-count.ensures in (
      λ t. record {
        counted = omega (arith, first, count, c.if-count-first.false, c.if-count-first-2.false);
        each = λ k m is.
            let within = slice_get_within c.args.messages.now k m is in
            c.messages.invariant k m (omega (arith, within, c.messages-test.false)) is;
      },
      λ b. refl,
    )

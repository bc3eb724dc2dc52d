use Rattle.{report_text.proofs.Counting.{counted_up, digit_most}, std.proofs.Common.{◌+◌, ◌∙◌, ◌≡◌, ap, arith, decimal}}
use Rattle.report_text.proofs.numbers.NumberText.push_in.Goals as goal

pub overflow_add-self : goal.overflow_add-self
overflow_add-self c =
    let inside = c.self.inside in
    let most = digit_most inside.text inside.len inside.number 0 (omega (arith, c.self.invariant.2, c.self.told)) c.self.invariant.0
    (omega (arith, c.if-number-self.true, c.if-number-self-eq1.true, c.ranges.number.fits)) in
    omega arith

pub invariant_of-self : goal.invariant_of-self
invariant_of-self c =
    let inside = c.self.inside in
    let next : inside.number + 1 ≡ c.args.number = omega (arith, c.if-number-self.true, c.if-number-self-eq1.true) in (
      counted_up inside.text inside.len inside.number 0 (omega (arith, c.self.invariant.2, c.self.told)) c.self.invariant.0
          (omega (arith, c.ranges.number.fits)) c.if-self-last-ne57.true
          ∙ ap decimal next,
      c.self.invariant.1,
      c.self.invariant.2,
    )

pub returns-then-self-last-ne57-clause-text : goal.returns-then-self-last-ne57-clause-text
returns-then-self-last-ne57-clause-text c = c.append_padded.ensures.text ∙ (rw (invariant_of-self c).0)

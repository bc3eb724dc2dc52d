use Rattle.std.proofs.Common.{◌≡◌, get_or, length, rules, sym}
use Rattle.trace_text.proofs.WordsBack.{number_empty, number_leading_zero, number_of_digits}
use Rattle.trace_text.proofs.numbers.number_up_to.Goals as goal

pub returns-then-is_empty-clause-value : goal.returns-then-is_empty-clause-value
returns-then-is_empty-clause-value c =
    sym (number_empty c.args.most c.args.text.now (search rules))

pub returns-then-has_leading_zero-clause-value : goal.returns-then-has_leading_zero-clause-value
returns-then-has_leading_zero-clause-value c =
    let leading = c.has_leading_zero.ensures.0 c.if-has_leading_zero.true in
    sym (number_leading_zero c.args.most c.args.text.now c.requires leading.1 leading.0)

pub returns-clause-value : goal.returns-clause-value
returns-clause-value c =
    let text = c.args.text.now in
    let plain : get_or text 0 0 ≡ 48 → length text ≡ 1 = λ zero. search rules in
    number_of_digits c.args.most text c.value_up_to.result c.requires (search rules) plain c.value_up_to.ensures

use Rattle.std.proofs.Common.{◌+◌, ◌<◌, ◌≡◌, arith, get_or, length, rules, true}
use Rattle.trace_text.proofs.WordsBack.{digit_shows, digit_spells, digits_pass}
use Rattle.std.{proofs.lemmas.{Int.Digits.{digits_more, digits_value_more}, Str.Parse.digits_value-take-le}, specs.Char.{is_ascii_digit}}
use Rattle.trace_text.proofs.numbers.value_up_to.Goals as goal

pub returns-then-not-is_ascii_digit : goal.returns-then-not-is_ascii_digit
returns-then-not-is_ascii_digit c all =
    let passes = digits_pass c.args.text.now c.digits.digit-index all.0
    c.digits-test.true in
    cc

pub returns-then-number-most : goal.returns-then-number-most
returns-then-number-most c all =
    let text = c.args.text.now in
    let i = c.digits.digit-index in
    let digit = get_or text i 0 in
    let spelled = digit_spells digit (search rules) in
    let more = digits_value_more 10 text i (search rules) in
    omega (
      arith,
      c.digits.invariant.value,
      c.from.ensures,
      c.if-number-most.true,
      digits_value-take-le 10 text (i + 1)
          (omega arith),
      all.1,
    )

pub digits-preserved : goal.digits-preserved
digits-preserved c =
    let text = c.args.text.now in
    let i = c.digits.digit-index in
    let digit = get_or text i 0 in
    let below : i < length text = search rules in
    let shows : is_ascii_digit digit ≡ true = search rules in
    record {
      digits = digits_more 10 text i below c.digits.invariant.digits (digit_shows digit shows);
      value = omega (arith, digits_value_more 10 text i below, digit_spells digit shows, c.digits.invariant.value, c.from.ensures);
      within = c.if-number-most.false;
    }

use Rattle.trace_text.proofs.WordsBack.{digit_shows, digit_spells}
use Rattle.tte_audit.proofs.{Telling.few_digits, Words.{◌<◌, ◌≡◌, arith, get_or, length, rules, true}}
use Rattle.std.{proofs.lemmas.Int.Digits.{digits_more, digits_value_more}, specs.Char.is_ascii_digit}
use Rattle.tte_audit.proofs.numbers.digits_of.Goals as goal

pub digits-preserved : goal.digits-preserved
digits-preserved c =
    let text = c.args.text.now in
    let i = c.digits.octet-index in
    let digit = get_or text i 0 in
    let below : i < length text = search rules in
    let shows : is_ascii_digit digit ≡ true = search rules in
    record {
      here = omega (arith, c.digits.invariant.here);
      short = omega (arith, c.digits.invariant.short, c.digits.invariant.here);
      digits = digits_more 10 text i below c.digits.invariant.digits (digit_shows digit shows);
      value = omega (arith, digits_value_more 10 text i below, digit_spells digit shows, c.digits.invariant.value, c.from.ensures);
    }

pub overflow_mul-number : goal.overflow_mul-number
overflow_mul-number c =
    let below : c.digits.octet-index < length c.args.text.now = search rules in
    let few = few_digits c.args.text.now c.digits.octet-index c.digits.invariant.digits below
    (omega (arith, c.digits.invariant.here, c.digits.invariant.short, c.if-count-eq19.false)) in
    omega (arith, few, c.digits.invariant.value)

pub overflow_add-number : goal.overflow_add-number
overflow_add-number c =
    let digit = get_or c.args.text.now c.digits.octet-index 0 in
    let shows : is_ascii_digit digit ≡ true = search rules in
    let below : c.digits.octet-index < length c.args.text.now = search rules in
    let few = few_digits c.args.text.now c.digits.octet-index c.digits.invariant.digits below
    (omega (arith, c.digits.invariant.here, c.digits.invariant.short, c.if-count-eq19.false)) in
    omega (arith, few, c.digits.invariant.value, digit_shows digit shows, digit_spells digit shows, c.from.ensures)

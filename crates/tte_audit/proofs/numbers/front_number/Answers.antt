use Rattle.tte_audit.proofs.{Telling.decimal_front, Words.{◌≡◌, ◌≤◌, arith, get_or, length, rules}}
use Rattle.tte_audit.proofs.numbers.front_number.Goals as goal

pub returns-clause-text : goal.returns-clause-text
returns-clause-text c =
    let front = c.split_at.result.0.now in
    let plain : get_or front 0 0 ≡ 48 → length front ≤ 1 = λ zero. search rules in
    decimal_front c.args.text.now front c.split_at.result.1.now c.digits_of-digits.result.count c.digits_of-digits.result.number
    c.split_at.ensures.front c.split_at.ensures.by_index.0 c.digits_of-digits.ensures.digits c.digits_of-digits.ensures.value
    (omega (arith, c.if-digits-eq0.false)) c.digits_of-digits.ensures.count plain (omega (arith, c.if-digits-most.false, c.ranges.most.fits))

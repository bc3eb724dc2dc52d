use Rattle.std.proofs.Common.{◌∙◌, ◌≡◌, ap, arith, decimal, length, length-append, length-take-le, sym, take}
use Rattle.tte_io.proofs.{Sizes.size_most, Spelling.spelled_at}
use Rattle.tte_io.proofs.line_text.LineText.push_decimal.Goals as goal

pub overflow_add-end : goal.overflow_add-end
overflow_add-end c = omega (arith, c.self.invariant, c.digit_count.ensures, size_most c.args.n c.ranges.n.fits)

pub write_digits-requires : goal.write_digits-requires
write_digits-requires c =
    let most = size_most c.args.n c.ranges.n.fits in
    let size : length c.args.self.now ≡ c.self.inside.len =
    ap length (sym c.self.view_is) ∙ length-take-le c.self.inside.len c.self.inside.octets (omega (arith, c.self.invariant, c.self.told)) in
    (omega (arith, c.digit_count.ensures), omega (arith, c.digit_count.ensures, c.requires, c.self.told))

pub returns-else-n-lt10-clause-text : goal.returns-else-n-lt10-clause-text
returns-else-n-lt10-clause-text c =
    let len = c.self.inside.len in
    let at : c.write_digits.result ≡ len = omega (arith, c.write_digits.ensures.start, c.digit_count.ensures) in
    let front : take len c.write_digits.new.buf ≡ take len c.self.inside.octets =
    rw at at c.write_digits.ensures.before in
    let back = rw at at c.write_digits.ensures.written in
    rw c.digit_count.ensures
    (spelled_at c.self.inside.octets c.write_digits.new.buf (decimal c.args.n) _ len front back ∙ (rw c.self.view_is))

pub returns-else-n-lt10-clause-grows : goal.returns-else-n-lt10-clause-grows
returns-else-n-lt10-clause-grows c =
    omega (arith, ap length (returns-else-n-lt10-clause-text c), length-append c.args.self.now (decimal c.args.n), size_most c.args.n c.ranges.n.fits)

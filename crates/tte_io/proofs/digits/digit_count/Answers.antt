use Rattle.{std.proofs.Common.{◌+◌, ◌≡◌, arith, decimal, length}, tte_io.proofs.Sizes.{size_eight, size_most, size_sixteen}}
use Rattle.tte_io.proofs.digits.digit_count.Goals as goal

pub returns-then-n-lt10000000000000000 : goal.returns-then-n-lt10000000000000000
returns-then-n-lt10000000000000000 c =
    omega (arith, c.count_below_eight-then-n-lt10000000000000000.ensures, size_eight c.args.n (omega (arith, c.if-n-lt100000000.false)) c.ranges.n.fits)

pub returns-else-n-lt10000000000000000 : goal.returns-else-n-lt10000000000000000
returns-else-n-lt10000000000000000 c =
    omega (
      arith,
      c.count_below_eight-else-n-lt10000000000000000.ensures,
      size_sixteen c.args.n (omega (arith, c.if-n-lt10000000000000000.false)) c.ranges.n.fits,
    )

pub overflow_add-result : goal.overflow_add-result
overflow_add-result c =
    let all : 8 + c.count_below_eight-then-n-lt10000000000000000.result ≡ length (decimal c.args.n) =
    omega (arith, c.count_below_eight-then-n-lt10000000000000000.ensures, size_eight c.args.n (omega (arith, c.if-n-lt100000000.false)) c.ranges.n.fits) in
    omega (arith, size_most c.args.n c.ranges.n.fits)

pub overflow_add-result-else-n-lt10000000000000000 : goal.overflow_add-result-else-n-lt10000000000000000
overflow_add-result-else-n-lt10000000000000000 c =
    let all : 16 + c.count_below_eight-else-n-lt10000000000000000.result ≡ length (decimal c.args.n) = omega (
      arith,
      c.count_below_eight-else-n-lt10000000000000000.ensures,
      size_sixteen c.args.n (omega (arith, c.if-n-lt10000000000000000.false)) c.ranges.n.fits,
    ) in
    omega (arith, size_most c.args.n c.ranges.n.fits)

use Rattle.{std.proofs.Common.{arith, sym}, tte_io.proofs.Sizes.{is_eight, is_five, is_four, is_one, is_seven, is_six, is_three, is_two}}
use Rattle.tte_io.proofs.digits.count_below_eight.Goals as goal

pub returns-then-n-lt10 : goal.returns-then-n-lt10
returns-then-n-lt10 c = sym (is_one c.args.n (omega (arith, c.if-n-lt10.true)))

pub returns-else-n-lt10 : goal.returns-else-n-lt10
returns-else-n-lt10 c = sym (is_two c.args.n (omega (arith, c.if-n-lt10.false)) (omega (arith, c.if-n-lt100.true)))

pub returns-then-n-lt1000 : goal.returns-then-n-lt1000
returns-then-n-lt1000 c = sym (is_three c.args.n (omega (arith, c.if-n-lt100.false)) (omega (arith, c.if-n-lt1000.true)))

pub returns-else-n-lt1000 : goal.returns-else-n-lt1000
returns-else-n-lt1000 c = sym (is_four c.args.n (omega (arith, c.if-n-lt1000.false)) (omega (arith, c.if-n-lt10000.true)))

pub returns-then-n-lt100000 : goal.returns-then-n-lt100000
returns-then-n-lt100000 c = sym (is_five c.args.n (omega (arith, c.if-n-lt10000.false)) (omega (arith, c.if-n-lt100000.true)))

pub returns-else-n-lt100000 : goal.returns-else-n-lt100000
returns-else-n-lt100000 c = sym (is_six c.args.n (omega (arith, c.if-n-lt100000.false)) (omega (arith, c.if-n-lt1000000.true)))

pub returns-then-n-lt10000000 : goal.returns-then-n-lt10000000
returns-then-n-lt10000000 c = sym (is_seven c.args.n (omega (arith, c.if-n-lt1000000.false)) (omega (arith, c.if-n-lt10000000.true)))

pub returns-else-n-lt10000000 : goal.returns-else-n-lt10000000
returns-else-n-lt10000000 c = sym (is_eight c.args.n (omega (arith, c.if-n-lt10000000.false)) (omega (arith, c.requires)))

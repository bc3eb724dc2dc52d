use Rattle.{std.proofs.{Common.{◌+◌, ◌-◌, ◌∙◌, ◌≤◌, ap, arith, drop, length, sym}, lemmas.List.length-take}, tte_io.proofs.Ranges.drop-slice_range}
use Rattle.tte_io.proofs.ahead.Ahead.consume.Goals as goal

pub returns : goal.returns
returns c =
    let a = c.self.inside in
    let within : a.from + c.args.count ≤ a.to =
    omega (arith, ap length c.self.view_is, length-take (a.to - a.from) (drop a.from a.octets), c.self.invariant.0) in
    sym (drop-slice_range a.octets a.from c.args.count a.to within) ∙ ap (drop c.args.count) c.self.view_is

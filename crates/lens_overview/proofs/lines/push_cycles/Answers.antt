use Rattle.{lens_overview.{proofs.Joins.joined, specs.Lines.cycles_part}, std.{proofs.Common.◌++◌, specs.Prelude.{codes, decimal}}}
use Rattle.lens_overview.proofs.lines.push_cycles.Goals as goal

pub returns-clause-text : goal.returns-clause-text
unfolding cycles_part
returns-clause-text c =
    let o = c.args.line.now in
    let a = codes " from cycle " in
    let b = decimal c.args.ribbon.now.from.cycle in
    let d = codes " until " in
    let e = decimal c.args.ribbon.now.to.cycle in
    joined o (a ++ b ++ d ++ e) (codes "</title></path>\n") c.push_decimal-2.new.self c.push-3.new.self
    (joined o (a ++ b ++ d) e c.push-2.new.self c.push_decimal-2.new.self
    (joined o (a ++ b) d c.push_decimal.new.self c.push-2.new.self
    (joined o a b c.push.new.self c.push_decimal.new.self c.push.ensures.text c.push_decimal.ensures.text)
    c.push-2.ensures.text)
    c.push_decimal-2.ensures.text)
    c.push-3.ensures.text

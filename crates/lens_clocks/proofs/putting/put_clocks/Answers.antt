use Rattle.{lens_clocks.specs.Lines.clock_line, tte_forms.specs.Putting.{Puts, shown_by}}
use Rattle.std.{proofs.{Common.{map, rules, subst, ℤ}, lemmas.Int.to_z-of_z}, specs.Int.w128}
use Rattle.lens_clocks.proofs.putting.put_clocks.Goals as goal

pub returns-clause-puts : goal.returns-clause-puts
returns-clause-puts g c =
    let lines = λ (least : ℤ). map (clock_line c.args.network.now c.args.number least) c.args.clocks.now in
    subst (λ (least : ℤ). Puts (lines least) c.put_each.result (shown_by g.K.Sink c.args.out.now) (shown_by g.K.Sink c.put_each.new.out))
    (to_z-of_z w128 c.args.least (search rules)) c.put_each.ensures.puts

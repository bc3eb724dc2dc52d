use Rattle.lens_clocks.specs.Lines.{clock_line, spread_line}
use Rattle.std.{proofs.{Common.{◌++◌, ◌∙◌, ◌∷◌, List, Some, [], map, rules, subst, ℕ, ℤ}, lemmas.Int.to_z-of_z}, specs.Int.w128}
use Rattle.tte_forms.{proofs.Puts.{PutFails-more, puts_last}, specs.Putting.{PutFails, Puts, PutsLines, shown_by}}
use Rattle.lens_clocks.proofs.putting.put_between.Goals as goal

pub returns-in-Err-clause-puts : goal.returns-in-Err-clause-puts
returns-in-Err-clause-puts g c =
    let old = shown_by g.K.Sink c.args.out.now in
    let now = shown_by g.K.Sink c.put_clocks.new.out in
    let network = c.args.network.now in
    let lines = λ (least : ℤ). map (clock_line network c.args.number least) c.args.clocks.now in
    PutFails-more (spread_line network c.args.number (Some c.args.ends) ∷ [])
    (subst (λ (z : ℤ). PutFails (lines z) old now) (to_z-of_z w128 c.args.ends.least (search rules)) c.in-Err.ensures.puts)

pub returns-clause-puts : goal.returns-clause-puts
returns-clause-puts g c =
    let old = shown_by g.K.Sink c.args.out.now in
    let now = shown_by g.K.Sink c.put_clocks.new.out in
    let new = shown_by g.K.Sink c.put.new.self in
    let lines = λ (least : ℤ). map (clock_line c.args.network.now c.args.number least) c.args.clocks.now in
    let put = subst (λ (z : ℤ). PutsLines (lines z) old now) (to_z-of_z w128 c.args.ends.least (search rules)) c.in-Ok.ensures.puts in
    subst (λ (line : List ℕ). Puts (lines c.args.ends.least ++ line ∷ []) c.put.result old new) (c.as_slice.ensures ∙ c.make_spread_line.ensures)
    (puts_last c.as_slice.result.now c.put.result new put c.put.ensures.all c.put.ensures.front c.put.ensures.counted)

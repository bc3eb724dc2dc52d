use Rattle.lens_clocks.{proofs.Extremes.ends_fit, specs.Lines.lines_between}
use Rattle.std.proofs.Common.{◌∙◌, ◌∷◌, List, [], subst, sym, ℕ}
use Rattle.tte_forms.{proofs.Puts.{PutsLines-none, puts_last}, specs.Putting.{Puts, shown_by}}
use Rattle.lens_clocks.proofs.putting.put_told.Goals as goal

pub put_between-requires-clause-least : goal.put_between-requires-clause-least
put_between-requires-clause-least g c =
    (ends_fit c.args.clocks.now c.in-Some.ends (λ k d within. (c.requires.writable k d within).fits) (sym c.ends_of.ensures ∙ c.in-Some.is)).0

pub put_between-requires-clause-greatest : goal.put_between-requires-clause-greatest
put_between-requires-clause-greatest g c =
    (ends_fit c.args.clocks.now c.in-Some.ends (λ k d within. (c.requires.writable k d within).fits) (sym c.ends_of.ensures ∙ c.in-Some.is)).1

pub returns-in-None-clause-puts : goal.returns-in-None-clause-puts
returns-in-None-clause-puts g c =
    let shown = shown_by g.K.Sink in
    let old = shown c.args.out.now in
    let new = shown c.put.new.self in
    subst (λ ends. Puts (lines_between c.args.network.now c.args.number ends c.args.clocks.now) c.put.result old new)
    (sym c.in-None.is ∙ c.ends_of.ensures)
    (subst (λ (line : List ℕ). Puts (line ∷ []) c.put.result old new) (c.as_slice.ensures ∙ c.make_spread_line.ensures)
    (puts_last c.as_slice.result.now c.put.result new (PutsLines-none old) c.put.ensures.all c.put.ensures.front
    c.put.ensures.counted))

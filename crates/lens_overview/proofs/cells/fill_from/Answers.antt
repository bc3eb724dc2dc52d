use Rattle.lens_overview.{proofs.LawStrokes.fill_step, specs.declared.shade.Shade.{Shade, TheVariants.Blank}}
use Rattle.std.proofs.Common.{◌+◌, ◌++◌, ◌-◌, ◌∙◌, ◌≡◌, List, ap, arith, drop, replicate, set, take, ℕ}
use Rattle.lens_overview.proofs.cells.fill_from.Goals as goal

pub cells-preserved : goal.cells-preserved
cells-preserved c =
    let cs = c.args.cells.now in
    let from = c.args.from in
    let p = c.cells.place in
    let shade = c.args.shade in
    let after = c.cells.auto.place in
    let more : (p - from) + 1 ≡ (p + 1) - from = omega (arith, after) in
    let sum : from + (p - from) ≡ p = omega (arith, after) in
    ap (λ (xs : List Shade). set xs p shade) c.cells.invariant
    ∙ fill_step cs from (p - from) p shade Blank sum c.cells-test.true
    ∙ ap (λ (n : ℕ). take from cs ++ (replicate n shade ++ drop (p + 1) cs)) more

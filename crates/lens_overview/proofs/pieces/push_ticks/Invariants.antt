use Rattle.lens_overview.specs.{Grids.pen_at, Ranges.each_below, declared.pieces.Piece.TheVariants.Tick}
use Rattle.std.proofs.Common.{◌*◌, ◌+◌, ◌++◌, ◌≡◌}
use Rattle.lens_overview.proofs.pieces.push_ticks.Given as goal

abbrev pub invariant-ticks : goal.invariant-ticks
invariant-ticks l = l.pieces.items ≡ l.fn.pieces.items ++ each_below (λ n. Tick (pen_at l.grid (l.stride * n)) (l.bottom + 8)) l.tick

use Rattle.std.proofs.{Common.{◌∙◌, FitsSigned, pos, refl, rules, slice_index_or, subst, w64}, lemmas.Int.to_z-of_z}
use Rattle.compression.{proofs.Middles.{offset_at-within, offset_fits}, specs.Ascent.IsAscending}
use Rattle.compression.proofs.points.Points.offset.Goals as goal
use Rattle.std.proofs.Common.{arith}

pub overflow_sub-result : goal.overflow_sub-result
overflow_sub-result c =
    let point : FitsSigned w64 (slice_index_or c.deref-2.result.now c.args.i (pos 0)) = search rules in
    let first : FitsSigned w64 (slice_index_or c.deref.result.now 0 (pos 0)) = search rules in
    let up : IsAscending c.args.self.now = subst IsAscending c.self.view_is c.self.invariant.1 in
    rw (to_z-of_z, to_z-of_z, c.deref.ensures.0, c.deref-2.ensures.0, c.self.view_is)
    (offset_fits c.args.self.now c.args.i up c.requires.inside c.requires.near)

pub returns-clause-value : goal.returns-clause-value
returns-clause-value c =
    let point : FitsSigned w64 (slice_index_or c.deref-2.result.now c.args.i (pos 0)) = search rules in
    let first : FitsSigned w64 (slice_index_or c.deref.result.now 0 (pos 0)) = search rules in
    to_z-of_z w64 _ (overflow_sub-result c) ∙ rw (to_z-of_z, to_z-of_z, c.deref.ensures.0, c.deref-2.ensures.0, c.self.view_is) refl

pub returns-clause-low : goal.returns-clause-low
returns-clause-low c =
    search (arith, returns-clause-value, offset_at-within)

pub returns-clause-high : goal.returns-clause-high
returns-clause-high c =
    let up : IsAscending c.args.self.now = subst IsAscending c.self.view_is c.self.invariant.1 in
    rw (returns-clause-value c) ((offset_at-within c.args.self.now c.args.i up c.requires.inside).1)

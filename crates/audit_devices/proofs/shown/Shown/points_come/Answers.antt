use Rattle.audit_devices.proofs.Kept.{has_passed, le_denied, not_come, then_comes}
use Rattle.audit_devices.proofs.{Words.{◌+ℤ◌, ◌+◌, ◌≡◌, Shown, arith, points_by, pos, rules, subst, ℤ}}
use Rattle.audit_devices.proofs.shown.Shown.points_come.Goals.{else-self-first-via-else-self-first, else-self-first-via-then-self-first+else-first-local}
use Rattle.std.{proofs.{Common.{FitsSigned, of_z, to_z}, lemmas.Int.ints}, specs.{Int.w128, Prelude.{◌<ℤ◌, ◌≤ℤ◌}}}
use Rattle.tte_units.proofs.general_lemmas.Integers.{int_le-is, int_lt-is, not_less}
use Rattle.audit_devices.proofs.shown.Shown.points_come.Goals as goal

pub returns-then-first-local-clause-value : goal.returns-then-first-local-clause-value
returns-then-first-local-clause-value c =
    let network = c.args.network.now in
    let before = c.args.before in
    let first = c.correction_value-first.result in
    let least = c.correction_value-first.ensures.low in
    let far = c.correction_value-first.ensures.far in
    let inside = c.self.inside in
    let old : Shown = record {
      state = inside.state;
      adjustment = inside.adjustment;
      cycle = inside.cycle;
      integrated = inside.integrated;
      changed = inside.changed;
      at_change = inside.at_change;
      joined = inside.joined;
      heard = inside.heard;
      come = inside.come;
    } in
    let fits : FitsSigned w128 c.self.inside.at_change = search rules in
    let bounds = c.self.invariant in
    let changed : ℤ = to_z w128 (of_z w128 inside.at_change) in
    let begin : ℤ = to_z w128 (of_z w128 first) in
    let local : ℤ = to_z w128 (of_z w128 (to_z w128 (of_z w128 c.from.result) +ℤ to_z w128 (of_z w128 inside.adjustment))) in
    let lt = int_lt-is changed begin c.if-self-first.true in
    let le = int_le-is begin local c.if-first-local.true in
    let below : c.self.inside.at_change <ℤ first = omega (arith, ints, lt, least, far.most, fits.sfits) in
    let reached : first ≤ℤ (pos before +ℤ c.self.inside.adjustment) =
    omega (arith, ints, le, least, far.most, c.ranges.before.fits, c.from.ensures, bounds.least, bounds.most) in
    subst (λ x. c.cycles_in.result + 1 ≡ points_by network x before) c.self.view_is
    (then_comes network old before first _ c.cycles_in.result c.correction_value-first.ensures.value below reached
    (omega (arith, ints, reached, least, c.ranges.before.fits, c.from.ensures, bounds.least, bounds.most)) c.cycles_in.ensures.value)

pub returns-else-self-first-clause-value : goal.returns-else-self-first-clause-value
returns-else-self-first-clause-value c =
    let network = c.args.network.now in
    let before = c.args.before in
    let first = c.correction_value-first.result in
    let least = c.correction_value-first.ensures.low in
    let far = c.correction_value-first.ensures.far in
    let inside = c.self.inside in
    let old : Shown = record {
      state = inside.state;
      adjustment = inside.adjustment;
      cycle = inside.cycle;
      integrated = inside.integrated;
      changed = inside.changed;
      at_change = inside.at_change;
      joined = inside.joined;
      heard = inside.heard;
      come = inside.come;
    } in
    let bounds = c.self.invariant in
    let changed : ℤ = to_z w128 (of_z w128 inside.at_change) in
    let begin : ℤ = to_z w128 (of_z w128 first) in
    let local : ℤ = to_z w128 (of_z w128 (to_z w128 (of_z w128 c.from.result) +ℤ to_z w128 (of_z w128 inside.adjustment))) in
    let fits : FitsSigned w128 c.self.inside.at_change = search rules in
    subst (λ x. 0 ≡ points_by network x before) c.self.view_is
    (elim c.else-self-first.branch [
      | else-self-first-via-then-self-first+else-first-local w ↦
          let lt = le_denied begin local w.if-first-local.false in
          let below : (pos before +ℤ c.self.inside.adjustment) <ℤ first =
          omega (arith, ints, lt, least, far.most, c.ranges.before.fits, c.from.ensures, bounds.least, bounds.most) in
          not_come network old before first c.correction_value-first.ensures.value below
      | else-self-first-via-else-self-first w ↦
          let le = not_less changed begin w.if-self-first.false in
          let passed : first ≤ℤ c.self.inside.at_change = omega (arith, ints, le, least, far.most, fits.sfits) in
          has_passed network old before first c.correction_value-first.ensures.value passed
    ])

use Rattle.end_system.proofs.{Ripe.{next_correction, passed_correction}}
use Rattle.end_system.proofs.{Words.{◌-ℤ◌, ◌∙◌, ◌≡◌, Units, arith, ints, pos, subst, sym}}
use Rattle.end_system.proofs.agenda.correction_behind.Goals as goal

pub returns-then-local-value : goal.returns-then-local-value
returns-then-local-value c = λ network device is.
    next_correction network device c.args.own.now c.args.sync.now c.args.local.0 _ c.correction_value-value.result is
    (sym c.next_correction.ensures ∙ c.in_ok-cycle.was) c.correction_value-value.ensures.value
    (omega (arith, ints, c.if-local-value.true, c.correction_value-value.ensures.fits))
    (subst (λ (u : Units). c.reading_at.result.0 ≡ (pos c.correction_value-value.result -ℤ u.0)) c.adjustment.ensures c.reading_at.ensures)

pub returns-else-local-value : goal.returns-else-local-value
returns-else-local-value c = λ network device is.
    passed_correction network device c.args.own.now c.args.sync.now c.args.local.0 c.in_ok-cycle.cycle c.correction_value-value.result is
    (sym c.next_correction.ensures ∙ c.in_ok-cycle.was) c.correction_value-value.ensures.value
    (omega (arith, ints, c.if-local-value.false, c.correction_value-value.ensures.fits))

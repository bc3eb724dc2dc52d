use Rattle.audit_sweep.proofs.unpaid_lemmas.points_lemmas.Words.{◌∙◌, HasRecordAt, Integrating, Units, false≢true, inl, inr, pos, subst, sym}
use Rattle.run_law.specs.declared.judgement.Why.TheVariants.{SyncClique}
use Rattle.audit_sweep.proofs.unpaid_lemmas.points_lemmas.Telling.{corrected_there, left_there, told_at}
use Rattle.audit_sweep.proofs.unpaid.points.correcting.is_told.Goals as goal

pub returns-then-has : goal.returns-then-has
returns-then-has c s hs cycle are founded =
    let none : Units = record { 0 = pos 0 } in
    let place = c.of_correction.ensures 0 0 none none in
    let there = c.has.ensures hs are in (
      λ told. corrected_there s hs c.args.device c.args.time cycle c.of_correction.result place (there.0 c.if-has.true),
      λ told. c.if-has.true,
    )

pub returns-else-has : goal.returns-else-has
returns-else-has c s hs cycle are founded =
    let none : Units = record { 0 = pos 0 } in
    let first = c.of_correction.ensures 0 0 none none in
    let second = c.of_clique.ensures 0 Integrating SyncClique in
    let there = c.has.ensures hs are in
    let other = c.has-else-has.ensures hs are in (
      λ told. left_there s hs c.args.device c.args.time cycle c.of_clique.result founded second (other.0 told),
      λ told. elim (told_at s hs c.args.device c.args.time cycle founded told) [
        | inl e ↦ absurd (false≢true (sym c.if-has.false ∙ there.1 (subst (HasRecordAt hs) (sym first) e)))
        | inr e ↦ other.1 (subst (HasRecordAt hs) (sym second) e)
      ],
    )

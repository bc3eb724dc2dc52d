use Rattle.audit_sweep.proofs.Words.{inl, inr, refl}
use Rattle.audit_sweep.proofs.ending.is_dropped.Goals as goal

pub returns-then-drops : goal.returns-then-drops
returns-then-drops c befallen hs k = (λ held. inr (inl ((c.drops.ensures befallen hs k).0 c.if-drops.true)), λ y. refl)

pub returns : goal.returns
returns c befallen hs k =
    let a = c.arrives_as.ensures befallen hs k in
    let d = c.drops.ensures befallen hs k in
    let o = c.is_too_old.ensures befallen hs k in (
      λ held. inr (inr (o.0 held)),
      λ y. elim y [
        | inl x ↦ let held = a.1 x in let not_held = c.if-arrives_as.false in absurd cc
        | inr more ↦ elim more [
          | inl x ↦ let held = d.1 x in let not_held = c.if-drops.false in absurd cc
          | inr x ↦ o.1 x
        ]
      ],
    )

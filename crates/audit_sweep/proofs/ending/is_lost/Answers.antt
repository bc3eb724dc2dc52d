use Rattle.audit_sweep.proofs.Words.{inl, inr}
use Rattle.audit_sweep.proofs.ending.is_lost.Goals as goal

pub returns : goal.returns
returns c befallen hs k x =
    let d = c.departs.ensures befallen hs k in
    let l = c.is_send_lost.ensures befallen hs k in (
      λ held. inr (inr (l.0 held)),
      λ y. elim y [
        | inl a ↦ let held = d.1 a in let not_held = c.if-departs.false in absurd cc
        | inr more ↦ elim more [
          | inl b ↦ let held = x.1 b in let not_held = c.if-dispatched.false in absurd cc
          | inr lost ↦ l.1 lost
        ]
      ],
    )

use Rattle.audit_sweep.proofs.{Lacks.of_its_network, Words.{◌++◌, ◌∷◌, IsSwept, [], happening, subst}}
use Rattle.audit_sweep.{specs.Sweeping.IsSoundUpTo}
use Rattle.audit_sweep.proofs.sweep.Sweep.take.Goals as goal

pub push-requires-clause-judgeable : goal.push-requires-clause-judgeable
push-requires-clause-judgeable c = c.in-Some.ensures.judgeable

pub returns-in-Ok : goal.returns-in-Ok
returns-in-Ok c network befallen end hs w b =
    let here = of_its_network w in
    subst (λ n. IsSwept n befallen end (hs ++ happening n hs c.args.note.now ∷ []) c.push.new.self) w.of_network
    (c.in-Ok.ensures befallen end hs here (c.in-Some.ensures.sound befallen end hs here b))

pub returns-in-None : goal.returns-in-None
returns-in-None c network befallen end hs w b =
    subst (λ n. IsSoundUpTo n befallen end hs c.args.note.now → ⊥) w.of_network
    (c.in-None.ensures.sound befallen end hs (of_its_network w) b)

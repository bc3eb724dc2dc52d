use Rattle.std.proofs.{Common.refl, lemmas.Bool.eq-eqb}
use Rattle.audit_law.proofs.collections.kept.KeptCluster.role.Goals as goal

pub returns-then-has : goal.returns-then-has
returns-then-has c = λ counted. rw (eq-eqb c.args.cycle c.args.self.now.cycle c.if-cycle-self.false, ← c.has.ensures counted, c.if-has.true) refl

pub returns-else-has : goal.returns-else-has
returns-else-has c = λ counted. rw (eq-eqb c.args.cycle c.args.self.now.cycle c.if-cycle-self.false, ← c.has.ensures counted, c.if-has.false) refl

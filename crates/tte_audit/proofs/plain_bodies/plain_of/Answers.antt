use Rattle.tte_audit.{proofs.{Telling.{none_clock, none_compressed}, Words.subst}, specs.Kinds.Tells}
use Rattle.tte_audit.proofs.plain_bodies.plain_of.Goals as goal

pub returns-in-Compressed-clause-is : goal.returns-in-Compressed-clause-is
returns-in-Compressed-clause-is c p t none =
    none_compressed c.args.network.now c.args.words.now
    (λ d opened at cycle m verdict h h1 h2 h3 h4 e. c.compressed.ensures.is d opened at cycle m verdict h h1 h2 h3 h4 e none)
    p (subst (λ k. Tells c.args.network.now k c.args.words.now p) c.in-Compressed.is t)

pub returns-in-Clock-clause-is : goal.returns-in-Clock-clause-is
returns-in-Clock-clause-is c p t none =
    none_clock c.args.network.now c.args.words.now (λ d reading adjustment last h h1 h2 e. c.clock.ensures.is d reading adjustment last h h1 h2 e none)
    p (subst (λ k. Tells c.args.network.now k c.args.words.now p) c.in-Clock.is t)

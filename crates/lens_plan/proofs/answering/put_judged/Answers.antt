use Rattle.lens_plan.specs.joining.Joined.{MeansPlanned}
use Rattle.{net_plan.specs.declared.network.Network.Network, std.{proofs.Common.{inl, inr, refl, rules, subst, ◌≤◌, length, List, ℕ}, specs.Prelude.codes}}
use Rattle.tte_forms.specs.{frames.Answer.file_limit, networks.Accepting.refused_answer}
use Rattle.lens_plan.proofs.answering.put_judged.Goals as goal

pub returns-in-Ok-false-clause-gives : goal.returns-in-Ok-false-clause-gives
returns-in-Ok-false-clause-gives g c =
    let fits = subst (λ o. length o ≤ file_limit) c.requires.joined c.requires.fits in
    let file = c.args.file.now in
    let not : ¬ MeansPlanned c.args.octets.now c.network.result.now c.args.messages.now = search rules in
    let never =
    subst (λ (n : Network). ¬ MeansPlanned c.args.octets.now n c.args.messages.now) c.network.ensures.value not in
    let refused = subst (λ (o : List ℕ). ¬ MeansPlanned o file.accepted c.args.messages.now) c.requires.joined never in
    inl (refused_answer (codes "closed"), inr (inl (fits, refused, refl)), c.put_last.ensures.gives)

use Rattle.lens_plan.proofs.Plans.{plan_accepted, plan_refused}
use Rattle.std.proofs.Common.{◌≡◌, List, inr, subst, ℕ}
use Rattle.tte_forms.{proofs.Octets.for_more, specs.{Putting.shown_by, networks.Accepting.MeansAccepted}}
use Rattle.lens_plan.proofs.answering.plan_of_network.Goals as goal

pub returns-in-Ok-clause-general : goal.returns-in-Ok-clause-general
returns-in-Ok-clause-general g c =
    let shown = shown_by g.K.Sink in
    plan_accepted (g.A.Source.left c.args.first.now) (g.B.Source.left c.args.second.now) c.plan_of_accepted.result (shown c.args.out.now)
    (shown c.plan_of_accepted.new.out) c.in-Ok.file c.in-Ok.ensures.accepted c.in-Ok.ensures.octets c.plan_of_accepted.ensures.gives

pub returns-in-Err-clause-general : goal.returns-in-Err-clause-general
returns-in-Err-clause-general g c =
    let shown = shown_by g.K.Sink in
    plan_refused (g.A.Source.left c.args.first.now) (g.B.Source.left c.args.second.now) c.put_no_network.result (shown c.args.out.now)
    (shown c.put_no_network.new.out) c.in-Err.cause c.in-Err.ensures.none c.put_no_network.ensures.gives c.put_no_network.ensures.unput

-- the network is accepted, so the messages may have been read
pub returns-in-Ok-clause-takes : goal.returns-in-Ok-clause-takes
returns-in-Ok-clause-takes g c =
    let file = c.in-Ok.file in
    let means = for_more (g.A.Source.left c.args.first.now) (λ (octets : List ℕ). file.octets ≡ octets) (λ octets. MeansAccepted octets file.accepted)
    (λ octets same. subst (λ o. MeansAccepted o file.accepted) same c.in-Ok.ensures.accepted) c.in-Ok.ensures.octets in
    (c.in-Ok.ensures.taken, inr (file.accepted, means, c.plan_of_accepted.ensures.taken))

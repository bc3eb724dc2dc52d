use Rattle.net_plan.specs.Bearers.{HasNoBearer, link_names}
use Rattle.tte_forms.{proofs.Puts.Ends-gives, specs.declared.status.Status.TheVariants.NameRefused}
use Rattle.tte_observers.proofs.captures_lemmas.wires_lemmas.Along.{named_given, nameless_given}
use Rattle.tte_observers.proofs.captures_lemmas.wires_lemmas.Words.{IsNamed, Network, PutsLines-none, [], inl, inr, shown_by, subst}
use Rattle.tte_observers.proofs.captures.wires.running.wire_network.Goals as goal

pub returns-in-Some-clause-general : goal.returns-in-Some-clause-general
returns-in-Some-clause-general g c =
    let shown = shown_by g.K.Sink in
    let named = subst (λ n. IsNamed n c.args.link.now c.in-Some.link) c.network.ensures.value c.in-Some.ensures.first in
    named_given c.args.link.now c.args.way (g.B.Source.left c.args.second.now) c.args.accepted.now c.in-Some.link c.wire_link.result (shown c.args.out.now)
    (shown c.wire_link.new.out) c.requires named c.wire_link.ensures.general

pub returns-in-None-clause-general : goal.returns-in-None-clause-general
returns-in-None-clause-general g c =
    let shown = shown_by g.K.Sink in
    nameless_given c.args.link.now c.args.way (g.B.Source.left c.args.second.now) c.args.accepted.now c.end_with.result
    (subst (λ (n : Network). HasNoBearer (link_names n.link) c.args.link.now) c.network.ensures.value c.in-None.ensures.none)
    (Ends-gives NameRefused c.end_with.result (shown c.end_with.new.out)
    (PutsLines-none (shown c.args.out.now)) c.end_with.ensures.ends)

pub returns-in-Some-clause-read : goal.returns-in-Some-clause-read
returns-in-Some-clause-read g c is = (
  c.in-Some.link,
  subst (λ n. IsNamed n c.args.link.now c.in-Some.link) c.network.ensures.value c.in-Some.ensures.first,
  c.wire_link.ensures.read is,
)

pub returns-in-Some-clause-little : goal.returns-in-Some-clause-little
returns-in-Some-clause-little g c =
    let named = subst (λ n. IsNamed n c.args.link.now c.in-Some.link) c.network.ensures.value c.in-Some.ensures.first in
    elim c.wire_link.ensures.little [
      | inl same ↦ inl same
      | inr some ↦ inr (c.in-Some.link, named, some)
    ]

use Rattle.lens_plan.{proofs.Plans.{messages_given, messages_refused}, specs.messages.Message.Message}
use Rattle.net_plan.specs.declared.network.Network.{Network}
use Rattle.lens_plan.specs.{Answer.{IsPlanOf, MeansMessages}, Reading.IsNoMessages, places.Fitting.IsAsked}
use Rattle.std.{proofs.Common.{List, subst, sym}, specs.List.All}
use Rattle.tte_forms.specs.{Answering.{ForOctets, GivesAnswer}, Putting.shown_by}
use Rattle.lens_plan.proofs.answering.plan_of_accepted.Goals as goal

pub plan_of_messages-requires : goal.plan_of_messages-requires
plan_of_messages-requires g c =
    subst (λ n. All (IsAsked n) c.as_slice.result.now) c.network.ensures.value
    (subst (λ (ms : List Message). All (IsAsked c.network.result.now) ms) (sym c.as_slice.ensures.value) c.in-Ok.ensures.asked)

pub returns-in-Ok-clause-gives : goal.returns-in-Ok-clause-gives
returns-in-Ok-clause-gives g c =
    let shown = shown_by g.K.Sink in
    let left = g.B.Source.left c.args.second.now in
    let read = subst (λ (n : Network). ForOctets left (λ text. MeansMessages n text c.in-Ok.messages.items)) c.network.ensures.value c.in-Ok.ensures.read in
    let given =
    subst (λ ms. GivesAnswer (IsPlanOf c.args.file.now.octets c.args.file.now.accepted ms) c.plan_of_messages.result (shown c.args.out.now)
    (shown c.plan_of_messages.new.out)) c.as_slice.ensures.value c.plan_of_messages.ensures.gives in
    messages_given c.args.file.now.octets c.args.file.now.accepted c.plan_of_messages.result (shown c.args.out.now) (shown c.plan_of_messages.new.out) left
    c.in-Ok.messages.items read given

pub returns-in-Err-clause-gives : goal.returns-in-Err-clause-gives
returns-in-Err-clause-gives g c =
    let shown = shown_by g.K.Sink in
    let left = g.B.Source.left c.args.second.now in
    let none = subst (λ (n : Network). ForOctets left (λ text. IsNoMessages n text c.in-Err.cause)) c.network.ensures.value c.in-Err.ensures.none in
    messages_refused c.args.file.now.octets c.args.file.now.accepted c.put_no_messages.result (shown c.args.out.now) (shown c.put_no_messages.new.out) left
    c.in-Err.cause none c.put_no_messages.ensures.gives c.put_no_messages.ensures.unput

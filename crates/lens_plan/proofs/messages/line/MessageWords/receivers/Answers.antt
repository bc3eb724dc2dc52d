use Rattle.{net_plan.specs.Places.IsEndSystem, std.{proofs.lemmas.List.Elements.{All-append, All-cons, All-nil}, specs.List.All}}
use Rattle.lens_plan.{proofs.Askable.{receivers_first, receivers_next, receivers_stop}}
use Rattle.lens_plan.{specs.messages.Reading.{receiver, receivers}}
use Rattle.std.proofs.{Common.{◌∙◌, ◌∷◌, ◌≡◌, Err, Ok, [], ap, subst, sym}, lemmas.Bool.false≢true}
use Rattle.lens_plan.proofs.messages.line.MessageWords.receivers.Goals as goal

pub receivers-init : goal.receivers-init
receivers-init c = record {
  read =
      receivers_first c.args.network.now c.args.sender c.args.self.now (λ none. false≢true (c.if-is_ended.ensures.1 none))
      ∙ ap (λ ds. receivers c.args.network.now c.args.sender ds c.args.self.now) (sym c.new-receivers.ensures.items);
  ends = subst (All (IsEndSystem c.args.network.now)) (sym c.new-receivers.ensures.items) (All-nil (IsEndSystem c.args.network.now));
}

pub receivers-smaller : goal.receivers-smaller
receivers-smaller c =
    let read = subst (λ ds. receiver c.args.network.now c.args.sender ds c.receivers.self ≡ Ok (c.in-Ok.device, c.receiver.new.self))
    c.as_slice.ensures.value c.in-Ok.ensures.value in
    (receivers_next c.args.network.now c.args.sender c.receivers.receivers.items c.receivers.self c.receiver.new.self c.in-Ok.device read).fewer

pub receivers-preserved : goal.receivers-preserved
receivers-preserved c =
    let read = subst (λ ds. receiver c.args.network.now c.args.sender ds c.receivers.self ≡ Ok (c.in-Ok.device, c.receiver.new.self))
    c.as_slice.ensures.value c.in-Ok.ensures.value in
    let next = receivers_next c.args.network.now c.args.sender c.receivers.receivers.items c.receivers.self c.receiver.new.self c.in-Ok.device read in
    record {
      read =
          c.receivers.invariant.read ∙ next.same
          ∙ ap (λ ds. receivers c.args.network.now c.args.sender ds c.receiver.new.self) (sym c.in-Ok-push.ensures.items);
      ends = subst (All (IsEndSystem c.args.network.now)) (sym c.in-Ok-push.ensures.items)
          (All-append (IsEndSystem c.args.network.now) c.receivers.receivers.items (c.in-Ok.device ∷ []) c.receivers.invariant.ends
          (All-cons (IsEndSystem c.args.network.now) c.in-Ok.device [] c.in-Ok.ensures.ends (All-nil (IsEndSystem c.args.network.now))));
    }

pub returns-in-Err-clause-fault : goal.returns-in-Err-clause-fault
returns-in-Err-clause-fault c =
    c.receivers.invariant.read
    ∙ receivers_stop c.args.network.now c.args.sender c.receivers.receivers.items c.receivers.self c.in-Err.refusal
    (λ none. false≢true (c.if-is_ended-2.ensures.1 none))
    (subst (λ ds. receiver c.args.network.now c.args.sender ds c.receivers.self ≡ Err c.in-Err.refusal) c.as_slice.ensures.value
    c.in-Err.ensures.value)

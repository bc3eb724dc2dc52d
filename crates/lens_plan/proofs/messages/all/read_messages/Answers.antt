use Rattle.{lens_plan.specs.places.Fitting.IsAsked, std.{proofs.lemmas.List.Elements.{All-append, All-cons, All-nil}, specs.List.All}}
use Rattle.lens_plan.proofs.Plans
use Plans.{fault_there, few_lines, no_more, one_more, passed, read_fault, read_message, refused_there, too_long}
use Rattle.lens_plan.specs.messages.{Lines.{AreNoMessages, messages_from, messages_read}, Message.Message, Reading.message_reader}
use Rattle.std.proofs.Common.{◌+◌, ◌∙◌, ◌∷◌, ◌≡◌, Err, Ok, [], ap, arith, length, subst, sym}
use Rattle.trace_text.specs.Steps.{words}
use Rattle.lens_plan.proofs.messages.all.read_messages.Goals as goal

pub lines-init : goal.lines-init
lines-init c = record {
  read =
      ap (λ ls. messages_from c.args.network.now 1 [] ls) (sym c.of-lines.ensures)
      ∙ ap (λ ms. messages_from c.args.network.now 1 ms c.of-lines.result) (sym c.new-messages.ensures.items);
  asked = subst (All (IsAsked c.args.network.now)) (sym c.new-messages.ensures.items) (All-nil (IsAsked c.args.network.now));
  few = let few = few_lines c.args.text.now in omega (arith, few, ap length c.of-lines.ensures);
}

pub returns-in_default-clause-read : goal.returns-in_default-clause-read
returns-in_default-clause-read c =
    c.lines.invariant.read ∙ no_more c.args.network.now (c.lines.number + 1) c.lines.messages.items c.lines.lines c.in_default.ensures.0

pub returns-then-line-gt-LINE_LIMIT-clause-none : goal.returns-then-line-gt-LINE_LIMIT-clause-none
returns-then-line-gt-LINE_LIMIT-clause-none c =
    subst (AreNoMessages (messages_read c.args.network.now c.args.text.now)) (sym c.fault_at.ensures)
    (c.lines.invariant.read ∙ ap (messages_from c.args.network.now (c.lines.number + 1) c.lines.messages.items) c.in-Some.ensures
    ∙ too_long c.args.network.now (c.lines.number + 1) c.lines.messages.items c.in-Some.line.now c.next_line.new.self c.if-line-gt-LINE_LIMIT.true)

pub lines-preserved-then-is_passed : goal.lines-preserved-then-is_passed
lines-preserved-then-is_passed c = record {
  read =
      c.lines.invariant.read ∙ ap (messages_from c.args.network.now (c.lines.number + 1) c.lines.messages.items) c.in-Some.ensures
      ∙ passed c.args.network.now (c.lines.number + 1) c.lines.messages.items c.in-Some.line.now c.next_line.new.self
      c.if-line-gt-LINE_LIMIT.false (sym c.if-is_passed.ensures);
  asked = c.lines.invariant.asked;
  few = let few = c.lines.invariant.few in omega (arith, few, ap length c.in-Some.ensures);
}

pub returns-in-Err-clause-none : goal.returns-in-Err-clause-none
returns-in-Err-clause-none c =
    let network = c.args.network.now in
    let line = c.in-Some.line.now in
    let earlier = c.lines.messages.items in
    fault_there (message_reader network c.as_slice.result.now (words line)) (messages_read network c.args.text.now) (c.lines.number + 1) c.in-Err.fault
    c.fault_at-in-Err.result c.fault_at-in-Err.ensures
    (λ f read.
    let told = subst (λ ms. message_reader network ms (words line) ≡ Err f) c.as_slice.ensures.value read in
    c.lines.invariant.read ∙ ap (messages_from network (c.lines.number + 1) earlier) c.in-Some.ensures
    ∙ refused_there network (c.lines.number + 1) earlier line c.next_line.new.self f c.if-line-gt-LINE_LIMIT.false (sym c.if-is_passed.ensures)
    (read_fault network earlier line f told))
    c.in-Err.ensures.fault

pub lines-preserved : goal.lines-preserved
lines-preserved c = record {
  read =
      c.lines.invariant.read ∙ ap (messages_from c.args.network.now (c.lines.number + 1) c.lines.messages.items) c.in-Some.ensures
      ∙ one_more c.args.network.now (c.lines.number + 1) c.lines.messages.items c.in-Some.line.now c.next_line.new.self c.in-Ok.message
      c.if-line-gt-LINE_LIMIT.false (sym c.if-is_passed.ensures)
      (read_message c.args.network.now c.lines.messages.items c.in-Some.line.now c.in-Ok.message c.in-Ok.ensures.read.0
      (subst (λ ms. message_reader c.args.network.now ms (words c.in-Some.line.now) ≡ Ok (c.in-Ok.message, c.in-Ok.ensures.read.0))
      c.as_slice.ensures.value c.in-Ok.ensures.read.1))
      ∙ ap (λ ms. messages_from c.args.network.now (c.lines.number + 1 + 1) ms c.next_line.new.self) (sym c.in-Ok-push.ensures.items);
  asked = subst (All (IsAsked c.args.network.now)) (sym c.in-Ok-push.ensures.items)
      (All-append (IsAsked c.args.network.now) c.lines.messages.items (c.in-Ok.message ∷ []) c.lines.invariant.asked
      (All-cons (IsAsked c.args.network.now) c.in-Ok.message [] c.in-Ok.ensures.asked (All-nil (IsAsked c.args.network.now))));
  few = let few = c.lines.invariant.few in omega (arith, few, ap length c.in-Some.ensures);
}

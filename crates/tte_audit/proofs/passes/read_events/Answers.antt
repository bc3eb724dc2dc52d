use Rattle.tte_audit.proofs.Words.{◌++◌, ◌+◌, ◌∷◌, ◌≡◌, AreTold, BeginsWith, [], arith, length, length-append, rules, subst, sym}
use Rattle.tte_audit.{proofs.ReportText.{begins_more, begins_none, no_octets_left, shorter}, specs.Telling.IsLineTold}
use Rattle.tte_audit.proofs.passes.read_events.Goals as goal

pub lines-init : goal.lines-init
lines-init c = record {
  begun = ([], begins_none c.args.accepted.now c.args.report.now, c.in-Ok.ensures);
  few = let told = c.in-Ok.ensures in omega (arith, told.counted);
}

pub take_line-requires-clause-told : goal.take_line-requires-clause-told
take_line-requires-clause-told c =
    let old = c.lines.invariant.begun in
    (old.0, subst (λ n. AreTold n old.0 c.lines.told) (sym c.named_network-network.ensures.value) old.2)

pub lines-preserved : goal.lines-preserved
lines-preserved c =
    let network = c.args.accepted.now in
    let left = c.in-Ok-take_line.left.now in
    let old = c.lines.invariant.begun in
    let line = subst (λ n. IsLineTold n c.lines.told c.take_line.new.self c.lines.rest.now c.take_line.result) c.named_network-network.ensures.value
    c.take_line.ensures in
    let h = subst (λ r. IsLineTold network c.lines.told c.take_line.new.self c.lines.rest.now r) c.in-Ok-take_line.is line in
    let note = h.0 in
    let next : note.number ≡ length old.0 + 1 = omega (arith, h.1.numbered, old.2.counted) in
    let more = h.2 old.0 old.2 in
    let less = shorter h.1.begins in
    record {
      begun = (old.0 ++ note ∷ [], begins_more old.1 h.1.begins next, more);
      few = omega (arith, less, c.lines.invariant.few, more.counted, old.2.counted, length-append old.0 (note ∷ []));
    }

pub returns-in-Ok-end-clause-judged : goal.returns-in-Ok-end-clause-judged
returns-in-Ok-end-clause-judged c =
    let network = c.args.accepted.now in
    let old = c.lines.invariant.begun in
    let empty : length c.lines.rest.now ≡ 0 = search rules in
    let read = c.in-Ok-end.ensures network old.0 old.2 in (
      old.0,
      record {
        of = record {
          text = subst (λ rest. BeginsWith network c.args.report.now old.0 rest) (no_octets_left c.lines.rest.now empty) old.1;
          right = read.0.right;
          ends = read.1;
        };
        records = old.2.counted;
        history = read.0.follows.remembers;
      },
    )

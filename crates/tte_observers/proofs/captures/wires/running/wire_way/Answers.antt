use Rattle.tte_observers.proofs.captures_lemmas.wires_lemmas.{Seen.seen_first, Words.told_by}
use Rattle.tte_traces.proofs.Ends.{no_memory}
use Rattle.tte_observers.proofs.captures_lemmas.wires_lemmas.Words.{HasLink, IsCapture, LinkId, RunEnds, Way, refl, settled_lines, shown_by, subst, sym}
use Rattle.tte_observers.proofs.captures.wires.running.wire_way.Goals as goal

pub follow_way-requires-clause-seen : goal.follow_way-requires-clause-seen
follow_way-requires-clause-seen g c =
    let begun = c.new-capture in
    seen_first c.args.accepted.now (told_by g.K.Sink c.args.out.now) begun.result
    (subst (λ l. HasLink c.args.accepted.now l) (sym begun.ensures.link) c.requires) begun.ensures.open begun.ensures.first begun.ensures.none

pub returns-in-Ok-clause-ends : goal.returns-in-Ok-clause-ends
returns-in-Ok-clause-ends g c =
    let shown = shown_by g.K.Sink in
    let left = g.B.Source.left in
    let begun = c.new-capture in
    let n = c.args.accepted.now in
    subst (λ (w : Way). RunEnds (λ trace. IsCapture c.args.link w trace n) (settled_lines c.args.link w) n (left c.args.second.now)
    (left c.follow_way.new.second) c.follow_way.result (shown c.args.out.now) (shown c.follow_way.new.out)) begun.ensures.way
    (subst (λ (l : LinkId). RunEnds (λ trace. IsCapture l begun.result.way trace n) (settled_lines l begun.result.way) n (left c.args.second.now)
    (left c.follow_way.new.second) c.follow_way.result (shown c.args.out.now) (shown c.follow_way.new.out)) begun.ensures.link c.follow_way.ensures.ends)

pub returns-in-Err-clause-ends : goal.returns-in-Err-clause-ends
returns-in-Err-clause-ends g c =
    let n = c.args.accepted.now in
    no_memory (λ trace. IsCapture c.args.link c.args.way trace n) (settled_lines c.args.link c.args.way) n (g.B.Source.left c.args.second.now) _ refl

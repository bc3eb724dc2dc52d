use Rattle.std.proofs.Common.{◌↔◌}
use Rattle.fault_hypothesis.specs.{Watching.Watches, declared.watch.Watch.Watch}
use Rattle.tte_traces.proofs.Admitted.{event_as, more_followed}
use Rattle.tte_traces.proofs.{Words.{◌∙◌, ◌≡◌, End, Err, IsOfNetwork, Network, Ok, refl, subst, sym, true}, lines.Trace.take_line.Goals.{in-End, in_default}}
use Rattle.tte_traces.specs.Lines.{HasEvent}
use Rattle.tte_traces.proofs.lines.Trace.take_line.Goals as goal

pub returns-in-Some-clause-judged : goal.returns-in-Some-clause-judged
returns-in-Some-clause-judged c network events rest f found = (c.in-Some.ensures.fault network events rest f found.0, f)

pub returns-in-Err-clause-judged : goal.returns-in-Err-clause-judged
returns-in-Err-clause-judged c network events rest f found =
    let over = c.network-network.ensures.value ∙ f.over in
    let read = event_as network _ _ c.text.result.now _ (Err c.in-Err.refusal) c.in-Err.ensures.value over c.text.ensures found.2 in
    ((c.in-None.ensures.fault network events rest f found.0, found.1, read), f)

pub returns-in-Err-admit-clause-judged : goal.returns-in-Err-admit-clause-judged
returns-in-Err-admit-clause-judged c network events rest f found =
    let over = c.network-network.ensures.value ∙ f.over in
    let has : HasEvent network events rest c.line_in.new.event = record {
      is_open = c.in-None.ensures.fault network events rest f found.0;
      short = found.1;
      read = event_as network _ _ c.text.result.now _ (Ok c.line_in.new.event) c.in-Ok.ensures.value over c.text.ensures found.2;
    } in
    let of_network = subst (λ n. IsOfNetwork n c.line_in.new.event.what) over c.in-Ok.ensures.of_network in (
      (c.line_in.new.event, has, c.in-Err-admit.ensures.judged network events f.watch of_network),
      record {
        over = f.over;
        watch = subst (λ w. Watches network w events) (sym c.in-Err-admit.ensures.unchanged) f.watch;
        lines = f.lines;
        number = f.number;
        ended = f.ended;
      },
    )

pub returns-clause-judged : goal.returns-clause-judged
returns-clause-judged c network events rest f found =
    let over = c.network-network.ensures.value ∙ f.over in
    let has : HasEvent network events rest c.line_in.new.event = record {
      is_open = c.in-None.ensures.fault network events rest f found.0;
      short = found.1;
      read = event_as network _ _ c.text.result.now _ (Ok c.line_in.new.event) c.in-Ok.ensures.value over c.text.ensures found.2;
    } in
    let of_network = subst (λ n. IsOfNetwork n c.line_in.new.event.what) over c.in-Ok.ensures.of_network in
    let admitted = c.in-Ok-admit.ensures.judged network events f.watch of_network in
    let ends : (c.match-matches.self ≡ true) ↔ (c.line_in.new.event.what ≡ End) = elim c.match-matches.branch [
      | in-End w ↦ (λ t. w.in-End.is, λ e. w.self-is)
      | in_default w ↦ (λ t. absurd cc, λ e. absurd (w.in_default.not-End e))
    ] in (
      record { has = has; within = admitted.0 },
      more_followed c.line_in.new.event _ f has.is_open.number refl admitted.1 refl has.is_open.unended ends,
    )

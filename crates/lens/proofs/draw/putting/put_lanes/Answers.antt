use Rattle.lens.{proofs.draw_lemmas.Marking.{places_fail, places_more}, specs.draw.Picture.some_line}
use Rattle.tte_forms.specs.Putting.{PutFails, PutsLines, shown_by}
use Rattle.{lens_svg.specs.Layers.on_lane}
use Rattle.std.proofs.Common.{◌<◌, ◌∙◌, length, subst}
use Rattle.lens.proofs.draw.putting.put_lanes.Goals as goal

pub lanes-preserved : goal.lanes-preserved
lanes-preserved g c =
    let shown = shown_by g.K.Sink in
    let network = c.args.network.now in
    let plan = c.args.sketch.now in
    let layer = c.args.layer in
    record {
      puts =
          places_more (λ place. some_line network (on_lane layer network plan place)) c.lanes.place
          c.lanes.invariant.puts
          (subst (λ e. PutsLines (some_line network e) (shown c.lanes.out) (shown c.put_some.new.out)) c.on_lane-element.ensures.value
          c.in-Ok.ensures.draws);
      quiet = c.in-Ok.ensures.faults ∙ c.lanes.invariant.quiet;
    }

pub returns-in-Err-clause-draws : goal.returns-in-Err-clause-draws
returns-in-Err-clause-draws g c =
    let shown = shown_by g.K.Sink in
    let network = c.args.network.now in
    let plan = c.args.sketch.now in
    let layer = c.args.layer in
    places_fail (λ place. some_line network (on_lane layer network plan place)) c.lanes.place (length network.device)
    (subst (λ ds. c.lanes.place < length ds) c.as_slice-place-end.ensures c.lanes-test.true) c.lanes.invariant.puts
    (subst (λ e. PutFails (some_line network e) (shown c.lanes.out) (shown c.put_some.new.out)) c.on_lane-element.ensures.value
    c.in-Err.ensures.draws)

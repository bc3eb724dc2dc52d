use Rattle.lens.{proofs.draw_lemmas.Marking.{flat_fails, flat_more}, specs.draw.Picture.{layer_lines, layers}}
use Rattle.{std.proofs.Common.◌∙◌, tte_forms.specs.Putting.shown_by}
use Rattle.lens.proofs.draw.putting.put_front.Goals as goal

pub layers-preserved : goal.layers-preserved
layers-preserved g c =
    let shown = shown_by g.K.Sink in
    record {
      puts =
          flat_more (λ layer. layer_lines c.args.network.now c.args.sketch.now c.args.windows.now c.args.clocks.now layer) layers c.layers.layer-index _
          (shown c.args.out.now)
          (shown c.layers.out) (shown c.put_layer.new.out) c.layers-test.true c.layers.invariant.puts c.in-Ok.ensures.draws;
      quiet = c.in-Ok.ensures.faults ∙ c.layers.invariant.quiet;
    }

pub returns-in-Err-clause-draws : goal.returns-in-Err-clause-draws
returns-in-Err-clause-draws g c =
    let shown = shown_by g.K.Sink in
    flat_fails (λ layer. layer_lines c.args.network.now c.args.sketch.now c.args.windows.now c.args.clocks.now layer) layers c.layers.layer-index _
    (shown c.args.out.now)
    (shown c.layers.out) (shown c.put_layer.new.out) c.layers-test.true c.layers.invariant.puts c.in-Err.ensures.draws

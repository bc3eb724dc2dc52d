use Rattle.lens.{proofs.draw_lemmas.Marking.{listed_fails, listed_more}, specs.draw.Picture.some_line}
use Rattle.tte_forms.specs.Putting.{PutFails, PutsLines, shown_by}
use Rattle.{lens_svg.specs.Clocks.gauge_of, std.proofs.Common.{◌∙◌, subst}}
use Rattle.lens.proofs.draw.putting.put_gauges.Goals as goal

pub clocks-preserved : goal.clocks-preserved
clocks-preserved g c =
    let shown = shown_by g.K.Sink in
    let network = c.args.network.now in
    let plan = c.args.sketch.now in
    let clocks = c.args.clocks.now in
    record {
      puts =
          listed_more (λ told. some_line network (gauge_of network plan clocks told)) clocks.told c.told-told.result.now c.told-told.ensures
          c.clocks.clock-index c.clocks-test.true _ (shown c.args.out.now) (shown c.clocks.out) (shown c.put_some.new.out) c.clocks.invariant.puts
          (subst (λ e. PutsLines (some_line network e) (shown c.clocks.out) (shown c.put_some.new.out)) c.gauge_of-element.ensures.value
          c.in-Ok.ensures.draws);
      quiet = c.in-Ok.ensures.faults ∙ c.clocks.invariant.quiet;
    }

pub returns-in-Err-clause-draws : goal.returns-in-Err-clause-draws
returns-in-Err-clause-draws g c =
    let shown = shown_by g.K.Sink in
    let network = c.args.network.now in
    let plan = c.args.sketch.now in
    let clocks = c.args.clocks.now in
    listed_fails (λ told. some_line network (gauge_of network plan clocks told)) clocks.told c.told-told.result.now c.told-told.ensures
    c.clocks.clock-index c.clocks-test.true _ (shown c.args.out.now) (shown c.clocks.out) (shown c.put_some.new.out) c.clocks.invariant.puts
    (subst (λ e. PutFails (some_line network e) (shown c.clocks.out) (shown c.put_some.new.out)) c.gauge_of-element.ensures.value
    c.in-Err.ensures.draws)

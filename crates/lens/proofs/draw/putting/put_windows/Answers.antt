use Rattle.std.proofs.Common.{◌∙◌}
use Rattle.lens.{proofs.draw_lemmas.Marking.{flat_fails, flat_more}, specs.draw.Picture.some_line}
use Rattle.tte_forms.specs.Putting.{shown_by}
use Rattle.lens_svg.specs.Windows.{box_of}
use Rattle.lens.proofs.draw.putting.put_windows.Goals as goal

pub frames-preserved : goal.frames-preserved
frames-preserved g c =
    let shown = shown_by g.K.Sink in
    record {
      puts =
          flat_more (λ came. some_line c.args.network.now (box_of came)) c.args.windows.now c.frames.came-index _ (shown c.args.out.now)
          (shown c.frames.out) (shown c.put_some.new.out) c.frames-test.true c.frames.invariant.puts c.in-Ok.ensures.draws;
      quiet = c.in-Ok.ensures.faults ∙ c.frames.invariant.quiet;
    }

pub returns-in-Err-clause-draws : goal.returns-in-Err-clause-draws
returns-in-Err-clause-draws g c =
    let shown = shown_by g.K.Sink in
    flat_fails (λ came. some_line c.args.network.now (box_of came)) c.args.windows.now c.frames.came-index _ (shown c.args.out.now)
    (shown c.frames.out) (shown c.put_some.new.out) c.frames-test.true c.frames.invariant.puts c.in-Err.ensures.draws

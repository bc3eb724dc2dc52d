use Rattle.std.proofs.Common.{◌∙◌, ap}
use Rattle.tte_forms.{proofs.Puts.{lines_fail, lines_more}, specs.Putting.shown_by}
use Rattle.tte_forms.proofs.each_line.put_each.Goals as goal

pub things-preserved : goal.things-preserved
things-preserved g c =
    let shown = shown_by g.K.Sink in
    let line_of = g.M.LineMaker.text c.args.maker.now in
    let line = c.as_slice.ensures ∙ c.make.ensures ∙ ap line_of c.thing-item.is in
    record {
      puts =
          lines_more line_of c.args.things.now c.things.thing-index _ c.as_slice.result.now c.things-test.true line
          (shown c.args.out.now) (shown c.things.out) (shown c.put.new.self)
          c.things.invariant.puts c.in-Ok.ensures.all c.put.ensures.counted;
      quiet = c.in-Ok.ensures.ok_unchanged ∙ c.things.invariant.quiet;
    }

pub returns-in-Err-clause-puts : goal.returns-in-Err-clause-puts
returns-in-Err-clause-puts g c =
    let shown = shown_by g.K.Sink in
    let line_of = g.M.LineMaker.text c.args.maker.now in
    let line = c.as_slice.ensures ∙ c.make.ensures ∙ ap line_of c.thing-item.is in
    lines_fail line_of c.args.things.now c.things.thing-index _ c.as_slice.result.now c.things-test.true line
    (shown c.args.out.now) (shown c.things.out) (shown c.put.new.self) c.things.invariant.puts c.in-Err.ensures.front c.put.ensures.counted

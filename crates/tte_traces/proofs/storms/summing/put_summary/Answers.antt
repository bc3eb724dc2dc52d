use Rattle.std.proofs.Common.{◌∙◌, Some, ap, arith, sym}
use Rattle.tte_forms.specs.Putting.{shown_by}
use Rattle.tte_traces.proofs.storms_lemmas.Summed.{lines_all, lines_fail, lines_more}
use Rattle.tte_traces.proofs.storms.summing.put_summary.Goals as goal

pub returns-in-Err-clause-gives : goal.returns-in-Err-clause-gives
returns-in-Err-clause-gives g c =
    let shown = shown_by g.K.Sink in
    lines_fail (shown c.put.new.self) c.as_slice.result.now
    c.lines.invariant.puts (c.make_line.ensures ∙ ap Some (sym c.as_slice.ensures)) c.in-Err.ensures.front c.put.ensures.counted

pub lines-preserved : goal.lines-preserved
lines-preserved g c =
    let shown = shown_by g.K.Sink in
    record {
      puts = lines_more (shown c.put.new.self) c.as_slice.result.now
          c.lines.invariant.puts (c.make_line.ensures ∙ ap Some (sym c.as_slice.ensures)) c.in-Ok.ensures.all c.put.ensures.counted;
      quiet = c.in-Ok.ensures.ok_unchanged ∙ c.lines.invariant.quiet;
    }

pub returns-clause-gives : goal.returns-clause-gives
returns-clause-gives g c =
    let shown = shown_by g.K.Sink in
    lines_all c.end_with.result (shown c.end_with.new.out)
    c.lines.invariant.puts (omega (arith, c.lines-test.false, c.lines.auto.number-end)) c.end_with.ensures.ends

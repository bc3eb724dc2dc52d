use Rattle.{std.proofs.Common.inl, tte_forms.specs.Putting.shown_by, tte_traces.specs.storms.summary.Lines.lines_of}
use Rattle.tte_forms.{proofs.{Puts.{PutsLines-none, PutsLines-still}, frames.Frames.Gives-behind}}
use Rattle.tte_forms.{specs.declared.status.Status.TheVariants.Done}
use Rattle.tte_traces.proofs.storms.storming.run_storm.Goals as goal

pub returns-in-Ok-clause-ends : goal.returns-in-Ok-clause-ends
returns-in-Ok-clause-ends g c =
    let shown = shown_by g.K.Sink in
    let old = shown c.args.out.now in
    let now = shown c.summary_of.new.out in
    inl (
      c.in-Ok.summary,
      c.in-Ok.ensures.sums,
      Gives-behind (record { status = Done; lines = lines_of c.in-Ok.summary }) c.put_summary.result
          (PutsLines-still now (PutsLines-none old) c.summary_of.ensures.nothing_put) c.put_summary.ensures.gives,
    )

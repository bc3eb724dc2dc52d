use Rattle.std.proofs.Common.{[], inl, inr, refl}
use Rattle.tte_forms.{proofs.Puts.{Ends-gives, PutsLines-fails, PutsLines-more, PutsLines-none}, specs.Putting.shown_by}
use Rattle.tte_forms.proofs.put_line.put_last.Goals as goal

pub returns-in-Ok-clause-gives : goal.returns-in-Ok-clause-gives
returns-in-Ok-clause-gives g c =
    let old = shown_by g.K.Sink c.args.out.now in
    let now = shown_by g.K.Sink c.put.new.self in
    let puts = PutsLines-more c.args.line.now now (PutsLines-none old) c.in-Ok.ensures.all c.put.ensures.counted in
    Ends-gives c.args.status c.end_with.result (shown_by g.K.Sink c.end_with.new.out) puts c.end_with.ensures.ends

pub returns-in-Err-clause-gives : goal.returns-in-Err-clause-gives
returns-in-Err-clause-gives g c =
    let old = shown_by g.K.Sink c.args.out.now in
    let new = shown_by g.K.Sink c.put.new.self in
    inr (inl (refl, inl (PutsLines-fails c.args.line.now [] new (PutsLines-none old) c.in-Err.ensures.front c.put.ensures.counted)))

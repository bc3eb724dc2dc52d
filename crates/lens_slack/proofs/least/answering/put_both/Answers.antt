use Rattle.std.proofs.Common.{◌∷◌, [], inl, inr, refl}
use Rattle.tte_forms.{proofs.{Puts.{PutsLines-fails, PutsLines-more, PutsLines-none}, frames.Frames.Gives-behind}}
use Rattle.tte_forms.{specs.{Answering.line_answer, Putting.shown_by}}
use Rattle.lens_slack.proofs.least.answering.put_both.Goals as goal

pub returns-in-Ok-clause-gives : goal.returns-in-Ok-clause-gives
returns-in-Ok-clause-gives g c =
    let shown = shown_by g.K.Sink in
    let old = shown c.args.out.now in
    let now = shown c.put.new.self in
    let puts = PutsLines-more c.args.first.now now (PutsLines-none old) c.in-Ok.ensures.all c.put.ensures.counted in
    Gives-behind (line_answer c.args.status c.args.behind.now) c.put_last.result puts c.put_last.ensures.gives

pub returns-in-Err-clause-gives : goal.returns-in-Err-clause-gives
returns-in-Err-clause-gives g c =
    let shown = shown_by g.K.Sink in
    let old = shown c.args.out.now in
    let now = shown c.put.new.self in
    let fails = PutsLines-fails c.args.first.now (c.args.behind.now ∷ []) now (PutsLines-none old)
    c.in-Err.ensures.front c.put.ensures.counted in
    inr (inl (refl, inl fails))

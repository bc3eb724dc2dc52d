use Rattle.std.proofs.Common.{◌∙◌, List, subst, sym, ℕ}
use Rattle.lens_why.proofs.Telling.{put_alone, put_both, put_half, put_none}
use Rattle.tte_forms.specs.Putting.{shown_by}
use Rattle.{std.specs.Io.KnownBytes.Appends, tte_io.specs.Told.AppendsFront}
use Rattle.lens_why.proofs.lines.put_record.Goals as goal

pub returns-in-Err-clause-puts : goal.returns-in-Err-clause-puts
returns-in-Err-clause-puts g c =
    let shown = shown_by g.K.Sink in
    put_none c.args.network.now c.args.note.now c.args.said (shown c.args.out.now) (shown c.write_in.new.out) c.in-Err.ensures.front
    c.write_in.ensures.counted

pub returns-then-not-is_told-clause-puts : goal.returns-then-not-is_told-clause-puts
returns-then-not-is_told-clause-puts g c =
    let shown = shown_by g.K.Sink in
    put_alone c.args.network.now c.args.note.now c.args.said (shown c.args.out.now) (shown c.write_in.new.out)
    (sym c.is_told.ensures ∙ c.if-not-is_told.true) c.in-Ok.ensures.all c.write_in.ensures.counted

pub returns-in-Ok-put-clause-puts : goal.returns-in-Ok-put-clause-puts
returns-in-Ok-put-clause-puts g c =
    let shown = shown_by g.K.Sink in
    let line = c.as_slice.ensures ∙ c.make_ground_line.ensures in
    let more = subst (λ (bytes : List ℕ). Appends (g.K.Sink.written c.write_in.new.out) (g.K.Sink.written c.put.new.self) bytes) line
    c.in-Ok-put.ensures.all in
    put_both c.args.network.now c.args.note.now c.args.said (shown c.args.out.now) (shown c.write_in.new.out) (shown c.put.new.self)
    (sym c.is_told.ensures ∙ c.if-not-is_told.false) c.in-Ok.ensures.all c.write_in.ensures.counted more c.put.ensures.counted

pub returns-in-Err-put-clause-puts : goal.returns-in-Err-put-clause-puts
returns-in-Err-put-clause-puts g c =
    let shown = shown_by g.K.Sink in
    let line = c.as_slice.ensures ∙ c.make_ground_line.ensures in
    let front = subst (λ bytes. AppendsFront (g.K.Sink.written c.write_in.new.out) (g.K.Sink.written c.put.new.self) bytes) line
    c.in-Err-put.ensures.front in
    put_half c.args.network.now c.args.note.now c.args.said (shown c.args.out.now) (shown c.write_in.new.out) (shown c.put.new.self)
    (sym c.is_told.ensures ∙ c.if-not-is_told.false) c.in-Ok.ensures.all c.write_in.ensures.counted front c.put.ensures.counted

use Rattle.{pcf_codec.specs.Decoding.decoded, tte_forms.specs.{Putting.shown_by, frames.Answer.frame_at}}
use Rattle.{std.proofs.Common.{◌∙◌, ◌≡◌, Err, Ok, ap, arith, sym}}
use Rattle.tte_forms.{proofs.frames.Frames.{IsShown-all, IsShown-fails, IsShown-more, IsShown-refused}}
use Rattle.tte_forms.proofs.showing.show_frames.Goals as goal

pub returns-in-Err-put-clause-gives : goal.returns-in-Err-put-clause-gives
returns-in-Err-put-clause-gives g c =
    let octets = c.args.octets.now in
    let read : decoded (frame_at c.frames.k octets) ≡ Ok c.in-Ok.frame = ap decoded (sym c.frame_at.ensures.frame) ∙ sym c.decode.ensures ∙ c.in-Ok.is in
    let line = c.as_slice.ensures ∙ c.make_frame_line.ensures in
    let front =
    rw line at c.in-Err-put.ensures.front in
    IsShown-fails c.in-Ok.frame ((shown_by g.K.Sink) c.put.new.self)
    c.frames.invariant.shown (omega arith) read front c.put.ensures.counted

pub returns-in-Err-clause-gives : goal.returns-in-Err-clause-gives
returns-in-Err-clause-gives g c =
    let octets = c.args.octets.now in
    let shown = shown_by g.K.Sink in
    let read : decoded (frame_at c.frames.k octets) ≡ Err c.in-Err.refusal = ap decoded (sym c.frame_at.ensures.frame) ∙ sym c.decode.ensures ∙ c.in-Err.is in
    let line = c.as_slice-in-Err.ensures ∙ c.make_refusal_line.ensures in
    let gives =
    rw line at c.put_last.ensures.gives in
    IsShown-refused c.in-Err.refusal c.put_last.result c.frames.invariant.shown (omega arith) read gives

pub frames-preserved : goal.frames-preserved
frames-preserved g c =
    let octets = c.args.octets.now in
    let shown = shown_by g.K.Sink in
    let read : decoded (frame_at c.frames.k octets) ≡ Ok c.in-Ok.frame = ap decoded (sym c.frame_at.ensures.frame) ∙ sym c.decode.ensures ∙ c.in-Ok.is in
    let line = c.as_slice.ensures ∙ c.make_frame_line.ensures in
    let whole = rw line at c.in-Ok-put.ensures.all in
    record {
      shown = IsShown-more c.in-Ok.frame (shown c.put.new.self)
          c.frames.invariant.shown (omega arith) read whole c.put.ensures.counted;
      quiet = c.in-Ok-put.ensures.ok_unchanged ∙ c.frames.invariant.quiet;
    }

pub returns-clause-gives : goal.returns-clause-gives
returns-clause-gives g c =
    IsShown-all c.end_with.result
    ((shown_by g.K.Sink) c.end_with.new.out) c.frames.invariant.shown (omega arith) c.end_with.ensures.ends

use Rattle.tte_observers.proofs.captures_lemmas.wires_lemmas.Words.{◌++◌, ◌+◌, ◌∙◌, ◌∷◌, Err, Ok, PutsAll, [], map, packet_at, subst, sym, take}
use Rattle.std.proofs.{Common.drop, lemmas.List.get_or_default}
use Rattle.tte_observers.proofs.captures_lemmas.wires_lemmas.Puts.{failed_more, frames_all, frames_more, then_all}
use Rattle.tte_observers.proofs.captures.wires.frames.put_frames.Goals as goal

pub frames-preserved : goal.frames-preserved
frames-preserved g c =
    let f = packet_at c.args.time in
    let i = c.frames.frame-index in
    let xs = c.args.frames.now in
    let x = c.as_slice.result.now in
    let item = c.frame-item.result in
    subst (λ l. PutsAll {T = Unit {0}} g.K.Sink l (Ok (tt {0})) c.args.out.now c.put_frame.new.out)
    (frames_more c.args.time xs i x c.frames-test.true
    (λ d. get_or_default xs i d item c.frames-test.true ∙ sym c.frame-item.is ∙ sym c.as_slice.ensures.value))
    (then_all g.K.Sink (map f (take i xs)) (f x ∷ []) (tt {0}) (Ok (tt {0})) c.args.out.now c.frames.out c.put_frame.new.out c.frames.invariant c.in-Ok.ensures)

pub returns-in-Err : goal.returns-in-Err
returns-in-Err g c =
    let f = packet_at c.args.time in
    let i = c.frames.frame-index in
    let xs = c.args.frames.now in
    let x = c.as_slice.result.now in
    let item = c.frame-item.result in
    subst (λ l. PutsAll {T = Unit {0}} g.K.Sink l (Err c.in-Err.cut) c.args.out.now c.put_frame.new.out)
    (frames_all c.args.time xs i x c.frames-test.true
    (λ d. get_or_default xs i d item c.frames-test.true ∙ sym c.frame-item.is ∙ sym c.as_slice.ensures.value))
    (failed_more g.K.Sink (map f (take i xs) ++ f x ∷ []) (map f (drop (i + 1) xs)) c.in-Err.cut c.args.out.now c.put_frame.new.out
    (then_all g.K.Sink (map f (take i xs)) (f x ∷ []) (tt {0}) (Err c.in-Err.cut) c.args.out.now c.frames.out c.put_frame.new.out c.frames.invariant
    c.in-Err.ensures))

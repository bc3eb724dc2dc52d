use Rattle.std.{proofs.Common.{◌∙◌, ap}, specs.Prelude.option_and_then}
use Rattle.device_rules.{proofs.frames_lemmas.traced_lemmas.Keeping.frame_at, specs.frames.traced.Keeping.kept_frame}
use Rattle.device_rules.proofs.frames.traced.keeping.frame_from.Goals as goal

pub returns-in-Some : goal.returns-in-Some
returns-in-Some c network hs e =
    c.frame_of.ensures ∙ ap (option_and_then (kept_frame c.args.pool.now)) c.in-Some.ensures
    ∙ frame_at network c.args.pool.now c.args.records.now hs c.args.number e

pub returns-in-None : goal.returns-in-None
returns-in-None c network hs e =
    ap (option_and_then (kept_frame c.args.pool.now)) c.in-None.ensures
    ∙ frame_at network c.args.pool.now c.args.records.now hs c.args.number e

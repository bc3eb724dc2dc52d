use Rattle.device_rules.{proofs.frames_lemmas.traced_lemmas.Keeping.trace_shows}
use Rattle.device_rules.{specs.frames.traced.Keeping.{at_number, kept_shown}}
use Rattle.std.proofs.Common.{◌∙◌, ◌≡◌, None, Some, ap}
use Rattle.std.specs.Prelude.{option_and_then}
use Rattle.device_rules.proofs.frames.traced.trace.FrameTrace.octets.Goals as goal

pub returns-in-Some : goal.returns-in-Some
returns-in-Some c network notes keeps =
    let own = c.self.inside.accepted.now in
    let pool = c.self.inside.pool.items in
    let ks = c.self.inside.records.items in
    let kept = c.in-Some.kept in
    let at : Some kept ≡ at_number ks c.args.number =
    rw c.deref.ensures.value at c.in-Some.ensures in
    let shown : c.shown.result ≡ kept_shown own pool kept =
    rw c.network.ensures.value at (rw c.deref-in-Some.ensures.value at c.shown.ensures) in
    shown ∙ ap (option_and_then (kept_shown own pool)) at ∙ trace_shows own pool ks c.args.number c.self.view_is keeps

pub returns-in-None : goal.returns-in-None
returns-in-None c network notes keeps =
    let own = c.self.inside.accepted.now in
    let pool = c.self.inside.pool.items in
    let ks = c.self.inside.records.items in
    let at : None ≡ at_number ks c.args.number = rw c.deref.ensures.value at c.in-None.ensures in
    ap (option_and_then (kept_shown own pool)) at ∙ trace_shows own pool ks c.args.number c.self.view_is keeps

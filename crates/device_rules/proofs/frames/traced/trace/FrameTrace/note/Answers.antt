use Rattle.device_rules.proofs.{frames.traced.trace.FrameTrace.note.Goals.{in-Err-push, in-Ok-push}}
use Rattle.device_rules.proofs.frames_lemmas.traced_lemmas.Keeping.{after_push, all_grow, not_pushed, one_more_held}
use Rattle.device_rules.proofs.frames_lemmas.traced_lemmas.Keeping.{trace_grows, trace_more}
use Rattle.device_rules.specs.frames.traced.Keeping.{IsHeld, traced, traced_by, view_of, views_of}
use Rattle.std.proofs.{Common.{◌∷◌, ◌≡◌, List, [], refl}, lemmas.Slice.pushed}
use Rattle.{run_law.specs.records.Happenings.Happening, std.specs.{List.All, Prelude.map}}
use Rattle.device_rules.proofs.frames.traced.trace.FrameTrace.note.Goals as goal

pub returns-in-Err-clause-as_it_was : goal.returns-in-Err-clause-as_it_was
returns-in-Err-clause-as_it_was c =
    trace_grows c.self.inside.accepted.now c.args.self.now c.self.inside.pool.items c.kept_of.new.pool.items
    c.self.inside.records.items c.self.view_is c.self.invariant c.in-Err.ensures.grows

pub invariant_of-self-2 : goal.invariant_of-self-2
invariant_of-self-2 c =
    let new = c.kept_of.new.pool.items in
    let ks = c.self.inside.records.items in
    let grown = all_grow c.self.inside.pool.items new ks c.in-Ok.ensures.grows c.self.invariant in
    after_push (All (IsHeld new)) c.push.result ks c.push.new.self.items c.in-Ok.kept c.push.ensures.items grown
    (one_more_held new ks c.in-Ok.kept grown c.in-Ok.ensures.held)

pub returns-clause-keeps : goal.returns-clause-keeps
returns-clause-keeps c network notes keeps =
    let own = c.self.inside.accepted.now in
    let pool = c.self.inside.pool.items in
    let new = c.kept_of.new.pool.items in
    let ks = c.self.inside.records.items in
    let kept = c.in-Ok.kept in
    let body = c.args.note.now.body in
    let one : (hs : List Happening) → views_of own pool ks ≡ map traced hs → view_of own new kept ≡ traced_by own hs body =
    rw c.network-network.ensures.value at (rw c.deref.ensures.value at c.in-Ok.ensures.view) in
    let more = trace_more own pool new ks kept c.args.note.now c.self.view_is c.self.invariant
    c.in-Ok.ensures.grows one keeps in
    elim c.match-push.branch [
      | in-Ok-push w ↦ rw w.result-is (rw (pushed (kept ∷ []) refl w.in-Ok-push.is c.push.ensures.items) more)
      | in-Err-push w ↦ rw w.result-is tt
    ]

pub returns-clause-as_it_was : goal.returns-clause-as_it_was
returns-clause-as_it_was c =
    let own = c.self.inside.accepted.now in
    let new = c.kept_of.new.pool.items in
    let ks = c.self.inside.records.items in
    let same = trace_grows own c.args.self.now c.self.inside.pool.items new ks c.self.view_is c.self.invariant c.in-Ok.ensures.grows in
    elim c.match-push.branch [
      | in-Ok-push w ↦ rw w.result-is tt
      | in-Err-push w ↦ rw w.result-is (rw
          (not_pushed c.push.result _ ks c.push.new.self.items c.in-Ok.kept w.in-Err-push.is c.push.ensures.items) same)
    ]

use Rattle.end_system.proofs.{Ripe.{heard_frame_of, keeps}, Words.{◌++◌, ◌∷◌, Channel, List, Summarizes, [], subst}}
use Rattle.sync_state.specs.membership.{Hearing.Hearing, Summary.Hears}
use Rattle.end_system.proofs.end_system.EndSystem.keep.Goals as goal

pub returns : goal.returns
returns c = λ network device node stands may ripens as_heard.
    keeps c.hear.new.self c.args.within stands may ripens as_heard
    (subst (λ (h : Channel). Hears c.args.self.now.heard (record { channel = h; frame = heard_frame_of c.args.frame.now c.args.point; within = c.args.within })
    c.hear.new.self) c.channel.ensures c.hear.ensures.value)
    (subst (λ (h : Channel). (before : List Hearing) → Summarizes c.args.self.now.heard before
    → Summarizes c.hear.new.self (before ++ record { channel = h; frame = heard_frame_of c.args.frame.now c.args.point; within = c.args.within } ∷ []))
    c.channel.ensures c.hear.ensures.heard)

use Rattle.sync_state.proofs.membership_lemmas.SummaryLemmas.{hears_on_a, hears_on_b, hears_outside, same_hearing}
use Rattle.{sync_state.specs.membership.{Hearing.Hearing, Summary.{Summarizes, Summary}}, tte_units.specs.declared.frames.channel.Channel.TheVariants.{A, B}}
use Rattle.sync_state.proofs.membership.heard.Heard.hear.Goals as goal

pub returns-then-not-within-clause-heard : goal.returns-then-not-within-clause-heard
returns-then-not-within-clause-heard c = λ heard is.
    let h : Hearing = record { channel = c.args.channel; frame = c.args.frame; within = c.args.within } in
    let kept : Summary = record { best_a = c.self.inside.best_a; best_b = c.self.inside.best_b; outside = c.self.inside.outside } in
    rw c.join-self-inside.ensures.value (hears_outside kept heard h c.if-not-within.true (rw c.self.view_is is))

pub returns-in-A-clause-heard : goal.returns-in-A-clause-heard
returns-in-A-clause-heard c = λ heard is.
    let kept : Summary = record { best_a = c.self.inside.best_a; best_b = c.self.inside.best_b; outside = c.self.inside.outside } in
    let was : Summarizes kept heard = rw c.self.view_is is in
    rw (same_hearing c.args.channel A c.args.frame c.args.within c.in-A.is c.if-not-within.false) at (hears_on_a kept
    heard c.args.frame c.better.result c.better.ensures was)

pub returns-in-B-clause-heard : goal.returns-in-B-clause-heard
returns-in-B-clause-heard c = λ heard is.
    let kept : Summary = record { best_a = c.self.inside.best_a; best_b = c.self.inside.best_b; outside = c.self.inside.outside } in
    let was : Summarizes kept heard = rw c.self.view_is is in
    rw (same_hearing c.args.channel B c.args.frame c.args.within c.in-B.is c.if-not-within.false) at (hears_on_b kept
    heard c.args.frame c.better-in-B.result c.better-in-B.ensures was)

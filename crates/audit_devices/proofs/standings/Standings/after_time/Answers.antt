use Rattle.audit_devices.proofs.Words.{◌∙◌, ◌∷◌, ◌≤◌, Shows, [], arith, got_at, records_before, subst, sym}
use Rattle.audit_devices.proofs.{Kept.{end_later, end_near, up_to_end}, KeptAll.earlier_are}
use Rattle.audit_devices.proofs.standings.Standings.after_time.Goals as goal

pub returns-clause-near : goal.returns-clause-near
returns-clause-near c =
    let ends = c.end_of.ensures in
    let near = end_near c.after-next.result.1 c.args.until in
    omega (arith, ends, near)

pub returns-clause-later : goal.returns-clause-later
returns-clause-later c s hs stands =
    let device = c.args.device in
    let keeps = stands device c.index-history.result.now
    (got_at c.args.self.now.histories.items device.0 c.index-history.result.now c.requires.device c.index-history.ensures) in
    let ends = c.end_of.ensures in
    let later = end_later c.after-next.result.1 c.args.until c.args.time c.requires.before (c.after-next.ensures.later keeps.order) in
    omega (arith, ends, later)

pub returns-clause-shows : goal.returns-clause-shows
returns-clause-shows c s hs stands t lt le =
    let device = c.args.device in
    let history = c.index-history.result.now in
    let keeps = stands device history (got_at c.args.self.now.histories.items device.0 history c.requires.device c.index-history.ensures) in
    let most = subst (λ n. t ≤ n) c.end_of.ensures le in
    let shown = c.after-next.ensures.shown keeps.order
    ∙ sym (c.after-next.ensures.lasts keeps.order t lt (up_to_end c.after-next.result.1 c.args.until t most)) in
    subst (λ xs. Shows s xs device c.after-next.result.0.now) (earlier_are t hs)
    (subst (Shows s (records_before (t ∷ []) hs) device) (sym shown) (keeps.before (t ∷ [])))

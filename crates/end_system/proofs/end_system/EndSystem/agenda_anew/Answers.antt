use Rattle.end_system.proofs.{Ripe.{above, local_range}, Words.{◌+ℤ◌, ◌∙◌, IsAgenda, Units, [], ap, subst, ℤ}}
use Rattle.end_system.proofs.end_system.EndSystem.agenda_anew.Goals as goal

pub local_at-local-requires-clause-low : goal.local_at-local-requires-clause-low
local_at-local-requires-clause-low c = above c.args.self.now.last.reading.0 c.requires.begun

pub agenda_from-requires-clause-local : goal.agenda_from-requires-clause-local
agenda_from-requires-clause-local c =
    let local = c.local_at-local.ensures ∙ ap (λ (u : Units). c.args.self.now.last.reading.0 +ℤ u.0) c.adjustment.ensures in
    let r = local_range c.args.self.now.last.reading.0 c.args.self.now.sync.adjustment.0 c.local_at-local.result.0 local c.requires.begun c.requires.low
    c.requires.small.0 c.requires.small.1 in
    record { low = r.0; high = r.1 }

pub returns-clause-agenda : goal.returns-clause-agenda
returns-clause-agenda c = λ network device is rows.
    let local = c.local_at-local.ensures ∙ ap (λ (u : Units). c.args.self.now.last.reading.0 +ℤ u.0) c.adjustment.ensures in
    subst (λ z. IsAgenda network device c.args.self.now.sync z [] c.agenda_from.result) local (c.agenda_from.ensures.agenda network device is rows)

use Rattle.switch_ports.proofs.Words.{◌&&◌, ◌∙◌, ap, inl, inr, last_cycle, nat_le, ripe_as}
use Rattle.run_law.specs.control.Hearing.{heard_by_schedule, is_in_schedule}
use Rattle.switch_ports.proofs.site.Site.hearing.Goals as goal

pub returns-in-Joining : goal.returns-in-Joining
returns-in-Joining c =
    let same = c.timed_hearing.ensures
    ∙ ap (λ z. ripe_as
    (heard_by_schedule (nat_le c.args.cycle last_cycle && is_in_schedule c.args.self.now.plan c.args.self.now.precision.0 c.args.cycle z)))
    c.shown.ensures in
    elim c.in-Joining.is [ inl e ↦ rw e same | inr e ↦ rw e same ]

use Rattle.switch_ports.proofs.{SwitchSteps.integrates_so, Words.{◌∙◌, sym}}
use Rattle.switch_ports.proofs.switch.Switch.hear_frame.Goals as goal

pub returns-in-Integrates-clause-hears : goal.returns-in-Integrates-clause-hears
returns-in-Integrates-clause-hears c =
    let old = c.args.self.now in
    rw c.in-Integrates.is
    (c.join.ensures (integrates_so old.sync old.site.plan old.site.precision.0 c.args.point.0 c.args.frame.now c.requires.plan
    (rw (sym c.state.ensures) (rw (sym c.adjustment.ensures) (sym c.hearing-ripe.ensures ∙ c.in-Integrates.is)))))

use Rattle.drift_world.proofs.{Nearings.timed_still, Timings.{may_still, set_both}}
use Rattle.drift_world.proofs.state.State.rekey_from.Goals as goal

pub rekey_act_from-requires-clause-may : goal.rekey_act_from-requires-clause-may
rekey_act_from-requires-clause-may g c =
    may_still _ c.requires.may c.rekey_ripe.ensures.sets

pub returns : goal.returns
returns g c =
    set_both c.requires.may.there c.rekey_ripe.ensures.timed c.rekey_ripe.ensures.sets c.rekey_act_from.ensures.timed
    c.rekey_act_from.ensures.sets

pub rekey_act_from-requires-clause-before : goal.rekey_act_from-requires-clause-before
rekey_act_from-requires-clause-before g c =
    timed_still g.C.Clock.reading g.M.Machine.stands c.args.network.now c.args.self.now c.rekey_ripe.new.self
    (record { 0 = c.args.device })
    c.args.before c.requires.may.there c.rekey_ripe.ensures.sets c.requires.before

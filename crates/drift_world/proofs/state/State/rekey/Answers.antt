use Rattle.drift_world.proofs.Timings.{may_still, set_both}
use Rattle.drift_world.proofs.state.State.rekey.Goals as goal

pub rekey_act-requires : goal.rekey_act-requires
rekey_act-requires g c = record {
  may = may_still _ c.requires.may c.rekey_ripe.ensures.sets;
}

pub returns : goal.returns
returns g c =
    set_both c.requires.may.there c.rekey_ripe.ensures.timed c.rekey_ripe.ensures.sets c.rekey_act.ensures.timed c.rekey_act.ensures.sets

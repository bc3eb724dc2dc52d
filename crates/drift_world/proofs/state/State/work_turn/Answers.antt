use Rattle.drift_world.{proofs.{Turning.step_kept, Words.subst}, specs.Turns.MayWork}
use Rattle.drift_world.proofs.state.State.work_turn.Goals as goal

pub arrival_turn-requires : goal.arrival_turn-requires
arrival_turn-requires g c = record {
  may = subst (MayWork g.C.Clock.last_step g.C.Clock.reading g.M.Machine.stands c.args.network.now c.args.self.now)
      c.in-Arrival.is c.requires.may;
}

pub departure_turn-requires : goal.departure_turn-requires
departure_turn-requires g c = record {
  may = subst (MayWork g.C.Clock.last_step g.C.Clock.reading g.M.Machine.stands c.args.network.now c.args.self.now)
      c.in-Departure.is c.requires.may;
}

pub acting_turn-requires : goal.acting_turn-requires
acting_turn-requires g c = record {
  may = subst (MayWork g.C.Clock.last_step g.C.Clock.reading g.M.Machine.stands c.args.network.now c.args.self.now)
      c.in-Act.is c.requires.may;
}

pub settle-requires : goal.settle-requires
settle-requires g c = record {
  may = subst (MayWork g.C.Clock.last_step g.C.Clock.reading g.M.Machine.stands c.args.network.now c.args.self.now) c.in-Events.is
      c.requires.may;
}

pub ripening_turn-requires : goal.ripening_turn-requires
ripening_turn-requires g c = record {
  may = subst (MayWork g.C.Clock.last_step g.C.Clock.reading g.M.Machine.stands c.args.network.now c.args.self.now)
      c.in-Ripening.is c.requires.may;
}

pub show-requires : goal.show-requires
show-requires g c = record {
  may = subst (MayWork g.C.Clock.last_step g.C.Clock.reading g.M.Machine.stands c.args.network.now c.args.self.now) c.in-Clock.is
      c.requires.may;
}

pub returns-in-Err-clause-kept : goal.returns-in-Err-clause-kept
returns-in-Err-clause-kept g c = step_kept
    c.settle.ensures.step

pub returns-in_default-clause-kept : goal.returns-in_default-clause-kept
returns-in_default-clause-kept g c = step_kept
    c.settle.ensures.step

use Rattle.drift_world.proofs.{Turning.{arrival_stays, kept_then, roomier, step_kept}, Words.refl}
use Rattle.drift_world.{proofs.state.State.arrival_turn.Goals.After-reserve, specs.Turns.IsStep}
use Rattle.drift_world.proofs.state.State.arrival_turn.Given as given
use Rattle.drift_world.proofs.state.State.arrival_turn.Goals as goal

-- room is taken
made : (g : given.Over) (c : After-reserve g) → IsStep g.C.Clock.last_step g.C.Clock.reading g.M.Machine.stands c.args.network.now c.args.self.now
    (record c.args.self.now { waiting = c.reserve.new.self })
made g c = roomier _ c.requires.may.well refl refl
    c.reserve.ensures.items refl

pub returns-then-is_err-clause-kept : goal.returns-then-is_err-clause-kept
returns-then-is_err-clause-kept g c =
    step_kept
    (made g (goal.at.returns-then-is_err-clause-kept g c).After-reserve)

pub hear_turn-requires-clause-may : goal.hear_turn-requires-clause-may
hear_turn-requires-clause-may g c =
    arrival_stays refl c.reserve.ensures.items
    c.requires.may

pub returns-clause-kept : goal.returns-clause-kept
returns-clause-kept g c =
    let step = made g (goal.at.returns-clause-kept g c).After-reserve in
    kept_then step.after step.still c.hear_turn.ensures.kept

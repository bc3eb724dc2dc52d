use Rattle.drift_world.{specs.{Turns.IsStep, declared.state.State.State}}
use Rattle.drift_world.proofs.{Nearings.{as_far, no_more, turns_then}, Turning.{kept_then, roomier, step_kept}}
use Rattle.drift_world.proofs.{Words.{◌∙◌, ap, arith, sym}, state.State.turn.Goals.After-make_places}
use Rattle.drift_world.proofs.state.State.turn.Given as given
use Rattle.drift_world.proofs.state.State.turn.Goals as goal

-- room is taken
made : (g : given.Over) (c : After-make_places g) → IsStep g.C.Clock.last_step g.C.Clock.reading g.M.Machine.stands c.args.network.now c.args.self.now
    c.make_places.new.self
made g c =
    let made = c.make_places.ensures in
    let new = c.make_places.new.self in
    roomier new c.requires.may.well
    (made.same ∙ ap (λ w. let t : State _ _ = record c.args.self.now {
      under_way = new.under_way;
      waiting = w;
      settled =
          new.settled;
    } in t)
    (sym (ap State.waiting made.same))) made.entries (rw made.same) made.items

pub returns-in-Err : goal.returns-in-Err
returns-in-Err g c =
    let time = (made g (goal.at.returns-in-Err g c).After-make_places).time in
    let early = c.requires.may.early in
    record {
      kept = step_kept
          (made g (goal.at.returns-in-Err g c).After-make_places);
      turns = tt;
      err = omega arith;
    }

pub roomy_turn-requires : goal.roomy_turn-requires
roomy_turn-requires g c =
    let may = c.requires.may in
    let step = made g (goal.at.roomy_turn-requires g c).After-make_places in
    let time = step.time in
    let early = may.early in
    record {
      may = record {
        range = may.range;
        well = step.well;
        limit = may.limit;
        early = omega arith;
        ended = λ is. let most = may.ended (sym step.after.ended ∙ is) in omega arith;
      };
      room = c.in_default.ensures.room;
    }

pub returns : goal.returns
returns g c =
    let step = made g (goal.at.returns g c).After-make_places in
    let mid = c.make_places.new.self in
    let new = c.roomy_turn.new.self in
    let turn = c.roomy_turn.ensures in
    record {
      kept = kept_then step.after step.still turn.kept;
      turns = turns_then g.C.Clock.reading g.M.Machine.stands c.args.network.now c.args.self.now mid new c.args.until
          c.roomy_turn.new.note c.roomy_turn.result step.given step.after.ended step.still
          (no_more (as_far c.args.network.now c.args.until c.args.self.now mid c.make_places.ensures.same c.make_places.ensures.entries)) turn.turns;
      err = turn.err;
    }

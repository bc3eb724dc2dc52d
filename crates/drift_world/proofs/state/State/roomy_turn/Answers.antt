use Rattle.drift_world.{specs.{Nearing.IsNoFarther, Turns.PassSays, declared.state.State.State}}
use Rattle.drift_world.proofs.Nearings.{ends_near, passed_turns, turns_then}
use Rattle.drift_world.proofs.{Turning.{firsts_passed, kept_then, passed_after, passed_kept, room_passed}}
use Rattle.drift_world.proofs.{Words.{◌∙◌, AreFirsts, OutOfMemory, ap, arith, subst, sym}}
use Rattle.drift_world.proofs.state.State.roomy_turn.Goals.{After-first-due}
use Rattle.drift_world.proofs.state.State.roomy_turn.Given as given
use Rattle.drift_world.proofs.state.State.roomy_turn.Goals as goal

firsts_of : (g : given.Over) (c : After-first-due g) → AreFirsts c.args.self.now c.first-place.result c.first-due.result
firsts_of g c = record {
  some_place = c.first-place.ensures.first;
  no_place = c.first-place.ensures.none;
  some_due = c.first-due.ensures.first;
  no_due = c.first-due.ensures.none;
}

pub pass_first-requires-clause-firsts : goal.pass_first-requires-clause-firsts
pass_first-requires-clause-firsts g c = firsts_of g (goal.at.pass_first-requires-clause-firsts g c).After-first-due

pub front_turn-requires : goal.front_turn-requires
front_turn-requires g c =
    let r = c.requires in
    let up = c.pass_first.ensures.passed in
    let later = up.later in
    record {
      may = record {
        range = r.may.range;
        well = up.well;
        limit = r.may.limit;
        early = (subst (PassSays c.args.self.now c.pass_first.new.self c.args.until) c.in-GoesOn.is up.says).0;
        ended = λ is. let most = r.may.ended (sym (ap State.ended up.same) ∙ is) in omega arith;
      };
      room = room_passed up.same r.room;
      firsts = firsts_passed up.same (firsts_of g (goal.at.front_turn-requires g c).After-first-due);
    }

pub returns-in-GoesOn : goal.returns-in-GoesOn
returns-in-GoesOn g c =
    let until = c.args.until in
    let mid = c.pass_first.new.self in
    let new = c.front_turn.new.self in
    let up = c.pass_first.ensures in
    let turn = c.front_turn.ensures in
    let says = subst (PassSays c.args.self.now mid until) c.in-GoesOn.is up.passed.says in
    let after = passed_after up.passed in
    record {
      kept = kept_then after up.passed.still turn.kept;
      turns = turns_then g.C.Clock.reading g.M.Machine.stands c.args.network.now c.args.self.now mid new until
          c.front_turn.new.note c.front_turn.result says.1 after.ended up.passed.still
          (subst (IsNoFarther c.args.network.now until c.args.self.now mid) c.in-GoesOn.is up.nearer) turn.turns;
      err = turn.err;
    }

pub returns-in_default-clause-kept : goal.returns-in_default-clause-kept
returns-in_default-clause-kept g c =
    passed_kept OutOfMemory
    c.args.note.now c.pass_first.ensures.passed

pub returns-in_default-clause-turns : goal.returns-in_default-clause-turns
returns-in_default-clause-turns g c =
    passed_turns c.args.note.now
    c.pass_first.result c.pass_first.ensures.passed
    (ends_near c.args.network.now c.args.until c.args.self.now c.pass_first.new.self c.pass_first.result c.in_default.not-GoesOn)

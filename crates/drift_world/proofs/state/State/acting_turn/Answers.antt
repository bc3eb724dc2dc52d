use Rattle.drift_world.proofs.Nearings.{gave_kept, gave_may_set, gave_says, less_then, may_set, stepped}
use Rattle.drift_world.proofs.{Turning.{all_above, is_at, step_kept}}
use Rattle.drift_world.proofs.ActTurns.{IsTurn, comes_at, left_later, same_then, turn_begun, turn_on, turn_with}
use Rattle.drift_world.proofs.Words.{◌+◌, ◌<◌, ◌∙◌, ◌≡◌, IsOf, Scenario, ap, arith, length, moment_of, numbers_end, subst, sym}
use Rattle.drift_world.specs.{Acting.{IsDueAt, IsLeft}, Parts.part_rank, declared.state.State.State}
use Rattle.drift_world.proofs.state.State.acting_turn.Goals.{After-reserve_two, In-Ok}
use Rattle.drift_world.proofs.state.State.acting_turn.Given as given
use Rattle.drift_world.proofs.state.State.acting_turn.Goals as goal

pub acts-init : goal.acts-init
acts-init g c =
    let may = c.requires.may in
    turn_begun g.C.Clock.last_step g.C.Clock.reading g.M.Machine.stands c.args.network.now c.args.part c.args.device
    c.args.self.now c.left_to_do-left.result
    may.well.sound c.left_to_do-left.ensures may.foremost.there.late
    (all_above g.M.Machine.stands c.args.self.now
    (part_rank c.args.part) may.well.running.is may.first)
    (is_at may tt)
    may.foremost.there.of

-- there is room for more
turn : (g : given.Over) (c : After-reserve_two g) → IsTurn g.C.Clock.last_step g.C.Clock.reading g.M.Machine.stands
    c.args.network.now c.args.part c.args.device
    c.args.self.now c.reserve_two.new.self c.acts.left c.acts.acts
turn g c =
    turn_with g.C.Clock.last_step g.C.Clock.reading g.M.Machine.stands c.args.network.now c.args.part c.args.device
    c.args.self.now c.acts.self c.acts.left c.acts.acts c.reserve_two.ensures.same c.reserve_two.ensures.items
    c.acts.invariant

numbered : (g : given.Over) (c : In-Ok g) → c.reserve_two.new.self.given + length c.reserve_two.new.self.settled.items
    + 2 < numbers_end
numbered g c =
    let given_is = ap State.given c.reserve_two.ensures.same in
    let long = ap length c.reserve_two.ensures.items in
    let numbers = c.in-Ok.ensures.numbers in
    omega arith

-- the part is due
due : (g : given.Over) (c : After-reserve_two g) → IsDueAt g.C.Clock.reading g.M.Machine.stands c.args.network.now
    c.reserve_two.new.self c.args.part
    c.args.device
due g c =
    subst (IsLeft g.C.Clock.reading g.M.Machine.stands c.args.network.now c.reserve_two.new.self c.args.device)
    (c.is_due.ensures.yes c.if-not-is_due.false)
    (turn g c).is_left

-- a state that shows the same clocks, ways and broken devices has the same moment
same_moment : (g : given.Over) (c : After-reserve_two g) {now : State _ _}
    → now ≡ record c.args.self.now {
      machines = now.machines;
      early = now.early;
      settled = now.settled;
      spare =
          now.spare;
    } → (s : Scenario)
    → IsOf g.C.Clock.reading s c.args.network.now now → c.moment_at-moment.result ≡ moment_of s c.args.device now.time
same_moment g c {now} same s of =
    let was : IsOf g.C.Clock.reading s c.args.network.now
    (record c.args.self.now { machines = now.machines; early = now.early; settled = now.settled; spare = now.spare }) =
    subst (IsOf g.C.Clock.reading s c.args.network.now) same of in
    c.moment_at-moment.ensures s (record { same = was.same; clocks = was.clocks; broken = was.broken; ways = was.ways })
    ∙ ap (moment_of s c.args.device) (sym (ap State.time same))

-- ---- what is left is put off

pub put_off-requires : goal.put_off-requires
put_off-requires g c = record {
  may = may_set c.requires.may c.acts.invariant;
  left = c.acts.invariant.is_left;
}

pub returns-then-not-is_due : goal.returns-then-not-is_due
returns-then-not-is_due g c =
    let off = c.put_off.ensures in
    let step = stepped c.requires.may c.acts.invariant off.timed off.sets in
    record {
      kept = step_kept step;
      says = (
        step.time,
        step.given,
        less_then c.requires.may c.acts.invariant c.put_off.new.self off.sets step.well c.acts.left
            c.acts.invariant.is_left
            (left_later c.args.part c.acts.left (c.is_due.ensures.no c.if-not-is_due.true) c.acts.invariant.later)
            off.put,
      );
      err = tt;
    }

-- ---- memory runs out

pub rekey_act-requires : goal.rekey_act-requires
rekey_act-requires g c = record {
  may = may_set c.requires.may
      (turn g (goal.at.rekey_act-requires g c).After-reserve_two);
}

pub returns-in-Err : goal.returns-in-Err
returns-in-Err g c =
    let key = c.rekey_act.ensures in
    let step = stepped c.requires.may
    (turn g (goal.at.returns-in-Err g c).After-reserve_two) key.timed key.sets in
    record {
      kept = step_kept step;
      says = tt;
      err = step.time;
    }

-- ---- the device acts

pub act_once-requires-clause-sound : goal.act_once-requires-clause-sound
act_once-requires-clause-sound g c = (turn g (goal.at.act_once-requires-clause-sound g c).After-reserve_two).sound

pub act_once-requires-clause-moment : goal.act_once-requires-clause-moment
act_once-requires-clause-moment g c =
    let here = (goal.at.act_once-requires-clause-moment g c).After-reserve_two in
    same_moment g here (turn g here).same

pub act_once-requires-clause-launches : goal.act_once-requires-clause-launches
act_once-requires-clause-launches g c =
    rw (turn g (goal.at.act_once-requires-clause-launches g c).After-reserve_two).same c.requires.may.room.launches

pub act_once-requires-clause-numbers : goal.act_once-requires-clause-numbers
act_once-requires-clause-numbers g c =
    let most = numbered g (goal.at.act_once-requires-clause-numbers g c).In-Ok in omega arith

pub act_once-requires-clause-due : goal.act_once-requires-clause-due
act_once-requires-clause-due g c = due g (goal.at.act_once-requires-clause-due g c).After-reserve_two

pub act_once-requires-clause-above : goal.act_once-requires-clause-above
act_once-requires-clause-above g c = (turn g (goal.at.act_once-requires-clause-above g c).After-reserve_two).above

pub act_once-requires-clause-comes : goal.act_once-requires-clause-comes
act_once-requires-clause-comes g c =
    comes_at g.C.Clock.last_step g.C.Clock.reading g.M.Machine.stands c.args.network.now c.args.part c.args.device
    c.args.self.now c.reserve_two.new.self
    c.acts.left c.acts.acts (turn g (goal.at.act_once-requires-clause-comes g c).After-reserve_two)
    (numbered g (goal.at.act_once-requires-clause-comes g c).In-Ok)
    (is_at c.requires.may tt)

pub act_once-requires-clause-there : goal.act_once-requires-clause-there
act_once-requires-clause-there g c = c.requires.may.foremost.there.of

pub act_once-requires-clause-range : goal.act_once-requires-clause-range
act_once-requires-clause-range g c = c.requires.may.range

-- ---- its record is given

pub rekey_act-requires-then-act_once : goal.rekey_act-requires-then-act_once
rekey_act-requires-then-act_once g c = record {
  may = gave_may_set c.requires.may
      (turn g (goal.at.rekey_act-requires-then-act_once g c).After-reserve_two) c.act_once.ensures.sound c.act_once.ensures.machines
      (c.act_once.ensures.gives c.if-act_once.true)
      (numbered g (goal.at.rekey_act-requires-then-act_once g c).In-Ok);
}

pub returns-then-act_once : goal.returns-then-act_once
returns-then-act_once g c =
    let here = turn g (goal.at.returns-then-act_once g c).After-reserve_two in
    let numbers = numbered g (goal.at.returns-then-act_once g c).In-Ok in
    let once = c.act_once.ensures in
    let key = c.rekey_act-then-act_once.ensures in
    record {
      kept = gave_kept c.requires.may here
          once.sound once.machines
          (once.gives c.if-act_once.true) numbers key.timed key.sets;
      says = gave_says c.requires.may here
          once.sound once.machines
          (once.gives c.if-act_once.true) numbers key.sets;
      err = tt;
    }

-- ---- it goes on

pub left_to_do-left-requires : goal.left_to_do-left-requires
left_to_do-left-requires g c = record {
  sized = c.requires.may.well.sound.sized;
  there = c.requires.may.foremost.there.of;
  moment = c.moment_at-moment.ensures;
}

pub moment_at-moment-requires : goal.moment_at-moment-requires
moment_at-moment-requires g c = record {
  sized = c.requires.may.well.sound.sized;
  there =
      c.requires.may.foremost.there.of;
}

pub left_to_do-left-requires-in-acts : goal.left_to_do-left-requires-in-acts
left_to_do-left-requires-in-acts g c =
    let here = (goal.at.left_to_do-left-requires-in-acts g c).After-reserve_two in
    let on = c.act_once.ensures.goes_on c.if-act_once.false in
    record {
      sized = c.act_once.ensures.sound.sized;
      there = c.requires.may.foremost.there.of;
      moment = same_moment g here
          (same_then c.args.self.now (turn g here).same on.same);
    }

pub acts-preserved : goal.acts-preserved
acts-preserved g c =
    let once = c.act_once.ensures in
    turn_on g.C.Clock.last_step g.C.Clock.reading g.M.Machine.stands c.args.network.now c.args.part c.args.device
    c.args.self.now c.acts.left c.left_to_do-left-in-acts.result c.acts.acts
    (turn g (goal.at.acts-preserved g c).After-reserve_two)
    (due g (goal.at.acts-preserved g c).After-reserve_two) (numbered g (goal.at.acts-preserved g c).In-Ok)
    (once.goes_on c.if-act_once.false) once.sound once.machines c.left_to_do-left-in-acts.ensures
    c.requires.may.foremost.there.of
    (is_at c.requires.may tt)

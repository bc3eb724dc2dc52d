use Rattle.drift_world.{proofs.Turning.{after_then, kept_then}, specs.Turns.{IsKept, TurnsTo}}
use Rattle.drift_world.proofs.Words.{◌+◌, ◌∙◌, List, Note, ap, append-nil, arith, refl, subst, sym}
use Rattle.drift_world.{proofs.state.State.next.Goals.{After-turn, In-Ok-Ends, In-Ok-GoesOn}, specs.declared.next.Turn.TheVariants.{Ends, GoesOn}}
use Rattle.drift_world.proofs.state.State.next.Given as given
use Rattle.drift_world.proofs.state.State.next.Goals as goal

pub turns-init : goal.turns-init
turns-init g c = record {
  well = c.requires.may.well;
  after = record { clocks = refl; ended = refl; later = omega arith };
  still = λ s notes is. is;
  early = c.requires.may.early;
  given = refl;
}

pub turn-requires : goal.turn-requires
turn-requires g c =
    let may = c.requires.may in
    let before = c.turns.invariant in
    record {
      may = record {
        range = may.range;
        well = before.well;
        limit = may.limit;
        early = before.early;
        ended = λ is. let most = may.ended (sym before.after.ended ∙ is) in let later = before.after.later in
            omega arith;
      };
    }

-- with all turns before it
since : (g : given.Over) (c : After-turn g) {more : List Note}
    → IsKept g.C.Clock.last_step g.C.Clock.reading g.M.Machine.stands c.args.network.now c.turns.self c.turn.new.self more
    → IsKept g.C.Clock.last_step g.C.Clock.reading g.M.Machine.stands c.args.network.now c.args.self.now c.turn.new.self more
since g c {more} kept = kept_then
    c.turns.invariant.after c.turns.invariant.still kept

pub returns-in-Ok-Gives-clause-kept : goal.returns-in-Ok-Gives-clause-kept
returns-in-Ok-Gives-clause-kept g c =
    since g (goal.at.returns-in-Ok-Gives-clause-kept g c).After-turn
    (rw c.in-Ok-Gives.field-0-is at c.in-Ok-Gives.ensures.kept)

pub returns-in-Ok-Gives-clause-says : goal.returns-in-Ok-Gives-clause-says
returns-in-Ok-Gives-clause-says g c =
    let says = (subst (TurnsTo g.C.Clock.reading g.M.Machine.stands c.args.network.now c.args.until c.turns.self c.turn.new.self c.turn.new.note)
    c.in-Ok-Gives.field-0-is c.in-Ok-Gives.ensures.turns).says in
    (says.0, says.1, says.2 ∙ ap (λ n. n + 1) c.turns.invariant.given)

pub returns-in-Ok-Ends-clause-kept : goal.returns-in-Ok-Ends-clause-kept
returns-in-Ok-Ends-clause-kept g c =
    since g (goal.at.returns-in-Ok-Ends-clause-kept g c).After-turn
    (rw c.in-Ok-Ends.field-0-is at c.in-Ok-Ends.ensures.kept)

ended : (g : given.Over) (c : In-Ok-Ends g) → TurnsTo g.C.Clock.reading g.M.Machine.stands c.args.network.now c.args.until c.turns.self c.turn.new.self
    c.turn.new.note Ends
ended g c = subst (TurnsTo g.C.Clock.reading g.M.Machine.stands c.args.network.now c.args.until c.turns.self c.turn.new.self c.turn.new.note)
    c.in-Ok-Ends.field-0-is c.in-Ok-Ends.ensures.turns

pub returns-in-Ok-Ends-clause-complete : goal.returns-in-Ok-Ends-clause-complete
returns-in-Ok-Ends-clause-complete g c = λ s notes is none.
    (ended g (goal.at.returns-in-Ok-Ends-clause-complete g c).In-Ok-Ends).whole s notes (c.turns.invariant.still s notes is)

pub returns-in-Err-clause-kept : goal.returns-in-Err-clause-kept
returns-in-Err-clause-kept g c = since g (goal.at.returns-in-Err-clause-kept g c).After-turn c.in-Err.ensures.kept

gone_on : (g : given.Over) (c : In-Ok-GoesOn g) → TurnsTo g.C.Clock.reading g.M.Machine.stands c.args.network.now c.args.until c.turns.self c.turn.new.self
    c.turn.new.note GoesOn
gone_on g c =
    subst (TurnsTo g.C.Clock.reading g.M.Machine.stands c.args.network.now c.args.until c.turns.self c.turn.new.self c.turn.new.note) c.in-Ok-GoesOn.field-0-is
    c.in-Ok-GoesOn.ensures.turns

pub turns-preserved : goal.turns-preserved
turns-preserved g c =
    let before = c.turns.invariant in
    let says = (gone_on g (goal.at.turns-preserved g c).In-Ok-GoesOn).says in
    let kept = rw c.in-Ok-GoesOn.field-0-is at c.in-Ok-GoesOn.ensures.kept in
    record {
      well = kept.well;
      after = after_then before.after kept.after;
      still = λ s notes is.
          rw (append-nil notes) at (kept.stands_then s notes (before.still s notes is));
      early = says.0;
      given = says.1 ∙ before.given;
    }

pub turns-smaller : goal.turns-smaller
turns-smaller g c = (gone_on g (goal.at.turns-smaller g c).In-Ok-GoesOn).nears

use Rattle.drift_world.{proofs.Events.{IsThere, is_there, time_limit}}
use Rattle.drift_world.{specs.{Later.ComesBehind, Running.{event_note, option_given}}}
use Rattle.{drift_world.proofs.world.World.apply.Goals.In-Ok, net_plan.specs.declared.event.Event.Event}
use Rattle.drift_world.proofs.Words.{◌+◌, ◌∙◌, List, Network, Note}
use Rattle.drift_world.proofs.Words.{ap, append-nil, arith, both_ways, ints, sym}
use Rattle.drift_world.proofs.world.World.apply.Given as given
use Rattle.drift_world.proofs.world.World.apply.Goals as goal

pub next_given-requires : goal.next_given-requires
next_given-requires g c =
    let may = c.requires.may in
    let limit = time_limit may.events c.args.event.now may.comes.is.is.range may.comes.within in
    record {
      may = record {
        limit = omega (arith, ints);
        ended = λ ended. absurd (both_ways c.args.self.now.ended may.opens.unended ended);
      };
    }

pub returns-in-Err-clause-stands : goal.returns-in-Err-clause-stands
returns-in-Err-clause-stands g c = λ network events notes comes.
    let K = g.C.Clock in
    rw (append-nil notes) at (c.in-Err.ensures.stands network events notes comes.is)

-- the world is where the event may befall it
there : (g : given.Over) (c : In-Ok g) {network : Network} {events : List Event} {notes : List Note}
    → ComesBehind g.C.Clock.fresh g.C.Clock.after_step g.C.Clock.reading g.M.Machine.stands network c.args.self.now events notes c.args.event.now
    → IsThere g.C.Clock.fresh g.C.Clock.after_step g.C.Clock.reading g.M.Machine.stands network c.args.self.now c.next_given.new.self events notes
    c.args.event.now
there g c {network} {events} {notes} comes =
    let E = c.in-Ok.ensures in
    is_there c.args.self.now c.next_given.new.self comes
    c.requires.may.opens (option_given c.in-Ok.field-0 c.next_given.new.note) (E.stands network events notes comes.is) E.reached

own : (g : given.Over) (c : In-Ok g)
    → IsThere g.C.Clock.fresh g.C.Clock.after_step g.C.Clock.reading g.M.Machine.stands c.args.self.now.network c.args.self.now c.next_given.new.self
    c.requires.may.events c.requires.may.notes
    c.args.event.now
own g c = there g c c.requires.may.comes

pub befall-requires : goal.befall-requires
befall-requires g c =
    let may = c.requires.may in
    let mid = c.next_given.new.self in
    let event = c.args.event.now in
    let is = own g (goal.at.befall-requires g c).In-Ok in
    record {
      may = record {
        next = may.next ∙ ap (λ n. n + 1) (sym is.lines);
        now = is.opens;
        hold = may.hold;
        events = may.events;
        notes = may.notes;
        is = rw (sym is.same) at is.so;
        of_network = rw is.same may.of_network;
        within = rw is.same may.comes.within;
      };
    }

pub returns-in-Ok-befall-clause-stands : goal.returns-in-Ok-befall-clause-stands
returns-in-Ok-befall-clause-stands g c = λ network events notes comes.
    rw c.note.ensures (c.in-Ok-befall.ensures.stands network events notes
    (there g (goal.at.returns-in-Ok-befall-clause-stands g c).In-Ok comes).so comes.within)

pub returns-in-Ok-befall-clause-note : goal.returns-in-Ok-befall-clause-note
returns-in-Ok-befall-clause-note g c =
    c.note.ensures ∙ c.in-Ok-befall.ensures.note ∙ ap (λ n.
    event_note (n + 1) c.args.line c.args.event.now) (own g (goal.at.returns-in-Ok-befall-clause-note g c).In-Ok).given

pub returns-in-Ok-befall-clause-at : goal.returns-in-Ok-befall-clause-at
returns-in-Ok-befall-clause-at g c = record {
  now = rw c.befall.ensures.still.0 (own g (goal.at.returns-in-Ok-befall-clause-at g c).In-Ok).reached.time;
  early = c.befall.ensures.still.1 ∙ (own g (goal.at.returns-in-Ok-befall-clause-at g c).In-Ok).opens.early;
}

-- ---- where there was no memory for the event

pub returns-in-Err-befall-clause-stands : goal.returns-in-Err-befall-clause-stands
returns-in-Err-befall-clause-stands g c = λ network events notes comes.
    rw c.in-Err-befall.ensures.err (there g (goal.at.returns-in-Err-befall-clause-stands g c).In-Ok comes).so

pub returns-in-Err-befall-clause-err : goal.returns-in-Err-befall-clause-err
returns-in-Err-befall-clause-err g c =
    rw c.in-Err-befall.ensures.err (own g (goal.at.returns-in-Err-befall-clause-err g c).In-Ok).again

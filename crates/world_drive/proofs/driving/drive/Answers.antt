use Rattle.world_drive.{proofs.Words.{◌++◌, ◌<◌, ◌∷◌, MayGive, [], arith, refl}, specs.exact.Records.HaveEnded}
use Rattle.world_drive.{specs.Observing.start_by}
use Rattle.world_drive.proofs.Drives
use Drives.{asked_end, begun, comes_next, cut_at_end, cut_at_event, drives_all, drives_on, drives_so_far}
use Drives.{driving_first, given_end, given_one, in_range, may_meet, puts_more, puts_then, seen_then, sees_then}
use Rattle.world_drive.proofs.driving.drive.Goals.{In-Ok-false, In-Ok-true}
use Rattle.world_drive.proofs.driving.drive.Given as given
use Rattle.world_drive.proofs.driving.drive.Goals as goal

pub events-init : goal.events-init
events-init g c =
    driving_first g.K.Sink g.E.Events.gave g.O.Observer.sees c.args.from.now c.args.source.now c.args.observer.now _ _
    c.args.out.now c.requires.world c.requires.fresh c.requires.source c.requires.observer refl refl

-- one more event was given
one_given : (g : given.Over) (c : In-Ok-true g) → MayGive c.args.network.now c.events.invariant.events c.next_event.new.event
    × (g.E.Events.left c.next_event.new.self < g.E.Events.left c.events.source)
    × g.E.Events.gave c.args.network.now c.args.from.now c.args.source.now (c.events.invariant.events ++ c.next_event.new.event ∷ []) c.next_event.new.from
    c.next_event.new.self
one_given g c =
    let d = c.events.invariant in
    given_one g.E.Events.gave g.E.Events.ended g.E.Events.stopped g.E.Events.left c.args.network.now c.args.from.now c.args.source.now d.events
    c.in-Ok-true.field-0 c.next_event.new.event c.next_event.new.from c.events.source c.next_event.new.self c.events.out c.next_event.new.out
    c.in-Ok-true.field-0-test (c.in-Ok-true.ensures.gives c.args.network.now c.args.from.now c.args.source.now d.events d.gave)

-- all were given
all_given : (g : given.Over) (c : In-Ok-false g) → HaveEnded c.events.invariant.events
    × g.E.Events.ended c.args.network.now c.args.from.now c.args.source.now c.events.invariant.events c.next_event.new.from c.next_event.new.self
all_given g c =
    let d = c.events.invariant in
    given_end g.E.Events.gave g.E.Events.ended g.E.Events.stopped g.E.Events.left c.args.network.now c.args.from.now c.args.source.now d.events
    c.in-Ok-false.field-0 c.next_event.new.event c.next_event.new.from c.events.source c.next_event.new.self c.events.out c.next_event.new.out
    c.in-Ok-false.field-0-test (c.in-Ok-false.ensures.gives c.args.network.now c.args.from.now c.args.source.now d.events d.gave)

pub overflow_add-line : goal.overflow_add-line
overflow_add-line g c =
    let d = c.events.invariant in
    let n = one_given g (goal.at.overflow_add-line g c).In-Ok-true in
    let own = d.number in let room = n.0.number in omega (arith, own, room)

pub see_event-requires-clause-may : goal.see_event-requires-clause-may
see_event-requires-clause-may g c =
    let n = one_given g (goal.at.see_event-requires-clause-may g c).In-Ok-true in
    may_meet c.events.invariant c.next_event.new.out c.next_event.ensures.nothing_put c.in-Ok-true.ensures.quiet c.next_event.new.event n.0 _ refl

pub events-smaller : goal.events-smaller
events-smaller g c =
    let n = one_given g (goal.at.events-smaller g c).In-Ok-true in
    n.1

pub events-preserved : goal.events-preserved
events-preserved g c =
    let d = c.events.invariant in
    let n = one_given g (goal.at.events-preserved g c).In-Ok-true in
    drives_on d c.next_event.new.out c.next_event.ensures.nothing_put c.in-Ok-true.ensures.quiet c.next_event.new.event n.0 c.next_event.new.from c.next_event.new.self
    c.see_event.new.world c.see_event.new.observer _ c.see_event.new.out refl n.2
    (c.in-Ok.ensures.sees d.events d.notes (start_by g.K.Sink c.args.out.now c.args.observer.now)
    (comes_next d c.next_event.new.out c.next_event.ensures.nothing_put c.in-Ok-true.ensures.quiet c.next_event.new.event n.0)
    (sees_then d c.next_event.new.out c.next_event.ensures.nothing_put))
    c.in-Ok.ensures.reached
    (puts_more (tt {0})
    (puts_then d c.next_event.new.out c.next_event.ensures.nothing_put c.in-Ok-true.ensures.quiet) c.in-Ok.ensures.puts)

pub returns-in-Err-see_event : goal.returns-in-Err-see_event
returns-in-Err-see_event g c =
    let d = c.events.invariant in
    let n = one_given g (goal.at.returns-in-Err-see_event g c).In-Ok-true in
    cut_at_event d c.next_event.new.out c.next_event.ensures.nothing_put c.in-Ok-true.ensures.quiet c.next_event.new.event n.0 g.E.Events.ended g.O.Observer.stops
    c.in-Err-see_event.cut c.next_event.new.from c.next_event.new.self c.see_event.new.out n.2
    (c.in-Err-see_event.ensures.sees d.events d.notes (start_by g.K.Sink c.args.out.now c.args.observer.now)
    (comes_next d c.next_event.new.out c.next_event.ensures.nothing_put c.in-Ok-true.ensures.quiet c.next_event.new.event n.0)
    (sees_then d c.next_event.new.out c.next_event.ensures.nothing_put))
    c.in-Err-see_event.ensures.puts

pub next_unit-requires-clause-begun : goal.next_unit-requires-clause-begun
next_unit-requires-clause-begun g c = begun c.events.invariant

pub next_unit-requires-clause-limit : goal.next_unit-requires-clause-limit
next_unit-requires-clause-limit g c = in_range c.events.invariant

pub see_until-requires-clause-seen : goal.see_until-requires-clause-seen
see_until-requires-clause-seen g c =
    seen_then c.events.invariant c.next_event.new.out c.next_event.ensures.nothing_put

pub see_until-requires-clause-asked : goal.see_until-requires-clause-asked
see_until-requires-clause-asked g c =
    let n = all_given g (goal.at.see_until-requires-clause-asked g c).In-Ok-false in
    asked_end c.events.invariant c.next_event.new.out c.next_event.ensures.nothing_put c.in-Ok-false.ensures.quiet n.0 c.next_unit.result c.next_unit.ensures

pub returns-in-Ok-see_until : goal.returns-in-Ok-see_until
returns-in-Ok-see_until g c =
    let d = c.events.invariant in
    let n = all_given g (goal.at.returns-in-Ok-see_until g c).In-Ok-false in
    drives_all d c.next_event.new.out c.next_event.ensures.nothing_put c.in-Ok-false.ensures.quiet n.0 c.next_unit.result c.next_unit.ensures g.E.Events.ended
    c.next_event.new.from c.next_event.new.self c.see_until.new.world c.see_until.new.observer c.see_until.new.out n.1
    (c.in-Ok-see_until.ensures.sees d.events d.notes (start_by g.K.Sink c.args.out.now c.args.observer.now) d.stands
    (sees_then d c.next_event.new.out c.next_event.ensures.nothing_put))
    c.in-Ok-see_until.ensures.puts

pub returns-in-Err-see_until : goal.returns-in-Err-see_until
returns-in-Err-see_until g c =
    let d = c.events.invariant in
    let n = all_given g (goal.at.returns-in-Err-see_until g c).In-Ok-false in
    cut_at_end d c.next_event.new.out c.next_event.ensures.nothing_put c.in-Ok-false.ensures.quiet n.0 c.next_unit.result c.next_unit.ensures g.E.Events.ended
    g.O.Observer.stops c.in-Err-see_until.cut c.next_event.new.from c.next_event.new.self c.see_until.new.out n.1
    (c.in-Err-see_until.ensures.sees d.events d.notes (start_by g.K.Sink c.args.out.now c.args.observer.now) d.stands
    (sees_then d c.next_event.new.out c.next_event.ensures.nothing_put))
    c.in-Err-see_until.ensures.puts

pub returns-in-Err : goal.returns-in-Err
returns-in-Err g c =
    drives_so_far c.events.invariant c.next_event.new.out c.next_event.ensures.nothing_put g.E.Events.stopped c.in-Err.stop c.next_event.new.from c.next_event.new.self
    (c.in-Err.ensures.gives c.args.network.now c.args.from.now c.args.source.now c.events.invariant.events c.events.invariant.gave)

use Rattle.world_drive.proofs.exact_lemmas.Given.{comes_before}
use Rattle.world_drive.{specs.Seeing.SeesInstant}
use Rattle.world_drive.proofs.{Earlier.{amount_now, complete_past, given_in, instant_over, match_on, on_ok}}
use Rattle.world_drive.proofs.Drives.{cut_here, cut_one, puts_cut, puts_more, puts_none, puts_on, seen_none, seen_one}
use Rattle.world_drive.proofs.Words.{◌++◌, ◌+◌, ◌∙◌, ◌∷◌, CutsBefore, IsPast, None, Some, [], amount, arith, inr, ints, refl, told_by}
use Rattle.world_drive.proofs.seeing.see_instant.Goals as goal

pub notes-init : goal.notes-init
notes-init g c = record {
  sees = λ events notes old a b.
      seen_none g.O.Observer.sees (Some (amount c.args.time)) (amount c.args.time + 1) c.args.observer.now old
      (told_by g.K.Sink c.args.out.now) a.stands b;
  now = refl;
  puts = puts_none g.K.Sink c.args.out.now;
}

pub next_unit-requires-clause-begun : goal.next_unit-requires-clause-begun
next_unit-requires-clause-begun g c = let now = c.requires.seen.at.now in omega (arith, ints, now)

pub next_unit-requires-clause-limit : goal.next_unit-requires-clause-limit
next_unit-requires-clause-limit g c =
    let now = c.requires.seen.at.now in let limit = c.requires.seen.at.stands.is.limit in omega (arith, ints, now, limit)

pub next_given-requires : goal.next_given-requires
next_given-requires g c =
    let now = c.requires.seen.at.now in
    let limit = c.requires.seen.at.stands.is.limit in
    let same = c.notes.invariant.now in
    let after = c.next_unit.ensures in
    record { may = record { limit = omega (arith, ints, now, limit, after); ended = λ ended. omega (arith, ints, now, same, after) } }

pub record-requires-clause-may : goal.record-requires-clause-may
record-requires-clause-may g c =
    let network = c.args.network.now in
    let u = c.requires.seen in
    let h = c.notes.invariant.sees u.events u.notes u.old u.at u.sees in
    record {
      events = u.events;
      notes = u.notes ++ h.more;
      instant = Some (amount c.args.time);
      old = u.old;
      given = given_in network u.events (u.notes ++ h.more) c.next_given.new.note c.args.time c.next_unit.result c.args.world.now
          c.in-Ok-true.field-0 c.in-Ok-true.field-0-test h.stands
          (c.in-Ok-true.ensures.stands network u.events (u.notes ++ h.more) h.stands)
          (comes_before c.notes.world c.next_given.new.self c.next_unit.result c.in-Ok-true.field-0 c.next_given.new.note c.in-Ok-true.ensures.reached
          c.in-Ok-true.field-0-test) u.at.now c.notes.invariant.now c.next_unit.ensures;
      sees = h.sees;
    }

pub notes-smaller : goal.notes-smaller
notes-smaller g c = c.in-Ok-true.ensures.fewer c.in-Ok-true.field-0-test

pub notes-preserved : goal.notes-preserved
notes-preserved g c =
    let network = c.args.network.now in
    let time = c.args.time in
    let next = c.next_given.new.self in
    let sink = g.K.Sink in
    let u = c.requires.seen in
    let own = c.notes.invariant.sees u.events u.notes u.old u.at u.sees in
    let first = given_in network u.events (u.notes ++ own.more) c.next_given.new.note time c.next_unit.result
    c.args.world.now
    c.in-Ok-true.field-0 c.in-Ok-true.field-0-test own.stands (c.in-Ok-true.ensures.stands network u.events (u.notes ++ own.more) own.stands)
    (comes_before c.notes.world c.next_given.new.self c.next_unit.result c.in-Ok-true.field-0 c.next_given.new.note c.in-Ok-true.ensures.reached
    c.in-Ok-true.field-0-test) u.at.now c.notes.invariant.now c.next_unit.ensures in
    let here = first.here in
    record {
      sees = λ events notes old a b.
          let h = c.notes.invariant.sees events notes old a b in
          let given = given_in network events (notes ++ h.more) c.next_given.new.note time c.next_unit.result
          c.args.world.now
          c.in-Ok-true.field-0 c.in-Ok-true.field-0-test h.stands (c.in-Ok-true.ensures.stands network events (notes ++ h.more) h.stands)
          (comes_before c.notes.world c.next_given.new.self c.next_unit.result c.in-Ok-true.field-0 c.next_given.new.note c.in-Ok-true.ensures.reached
          c.in-Ok-true.field-0-test) a.now c.notes.invariant.now c.next_unit.ensures in
          seen_one g.O.Observer.sees network events notes (Some (amount time)) (amount time + 1) c.notes.world c.notes.observer old (told_by sink c.notes.out) h
          c.next_given.new.note next (omega (arith, here)) given.stands c.record.new.self (told_by sink c.record.new.out)
          (c.in-Ok.ensures.goes events (notes ++ h.more) (Some (amount time)) old given h.sees);
      now = here ∙ amount_now c.args.world.now time u.at.now;
      puts = puts_more c.in-Ok.field-0 c.notes.invariant.puts c.in-Ok.ensures.puts;
    }

pub returns-in-Err-record-clause-sees : goal.returns-in-Err-record-clause-sees
returns-in-Err-record-clause-sees g c events notes old a b =
    let network = c.args.network.now in
    let time = c.args.time in
    let next = c.next_given.new.self in
    let sink = g.K.Sink in
    let h = c.notes.invariant.sees events notes old a b in
    let given = given_in network events (notes ++ h.more) c.next_given.new.note time c.next_unit.result c.args.world.now
    c.in-Ok-true.field-0 c.in-Ok-true.field-0-test h.stands (c.in-Ok-true.ensures.stands network events (notes ++ h.more) h.stands)
    (comes_before c.notes.world c.next_given.new.self c.next_unit.result c.in-Ok-true.field-0 c.next_given.new.note c.in-Ok-true.ensures.reached
    c.in-Ok-true.field-0-test) a.now c.notes.invariant.now c.next_unit.ensures in
    let here = given.here in
    cut_one g.O.Observer.sees network events notes (Some (amount time)) (amount time + 1) c.notes.world c.notes.observer old (told_by sink c.notes.out) h
    c.next_given.new.note next (omega (arith, here)) given.stands g.O.Observer.stops c.in-Err-record.cut (told_by sink c.record.new.out)
    (c.in-Err-record.ensures.goes events (notes ++ h.more) (Some (amount time)) old given h.sees)

pub returns-in-Err-record-clause-puts : goal.returns-in-Err-record-clause-puts
returns-in-Err-record-clause-puts g c =
    puts_cut c.in-Err-record.cut c.notes.invariant.puts c.in-Err-record.ensures.puts

pub instant-requires-clause-may : goal.instant-requires-clause-may
instant-requires-clause-may g c =
    let network = c.args.network.now in
    let u = c.requires.seen in
    let now = u.at.now in
    let limit = u.at.stands.is.limit in
    let h = c.notes.invariant.sees u.events u.notes u.old u.at u.sees in
    let over = instant_over h.more c.next_unit.result
    c.in-Ok-false.field-0 c.next_given.new.note c.in-Ok-false.field-0-test u.at h.stands c.notes.invariant.now c.next_unit.ensures
    (c.in-Ok-false.ensures.stands network u.events (u.notes ++ h.more) h.stands)
    (c.in-Ok-false.ensures.complete network u.events (u.notes ++ h.more) h.stands) c.in-Ok-false.ensures.reached in
    record {
      begun = omega (arith, ints, now);
      limit = omega (arith, ints, now, limit);
      events = u.events;
      notes = u.notes ++ h.more;
      old = u.old;
      complete = complete_past network u.events u.notes h.more u.at over.stands over.past over.all;
      sees = h.sees;
    }

pub returns-in-Ok-false-clause-sees : goal.returns-in-Ok-false-clause-sees
returns-in-Ok-false-clause-sees g c events notes old a b =
    let network = c.args.network.now in
    let time = c.args.time in
    let next = c.next_given.new.self in
    let put = told_by g.K.Sink c.instant.new.out in
    let see = g.O.Observer.sees in
    let stop = g.O.Observer.stops in
    let h = c.notes.invariant.sees events notes old a b in
    let ns = notes ++ h.more in
    let over = instant_over h.more c.next_unit.result
    c.in-Ok-false.field-0 c.next_given.new.note c.in-Ok-false.field-0-test a h.stands c.notes.invariant.now c.next_unit.ensures
    (c.in-Ok-false.ensures.stands network events ns h.stands) (c.in-Ok-false.ensures.complete network events ns h.stands) c.in-Ok-false.ensures.reached in
    match_on c.instant.result (λ _. see network events ns None old put c.instant.new.self)
    (λ _. SeesInstant see network events notes time next c.instant.new.self old put)
    (λ cut. stop network events ns cut old put) (λ cut. CutsBefore stop network events notes (amount time + 1) cut old put)
    (λ _ sees. record { more = h.more; stands = over.stands; sees = sees; all = over.all })
    (λ cut stops. record { more = h.more; earlier = inr ((amount time + 1) ∷ [], λ p before. before, over.all); stops = stops })
    (c.instant.ensures.goes events ns old (complete_past network events notes h.more a over.stands over.past
    over.all) h.sees)

pub returns-in-Ok-false-clause-past : goal.returns-in-Ok-false-clause-past
returns-in-Ok-false-clause-past g c =
    let network = c.args.network.now in
    let u = c.requires.seen in
    let h = c.notes.invariant.sees u.events u.notes u.old u.at u.sees in
    let over = instant_over h.more c.next_unit.result
    c.in-Ok-false.field-0 c.next_given.new.note c.in-Ok-false.field-0-test u.at h.stands c.notes.invariant.now c.next_unit.ensures
    (c.in-Ok-false.ensures.stands network u.events (u.notes ++ h.more) h.stands)
    (c.in-Ok-false.ensures.complete network u.events (u.notes ++ h.more) h.stands) c.in-Ok-false.ensures.reached in
    on_ok c.instant.result (IsPast c.args.world.now c.next_given.new.self) over.past

pub returns-in-Ok-false-clause-puts : goal.returns-in-Ok-false-clause-puts
returns-in-Ok-false-clause-puts g c = puts_on c.instant.result c.notes.invariant.puts c.instant.ensures.puts

pub returns-in-Err-clause-sees : goal.returns-in-Err-clause-sees
returns-in-Err-clause-sees g c events notes old a b =
    let h = c.notes.invariant.sees events notes old a b in
    cut_here g.O.Observer.sees c.args.network.now events notes (Some (amount c.args.time)) (amount c.args.time + 1) c.notes.world c.notes.observer old
    (told_by g.K.Sink c.notes.out) h g.O.Observer.stops _
    (g.met.O.Observer.cut c.args.network.now events (notes ++ h.more) (Some (amount c.args.time)) old (told_by g.K.Sink c.notes.out) c.notes.observer h.sees)

use Rattle.audit_sweep.proofs.Lacks.{end_of_some, knows_of_some, range_of_some, time_within}
use Rattle.run_law.specs.records.Order.{AllBefore}
use Rattle.audit_sweep.proofs.Words.{IsDue, amount, ap, arith, founded_of_sound, happening, inl, place_of, scenario_under, subst, sym}
use Rattle.audit_sweep.proofs.sweep.Sweep.sound_place.Goals as goal

pub place_of-place-requires-clause-range : goal.place_of-place-requires-clause-range
place_of-place-requires-clause-range c = range_of_some c.requires.swept

pub place_of-place-requires-clause-begun : goal.place_of-place-requires-clause-begun
place_of-place-requires-clause-begun c = (c.is_timely.ensures.0 c.if-not-is_timely.false).0

pub is_due-requires : goal.is_due-requires
is_due-requires c =
    let timely = c.is_timely.ensures.0 c.if-not-is_timely.false in
    let end = end_of_some c.requires.swept in
    record {
      range = range_of_some c.requires.swept;
      known = knows_of_some c.requires.swept;
      judgeable = record { of_network = c.requires.named; begun = timely.0; timely = omega (arith, timely.1, end) };
    }

pub returns-then-is_due-clause-judgeable : goal.returns-then-is_due-clause-judgeable
returns-then-is_due-clause-judgeable c =
    let timely = c.is_timely.ensures.0 c.if-not-is_timely.false in
    let end = end_of_some c.requires.swept in
    record { of_network = c.requires.named; begun = timely.0; timely = omega (arith, timely.1, end) }

pub returns-then-is_due-clause-sound : goal.returns-then-is_due-clause-sound
returns-then-is_due-clause-sound c befallen end hs w b =
    let s = scenario_under c.args.self.now.network.now befallen in
    let place = c.place_of-place.ensures hs w.known.records in
    let before = subst (AllBefore place_of hs) place ((c.are_before.ensures hs w.places).0 c.if-not-are_before.false) in
    let number = (c.is_next.ensures hs w.paid).0 c.if-not-is_next.false in
    let due = c.is_due.ensures befallen hs w.known (founded_of_sound place_of (IsDue s) _ hs w.sound) before number b in
    let timely = (c.is_timely.ensures.0 c.if-not-is_timely.false).1 in
    let end_is = ap amount w.ends in
    record {
      sound = record { behind_all = before; due = due.0 c.if-is_due.true; within = inl (omega (arith, timely, end_is)) };
      is = place;
    }

pub returns-else-is_due-clause-sound : goal.returns-else-is_due-clause-sound
returns-else-is_due-clause-sound c befallen end hs w b sound =
    let s = scenario_under c.args.self.now.network.now befallen in
    let number = (c.is_next.ensures hs w.paid).0 c.if-not-is_next.false in
    let due = c.is_due.ensures befallen hs w.known (founded_of_sound place_of (IsDue s) _ hs w.sound) sound.behind_all number b in
    let yes = due.1 sound.due in
    let no = c.if-is_due.false in cc

pub returns-then-not-are_before-clause-sound : goal.returns-then-not-are_before-clause-sound
returns-then-not-are_before-clause-sound c befallen end hs w b sound =
    let place = c.place_of-place.ensures hs w.known.records in
    let yes = (c.are_before.ensures hs w.places).1 (subst (AllBefore place_of hs) (sym place) sound.behind_all) in
    let no = c.if-not-are_before.true in cc

pub returns-then-not-is_timely-clause-sound : goal.returns-then-not-is_timely-clause-sound
returns-then-not-is_timely-clause-sound c befallen end hs w b sound =
    let timely = time_within (happening c.args.self.now.network.now hs c.args.note.now) (amount end) sound.within in
    let end_is = ap amount w.ends in
    let yes = c.is_timely.ensures.1 (sound.due.begun, omega (arith, timely, end_is)) in
    let no = c.if-not-is_timely.true in cc

pub returns-then-not-is_next-clause-sound : goal.returns-then-not-is_next-clause-sound
returns-then-not-is_next-clause-sound c befallen end hs w b sound =
    let yes = (c.is_next.ensures hs w.paid).1 sound.due.number in
    let no = c.if-not-is_next.true in cc

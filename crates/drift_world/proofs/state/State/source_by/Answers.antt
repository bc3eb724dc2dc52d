use Rattle.drift_world.proofs.Foremost.{arrival_first, clock_first, departure_first, due_after, events_first, from_some}
use Rattle.drift_world.proofs.Foremost.{none_before, place_after, placed, slot_first}
use Rattle.drift_world.proofs.state.State.source_by.Goals.{else-self-2-via-else-self-2}
use Rattle.drift_world.proofs.state.State.source_by.Goals.{else-self-2-via-then-self-2+else-self-as_slice}
use Rattle.drift_world.proofs.Words.{SlotTimer, IsFirst, ap, arith, both_ways, length, refl}
use Rattle.drift_world.proofs.state.State.source_by.Goals as goal

pub returns-then-self-clause-foremost : goal.returns-then-self-clause-foremost
returns-then-self-clause-foremost g c = record {
  there = c.if-self.true;
  nothing = events_first c.requires.may.well c.requires.firsts;
}

pub returns-in-Some-clause-foremost : goal.returns-in-Some-clause-foremost
returns-in-Some-clause-foremost g c =
    let is = c.in-Some.ensures.some in
    let at = placed c.requires.may.well
    c.requires.firsts is.0 in
    record {
      there = record {
        first = from_some (λ q. IsFirst c.args.self.now.under_way.entries q) c.args.place c.requires.firsts.some_place
            is.0;
        now = is.1;
        rank_is = is.2;
        device = at.0;
        link = at.1;
      };
      nothing = arrival_first
          c.requires.may.well c.requires.firsts c.if-self.false is.0 is.1 is.2;
    }

pub returns-in-Some-slot_at-clause-foremost : goal.returns-in-Some-slot_at-clause-foremost
returns-in-Some-slot_at-clause-foremost g c =
    let first = c.in-Some-slot_at.first in
    let d : SlotTimer = record { time = c.args.self.now.time; rank = first.rank; slot = first.slot } in
    record {
      there = c.source_of_slot.ensures.there;
      nothing = slot_first
          c.requires.may.well c.requires.firsts d _ c.if-self.false c.in_default.ensures.none c.in-Some-slot_at.ensures.some refl
          c.source_of_slot.ensures.place;
    }

pub returns-in-Some-placed_at-clause-foremost : goal.returns-in-Some-placed_at-clause-foremost
returns-in-Some-placed_at-clause-foremost g c =
    let is = c.in-Some-placed_at.ensures.some in
    let q = c.in-Some-placed_at.departure in
    let at = placed c.requires.may.well
    c.requires.firsts is.0 in
    record {
      there = record {
        first = from_some (λ p. IsFirst c.args.self.now.under_way.entries p) c.args.place c.requires.firsts.some_place
            is.0;
        now = is.1;
        rank_is = is.2;
        device = at.0;
        link = at.1;
      };
      nothing = departure_first
          c.requires.may.well c.requires.firsts q c.if-self.false c.in_default-slot_at.ensures.none is.0 is.1 is.2;
    }

pub returns-then-self-as_slice-clause-foremost : goal.returns-then-self-as_slice-clause-foremost
returns-then-self-as_slice-clause-foremost g c =
    let more = c.if-self-as_slice.true in
    let len = ap length c.as_slice.ensures in
    record {
      there = record { ended = c.if-self-2.true; next = refl; more = omega arith };
      nothing = clock_first
          c.requires.may.well c.requires.firsts c.if-self.false c.in_default.ensures.none c.in_default-slot_at.ensures.none
          c.in_default-placed_at.ensures.none;
    }

pub returns-clause-foremost : goal.returns-clause-foremost
returns-clause-foremost g c =
    let within = c.least_of.ensures.within in
    let limit = c.requires.may.limit in
    record {
      there = c.least_of.ensures.later c.args.self.now.time c.requires.may.early
          (place_after
          c.requires.may.well c.requires.firsts c.in_default.ensures.none c.in_default-placed_at.ensures.none)
          (due_after
          c.requires.may.well c.requires.firsts c.in_default-slot_at.ensures.none);
      nothing = none_before
          c.requires.may.well c.requires.firsts c.least_of.result (omega arith) c.if-self.false
          (λ ended more. elim c.else-self-2.branch [
            | else-self-2-via-then-self-2+else-self-as_slice v ↦
                let len = ap length v.as_slice.ensures in let test = v.if-self-as_slice.false in omega arith
            | else-self-2-via-else-self-2 v ↦ both_ways c.args.self.now.ended v.if-self-2.false ended
          ])
          c.least_of.ensures.place c.least_of.ensures.due;
    }

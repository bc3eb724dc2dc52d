use Rattle.tte_audit.{specs.Swift.AreAt}
use Rattle.tte_audit.proofs.{ReportText.{events_paid, indexed, no_octets_left, passes, shorter}}
use Rattle.tte_audit.proofs.{RightEvents.{ends_soon, only_end}, Sweeping.{at_first, at_last, goes_on}}
use Rattle.tte_audit.proofs.{Words.{◌≡◌, arith, events_of, happenings, length, rules, subst, sym}}
use Rattle.tte_audit.proofs.swift.swept.Goals as goal

pub new-requires-clause-timely : goal.new-requires-clause-timely
new-requires-clause-timely c =
    let told = c.requires.sought in
    ends_soon told.0 c.in-Some.end c.requires.named.in_range told.1.right
    (told.1.follows.ends c.in-Some.end c.in-Some.is)

pub records-init : goal.records-init
records-init c =
    let network = c.args.network.now in
    let report = c.args.report.now in
    let told = c.requires.sought in
    let notes = told.0 in
    let end = c.in-Some.end in
    let ends = told.1.follows.ends end c.in-Some.is in
    let placed = subst (λ ps. AreAt network report ps notes) (sym c.as_slice.ensures.value) told.1.placed in
    record {
      notes = notes;
      end = end;
      right = told.1.right;
      ends = ends;
      way = at_first report notes c.as_slice.result.now placed
          (c.in-Ok.ensures (events_of notes) told.1.follows.remembers (only_end network notes end told.1.right ends));
      few = omega arith;
    }

pub overflow_add-records : goal.overflow_add-records
overflow_add-records c =
    let few = c.records.invariant.few in
    let short = c.requires.short in
    omega (arith, few, short)

pub take_line-requires-clause-swept : goal.take_line-requires-clause-swept
take_line-requires-clause-swept c =
    let on = c.records.invariant in
    (c.args.network.now, events_of on.notes, on.end, happenings c.args.network.now on.way.taken, on.way.swept)

pub take_line-requires-clause-same : goal.take_line-requires-clause-same
take_line-requires-clause-same c = c.records.invariant.way.swept.of_network

pub records-smaller : goal.records-smaller
records-smaller c =
    let gone = c.in-Some-take_line.ensures in
    let less = shorter gone.1.begins in
    omega (arith, less)

pub records-preserved : goal.records-preserved
records-preserved c =
    let network = c.args.network.now in
    let on = c.records.invariant in
    let left = c.records.left in
    let next = c.in-Some-take_line.next in
    let gone = c.in-Some-take_line.ensures in
    let less = shorter gone.1.begins in
    let few = on.few in
    record {
      notes = on.notes;
      end = on.end;
      right = on.right;
      ends = on.ends;
      way = goes_on c.args.report.now left.octets.now next.octets.now on.notes on.end left.places.now next.places.now
          c.records.records c.records.sweep c.take_line.new.sweep gone.0 c.requires.named on.right on.way gone.1 gone.2 gone.3;
      few = omega (arith, less, few);
    }

pub first_lack-requires : goal.first_lack-requires
first_lack-requires c =
    let on = c.records.invariant in
    record { swept = (c.args.network.now, events_of on.notes, on.end, happenings c.args.network.now on.way.taken, on.way.swept) }

pub returns : goal.returns
returns c =
    let network = c.args.network.now in
    let octets = c.args.report.now in
    let on = c.records.invariant in
    let left = c.records.left in
    let empty : length left.octets.now ≡ 0 = search rules in
    let none : length left.places.now ≡ 0 = search rules in
    let last = at_last on.way on.ends (no_octets_left left.octets.now empty) (no_octets_left left.places.now none) in
    let lacks = c.in-None-first_lack.ensures network (events_of last.taken) on.end (happenings network last.taken) last.swept
    (λ line owes. events_paid network last.taken last.of.right owes) in
    record {
      audited = passes network octets last.taken on.end c.records.records c.requires.named last.of last.counted last.swept.sound lacks;
      index = indexed network octets last.taken on.end c.requires.named last.of
          (c.into_index.ensures network (events_of last.taken) on.end (happenings network last.taken) last.swept);
    }

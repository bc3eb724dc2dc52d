use Rattle.audit_sweep.proofs.Lacks.{clock_found, from_arrival, none_some}
use Rattle.drift_clock.specs.{Reach.IsReach, transparent.Points.point_of}
use Rattle.audit_sweep.proofs.Words.{◌∙◌, ◌≡◌, Happening, KeptRecord, Some, ap, clock_reading, numbered, one, pos, refl, subst, sym, time_of, ℕ}
use Rattle.{audit_sweep.specs.Ripenings.waiting_clock, std.proofs.lemmas.Bool.both_ways}
use Rattle.audit_sweep.proofs.ripening.permanent_frame.Goals as goal

pub returns-in-None : goal.returns-in-None
returns-in-None c befallen hs k frame point x = none_some x.arrival (sym (c.in-None.ensures hs k.records) ∙ x.there)

pub returns-in-None-frame : goal.returns-in-None-frame
returns-in-None-frame c befallen hs k frame point x =
    let found = c.in-Some.ensures hs k.records in
    let same = one (numbered hs c.args.passage.cause) x.arrival found.0 x.there found.1 in
    none_some frame (sym c.in-None-frame.is ∙ ap (λ (r : KeptRecord). r.frame) found.2 ∙ sym (ap (λ (h : Happening). h.frame) same) ∙ x.of_frame)

pub returns-then-not-waits_for : goal.returns-then-not-waits_for
returns-then-not-waits_for c befallen hs k frame point x = both_ways c.waits_for.result c.if-not-waits_for.true (c.waits_for.ensures ∙ x.waits)

pub returns-then-is_broken : goal.returns-then-is_broken
returns-then-is_broken c befallen hs k frame point x =
    both_ways c.is_broken.result (c.is_broken.ensures c.args.network.now befallen k.events c.requires.passable.there ∙ x.correct) c.if-is_broken.true

pub point_reached-requires-clause-young : goal.point_reached-requires-clause-young
point_reached-requires-clause-young c =
    let k = c.requires.known.2 in
    let found = c.in-Some.ensures c.requires.known.1 k.records in
    let p = c.args.passage in
    let kept = ap (λ (r : KeptRecord). waiting_clock p.device p.link r.kept) found.2 in
    let body = from_arrival p.device p.link c.in-Some-waiting_clock.clock found.0.note.body
    (sym kept ∙ sym c.waiting_clock.ensures ∙ c.in-Some-waiting_clock.is) in
    k.young p.cause found.0 p.device p.link body.0 c.in-Some-waiting_clock.clock found.1 body.1

pub returns-in-Some-point_reached : goal.returns-in-Some-point_reached
returns-in-Some-point_reached c befallen hs k =
    let reading : ℕ → ℕ = clock_reading c.args.network.now befallen c.args.passage.device in
    let found = c.in-Some.ensures hs k.records in
    let p = c.args.passage in
    let kept = ap (λ (r : KeptRecord). waiting_clock p.device p.link r.kept) found.2 in
    let body = from_arrival p.device p.link c.in-Some-waiting_clock.clock found.0.note.body
    (sym kept ∙ sym c.waiting_clock.ensures ∙ c.in-Some-waiting_clock.is) in
    let at = ap (λ (r : KeptRecord). r.time) found.2 in
    let first = c.in-Some-point_reached.ensures befallen hs k in
    record {
      arrival = found.0;
      there = found.1;
      from = body.0;
      clock = c.in-Some-waiting_clock.clock;
      arrived = body.1;
      of_frame = sym (ap (λ (r : KeptRecord). r.frame) found.2) ∙ c.in-Some-frame.is;
      waits = sym c.waits_for.ensures ∙ c.if-not-waits_for.false;
      at_point = first.point_is ∙ ap (λ (n : ℕ). point_of (pos (reading n)) c.in-Some-waiting_clock.clock c.args.network.now.dmax.0) at;
      reached = subst (λ n. IsReach reading (pos n) c.in-Some-point_reached.point.0 (pos p.time)) at first.reached;
      correct = sym (c.is_broken.ensures c.args.network.now befallen k.events c.requires.passable.there) ∙ c.if-is_broken.false;
    }

pub returns-in-None-point_reached : goal.returns-in-None-point_reached
returns-in-None-point_reached c befallen hs k frame point x =
    let reading : ℕ → ℕ = clock_reading c.args.network.now befallen c.args.passage.device in
    let found = c.in-Some.ensures hs k.records in
    let p = c.args.passage in
    let dmax = c.args.network.now.dmax.0 in
    let same = one (numbered hs p.cause) x.arrival found.0 x.there found.1 in
    let own = sym (clock_found p.device p.link x.from x.clock c.in-Some.kept.now x.arrival found.0 found.2 same x.arrived)
    ∙ sym c.waiting_clock.ensures ∙ c.in-Some-waiting_clock.is in
    let clocks : x.clock ≡ c.in-Some-waiting_clock.clock = one (Some x.clock) x.clock c.in-Some-waiting_clock.clock refl own in
    let at : time_of x.arrival ≡ c.in-Some.kept.now.time = ap time_of same ∙ sym (ap (λ (r : KeptRecord). r.time) found.2) in
    let here = x.at_point
    ∙ ap (λ (n : ℕ). point_of (pos (reading n)) x.clock dmax) at
    ∙ ap (λ n. point_of (pos (reading c.in-Some.kept.now.time)) n dmax) clocks in
    c.in-None-point_reached.ensures befallen hs k
    (subst (λ z. IsReach reading (pos c.in-Some.kept.now.time) z (pos p.time)) here
    (subst (λ n. IsReach reading (pos n) point.0 (pos p.time)) at x.reached))

pub returns-in-None-waiting_clock : goal.returns-in-None-waiting_clock
returns-in-None-waiting_clock c befallen hs k frame point x =
    let found = c.in-Some.ensures hs k.records in
    let p = c.args.passage in
    let same = one (numbered hs p.cause) x.arrival found.0 x.there found.1 in
    let own = clock_found p.device p.link x.from x.clock c.in-Some.kept.now x.arrival found.0 found.2 same x.arrived in
    none_some x.clock (sym c.in-None-waiting_clock.is ∙ c.waiting_clock.ensures ∙ own)

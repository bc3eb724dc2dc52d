use Rattle.{audit_sweep.proofs.Words.{◌∙◌, ap, arith, clock_reading, pos, subst, sym, ℕ}, drift_clock.specs.{Reach.IsReach, transparent.Points.point_of}}
use Rattle.audit_sweep.proofs.ripening.point_reached.Goals as goal

pub point_of-point-requires-clause-low : goal.point_of-point-requires-clause-low
point_of-point-requires-clause-low c =
    let k = c.requires.known.2 in
    let n = c.args.network.now in
    let on = c.reading_law.ensures n c.requires.known.0 c.args.device k.events.range k.events.within k.events.begun in
    let bound = on.bound c.args.arrived (omega (arith, c.requires.limit, c.if-time-arrived.false)) in
    let read = c.reading.ensures n c.requires.known.0 k.events c.requires.there in
    omega (arith, bound, read)

pub returns-then-is_first_read : goal.returns-then-is_first_read
returns-then-is_first_read c befallen hs k =
    let n = c.args.network.now in
    let reading : ℕ → ℕ = clock_reading n befallen c.args.device in
    let on = c.reading_law.ensures n befallen c.args.device k.events.range k.events.within k.events.begun in
    let first = c.is_first_read.ensures reading on.never_falls (c.reading-now.ensures n befallen k.events c.requires.there)
    (c.reading-before.ensures n befallen k.events c.requires.there ∙ ap reading c.saturating_sub.ensures) in
    record {
      point_is = c.point_of-point.ensures ∙ ap (λ r. point_of (pos r) c.args.clock n.dmax.0) (c.reading.ensures n befallen k.events c.requires.there);
      reached = first.0 c.if-is_first_read.true;
    }

pub returns-else-is_first_read : goal.returns-else-is_first_read
returns-else-is_first_read c befallen hs k x =
    let n = c.args.network.now in
    let reading : ℕ → ℕ = clock_reading n befallen c.args.device in
    let on = c.reading_law.ensures n befallen c.args.device k.events.range k.events.within k.events.begun in
    let first = c.is_first_read.ensures reading on.never_falls (c.reading-now.ensures n befallen k.events c.requires.there)
    (c.reading-before.ensures n befallen k.events c.requires.there ∙ ap reading c.saturating_sub.ensures) in
    let point = c.point_of-point.ensures ∙ ap (λ r. point_of (pos r) c.args.clock n.dmax.0) (c.reading.ensures n befallen k.events c.requires.there) in
    let yes = first.1 (subst (λ z. IsReach reading (pos c.args.arrived) z (pos c.args.time)) (sym point) x) in
    let no = c.if-is_first_read.false in cc

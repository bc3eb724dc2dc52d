use Rattle.{std.proofs.lemmas.Int.ints, tte_forms.specs.{Answering.{Gives, line_answer}, Putting.shown_by}, tte_traces.specs.Ending.RunEnds}
use Rattle.tte_observers.{proofs.stamps_lemmas.{Stamped.{first_stamps, stamps_along}, Words.{unsigned_abs, ℕ}}}
use Rattle.tte_observers.{specs.stamps.Answer.granule_line}
use Rattle.tte_observers.{proofs.stamps_lemmas.LineStamps.{less_of, no_granule, not_less_of, not_read, stamp_status}}
use Rattle.tte_observers.{specs.declared.stamps.stamper.Stamper.Stamper}
use Rattle.tte_observers.proofs.stamps_lemmas.Words.{◌≡◌, GranuleRefused, IsTraceAnswer, ap, arith, inl, inr, least_granule, refl, stamp_lines, subst, told_by}
use Rattle.tte_observers.proofs.stamps.stamping.stamp_network.Goals as goal

pub follow_trace-requires : goal.follow_trace-requires
follow_trace-requires g c = (refl, first_stamps c.in-Some.granule c.args.accepted.now (told_by g.K.Sink c.args.out.now))

pub returns-in-Some-clause-statuses : goal.returns-in-Some-clause-statuses
returns-in-Some-clause-statuses g c = stamp_status c.follow_trace.result c.follow_trace.ensures.statuses

pub returns-in-Some-clause-ends : goal.returns-in-Some-clause-ends
returns-in-Some-clause-ends g c =
    let network = c.args.accepted.now in
    let units = c.in-Some.granule in
    let same = ap unsigned_abs c.in-Some.ensures.granule in
    let ends = c.follow_trace.ensures.ends (stamp_lines units) (stamps_along (λ (o : Stamper). o.granule) _) in
    inr (
      not_less_of c.args.granule.0 (least_granule network) c.requires.least (λ less. (let no = c.in-Some.ensures.refused.1 less in cc)),
      subst (λ (n : ℕ). RunEnds (λ trace. IsTraceAnswer (stamp_lines n) trace network) (stamp_lines n) network (g.B.Source.left c.args.second.now)
          (g.B.Source.left c.follow_trace.new.second) c.follow_trace.result (shown_by g.K.Sink c.args.out.now) (shown_by g.K.Sink c.follow_trace.new.out)) same
          ends,
      no_granule c.follow_trace.result c.follow_trace.ensures.statuses,
    )

pub returns-in-None-clause-ends : goal.returns-in-None-clause-ends
returns-in-None-clause-ends g c =
    let network = c.args.accepted.now in
    let least = c.least.ensures.value in
    let whole = c.amount.ensures.whole in
    let is : c.amount.result ≡ least_granule network = omega (arith, ints, least, whole) in
    inl (
      less_of c.args.granule.0 _ (least_granule network) c.requires.least refl (c.in-None.ensures.refused.0 refl),
      subst (λ n. Gives (line_answer GranuleRefused (granule_line n)) c.put_refused_granule.result (shown_by g.K.Sink c.args.out.now)
          (shown_by g.K.Sink c.put_refused_granule.new.out)) is c.put_refused_granule.ensures.gives,
      not_read c.put_refused_granule.result c.put_refused_granule.ensures.status,
      refl,
    )

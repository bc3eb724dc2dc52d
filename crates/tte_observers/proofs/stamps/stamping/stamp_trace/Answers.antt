use Rattle.tte_forms.{proofs.networks.Answers.{files_accepted, files_refused}, specs.{Putting.shown_by, networks.Accepting.refusal_lines}}
use Rattle.tte_observers.proofs.stamps_lemmas.{LineStamps.{general_of, little_of, stamp_safe, stops_of}}
use Rattle.tte_observers.proofs.stamps_lemmas.{Words.{IsStampAnswer, amount, inl, inr, refl}}
use Rattle.tte_traces.proofs.Runs.{safely_accepted, safely_refused}
use Rattle.tte_observers.specs.stamps.Safely.{IsStampRefusal, IsStampedRun, IsStampedToFault}
use Rattle.tte_observers.proofs.stamps.stamping.stamp_trace.Goals as goal

pub returns-in-Ok-clause-general : goal.returns-in-Ok-clause-general
returns-in-Ok-clause-general g c =
    let left = g.B.Source.left in
    files_accepted refusal_lines (IsStampAnswer c.args.granule) (g.A.Source.left c.args.first.now) (left c.args.second.now) c.in-Ok.accepted
    c.stamp_network.result _ _ c.in-Ok.ensures.accepted
    (general_of c.args.granule c.in-Ok.accepted (left c.args.second.now) (left c.stamp_network.new.second) c.stamp_network.result _ _ c.in-Ok.ensures.range
    c.stamp_network.ensures.ends)

pub returns-in-Err-clause-general : goal.returns-in-Err-clause-general
returns-in-Err-clause-general g c =
    files_refused refusal_lines (IsStampAnswer c.args.granule) (g.A.Source.left c.args.first.now) (g.B.Source.left c.args.second.now) c.in-Err.cause
    c.put_no_network.result _ _ c.in-Err.ensures.none c.put_no_network.ensures.gives c.put_no_network.ensures.unput

pub returns-in-Ok-clause-safe : goal.returns-in-Ok-clause-safe
returns-in-Ok-clause-safe g c =
    let left = g.B.Source.left in
    let units = amount c.args.granule in
    safely_accepted (IsStampedRun units) (IsStampedToFault units) IsStampRefusal refusal_lines (λ reason. inl (reason, refl))
    (g.A.Source.left c.args.first.now) (left c.args.second.now) c.stamp_network.result _ _ c.in-Ok.accepted
    (λ trace. IsStampAnswer c.args.granule trace c.in-Ok.accepted) (stamp_safe c.args.granule c.in-Ok.accepted c.in-Ok.ensures.range)
    c.in-Ok.ensures.accepted
    (general_of c.args.granule c.in-Ok.accepted (left c.args.second.now) (left c.stamp_network.new.second) c.stamp_network.result _ _ c.in-Ok.ensures.range
    c.stamp_network.ensures.ends)

pub returns-in-Err-clause-safe : goal.returns-in-Err-clause-safe
returns-in-Err-clause-safe g c =
    let shown = shown_by g.K.Sink in
    let units = amount c.args.granule in
    safely_refused (IsStampedRun units) (IsStampedToFault units) IsStampRefusal refusal_lines (λ reason. inl (reason, refl))
    (g.A.Source.left c.args.first.now) (g.B.Source.left c.args.second.now) c.put_no_network.result (shown c.args.out.now) (shown c.put_no_network.new.out)
    c.in-Err.cause c.put_no_network.ensures.gives

pub returns-in-Ok-clause-faults : goal.returns-in-Ok-clause-faults
returns-in-Ok-clause-faults g c =
    let shown = shown_by g.K.Sink in
    let cause = c.stamp_network.ensures.cause in
    record {
      read = λ is. inr (
        cause.read is,
        stops_of c.args.granule c.in-Ok.accepted (g.B.Source.left c.args.second.now) (g.B.Source.left c.stamp_network.new.second) c.stamp_network.result
            (shown c.args.out.now) (shown c.stamp_network.new.out) (g.A.Source.left c.args.first.now) c.in-Ok.ensures.accepted is c.stamp_network.ensures.ends,
      );
      write = cause.write;
    }

pub returns-in-Ok-clause-takes : goal.returns-in-Ok-clause-takes
returns-in-Ok-clause-takes g c =
    let shown = shown_by g.K.Sink in (
      c.in-Ok.ensures.taken,
      little_of c.args.granule c.in-Ok.accepted (g.B.Source.left c.args.second.now) (g.B.Source.left c.stamp_network.new.second) c.stamp_network.result
          (shown c.args.out.now) (shown c.stamp_network.new.out) (g.A.Source.left c.args.first.now) c.in-Ok.ensures.accepted c.stamp_network.ensures.ends,
    )

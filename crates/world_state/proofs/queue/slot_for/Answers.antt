use Rattle.std.proofs.{Common.{◌∙◌, ap, arith, refl, subst, take}, Math.Seq.take-length}
use Rattle.world_state.proofs.queue.slot_for.Goals.{else-place-cause-via-else-place-cause, else-place-cause-via-then-place-cause+else-place-rank}
use Rattle.world_state.{proofs.queue_lemmas.Slots.{is_one, none_more}, specs.queue.Finding.NoSlotFor}
use Rattle.world_state.proofs.queue.slot_for.Goals as goal

pub returns-then-place-rank-clause-found : goal.returns-then-place-rank-clause-found
returns-then-place-rank-clause-found c = record {
  slotted = _;
  there = is_one c.args.places.now c.places.slotted-index _ c.places-test.true;
  fits = (c.if-place-rank.true, c.if-place-cause.true);
  at = refl;
}

pub places-preserved : goal.places-preserved
places-preserved c =
    none_more c.args.places.now c.places.slotted-index _ c.args.rank c.args.cause c.places-test.true
    (λ fits. elim c.else-place-cause.branch [
      | else-place-cause-via-then-place-cause+else-place-rank w ↦ w.if-place-rank.false fits.0
      | else-place-cause-via-else-place-cause w ↦ w.if-place-cause.false fits.1
    ])
    c.places.invariant

pub returns-clause-none : goal.returns-clause-none
returns-clause-none c =
    let places = c.args.places.now in
    let more = c.places-test.false in
    let most = c.places.auto.slotted-index-end in
    subst (λ l. NoSlotFor l c.args.rank c.args.cause) (ap (λ i. take i places) (omega (arith, more, most)) ∙ take-length places)
    c.places.invariant

use Rattle.{audit_sweep.specs.records.dispatches.Dispatched.IsAtHand, run_law.specs.device.LocalClocks.Reaches, std.proofs.Common.{◌∙◌, pos, subst, sym}}
use Rattle.std.proofs.lemmas.Bool.{false≢true}
use Rattle.audit_sweep.proofs.records.dispatches.dispatching.is_ready.Goals as goal

pub returns-then-reaches_value : goal.returns-then-reaches_value
returns-then-reaches_value c s hs t stands last =
    let device = c.args.device in
    let d = c.args.dispatch.now in
    let hand = c.is_at_hand.ensures hs d.vl t last in (
      λ told. record {
        reached = subst (λ n. Reaches s hs device (pos n) t) c.dispatch_value.ensures.value
            ((c.reaches_value.ensures s hs c.args.network.now device t stands).0 c.if-reaches_value.true);
        at_hand = subst (λ n. IsAtHand c.args.network.now hs device c.args.row.now.sender d.vl t d.cause n) c.from.ensures (hand.0 told);
      },
      λ ready. hand.1 (subst (λ n. IsAtHand c.args.network.now hs device c.args.row.now.sender d.vl t d.cause n) (sym c.from.ensures) ready.at_hand),
    )

pub returns-else-reaches_value : goal.returns-else-reaches_value
returns-else-reaches_value c s hs t stands last =
    let device = c.args.device in (
      λ told. absurd (false≢true (sym c.if-reaches_value.false ∙ told)),
      λ ready. (c.reaches_value.ensures s hs c.args.network.now device t stands).1
          (subst (λ n. Reaches s hs device (pos n) t) (sym c.dispatch_value.ensures.value) ready.reached),
    )

use Rattle.audit_sweep.{proofs.records_lemmas.dispatches_lemmas.Dispatches.{held_so, so_held}}
use Rattle.audit_sweep.{specs.records.dispatches.Dispatched.holds}
use Rattle.{run_law.specs.scenario.Devices.is_end, std.{proofs.Common.{◌∙◌, ap, sym}, specs.Prelude.◌==◌}}
use Rattle.audit_sweep.proofs.records.dispatches.holding.is_at_hand.Goals as goal

pub returns : goal.returns
returns c hs vl t so =
    let network = c.args.network.now in
    let device = c.args.device in
    let sender = c.args.sender in
    let cause = c.args.cause in
    let cycle = c.args.cycle in
    let is = c.holds.ensures
    ∙ ap (λ b. holds (sender.0 == device.0) cause b c.is_last.result) c.is_end.ensures
    ∙ ap (λ b. holds (sender.0 == device.0) cause (is_end network device) b) c.is_last.ensures in (
      λ told. held_so network hs device sender vl t cause cycle c.args.accepted so (sym is ∙ told),
      λ hand. is ∙ so_held network hs device sender vl t cause cycle c.args.accepted so hand,
    )

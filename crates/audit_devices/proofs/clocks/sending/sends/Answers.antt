use Rattle.{net_plan.specs.Places.is_master, run_law.specs.scenario.Devices.has_role, std.proofs.lemmas.Bool.false≢true, tte_units.specs.Amount.amount}
use Rattle.{net_plan.specs.declared.network.Network.Network, run_law.specs.device.LocalClocks.Reaches, std.proofs.Common.{◌*◌, ◌∙◌, ap, pos, subst, sym}}
use Rattle.audit_devices.proofs.clocks.sending.sends.Goals as goal

pub returns-then-is_up : goal.returns-then-is_up
returns-then-is_up c s hs t stands =
    let device = c.args.device in
    let begins = c.begins.ensures s hs device t stands in (
      λ told.
          let begun = begins.0 told in
          record {
            master = ap (λ n. has_role n is_master device) stands.of_network ∙ sym c.is_master.ensures
                ∙ c.if-not-is_master.false;
            up = (c.is_up.ensures s hs c.args.network.now device t stands).0 c.if-is_up.true;
            begun = begun.0;
            reached = subst (λ (n : Network). Reaches s hs device (pos (c.args.cycle * amount n.cycle)) t) (sym stands.of_network) begun.1;
          },
      λ there. begins.1 (
        there.begun,
        subst (λ (n : Network). Reaches s hs device (pos (c.args.cycle * amount n.cycle)) t) stands.of_network there.reached,
      ),
    )

pub returns-else-is_up : goal.returns-else-is_up
returns-else-is_up c s hs t stands = (
  λ told. absurd (false≢true (sym c.if-is_up.false ∙ told)),
  λ there. (c.is_up.ensures s hs c.args.network.now c.args.device t stands).1 there.up,
)

use Rattle.{lens_slack.proofs.least_lemmas.Greatests.{IsAmongFirst, all_first, none_first, one_more}, net_plan.specs.declared.tables.Device.Device}
use Rattle.{net_plan.specs.{Bounds.IsGreatest, Ranges.IsDeviceInRange}, std.specs.Prelude.{Some, slice_get}, tte_units.specs.Amount.units_of}
use Rattle.{std.proofs.{Common.{◌+◌, ◌∙◌, ◌≡◌, ap, arith, length, subst, sym, ℕ}, lemmas.Option.slice_get-get_or}, tte_units.proofs.general_lemmas.Lists.in_all}
use Rattle.lens_slack.proofs.least.parts.greatest_start.Goals as goal

-- the device begins with so much
abbrev Begins : Device → ℕ → Type 0
Begins d n = d.start ≡ Some (units_of n)

pub devices-init : goal.devices-init
devices-init c = record { greatest = none_first Begins c.args.network.now.device; bound = omega arith }

pub start_of-requires : goal.start_of-requires
start_of-requires c =
    let n = c.args.network.now in
    let devices = c.as_slice-device-items.result.now in
    let there : slice_get n.device c.devices.device-index ≡ Some c.device-item.result =
    ap (λ xs. slice_get xs c.devices.device-index) (sym c.as_slice-device-items.ensures)
    ∙ slice_get-get_or devices c.devices.device-index c.device-item.result c.devices-test.true ∙ ap (λ (d : Device). Some d) (sym c.device-item.is) in
    in_all IsDeviceInRange n.device c.devices.device-index c.device-item.result c.requires.devices there

pub devices-preserved : goal.devices-preserved
devices-preserved c =
    let n = c.args.network.now in
    let k = c.devices.device-index in
    let device = c.device-item.result in
    let devices = c.as_slice-device-items.result.now in
    let there : slice_get n.device k ≡ Some device =
    ap (λ xs. slice_get xs k) (sym c.as_slice-device-items.ensures) ∙ slice_get-get_or devices k device c.devices-test.true
    ∙ ap (λ (d : Device). Some d) (sym c.device-item.is) in
    let so_far = c.devices.invariant in
    let this = c.start_of.ensures in
    let max = c.greater-greatest.ensures in
    record {
      greatest =
          subst (λ m. IsGreatest (IsAmongFirst Begins n.device (k + 1)) m) (sym max)
          (one_more Begins n.device k device c.devices.greatest c.start_of.result there so_far.greatest this.greatest);
      bound = omega (arith, max, so_far.bound, this.bound);
    }

pub returns-clause-greatest : goal.returns-clause-greatest
returns-clause-greatest c =
    let n = c.args.network.now in
    all_first Begins n.device c.devices.device-index c.devices.greatest
    (omega (arith, c.devices-test.false, ap length c.as_slice-device-items.ensures)) c.devices.invariant.greatest

use Rattle.{lens_page.{proofs.Pushes.pushed, specs.Lines.device_line}, net_plan.specs.declared.tables.Device.Device}
use Rattle.std.proofs.{Common.{◌++◌, ◌∙◌, List, ap, arith, map, sym, take, ℕ}, Math.Seq.take-length, lemmas.List.append-nil}
use Rattle.std.specs.List.{concat}
use Rattle.lens_page.proofs.telling.push_devices.Goals as goal

pub devices-init : goal.devices-init
devices-init c = sym (append-nil c.args.text.now.items)

pub devices-preserved : goal.devices-preserved
devices-preserved c =
    c.in_ok-extend_from_slice.ensures.items
    ∙ pushed device_line c.as_slice-device-items.result.now _ c.devices.device-index c.args.text.now.items c.devices.text.items c.as_slice.result.now
    c.devices-test.true c.devices.invariant (c.as_slice.ensures ∙ c.make_device_line.ensures ∙ ap device_line c.device-item.is)

pub returns : goal.returns
returns c =
    let all = c.as_slice-device-items.result.now in
    let text = λ (xs : List Device). c.args.text.now.items ++ concat (map device_line xs) in
    c.devices.invariant
    ∙ ap (λ (i : ℕ). text (take i all)) (omega (arith, c.devices-test.false, c.devices.auto.device-index-end))
    ∙ ap text (take-length all)
    ∙ ap text c.as_slice-device-items.ensures

use Rattle.{net_plan.specs.declared.tables.Device.Device, std.proofs.lemmas.Iterator.{YieldsList-from_slice, YieldsList-from_take, cases_from_all}}
use Rattle.std.proofs.Common.{◌∙◌, ◌≡◌, ◌≢◌, ap, get_or, rules, sym, take, tests}
use Rattle.schedule_checker.proofs.Elements.{decides_all, decides_new}
use Rattle.std.{proofs.lemmas.Option.slice_get-get_or}
use Rattle.schedule_checker.proofs.shape.names.device_is_new.Goals as goal

abbrev Differ : Device → Device → Type 0
Differ d e = (d.name ≢ e.name) × (d.mac ≢ e.mac)

pub returns : goal.returns
returns c =
    let devices = c.args.network.now.device in
    let place = c.args.place in
    let device = c.index-devices-place.result in
    let is : device ≡ get_or devices place device = c.index-devices-place.is ∙ ap (λ xs. get_or xs place device)
    c.as_slice-devices.ensures in
    let at = slice_get-get_or devices place device c.requires ∙ (rw (sym is)) in
    let cases = cases_from_all _ _ c.all.result (Differ device) (λ e. Differ device e → ⊥) c.all.ensures.ran
    (YieldsList-from_take place (YieldsList-from_slice devices cc) c.take.ensures.count) (λ x q k. search (rules, tests))
    (λ x q k. search (rules, tests)) in
    decides_new Differ devices place device c.all.result at (decides_all (Differ device) (λ e. Differ device e → ⊥)
    (take place devices) c.all.result
    (λ e h g. g h) cases)

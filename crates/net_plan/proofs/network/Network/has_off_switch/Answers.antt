use Rattle.std.{proofs.{Common.{◌≡◌, Some, rules, tests}, lemmas.Iterator.{YieldsList-from_slice, cases_from_any}}, specs.Prelude.IsNone}
use Rattle.net_plan.{proofs.Trees.some_device, specs.declared.tables.Device.Device}
use Rattle.net_plan.proofs.network.Network.has_off_switch.Goals as goal

pub returns : goal.returns
returns c =
    let devices = c.args.self.now.device in
    let IsOff : Device → Type 0 = λ d. (d.channel ≡ Some c.args.channel) × IsNone d.start in
    let cases = cases_from_any _ _ c.any.result IsOff (λ d. IsOff d → ⊥) c.any.ensures.ran
    (YieldsList-from_slice devices cc)
    (λ x q k. search (rules, tests)) (λ x q k. search (rules, tests)) in
    some_device c.args.self.now IsOff c.any.result cases

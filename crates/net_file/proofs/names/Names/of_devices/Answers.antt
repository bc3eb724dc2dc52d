use Rattle.{net_file.proofs.Numbers.first_of_more, std.proofs.lemmas.Grind.common_steps}
use Rattle.{net_file.specs.Numbering.{numbering, with_name}, std.proofs.Common.{◌∙◌, ◌≡◌, ap, arith, get_or, sym}}
use Rattle.net_file.proofs.names.Names.of_devices.Goals as goal

pub devices-preserved : goal.devices-preserved
devices-preserved c =
    let xs = c.args.devices.now in
    let i = c.devices.index in
    let d = c.index-devices-index.result in
    let added : numbering c.add.new.self.numbers ≡ with_name (numbering c.devices.names.numbers) d.name i = grind (arith, common_steps) in
    let here : get_or xs i d ≡ d = grind (arith, common_steps) in
    let grown = rw here at (first_of_more (λ x. x.name) xs i d c.devices-test.true) in
    added ∙ ap (λ n. with_name n d.name i) c.devices.invariant ∙ sym grown

use Rattle.std.proofs.{Common.{◌∙◌, ◌≡◌, ap, arith, get_or, sym}, lemmas.Grind.common_steps}
use Rattle.net_file.{proofs.Numbers.first_of_more, specs.Numbering.{numbering, with_name}}
use Rattle.net_file.proofs.names.Names.of_vls.Goals as goal

pub vls-preserved : goal.vls-preserved
vls-preserved c =
    let xs = c.args.vls.now in
    let i = c.vls.index in
    let d = c.index-vls-index.result in
    let added : numbering c.add.new.self.numbers ≡ with_name (numbering c.vls.names.numbers) d.name i = grind (arith, common_steps) in
    let here : get_or xs i d ≡ d = grind (arith, common_steps) in
    let grown = rw here at (first_of_more (λ x. x.name) xs i d c.vls-test.true) in
    added ∙ ap (λ n. with_name n d.name i) c.vls.invariant ∙ sym grown

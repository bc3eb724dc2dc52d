use Rattle.{net_file.proofs.Numbers.first_of_more, std.proofs.lemmas.Grind.common_steps}
use Rattle.{net_file.specs.Numbering.{numbering, with_name}, std.proofs.Common.{◌∙◌, ◌≡◌, ap, arith, get_or, sym}}
use Rattle.net_file.proofs.names.Names.of_links.Goals as goal

pub links-preserved : goal.links-preserved
links-preserved c =
    let xs = c.args.links.now in
    let i = c.links.index in
    let d = c.index-links-index.result in
    let added : numbering c.add.new.self.numbers ≡ with_name (numbering c.links.names.numbers) d.name i = grind (arith, common_steps) in
    let here : get_or xs i d ≡ d = grind (arith, common_steps) in
    let grown = rw here at (first_of_more (λ x. x.name) xs i d c.links-test.true) in
    added ∙ ap (λ n. with_name n d.name i) c.links.invariant ∙ sym grown

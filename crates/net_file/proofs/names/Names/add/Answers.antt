use Rattle.{net_file.{proofs.Numbers.{found_after, lookup_text}, specs.Numbering.{numbering, with_name}}, std.proofs.Common.{◌≡◌, None, refl, rules}}
use Rattle.net_file.proofs.names.Names.add.Goals as goal

pub returns-in-Ok-clause-ok : goal.returns-in-Ok-clause-ok
returns-in-Ok-clause-ok c i text =
    let absent : lookup_text c.args.name.now c.args.self.now.numbers.entries ≡ None = search rules in
    let found : numbering c.insert.new.self text ≡ with_name (numbering c.args.self.now.numbers) c.args.name.now c.args.number text =
    rw c.in-Ok.ensures.entries (found_after _ (λ a b. refl) c.args.self.now.numbers.entries c.args.name c.args.number text absent) in
    found i

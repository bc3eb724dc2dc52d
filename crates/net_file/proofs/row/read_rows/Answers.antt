use Rattle.{net_file.{proofs.Numbers.names_below, specs.Numbering.numbering}}
use Rattle.std.proofs.Common.{length}
use Rattle.net_file.proofs.row.read_rows.Goals as goal

pub returns-clause-in_range : goal.returns-clause-in_range
returns-clause-in_range c network same0 same1 =
    c.read_numbered.ensures.in_range network (names_below (λ x. x.name) c.args.vls.now (length network.vl)
    (numbering c.in-Ok.names.numbers)
    c.in-Ok.ensures.ok same0) (names_below (λ x. x.name) c.args.links.now (length network.link)
    (numbering c.in-Ok-of_links.names.numbers)
    c.in-Ok-of_links.ensures.ok same1)

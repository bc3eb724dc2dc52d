use Rattle.{net_file.{proofs.Numbers.names_below, specs.Numbering.numbering}, std.proofs.Common.length}
use Rattle.net_file.proofs.vl.read_vls.Goals as goal

pub returns-clause-in_range : goal.returns-clause-in_range
returns-clause-in_range c network same0 =
    c.read_numbered.ensures.in_range network (names_below (λ x. x.name) c.args.devices.now (length network.device)
    (numbering c.in-Ok.names.numbers)
    c.in-Ok.ensures.ok same0)

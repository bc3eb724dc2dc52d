use Rattle.std.proofs.Common.{ap, length, rules}
use Rattle.net_plan.{proofs.Trees.greatest_from_path, specs.declared.ids.LinkId.LinkId}
use Rattle.lens_sheet.proofs.weights.links_from.Goals as goal

pub returns-then-is_device_of-clause-greatest : goal.returns-then-is_device_of-clause-greatest
returns-then-is_device_of-clause-greatest c =
    greatest_from_path c.args.channel c.args.device (length {A = LinkId}) c.path.result _ c.requires.tree
    (search rules) c.path.ensures.leads
    (ap (λ xs. length {A = LinkId} xs) c.as_slice.ensures.value)

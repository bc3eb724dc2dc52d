use Rattle.{net_plan.{proofs.Padded.padded_front}, std.proofs.Common.{◌≡◌, rules}}
use Rattle.net_plan.proofs.octets.Octets.new.Goals as goal

pub invariant_of-result : goal.invariant_of-result
invariant_of-result c =
    let xs = c.args.octets.now in
    let copied : c.copy_from_slice.new.self ≡ xs = search rules in (
      c.requires.least,
      rw copied (padded_front 1514 xs c.requires.most),
    )

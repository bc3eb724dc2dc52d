use Rattle.{net_file.specs.Numbering.{first_of, numbering}, net_plan.specs.Bearers.vl_names, std.proofs.Common.{◌≡◌, take}}
use Rattle.net_file.proofs.names.Names.of_vls.Given as goal

abbrev pub invariant-vls : goal.invariant-vls
invariant-vls l = numbering l.names.numbers ≡ first_of (vl_names (take l.index l.vls))

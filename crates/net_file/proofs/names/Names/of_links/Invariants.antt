use Rattle.{net_file.specs.Numbering.{first_of, numbering}, net_plan.specs.Bearers.link_names, std.proofs.Common.{◌≡◌, take}}
use Rattle.net_file.proofs.names.Names.of_links.Given as goal

abbrev pub invariant-links : goal.invariant-links
invariant-links l = numbering l.names.numbers ≡ first_of (link_names (take l.index l.links))

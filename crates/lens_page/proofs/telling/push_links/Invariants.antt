use Rattle.{lens_page.specs.Lines.link_line, std.{proofs.Common.{◌++◌, ◌≡◌, map, take}, specs.List.concat}}
use Rattle.lens_page.proofs.telling.push_links.Given as goal

abbrev pub invariant-links : goal.invariant-links
invariant-links l = l.text.items ≡ l.fn.text.items ++ concat (map (link_line l.fn.network) (take l.link-index l.link-items))

use Rattle.{lens_page.specs.Lines.vl_line, std.{proofs.Common.{◌++◌, ◌≡◌, map, take}, specs.List.concat}}
use Rattle.lens_page.proofs.telling.push_vls.Given as goal

abbrev pub invariant-vls : goal.invariant-vls
invariant-vls l = l.text.items ≡ l.fn.text.items ++ concat (map (vl_line l.fn.network) (take l.vl-index l.vl-items))

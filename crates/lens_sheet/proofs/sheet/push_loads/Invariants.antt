use Rattle.lens_sheet.specs.declared.{loads.Load.Load}
use Rattle.lens_sheet.specs.declared.sheet.SheetLine.TheVariants as lines
use Rattle.std.proofs.Common.{◌++◌, ◌≡◌, map, take}
use Rattle.lens_sheet.proofs.sheet.push_loads.Given as goal

abbrev pub invariant-loads : goal.invariant-loads
invariant-loads l = l.sheet.items ≡ l.fn.sheet.items ++ map (λ (x : Load). lines.Load x) (take l.load-index l.loads)

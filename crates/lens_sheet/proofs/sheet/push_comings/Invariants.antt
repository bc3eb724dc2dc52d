use Rattle.lens_latency.specs.declared.comings.Coming.{Coming}
use Rattle.lens_sheet.specs.declared.sheet.SheetLine.TheVariants as lines
use Rattle.std.proofs.Common.{◌++◌, ◌≡◌, map, take}
use Rattle.lens_sheet.proofs.sheet.push_comings.Given as goal

abbrev pub invariant-comings : goal.invariant-comings
invariant-comings l = l.sheet.items ≡ l.fn.sheet.items ++ map (λ (x : Coming). lines.Coming x) (take l.coming-index l.comings)

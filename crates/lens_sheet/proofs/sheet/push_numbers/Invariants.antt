use Rattle.lens_sheet.specs.{Lines.numbers, declared.sheet.Number.Number}
use Rattle.lens_sheet.specs.declared.sheet.SheetLine.TheVariants as lines
use Rattle.std.proofs.Common.{◌++◌, ◌≡◌, map, take}
use Rattle.lens_sheet.proofs.sheet.push_numbers.Given as goal

abbrev pub invariant-numbers : goal.invariant-numbers
invariant-numbers l = l.sheet.items ≡ l.fn.sheet.items ++ map (λ (k : Number). lines.Number k) (take l.number-index numbers)

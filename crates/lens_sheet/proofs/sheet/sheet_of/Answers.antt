use Rattle.lens_sheet.{proofs.Sheets.sheet_names, specs.{Lines.numbers, Sheet.IsWritable}}
use Rattle.lens_sheet.specs.declared.{loads.Load.Load, sheet.{Number.Number, SheetLine.SheetLine}}
use Rattle.lens_sheet.specs.declared.sheet.SheetLine.TheVariants as lines
use Rattle.std.proofs.Common.{◌++◌, ◌∙◌, All, List, ap, append_assoc, map, subst, sym}
use Rattle.lens_sheet.proofs.sheet.sheet_of.Goals as goal

pub returns-clause-names : goal.returns-clause-names
returns-clause-names c =
    let n = c.args.network.now in
    let loads = c.in_ok-loads.loads.items in
    let of_numbers : List SheetLine = map (λ (k : Number). lines.Number k) numbers in
    let of_loads : List Load → List SheetLine = λ ls. map (λ (l : Load). lines.Load l) ls in
    let first = c.push_numbers.new.sheet.items in
    let pushed = c.in_ok-push_vls.ensures in
    let numbers_there = c.in_ok-push_numbers.ensures ∙ ap (λ (xs : List SheetLine). xs ++ of_numbers) c.new-sheet.ensures.items in
    let loads_there = c.in_ok-push_loads.ensures ∙ ap (λ (ls : List Load). first ++ of_loads ls) c.as_slice.ensures.value
    ∙ ap (λ (xs : List SheetLine). xs ++ of_loads loads) numbers_there in
    let all = pushed.2 ∙ ap (λ (xs : List SheetLine). xs ++ pushed.0) loads_there ∙ append_assoc of_numbers (of_loads loads) pushed.0 in
    subst (λ (xs : List SheetLine). All (IsWritable n) xs) (sym all) (sheet_names n loads pushed.0 c.in_ok-loads.ensures.links pushed.1)

use Rattle.lens_schedule.{proofs.Joins.joined5, specs.declared.{part.SchedulePart.{SchedulePart, TheVariants.Close}, picture.Sheet.Sheet}}
use Rattle.lens_schedule.specs.Picture.{cycle_parts, front_parts, twig_part}
use Rattle.std.proofs.Common.{◌++◌, ◌∙◌, ◌∷◌, List, [], ap, length, map}
use Rattle.lens_schedule.proofs.picture.parts_of.Goals as goal

pub returns : goal.returns
returns c =
    let a = c.args.a.now in
    let b = c.args.b.now in
    let entries = c.args.entries.now in
    let whole = λ (sheet : Sheet).
    front_parts sheet (length entries) ++ map (twig_part a) a ++ map (twig_part b) b
    ++ cycle_parts c.args.network.now entries c.args.lanes.now sheet ++ Close ∷ [] in
    joined5 _ _ _ _ _ _ _ _ _ _ _ c.in_ok-push_front.ensures c.in_ok-push_twigs.ensures c.in_ok-push_twigs-2.ensures
    c.in_ok-push_cycle.ensures c.in_ok-push.ensures.items
    ∙ ap (λ (ls : List SchedulePart). ls ++ whole c.sheet_of-sheet.result) c.new-parts.ensures.items ∙ ap whole c.sheet_of-sheet.ensures.value

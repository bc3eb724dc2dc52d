use Rattle.std.proofs.{Common.{◌++◌, ◌∷◌, [], arith, rules}, lemmas.{Grind.common_steps, List.Elements.{All-push, All-same}}}
use Rattle.net_plan.specs.Ranges.{IsRowInRange}
use Rattle.net_file.proofs.row.read_numbered.Goals as goal

pub tables-preserved : goal.tables-preserved
tables-preserved c =
    let so_far = c.tables.rows.items in
    let thing = c.in-Ok-read_row.row in
    let old = c.tables.invariant in (
      first_of (grind (arith, common_steps), search rules),
      first_of (grind (arith, common_steps), search rules),
      λ network below0 below1. All-same
          (IsRowInRange network) c.push.new.self.items (so_far ++ thing ∷ []) (search rules)
          (All-push (IsRowInRange network) so_far thing (old.2 network below0 below1) (c.in-Ok-read_row.ensures.in_range network below0 below1)),
    )

use Rattle.std.proofs.{Common.{◌++◌, ◌∷◌, [], arith, rules}, lemmas.{Grind.common_steps, List.Elements.{All-push, All-same}}}
use Rattle.net_plan.specs.Ranges.{IsLinkInRange}
use Rattle.net_file.proofs.link.read_numbered.Goals as goal

pub tables-preserved : goal.tables-preserved
tables-preserved c =
    let so_far = c.tables.links.items in
    let thing = c.in-Ok-read_link.link in
    let old = c.tables.invariant in (
      first_of (grind (arith, common_steps), search rules),
      first_of (grind (arith, common_steps), search rules),
      λ network below0. All-same (IsLinkInRange network) c.push.new.self.items (so_far ++ thing ∷ []) (search rules)
          (All-push (IsLinkInRange network) so_far thing (old.2 network below0) (c.in-Ok-read_link.ensures.in_range network below0)),
    )

use Rattle.{lens_why.specs.{Grounds.length_ground, declared.ground.Ground.TheVariants.Length}, std.proofs.Common.{◌∙◌, ◌≡◌, Some, ap, length, rules, sym, ℕ}}
use Rattle.{run_law.specs.records.Happenings.{Happening, numbered}, std.specs.Option.option_map_or}
use Rattle.lens_why.proofs.dropping.of_length.Goals as goal

pub returns-in-Some : goal.returns-in-Some
returns-in-Some c befallen hs k =
    let size = option_map_or (λ (g : Happening). length g.octets) (numbered hs c.args.passage.cause) 0 in
    let of : c.from.result ≡ c.in-Some.entry.vl.length = search rules in
    ap (λ (n : ℕ). Length c.size.result n) of
    ∙ ap (λ n. length_ground n (Some c.in-Some.entry)) (c.size.ensures c.args.network.now befallen hs k)
    ∙ ap (length_ground size) (sym c.in-Some.is ∙ c.entry_given.ensures.is befallen hs k)

pub returns-in-None : goal.returns-in-None
returns-in-None c befallen hs k =
    let size = option_map_or (λ (g : Happening). length g.octets) (numbered hs c.args.passage.cause) 0 in
    ap (length_ground size) (sym c.in-None.is ∙ c.entry_given.ensures.is befallen hs k)

use Rattle.std.proofs.{Common.{◌++◌, ◌∙◌, ◌≡◌, ap, drop, length, replicate, rules, ℕ}, lemmas.List.drop-replicate}
use Rattle.device_rules.proofs.frames.timed.fill.Goals as goal

pub returns : goal.returns
returns c =
    let xs = c.args.front.now in
    let copied : c.copy_from_slice.new.self ≡ xs = search rules in
    ap (λ ys. ys ++ drop (length xs) (replicate 1514 0)) copied
    ∙ ap (λ ys. xs ++ ys) (drop-replicate {X = ℕ} (length xs) 1514 0)

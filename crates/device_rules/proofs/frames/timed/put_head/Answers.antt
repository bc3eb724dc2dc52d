use Rattle.std.proofs.Common.{◌++◌, ◌-◌, ◌∙◌, ◌≡◌, ap, drop, length, replicate, rules, sym}
use Rattle.device_rules.proofs.frames.timed.put_head.Goals as goal

pub returns : goal.returns
returns c =
    let copied : c.copy_from_slice.new.self ≡ c.args.head.now = search rules in
    let long : length c.args.head.now ≡ 18 = search rules in
    ap (λ ys. ys ++ drop 18 c.args.octets.now) copied ∙ ap (λ ys. c.args.head.now ++ ys) c.requires
    ∙ ap (λ n. c.args.head.now ++ replicate (1514 - n) 0) (sym long)

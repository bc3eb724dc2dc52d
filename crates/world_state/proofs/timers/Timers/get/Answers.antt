use Rattle.std.proofs.Common.{◌/◌, ◌<◌, ◌^◌, ◌∙◌, ◌≡◌, Some, ap, arith, length, sym}
use Rattle.std.proofs.{lemmas.List.length-map}
use Rattle.world_state.{proofs.WorldSteps.timer_at, specs.timers.SlotKeys.timer_of}
use Rattle.world_state.proofs.timers.Timers.get.Goals as goal

pub returns : goal.returns
returns c =
    let keys = c.self.inside.keys in
    let slot = c.args.slot in
    let key = c.get-key.result in
    let within = c.requires in
    let long = length-map keys timer_of in
    let same = ap length c.self.view_is in
    let few : slot < length keys = omega arith in
    let time = c.time_of.ensures in
    let rank = c.rank_of.ensures ∙ ap (λ n. n / 2 ^ 56) c.order_of.ensures in
    let made : timer_of key ≡ record { time = c.time_of.result; rank = c.rank_of.result } =
    rw (sym time)
    (rw (sym rank)) in
    sym (rw c.self.view_is) ∙ timer_at keys slot few ∙ ap (λ k. Some (timer_of k)) (sym c.get-key.ensures)
    ∙ (rw made)

use Rattle.std.proofs.{Common.{◌%◌, ◌/◌, ◌^◌, ◌∙◌, ◌≡◌, ap, arith, set}, lemmas.List.map-set}
use Rattle.world_state.specs.{timers.SlotKeys.timer_of}
use Rattle.world_state.proofs.timers.Timers.set.Goals as goal

pub returns : goal.returns
returns c =
    let slot = c.args.slot in
    let time : c.key_of.result / 2 ^ 64 ≡ c.args.time = omega arith in
    let rank : c.key_of.result % 2 ^ 64 / 2 ^ 56 ≡ c.args.rank = omega arith in
    let made : timer_of c.key_of.result ≡ record { time = c.args.time; rank = c.args.rank } =
    rw time
    (rw rank) in
    rw c.set.ensures (map-set timer_of c.self.inside.keys slot c.key_of.result
    ∙ (rw c.self.view_is (ap (set c.args.self.now slot) made)))

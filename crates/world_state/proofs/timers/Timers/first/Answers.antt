use Rattle.std.proofs.Common.{◌%◌, ◌/◌, ◌^◌, ◌∙◌, ap, arith, sym}
use Rattle.world_state.proofs.WorldSteps.{first_slot, least_time}
use Rattle.world_state.proofs.timers.Timers.first.Goals as goal

pub returns-then-time-clause-none : goal.returns-then-time-clause-none
returns-then-time-clause-none c =
    let keys = c.self.inside.keys in
    let time = sym c.time_of-time.ensures ∙ c.if-time.true in
    rw (sym c.self.view_is) (λ k d lt. let least = least_time keys c.least-key.result c.least-key.ensures.least k d
    lt in omega (arith, least, time))

pub returns-clause-first : goal.returns-clause-first
returns-clause-first c =
    let keys = c.self.inside.keys in
    let key = c.least-key.result in
    let other = c.if-time.false in
    let rank = c.rank_of.ensures ∙ ap (λ n. n / 2 ^ 56) c.order_of-order.ensures in
    let slot = c.slot_of.ensures ∙ ap (λ n. n % 2 ^ 56) c.order_of-order.ensures in
    rw (sym c.self.view_is) (rw (sym c.time_of-time.ensures) at (rw
    (sym rank) at (rw (sym slot) at (first_slot keys key c.self.invariant c.least-key.ensures.least
    c.least-key.ensures.is (λ e. other (c.time_of-time.ensures ∙ e))))))

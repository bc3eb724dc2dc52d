use Rattle.switch_ports.proofs.{Faults.shut_is, Words.{◌*◌, ◌+ℤ◌, ◌+◌, ◌∙◌, ◌≡◌, SyncPlan, Units, amount, ap, clock_of, pos, standpoint_of, sym, ℤ}}
use Rattle.std.specs.Int.{int_rem_euclid}
use Rattle.switch_ports.proofs.site.Site.is_gate_shut.Goals as goal

pub returns : goal.returns
returns c network device range site =
    let at = standpoint_of c.args.at.now in
    let limit : c.gate_end.result.0 ≡ pos (amount network.correction + 2 * amount network.precision) = ap (λ (u : Units). u.0) c.gate_end.ensures
    ∙ ap (λ u. pos (amount u + 2 * amount c.args.self.now.precision)) site.correction
    ∙ ap (λ (u : Units). pos (amount network.correction + 2 * amount u)) site.precision in
    let shown : c.place_in_cycle.result.0 ≡ int_rem_euclid (clock_of at +ℤ pos (2 * amount network.precision)) network.cycle.0 = c.place_in_cycle.ensures
    ∙ ap (λ (z : ℤ). int_rem_euclid z c.args.self.now.plan.cycle_length.0) c.gate_value.ensures
    ∙ ap (λ (u : Units). int_rem_euclid (clock_of at +ℤ pos (2 * amount u)) c.args.self.now.plan.cycle_length.0) site.precision
    ∙ ap (λ (p : SyncPlan). int_rem_euclid (clock_of at +ℤ pos (2 * amount network.precision)) p.cycle_length.0) site.plan in
    c.is_behind.ensures ∙ shut_is network device at c.gate_end.result.0 c.place_in_cycle.result.0 (sym site.relay ∙ c.if-not-self.false)
    (sym c.is_synchronised.ensures ∙ c.if-not-is_synchronised.false) limit shown

use Rattle.lens_flows.specs.judge.{Certain.three_cycles, Courses.scenario_of}
use Rattle.net_plan.specs.declared.ids.DeviceId.{DeviceId}
use Rattle.run_law.specs.{device.States.{is_off, state_after}, records.Happenings.{up_to}}
use Rattle.std.proofs.{Common.{◌*◌, ◌-◌, ◌∙◌, ◌≡◌, ap, arith, false, subst, sym, ℕ}, lemmas.Bool.false≢true}
use Rattle.lens_flows.proofs.judge.course.Course.were_on.Goals as goal

pub returns-then-not-is_on_at : goal.returns-then-not-is_on_at
returns-then-not-is_on_at c befallen hs known =
    let s = scenario_of c.args.self.now befallen in
    let same : 3 * c.amount-long.result ≡ three_cycles s = ap (λ (n : ℕ). 3 * n) c.amount-long.ensures.value in (
      λ e. absurd (false≢true e),
      λ w. absurd (false≢true (sym c.if-not-is_on_at.true ∙ (c.is_on_at.ensures befallen hs known).1
          (subst (λ n. is_off (state_after s (up_to (c.args.from - n) hs) c.args.flow.now.of_vl.sender) ≡ false) (sym same) w.sender))),
    )

pub returns : goal.returns
returns c befallen hs known =
    let s = scenario_of c.args.self.now befallen in
    let flow = c.args.flow.now in
    let same : 3 * c.amount-long.result ≡ three_cycles s = ap (λ (n : ℕ). 3 * n) c.amount-long.ensures.value in
    let on = λ (d : DeviceId) (n : ℕ). is_off (state_after s (up_to (c.args.from - n) hs) d) ≡ false in (
      λ e. record {
        long = omega (arith, c.if-from-long.false, same);
        sender = subst (λ (n : ℕ). on flow.of_vl.sender n) same ((c.is_on_at.ensures befallen hs known).0 c.if-not-is_on_at.false);
        receiver = subst (λ (n : ℕ). on flow.device n) same ((c.is_on_at-2.ensures befallen hs known).0 e);
      },
      λ w. (c.is_on_at-2.ensures befallen hs known).1 (subst (λ (n : ℕ). on flow.device n) (sym same) w.receiver),
    )

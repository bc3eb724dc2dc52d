use Rattle.audit_devices.proofs.clocks_lemmas.Reached.{IsBehind, IsPassed, next_crossed, none_crossed}
use Rattle.audit_law.specs.events.Readings.{clock_reading}
use Rattle.{audit_devices.specs.clocks.Finding.value_in, audit_law.specs.events.Reaches.IsFirstReach, std.specs.{Int.w128, Prelude.{◌+ℤ◌, ◌-ℤ◌}}}
use Rattle.std.proofs.{Common.{◌<ℤ◌, ◌^◌, ◌∙◌, ◌≡◌, ◌≤ℤ◌, None, Some, ap, arith, inl, inr, pos, rules, subst, sym, ℤ}, lemmas.Int.{ints, to_z-of_z}}
use Rattle.audit_devices.proofs.clocks.finding.next_crossing.Goals as goal

pub returns-in-Some-clause-is : goal.returns-in-Some-clause-is
returns-in-Some-clause-is c network befallen remembers has =
    let reading = clock_reading network befallen c.args.device in
    let on = c.reading_law.ensures network befallen c.args.device remembers.range remembers.within remembers.begun in
    let passed = c.greater-passed.result in
    let number = c.number_behind-number.result in
    let is : IsPassed reading c.args.shown.now c.args.after passed =
    let first = c.greater-passed.ensures.first in
    let second = c.greater-passed.ensures.second in
    let at = to_z-of_z w128 c.at_change.result (search rules) ∙ c.at_change.ensures.value in
    let here = to_z-of_z w128 c.local.result (search rules) ∙ c.local.ensures.value
    ∙ ap (λ n. pos n +ℤ c.args.shown.now.adjustment) (c.reading.ensures network befallen remembers has) in
    record {
      change = omega (arith, ints, first, at);
      local = omega (arith, ints, second, here);
      one = elim c.greater-passed.ensures.one [ inl e ↦ inl (e ∙ at) | inr e ↦ inr (e ∙ here) ];
    } in
    let behind : IsBehind c.args.series passed number =
    let same = to_z-of_z w128 passed (search rules) in
    record {
      behind = subst (λ z. z <ℤ value_in c.args.series number) same c.number_behind-number.ensures.behind;
      least = λ n lt. c.number_behind-number.ensures.least n (subst (λ z. z <ℤ value_in c.args.series n) (sym same) lt);
    } in
    let small : (pos (reading c.args.after) +ℤ c.args.shown.now.adjustment) ≤ℤ pos (2 ^ 82) =
    let most = c.local.ensures.most in
    let here = to_z-of_z w128 c.local.result (search rules) ∙ c.local.ensures.value
    ∙ ap (λ n. pos n +ℤ c.args.shown.now.adjustment) (c.reading.ensures network befallen remembers has) in
    omega (arith, ints, most, here) in
    let sought = c.reading_for-sought.result in
    let same : sought ≡ (value_in c.args.series number -ℤ c.args.shown.now.adjustment) = c.reading_for-sought.ensures
    ∙ ap (λ z. z -ℤ c.args.shown.now.adjustment) (to_z-of_z w128 c.value_in.result (search rules) ∙ c.value_in.ensures) in
    let found : IsFirstReach reading c.args.after sought c.args.until (Some c.in-Some.time) =
    subst (λ o. IsFirstReach reading c.args.after sought c.args.until o) c.in-Some.is
    (subst (λ z. IsFirstReach reading c.args.after z c.args.until c.reach.result) (to_z-of_z w128 sought (search rules))
    (c.reach.ensures network befallen remembers has)) in
    next_crossed reading c.args.shown.now c.args.series c.args.after c.args.until c.in-Some.time on is behind same
    found.0 found.1
    c.requires.limit small

pub returns-in-None-clause-is : goal.returns-in-None-clause-is
returns-in-None-clause-is c network befallen remembers has =
    let reading = clock_reading network befallen c.args.device in
    let on = c.reading_law.ensures network befallen c.args.device remembers.range remembers.within remembers.begun in
    let passed = c.greater-passed.result in
    let number = c.number_behind-number.result in
    let is : IsPassed reading c.args.shown.now c.args.after passed =
    let first = c.greater-passed.ensures.first in
    let second = c.greater-passed.ensures.second in
    let at = to_z-of_z w128 c.at_change.result (search rules) ∙ c.at_change.ensures.value in
    let here = to_z-of_z w128 c.local.result (search rules) ∙ c.local.ensures.value
    ∙ ap (λ n. pos n +ℤ c.args.shown.now.adjustment) (c.reading.ensures network befallen remembers has) in
    record {
      change = omega (arith, ints, first, at);
      local = omega (arith, ints, second, here);
      one = elim c.greater-passed.ensures.one [ inl e ↦ inl (e ∙ at) | inr e ↦ inr (e ∙ here) ];
    } in
    let behind : IsBehind c.args.series passed number =
    let same = to_z-of_z w128 passed (search rules) in
    record {
      behind = subst (λ z. z <ℤ value_in c.args.series number) same c.number_behind-number.ensures.behind;
      least = λ n lt. c.number_behind-number.ensures.least n (subst (λ z. z <ℤ value_in c.args.series n) (sym same) lt);
    } in
    let sought = c.reading_for-sought.result in
    let same : sought ≡ (value_in c.args.series number -ℤ c.args.shown.now.adjustment) = c.reading_for-sought.ensures
    ∙ ap (λ z. z -ℤ c.args.shown.now.adjustment) (to_z-of_z w128 c.value_in.result (search rules) ∙ c.value_in.ensures) in
    let found : IsFirstReach reading c.args.after sought c.args.until None =
    subst (λ o. IsFirstReach reading c.args.after sought c.args.until o) c.in-None.is
    (subst (λ z. IsFirstReach reading c.args.after z c.args.until c.reach.result) (to_z-of_z w128 sought (search rules))
    (c.reach.ensures network befallen remembers has)) in
    none_crossed reading c.args.shown.now c.args.series c.args.after c.args.until sought on is behind same found

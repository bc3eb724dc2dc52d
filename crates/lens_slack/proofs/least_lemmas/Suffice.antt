-- With the times that are made of these parts a network suffices.
use Rattle.{lens_slack.proofs.least_lemmas.SamePlan.{beta_is, path_back}, std.proofs.Common.{◌*◌, ◌+◌, ◌≡◌, ◌≤◌, arith, max, pos, refl, subst, sym, ℕ}}
use Rattle.lens_slack.{proofs.least_lemmas.SameShape.{rules_below, shape_with}, specs.least.Parts.{IsLongest, IsPortTimeOf, IsStartOf, IsSteady, drift_over}}
use Rattle.{lens_slack.specs.{Bounds.IsBoundAt, Tightest.IsEnough, least.Least.Suffices}, schedule_checker.specs.Timing.errors_of}
use Rattle.{lens_slack.specs.declared.{least.times.Times.Times, spot.BoundedNumber.TheVariants.Begin}, net_plan.specs.Bounds.{IsBeta, IsGreatest, gamma_of}}
use Rattle.{lens_slack.specs.{declared.spot.Finding.Finding, least.Times.with_times}, net_plan.specs.declared.{ids.DeviceId.DeviceId, network.Network.Network}}
use Rattle.{net_plan.specs.Ranges.IsInRange, tte_units.specs.Amount.amount}
use Rattle.schedule_tables.specs.{Delays.{CorrectionFits, DelaysFit, ErrorsSettle, PrecisionFits, delay_on, pcf_port_time}, Rules.KeepsBelow}

-- the times are made of these parts
pub record AreMade (n : Network) (steady path errors start port : ℕ) (t : Times) : Type 0 where
  pub is_steady : IsSteady n steady
  pub is_longest : IsLongest n path
  pub is_start : IsGreatest (IsStartOf n) start
  pub is_port : IsGreatest (IsPortTimeOf n) port
  pub fixed : t.dmax ≡ steady + path + drift_over n t.dmax
  pub least : (d : ℕ) → steady + path + drift_over n d ≤ d → t.dmax ≤ d
  pub is_errors : errors ≡ errors_of n (steady + drift_over n t.dmax)
  pub settled : t.settled ≡ max errors start
  pub precision : t.precision ≡ max (t.settled + 2 * errors) (amount n.calc)
  pub correction : t.correction ≡ 2 * t.dmax + amount n.calc + 10 * t.precision
  pub tt_start : t.tt_start ≡ t.correction + t.dmax + 4 * t.precision + port

module _ (n : Network) (steady path errors start port : ℕ) (t : Times) (made : AreMade n steady path errors start port t) where
  abbrev m : Network
  m = with_times n t

  abbrev b : ℕ
  b = steady + drift_over n t.dmax

  same_beta : (beta : ℕ) → IsBeta m (pos beta) → beta ≡ b
  same_beta beta is = beta_is n steady made.is_steady t beta is

  room_for : (beta delay : ℕ) → beta ≡ b → delay ≤ path → beta + delay ≤ t.dmax
  room_for beta delay same most = let fixed = made.fixed in omega (arith, same, most, fixed)

  delays : (place : ℕ) → DelaysFit m place
  delays place beta c ls is member path_of =
      let d : DeviceId = record { 0 = place } in
      let most = made.is_longest.most (delay_on n ls) (c, (d, (ls, member, path_back n t c d ls path_of, refl))) in
      room_for beta (delay_on n ls) (same_beta beta is) most

  -- the errors at the beta
  errors_at : (beta : ℕ) → beta ≡ b → errors ≡ errors_of n beta
  errors_at beta same = subst (λ x. errors ≡ errors_of n x) (sym same) made.is_errors

  settled_for : (beta : ℕ) → beta ≡ b → 8 * beta + 12 * gamma_of n + 40 * amount n.grain ≤ t.settled
  settled_for beta same = let all = errors_at beta same in let max = made.settled in omega (arith, all, max)

  precision_for : (beta : ℕ) → beta ≡ b → t.settled + 16 * beta + 24 * gamma_of n + 80 * amount n.grain ≤ t.precision
  precision_for beta same = let all = errors_at beta same in let max = made.precision in omega (arith, all, max)

  settling : ErrorsSettle m
  settling beta is = settled_for beta (same_beta beta is)

  precision : PrecisionFits m
  precision =
      let calc : amount n.calc ≤ t.precision = let max = made.precision in omega (arith, max) in
      record { errors = λ beta is. precision_for beta (same_beta beta is); calc = calc }

  correction : CorrectionFits m
  correction =
      let fits : 2 * t.dmax + amount n.calc + 10 * t.precision ≤ t.correction = let is = made.correction in omega (arith, is) in fits

  begin_for : (time : ℕ) → time ≤ port → t.correction + t.dmax + 4 * t.precision + time ≤ t.tt_start
  begin_for time most = let is = made.tt_start in omega (arith, is, most)

  begins : (k : ℕ) (f : Finding) → IsBoundAt m Begin k f → IsEnough f
  begins k f (link, there, is) =
      let most = made.is_port.most (pcf_port_time link) (k, link, there, refl) in
      subst IsEnough (sym is) (begin_for (pcf_port_time link) most)

  start_most : (k : ℕ) → IsStartOf n k → k ≤ t.settled
  start_most k is = let few = made.is_start.most k is in let max = made.settled in omega (arith, few, max)

  pub suffices : IsInRange n → KeepsBelow 8 n → Suffices m
  suffices range shape = record {
    rules = rules_below m (shape_with n t range start_most shape) delays (λ place. settling) (λ place. precision) (λ place. correction);
    begins = begins;
  }

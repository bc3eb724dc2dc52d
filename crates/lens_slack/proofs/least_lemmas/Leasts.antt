-- The least times: made of parts by links and paths, they keep the rules and lie in their ranges.
use Rattle.std.{specs.{List.All, Prelude.{◌≤ℤ◌, IfSome, slice_get}}}
use Rattle.std.proofs.{Math.Nat.mul-le-mul_right, lemmas.{Bool.cases_lt, Int.ints}}
use Rattle.std.proofs.Common
use Common.{◌*◌, ◌+◌, ◌^◌, ◌≡◌, ◌≤◌, ◌⊎◌, List, Option, Some, [], arith, inl, inr, pos, refl, subst, sym, true, ℕ}
use Rattle.lens_slack.{proofs.least_lemmas.{Drift.drift_more, SamePlan.path_to, Suffice.{AreMade, suffices}}}
use Rattle.lens_slack.specs.{Bounds.begin_bound, Tightest.IsEnough, declared.least.times.Times.Times}
use Rattle.lens_slack.specs.least.{Answer.room_of, Laws.{LeastAreLeast, LeastHaveRoom}, Least.{AreLeast, Suffices}}
use Rattle.lens_slack.specs.least.{Parts.drift_over, Times.{AreAtMost, IsButForTimes, times_of, with_times}}
use Rattle.net_plan.{proofs.{Amounts.amount_within, Trees.{beta_exists, rules_give_trees}}}
use Rattle.net_plan.specs.{Bounds.{IsBeta, IsOfPath, beta_at, gamma_of}, Places.{device_at, is_end_system}}
use Rattle.net_plan.specs.{Ranges.{IsInRange, IsLinkInRange, IsRowInRange, IsVlInRange, IsWithin}}
use Rattle.net_plan.specs.declared.{ids.LinkId.LinkId, network.Network.Network}
use Rattle.net_plan.specs.declared.{tables.{Device.Device, Link.Link, Role.TheVariants.Cm}}
use Rattle.schedule_checker.proofs.{Elements.{all_of_each, each_of_all}, ShapeRules.{same_rule, tree_of}}
use Rattle.schedule_checker.{specs.Timing.errors_of}
use Rattle.schedule_tables.{proofs.Margins.some_link}
use Rattle.schedule_tables.specs.{Delays.{ScheduleFits, delay_on, pcf_port_time}, Numbers.number_of}
use Rattle.schedule_tables.specs.{Rules.{IsKeptAt, KeepsBelow}}
use Rattle.schedule_tables.specs.declared.rule.Rule.TheVariants
use TheVariants.{CompressionMasters, Correction, Delays, Masters, Precision, ScheduleStart, Settling}
use Rattle.tte_units.{proofs.general_lemmas.{Lists.in_all, Options.{closed, opened}}}
use Rattle.tte_units.specs.{Amount.{amount, units_of}}
use Rattle.tte_units.specs.{declared.{frames.channel.Channel.TheVariants.A, units.Units.Units}}

-- ---- with the least times the rules of times are kept, and no network that keeps them has one less

-- the schedule begins behind the last frame on the link
abbrev BeginsBehind : Network → Link → Type 0
BeginsBehind m link = amount m.correction + amount m.dmax + 4 * amount m.precision + pcf_port_time link ≤ amount m.tt_start

starts_by : {m : Network} → Suffices m → amount m.tt_start + 4 * amount m.precision ≤ amount m.cycle → ScheduleFits m
starts_by {m} h room =
    record { begins = all_of_each (BeginsBehind m) m.link (λ k link there. h.begins k (begin_bound m link) (link, there, refl)); ends = room }

pub rules_kept : (n : Network) (t : Times) → AreLeast n t → IsEnough (room_of n t) → KeepsBelow 13 (with_times n t)
rules_kept n t least room rule less place = elim (cases_lt (number_of rule) 12) [
  | inl below ↦ least.suffice.rules rule below place
  | inr most ↦
      let same : rule ≡ ScheduleStart = same_rule rule ScheduleStart (omega (arith, less, most)) in
      subst (λ r. IsKeptAt r (with_times n t) place) (sym same) (starts_by least.suffice room)
]

-- a network that keeps rules 1 to 12 suffices
start_kept : (m : Network) → KeepsBelow 13 m → ScheduleFits m
start_kept m h = h ScheduleStart (omega arith) 0

kept_suffices : (m : Network) → KeepsBelow 13 m → Suffices m
kept_suffices m h = record {
  rules = λ rule less. h rule (omega (arith, less));
  begins = λ k f bound.
      subst IsEnough (sym bound.2) (each_of_all (BeginsBehind m) m.link (start_kept m h).begins k bound.0 bound.1);
}

kept_with : (n other : Network) → IsButForTimes n other → KeepsBelow 13 other → KeepsBelow 13 (with_times n (times_of other))
kept_with n other but h = subst (KeepsBelow 13) but h

pub none_less : LeastAreLeast
none_less n other t least but h = least.least (times_of other) (kept_suffices (with_times n (times_of other)) (kept_with n other but h))

pub has_room : LeastHaveRoom
has_room n other t least but h =
    let most = none_less n other t least but h in
    let precision = most.precision in
    let tt_start = most.tt_start in
    let ends : amount other.tt_start + 4 * amount other.precision ≤ amount n.cycle =
    (start_kept (with_times n (times_of other)) (kept_with n other but h)).ends in
    let room : t.tt_start + 4 * t.precision ≤ amount n.cycle = omega (arith, precision, tt_start, ends) in
    room

-- ---- a network that keeps the rules of its shape has a link, and a path

-- that of the compression master of channel a has no links
pub some_path : (n : Network) → KeepsBelow 8 n → (f : List LinkId → ℕ) → IsOfPath n f (f [])
some_path n shape f =
    let cm = (shape CompressionMasters (omega arith) 0).on_a refl in
    let device = opened (λ (d : Device). (d.role ≡ Cm) × (d.channel ≡ Some A)) (device_at n cm.0) cm.1 in
    let member = closed (λ (d : Device). (is_end_system d.role ≡ true) ⊎ (d.channel ≡ Some A)) (device_at n cm.0) device.0 device.1 (inr device.2.1) in
    (A, (cm.0, ([], member, cm.1, refl)))

-- ---- the times that are made of these parts are the least

-- a start that is within a bound
start_below : (most k : ℕ) (o : Option Units) → IfSome o (λ s. s.0 ≤ℤ pos most) → o ≡ Some (units_of k) → k ≤ most
start_below most k o within is =
    let least : pos k ≤ℤ pos most = subst (λ (p : Option Units). IfSome p (λ s. s.0 ≤ℤ pos most)) is within in omega (arith, ints, least)

module _ (n : Network) (steady path errors start port : ℕ) (t : Times) (made : AreMade n steady path errors start port t) (shape : KeepsBelow 8 n) (u : Times)
    (h : Suffices (with_times n u)) where
  abbrev w : Network
  w = with_times n u

  abbrev b : ℕ
  b = steady + drift_over n u.dmax

  -- a path leaves room for beta
  path_room : (k : ℕ) → IsOfPath n (delay_on n) k → b + k ≤ u.dmax
  path_room k has =
      let way = has.1.1 in
      let room : b + delay_on n way.0 ≤ u.dmax =
      h.rules Delays (omega arith) has.1.0.0 b has.0 way.0 (made.is_steady u) way.1 (path_to n u has.0 has.1.0 way.0 way.2) in
      let is = way.3 in
      omega (arith, room, is)

  longest_room : b + path ≤ u.dmax
  longest_room = elim made.is_longest.reached [
    | inl none ↦ let room = path_room (delay_on n []) (some_path n shape (delay_on n)) in omega (arith, room, none)
    | inr has ↦ path_room path has
  ]

  dmax : t.dmax ≤ u.dmax
  dmax = let room = longest_room in made.least u.dmax (omega (arith, room))

  beta : steady + drift_over n t.dmax ≤ b
  beta = let more = drift_more (4 * n.rho) t.dmax u.dmax dmax in omega (arith, more)

  errors_most : errors ≤ errors_of n b
  errors_most = let is = made.is_errors in let more = beta in omega (arith, is, more)

  settled_errors : errors_of n b ≤ u.settled
  settled_errors = h.rules Settling (omega arith) 0 b (made.is_steady u)

  start_most : start ≤ u.settled
  start_most = elim made.is_start.reached [
    | inl none ↦ omega (arith, none)
    | inr has ↦
        let all = (h.rules Masters (omega arith) 4).starts refl in
        start_below u.settled start has.1.start (in_all (λ (d : Device). IfSome d.start (λ s. s.0 ≤ℤ pos u.settled)) n.device has.0 has.1 all has.2) has.3
  ]

  settled : t.settled ≤ u.settled
  settled =
      let is = made.settled in
      let more = errors_most in
      let most = settled_errors in
      let starts = start_most in
      omega (arith, is, more, most, starts)

  precision_errors : u.settled + 16 * b + 24 * gamma_of n + 80 * amount n.grain ≤ u.precision
  precision_errors = (h.rules Precision (omega arith) 0).errors b (made.is_steady u)

  precision_calc : amount n.calc ≤ u.precision
  precision_calc = (h.rules Precision (omega arith) 0).calc

  precision : t.precision ≤ u.precision
  precision =
      let is = made.precision in
      let first = settled in
      let more = errors_most in
      let most = precision_errors in
      let calc = precision_calc in
      omega (arith, is, first, more, most, calc)

  correction_room : 2 * u.dmax + amount n.calc + 10 * u.precision ≤ u.correction
  correction_room = h.rules Correction (omega arith) 0

  correction : t.correction ≤ u.correction
  correction =
      let is = made.correction in
      let first = dmax in
      let second = precision in
      let room = correction_room in
      omega (arith, is, first, second, room)

  link_room : (place : ℕ) (link : Link) → slice_get n.link place ≡ Some link → u.correction + u.dmax + 4 * u.precision + pcf_port_time link ≤ u.tt_start
  link_room place link there = h.begins place (begin_bound w link) (link, there, refl)

  port_room : u.correction + u.dmax + 4 * u.precision + port ≤ u.tt_start
  port_room = elim made.is_port.reached [
    | inl none ↦ let one = some_link n shape in let room = link_room one.0 one.1 one.2 in omega (arith, none, room)
    | inr has ↦ let room = link_room has.0 has.1 has.2 in let is = has.3 in omega (arith, room, is)
  ]

  tt_start : t.tt_start ≤ u.tt_start
  tt_start =
      let is = made.tt_start in
      let first = dmax in
      let second = precision in
      let third = correction in
      let room = port_room in
      omega (arith, is, first, second, third, room)

  pub at_most : AreAtMost t u
  at_most = record { dmax = dmax; settled = settled; precision = precision; correction = correction; tt_start = tt_start }

pub are_least : {n : Network} {steady path errors start port : ℕ} {t : Times}
    → AreMade n steady path errors start port t → IsInRange n → KeepsBelow 8 n → AreLeast n t
are_least {n} {steady} {path} {errors} {start} {port} {t} made range shape = record {
  suffice = suffices n steady path errors start port t made range shape;
  least = λ u h. at_most n steady path errors start port t made shape u h;
}

-- ---- where the cycle has room for the least times, they lie in their ranges

within : (low high n : ℕ) → low ≤ n → n ≤ high → IsWithin low high (units_of n)
within low high n least most = record { least = omega (arith, ints, least); most = omega (arith, ints, most) }

-- beta is not nothing
some_round : (b jitter drift round : ℕ) → b ≡ jitter + drift + round → 1 ≤ round → 1 ≤ b
some_round b jitter drift round value some = omega (arith, value, some)

beta_some : {m : Network} → 1 ≤ amount m.grain → (b : ℕ) → IsBeta m (pos b) → 1 ≤ b
beta_some fine b is = grind (arith, ints, mul-le-mul_right, some_round)

-- the beta of a network of trees, as a whole number
abbrev HasBeta : Network → Type 0
HasBeta m = (b : ℕ) × IsBeta m (pos b)

some_beta : (m : Network) → KeepsBelow 8 m → HasBeta m
some_beta m shape =
    let is = (beta_exists m (tree_of rules_give_trees m shape)).1 in (
      beta_at m is.jitter is.links,
      record {
        jitter = is.jitter;
        links = is.links;
        jitter_greatest = is.jitter_greatest;
        links_greatest = is.links_greatest;
        value = refl;
      },
    )

module _ (n : Network) (t : Times) (range : IsInRange n) (h : Suffices (with_times n t)) (room : t.tt_start + 4 * t.precision ≤ amount n.cycle) where
  abbrev m : Network
  m = with_times n t

  shape : KeepsBelow 8 m
  shape rule less = h.rules rule (omega (arith, less))

  begins : t.correction + t.dmax + 4 * t.precision ≤ t.tt_start
  begins =
      let link = some_link m shape in
      let all : t.correction + t.dmax + 4 * t.precision + pcf_port_time link.1 ≤ t.tt_start = h.begins link.0 (begin_bound m link.1) (link.1, link.2, refl) in
      omega (arith, all)

  corrected : 2 * t.dmax + amount n.calc + 10 * t.precision ≤ t.correction
  corrected = h.rules Correction (omega arith) 0

  calc : amount n.calc ≤ t.precision
  calc = (h.rules Precision (omega arith) 0).calc

  settles : t.settled ≤ t.precision
  settles =
      let beta = some_beta m shape in
      let all : t.settled + 16 * beta.0 + 24 * gamma_of n + 80 * amount n.grain ≤ t.precision = (h.rules Precision (omega arith) 0).errors beta.0 beta.1 in
      omega (arith, all)

  some_dmax : 1 ≤ t.dmax
  some_dmax =
      let beta = some_beta m shape in
      let path = some_path m shape (delay_on m) in
      let fine = (amount_within range.grain).1 in
      let some = beta_some fine beta.0 beta.1 in
      let way = path.1.1 in
      let all : beta.0 + delay_on n way.0 ≤ t.dmax = h.rules Delays (omega arith) path.1.0.0 beta.0 path.0 way.0 beta.1 way.1 way.2 in
      omega (arith, some, all)

  links : All (IsLinkInRange m) n.link
  links =
      all_of_each (IsLinkInRange m) n.link
      (λ k link at. let r = in_all (IsLinkInRange n) n.link k link range.links at in
      record { name = r.name; child = r.child; parent = r.parent; wire = r.wire; jitter = r.jitter; hold = r.hold })

  vls : All (IsVlInRange m) n.vl
  vls =
      all_of_each (IsVlInRange m) n.vl
      (λ k vl at. let r = in_all (IsVlInRange n) n.vl k vl range.vls at in
      record {
        name = r.name;
        id = r.id;
        length_least = r.length_least;
        length_most = r.length_most;
        ethertype_least = r.ethertype_least;
        ethertype_most = r.ethertype_most;
        ethertype_other = r.ethertype_other;
        sender = r.sender;
        period_least = r.period_least;
        period_most = r.period_most;
        phase = r.phase;
      })

  rows : All (IsRowInRange m) n.row
  rows =
      all_of_each (IsRowInRange m) n.row
      (λ k row at. let r = in_all (IsRowInRange n) n.row k row range.rows at in
      record { vl = r.vl; link = r.link; offset = r.offset })

  pub in_range : IsInRange m
  in_range =
      let first = begins in
      let second = corrected in
      let third = calc in
      let fourth = settles in
      let fifth = some_dmax in
      let cycle = (amount_within range.cycle).2 in
      let some_calc = (amount_within range.calc).1 in
      record {
        version = range.version;
        cycle = range.cycle;
        rho = range.rho;
        grain = range.grain;
        dmax = within 1 (2 ^ 40) t.dmax fifth (omega (arith, first, room, cycle));
        calc = range.calc;
        settled = within 0 (2 ^ 40) t.settled (omega arith) (omega (arith, fourth, room, cycle));
        precision = within 1 (2 ^ 40) t.precision (omega (arith, third, some_calc)) (omega (arith, room, cycle));
        correction = within 0 (2 ^ 40) t.correction (omega arith) (omega (arith, first, room, cycle));
        tt_start = within 0 (2 ^ 40) t.tt_start (omega arith) (omega (arith, room, cycle));
        marker = range.marker;
        threshold_least = range.threshold_least;
        threshold_most = range.threshold_most;
        few_devices = range.few_devices;
        few_links = range.few_links;
        few_vls = range.few_vls;
        few_rows = range.few_rows;
        devices = range.devices;
        links = links;
        vls = vls;
        rows = rows;
      }

pub times_in_range : (n : Network) (t : Times) → IsInRange n → AreLeast n t → IsEnough (room_of n t) → IsInRange (with_times n t)
times_in_range n t range least room = in_range n t range least.suffice room

-- The entries of the schedule, and the margins that the rules of a network's times leave.
use Rattle.std.proofs.{Math.Nat.{min-eq_left, min_comm, mod-mod}}
use Rattle.std.proofs.Common
use Common.{◌%◌, ◌*◌, ◌+◌, ◌-◌, ◌/◌, ◌<◌, ◌^◌, ◌∙◌, ◌∷◌, ◌≡◌, ◌≢◌, ◌≤◌, ◌⊎◌, List, None, Option, Some, [], ap, arith}
use Common.{div-add-mod', get_or, inl, inr, min, pos, pow-add, pow_mono, pow_pos, refl, suc, sym, zero, ℕ, ⊎_elim}
use Rattle.std.proofs.lemmas.{Bool.{cases_eq, cases_lt, false≢true}, Int.ints}
use Rattle.std.proofs.lemmas.{List.{Elements.All-weaker, Sums.sum_by-cons}, Nat.{mod-mul-add, mod_below}}
use Rattle.std.proofs.lemmas.{Option.slice_get-get_or}
use Rattle.std.specs.{List.{All, Contains, filter}}
use Rattle.std.specs.{Prelude.{if◌then◌else◌, Bool, false, length, option_and_then, option_map, slice_get, true}}
use Rattle.net_plan.specs.{Bounds.IsBeta, Paths.{IsPath, IsTree, IsUplink}}
use Rattle.net_plan.specs.{Places.{IsDeviceOf, IsSwitchOf, device_at, is_end_system, is_master, link_at}}
use Rattle.net_plan.specs.{Ranges.{IsInRange, IsWithin}, Rules.{KeepsShapeRules, RulesGiveTrees}}
use Rattle.net_plan.specs.declared.{ids.{DeviceId.DeviceId, LinkId.LinkId}, network.Network.Network}
use Rattle.net_plan.specs.declared.tables.{Link.Link, Role.{Role, TheVariants.{Client, Cm, Master, Relay}}, Row.Row}
use Rattle.net_plan.specs.declared.tables.{VirtualLink.VirtualLink}
use Rattle.schedule_tables.specs.{Entries.{IsEntry, source_of}, Rules.{KeepsBelow, KeepsRules}, Schedule.Coincide}
use Rattle.schedule_tables.specs.{Windows.OccursIn}
use Rattle.schedule_tables.specs.Delays.{CorrectionFits, ErrorsSettle, PrecisionFits, ScheduleFits, delay_by, delay_of}
use Rattle.schedule_tables.specs.Delays.{pcf_port_time}
use Rattle.schedule_tables.specs.Margins
use Margins.{CycleHasRoom, DriftHasRoom, ErrorsAreSmall, PrecisionHasRoom, RulesGiveMargins, SettledHasRoom}
use Rattle.schedule_tables.specs.declared.{entry.Entry.Entry}
use Rattle.schedule_tables.specs.declared.rule.Rule.TheVariants
use TheVariants.{CompressionMasters, Connections, Correction, Delays, DevicesDiffer, Forwarding, Joints, Limits}
use TheVariants.{LinksDiffer, Masters, Precision, ScheduleStart, Settling, Sources}
use Rattle.tte_units.{proofs.general_lemmas.{Lists.{in_all, period_power}, Options.{closed, opened}}}
use Rattle.tte_units.specs.{Amount.amount}
use Rattle.tte_units.specs.{declared.{frames.channel.Channel.{Channel, TheVariants.A}, units.Units.Units}}

-- ---- entries of the schedule

-- an entry is made of its row, its virtual link and its link
pub entry_by : (o : Option VirtualLink) (p : Option Link) (row : Row) (entry : Entry)
    → option_and_then (λ vl. option_map (λ link. record { row = row; vl = vl; link = link }) p) o ≡ Some entry → (o ≡ Some entry.vl) × (p ≡ Some entry.link)
    × (row ≡ entry.row)
entry_by None p row entry e = absurd cc
entry_by (Some vl) None row entry e = absurd cc
entry_by (Some vl) (Some link) row entry e = grind arith

-- two ids are one device's or not
pub same_or_other : (d e : DeviceId) → (d ≡ e) ⊎ (d ≢ e)
same_or_other d e = grind (arith, cases_eq)

-- by the offset: a row that leaves its sender is in the schedule, and any other comes behind one that enters its source
pub begun_below : {network : Network} (bound place : ℕ) (entry : Entry) → KeepsRules network
    → IsEntry network place entry → amount entry.row.offset < bound
    → amount network.tt_start ≤ amount entry.row.offset
begun_below zero place entry keeps is below = absurd (omega arith)
begun_below (suc bound) place entry keeps is below =
    elim (same_or_other (source_of entry) entry.vl.sender) [
      | inl sender ↦ (keeps Forwarding place).from_sender entry is sender
      | inr not ↦ elim (keeps Sources place entry is) [
        | inl sender ↦ absurd (not sender)
        | inr other ↦
            let k = other.1.0 in
            let enters = other.1.2 in
            let behind = (keeps Forwarding place).from_switch k enters.entry entry enters.is is (sym enters.same_vl) not enters.target in
            let first = begun_below bound k enters.entry keeps enters.is (omega arith) in
            omega arith
      ]
    ]

-- a remainder by a multiple leaves the remainder
pub mod_of_multiple : (n m c : ℕ) → 0 < c → n % (m * c) % c ≡ n % c
mod_of_multiple n m c more =
    let r = n % (m * c) in
    let one = div-add-mod' n (m * c) in
    let two = div-add-mod' (n % (m * c)) c in
    let whole : (n / (m * c) * m + r / c) * c + r % c ≡ n = omega arith in
    sym (mod-mul-add (n / (m * c) * m + r / c) c (r % c) (mod_below r c more)) ∙ (rw whole)

-- a remainder by a power of two leaves that by a lesser one
pub mod_of_powers : (n a b : ℕ) → b ≤ a → n % 2 ^ a % 2 ^ b ≡ n % 2 ^ b
mod_of_powers n a b le =
    let split : 2 ^ (a - b) * 2 ^ b ≡ 2 ^ a = sym (pow-add 2 (a - b) b) ∙ ap (λ k. 2 ^ k) (omega (arith, le)) in
    rw split at (mod_of_multiple n (2 ^ (a - b)) (2 ^ b) (pow_pos b))

-- the remainders of a number by two periods agree by the lesser one
pub periods_agree : (n p q : ℕ) → Contains (1 ∷ 2 ∷ 4 ∷ 8 ∷ 16 ∷ 32 ∷ 64 ∷ []) p → Contains (1 ∷ 2 ∷ 4 ∷ 8 ∷ 16 ∷ 32 ∷ 64 ∷ []) q
    → n % p % min p q ≡ n % q % min p q
periods_agree n p q one two =
    let a = period_power p one in
    let b = period_power q two in
    elim (cases_lt a.0 b.0) [
      | inl lt ↦
          let least : min (2 ^ a.0) (2 ^ b.0) ≡ 2 ^ a.0 = min-eq_left (pow_mono (omega (arith, lt))) in
          let same = mod-mod n (2 ^ a.0) ∙ sym (mod_of_powers n b.0 a.0 (omega arith)) in
          rw (a.1, b.1, least) same
      | inr ge ↦
          let least = min_comm (2 ^ a.0) (2 ^ b.0) ∙ min-eq_left (pow_mono ge) in
          let same = mod_of_powers n a.0 b.0 ge ∙ sym (mod-mod n (2 ^ b.0)) in
          rw (a.1, b.1, least) same
    ]

-- virtual links that occur in one cycle coincide
pub occur_together : {one two : VirtualLink} {cycle : ℕ} → Contains (1 ∷ 2 ∷ 4 ∷ 8 ∷ 16 ∷ 32 ∷ 64 ∷ []) one.period
    → Contains (1 ∷ 2 ∷ 4 ∷ 8 ∷ 16 ∷ 32 ∷ 64 ∷ []) two.period → OccursIn one cycle → OccursIn two cycle
    → Coincide one two
occur_together first second here there = grind (arith, min, periods_agree)

-- ---- the rules of a network's times leave the margins

amount_within : {low high : ℕ} {units : Units} → IsWithin low high units
    → (low ≤ amount units) × (amount units ≤ high)
amount_within h = (omega (arith, ints, h.least, h.most), omega (arith, ints, h.least, h.most))

-- half of a quotient
halved : (a b : ℕ) → b ≡ 2 * a → 2 * (a / 10 ^ 9) ≤ b / 10 ^ 9
halved a b e = omega arith

drift_room : {n : Network} → IsInRange n → DriftHasRoom n
drift_room range = grind (arith, amount_within, halved)

precision_room : {n : Network} (beta : ℕ) → IsInRange n → DriftHasRoom n → PrecisionFits n → IsBeta n (pos beta)
    → PrecisionHasRoom n beta
precision_room beta range drift fits is =
    let e = fits.errors beta is in
    let calc = (amount_within range.calc).0 in
    record {
      eight_errors = omega (arith, drift.two_drifts, drift.two_readings, drift.four_readings, drift.grain);
      compression_most = omega (arith, fits.calc);
      compression_least = omega arith;
    }

settled_room : {n : Network} (beta : ℕ) → DriftHasRoom n → ErrorsSettle n → IsBeta n (pos beta)
    → SettledHasRoom n beta
settled_room beta drift settle is =
    let e = settle beta is in
    record {
      errors = omega (arith, drift.two_drifts, drift.two_readings, drift.four_readings, drift.grain);
      spread = omega (arith, drift.two_drifts, drift.two_readings);
      more = omega arith;
    }

errors_small : (n : Network) (beta : ℕ) → ErrorsAreSmall n beta
errors_small n beta = grind arith

All-from_places : {X : Type 0} (P : X → Type 0) (xs : List X) → ((i : ℕ) (x : X) → slice_get xs i ≡ Some x → P x) → All P xs
All-from_places P xs h = λ k d below. h k (get_or xs k d) (slice_get-get_or xs k d below)

-- the rules of a network's shape are among the rules
pub shape_rules : (n : Network) → KeepsRules n → KeepsShapeRules n
shape_rules n keeps = record {
  limits = keeps Limits;
  devices = keeps DevicesDiffer;
  links = keeps LinksDiffer;
  cms = keeps CompressionMasters;
  joins = keeps Joints;
  connected = keeps Connections;
  masters_suffice = keeps Masters;
}

-- the last control frame on a link, with the schedule's begin
last_frame : {n : Network} → CorrectionFits n → ScheduleFits n → All
    (λ link. amount n.correction + amount n.dmax + 8 * amount n.precision + pcf_port_time link ≤ amount n.cycle)
    n.link
last_frame correction schedule = grind (arith, All-weaker)

cycle_room : {n : Network} {beta : ℕ} (link : Link) → DriftHasRoom n → PrecisionFits n → PrecisionHasRoom n beta
    → CorrectionFits n → ScheduleFits n
    → amount n.correction + amount n.dmax + 4 * amount n.precision + pcf_port_time link ≤ amount n.tt_start
    → CycleHasRoom n beta
cycle_room link drift fits precision correction schedule first = grind (arith, last_frame)

-- an element that a filter keeps
kept : {X : Type 0} (p : X → Bool) (xs : List X) → 1 ≤ length (filter p xs) → (i : ℕ) × (x : X) × (slice_get xs i ≡ Some x) × (p x ≡ true)
kept p [] h = absurd (omega arith)
kept p (x ∷ xs) h =
    elim (p x) as (λ b. p x ≡ b → 1 ≤ length (if b then x ∷ filter p xs else filter p xs) → (i : ℕ) × (y : _) × (slice_get (x ∷ xs) i ≡ Some y)
    × (p y ≡ true)) [
      | true ↦ λ e g. (0, x, refl, e)
      | false ↦ λ e g. let r = kept p xs g in (suc r.0, r.1, r.2, r.3)
    ] refl h

pub master_ends : (r : Role) → is_master r ≡ true → is_end_system r ≡ true
master_ends Master e = refl
master_ends Client e = refl
master_ends Cm e = absurd (false≢true e)
master_ends Relay e = absurd (false≢true e)

-- some device is a master, so there is a link
pub some_link : (n : Network) → KeepsBelow 8 n → (place : ℕ) × (link : Link) × (slice_get n.link place ≡ Some link)
some_link n shape =
    let four = (shape Masters (omega arith) 0).least refl in
    let m = kept (λ d. is_master d.role) n.device (omega arith) in
    let end = closed (λ d. is_end_system d.role ≡ true) (slice_get n.device m.0) m.1 m.2
    (master_ends m.1.role m.3) in
    let up = (shape Connections (omega arith) m.0).ends end A in
    let l = opened (λ l. (l.child ≡ record { 0 = m.0 }) × IsSwitchOf n A l.parent) (link_at n up.0) up.1 in
    (up.0.0, l.0, l.1)

module _ {n : Network} (beta : ℕ) (tree : IsTree n) (keeps : KeepsRules n) (is : IsBeta n (pos beta)) where
  -- dmax has room for the delays of a device's uplink, with which its path begins
  first_link : (c : Channel) (d : DeviceId) (place : ℕ) (link : Link) → slice_get n.link place ≡ Some link
      → IsUplink n c d (record { 0 = place }) → IsDeviceOf n c d → (links : List LinkId) → IsPath n c d links
      → beta + delay_by link ≤ amount n.dmax
  first_link c d place link at up member [] path = absurd (tree.root c d (record { 0 = place }) path up)
  first_link c d place link at up member (l ∷ ls) path =
      let k = opened (λ x. (x.child ≡ d) × IsSwitchOf n c x.parent × IsPath n c x.parent ls) (link_at n l)
      path in
      let also =
      closed (λ x. (x.child ≡ d) × IsSwitchOf n c x.parent) (link_at n l) k.0 k.1 (k.2.0, k.2.1) in
      let same = tree.one_uplink c d l (record { 0 = place }) also up in
      let here : delay_of n l ≡ delay_by link =
      ap (delay_of n) same ∙ (rw at) in
      let all = keeps Delays d.0 beta c (l ∷ ls) is member path in
      omega (arith, sum_by-cons (delay_of n) l ls)

  -- dmax has room for the delays of each link, which begins the path of its child
  link_room : (place : ℕ) (link : Link) → slice_get n.link place ≡ Some link → beta + delay_by link ≤ amount n.dmax
  link_room place link at =
      let joint = keeps Joints place link at in
      let up =
      closed (λ l. (l.child ≡ link.child) × IsSwitchOf n joint.0 l.parent)
      (slice_get n.link place) link at (refl, joint.1) in
      let member = ⊎_elim
      (λ e. let d = opened (λ d. is_end_system d.role ≡ true)
      (device_at n link.child) e in
      let r = closed
      (λ x. (is_end_system x.role ≡ true) ⊎ (x.channel ≡ Some joint.0)) (device_at n link.child) d.0
      d.1 (inl d.2) in r)
      (λ e. let d = opened
      (λ d. (d.role ≡ Relay) × (d.channel ≡ Some joint.0)) (device_at n link.child) e in
      let r = closed
      (λ x. (is_end_system x.role ≡ true) ⊎ (x.channel ≡ Some joint.0)) (device_at n link.child) d.0
      d.1 (inr d.2.1) in r)
      joint.2 in
      let path = tree.reach joint.0 link.child member in
      first_link joint.0 link.child place link at up member path.0 path.2

pub margins : RulesGiveTrees → RulesGiveMargins
margins trees n beta range keeps is =
    let tree = trees n (shape_rules n keeps) in
    let drift = drift_room range in
    let precision = precision_room beta range drift (keeps Precision 0) is in
    let one = some_link n (λ rule below. keeps rule) in
    let begins = in_all (λ link. amount n.correction + amount n.dmax + 4 * amount n.precision + pcf_port_time link ≤ amount n.tt_start) n.link one.0 one.1
    (keeps ScheduleStart 0).begins one.2 in
    record {
      drift = drift;
      precision = precision;
      cycle = cycle_room one.1 drift (keeps Precision 0) precision (keeps Correction 0) (keeps ScheduleStart 0) begins;
      dmax = record {
        path = omega (arith, link_room beta tree keeps is one.0 one.1 one.2);
        links = All-from_places (λ link. beta + delay_by link ≤ amount n.dmax) n.link (link_room beta tree keeps is);
        paths = λ c d links member path. keeps Delays d.0 beta c links is member path;
      };
      settled = settled_room beta drift (keeps Settling 0) is;
      errors = errors_small n beta;
    }

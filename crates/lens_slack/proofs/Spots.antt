-- The spots of a rule by their numbers, their bounds, and the first of the tightest.
use Rattle.std.proofs.{Math.Nat.mul-le-mul_right}
use Rattle.std.proofs.Common
use Common.{◌*◌, ◌+◌, ◌<◌, ◌^◌, ◌∙◌, ◌∷◌, ◌≡◌, ◌≢◌, ◌≤◌, ◌⊎◌, List, [], ap, arith, inl, inr, length, pos, refl, subst}
use Common.{suc, sym, zero, ℕ}
use Rattle.std.proofs.lemmas.{Bool.{cases_lt, le-ltb, lt-ltb}, Int.ints, List.Sums.sum_by-cons, Option.slice_get_within}
use Rattle.std.specs.{Option.option_map_or}
use Rattle.std.specs.Prelude.{if◌then◌else◌, ◌%◌, Bool, MatchOption, None, Option, Some, false, nat_lt, slice_get, true}
use Rattle.lens_slack.{proofs.Taken.device_by}
use Rattle.lens_slack.specs.{Keeping.{tighter, tighter_of}, Lines.spot_index}
use Rattle.lens_slack.specs.{Tightest.{ComesFirst, IsEnough, IsFirstTightest, IsTighter, IsTightestAt}}
use Rattle.lens_slack.specs.Bounds
use Bounds.{AreOfPort, EntersSource, IsBeginBound, IsBoundAt, IsComingBound, IsEnteringBound, IsErrorsBound, IsGapBound}
use Bounds.{IsPrecisionBound, begin_bound, calc_bound, clear_time, correction_bound, end_bound, entering_bound, found}
use Bounds.{gap_bound}
use Rattle.lens_slack.specs.Spots
use Spots.{IsFoundAt, IsSpotAt, IsTightestOf, channel_of, device_of, row_of, rule_of, spot_at, spots_of}
use Rattle.lens_slack.specs.declared.spot.{Beside.TheVariants.{Before, Behind}, BoundedNumber.BoundedNumber}
use Rattle.lens_slack.specs.declared.spot.{Finding.Finding, Measure.Measure}
use Rattle.net_plan.{proofs.Trees.{beta_is_unique, paths_are_unique}}
use Rattle.net_plan.specs.{Bounds.{IsBeta, IsGreatest, IsOfPath, beta_at, gamma_of, jitter_of, jitter_on}}
use Rattle.net_plan.specs.{Paths.{IsPath, IsTree}, Places.{IsDeviceOf, device_at, link_at}}
use Rattle.net_plan.specs.{Ranges.{IsInRange, IsLinkInRange}}
use Rattle.net_plan.specs.declared.{ids.{DeviceId.DeviceId, LinkId.LinkId, RowId.RowId}, network.Network.Network}
use Rattle.net_plan.specs.declared.{tables.Link.Link}
use Rattle.schedule_checker.specs.Timing.{errors_of}
use Rattle.schedule_tables.{proofs.SlotLemmas.one_entry}
use Rattle.schedule_tables.specs.{Delays.delay_on, Entries.{IsEntry, IsEntryInRange, source_of}}
use Rattle.schedule_tables.specs.{Windows.{port_time, window_end}}
use Rattle.schedule_tables.specs.declared.{entry.Entry.Entry}
use Rattle.schedule_tables.specs.declared.rule.Rule.{Rule}
use Rattle.schedule_tables.specs.declared.rule.Rule.TheVariants
use TheVariants.{Correction, Delays, Forwarding, Precision, ScheduleStart, Settling, Spacing, WindowEnds}
use Rattle.tte_units.{proofs.general_lemmas.{Lists.in_all, Options.one}}
use Rattle.tte_units.specs.{Amount.amount, OctetTime.octet_time}
use Rattle.tte_units.specs.{declared.{frames.channel.Channel.{Channel, TheVariants.{A, B}}, speed.Speed.Speed}}
use Rattle.lens_slack.specs.declared.spot.BoundedNumber.TheVariants as spots
use Rattle.lens_slack.specs.declared.spot.Measure.TheVariants as measures
use Rattle.tte_units.specs.declared.speed.Speed.TheVariants as speeds

-- ---- the first of the tightest findings, kept while they come one after another

-- those of a number below this one
abbrev pub Below : (ℕ → Finding → Type 0) → ℕ → ℕ → Finding → Type 0
Below Has i n f = (n < i) × Has n f

-- the one of this number, or none
abbrev pub IsAt : (ℕ → Finding → Type 0) → ℕ → Option Finding → Type 0
IsAt Has i None = (f : Finding) → Has i f → ⊥
IsAt Has i (Some f) = Has i f × ((g : Finding) → Has i g → g ≡ f)

-- none come before the first
pub none_below : (Has : ℕ → Finding → Type 0) → IsFirstTightest (Below Has 0) None
none_below Has n f below = absurd (omega (arith, below.0))

-- a number below the next one is below this one, or it is this one
below_or_at : (Has : ℕ → Finding → Type 0) (i n : ℕ) (f : Finding) → Below Has (i + 1) n f → Below Has i n f ⊎ ((n ≡ i) × Has i f)
below_or_at Has i n f below = grind (arith, cases_lt)

-- it comes before itself
before_itself : (n k : ℕ) (f g : Finding) → g ≡ f → n ≤ k → ComesFirst n f k g
before_itself n k f g same no_later = inr (subst (λ (h : Finding). f.has + h.wants ≡ h.has + f.wants) (sym same) refl, no_later)

tighter_new : (f g : Finding) → IsTighter g f → tighter f g ≡ g
tighter_new f g less = rw (lt-ltb (g.has + f.wants) (f.has + g.wants) less) refl

tighter_old : (f g : Finding) → f.has + g.wants ≤ g.has + f.wants → tighter f g ≡ f
tighter_old f g most = rw (le-ltb (g.has + f.wants) (f.has + g.wants) most) refl

module _ (Has : ℕ → Finding → Type 0) (i : ℕ) where
  first_one : (g : Finding) → IsFirstTightest (Below Has i) None → IsAt Has i (Some g) → IsFirstTightest (Below Has (i + 1)) (Some g)
  first_one g none at = (
    i,
    (omega arith, at.0),
    λ k h below. elim (below_or_at Has i k h below) [
      | inl less ↦ absurd (none k h less)
      | inr here ↦ let same = here.0 in before_itself i k g h (at.1 h here.1) (omega (arith, same))
    ],
  )

  same_one : (f : Finding) → IsFirstTightest (Below Has i) (Some f) → IsAt Has i None → IsFirstTightest (Below Has (i + 1)) (Some f)
  same_one f (n, is, first) none =
      let less = is.0 in (
        n,
        (omega (arith, less), is.1),
        λ k h below. elim (below_or_at Has i k h below) [
          | inl before ↦ first k h before
          | inr here ↦ absurd (none h here.1)
        ],
      )

  -- the new one is tighter
  new_one : (f g : Finding) → IsFirstTightest (Below Has i) (Some f) → IsAt Has i (Some g) → IsTighter g f → IsFirstTightest (Below Has (i + 1)) (Some g)
  new_one f g (n, is, first) at less = (
    i,
    (omega arith, at.0),
    λ k h below. elim (below_or_at Has i k h below) [
      | inl before ↦ elim (first k h before) [
        | inl tight ↦ inl (omega (arith, tight, less))
        | inr equal ↦ let same = equal.0 in inl (omega (arith, same, less))
      ]
      | inr here ↦ let same = here.0 in before_itself i k g h (at.1 h here.1) (omega (arith, same))
    ],
  )

  -- the new one is not tighter than the one that came before
  old_first : (n : ℕ) (f g : Finding) → n ≤ i → f.has + g.wants ≤ g.has + f.wants → ComesFirst n f i g
  old_first n f g no_later most = elim (cases_lt (f.has + g.wants) (g.has + f.wants)) [
    | inl tight ↦ inl tight
    | inr least ↦ inr (omega (arith, most, least), no_later)
  ]

  old_one : (f g : Finding) → IsFirstTightest (Below Has i) (Some f) → IsAt Has i (Some g) → f.has + g.wants ≤ g.has + f.wants
      → IsFirstTightest (Below Has (i + 1)) (Some f)
  old_one f g (n, is, first) at most =
      let less = is.0 in (
        n,
        (omega (arith, less), is.1),
        λ k h below. elim (below_or_at Has i k h below) [
          | inl before ↦ first k h before
          | inr here ↦
              subst (λ j. ComesFirst n f j h) (sym here.0)
              (subst (λ x. ComesFirst n f i x) (sym (at.1 h here.1)) (old_first n f g (omega (arith, less)) most))
        ],
      )

  -- the tightest so far, with the one of the next number
  pub next_tightest : (best next : Option Finding) → IsFirstTightest (Below Has i) best → IsAt Has i next
      → IsFirstTightest (Below Has (i + 1)) (tighter_of best next)
  next_tightest None None so_far at = λ n f below. elim (below_or_at Has i n f below) [
    | inl before ↦ so_far n f before
    | inr here ↦ at f here.1
  ]
  next_tightest None (Some g) so_far at = first_one g so_far at
  next_tightest (Some f) None so_far at = same_one f so_far at
  next_tightest (Some f) (Some g) so_far at = elim (cases_lt (g.has + f.wants) (f.has + g.wants)) [
    | inl less ↦
        subst (λ (x : Finding). IsFirstTightest (Below Has (i + 1)) (Some x)) (sym (tighter_new f g less)) (new_one f g so_far at less)
    | inr most ↦
        subst (λ (x : Finding). IsFirstTightest (Below Has (i + 1)) (Some x)) (sym (tighter_old f g most)) (old_one f g so_far at most)
  ]

-- where all numbers are below this one, it is the tightest of all
pub tightest_of_all : (Has : ℕ → Finding → Type 0) (count : ℕ) (best : Option Finding) → ((n : ℕ) (f : Finding) → Has n f → n < count)
    → IsFirstTightest (Below Has count) best → IsFirstTightest Has best
tightest_of_all Has count None within none = λ n f has. none n f (within n f has, has)
tightest_of_all Has count (Some f) within (n, is, first) = (n, is.1, λ k g has. first k g (within k g has, has))

-- the same of those that are the same
pub tightest_as : (Has Other : ℕ → Finding → Type 0) → ((n : ℕ) (f : Finding) → Has n f → Other n f) → ((n : ℕ) (f : Finding) → Other n f → Has n f)
    → (o : Option Finding) → IsFirstTightest Has o → IsFirstTightest Other o
tightest_as Has Other into back None none = λ n f other. none n f (back n f other)
tightest_as Has Other into back (Some f) (n, is, first) = (n, into n f is, λ k g other. first k g (back k g other))

-- the only one is the tightest
pub only_one : (Has : ℕ → Finding → Type 0) (f : Finding) → Has 0 f → ((n : ℕ) (g : Finding) → Has n g → g ≡ f) → IsFirstTightest Has (Some f)
only_one Has f is one = (0, is, λ k g has. before_itself 0 k f g (one k g has) (omega arith))

-- ---- the one bound of a number at a spot with several, or none

-- a link has one
pub begin_at : (network : Network) (n : ℕ) (link : Link) (f : Finding) → slice_get network.link n ≡ Some link → f ≡ begin_bound network link
    → IsAt (IsBeginBound network) n (Some f)
begin_at network n link f there is = grind arith

module _ (network : Network) (row : RowId) (n : ℕ) (first entry : Entry) (is_first : IsEntry network n first)
    (is_entry : IsEntry network row.0 entry) where
  -- an earlier row of the port has one, another has none
  pub gap_at : (o : Option Finding) → n < row.0
      → MatchOption o (AreOfPort first entry → ⊥) (λ f. AreOfPort first entry × (f ≡ gap_bound network row first entry)) → IsAt (IsGapBound network row) n o
  gap_at None before none = λ f bound.
      let same = one_entry network n bound.earlier first bound.is_earlier is_first in
      let its = one_entry network row.0 bound.entry entry bound.is_entry is_entry in
      none (subst (λ e. AreOfPort first e) its (subst (λ e. AreOfPort e bound.entry) same bound.of_port))
  gap_at (Some f) before (of_port, is) = (
    record { earlier = first; entry = entry; before = before; is_earlier = is_first; is_entry = is_entry; of_port = of_port; is = is },
    λ g bound.
        let same = one_entry network n bound.earlier first bound.is_earlier is_first in
        let its = one_entry network row.0 bound.entry entry bound.is_entry is_entry in
        bound.is ∙ ap (λ e. gap_bound network row e bound.entry) same ∙ ap (gap_bound network row first) its ∙ sym is,
  )

  -- a row that enters the source has one, another has none
  pub entering_at : (o : Option Finding) → source_of entry ≢ entry.vl.sender
      → MatchOption o (EntersSource first entry → ⊥) (λ f. EntersSource first entry × (f ≡ entering_bound network row first entry))
      → IsAt (IsEnteringBound network row) n o
  entering_at None no_sender none = λ f bound.
      let same = one_entry network n bound.entering first bound.is_entering is_first in
      let its = one_entry network row.0 bound.entry entry bound.is_entry is_entry in
      none (subst (λ e. EntersSource first e) its (subst (λ e. EntersSource e bound.entry) same bound.enters))
  entering_at (Some f) no_sender (enters, is) = (
    record { entering = first; entry = entry; is_entering = is_first; is_entry = is_entry; no_sender = no_sender; enters = enters; is = is },
    λ g bound.
        let same = one_entry network n bound.entering first bound.is_entering is_first in
        let its = one_entry network row.0 bound.entry entry bound.is_entry is_entry in
        bound.is ∙ ap (λ e. entering_bound network row e bound.entry) same ∙ ap (entering_bound network row first) its ∙ sym is,
  )

-- where the row does not leave its sender, its bounds are those of rows that enter its source
pub coming_enters : (network : Network) (row : RowId) (entry : Entry) → IsEntry network row.0 entry → source_of entry ≢ entry.vl.sender
    → (n : ℕ) (f : Finding) → IsComingBound network row n f → IsEnteringBound network row n f
coming_enters network row entry is no_sender n f (inl sender) =
    let same = one_entry network row.0 sender.1.entry entry sender.1.is_entry is in
    absurd (no_sender (subst (λ (e : Entry). source_of e ≡ e.vl.sender) same sender.1.sender))
coming_enters network row entry is no_sender n f (inr entering) = entering

-- ---- a spot has one bound of each number, and so one first tightest, which exists where it has any

-- each number has one finding at most
abbrev pub IsOneEach : (ℕ → Finding → Type 0) → Type 0
IsOneEach Has = (n : ℕ) (f g : Finding) → Has n f → Has n g → f ≡ g

-- ---- one first tightest

first_number : (n k : ℕ) (f g : Finding) → ComesFirst n f k g → ComesFirst k g n f → n ≡ k
first_number n k f g (inl tight) (inl other) = absurd (omega (arith, tight, other))
first_number n k f g (inl tight) (inr (equal, least)) = absurd (omega (arith, tight, equal))
first_number n k f g (inr (equal, least)) (inl tight) = absurd (omega (arith, tight, equal))
first_number n k f g (inr (equal, least)) (inr (same, most)) = omega (arith, least, most)

pub one_first : (Has : ℕ → Finding → Type 0) → IsOneEach Has → (o p : Option Finding) → IsFirstTightest Has o → IsFirstTightest Has p → o ≡ p
one_first Has each None None none other = refl
one_first Has each None (Some g) none (k, has, first) = absurd (none k g has)
one_first Has each (Some f) None (n, has, first) none = absurd (none n f has)
one_first Has each (Some f) (Some g) (n, is, first) (k, has, before) =
    let same : n ≡ k = first_number n k f g (first k g has) (before n f is) in
    ap (λ (h : Finding). Some h) (each k f g (subst (λ (i : ℕ). Has i f) same is) has)

-- there is one, or none, of those below a number: it can't be that there is neither
pub some_below : (Has : ℕ → Finding → Type 0) → IsOneEach Has → (count : ℕ) → ((o : Option Finding) → IsFirstTightest (Below Has count) o → ⊥) → ⊥
some_below Has each zero deny = deny None (none_below Has)
some_below Has each (suc n) deny = let next : n + 1 ≡ suc n = omega arith in some_below Has each n (λ o first.
    let none : IsAt Has n None = λ f has.
    deny (tighter_of o (Some f)) (subst (λ i. IsFirstTightest (Below Has i) (tighter_of o (Some f))) next
    (next_tightest Has n o (Some f) first (has, λ g other. each n g f other has))) in
    deny (tighter_of o None) (subst (λ i. IsFirstTightest (Below Has i) (tighter_of o None)) next (next_tightest Has n o None first none)))

pub some_first : (Has : ℕ → Finding → Type 0) → IsOneEach Has → (count : ℕ) → ((n : ℕ) (f : Finding) → Has n f → n < count)
    → ((o : Option Finding) → IsFirstTightest Has o → ⊥) → ⊥
some_first Has each count within deny = some_below Has each count (λ o first. deny o (tightest_of_all Has count o within first))

-- ---- one bound

module _ (network : Network) (tree : IsTree network) where
  pub beta_same : (b c : ℕ) → IsBeta network (pos b) → IsBeta network (pos c) → b ≡ c
  beta_same b c is other = omega (arith, ints, beta_is_unique network (pos b) (pos c) is other)

  entering_one : (row : ℕ) (n : ℕ) (f g : Finding) → IsEnteringBound network (record { 0 = row }) n f → IsEnteringBound network (record { 0 = row }) n g → f ≡ g
  entering_one row n f g a b =
      let first = one_entry network n a.entering b.entering a.is_entering b.is_entering in
      let its = one_entry network row a.entry b.entry a.is_entry b.is_entry in
      a.is ∙ ap (λ (e : Entry). entering_bound network (record { 0 = row }) e a.entry) first
      ∙ ap (entering_bound network (record { 0 = row }) b.entering) its ∙ sym b.is

  pub bound_one : (spot : BoundedNumber) → IsOneEach (IsBoundAt network spot)
  bound_one (spots.Path device channel) n f g (at, a) (here, b) =
      let by : ℕ → List LinkId → Finding = λ x ls. found (spots.Path device channel) (amount network.dmax) (x + delay_on network ls) in
      let same = beta_same a.beta b.beta a.is_beta b.is_beta in
      let way = paths_are_unique network channel device a.links b.links tree a.path b.path in
      a.is ∙ ap (λ (x : ℕ). by x a.links) same ∙ ap (by b.beta) way ∙ sym b.is
  bound_one spots.Settled n f g (at, a) (here, b) =
      let by : ℕ → Finding = λ x. found spots.Settled (amount network.settled) (8 * x + 12 * gamma_of network + 40 * amount network.grain) in
      a.is ∙ ap by (beta_same a.beta b.beta a.is_beta b.is_beta) ∙ sym b.is
  bound_one spots.Precision n f g (inl (at, a)) (inl (here, b)) =
      let by : ℕ → Finding = λ x.
      found spots.Precision (amount network.precision) (amount network.settled + 16 * x + 24 * gamma_of network + 80 * amount network.grain) in
      a.is ∙ ap by (beta_same a.beta b.beta a.is_beta b.is_beta) ∙ sym b.is
  bound_one spots.Precision n f g (inl (at, a)) (inr (here, b)) = absurd (omega (arith, at, here))
  bound_one spots.Precision n f g (inr (at, a)) (inl (here, b)) = absurd (omega (arith, at, here))
  bound_one spots.Precision n f g (inr (at, a)) (inr (here, b)) = a ∙ sym b
  bound_one spots.Correction n f g (at, a) (here, b) = a ∙ sym b
  bound_one spots.Begin n f g (link, there, a) (other, here, b) = a ∙ ap (begin_bound network) (one (slice_get network.link n) link other there here) ∙ sym b
  bound_one spots.End n f g (at, a) (here, b) = a ∙ sym b
  bound_one (spots.Window row) n f g (at, (entry, is, a)) (here, (other, its, b)) =
      let by : Entry → Finding = λ e. found (spots.Window row) (amount network.cycle) (window_end network e + 4 * amount network.precision) in
      a ∙ ap by (one_entry network row.0 entry other is its) ∙ sym b
  bound_one (spots.Gap row) n f g a b =
      let first = one_entry network n a.earlier b.earlier a.is_earlier b.is_earlier in
      let its = one_entry network row.0 a.entry b.entry a.is_entry b.is_entry in
      a.is ∙ ap (λ e. gap_bound network row e a.entry) first ∙ ap (gap_bound network row b.earlier) its ∙ sym b.is
  bound_one (spots.Coming row) n f g (inl (at, a)) (inl (here, b)) =
      let by : Entry → Finding = λ e. found (spots.Coming row) (amount e.row.offset) (amount network.tt_start) in
      a.is ∙ ap by (one_entry network row.0 a.entry b.entry a.is_entry b.is_entry) ∙ sym b.is
  bound_one (spots.Coming row) n f g (inl (at, a)) (inr b) =
      let same = one_entry network row.0 a.entry b.entry a.is_entry b.is_entry in
      absurd (b.no_sender (subst (λ (e : Entry). source_of e ≡ e.vl.sender) same a.sender))
  bound_one (spots.Coming row) n f g (inr a) (inl (here, b)) =
      let same = one_entry network row.0 b.entry a.entry b.is_entry a.is_entry in
      absurd (a.no_sender (subst (λ (e : Entry). source_of e ≡ e.vl.sender) same b.sender))
  bound_one (spots.Coming row) n f g (inr a) (inr b) = entering_one row.0 n f g a b

  -- how many bounds a spot has at most
  abbrev bounds_of : BoundedNumber → ℕ
  bounds_of (spots.Path device channel) = 1
  bounds_of spots.Settled = 1
  bounds_of spots.Precision = 2
  bounds_of spots.Correction = 1
  bounds_of spots.Begin = length network.link
  bounds_of spots.End = 1
  bounds_of (spots.Window row) = 1
  bounds_of (spots.Gap row) = row.0
  bounds_of (spots.Coming row) = length network.row + 1

  bound_within : (spot : BoundedNumber) (n : ℕ) (f : Finding) → IsBoundAt network spot n f → n < bounds_of spot
  bound_within (spots.Path device channel) n f (at, a) = omega (arith, at)
  bound_within spots.Settled n f (at, a) = omega (arith, at)
  bound_within spots.Precision n f (inl (at, a)) = omega (arith, at)
  bound_within spots.Precision n f (inr (at, a)) = omega (arith, at)
  bound_within spots.Correction n f (at, a) = omega (arith, at)
  bound_within spots.Begin n f (link, there, a) = slice_get_within network.link n link there
  bound_within spots.End n f (at, a) = omega (arith, at)
  bound_within (spots.Window row) n f (at, a) = omega (arith, at)
  bound_within (spots.Gap row) n f a = a.before
  bound_within (spots.Coming row) n f (inl (at, a)) = omega (arith, at)
  bound_within (spots.Coming row) n f (inr a) =
      let within = slice_get_within network.row n a.entering.row a.is_entering.row in omega (arith, within)

  -- ---- one first tightest at a spot, and of a measure

  pub one_at : (spot : BoundedNumber) (o p : Option Finding) → IsTightestAt network spot o → IsTightestAt network spot p → o ≡ p
  one_at spot o p is other = one_first (IsBoundAt network spot) (bound_one spot) o p is other

  pub some_at : (spot : BoundedNumber) → ((o : Option Finding) → IsTightestAt network spot o → ⊥) → ⊥
  some_at spot deny = some_first (IsBoundAt network spot) (bound_one spot) (bounds_of spot) (bound_within spot) deny

  pub found_one : (measure : Measure) → IsOneEach (IsFoundAt network measure)
  found_one measure n f g (within, is) (less, other) =
      let same : Some f ≡ Some g = one_at (spot_at measure n) (Some f) (Some g) is other in cc

  pub one_of : (measure : Measure) (o p : Option Finding) → IsTightestOf network measure o → IsTightestOf network measure p → o ≡ p
  one_of measure o p is other = one_first (IsFoundAt network measure) (found_one measure) o p is other

  pub some_of : (measure : Measure) → ((o : Option Finding) → IsTightestOf network measure o → ⊥) → ⊥
  some_of measure deny = some_first (IsFoundAt network measure) (found_one measure) (spots_of measure network) (λ n f is. is.0) deny

  -- what is found at the spot of a number
  pub found_at : (measure : Measure) (n : ℕ) (o : Option Finding) → n < spots_of measure network → IsTightestAt network (spot_at measure n) o
      → IsAt (IsFoundAt network measure) n o
  found_at measure n None within none = λ f is. none is.1.0 f is.1.1
  found_at measure n (Some f) within is = ((within, is), λ g other. found_one measure n g f other (within, is))

-- ---- the spots of a rule, by the numbers that its measures give them

-- the spot is the one of this number
pub record IsNumbered (network : Network) (measure : Measure) (number : ℕ) (spot : BoundedNumber) : Type 0 where
  pub within : number < spots_of measure network
  pub is : spot_at measure number ≡ spot

-- the number of a channel
abbrev pub channel_number : Channel → ℕ
channel_number A = 0
channel_number B = 1

pub path_number : (place : ℕ) (channel : Channel) → spot_at measures.Paths (2 * place + channel_number channel) ≡ spots.Path (device_of place) channel
path_number place A = grind arith
path_number place B = grind arith

path_numbered : (network : Network) (place : ℕ) (channel : Channel) → place < length network.device
    → IsNumbered network measures.Paths (2 * place + channel_number channel) (spots.Path (device_of place) channel)
path_numbered network place A within = record { within = omega (arith, within); is = path_number place A }
path_numbered network place B within = record { within = omega (arith, within); is = path_number place B }

-- the spot of a bound at a place of the measure's rule has a number; only where the schedule begins the rule has two
-- measures, and no places
module _ (network : Network) where
  -- a spot that a rule bounds at a place, by a measure
  pub record HasNumber (rule : Rule) (spot : BoundedNumber) : Type 0 where
    pub measure : Measure
    pub number : ℕ
    pub of_rule : rule_of measure ≡ rule
    pub numbered : IsNumbered network measure number spot

  moved : (n : ℕ) (f : Finding) (spot other : BoundedNumber) → spot ≡ other → IsBoundAt network spot n f → IsBoundAt network other n f
  moved n f spot other same bound = subst (λ s. IsBoundAt network s n f) same bound

  moved_number : (rule : Rule) (spot other : BoundedNumber) → spot ≡ other → HasNumber rule other → HasNumber rule spot
  moved_number rule spot other same has = subst (HasNumber rule) (sym same) has

  coming_within : (place n : ℕ) (f : Finding) → IsBoundAt network (spots.Coming (row_of place)) n f → place < length network.row
  coming_within place n f (inl own) = slice_get_within network.row place own.1.entry.row own.1.is_entry.row
  coming_within place n f (inr its) = slice_get_within network.row place its.entry.row its.is_entry.row

  pub has_number : (rule : Rule) (place : ℕ) (spot : BoundedNumber) (n : ℕ) (f : Finding) → IsSpotAt rule place spot → IsBoundAt network spot n f → HasNumber rule spot
  has_number Delays place spot n f (channel, same) bound =
      let member = (moved n f spot (spots.Path (device_of place) channel) same bound).1.member in
      let within = device_by network (device_of place) _ (device_at network (device_of place)) refl member in
      moved_number Delays spot _ same (record {
        measure = measures.Paths;
        number = 2 * place + channel_number channel;
        of_rule = refl;
        numbered = path_numbered network place channel within;
      })
  has_number Settling place spot n f same bound = moved_number Settling spot _ same (record {
    measure = measures.Settled;
    number = 0;
    of_rule = refl;
    numbered = record { within = omega arith; is = refl };
  })
  has_number Precision place spot n f same bound = moved_number Precision spot _ same (record {
    measure = measures.Precision;
    number = 0;
    of_rule = refl;
    numbered = record { within = omega arith; is = refl };
  })
  has_number Correction place spot n f same bound = moved_number Correction spot _ same (record {
    measure = measures.Correction;
    number = 0;
    of_rule = refl;
    numbered = record { within = omega arith; is = refl };
  })
  has_number ScheduleStart place spot n f (inl same) bound = moved_number ScheduleStart spot _ same (record {
    measure = measures.Begin;
    number = 0;
    of_rule = refl;
    numbered = record { within = omega arith; is = refl };
  })
  has_number ScheduleStart place spot n f (inr same) bound = moved_number ScheduleStart spot _ same (record {
    measure = measures.End;
    number = 0;
    of_rule = refl;
    numbered = record { within = omega arith; is = refl };
  })
  has_number WindowEnds place spot n f same bound =
      let its = (moved n f spot (spots.Window (row_of place)) same bound).1 in
      moved_number WindowEnds spot _ same (record {
        measure = measures.Windows;
        number = place;
        of_rule = refl;
        numbered = record { within = slice_get_within network.row place its.0.row its.1.row; is = refl };
      })
  has_number Spacing place spot n f same bound =
      let its = moved n f spot (spots.Gap (row_of place)) same bound in
      moved_number Spacing spot _ same (record {
        measure = measures.Gaps;
        number = place;
        of_rule = refl;
        numbered = record { within = slice_get_within network.row place its.entry.row its.is_entry.row; is = refl };
      })
  has_number Forwarding place spot n f same bound =
      moved_number Forwarding spot _ same (record {
        measure = measures.Comings;
        number = place;
        of_rule = refl;
        numbered = record { within = coming_within place n f (moved n f spot (spots.Coming (row_of place)) same bound); is = refl };
      })
  has_number other place spot n f at bound = absurd at

  -- the spot of a number is one of its rule at its place
  pub number_spot : (measure : Measure) (n : ℕ) → IsSpotAt (rule_of measure) (spot_index (spot_at measure n)) (spot_at measure n)
  number_spot measures.Paths n = (channel_of (n % 2), refl)
  number_spot measures.Settled n = refl
  number_spot measures.Precision n = refl
  number_spot measures.Correction n = refl
  number_spot measures.Begin n = inl refl
  number_spot measures.End n = inr refl
  number_spot measures.Windows n = refl
  number_spot measures.Gaps n = refl
  number_spot measures.Comings n = refl

  -- a bound names its spot
  gap_spot : (spot : BoundedNumber) (b : Bool) (f g : Finding) → f.spot ≡ spot → g.spot ≡ spot → (λ (h : Finding). h.spot ≡ spot) (if b then f else g)
  gap_spot spot true f g first second = first
  gap_spot spot false f g first second = second

  name : (f g : Finding) → f ≡ g → f.spot ≡ g.spot
  name f g same = ap (λ (h : Finding). h.spot) same

  pub bound_spot : (spot : BoundedNumber) (n : ℕ) (f : Finding) → IsBoundAt network spot n f → f.spot ≡ spot
  bound_spot (spots.Path device channel) n f (at, a) = name f _ a.is
  bound_spot spots.Settled n f (at, a) = name f _ a.is
  bound_spot spots.Precision n f (inl (at, a)) = name f _ a.is
  bound_spot spots.Precision n f (inr (at, a)) = name f _ a
  bound_spot spots.Correction n f (at, a) = name f _ a
  bound_spot spots.Begin n f (link, there, a) = name f _ a
  bound_spot spots.End n f (at, a) = name f _ a
  bound_spot (spots.Window row) n f (at, (entry, is, a)) = name f _ a
  bound_spot (spots.Gap row) n f a =
      name f (gap_bound network row a.earlier a.entry) a.is
      ∙ gap_spot (spots.Gap row) (nat_lt (amount a.entry.row.offset) (amount a.earlier.row.offset))
      (record { spot = spots.Gap row; has = amount a.earlier.row.offset; wants = clear_time network a.entry; beside = Before a.earlier.row.vl })
      (record { spot = spots.Gap row; has = amount a.entry.row.offset; wants = clear_time network a.earlier; beside = Behind a.earlier.row.vl }) refl refl
  bound_spot (spots.Coming row) n f (inl (at, a)) = name f _ a.is
  bound_spot (spots.Coming row) n f (inr a) = name f _ a.is

-- ---- what is tighter than what is short is short

pub tighter_short : (n k : ℕ) (f g : Finding) → ComesFirst n f k g → g.has < g.wants → f.has < f.wants
tighter_short n k f g (inl tight) short = omega (arith, tight, short)
tighter_short n k f g (inr (equal, least)) short = omega (arith, equal, short)

pub enough_unless : (f : Finding) → (f.has < f.wants → ⊥) → IsEnough f
enough_unless f deny = elim (cases_lt f.has f.wants) [ inl short ↦ absurd (deny short) | inr enough ↦ enough ]

met_by : (Has : ℕ → Finding → Type 0) (o : Option Finding) → IsFirstTightest Has o → ((f : Finding) → IsFirstTightest Has (Some f) → IsEnough f)
    → (n : ℕ) (g : Finding) → Has n g → g.has < g.wants → ⊥
met_by Has None none met n g has short = none n g has
met_by Has (Some f) first met n g has short =
    let enough = met f first in
    let tighter = tighter_short first.0 n f g (first.2 n g has) short in
    omega (arith, enough, tighter)

-- where the tightest is enough, all are
module _ (network : Network) (tree : IsTree network) where
  pub spot_met : (spot : BoundedNumber) → ((f : Finding) → IsTightestAt network spot (Some f) → IsEnough f) → (n : ℕ) (g : Finding) → IsBoundAt network spot n g
      → IsEnough g
  spot_met spot met n g bound = enough_unless g (λ short. some_at network tree spot (λ o first. met_by (IsBoundAt network spot) o first met n g bound short))

  measure_met : (measure : Measure) → ((f : Finding) → IsTightestOf network measure (Some f) → IsEnough f) → (n : ℕ) (g : Finding)
      → IsFoundAt network measure n g → IsEnough g
  measure_met measure met n g is =
      enough_unless g (λ short. some_of network tree measure (λ o first. met_by (IsFoundAt network measure) o first met n g is short))

  -- so all bounds at a spot of a measure
  pub bounds_met : (measure : Measure) → ((f : Finding) → IsTightestOf network measure (Some f) → IsEnough f) → (number : ℕ) (spot : BoundedNumber)
      → IsNumbered network measure number spot → (n : ℕ) (g : Finding) → IsBoundAt network spot n g → IsEnough g
  bounds_met measure met number spot numbered n g bound =
      spot_met spot
      (λ f tightest. measure_met measure met number f
      (numbered.within, subst (λ s. IsTightestAt network s (Some f)) (sym numbered.is) tightest)) n g bound

-- ---- the spots that have one bound, and that of the path of a device, which has one or none

-- ---- numbers of the whole network

pub correction_first : (network : Network) (f : Finding) → f ≡ correction_bound network → IsTightestAt network spots.Correction (Some f)
correction_first network f is = only_one (IsBoundAt network spots.Correction) f (refl, is) (λ n g bound. bound.1 ∙ sym is)

pub end_first : (network : Network) (f : Finding) → f ≡ end_bound network → IsTightestAt network spots.End (Some f)
end_first network f is = only_one (IsBoundAt network spots.End) f (refl, is) (λ n g bound. bound.1 ∙ sym is)

module _ (network : Network) (errors beta : ℕ) (is_beta : IsBeta network (pos beta)) (each : (b : ℕ) → IsBeta network (pos b) → errors ≡ errors_of network b)
  where
    abbrev settled_by : ℕ → Finding
    settled_by wants = found spots.Settled (amount network.settled) wants

    -- the errors of a resynchronisation are one number
    pub settled_first : (f : Finding) → f ≡ found spots.Settled (amount network.settled) errors → IsTightestAt network spots.Settled (Some f)
    settled_first f is =
        only_one (IsBoundAt network spots.Settled) f
        (refl, record { beta = beta; is_beta = is_beta; is = is ∙ ap settled_by (each beta is_beta) })
        (λ n g bound. bound.1.is ∙ ap settled_by (sym (each bound.1.beta bound.1.is_beta)) ∙ sym is)

    -- with twice these errors, the precision has one such bound
    errors_wanted : (b : ℕ) → IsBeta network (pos b)
        → amount network.settled + 2 * errors ≡ amount network.settled + 16 * b + 24 * gamma_of network + 80 * amount network.grain
    errors_wanted b is_b = let same = each b is_b in omega (arith, same)

    pub errors_first : (f : Finding) → f ≡ found spots.Precision (amount network.precision) (amount network.settled + 2 * errors) → IsErrorsBound network f
    errors_first f is = record { beta = beta; is_beta = is_beta; is = is ∙ ap (found spots.Precision (amount network.precision)) (errors_wanted beta is_beta) }

-- ---- the precision, which has two

pub precision_first : {network : Network} {errors : Finding} (calc : Finding) → IsErrorsBound network errors
    → calc ≡ calc_bound network → IsTightestAt network spots.Precision (tighter_of (Some errors) (Some calc))
precision_first {network} {errors} calc is_errors is_calc =
    let Has = IsPrecisionBound network in
    let only : (g : Finding) → Has 0 g → g ≡ errors = λ g bound. elim bound [
      | inl first ↦
          let b = first.1 in
          let same : b.beta ≡ is_errors.beta = omega (arith, ints, beta_is_unique network (pos b.beta) (pos is_errors.beta) b.is_beta is_errors.is_beta) in
          let wants : ℕ → Finding = λ x.
          found spots.Precision (amount network.precision) (amount network.settled + 16 * x + 24 * gamma_of network + 80 * amount network.grain) in
          b.is ∙ ap wants same ∙ sym is_errors.is
      | inr second ↦ absurd (omega (arith, second.0))
    ] in
    let one : IsFirstTightest (Below Has 1) (Some errors) = next_tightest Has 0 None (Some errors) (none_below Has) (inl (refl, is_errors), only) in
    let second : IsAt Has 1 (Some calc) = (
      inr (refl, is_calc),
      λ g bound. elim bound [ inl first ↦ absurd (omega (arith, first.0)) | inr other ↦ other.1 ∙ sym is_calc ],
    ) in
    let both = next_tightest Has 1 (Some errors) (Some calc) one second in
    tightest_of_all Has 2 (tighter_of (Some errors) (Some calc))
    (λ n f bound. elim bound [ inl first ↦ let at = first.0 in omega (arith, at) | inr other ↦ let at = other.0 in omega (arith, at) ]) both

-- ---- a window

pub window_first : {network : Network} (row : RowId) {entry : Entry} (f : Finding) → IsEntry network row.0 entry
    → f ≡ found (spots.Window row) (amount network.cycle) (window_end network entry + 4 * amount network.precision)
    → IsTightestAt network (spots.Window row) (Some f)
window_first row f is_entry is = grind (arith, only_one, one_entry)

-- ---- a path

pub no_path : (network : Network) (device : DeviceId) (channel : Channel) → (IsDeviceOf network channel device → ⊥)
    → IsTightestAt network (spots.Path device channel) None
no_path network device channel none n f bound = none bound.1.member

module _ (network : Network) (tree : IsTree network) (device : DeviceId) (channel : Channel) where
  pub path_first : (beta : ℕ) (links : List LinkId) (f : Finding) → IsBeta network (pos beta) → IsDeviceOf network channel device
      → IsPath network channel device links → f ≡ found (spots.Path device channel) (amount network.dmax) (beta + delay_on network links)
      → IsTightestAt network (spots.Path device channel) (Some f)
  path_first beta links f is_beta member path is =
      let by : ℕ → List LinkId → Finding = λ b ls. found (spots.Path device channel) (amount network.dmax) (b + delay_on network ls) in
      only_one (IsBoundAt network (spots.Path device channel)) f
      (refl, record { beta = beta; is_beta = is_beta; links = links; member = member; path = path; is = is })
      (λ n g bound.
      let b = bound.1 in
      let same : b.beta ≡ beta = omega (arith, ints, beta_is_unique network (pos b.beta) (pos beta) b.is_beta is_beta) in
      let way : b.links ≡ links = paths_are_unique network channel device b.links links tree b.path path in
      b.is ∙ ap (λ (x : ℕ). by x b.links) same ∙ ap (by beta) way ∙ sym is)

-- ---- a row that leaves its sender

pub sender_first : {network : Network} (row : RowId) {entry : Entry} (f : Finding) → IsEntry network row.0 entry
    → source_of entry ≡ entry.vl.sender → f ≡ found (spots.Coming row) (amount entry.row.offset)
    (amount network.tt_start) → IsTightestAt network (spots.Coming row) (Some f)
sender_first row f is_entry sender is = grind (arith, only_one, one_entry)

-- ---- how great beta is at most

module _ (network : Network) (range : IsInRange network) where
  jitter_by : (link : LinkId) (o : Option Link) → link_at network link ≡ o → option_map_or (λ (l : Link). amount l.jitter) o 0 ≤ 2 ^ 40
  jitter_by link None at = omega arith
  jitter_by link (Some l) at =
      let jitter = (in_all (IsLinkInRange network) network.link link.0 l range.links at).jitter in
      omega (arith, ints, jitter.least, jitter.most)

  -- the jitters of a path
  jitters : (links : List LinkId) → jitter_on network links ≤ length links * 2 ^ 40
  jitters [] = omega arith
  jitters (link ∷ links) =
      let first = jitter_by link (link_at network link) refl in
      let rest = jitters links in
      let whole = sum_by-cons (jitter_of network) link links in
      omega (arith, whole, first, rest)

  module _ (tree : IsTree network) where
    -- a path has eight links at most
    path_short : (channel : Channel) (device : DeviceId) (links : List LinkId) → IsDeviceOf network channel device → IsPath network channel device links
        → length links ≤ 8
    path_short channel device links member path =
        let short = tree.reach channel device member in
        subst (λ ls. length ls ≤ 8) (paths_are_unique network channel device short.0 links tree short.2 path) short.1

    greatest_jitter : (m : ℕ) → IsGreatest (IsOfPath network (jitter_on network)) m → m ≤ 8 * 2 ^ 40
    greatest_jitter m g = elim g.reached [
      | inl none ↦ omega (arith, none)
      | inr has ↦
          let jitter = jitters has.1.1.0 in
          let short = path_short has.0 has.1.0 has.1.1.0 has.1.1.1 has.1.1.2 in
          let is = has.1.1.3 in
          omega (arith, is, jitter, short)
    ]

    greatest_length : (m : ℕ) → IsGreatest (IsOfPath network length) m → m ≤ 8
    greatest_length m g = elim g.reached [
      | inl none ↦ omega (arith, none)
      | inr has ↦
          let short = path_short has.0 has.1.0 has.1.1.0 has.1.1.1 has.1.1.2 in
          let is = has.1.1.3 in
          omega (arith, is, short)
    ]

    pub beta_small : (beta : ℕ) → IsBeta network (pos beta) → beta ≤ 2 ^ 44
    beta_small beta is =
        let rho = range.rho in
        let dmax = range.dmax in
        let grain = range.grain in
        let jitter = greatest_jitter is.jitter is.jitter_greatest in
        let links = greatest_length is.links is.links_greatest in
        let value : beta ≡ beta_at network is.jitter is.links = omega (arith, ints, is.value) in
        let most : amount network.dmax ≤ 2 ^ 40 = omega (arith, ints, dmax.least, dmax.most) in
        let fine : amount network.grain ≤ 1048576 = omega (arith, ints, grain.least, grain.most) in
        let rates : 4 * network.rho ≤ 4000000 = omega (arith, rho) in
        let first : 4 * network.rho * amount network.dmax ≤ 4000000 * amount network.dmax = mul-le-mul_right (amount network.dmax) rates in
        let steps : 8 * amount network.grain ≤ 8388608 = omega (arith, fine) in
        let round : 8 * amount network.grain * (is.links + 2) ≤ 8388608 * (is.links + 2) = mul-le-mul_right (is.links + 2) steps in
        omega (arith, value, jitter, links, most, first, round)

  -- ---- how great the end of a window is at most

  gamma_small : gamma_of network ≤ 2 ^ 40
  gamma_small =
      let rho = range.rho in
      let cycle = range.cycle in
      let grain = range.grain in
      let most : amount network.cycle ≤ 2 ^ 40 = omega (arith, ints, cycle.least, cycle.most) in
      let fine : amount network.grain ≤ 1048576 = omega (arith, ints, grain.least, grain.most) in
      let rates : 2 * network.rho ≤ 2000000 = omega (arith, rho) in
      let drift : 2 * network.rho * (2 * amount network.cycle) ≤ 2000000 * (2 * amount network.cycle) = mul-le-mul_right (2 * amount network.cycle) rates in
      omega (arith, most, fine, drift)

  octet_small : (speed : Speed) → octet_time speed ≤ 2 ^ 23
  octet_small speeds.Mbit100 = omega arith
  octet_small speeds.Gbit1 = omega arith

  port_small : (entry : Entry) → IsEntryInRange network entry → port_time entry ≤ 2 ^ 34
  port_small entry in_range =
      let most = in_range.vl.length_most in
      let octets : entry.vl.length + 24 ≤ 1538 = omega (arith, most) in
      let time : (entry.vl.length + 24) * octet_time entry.link.speed ≤ 1538 * octet_time entry.link.speed =
      mul-le-mul_right (octet_time entry.link.speed) octets in
      let speed = octet_small entry.link.speed in
      omega (arith, time, speed)

  pub window_small : (entry : Entry) → IsEntryInRange network entry → window_end network entry ≤ 2 ^ 44
  window_small entry in_range =
      let offset = in_range.row.offset in
      let wire = in_range.link.wire in
      let jitter = in_range.link.jitter in
      let precision = range.precision in
      let first : amount entry.row.offset ≤ 2 ^ 40 = omega (arith, ints, offset.least, offset.most) in
      let second : amount entry.link.wire ≤ 2 ^ 40 = omega (arith, ints, wire.least, wire.most) in
      let third : amount entry.link.jitter ≤ 2 ^ 40 = omega (arith, ints, jitter.least, jitter.most) in
      let fourth : amount network.precision ≤ 2 ^ 40 = omega (arith, ints, precision.least, precision.most) in
      let port = port_small entry in_range in
      let gamma = gamma_small in
      omega (arith, first, second, third, fourth, port, gamma)

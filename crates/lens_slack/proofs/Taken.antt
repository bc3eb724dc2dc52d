-- What is found of a rule at a place, taken step by step.
use Rattle.std.{specs.Prelude.{◌↔◌, All, IsSomeAnd, length}}
use Rattle.std.proofs.Common
use Common.{if◌then◌else◌, ◌*◌, ◌++◌, ◌+◌, ◌<◌, ◌∙◌, ◌∷◌, ◌≡◌, ◌≤◌, ◌⊎◌, Bool, List, None, Option, Some, [], ap}
use Common.{append_assoc, arith, drop, false, get_or, inl, inr, refl, subst, suc, sym, true, zero, ℕ}
use Rattle.std.proofs.lemmas.{Bool.{cases_lt, le-ltb, lt-ltb}}
use Rattle.std.proofs.lemmas.{List.{Elements.{All-append, All-cons, All-nil}, append-nil, at_drop_more}}
use Rattle.std.proofs.lemmas.{Option.slice_get_within}
use Rattle.lens_slack.specs.{Finds.{AreFound, AreOf, some_found}, Laws.BoundsDecide}
use Rattle.lens_slack.specs.{Spots.{IsSpotAt, IsSpotOf, IsTightestOf, device_of, row_of, spot_at, spots_of}}
use Rattle.lens_slack.specs.{Taking.Takes, Tightest.{IsEnough, IsTightestAt}, Writing.IsWritable}
use Rattle.lens_slack.specs.Bounds
use Bounds.{IsBoundAt, begin_bound, calc_bound, clear_time, correction_bound, end_bound, entering_bound, found}
use Bounds.{gap_bound}
use Rattle.lens_slack.specs.declared.{measuring.Ending.{Ending, TheVariants.{Broken, Whole}}}
use Rattle.lens_slack.specs.declared.{step.Step.{Step, TheVariants.{Judged, Listed, Measured}}}
use Rattle.lens_slack.specs.declared.spot.{Beside.TheVariants.{Before, Behind}, BoundedNumber.BoundedNumber}
use Rattle.lens_slack.specs.declared.spot.{Finding.Finding, Measure.Measure}
use Rattle.net_plan.specs.{Bounds.gamma_of, Places.device_at}
use Rattle.net_plan.specs.declared.{ids.{DeviceId.DeviceId, RowId.RowId}, network.Network.Network}
use Rattle.net_plan.specs.declared.{tables.{Device.Device, Link.Link}}
use Rattle.schedule_checker.{proofs.Elements.{all_of_each, each_of_all}, specs.Judging.plan_rule}
use Rattle.schedule_tables.specs.{Schedule.{ComesInTime, EndsInCycle, IsClearBefore, StandsApart}, Windows.window_end}
use Rattle.schedule_tables.specs.Delays.{CorrectionFits, DelaysFit, ErrorsSettle, PrecisionFits, ScheduleFits, delay_on}
use Rattle.schedule_tables.specs.Delays.{pcf_port_time}
use Rattle.schedule_tables.specs.declared.{entry.Entry.Entry}
use Rattle.schedule_tables.specs.declared.rule.Rule.{Rule}
use Rattle.schedule_tables.specs.declared.rule.Rule.TheVariants
use TheVariants.{Correction, Delays, Forwarding, Precision, ScheduleStart, Settling, Spacing, WindowEnds}
use Rattle.tte_units.specs.{Amount.amount, OctetTime.octet_time, declared.speed.Speed.Speed}
use Rattle.lens_slack.specs.declared.spot.BoundedNumber.TheVariants as spots
use Rattle.lens_slack.specs.declared.spot.Measure.TheVariants as measures
use Rattle.tte_units.specs.declared.speed.Speed.TheVariants as speeds

-- ---- a rule that is an inequality is kept at a place exactly where all its bounds there are

-- what is the same is as much
enough_by : (f g : Finding) → f ≡ g → IsEnough g → IsEnough f
enough_by f g same enough = subst IsEnough (sym same) enough

-- the bounds of a rule at a place are kept
abbrev AreEnough : Network → Rule → ℕ → Type 0
AreEnough network rule place = (spot : BoundedNumber) (n : ℕ) (f : Finding) → IsSpotAt rule place spot → IsBoundAt network spot n f → IsEnough f

-- a bound of a spot that is this one
moved : (network : Network) (n : ℕ) (f : Finding) (spot other : BoundedNumber) → spot ≡ other → IsBoundAt network spot n f → IsBoundAt network other n f
moved network n f spot other same bound = subst (λ s. IsBoundAt network s n f) same bound

-- ---- the rules of times

module _ (network : Network) (place : ℕ) where
  delays : DelaysFit network place ↔ AreEnough network Delays place
  delays = (
    λ kept spot n f at bound. let b = (moved network n f spot _ at.1 bound).1 in
        enough_by f _ b.is (kept b.beta at.0 b.links b.is_beta b.member b.path),
    λ all beta channel links is member path.
        all (spots.Path (device_of place) channel) 0 (found (spots.Path (device_of place) channel)
        (amount network.dmax) (beta + delay_on network links))
        (channel, refl) (refl, record { beta = beta; is_beta = is; links = links; member = member; path = path; is = refl }),
  )

  settling : ErrorsSettle network ↔ AreEnough network Settling place
  settling = (
    λ kept spot n f at bound. let b =
        (moved network n f spot _ at bound).1 in enough_by f _ b.is (kept b.beta b.is_beta),
    λ all beta is.
        all spots.Settled 0 (found spots.Settled (amount network.settled)
        (8 * beta + 12 * gamma_of network + 40 * amount network.grain)) refl
        (refl, record { beta = beta; is_beta = is; is = refl }),
  )

  precision : PrecisionFits network ↔ AreEnough network Precision place
  precision = (
    λ kept spot n f at bound. elim (moved network n f spot spots.Precision at bound) [
      | inl errors ↦ let b = errors.1 in enough_by f _ b.is (kept.errors b.beta b.is_beta)
      | inr calc ↦ enough_by f (calc_bound network) calc.1 kept.calc
    ],
    λ all. record {
      errors = λ beta is.
          all spots.Precision 0
          (found spots.Precision (amount network.precision)
          (amount network.settled + 16 * beta + 24 * gamma_of network + 80 * amount network.grain))
          refl (inl (refl, record { beta = beta; is_beta = is; is = refl }));
      calc = all spots.Precision 1 (calc_bound network) refl (inr (refl, refl));
    },
  )

  correction : CorrectionFits network ↔ AreEnough network Correction place
  correction = (
    λ kept spot n f at bound. enough_by f (correction_bound network)
        (moved network n f spot spots.Correction at bound).1 kept,
    λ all. all spots.Correction 0 (correction_bound network) refl (refl, refl),
  )

  start : ScheduleFits network ↔ AreEnough network ScheduleStart place
  start =
      let begins : Link → Type 0 = λ link.
      amount network.correction + amount network.dmax + 4 * amount network.precision + pcf_port_time link ≤ amount
      network.tt_start in (
        λ kept spot n f at bound. elim at [
          | inl begin ↦
              let b = moved network n f spot spots.Begin begin bound in
              enough_by f (begin_bound network b.0) b.2 (each_of_all begins network.link kept.begins n b.0 b.1)
          | inr end ↦ enough_by f (end_bound network) (moved network n f spot spots.End end bound).1 kept.ends
        ],
        λ all. record {
          begins = all_of_each begins network.link (λ k link there. all spots.Begin k (begin_bound network link)
              (inl refl) (link, there, refl));
          ends = all spots.End 0 (end_bound network) (inr refl) (refl, refl);
        },
      )

  windows : EndsInCycle network place ↔ AreEnough network WindowEnds place
  windows = (
    λ kept spot n f at bound. let b = (moved network n f spot _ at bound).1 in enough_by f _ b.2 (kept b.0 b.1),
    λ all entry is.
        all (spots.Window (row_of place)) 0
        (found (spots.Window (row_of place)) (amount network.cycle)
        (window_end network entry + 4 * amount network.precision)) refl
        (refl, (entry, is, refl)),
  )

-- ---- rows of one port

-- a frame occupies its port for some time
some_time : (speed : Speed) (octets : ℕ) → 1 ≤ (octets + 24) * octet_time speed
some_time speeds.Mbit100 octets = omega arith
some_time speeds.Gbit1 octets = omega arith

gap_before : (network : Network) (row : RowId) (earlier entry : Entry) → amount entry.row.offset < amount earlier.row.offset
    → gap_bound network row earlier entry ≡ record {
      spot = spots.Gap row;
      has = amount earlier.row.offset;
      wants = clear_time network entry;
      beside = Before earlier.row.vl;
    }
gap_before network row earlier entry less = rw (lt-ltb (amount entry.row.offset) (amount earlier.row.offset) less) refl

gap_behind : (network : Network) (row : RowId) (earlier entry : Entry) → amount earlier.row.offset ≤ amount entry.row.offset
    → gap_bound network row earlier entry ≡ record {
      spot = spots.Gap row;
      has = amount entry.row.offset;
      wants = clear_time network earlier;
      beside = Behind earlier.row.vl;
    }
gap_behind network row earlier entry most = rw (le-ltb (amount entry.row.offset) (amount earlier.row.offset) most) refl

module _ (network : Network) (row : RowId) (earlier entry : Entry) where
  gap_kept : IsClearBefore network earlier entry ⊎ IsClearBefore network entry earlier
      → IsEnough (gap_bound network row earlier entry)
  gap_kept clear = grind (arith, cases_lt, enough_by, gap_before, gap_behind, some_time)

  gap_clear : IsEnough (gap_bound network row earlier entry)
      → IsClearBefore network earlier entry ⊎ IsClearBefore network entry earlier
  gap_clear enough = grind (arith, cases_lt, gap_before, gap_behind)

gaps : (network : Network) (place : ℕ) → StandsApart network place ↔ AreEnough network Spacing place
gaps network place = (
  λ kept spot n f at bound.
      let b = moved network n f spot (spots.Gap (row_of place)) at bound in
      enough_by f _ b.is (gap_kept network (row_of place) b.earlier b.entry
      (kept n b.earlier b.entry b.before b.is_earlier b.is_entry b.of_port.same_link b.of_port.same_way b.of_port.coincide)),
  λ all k earlier entry before is_earlier is_entry same_link same_way coincide.
      gap_clear network (row_of place) earlier entry
      (all (spots.Gap (row_of place)) k (gap_bound network (row_of place) earlier entry) refl (record {
        earlier = earlier;
        entry = entry;
        before = before;
        is_earlier = is_earlier;
        is_entry = is_entry;
        of_port = record { same_link = same_link; same_way = same_way; coincide = coincide };
        is = refl;
      })),
)

-- ---- when rows come

comings : (network : Network) (place : ℕ) → ComesInTime network place ↔ AreEnough network Forwarding place
comings network place = (
  λ kept spot n f at bound. elim (moved network n f spot (spots.Coming (row_of place)) at bound) [
    | inl sender ↦ let b = sender.1 in enough_by f _ b.is (kept.from_sender b.entry b.is_entry b.sender)
    | inr b ↦
        let behind = kept.from_switch n b.entering b.entry b.is_entering b.is_entry b.enters.same_vl b.no_sender b.enters.enters in
        enough_by f _ b.is (omega (arith, behind))
  ],
  λ all. record {
    from_sender = λ entry is sender.
        all (spots.Coming (row_of place)) 0 (found (spots.Coming (row_of place)) (amount entry.row.offset) (amount network.tt_start)) refl
        (inl (refl, record { entry = entry; is_entry = is; sender = sender; is = refl }));
    from_switch = λ k entering entry is_entering is_entry same_vl no_sender enters.
        let enough = all (spots.Coming (row_of place)) k (entering_bound network (row_of place) entering entry) refl (inr (record {
          entering = entering;
          entry = entry;
          is_entering = is_entering;
          is_entry = is_entry;
          no_sender = no_sender;
          enters = record { same_vl = same_vl; enters = enters };
          is = refl;
        })) in
        omega (arith, enough);
  },
)

pub bounds_decide : BoundsDecide
bounds_decide network Delays place is = delays network place
bounds_decide network Settling place is = settling network place
bounds_decide network Precision place is = precision network place
bounds_decide network Correction place is = correction network place
bounds_decide network ScheduleStart place is = start network place
bounds_decide network WindowEnds place is = windows network place
bounds_decide network Spacing place is = gaps network place
bounds_decide network Forwarding place is = comings network place
bounds_decide network other place is = absurd is

-- ---- what is found names things of the network, so it has a line

as_writable : {network : Network} (f : Finding) {g : Finding} → f ≡ g → IsWritable network g → IsWritable network f
as_writable {network} f same writable = subst (IsWritable network) (sym same) writable

-- a device of a channel is one of the network's
pub device_by : (network : Network) (device : DeviceId) (P : Device → Type 0) (o : Option Device) → device_at network device ≡ o → IsSomeAnd o P
    → device.0 < length network.device
device_by network device P None at none = absurd none
device_by network device P (Some d) at there = slice_get_within network.device device.0 d at

-- the gap names the earlier row's virtual link, whichever comes first
gap_by : (network : Network) (row : RowId) (earlier entry : Entry) (b : Bool) → row.0 < length network.row → earlier.row.vl.0 < length network.vl
    → IsWritable network (if b
    then record { spot = spots.Gap row; has = amount earlier.row.offset; wants = clear_time network entry; beside = Before earlier.row.vl }
    else record { spot = spots.Gap row; has = amount entry.row.offset; wants = clear_time network earlier; beside = Behind earlier.row.vl })
gap_by network row earlier entry true within vl = record { spot = within; next = vl }
gap_by network row earlier entry false within vl = record { spot = within; next = vl }

module _ (network : Network) where
  pub bound_writable : (spot : BoundedNumber) (n : ℕ) (f : Finding) → IsSpotOf network spot → IsBoundAt network spot n f
      → IsWritable network f
  bound_writable (spots.Path device channel) n f of_network bound = grind (arith, as_writable, device_by)
  bound_writable spots.Settled n f of_network bound =
      as_writable {network = network} f bound.1.is (record { spot = tt; next = tt })
  bound_writable spots.Precision n f of_network (inl first) =
      as_writable {network = network} f first.1.is (record { spot = tt; next = tt })
  bound_writable spots.Precision n f of_network (inr second) =
      as_writable {network = network} f {g = calc_bound network} second.1 (record { spot = tt; next = tt })
  bound_writable spots.Correction n f of_network bound =
      as_writable {network = network} f bound.1 (record { spot = tt; next = tt })
  bound_writable spots.Begin n f of_network bound =
      as_writable {network = network} f bound.2 (record { spot = tt; next = tt })
  bound_writable spots.End n f of_network bound =
      as_writable {network = network} f bound.1 (record { spot = tt; next = tt })
  bound_writable (spots.Window row) n f of_network bound =
      as_writable {network = network} f bound.1.2 (record { spot = of_network; next = tt })
  bound_writable (spots.Gap row) n f of_network bound = grind (arith, as_writable, gap_by, slice_get_within)
  bound_writable (spots.Coming row) n f of_network (inl sender) =
      as_writable {network = network} f sender.1.is (record { spot = of_network; next = tt })
  bound_writable (spots.Coming row) n f of_network (inr bound) =
      as_writable {network = network} f bound.is (record { spot = of_network; next = tt })

  -- ---- all that is found

  spot_within : (measure : Measure) (n : ℕ) → n < spots_of measure network → IsSpotOf network (spot_at measure n)
  spot_within measures.Paths n within = tt
  spot_within measures.Settled n within = tt
  spot_within measures.Precision n within = tt
  spot_within measures.Correction n within = tt
  spot_within measures.Begin n within = tt
  spot_within measures.End n within = tt
  spot_within measures.Windows n within = within
  spot_within measures.Gaps n within = within
  spot_within measures.Comings n within = within

  -- the tightest at a spot, where there is one
  some_at : (spot : BoundedNumber) (f : Option Finding) → IsSpotOf network spot → IsTightestAt network spot f
      → All (IsWritable network) (some_found f)
  some_at spot None of_network tightest = All-nil (IsWritable network)
  some_at spot (Some f) of_network (n, is, first) =
      All-cons (IsWritable network) f [] (bound_writable spot n f of_network is) (All-nil (IsWritable network))

  -- the tightest of a measure
  some_of : (measure : Measure) (f : Option Finding) → IsTightestOf network measure f
      → All (IsWritable network) (some_found f)
  some_of measure None tightest = All-nil (IsWritable network)
  some_of measure (Some f) (n, (within, is), first) =
      some_at (spot_at measure n) (Some f) (spot_within measure n within) is

  -- those of spots from a number on
  found_writable : (measure : Measure) (first count : ℕ) (fs : List Finding)
      → first + count ≤ spots_of measure network → AreFound network measure first count fs
      → All (IsWritable network) fs
  found_writable measure first zero fs within none =
      subst (All (IsWritable network)) (sym none) (All-nil (IsWritable network))
  found_writable measure first (suc count) fs within (f, others, is, rest, same) =
      subst (All (IsWritable network)) (sym same)
      (All-append (IsWritable network) (some_found f) others
      (some_at (spot_at measure first) f (spot_within measure first (omega (arith, within))) is)
      (found_writable measure (first + 1) count others (omega (arith, within)) rest))

  -- those of steps
  pub are_writable : (steps : List Step) (fs : List Finding) (end : Ending) → AreOf network steps fs end
      → All (IsWritable network) fs
  are_writable [] fs end are = subst (All (IsWritable network)) (sym are.0) (All-nil (IsWritable network))
  are_writable (Judged rule ∷ steps) fs end (inl goes_on) = are_writable steps fs end goes_on.1
  are_writable (Judged rule ∷ steps) fs end (inr (place, breaks, none, ending)) =
      subst (All (IsWritable network)) (sym none) (All-nil (IsWritable network))
  are_writable (Measured measure ∷ steps) fs end (f, others, is, rest, same) =
      subst (All (IsWritable network)) (sym same)
      (All-append (IsWritable network) (some_found f) others (some_of measure f is)
      (are_writable steps others end rest))
  are_writable (Listed measure ∷ steps) fs end (found, others, is, rest, same) =
      subst (All (IsWritable network)) (sym same)
      (All-append (IsWritable network) found others
      (found_writable measure 0 (spots_of measure network) found (omega arith) is)
      (are_writable steps others end rest))

-- ---- what was found by the first steps, with what is to be found by the others

-- these findings stand before those of the steps that are left
abbrev pub StandBefore : Network → List Step → List Step → List Finding → Type 0
StandBefore network steps left found = (others : List Finding) (end : Ending) → AreOf network left others end → AreOf network steps (found ++ others) end

module _ (network : Network) (steps : List Step) where
  pub stand_first : StandBefore network steps steps []
  stand_first others end are = are

  -- a step that goes on
  pub stand_next : (step : Step) (left : List Step) (old new : List Finding)
      → StandBefore network steps (step ∷ left) old → Takes network step old new Whole
      → StandBefore network steps left new
  stand_next (Judged rule) left old new stand (kept, same) others end are =
      subst (λ (fs : List Finding). AreOf network steps (fs ++ others) end) (sym same)
      (stand others end (inl (kept, are)))
  stand_next (Measured measure) left old new stand (whole, (f, tightest, same)) others end are =
      grind (arith, append_assoc)
  stand_next (Listed measure) left old new stand (whole, (found, are_found, same)) others end are =
      grind (arith, append_assoc)

  -- all steps were taken
  pub stand_all : (found : List Finding) → StandBefore network steps [] found → AreOf network steps found Whole
  stand_all found stand =
      subst (λ fs. AreOf network steps fs Whole) (append-nil found) (stand [] Whole (refl, refl))

  -- a rule is broken
  pub stand_broken : (step : Step) (left : List Step) (old new : List Finding) (told : Rule) (place : ℕ)
      → StandBefore network steps (step ∷ left) old → Takes network step old new (Broken told place)
      → AreOf network steps new (Broken told place)
  stand_broken (Judged rule) left old new told place stand (judged, same) =
      let end : Broken told place ≡ Broken (plan_rule rule) place = ap (λ (r : Rule). Broken r place) judged.0 in
      subst (λ fs. AreOf network steps fs (Broken told place)) (append-nil old ∙ sym same)
      (stand [] (Broken told place) (inr (place, judged.1, refl, end)))
  stand_broken (Measured measure) left old new told place stand (whole, found) = absurd cc
  stand_broken (Listed measure) left old new told place stand (whole, found) = absurd cc

-- ---- what is left of a list

pub drop_next : {X : Type 0} (xs : List X) (n : ℕ) (d : X) → n < length xs → drop n xs ≡ get_or xs n d ∷ drop (n + 1) xs
drop_next {X} xs n d lt = at_drop_more (λ (ys : List X). ys) xs n d lt

pub drop_all : {X : Type 0} (xs : List X) (n : ℕ) → length xs ≤ n → drop n xs ≡ []
drop_all [] zero most = refl
drop_all [] (suc n) most = refl
drop_all (x ∷ xs) zero most = absurd (omega (arith, most))
drop_all (x ∷ xs) (suc n) most = drop_all xs n (omega (arith, most))

-- ---- each spot of a measure

-- one more spot
pub found_more : (network : Network) (measure : Measure) (first n : ℕ) (fs : List Finding) (o : Option Finding) → AreFound network measure first n fs
    → IsTightestAt network (spot_at measure (first + n)) o → AreFound network measure first (suc n) (fs ++ some_found o)
found_more network measure first zero fs o none tightest =
    let here : first + 0 ≡ first = omega arith in (
      o,
      [],
      subst (λ k. IsTightestAt network (spot_at measure k) o) here tightest,
      refl,
      ap (λ (xs : List Finding). xs ++ some_found o) none ∙ sym (append-nil (some_found o)),
    )
found_more network measure first (suc n) fs o (f, others, is, rest, same) tightest =
    let there : first + suc n ≡ first + 1 + n = omega arith in (
      f,
      others ++ some_found o,
      is,
      found_more network measure (first + 1) n others o rest (subst (λ k. IsTightestAt network (spot_at measure k) o) there tightest),
      ap (λ (xs : List Finding). xs ++ some_found o) same ∙ append_assoc (some_found f) others (some_found o),
    )

-- the spots below this number were added
abbrev pub ArePushed : Network → Measure → ℕ → List Finding → List Finding → Type 0
ArePushed network measure n old new = (found : List Finding) × AreFound network measure 0 n found × (new ≡ old ++ found)

pub pushed_first : (network : Network) (measure : Measure) (old : List Finding) → ArePushed network measure 0 old old
pushed_first network measure old = ([], refl, sym (append-nil old))

pub pushed_next : (network : Network) (measure : Measure) (n : ℕ) (old new newer : List Finding) (o : Option Finding)
    → ArePushed network measure n old new → IsTightestAt network (spot_at measure n) o → newer ≡ new ++ some_found o
    → ArePushed network measure (n + 1) old newer
pushed_next network measure n old new newer o (found, are, same) tightest more =
    let next : suc n ≡ n + 1 = omega arith in
    let here : n ≡ 0 + n = omega arith in (
      found ++ some_found o,
      subst (λ k. AreFound network measure 0 k (found ++ some_found o)) next
          (found_more network measure 0 n found o are (subst (λ k. IsTightestAt network (spot_at measure k) o) here tightest)),
      more ∙ ap (λ (xs : List Finding). xs ++ some_found o) same ∙ append_assoc old found (some_found o),
    )

-- ---- the next step

module _ (network : Network) (steps : List Step) (d : Step) (n : ℕ) (old new : List Finding) (end : Ending) where
  pub stand_step : n < length steps → StandBefore network steps (drop n steps) old
      → Takes network (get_or steps n d) old new end → end ≡ Whole
      → StandBefore network steps (drop (n + 1) steps) new
  stand_step within stand takes whole = grind (arith, stand_next, get_or, drop, drop_next)

  pub stand_end : (told : Rule) (place : ℕ) → n < length steps → StandBefore network steps (drop n steps) old
      → Takes network (get_or steps n d) old new end → end ≡ Broken told place
      → AreOf network steps new (Broken told place)
  stand_end told place within stand takes broken = grind (arith, stand_broken, get_or, drop, drop_next)

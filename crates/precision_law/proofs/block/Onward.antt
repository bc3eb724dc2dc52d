-- Correction points come while a block lasts, and when it is over the network stands as it should.
use Rattle.precision_law.proofs.words.Blocks
use Blocks.{HasCorrected, IsSetInBlock, before_narrow, block_ends, early_show, follows_before, had_time, has_corrected}
use Blocks.{has_lost, hulls_are_narrow, int_lt-from, joiner_integrates, joining_from, joining_of_setting, joins_none}
use Blocks.{known_dispatch, later_end, old_number, old_point, set_by, set_by_joining, sets_none}
use Rattle.precision_law.proofs.words.Clocks
use Clocks.{AreSorted, adjustment_is_last, adjustment_stays, clocks_have_reached, in_earlier, in_order}
use Clocks.{instants_are_in_order, joiner_waits, keeps, kept_by_all, one_more, room, set_clocks_have_reached}
use Clocks.{set_clocks_show, setting_is, settings_stay, sizes_are, sorted_parts, steady}
use Rattle.precision_law.proofs.words.Laws
use Laws.{AreNarrow, BlockGoesSo, BlockIsOver, BlocksGoSo, FirmDevicesCorrect, HadPoint, HasTimeAt, Hull, IsFirm}
use Laws.{IsGood, IsGoodEnd, IsInBlock, IsOldAt, IsPointOf, IsSetFor, IsSharedBy, IsView, JoinsSo, NoneLost}
use Laws.{PointsAreRecorded, PointsHaveCome, PointsShare, Stands, StandsOn, SwitchesAreGood, View, adjustment_left}
use Laws.{cycle_set, epoch_time, first_correction, has_time, hull_of, is_correction, last_correction, last_setting}
use Laws.{set_adjustment, start_hull, state_left}
use Rattle.precision_law.proofs.words.Plans
use Plans.{Corrected, DeviceId, Integrating, State, Synchronised, Units, adjustment_at_start, int_le-true}
use Plans.{state_at_start}
use Rattle.precision_law.proofs.words.Runs
use Runs.{Happening, IsIn, Reaches, Why, adjustment_before, adjustment_with, changed_at, changes_adjustment}
use Runs.{correction_value, cycle_in, earlier, founded_at, had_come, in_left, in_right, integration_cycle}
use Runs.{is_integration_cycle, is_synchronised, local_at_change, next_cycle, recorded_cycle, same_some, start_of}
use Runs.{state_after, state_with, time_of}
use Rattle.precision_law.proofs.words.Std
use Std.{if◌then◌else◌, ◌*◌, ◌++◌, ◌+ℤ◌, ◌+◌, ◌-◌, ◌<ℤ◌, ◌<◌, ◌∙◌, ◌∷◌, ◌≡◌, ◌≤ℤ◌, ◌≤◌, Bool, None, Option, Some}
use Std.{and_from, ap, arith, both_ways, by_lt_z, cases_lt, eq-eqb, false, filter-append, fold, fold-append, inl, inr}
use Std.{int_le, int_lt, ints, lt-ltb, nat_lt, negsuc, option_map_or, pos, refl, subst, suc, sym, true, zero, ℕ}
use Rattle.run_law.specs.declared.note.NoteBody.TheVariants as notes

-- ---- when a block is over the network stands as it should: the instants of the block

-- an instant of the block that is over
abbrev instant : (v : View) (n : ℕ) (over : BlockIsOver v n) (t : ℕ) → over.before.next ≤ t → t < over.next → t ≤ v.until → IsInBlock v n t
instant v n over t from to in_run = record { before = over.before; next = over.next; is_over = over.is_over; from = from; to = to; in_run = in_run }

-- the last one
pub record HasLast (v : View) (n : ℕ) (over : BlockIsOver v n) : Type 0 where
  pub last : ℕ
  pub is_last : over.next ≡ last + 1
  pub at : pos last ≡ last_correction v.sizes over.before.hull
  pub from : over.before.next ≤ last

pub last_of : {v : View} {n : ℕ} (over : BlockIsOver v n) → IsView v → HasLast v n over
last_of {v} {n} over is =
    let ends = block_ends v n over.next over.before.hull over.before.is_hull over.is_over in
    let later = later_end n over.before is in
    record { last = over.next - 1; is_last = omega (arith, ints); at = omega (arith, ints); from = omega (arith, ints) }

-- ---- what set a clock last

-- a setting of the block
record IsSetBy (v : View) (n : ℕ) (over : BlockIsOver v n) (device : DeviceId) (h : Happening) : Type 0 where
  pub last : last_setting (earlier over.next v.records) device ≡ Some h
  pub there : IsIn h v.records
  pub from : over.before.next ≤ time_of h
  pub to : time_of h < over.next
  pub sets : changes_adjustment device h.note.body ≡ true

set_last : {v : View} {n : ℕ} (over : BlockIsOver v n) (device : DeviceId) (o : Option Happening)
    → last_setting (earlier over.next v.records) device ≡ o
    → pos over.before.next ≤ℤ option_map_or (λ h. pos (time_of h)) o (negsuc 0)
    → (h : Happening) × IsSetBy v n over device h
set_last over device None e late = absurd (omega (arith, ints))
set_last {v} over device (Some h) e late =
    let at = setting_is v device over.next h e in
    (h, record { last = e; there = at.there; from = omega (arith, ints); to = at.early; sets = at.sets })

-- each instant of the block went so
all_went : BlocksGoSo → {v : View} {n : ℕ} (over : BlockIsOver v n) → IsView v → (t : ℕ) → over.before.next ≤ t
    → t < over.next → BlockGoesSo v n over.before.next t over.before.hull
all_went goes {v} {n} over is t from to = goes v n t (instant v n over t from to (omega (arith, over.in_run))) is

module _ (goes : BlocksGoSo) (v : View) (n : ℕ) (over : BlockIsOver v n) (is : IsView v) (device : DeviceId) (h : Happening) (good : IsGood v device)
    (by : IsSetBy v n over device h) where
  abbrev at_setting : IsInBlock v n (time_of h)
  at_setting = instant v n over (time_of h) by.from by.to (let to = by.to in omega (arith, over.in_run))

  went_then : BlockGoesSo v n over.before.next (time_of h) over.before.hull
  went_then = goes v n (time_of h) at_setting is

  -- how the clock was set
  set_so : IsSetInBlock v n (time_of h) device (adjustment_left v device over.next)
  set_so =
      let set = set_by _ at_setting h h.note.body went_then is good by.from (omega arith) by.there refl by.sets in
      let last = adjustment_is_last v.scenario (earlier over.next v.records) device ∙ ap (set_adjustment v.scenario device) by.last in
      subst (IsSetInBlock v n (time_of h) device) (sym (ap (λ (a : Units). a.0) last)) set

  -- a correction is at the point of the block, by an old clock
  corrected_old : (c : HasCorrected v device h) → IsOldAt v over.before.next device (time_of h) × IsPointOf v n (time_of h) over.before.hull c.cycle
  corrected_old c = old_point went_then c.point

  -- a joining is of the block's cycle
  joined_so : is_correction h.note.body ≡ false → JoinsSo v n (time_of h) over.before.hull device h
  joined_so joined = went_then.joins h device by.there (joining_of_setting device h.note.body by.sets joined) good refl

  -- the cycle for which it sets the clock
  set_cycle : (b : Bool) → is_correction h.note.body ≡ b → cycle_set h h.note.body ≡ suc n
  set_cycle true corrected =
      let c = has_corrected device h is good by.there by.sets corrected in
      ap (cycle_set h) c.is ∙ (corrected_old c).1.of_cycle
  set_cycle false joined = set_by_joining h h.note.body joined ∙ (joined_so joined).of_cycle

  -- the clock has had its correction point then
  has_point : (b : Bool) → is_correction h.note.body ≡ b → HadPoint v over.next (first_correction v.sizes over.before.hull) device
  has_point true corrected =
      let point = (corrected_old (has_corrected device h is good by.there by.sets corrected)).1 in
      let time = ap (λ (o : Option Happening). option_map_or (λ g. pos (time_of g)) o (negsuc 0)) by.last in
      let is_so = ap (λ (o : Option Happening). option_map_or (λ g. is_correction g.note.body) o false) by.last ∙ corrected in
      record { how = inl (is_so, omega (arith, ints, point.not_early)) }
  has_point false joined =
      let s = v.scenario in
      let reading = s.reading device in
      let space = room is in
      let so = joined_so joined in
      let integrates = joiner_integrates (earlier over.next v.records) device h by.last by.sets joined in
      let is_so = ap (λ (o : Option Happening). option_map_or (λ g. is_correction g.note.body) o false) by.last ∙ joined in
      let set = set_so in
      let last = last_of over is in
      let follows = follows_before n over.before.hull set.hull is over.before.is_hull set.is_hull in
      let order = instants_are_in_order v.sizes over.before.hull set.hull space (before_narrow over.before) follows in
      let a = adjustment_left v device over.next in
      let same_hull : so.hull ≡ set.hull = same_some (hull_of v (suc n)) so.hull set.hull so.is_hull set.is_hull in
      let early : set.hull.least ≤ℤ pos (time_of h) = rw same_hull at so.not_early in
      let within : last.last ≤ set.set_at + 2 * v.sizes.cycle =
      omega (arith, ints, last.at, order.last_not_late, set.not_before) in
      let reached = set_clocks_have_reached v.sizes reading a (suc n) set.hull set.set_at v.sizes.correction last.last space (steady v is device)
      (omega (arith, set.not_behind, by.to, last.is_last)) within set.anchored (omega (arith, ints, last.at, order.last_not_early)) in
      let then_shows = set_clocks_show v.sizes reading a (suc n) set.hull set.set_at (time_of h) (steady v is device) set.not_behind
      (omega (arith, by.to, last.is_last)) set.anchored in
      let recorded : recorded_cycle (earlier over.next v.records) device ≡ suc n = integrates.1 ∙ so.of_cycle in
      let value = correction_value s.network (recorded_cycle (earlier over.next v.records) device) in
      let sizes = sizes_are is in
      let product = ap (λ x. recorded_cycle (earlier over.next v.records) device * x) (sym sizes.cycle) ∙ ap (λ c. c * v.sizes.cycle) recorded in
      let at_change : reading (changed_at v.records device over.next) ≡ reading (time_of h) =
      rw by.last in
      let at_last : reading (over.next - 1) ≡ reading last.last = ap reading (omega (arith, last.is_last)) in
      record {
        how = inr (
          is_so,
          and_from (is_integration_cycle (earlier over.next v.records) device) (had_come s v.records device value over.next over.next) integrates.0
              (and_from (int_lt (local_at_change s v.records device over.next) value)
              (int_le value (pos (reading (over.next - 1)) +ℤ (adjustment_before s v.records device over.next).0))
              (int_lt-from (local_at_change s v.records device over.next) value (omega (arith, ints)))
              (int_le-true value (pos (reading (over.next - 1)) +ℤ (adjustment_before s v.records device over.next).0) (omega (arith, ints)))),
        );
      }

  -- that of a synchronised end system has been set by the frame that all share
  shared_by : (hull : Hull) (share : PointsShare v n hull) (b : Bool) → is_correction h.note.body ≡ b → IsGoodEnd v device
      → state_left v device over.next ≡ Synchronised → IsSharedBy v (suc n) hull over.next share.shared device
  shared_by hull share false joined end synchronised =
      let waits = joiner_waits device over.next h is by.last (joining_of_setting device h.note.body by.sets joined) in
      absurd (both_ways (is_synchronised (state_left v device over.next)) waits (ap is_synchronised synchronised))
  shared_by hull share true corrected end synchronised =
      let c = has_corrected device h is good by.there by.sets corrected in
      let each = share.each (time_of h) at_setting device c.cycle (Corrected c.by) (inl end) c.point.has (corrected_old c).0 c.point.comes in
      let same_by : each.0 ≡ c.by = (let e = each.1 in cc) in
      let shared = each.2 end in
      let last = adjustment_is_last v.scenario (earlier over.next v.records) device ∙ ap (set_adjustment v.scenario device) by.last in
      let shows = ap (λ b. (adjustment_with v.scenario device (cycle_in h) (adjustment_at_start (start_of v.scenario.network device)) b).0) c.is
      ∙ rw (ap (changes_adjustment device) (sym c.is) ∙ by.sets) refl in
      let left = ap (λ (a : Units). a.0) last ∙ shows ∙ c.sum ∙ ap (λ (u : Units). adjustment_left v device (time_of h) +ℤ u.0) (sym same_by) in
      record {
        other = shared.other;
        near = shared.near;
        set_at = shared.set_at;
        not_before = shared.not_before;
        not_behind = (let to = by.to in omega (arith, shared.not_behind));
        anchored = rw (sym left) at shared.anchored;
      }

  clock_is_set : (hull : Hull) → hull_of v (suc n) ≡ Some hull → IsSetFor v (suc n) hull over.next device
  clock_is_set hull is_hull =
      let set = set_so in
      let same : set.hull ≡ hull = same_some (hull_of v (suc n)) set.hull hull set.is_hull is_hull in
      let time : changed_at v.records device over.next ≡ time_of h = ap (λ o. option_map_or time_of o 0) by.last in
      record {
        index = ap (λ o. option_map_or (λ g. cycle_set g g.note.body) o 0) by.last ∙ set_cycle
            (is_correction h.note.body) refl;
        set_at = set.set_at;
        not_before = rw (sym same) set.not_before;
        not_behind = (let to = by.to in omega (arith, set.not_behind));
        since = omega (arith, set.not_behind);
        anchored =
            rw (sym same) set.anchored;
      }

-- ---- none is lost

-- a firm device is good
pub firm_good : SwitchesAreGood → {v : View} {device : DeviceId} → IsView v → IsFirm v device → IsGood v device
firm_good switches is (inl end) = end.good
firm_good switches {v} {device} is (inr switch) = switches v v.channel device is switch

none_lost : SwitchesAreGood → BlocksGoSo → {v : View} {n : ℕ} (over : BlockIsOver v n) {hull : Hull}
    → PointsShare v n hull → IsView v → NoneLost v over.next
none_lost switches goes {v} {n} over share is h device state cause why i lt body clique firm =
    elim (cases_lt (time_of h) over.before.next) [
      | inl early ↦ over.before.kept h device state cause why i early body clique firm
      | inr from ↦
          let lost = has_lost device h state cause why is (firm_good switches is firm) i body clique in
          let p = lost.point in
          let old = (old_point (all_went goes over is (time_of h) from lt) p).0 in
          let each = share.each (time_of h) (instant v n over (time_of h) from lt (omega arith)) device lost.cycle lost.verdict firm p.has old p.comes in
          lost.not_corrected each.0 each.1
    ]

-- ---- the step

narrow_on : BlocksGoSo → {v : View} {n : ℕ} (before : Stands v n) (hull : Hull) → IsView v
    → hull_of v (suc n) ≡ Some hull → AreNarrow v (suc n)
narrow_on goes {v} {n} before hull is is_hull c le =
    elim (cases_lt c (suc n)) [
      | inl lt ↦ before.narrow c (omega arith)
      | inr ge ↦
          let same : suc n ≡ c = omega arith in
          rw (sym same) (hull, is_hull, hulls_are_narrow goes v n before hull is is_hull)
    ]

-- a hull is not behind itself
pub hull_ordered : {v : View} (n : ℕ) (stands : Stands v n) → IsView v → stands.hull.least ≤ℤ stands.hull.greatest
hull_ordered {v} zero stands is =
    let same = same_some (hull_of v zero) (start_hull v.sizes) stands.hull refl stands.is_hull in
    omega (arith, ints, ap (λ w. w.least) same, ap (λ w. w.greatest) same)
hull_ordered (suc c) stands is =
    let one = stands.narrow c (omega arith) in
    (follows_before c one.0 stands.hull is one.1 stands.is_hull).ordered

pub stands_on : BlocksGoSo → PointsHaveCome → FirmDevicesCorrect → SwitchesAreGood → StandsOn
stands_on goes come correct switches v n is over =
    let before = over.before in
    let last = last_of over is in
    let in_last = instant v n over last.last last.from (omega (arith, last.is_last))
    (omega (arith, last.is_last, over.in_run)) in
    let share = correct v n last.last in_last is (omega (arith, ints, last.at, hull_ordered n before is)) in
    let hull = share.0 in
    let by : (device : DeviceId) → HasTimeAt v device over.next → (h : Happening) × IsSetBy v n over device h = λ device has.
    set_last over device (last_setting (earlier over.next v.records) device) refl (come v n over device is has) in
    record {
      next = over.next;
      is_over = over.is_over;
      in_run = over.in_run;
      hull = hull;
      is_hull = share.1;
      narrow = narrow_on goes before hull is share.1;
      dispatches = known_dispatch v n over.next before (all_went goes over is);
      clocks = λ device has. (let set = by device has in clock_is_set goes v n over is device set.0 has.good set.1 hull share.1);
      points = λ w c same at device has.
          let one : c ≡ n = omega arith in
          let same_hull = same_some (hull_of v n) before.hull w before.is_hull (rw one at at) in
          let set = by device has in
          rw same_hull at (has_point goes v n over is device set.0 has.good set.1 (is_correction set.0.note.body) refl);
      shared =
          λ some. record {
            shared = share.2.shared;
            near = share.2.near;
            each = λ device end synchronised.
                (let set = by device (record { good = end.good; timed = ap has_time synchronised }) in
                shared_by goes v n over is device set.0 end.good set.1 hull share.2 (is_correction set.0.note.body) refl end synchronised);
          };
      joined = λ h device i joins good lt. elim (cases_lt (time_of h) before.next) [
        | inl early ↦ (let low = before.joined h device i joins good early in omega arith)
        | inr from ↦ (let so = (all_went goes over is (time_of h) from lt).joins h device i joins good refl in
            omega (arith, so.of_cycle))
      ];
      kept = none_lost switches goes over share.2 is;
    }

-- ---- correction points come while a block lasts: between the last setting and a time

-- a device that has the time at the end did not lose it there
not_lost : {v : View} (device : DeviceId) (u t : ℕ) (h : Happening) (cause : ℕ) (why : Why) → IsView v → u ≤ t
    → epoch_time (earlier t v.records) device <ℤ pos u → has_time (state_left v device t) ≡ true → IsIn h v.records
    → u ≤ time_of h → time_of h < t → h.note.body ≡ notes.State device Integrating cause why → ⊥
not_lost {v} device u t h cause why is le old timed i from to body =
    let s = v.scenario in
    let at = founded_at s v.records h is.run.founded i in
    let test = λ (g : Happening). nat_lt (time_of g) t in
    let parts = ap (earlier t) at.whole ∙ filter-append test at.front (h ∷ at.rest) ∙ ap
    (λ b. earlier t at.front ++ (if b then h ∷ earlier t at.rest else earlier t at.rest)) (lt-ltb (time_of h) t to) in
    let step = λ (state : State) (g : Happening). state_with device state g.note.body in
    let before = state_after s (earlier t at.front) device in
    let whole = rw parts at timed in
    let apart = fold-append step (state_at_start (start_of s.network device)) (earlier t at.front) (h ∷ earlier t at.rest) in
    let behind : has_time (fold step (step before h) (earlier t at.rest)) ≡ true = rw apart at whole in
    let now = kept_by_all has_time device (earlier t at.rest) (λ g j.
    let back = in_earlier t at.rest g j in
    let in_all : IsIn g v.records = subst (IsIn g) (sym at.whole) (in_right g at.front (h ∷ at.rest) (inr back.0)) in
    let late = (sorted_parts at.front at.rest h (subst AreSorted at.whole (in_order is))).1 g back.0 in
    let at_g = founded_at s v.records g is.run.founded in_all in
    keeps has_time refl s at_g.front g.note.time device g.note.body
    (sets_none device u t is le old g in_all (omega arith) back.1)
    (λ x k same. sets_none device u t is le old x
    (subst (IsIn x) (sym at_g.whole) (in_left x at_g.front (g ∷ at_g.rest) k))
    (omega arith) (omega arith)) at_g.due.cause) (step before h) behind in
    let self = eq-eqb device.0 device.0 refl in
    let lost : step before h ≡ Integrating = ap (state_with device before) body ∙ ap
    (λ b. if b then Integrating else before) self in
    both_ways (has_time (step before h)) (ap has_time lost) now

-- an old device did not join by a frame of the block's cycle
pub never_joined : {v : View} {n : ℕ} (u t : ℕ) (before : Stands v n) (device : DeviceId) → IsView v
    → before.next ≤ t → IsGood v device → IsOldAt v before.next device t → u ≤ t
    → integration_cycle (earlier u v.records) device ≡ Some (suc n) → ⊥
never_joined {v} {n} u t before device is from good old to e =
    let j = joining_from (earlier u v.records) device (suc n) e in
    let back = in_earlier u v.records j.h j.there in
    elim (cases_lt (time_of j.h) before.next) [
      | inl early ↦ (let low = before.joined j.h device back.0 j.joins good early in let same = j.of_cycle in
          omega arith)
      | inr late ↦ both_ways _ (joins_none device before.next t is from old j.h back.0 late
          (omega (arith, back.1))) j.joins
    ]

-- ---- the points of a block

-- when the clock was last set, it was before what is behind its epoch
pub set_before : (o : Option Happening) (next : ℕ) → option_map_or (λ h. pos (time_of h)) o (negsuc 0) <ℤ pos next → option_map_or time_of o 0 ≤ next
set_before None next early = omega arith
set_before (Some h) next early = omega (arith, ints)

-- an old clock comes in the block to each value of the next cycle that it shows by the last correction
pub reaches_in_block : {v : View} {n : ℕ} (t k : ℕ) (before : Stands v n) {device : DeviceId} → IsView v
    → HasTimeAt v device before.next → before.next ≤ t → IsOldAt v before.next device t → v.sizes.cycle ≤ k
    → ((before.hull.greatest +ℤ pos k) +ℤ pos v.sizes.reach) ≤ℤ pos t → pos t ≤ℤ last_correction v.sizes before.hull
    → (u : ℕ) × (before.next < u) × (u ≤ t) × Reaches v.scenario v.records device (pos (n * v.sizes.cycle + k)) u
reaches_in_block {v} {n} t k before {device} is has le old behind late most =
    let reading = v.scenario.reading device in
    let space = room is in
    let set = before.clocks device has in
    let same = ap (λ a. a.0) (adjustment_stays device before.next t is le old) in
    let anchored = rw same at set.anchored in
    let within : t ≤ set.set_at + 2 * v.sizes.cycle =
    omega (arith, ints, set.not_before, before_narrow before) in
    let reached = set_clocks_have_reached v.sizes reading (adjustment_left v device t) n before.hull set.set_at k t space (steady v is device)
    (omega (arith, set.not_behind)) within anchored late in
    let shows = set_clocks_show v.sizes reading (adjustment_left v device t) n before.hull set.set_at before.next (steady v is device) set.not_behind
    (omega arith) anchored in
    let below : (pos (reading before.next) +ℤ adjustment_left v device t) <ℤ pos (n * v.sizes.cycle + k) =
    omega (arith, ints, shows.most, early_show n before is) in
    let strict : before.next < t = elim (cases_lt before.next t) [
      | inl lt ↦ lt
      | inr ge ↦ (let up = (steady v is device).never_falls t before.next ge in absurd (omega (arith, ints)))
    ] in
    clocks_have_reached v device (pos (n * v.sizes.cycle + k)) before.next t is (set_before (last_setting (earlier t v.records) device) before.next old) strict
    below reached

-- the instant at which an old device comes to its point
record ComesThere (v : View) (n : ℕ) (over : BlockIsOver v n) (device : DeviceId) (u : ℕ) : Type 0 where
  pub from : over.before.next < u
  pub to : u < over.next
  pub in_run : u ≤ v.until
  pub has : HasTimeAt v device u
  pub number : next_cycle v.scenario v.records device u ≡ suc n
  pub reaches : Reaches v.scenario v.records device (correction_value v.scenario.network (next_cycle v.scenario v.records device u)) u

module _ (v : View) (n : ℕ) (over : BlockIsOver v n) (device : DeviceId) (is : IsView v) (has : HasTimeAt v device over.next)
    (old : IsOldAt v over.before.next device over.next) where
  -- an old device comes to its point in the block
  comes_there : (u : ℕ) × ComesThere v n over device u
  comes_there =
      let s = v.scenario in
      let before = over.before in
      let last = last_of over is in
      let t = last.last in
      let early = λ (u : ℕ) (from : before.next ≤ u).
      (let e : epoch_time (earlier over.next v.records) device <ℤ pos u = omega (arith, ints) in e) in
      let old_at = λ (u : ℕ) (to : u ≤ over.next) (from : before.next ≤ u).
      rw (sym (settings_stay v device u over.next is to (early u from))) at old in
      let to_t : t ≤ over.next = omega (arith, last.is_last) in
      let le : before.next ≤ over.next = omega arith in
      let has_next = had_time before.next is le old has in
      let found = reaches_in_block t (v.sizes.cycle + v.sizes.correction) before is has_next last.from (old_at t to_t last.from) (omega arith)
      (omega (arith, ints, last.at)) (omega (arith, ints, last.at)) in
      let u = found.0 in
      let to_u : u ≤ over.next = omega (arith, found.2) in
      let from_u : before.next ≤ u = omega (arith, found.1) in
      let has_u = had_time u is to_u (early u from_u) has in
      let number = old_number u device before is from_u has_u (old_at u to_u from_u) in
      let product = ap (λ x. next_cycle s v.records device u * x) (sym (sizes_are is).cycle) ∙ ap (λ c. c * v.sizes.cycle) number in
      let value_is : pos (n * v.sizes.cycle + (v.sizes.cycle + v.sizes.correction)) ≡ correction_value s.network (next_cycle s v.records device u) =
      ap pos (omega (arith, one_more n v.sizes.cycle, (sizes_are is).correction)) in (
        u,
        record {
          from = found.1;
          to = omega (arith, found.2, last.is_last);
          in_run = omega (arith, found.2, last.is_last, over.in_run);
          has = has_u;
          number = number;
          reaches = rw value_is at found.3;
        },
      )

  -- but its point would leave a record, so it does not stay old
  never_old : PointsAreRecorded → ⊥
  never_old recorded =
      let u = comes_there.0 in
      let there = comes_there.1 in
      let next = over.before.next in
      let le : next ≤ over.next = omega (arith, there.from, there.to) in
      let point = recorded v device u is there.in_run there.has there.reaches (λ joined.
      never_joined u over.next over.before device is le has.good old (omega (arith, there.to))
      (joined ∙ ap (λ c. Some c) there.number)) in
      let h = point.0 in
      let from_h : next ≤ time_of h = omega (arith, point.1.at, there.from) in
      let to_h : time_of h < over.next = omega (arith, point.1.at, there.to) in
      elim point.1.says [
        | inl c ↦ both_ways (changes_adjustment device h.note.body) (sets_none device next over.next is le old h point.1.there from_h to_h)
            (ap (changes_adjustment device) c.3 ∙ eq-eqb device.0 device.0 refl)
        | inr l ↦ not_lost device next over.next h l.0 l.1 is le old has.timed point.1.there from_h to_h l.2
      ]

pub points_have_come : PointsAreRecorded → PointsHaveCome
points_have_come recorded v n over device is has =
    by_lt_z (epoch_time (earlier over.next v.records) device)
    (pos over.before.next) (λ old. absurd (never_old v n over device is has old recorded)) (λ late. late)

-- A dispatch is a task of the device's node whose reading is reached.
use Rattle.net_plan.specs.Places.{is_end_system}
use Rattle.run_law.specs.{machines.Tasks.HasFrame, timed.Dispatching.IsUp}
use Rattle.schedule_tables.specs.{Schedule.IsClearBefore, declared.rule.Rule.TheVariants.{Periods, ScheduleStart, Senders, Spacing}}
use Rattle.schedule_tables.{proofs.{Margins.{begun_below, occur_together}, SlotLemmas.one_entry}}
use Rattle.schedule_tables.{specs.{Delays.pcf_port_time, Entries.source_by}}
use Rattle.world_law.proofs.{Words.{option_map_or, place_of, pos, refl, sym, task_place, time_of, true, value_of}}
use Rattle.world_law.proofs.{acts.Acting.{IsUnmoved, comes_so, undone_so}, devices.Unmoved.{not_turned_on, state_still}}
use Rattle.world_law.proofs.{frames.Proper.ends_differ, putting.PutIn.split_two}
use Rattle.world_law.proofs.rows.AtHand.{IsReaching, ShowsAt, at_hand, cycles_apart, has_frame, row_ends, shows_at}
use Rattle.world_law.proofs.rows.AtHand.{value_is}
use Rattle.std.proofs.Common.{IsSomeAnd}
use Rattle.tte_units.specs.declared.speed.Speed.TheVariants.{Gbit1, Mbit100}
use Rattle.tte_units.{proofs.general_lemmas.Lists.in_all, specs.OctetTime.octet_time, specs.declared.speed.Speed.Speed}
use Rattle.world_law.proofs.Words.{Happening, HasAtHand, HasDone, HasTaskAt, IsAtCorrection, IsBefore, IsDue, IsEntry, IsFounded, IsIn, IsInRange, IsLeft}
use Rattle.world_law.proofs.Words.{IsSteady, KeepsRules, Link, LinkId, List, Network, Node, None, Note, Option, Reaches, RowId, Scenario, Some, Stands}
use Rattle.world_law.proofs.Words.{Up, VlId, Way, World, ℕ, ℤ, amount, ap, arith, before_later, both_ways, cases_lt, device_at, dispatch_body}
use Rattle.world_law.proofs.Words.{dispatching, doing, false, frames_taken, happenings, in_parts, in_right, inl, inr, ints, is_end, link_at, local_before}
use Rattle.world_law.proofs.Words.{◌*◌, ◌++◌, ◌+◌, ◌<◌, ◌^◌, ◌∙◌, ◌∷◌, ◌≡◌, ◌≤◌, AllBefore, AreComing, Device, DeviceId, Dispatches, Down, Entry}
use Rattle.world_law.{proofs.runs.FoundedAs.{AreFoundedAs, as_founded}, specs.world.World.IsDueAs}
use Rattle.tte_units.proofs.general_lemmas.Integers.{whole as not_negative}

-- ---- the records given and those to come

-- they are founded together, where those to come stand after those before them, behind the frontier, and are due given
-- them
pub founded_with : (s : Scenario) (hs coming : List Happening) (frontier : List ℕ) → IsFounded place_of (IsDue s) hs
    → AllBefore place_of hs frontier
    → ((front rest : List Happening) (z : Happening) → coming ≡ front ++ z ∷ rest → AllBefore place_of front (place_of z) × IsDueAs s (hs ++ front) z)
    → ((z : Happening) → IsIn z coming → IsBefore (place_of z) frontier → ⊥) → AreFoundedAs s (hs ++ coming)
founded_with s hs coming frontier founded within stands after ps qs x e =
    elim (split_two ps qs x hs coming (sym e)) [
      | inr old ↦ as_founded s hs founded ps old.0 x old.1
      | inl new ↦
          let it = stands new.0 qs x new.2 in
          let there : IsIn x coming = rw new.2 (in_right x new.0 (x ∷ qs) (inl refl)) in (
            λ y i. elim (in_parts y hs new.0 (rw new.1 at i)) [
              | inl given ↦ before_later (place_of y) (place_of x) frontier (within y given) (after x there)
              | inr fresh ↦ it.0 y fresh
            ],
            rw new.1 it.1,
          )
    ]

pub whole_founded : {s : Scenario} {hs coming : List Happening} {frontier : List ℕ} {now : ℕ}
    → IsFounded place_of (IsDue s) hs → AllBefore place_of hs frontier → AreComing s hs coming frontier now
    → AreFoundedAs s (hs ++ coming)
whole_founded {s} {hs} {coming} {frontier} founded within are =
    founded_with s hs coming frontier founded within are.founded are.after

-- the network is in range and keeps its rules, the device's clock is steady, and the records are founded
pub record IsLawful (s : Scenario) (hs : List Happening) (device : DeviceId) : Type 0 where
  pub range : IsInRange s.network
  pub rules : KeepsRules s.network
  pub steady : IsSteady (s.reading device) (amount s.network.precision)
  pub founded : AreFoundedAs s hs

-- so it is where a world stands
pub lawful : {C M : Type 0} (reading : C → ℕ → ℕ) (stands : M → Network → DeviceId → Node → Type 0) (s : Scenario) (world : World C M) (notes : List Note)
    (old : Stands reading stands s world notes) (device : DeviceId) → IsLawful s (happenings s.network notes ++ world.settled) device
lawful reading stands s world notes old device = record {
  range = old.range;
  rules = old.rules;
  steady = old.steady device;
  founded = whole_founded old.run.founded old.run.within old.are;
}

-- ---- the task

-- the row of a dispatch
abbrev pub row_at : ℕ → RowId
row_at place = record { 0 = place }

-- a device that dispatches a row's frame has the task to do so
pub dispatching_task : {s : Scenario} {hs : List Happening} {device : DeviceId} {t later : ℕ} {node : Node}
    {link : LinkId} {cause : ℕ} {vl : VlId} {cycle : ℕ} → IsUnmoved s hs device t later → IsLeft s hs device t node
    → HasDone s hs device t node → IsLawful s hs device → ((h : Happening) → IsIn h hs → time_of h ≤ later)
    → node.taken ≡ frames_taken s hs device → (d : Dispatches s hs device later link cause vl cycle)
    → HasTaskAt s device node later
    (task_place s.network later device (doing (dispatching (record { 0 = d.place }) cycle)))
dispatching_task {s} {hs} {device} {t} {later} {node} {cycle} u left has law past taken d =
    let row = row_at d.place in
    let reached : Reaches s hs device (value_of s.network (dispatching row cycle)) later =
    rw (value_is row cycle d.row) d.reached in
    let c = comes_so u left reached in
    let state = left.state ∙ not_turned_on s hs device t u.not_on ∙ sym (state_still s hs device t later u.le u.still)
    ∙ sym (not_turned_on s hs device later u.not_on_later) ∙ d.up.synchronised in
    let r : IsReaching s hs device node row d.entry cycle later = record {
      range = law.range;
      rules = law.rules;
      steady = law.steady;
      founded = law.founded;
      past = past;
      taken = taken;
      is = d.row;
      leaves = d.leaves;
      reached = d.reached;
    } in (
      doing (dispatching row cycle),
      (
        left.counted.broken ∙ sym u.not_broken ∙ d.up.correct,
        undone_so (dispatching row cycle) u.le has (state, has_frame r d.occurs d.at_hand) c,
      ),
      c.reached,
      refl,
    )

-- ---- and back

-- a synchronised device that has a row's frame and comes to the row's value dispatches it
pub dispatches_so : {s : Scenario} {hs : List Happening} {device : DeviceId} {t : ℕ} {node : Node} {row : RowId}
    {cycle : ℕ} → IsLawful s hs device → ((h : Happening) → IsIn h hs → time_of h ≤ t)
    → node.taken ≡ frames_taken s hs device → IsUp s hs device t → (has : HasFrame s.network device node row cycle)
    → Reaches s hs device (value_of s.network (dispatching row cycle)) t
    → (cause : ℕ) × HasAtHand s.network hs device has.entry t cause cycle
    × ((d : Dispatches s hs device t has.entry.row.link cause has.entry.row.vl cycle) × (d.place ≡ row.0))
dispatches_so {s} {hs} {device} {t} {row} {cycle} law past taken up has r =
    let reached : Reaches s hs device (pos (cycle * amount s.network.cycle + amount has.entry.row.offset)) t =
    rw (value_is row cycle has.is) at r in
    let it = at_hand has (record {
      range = law.range;
      rules = law.rules;
      steady = law.steady;
      founded = law.founded;
      past = past;
      taken = taken;
      is = has.is;
      leaves = has.leaves;
      reached = reached;
    }) in (
      it.0,
      it.1,
      (
        record {
          place = row.0;
          entry = has.entry;
          row = has.is;
          by = refl;
          of_vl = refl;
          leaves = has.leaves;
          occurs = has.occurs;
          up = up;
          reached = reached;
          at_hand = it.1;
        },
        refl,
      ),
    )

-- A device comes to no row's value where it comes to a correction point, or to the beginning of a cycle.

-- ---- where a row's offset lies in the cycle

-- it is a precision behind the correction, and one before the end of the cycle
pub record IsApart (network : Network) (offset : ℕ) : Type 0 where
  pub begins : amount network.correction + 4 * amount network.precision ≤ offset
  pub ends : offset + 4 * amount network.precision ≤ amount network.cycle

-- so each row's offset is
pub row_apart : {network : Network} {place : ℕ} {entry : Entry} → KeepsRules network → IsEntry network place entry
    → IsApart network (amount entry.row.offset)
row_apart {network} {place} {entry} rules is =
    let begun = begun_below (amount entry.row.offset + 1) place entry rules is (omega arith) in
    let start = in_all
    (λ l. amount network.correction + amount network.dmax + 4 * amount network.precision + pcf_port_time l ≤ amount
    network.tt_start)
    network.link entry.row.link.0 entry.link (rules ScheduleStart 0).begins is.link in
    record { begins = omega arith; ends = row_ends rules is }

-- the precision is not 0
pub precise : {network : Network} → IsInRange network → 1 ≤ amount network.precision
precise range = grind (arith, not_negative, ints)

-- so a clock that shows the one does not show the other; `point` is a place from the beginning of a cycle up to the correction
pub apart_so : {network : Network} {offset : ℕ} (point a b : ℕ) {z : ℤ} → IsApart network offset
    → point ≤ amount network.correction → 1 ≤ amount network.precision
    → ShowsAt z (pos (a * amount network.cycle + point)) (amount network.precision)
    → ShowsAt z (pos (b * amount network.cycle + offset)) (amount network.precision) → ⊥
apart_so point a b apart early some one two = grind (arith, amount, cases_lt, cycles_apart, ints)

-- ---- by the records

-- a clock does not reach a row's value where it reaches a value from the beginning of a cycle up to its correction point
pub no_row_with : {s : Scenario} {hs : List Happening} {device : DeviceId} {t : ℕ} (point of_point : ℕ) {place : ℕ}
    (cycle : ℕ) {entry : Entry} → IsInRange s.network → KeepsRules s.network
    → IsSteady (s.reading device) (amount s.network.precision) → IsEntry s.network place entry
    → point ≤ amount s.network.correction → Reaches s hs device (pos (of_point * amount s.network.cycle + point)) t
    → Reaches s hs device (pos (cycle * amount s.network.cycle + amount entry.row.offset)) t → ⊥
no_row_with {s} point of_point cycle range rules steady is early one two =
    apart_so point of_point cycle (row_apart rules is) early (precise range) (shows_at steady one)
    (shows_at steady two)

-- a device that comes to a correction point dispatches no row
pub no_row_at_correction : {s : Scenario} {hs : List Happening} {device : DeviceId} {t number : ℕ} {link : LinkId}
    {cause : ℕ} {vl : VlId} {cycle : ℕ} → IsInRange s.network → KeepsRules s.network
    → IsSteady (s.reading device) (amount s.network.precision) → IsAtCorrection s hs t device number
    → Dispatches s hs device t link cause vl cycle → ⊥
no_row_at_correction {s} {number} {cycle} range rules steady c d =
    no_row_with (amount s.network.correction) number cycle range rules steady d.row (omega arith) c.reached d.reached

-- At one instant a device dispatches one row by a link, and what tells of its dispatch is one record.

-- ---- two rows of one link are far apart

long_for : (length : ℕ) (speed : Speed) → 2 ^ 22 ≤ (length + 24) * octet_time speed
long_for length Mbit100 = omega arith
long_for length Gbit1 = omega arith

-- a row that is clear before another is dispatched long before it
far_before : (network : Network) (entry other : Entry) → IsClearBefore network entry other → amount entry.row.offset + 2 ^ 22 ≤ amount other.row.offset
far_before network entry other clear =
    let long = long_for entry.vl.length entry.link.speed in
    omega arith

same_link : {a b : Link} → Some a ≡ Some b → a ≡ b
same_link e = cc

-- the rows that leave a device by a link go by one way
same_way : (network : Network) (link : LinkId) {l m : Link} (way other : Way) {device : DeviceId} → KeepsRules network
    → link_at network link ≡ Some l
    → link_at network link ≡ Some m → source_by way l ≡ device → source_by other m ≡ device → way ≡ other
same_way network link Up Up rules a b c d = refl
same_way network link Down Down rules a b c d = refl
same_way network link {l} {m} Up Down rules a b c d =
    absurd (ends_differ network link rules a (c ∙ sym d ∙ (rw (same_link (sym b ∙ a)))))
same_way network link {l} {m} Down Up rules a b c d =
    absurd (ends_differ network link rules a (ap (λ x. x.child) (same_link (sym a ∙ b)) ∙ d ∙ sym c))

-- ---- one row at an instant

fine : {reading : ℕ → ℕ} {precision : ℕ} → IsSteady reading precision → IsSteady reading (2 ^ 22)
fine steady =
    record { never_falls = steady.never_falls; no_jump = steady.no_leap; no_leap = steady.no_leap; low = steady.low }

-- values that a clock shows at once, in two cycles, are not those of rows
one_cycle : (size a b x y : ℕ) {p : ℕ} {z : ℤ} → x + 4 * p ≤ size → 1 ≤ p → ShowsAt z (pos (a * size + x)) p
    → ShowsAt z (pos (b * size + y)) p → a < b → ⊥
one_cycle size a b x y ends some first second lt = grind (arith, cycles_apart, ints)

close : (size a x y : ℕ) {z : ℤ} → ShowsAt z (pos (a * size + x)) (2 ^ 22) → ShowsAt z (pos (a * size + y)) (2 ^ 22)
    → y < x + 2 ^ 22
close size a x y first second = grind (arith, ints)

pub one_row : {s : Scenario} {js : List Happening} {device : DeviceId} {t : ℕ} {link : LinkId} (other : LinkId)
    {cause : ℕ} (from : ℕ) {vl : VlId} (with : VlId) {cycle : ℕ} (number : ℕ) → IsLawful s js device → link ≡ other
    → (d : Dispatches s js device t link cause vl cycle) (e : Dispatches s js device t other from with number)
    → (d.place ≡ e.place) × (cycle ≡ number)
one_row {s} {js} {device} {t} other from with {cycle} number law same d e =
    let n = s.network in
    let size = amount n.cycle in
    let z = local_before s js device t in
    let some = precise law.range in
    let x = amount d.entry.row.offset in
    let y = amount e.entry.row.offset in
    let first = shows_at law.steady d.reached in
    let second = shows_at law.steady e.reached in
    let cycles : cycle ≡ number = elim (cases_lt cycle number) [
      | inl lt ↦ absurd (one_cycle size cycle number x y (row_apart law.rules d.row).ends some first second lt)
      | inr ge ↦ elim (cases_lt number cycle) [
        | inl gt ↦ absurd (one_cycle size number cycle y x (row_apart law.rules e.row).ends some second first gt)
        | inr le ↦ omega arith
      ]
    ] in
    let near = fine law.steady in
    let one = shows_at near d.reached in
    let two = rw (sym cycles) at (shows_at near e.reached) in
    let less = close size cycle x y one two in
    let more = close size cycle y x two one in
    let links = d.by ∙ same ∙ sym e.by in
    let ways = same_way n e.entry.row.link {l = d.entry.link} d.entry.row.way e.entry.row.way law.rules
    (rw links at d.row.link) e.row.link d.leaves e.leaves in
    let occurs = rw (sym cycles) at e.occurs in
    let a = (law.rules Periods d.entry.row.vl.0 d.entry.vl d.row.vl).0 in
    let b = (law.rules Periods e.entry.row.vl.0 e.entry.vl e.row.vl).0 in (
      elim (cases_lt d.place e.place) [
        | inl lt ↦ absurd (elim (law.rules Spacing e.place d.place d.entry e.entry lt d.row e.row (sym links) (sym ways)
            (occur_together b a occurs d.occurs)) [
              | inl clear ↦ let far = far_before n d.entry e.entry clear in omega arith
              | inr clear ↦ let far = far_before n e.entry d.entry clear in omega arith
            ])
        | inr ge ↦ elim (cases_lt e.place d.place) [
          | inl gt ↦ absurd (elim (law.rules Spacing d.place e.place e.entry d.entry gt e.row d.row links ways
              (occur_together a b d.occurs occurs)) [
                | inl clear ↦ let far = far_before n e.entry d.entry clear in omega arith
                | inr clear ↦ let far = far_before n d.entry e.entry clear in omega arith
              ])
          | inr le ↦ omega arith
        ]
      ],
      cycles,
    )

-- ---- what tells of it

some_end : (o : Option Device) → IsSomeAnd o (λ d. is_end_system d.role ≡ true) → option_map_or
    (λ d. is_end_system d.role) o false ≡ true
some_end None x = absurd x
some_end (Some d) x = x

-- what a device has at hand of a row's frame has one cause
pub one_hand : {network : Network} {js : List Happening} {device : DeviceId} {place : ℕ} {entry : Entry}
    {t cause from cycle : ℕ} → KeepsRules network → IsEntry network place entry
    → HasAtHand network js device entry t cause cycle → HasAtHand network js device entry t from cycle → cause ≡ from
one_hand rules is (inl a) (inl b) = a.1 ∙ sym b.1
one_hand {network} {device} {entry} rules is (inl a) (inr b) =
    absurd (both_ways (is_end network device) b.0 (rw
    a.0 at (some_end (device_at network entry.vl.sender) (rules Senders entry.row.vl.0 entry.vl is.vl))))
one_hand {network} {device} {entry} rules is (inr a) (inl b) =
    absurd (both_ways (is_end network device) a.0 (rw
    b.0 at (some_end (device_at network entry.vl.sender) (rules Senders entry.row.vl.0 entry.vl is.vl))))
one_hand rules is (inr a) (inr b) = grind arith

-- one row of one cycle is told alike
pub told_alike : {s : Scenario} {js : List Happening} {device : DeviceId} {t : ℕ} {link : LinkId} (other : LinkId)
    {cause : ℕ} (from : ℕ) {vl : VlId} (with : VlId) {cycle : ℕ} (number : ℕ) → KeepsRules s.network
    → (d : Dispatches s js device t link cause vl cycle) (e : Dispatches s js device t other from with number)
    → d.place ≡ e.place → cycle ≡ number → dispatch_body s device t link cause vl cycle
    ≡ dispatch_body s device t other from with number
told_alike {s} {js} {device} {t} {link} other {cause} from {vl} with {cycle} number rules d e place cycles =
    let entries = one_entry s.network e.place d.entry e.entry (rw place at d.row) e.row in
    let links = sym d.by ∙ ap (λ x. x.row.link) entries ∙ e.by in
    let vls = sym d.of_vl ∙ ap (λ x. x.row.vl) entries ∙ e.of_vl in
    let hand : HasAtHand s.network js device e.entry t cause number = rw entries at (rw cycles at d.at_hand) in
    rw links
    (rw (one_hand rules e.row hand e.at_hand)
    ((rw vls
    ((rw cycles)))))

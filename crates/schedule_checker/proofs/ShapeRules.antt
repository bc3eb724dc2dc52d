-- The rules judged in their order, and those on the shape of a network: roles, links, paths and trees.
use Rattle.std.proofs.Common
use Common.{◌&&◌, ◌+◌, ◌-◌, ◌<◌, ◌∙◌, ◌∷◌, ◌≡◌, ◌≢◌, ◌≤◌, Bool, List, None, Option, Some, [], ap, arith, cond, eqb}
use Common.{false, get_or, leb, length, not, refl, subst, suc, sym, take, true, zero, ℕ, ⊎_elim}
use Rattle.std.proofs.lemmas.{List.{Elements.All-tail, Sums.sum_by-cons, get_or-take, length-take}}
use Rattle.std.proofs.lemmas.{Option.{get_or_from_slice_get, slice_get-get_or, slice_get_cases, slice_get_within}}
use Rattle.std.proofs.lemmas.Bool.{Decides.{Decides-and, Decides-eqb, Decides-like, nat_tests}, cases_lt, false≢true}
use Rattle.std.proofs.lemmas.Bool.{ne_eqb}
use Rattle.std.specs.{Bool.{Decides, MatchBool}, List.{All, AllWithin, HoldsAt, count_by}}
use Rattle.std.specs.{Prelude.{IsSomeAnd, IsTrue, slice_get}}
use Rattle.net_plan.specs.{Paths.{IsFirstPath, IsFirstUplink, IsTree, IsUplink}}
use Rattle.net_plan.specs.{Places.{IsCmOf, IsSwitchOf, device_at, is_end_system, link_at}}
use Rattle.net_plan.specs.{Ranges.{IsInRange, IsLinkInRange, IsRowInRange}}
use Rattle.net_plan.specs.{Rules.{IsConnected, KeepsShapeRules, RulesGiveTrees}}
use Rattle.net_plan.specs.declared.{ids.{DeviceId.DeviceId, LinkId.LinkId}, network.Network.Network}
use Rattle.net_plan.specs.declared.tables.{Device.Device, Link.Link}
use Rattle.net_plan.specs.declared.tables.{Role.{Role, TheVariants.{Client, Cm, Master, Relay}}, Row.Row}
use Rattle.net_plan.specs.declared.tables.{Way.{TheVariants.{Down, Up}, Way}}
use Rattle.schedule_checker.specs.{Judging.{BreaksAt, places_of, plan_rule, shape_rule}, Refusals.RefusalIsOne}
use Rattle.schedule_checker.specs.{Shape.{IsConnectedOn, LeadsToCmWithin}}
use Rattle.schedule_checker.specs.declared.{parts.{PlanRule.PlanRule, ShapeRule.ShapeRule}}
use Rattle.schedule_checker.specs.declared.{refusal.RuleBroken.RuleBroken}
use Rattle.schedule_tables.specs.{Entries.source_by, Numbers.number_of}
use Rattle.schedule_tables.specs.{Rules.{IsFirstBroken, IsKept, IsKeptAt, KeepsBelow}, Schedule.leaves}
use Rattle.schedule_tables.specs.declared.rule.Rule.{Rule}
use Rattle.schedule_tables.specs.declared.rule.Rule.TheVariants
use TheVariants.{BothChannels, CompressionMasters, Connections, Correction, Delays, DevicesDiffer, Forwarding, Joints}
use TheVariants.{Limits, LinksDiffer, LinksOnce, Masters, Periods, Precision, RowsOfDevice, ScheduleStart, Senders}
use TheVariants.{Settling, Sources, Spacing, Targets, VlIdsDiffer, VlNamesDiffer, WindowEnds}
use Rattle.tte_units.{proofs.general_lemmas.Options.{at_known, closed, one}}
use Rattle.tte_units.{specs.declared.frames.channel.Channel.{Channel, TheVariants.{A, B}}}
use Rattle.schedule_checker.specs.declared.parts.PlanRule.TheVariants as plans
use Rattle.schedule_checker.specs.declared.parts.ShapeRule.TheVariants as shapes

-- ---- the shape of a network: tests of its roles, links and names, and the paths and trees of its links

-- ---- paths by first uplinks, and devices that are connected on both channels

within : {X : Type 0} (P : X → Type 0) (xs : List X) (i : ℕ) → IsSomeAnd (slice_get xs i) P → i < length xs
within P [] i h = absurd h
within P (x ∷ xs) zero h = omega arith
within P (x ∷ xs) (suc i) h = omega (arith, within P xs i h)

module _ (n : Network) (c : Channel) (d : DeviceId) where
  pub uplink_within : {link : LinkId} → IsFirstUplink n c d link → link.0 < length n.link
  uplink_within {link} first = within (λ l. (l.child ≡ d) × IsSwitchOf n c l.parent) n.link link.0 first.leads

  -- a device has one first uplink
  one_first : {link other : LinkId} → IsFirstUplink n c d link → IsFirstUplink n c d other → link.0 ≡ other.0
  one_first {link} {other} f g =
      search arith

  pub leads_by : {link : LinkId} (l : Link) (most : ℕ) → most ≢ 0 → IsFirstUplink n c d link
      → link_at n link ≡ Some l → LeadsToCmWithin n c l.parent (most - 1) → LeadsToCmWithin n c d most
  leads_by {link} l most some first at h =
      (link ∷ h.0, omega (arith, h.1), (first, closed (λ x. IsFirstPath n c x.parent h.0) (link_at n link) l at h.2))

  walked : {link : LinkId} (l : Link) (links : List LinkId) (most : ℕ) → (IsCmOf n c d → ⊥)
      → IsFirstUplink n c d link → link_at n link ≡ Some l → length links ≤ most → IsFirstPath n c d links
      → LeadsToCmWithin n c l.parent (most - 1)
  walked l [] most bare first at short path = absurd (bare path)
  walked {link} l (m ∷ ms) most bare first at short path =
      search (arith, one_first, at_known)

  pub leads_on : {link : LinkId} (l : Link) (most : ℕ) → (IsCmOf n c d → ⊥) → IsFirstUplink n c d link
      → link_at n link ≡ Some l → LeadsToCmWithin n c d most → LeadsToCmWithin n c l.parent (most - 1)
  leads_on l most bare first at h = walked l h.0 most bare first at h.1 h.2

  stuck : (links : List LinkId) → (IsCmOf n c d → ⊥) → ((link : LinkId) → IsUplink n c d link → ⊥)
      → IsFirstPath n c d links → ⊥
  stuck [] bare none path = bare path
  stuck (m ∷ ms) bare none path = none m path.0.leads

  -- a device with no uplink leads to no compression master but itself
  pub leads_nowhere : (most : ℕ) → (IsCmOf n c d → ⊥) → ((link : LinkId) → IsUplink n c d link → ⊥)
      → LeadsToCmWithin n c d most → ⊥
  leads_nowhere most bare none h = stuck h.0 bare none h.2

-- connected on each channel is connected
on_each : {n : Network} {d : DeviceId} → IsConnectedOn n A d → IsConnectedOn n B d → (c : Channel)
    → IsConnectedOn n c d
on_each a b A = a
on_each a b B = b

pub connected : {n : Network} (i : ℕ) → IsConnectedOn n A (record { 0 = i }) → IsConnectedOn n B (record { 0 = i })
    → IsConnected n i
connected i a b = record {
  ends = λ end c. (on_each a b c).end end;
  relays = λ c relay. (on_each a b c).relay relay;
  paths = λ c member. (on_each a b c).path member;
}

pub connected_on : {n : Network} {i : ℕ} (c : Channel) → IsConnected n i → IsConnectedOn n c (record { 0 = i })
connected_on c h = record { end = λ end. h.ends end c; relay = h.relays c; path = h.paths c }

-- ---- tests of roles, channels and links

same_channel : Channel → Channel → Bool
same_channel A A = true
same_channel A B = false
same_channel B A = false
same_channel B B = true

decides_channel : (c e : Channel) → Decides (same_channel c e) (c ≡ e)
unfolding same_channel
decides_channel A A = (λ _. refl, λ _. refl)
decides_channel A B = (λ h. absurd (false≢true h), λ h. cc)
decides_channel B A = (λ h. absurd (false≢true h), λ h. cc)
decides_channel B B = (λ _. refl, λ _. refl)

on_channel : Option Channel → Channel → Bool
on_channel None e = false
on_channel (Some c) e = same_channel c e

decides_on : (o : Option Channel) (e : Channel) → Decides (on_channel o e) (o ≡ Some e)
unfolding on_channel
decides_on None e = (λ h. absurd (false≢true h), λ h. cc)
decides_on (Some c) e = Decides-like (same_channel c e) (λ h. rw h) (λ h. cc) (decides_channel c e)

is_cm : Role → Bool
is_cm Master = false
is_cm Client = false
is_cm Cm = true
is_cm Relay = false

decides_cm_role : (r : Role) → Decides (is_cm r) (r ≡ Cm)
unfolding is_cm
decides_cm_role Master = (λ h. absurd (false≢true h), λ h. cc)
decides_cm_role Client = (λ h. absurd (false≢true h), λ h. cc)
decides_cm_role Cm = (λ _. refl, λ _. refl)
decides_cm_role Relay = (λ h. absurd (false≢true h), λ h. cc)

-- the device is a compression master of the channel
pub cm_test : Channel → Device → Bool
cm_test c d = is_cm d.role && on_channel d.channel c

pub decides_cm : (c : Channel) (d : Device) → Decides (cm_test c d) ((d.role ≡ Cm) × (d.channel ≡ Some c))
unfolding cm_test
decides_cm c d = Decides-and (is_cm d.role) (on_channel d.channel c) (decides_cm_role d.role) (decides_on d.channel c)

-- the link leads from the device
pub child_test : DeviceId → Link → Bool
child_test d l = eqb l.child.0 d.0

pub decides_child : (d : DeviceId) (l : Link) → Decides (child_test d l) (l.child ≡ d)
unfolding child_test
decides_child d l =
    Decides-like (eqb l.child.0 d.0) (λ h. rw h) (λ h. rw h)
    (Decides-eqb l.child.0 d.0)

switch_test : Channel → Option Device → Bool
switch_test c None = false
switch_test c (Some d) = on_channel d.channel c

decides_switch : (c : Channel) (o : Option Device) → Decides (switch_test c o) (IsSomeAnd o (λ d. d.channel ≡ Some c))
unfolding switch_test
decides_switch c None = (λ h. absurd (false≢true h), λ h. absurd h)
decides_switch c (Some d) = decides_on d.channel c

-- the link leads from the device to a switch of the channel
pub uplink_test : Network → Channel → DeviceId → Link → Bool
uplink_test n c d l = child_test d l && switch_test c (device_at n l.parent)

pub decides_uplink : (n : Network) (c : Channel) (d : DeviceId) (l : Link) → Decides (uplink_test n c d l) ((l.child ≡ d) × IsSwitchOf n c l.parent)
unfolding uplink_test
decides_uplink n c d l = Decides-and (child_test d l) (switch_test c (device_at n l.parent)) (decides_child d l) (decides_switch c (device_at n l.parent))

pub decides_at_most : (a b d : ℕ) → b ≡ d → Decides (leb a b) (a ≤ d)
decides_at_most a b d e = grind (arith, nat_tests)

apart : A ≡ B → ⊥
apart h = cc

only : (P : Channel → Type 0) → (P B → ⊥) → (c e : Channel) → P c → P e → c ≡ e
only P none A A p q = refl
only P none A B p q = absurd (none q)
only P none B A p q = absurd (none p)
only P none B B p q = refl

-- where channel a has the property, at most one has it if channel b has it not
pub one_channel : (P : Channel → Type 0) (b : Bool) → P A → Decides b (P B) → Decides (not b) ((c e : Channel) → P c → P e → c ≡ e)
one_channel P true a h = (λ e. absurd (false≢true e), λ one. absurd (apart (one A B a (h.0 refl))))
one_channel P false a h = (λ _. only P (λ p. false≢true (h.1 p)), λ _. refl)

-- ---- what a test of all earlier elements of a list tells of the one at a place

-- the element at the place has a mark that no earlier one has
abbrev pub IsNewAt : {X Y : Type 0} → (X → Y) → List X → ℕ → Type 0
IsNewAt {X} mark xs place = (k : ℕ) (earlier x : X) → k < place → slice_get xs k ≡ Some earlier → slice_get xs place ≡ Some x → mark x ≢ mark earlier

-- what `all` answers at a test of the elements before the place against this one
abbrev pub IsCompared : {X Y : Type 0} → (X → Y) → List X → ℕ → X → Bool → Type 0
IsCompared mark xs place x b =
    MatchBool b
    (AllWithin (λ e. mark e ≢ mark x) (take place xs) 0 (length (take place xs)))
    ((k : ℕ) × (k < length (take place xs)) × HoldsAt (λ e. mark e ≡ mark x) (take place xs) k)

-- the answer decides whether the mark is new
pub new_from_all : {X Y : Type 0} (mark : X → Y) (xs : List X) (place : ℕ) (x : X) (b : Bool) → slice_get xs place ≡ Some x → IsCompared mark xs place x b
    → (IsTrue b → IsNewAt mark xs place) × (IsNewAt mark xs place → IsTrue b)
new_from_all mark xs place x true at all = (
  λ t k e y below here there same.
      let within : k < length (take place xs) = omega (arith, length-take place xs, slice_get_within xs k e here) in
      let read = get_or-take place xs k e below ∙ get_or_from_slice_get xs k e e here in
      all k e (omega arith) within (ap mark read ∙ sym same ∙ ap mark (sym (one (slice_get xs place) x y at there))),
  λ h. refl,
)
new_from_all mark xs place x false at old = (
  λ t. absurd (false≢true t),
  λ new.
      let bounds = length-take place xs in
      let below : old.0 < place = omega (arith, old.1) in
      let within : old.0 < length xs = omega (arith, old.1) in
      absurd (new old.0 (get_or xs old.0 x) x below (slice_get-get_or xs old.0 x within) at (sym (old.2 x) ∙ ap mark (get_or-take place xs old.0 x below))),
)

-- ---- the rules of a network's shape make its links trees

shape : (n : Network) → KeepsBelow 8 n → KeepsShapeRules n
shape n kept = record {
  limits = kept Limits (omega arith);
  devices = kept DevicesDiffer (omega arith);
  links = kept LinksDiffer (omega arith);
  cms = kept CompressionMasters (omega arith);
  joins = kept Joints (omega arith);
  connected = kept Connections (omega arith);
  masters_suffice = kept Masters (omega arith);
}

pub tree_of : RulesGiveTrees → (n : Network) → KeepsBelow 8 n → IsTree n
tree_of trees n kept = trees n (shape n kept)

-- ---- rules judged in their order: what is kept where it is judged, and the one first rule that is broken

-- ---- a rule that is kept at the places where it is judged is kept at each

-- the rule is kept where it is judged
abbrev pub IsKeptWhereJudged : Rule → Network → Type 0
IsKeptWhereJudged rule n = (k : ℕ) → k < places_of rule n → IsKeptAt rule n k

limits : (n : Network) → IsKeptWhereJudged Limits n → IsKept Limits n
limits n h k =
    search arith

cms : (n : Network) → IsKeptWhereJudged CompressionMasters n → IsKept CompressionMasters n
cms n h k =
    search arith

masters : (n : Network) → IsKeptWhereJudged Masters n → IsKept Masters n
masters n h k =
    search arith

connections : (n : Network) → IsKeptWhereJudged Connections n → IsKept Connections n
connections n h k = record {
  ends = λ e. (h k (within (λ d. is_end_system d.role ≡ true) n.device k e)).ends e;
  relays = λ c e. (h k (within _ n.device k e)).relays c e;
  paths = λ c e. (h k (within _ n.device k e)).paths c e;
}

targets : (n : Network) → IsKeptWhereJudged Targets n → IsKept Targets n
targets n h k = record {
  no_sender = λ entry is. (h k (slice_get_within n.row k entry.row is.row)).no_sender entry is;
  switches = λ j earlier entry below was is. (h k (slice_get_within n.row k entry.row is.row)).switches j earlier entry below was is;
  end_systems = λ j earlier entry c below was is. (h k (slice_get_within n.row k entry.row is.row)).end_systems j earlier entry c below was is;
}

forwarding : (n : Network) → IsKeptWhereJudged Forwarding n → IsKept Forwarding n
forwarding n h k = record {
  from_sender = λ entry is. (h k (slice_get_within n.row k entry.row is.row)).from_sender entry is;
  from_switch = λ j entering entry was is. (h k (slice_get_within n.row k entry.row is.row)).from_switch j entering entry was is;
}

both_channels : (n : Network) → IsKeptWhereJudged BothChannels n → IsKept BothChannels n
both_channels n h k = record {
  leaves = λ vl c at. (h k (slice_get_within n.vl k vl at)).leaves vl c at;
  enters = λ vl at. (h k (slice_get_within n.vl k vl at)).enters vl at;
  same = λ d c e end on.
      let at : slice_get n.vl k ≡ Some on.entry.vl = rw on.same_vl at on.is.vl in
      (h k (slice_get_within n.vl k on.entry.vl at)).same d c e end on;
}

-- the ends of a link in range are there
source_there : {n : Network} (k : ℕ) (way : Way) {link : Link} → length n.device ≤ k → IsLinkInRange n link
    → (source_by way link).0 ≡ k → ⊥
source_there k Up past ends e = omega (arith, ends.child)
source_there k Down past ends e = omega (arith, ends.parent)

-- no row leaves a device that is not there
unleft : {n : Network} → IsInRange n → (k : ℕ) → length n.device ≤ k → {row : Row} → IsRowInRange n row
    → leaves n (record { 0 = k }) row ≡ false
unleft {n} range k past {row} is =
    let at = slice_get_cases n.link row.link.0 in
    ⊎_elim
    (λ c.
    let ends : IsLinkInRange n c.0 = subst (IsLinkInRange n) c.3 (range.links row.link.0 c.0 c.1) in
    let r : leaves n (record { 0 = k }) row ≡ false =
    rw c.2 (ne_eqb (source_by row.way c.0).0 k (λ e. source_there k row.way past ends e)) in r)
    (λ c. absurd (omega (arith, c.0, is.link)))
    at.1

-- a test that fails at each element counts none
none_counted : {X : Type 0} (p : X → Bool) (xs : List X) → All (λ x. p x ≡ false) xs → count_by p xs ≡ 0
none_counted p [] h = refl
none_counted p (x ∷ xs) h =
    let first = h 0 x (omega arith) in
    let one : Bool → ℕ = λ b. cond b 1 0 in
    let here : one (p x) ≡ 0 = ap one first in
    omega (arith, sum_by-cons (λ y. one (p y)) x xs, none_counted p xs (All-tail (λ y. p y ≡ false) x xs h))

rows_of_device : {n : Network} → IsInRange n → IsKeptWhereJudged RowsOfDevice n → IsKept RowsOfDevice n
rows_of_device {n} range h k =
    ⊎_elim (λ l. h k l)
    (λ g.
    let none = none_counted (leaves n (record { 0 = k })) n.row
    (λ i d below. unleft range k g (range.rows i d below)) in
    (omega (arith, none)))
    (cases_lt k (length n.device))

pub kept_beyond : (rule : Rule) {n : Network} → IsInRange n → IsKeptWhereJudged rule n → IsKept rule n
kept_beyond Limits {n} range h = limits n h
kept_beyond DevicesDiffer {n} range h =
    λ k j earlier device below was at. h k (slice_get_within n.device k device at) j earlier device below was at
kept_beyond LinksDiffer {n} range h =
    λ k j earlier link below was at. h k (slice_get_within n.link k link at) j earlier link below was at
kept_beyond CompressionMasters {n} range h = cms n h
kept_beyond Joints {n} range h = λ k link at. h k (slice_get_within n.link k link at) link at
kept_beyond Connections {n} range h = connections n h
kept_beyond Masters {n} range h = masters n h
kept_beyond Delays {n} range h = λ k beta c links is member. h k (within _ n.device k member) beta c links is member
kept_beyond Settling range h = λ k. h 0 (omega arith)
kept_beyond Precision range h = λ k. h 0 (omega arith)
kept_beyond Correction range h = λ k. h 0 (omega arith)
kept_beyond ScheduleStart range h = λ k. h 0 (omega arith)
kept_beyond WindowEnds {n} range h = λ k entry is. h k (slice_get_within n.row k entry.row is.row) entry is
kept_beyond VlNamesDiffer {n} range h =
    λ k j earlier vl below was at. h k (slice_get_within n.vl k vl at) j earlier vl below was at
kept_beyond VlIdsDiffer {n} range h =
    λ k j earlier vl below was at. h k (slice_get_within n.vl k vl at) j earlier vl below was at
kept_beyond Periods {n} range h = λ k vl at. h k (slice_get_within n.vl k vl at) vl at
kept_beyond Senders {n} range h = λ k vl at. h k (slice_get_within n.vl k vl at) vl at
kept_beyond LinksOnce {n} range h =
    λ k j earlier row below was at. h k (slice_get_within n.row k row at) j earlier row below was at
kept_beyond Sources {n} range h = λ k entry is. h k (slice_get_within n.row k entry.row is.row) entry is
kept_beyond Targets {n} range h = targets n h
kept_beyond Spacing {n} range h =
    λ k j earlier entry below was is. h k (slice_get_within n.row k entry.row is.row) j earlier entry below was is
kept_beyond BothChannels {n} range h = both_channels n h
kept_beyond Forwarding {n} range h = forwarding n h
kept_beyond RowsOfDevice range h = rows_of_device range h

-- ---- a network has one first broken rule

abbrev all_rules : List Rule
all_rules =
    Limits ∷ DevicesDiffer ∷ LinksDiffer ∷ CompressionMasters ∷ Joints ∷ Connections ∷ Masters ∷ Delays ∷ Settling ∷ Precision ∷ Correction ∷ ScheduleStart
    ∷ WindowEnds ∷ VlNamesDiffer ∷ VlIdsDiffer ∷ Periods ∷ Senders ∷ LinksOnce ∷ Sources ∷ Targets ∷ Spacing ∷ BothChannels ∷ Forwarding ∷ RowsOfDevice ∷ []

abbrev rule_of : ℕ → Rule
rule_of n = get_or all_rules (n - 1) Limits

numbered : (r : Rule) → rule_of (number_of r) ≡ r
numbered Limits = refl
numbered DevicesDiffer = refl
numbered LinksDiffer = refl
numbered CompressionMasters = refl
numbered Joints = refl
numbered Connections = refl
numbered Masters = refl
numbered Delays = refl
numbered Settling = refl
numbered Precision = refl
numbered Correction = refl
numbered ScheduleStart = refl
numbered WindowEnds = refl
numbered VlNamesDiffer = refl
numbered VlIdsDiffer = refl
numbered Periods = refl
numbered Senders = refl
numbered LinksOnce = refl
numbered Sources = refl
numbered Targets = refl
numbered Spacing = refl
numbered BothChannels = refl
numbered Forwarding = refl
numbered RowsOfDevice = refl

-- rules of one number are one
pub same_rule : (r s : Rule) → number_of r ≡ number_of s → r ≡ s
same_rule r s e = sym (numbered r) ∙ ap rule_of e ∙ numbered s

abbrev told_of : ℕ → ℕ → RuleBroken
told_of number index = record { number = number; index = index }

-- no rule is broken before the first
no_earlier : {n : Network} {r s : Rule} {i j : ℕ} → IsFirstBroken n r i → IsFirstBroken n s j
    → number_of r < number_of s → ⊥
no_earlier {r} {i} a b below = a.broken (b.rules r below i)

no_sooner : {n : Network} {r s : Rule} {i j : ℕ} → r ≡ s → IsFirstBroken n r i → IsFirstBroken n s j → i < j → ⊥
no_sooner {n} {i} e a b below = a.broken (rw e (b.places i below))

same_number : {n : Network} {r s : Rule} {i j : ℕ} → IsFirstBroken n r i → IsFirstBroken n s j
    → number_of r ≡ number_of s
same_number {r} {s} a b =
    search (arith, no_earlier, number_of)

same_place : {n : Network} {r s : Rule} {i j : ℕ} → r ≡ s → IsFirstBroken n r i → IsFirstBroken n s j → i ≡ j
same_place {i} {j} e a b =
    search (arith, no_sooner)

pub refusal_is_one : RefusalIsOne
refusal_is_one n t u a b =
    search (arith, same_number, same_place, same_rule)

-- ---- the first rule that is broken is told

-- the rules have the numbers from this one on
abbrev AreNumbered : {X : Type 0} → (X → ℕ) → List X → ℕ → Type 0
AreNumbered number [] n = Unit {0}
AreNumbered number (rule ∷ rules) n = (number rule ≡ n) × AreNumbered number rules (n + 1)

number_at : {X : Type 0} (number : X → ℕ) (rules : List X) (n i : ℕ) (d : X) → AreNumbered number rules n → i < length rules → number (get_or rules i d) ≡ n + i
number_at number [] n i d h below = absurd (omega arith)
number_at number (rule ∷ rules) n zero d h below = omega (arith, h.0)
number_at number (rule ∷ rules) n (suc i) d h below = omega
    (arith, number_at number rules (n + 1) i d h.1 (omega arith))

abbrev pub shape_rules : List ShapeRule
shape_rules = shapes.Limits ∷ shapes.DevicesDiffer ∷ shapes.LinksDiffer ∷ shapes.CompressionMasters ∷ shapes.Joints ∷ shapes.Connections ∷ shapes.Masters ∷ []

abbrev pub plan_rules : List PlanRule
plan_rules =
    plans.Delays ∷ plans.Settling ∷ plans.Precision ∷ plans.Correction ∷ plans.ScheduleStart ∷ plans.WindowEnds ∷ plans.VlNamesDiffer ∷ plans.VlIdsDiffer
    ∷ plans.Periods ∷ plans.Senders ∷ plans.LinksOnce ∷ plans.Sources ∷ plans.Targets ∷ plans.Spacing ∷ plans.BothChannels ∷ plans.Forwarding
    ∷ plans.RowsOfDevice ∷ []

pub shape_number : (i : ℕ) → i < 7 → number_of (shape_rule (get_or shape_rules i shapes.Limits)) ≡ 1 + i
shape_number i below = number_at (λ r. number_of (shape_rule r)) shape_rules 1 i shapes.Limits (refl, (refl, (refl, (refl, (refl, (refl, (refl, tt))))))) below

pub plan_number : (i : ℕ) → i < 17 → number_of (plan_rule (get_or plan_rules i plans.Delays)) ≡ 8 + i
plan_number i below =
    search (arith, number_at, number_of)

-- a network that keeps the rules below a number, and the rule of that number, keeps those below the next
pub keeps_next : (n : Network) (rule : Rule) (i j : ℕ) → j ≡ i + 1 → KeepsBelow i n → number_of rule ≡ i → IsKept rule n → KeepsBelow j n
keeps_next n rule i j next below here kept other less =
    search (arith, number_of, same_rule)

pub tells : {n : Network} {rule : Rule} (i : ℕ) {place : ℕ} → KeepsBelow i n → number_of rule ≡ i
    → BreaksAt n rule place → IsFirstBroken n rule place
tells i kept here breaks = record {
  rules = λ other below. kept other (omega arith);
  places = breaks.places;
  broken = breaks.broken;
}

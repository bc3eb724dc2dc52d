-- The worked network is accepted and in range, and its rough day is one of which the laws on runs speak.
use Rattle.std.proofs.{Math.Dec.leb-zero}
use Rattle.std.proofs.Common
use Common.{if◌then◌else◌, ◌*◌, ◌++◌, ◌+◌, ◌<◌, ◌==◌, ◌^◌, ◌||◌, ◌∙◌, ◌∷◌, ◌≡◌, ◌≢◌, ◌≤◌, ◌⊎◌, IfSome, IsSomeAnd, List}
use Common.{Some, [], ap, arith, inl, inr, length, not, pos, refl, slice_get, subst, suc, sym, true, unsigned_abs, zero}
use Common.{ℕ}
use Rattle.std.proofs.lemmas.{Bool.leb-true, Int.ints, List.{Elements.{All-cons, All-nil}, Sums.count_by-le-length}}
use Rattle.std.proofs.lemmas.{Option.same_Some}
use Rattle.std.specs.{List.{All, Contains, count_by, list_all}, Option.option_map_or}
use Rattle.std.specs.{Prelude.{◌-◌, ◌≤ℤ◌, IsNone, codes, is_some, nat_le, sum_by}, Str.bytes_eq}
use Rattle.drift_clock.{proofs.{ExactSegments.exact_steps, Readings.{begins_at_zero, keeps_clock_laws}}}
use Rattle.drift_clock.{specs.Segment.{fresh_segment, segment_count, segment_reading, stepped_segment}}
use Rattle.net_plan.{proofs.{SameIds.link_is, Trees.none_told}}
use Rattle.net_plan.specs.{Belonging.IsOfNetwork, Bounds.{IsBeta, IsGreatest, IsOfPath, jitter_of, jitter_on}}
use Rattle.net_plan.specs.{NameText.{IsNameText, is_name_character}}
use Rattle.net_plan.specs.{Paths.{IsFirstPath, IsFirstUplink, IsPath, IsUplink, LeadsToCm}}
use Rattle.net_plan.specs.{Ranges.{IsDeviceInRange, IsInRange, IsLinkInRange, IsRowInRange, IsVlInRange, IsWithin}}
use Rattle.net_plan.specs.Places
use Places.{IsCmOf, IsDeviceOf, IsEndSystem, IsRoleOf, IsSwitchOf, is_end_system, is_master, link_at}
use Rattle.net_plan.specs.Rules
use Rules.{DeviceIsNew, ExactlyOne, HasOffSwitch, HasOneCm, IsChildOf, IsConnected, IsWithinLimits, JoinsChildToSwitch}
use Rules.{LinkIsNew, MastersSuffice}
use Rattle.net_plan.specs.declared.{event.{Event.Event, What.What}, ids.{DeviceId.DeviceId, LinkId.LinkId}}
use Rattle.net_plan.specs.declared.tables.{Device.Device, Link.Link, Role.TheVariants.Relay, Row.Row}
use Rattle.net_plan.specs.declared.tables.{VirtualLink.VirtualLink, Way.{TheVariants.{Down, Up}, Way}}
use Rattle.precision_law.{proofs.traffic_lemmas.safety_lemmas.Lawful.lawful}
use Rattle.precision_law.specs.traffic.{existence.worked.Worked.{link_of, rough_day, rough_events, row_of, worked}}
use Rattle.precision_law.specs.traffic.{safety.Under.IsUnder}
use Rattle.run_law.specs.{law.FirstLaws.{IsEventInRange, IsLawful}}
use Rattle.run_law.specs.{scenario.{Faults.{IsBroken, IsFaulty}, Hypothesis.{AreWithinHypothesis, IsWithinHypothesis}}}
use Rattle.run_law.specs.declared.outside.Outside.TheVariants
use TheVariants.{Channel as OtherChannel, Hold, Late, NotBroken, NotMaster, NotOff, Order, Rate, SecondBreak}
use TheVariants.{TooFewMasters, Wire}
use Rattle.schedule_tables.specs.{Entries.{IsEntry, IsOnChannel, source_of, target_of}, Rules.IsKept}
use Rattle.schedule_tables.specs.{Windows.window_end}
use Rattle.schedule_tables.specs.Delays.{CorrectionFits, DelaysFit, ErrorsSettle, PrecisionFits, ScheduleFits, delay_of}
use Rattle.schedule_tables.specs.Delays.{delay_on}
use Rattle.schedule_tables.specs.Schedule
use Schedule.{ComesInTime, EndsInCycle, EntersAnew, EntersOn, GoesByBothChannels, GoesOnceByLink, HasEndSystemAsSender}
use Schedule.{HasFewRows, HasPeriod, HasSource, IsSwitch, LeavesOn, StandsApart, VlIdIsNew, VlNameIsNew, leaves}
use Rattle.schedule_tables.specs.declared.{entry.Entry.Entry}
use Rattle.schedule_tables.specs.declared.rule.Rule.{Rule}
use Rattle.schedule_tables.specs.declared.rule.Rule.TheVariants.{BothChannels, CompressionMasters, Connections, Correction, Delays, DevicesDiffer, Forwarding, Joints}
use Rattle.schedule_tables.specs.declared.rule.Rule.TheVariants.{Limits, LinksDiffer, LinksOnce, Masters, Periods, Precision, RowsOfDevice, ScheduleStart, Senders}
use Rattle.schedule_tables.specs.declared.rule.Rule.TheVariants.{Settling, Sources, Spacing, Targets, VlIdsDiffer, VlNamesDiffer, WindowEnds}
use Rattle.tte_units.specs.{Amount.{amount, units_of}}
use Rattle.tte_units.specs.{declared.{frames.channel.Channel.{Channel, TheVariants.{A, B}}, units.Units.Units}}
use Rattle.net_plan.specs.declared.event.What.TheVariants as events

-- ---- what holds of each entry of a list that is written out

-- this holds of each entry and its place
abbrev pub AllAt : {X : Type 0} → (ℕ → X → Type 0) → List X → Type 0
AllAt {X} P [] = Unit {0}
AllAt {X} P (x ∷ xs) = P 0 x × AllAt (λ k. P (suc k)) xs

pub at_place : {X : Type 0} (P : ℕ → X → Type 0) (xs : List X) → AllAt P xs → (k : ℕ) (x : X) → slice_get xs k ≡ Some x → P k x
at_place {X} P [] all k x e = absurd (let bad = e in cc)
at_place {X} P (y ∷ xs) all zero x e = subst (P 0) (same_Some y x e) all.0
at_place {X} P (y ∷ xs) all (suc k) x e = at_place (λ n. P (suc n)) xs all.1 k x e

-- the same, where the entry at the place has a property
pub some_place : {X : Type 0} (P : ℕ → Type 0) (Q : X → Type 0) (xs : List X) → AllAt (λ k x. Q x → P k) xs → (k : ℕ) → IsSomeAnd (slice_get xs k) Q → P k
some_place {X} P Q [] all k it = absurd it
some_place {X} P Q (y ∷ xs) all zero it = all.0 it
some_place {X} P Q (y ∷ xs) all (suc k) it = some_place (λ n. P (suc n)) Q xs all.1 k it

-- a test of an entry tells its place
abbrev pub AreNumbered : {X : Type 0} → (X → ℕ) → List X → Type 0
AreNumbered f xs = AllAt (λ k x. f x ≡ k) xs

pub numbered_apart : {X : Type 0} (f : X → ℕ) (xs : List X) → AreNumbered f xs → (j k : ℕ) (x y : X) → j < k → slice_get xs j ≡ Some x
    → slice_get xs k ≡ Some y → f y ≡ f x → ⊥
numbered_apart {X} f xs all j k x y lt at_j at_k same = grind (arith, at_place)

-- the first place at which the list has the text, or its length
abbrev pub place_in : List (List ℕ) → List ℕ → ℕ
place_in [] text = 0
place_in (t ∷ ts) text = if bytes_eq t text then 0 else suc (place_in ts text)

-- this holds of each entry
abbrev pub AllEach : {X : Type 0} → (X → Type 0) → List X → Type 0
AllEach {X} P [] = Unit {0}
AllEach {X} P (x ∷ xs) = P x × AllEach P xs

pub all_each : {X : Type 0} (P : X → Type 0) (xs : List X) → AllEach P xs → All P xs
all_each {X} P [] all = All-nil P
all_each {X} P (x ∷ xs) all = All-cons P x xs all.0 (all_each P xs all.1)

-- ---- the worked network keeps the rules of its schedule: the virtual link

abbrev the_vl : VirtualLink
the_vl = record {
  name = codes "v1";
  id = 1;
  length = 60;
  ethertype = 2048;
  sender = record { 0 = 0 };
  period = 1;
  phase = 0;
}

only_vl : (P : ℕ → VirtualLink → Type 0) → P 0 the_vl → (place : ℕ) (vl : VirtualLink) → slice_get worked.vl place ≡ Some vl → P place vl
only_vl P own place vl at = at_place P worked.vl (own, tt) place vl at

one_vl : (k place : ℕ) (earlier vl : VirtualLink) → k < place → slice_get worked.vl place ≡ Some vl → ⊥
one_vl k place earlier vl lt at = only_vl (λ n v. k < n → ⊥) (λ lt. omega arith) place vl at lt

pub vl_names_differ : (place : ℕ) → VlNameIsNew worked place
vl_names_differ place k earlier vl lt at_k at = absurd (one_vl k place earlier vl lt at)

pub vl_ids_differ : (place : ℕ) → VlIdIsNew worked place
vl_ids_differ place k earlier vl lt at_k at = absurd (one_vl k place earlier vl lt at)

pub has_period : (place : ℕ) → HasPeriod worked place
has_period place vl at =
    only_vl (λ n v. Contains (1 ∷ 2 ∷ 4 ∷ 8 ∷ 16 ∷ 32 ∷ 64 ∷ []) v.period × (v.phase < v.period)) ((0, leb-true 1 7 refl, refl), leb-true 1 1 refl) place vl at

pub ends_send : (place : ℕ) → HasEndSystemAsSender worked place
ends_send place vl at = only_vl (λ n v. IsEndSystem worked v.sender) refl place vl at

-- ---- the rows with their virtual link and their links

abbrev first : Entry
first = record { row = row_of 0 Up 26542080000; vl = the_vl; link = link_of (codes "m1_a") 0 5 }

abbrev second : Entry
second = record { row = row_of 6 Up 26542080000; vl = the_vl; link = link_of (codes "m1_b") 0 7 }

abbrev third : Entry
third = record { row = row_of 4 Down 28180480000; vl = the_vl; link = link_of (codes "c1_a") 4 5 }

abbrev fourth : Entry
fourth = record { row = row_of 10 Down 28180480000; vl = the_vl; link = link_of (codes "c1_b") 4 7 }

abbrev the_entries : List Entry
the_entries = first ∷ second ∷ third ∷ fourth ∷ []

-- each entry is one of these
is_entry : (entry : Entry) (row : Row) (link : Link) → entry.row ≡ row → slice_get worked.vl entry.row.vl.0 ≡ Some entry.vl
    → slice_get worked.link entry.row.link.0 ≡ Some entry.link → slice_get worked.vl row.vl.0 ≡ Some the_vl → slice_get worked.link row.link.0 ≡ Some link
    → record { row = row; vl = the_vl; link = link } ≡ entry
is_entry entry row link e vl by vl_is link_is = grind (arith, same_Some, slice_get)

entry_at : {place : ℕ} {entry : Entry} → IsEntry worked place entry → slice_get the_entries place ≡ Some entry
entry_at is = grind (arith, at_place, slice_get, is_entry)

entry_case : (P : ℕ → Entry → Type 0) → AllAt P the_entries → {place : ℕ} {entry : Entry}
    → IsEntry worked place entry → P place entry
entry_case P all {place} {entry} is = at_place P the_entries all place entry (entry_at is)

entry_row : {place : ℕ} {entry : Entry} → IsEntry worked place entry → entry.row.vl ≡ record { 0 = 0 }
entry_row is = entry_case (λ k e. e.row.vl ≡ record { 0 = 0 }) (refl, (refl, (refl, (refl, tt)))) is

is_first : IsEntry worked 0 first
is_first = record { row = refl; vl = refl; link = refl }

is_second : IsEntry worked 1 second
is_second = record { row = refl; vl = refl; link = refl }

is_third : IsEntry worked 2 third
is_third = record { row = refl; vl = refl; link = refl }

is_fourth : IsEntry worked 3 fourth
is_fourth = record { row = refl; vl = refl; link = refl }

pub windows_end : (place : ℕ) → EndsInCycle worked place
windows_end place entry is = grind (arith, entry_case, leb-true)

-- ---- no two rows by one link

abbrev place_of_link : ℕ → ℕ
place_of_link n = if n == 0 then 0 else (if n == 6 then 1 else (if n == 4 then 2 else 3))

rows_apart : (k place : ℕ) (earlier row : Row) → k < place → slice_get worked.row k ≡ Some earlier → slice_get worked.row place ≡ Some row
    → row.link ≡ earlier.link → ⊥
rows_apart k place earlier row lt at_k at same =
    numbered_apart (λ r. place_of_link r.link.0) worked.row (refl, (refl, (refl, (refl, tt)))) k place earlier row lt at_k at
    (rw same)

pub links_once : (place : ℕ) → GoesOnceByLink worked place
links_once place k earlier row lt at_k at same_vl same = rows_apart k place earlier row lt at_k at same

pub rows_stand_apart : (place : ℕ) → StandsApart worked place
rows_stand_apart place k earlier entry lt is_earlier is same_link same_way coincide =
    absurd (rows_apart k place earlier.row entry.row lt is_earlier.row is.row same_link)

-- ---- where rows come from and go to

pub has_source : (place : ℕ) → HasSource worked place
has_source place entry is = grind (arith, entry_case, is_first, is_second)

-- where the rows lead
abbrev targets : ℕ → ℕ
targets n = if n == 0 then 5 else (if n == 1 then 7 else 4)

target_is : {place : ℕ} {entry : Entry} → IsEntry worked place entry → (target_of entry).0 ≡ targets place
target_is is = entry_case (λ k e. (target_of e).0 ≡ targets k) (refl, (refl, (refl, (refl, tt)))) is

not_seven : (k : ℕ) → k < 1 → 7 ≡ targets k → ⊥
not_seven zero lt e = let bad = e in cc
not_seven (suc k) lt e = omega arith

not_four : (k : ℕ) → k < 2 → 4 ≡ targets k → ⊥
not_four zero lt e = let bad = e in cc
not_four (suc zero) lt e = let bad = e in cc
not_four (suc (suc k)) lt e = omega arith

also_b : (channel : Channel) → Some A ≡ Some channel → Some B ≡ Some channel → Some A ≡ Some B
also_b channel a b = a ∙ sym b

-- the fourth row comes by channel b, and the one before it into the client by channel a
no_both : {k : ℕ} {earlier : Entry} (channel : Channel) → IsEntry worked k earlier
    → IsOnChannel worked channel earlier → IsOnChannel worked channel fourth → k < 3 → 4 ≡ (target_of earlier).0 → ⊥
no_both channel is on_earlier on lt same = grind (arith, entry_case, also_b)

-- an entry whose target is a switch is one of the first two, and its target is another than that of the other
switch_target : {k place : ℕ} {earlier entry : Entry} → k < place → IsEntry worked k earlier
    → IsEntry worked place entry → IsSwitch worked (target_of entry) → target_of entry ≢ target_of earlier
switch_target lt is_earlier is switch = grind (arith, entry_case, target_is, not_seven)

-- the rows into the client come by different channels
client_rows : {k place : ℕ} {earlier entry : Entry} (channel : Channel) → k < place → IsEntry worked k earlier
    → IsEntry worked place entry → IsEndSystem worked (target_of entry) → IsOnChannel worked channel earlier
    → IsOnChannel worked channel entry → target_of entry ≢ target_of earlier
client_rows channel lt is_earlier is ends on_earlier on = grind (arith, entry_case, target_is, not_four, no_both)

pub enters_anew : (place : ℕ) → EntersAnew worked place
enters_anew place = grind (arith, entry_case, switch_target, client_rows)

-- ---- both channels

leaves_on : (channel : Channel) → LeavesOn worked (record { 0 = 0 }) channel (record { 0 = 0 })
leaves_on A = record { place = 0; entry = first; is = is_first; same_vl = refl; on_channel = refl; source = refl }
leaves_on B = record { place = 1; entry = second; is = is_second; same_vl = refl; on_channel = refl; source = refl }

client_entered : (channel : Channel) → EntersOn worked (record { 0 = 0 }) channel (record { 0 = 4 })
client_entered A = record { place = 2; entry = third; is = is_third; same_vl = refl; on_channel = refl; target = refl }
client_entered B = record { place = 3; entry = fourth; is = is_fourth; same_vl = refl; on_channel = refl; target = refl }

not_end : (n : ℕ) (device : DeviceId) → record { 0 = n } ≡ device → IsEndSystem worked device → (IsEndSystem worked (record { 0 = n }) → ⊥) → ⊥
not_end n device same ends never = never (subst (IsEndSystem worked) (sym same) ends)

-- an end system that a row enters is the client
end_entered : {place : ℕ} {entry : Entry} (device : DeviceId) → IsEntry worked place entry → target_of entry ≡ device
    → IsEndSystem worked device → device ≡ record { 0 = 4 }
end_entered device is target ends = grind (arith, entry_case, not_end)

pub both_channels : (place : ℕ) → GoesByBothChannels worked place
both_channels place = record {
  leaves = λ vl channel at. only_vl (λ n v. LeavesOn worked (record { 0 = n }) channel v.sender) (leaves_on channel) place vl at;
  enters = λ vl at. only_vl
      (λ n v. (channel : Channel) × (device : DeviceId) × IsEndSystem worked device × EntersOn worked (record { 0 = n }) channel device)
      (A, record { 0 = 4 }, refl, client_entered A) place vl at;
  same = λ device channel other ends it.
      let is = end_entered device it.is it.target ends in
      let vl = sym (entry_row it.is) ∙ it.same_vl in
      subst (λ v. EntersOn worked v other device) vl
      (subst (λ d. EntersOn worked (record { 0 = 0 }) other d) (sym is) (client_entered other));
}

-- ---- in time, and few

-- the window of a row into a switch ends before the rows that leave it
early_window : {k : ℕ} {entering : Entry} → IsEntry worked k entering → (n : ℕ) → (target_of entering).0 ≡ n → 5 ≤ n
    → window_end worked entering < 28180480000
early_window is n same high = grind (arith, entry_case, leb-true)

window_before : {k place : ℕ} {entering entry : Entry} → IsEntry worked k entering → IsEntry worked place entry
    → source_of entry ≢ entry.vl.sender → target_of entering ≡ source_of entry
    → window_end worked entering < amount entry.row.offset
window_before is_entering is other same = grind (arith, entry_case, early_window, leb-true)

pub comes_in_time : (place : ℕ) → ComesInTime worked place
comes_in_time place = grind (arith, entry_case, leb-true, window_before)

few_of : (n : ℕ) → n ≤ 4 → n ≤ 256
few_of n few = omega arith

pub few_rows : (place : ℕ) → HasFewRows worked place
few_rows place =
    let few = count_by-le-length (leaves worked (record { 0 = place })) worked.row in few_of (count_by (leaves worked (record { 0 = place })) worked.row) few

-- ---- how long the paths of the worked network are, and what they add up to

leb_zero : (n : ℕ) → 0 ≤ n
leb_zero n = omega arith

jitter_low : 1310720 ≤ 1310720
jitter_low = omega arith

delay_low : 1344798720 ≤ 1344798720
delay_low = omega arith

-- how many links lead from the device to its compression master
abbrev height : ℕ → ℕ
height n = if n == 6 || n == 8 then 0 else (if n == 5 || n == 7 then 1 else 2)

low_height : (n : ℕ) → height n ≤ 2
low_height n = grind (arith, leb-true)

-- a path goes on from the parent of its first link, which is nearer to the compression master
record GoesOn (c : Channel) (device : DeviceId) (links : List LinkId) : Type 0 where
  parent : DeviceId
  path : IsPath worked c parent links
  nearer : suc (height parent.0) ≡ height device.0

goes_on : (c : Channel) (device : DeviceId) (links : List LinkId) (n : ℕ)
    → IsSomeAnd (link_at worked (record { 0 = n })) (λ l. (l.child ≡ device) × IsSwitchOf worked c l.parent × IsPath worked c l.parent links)
    → GoesOn c device links
goes_on c device links n it = grind (arith, some_place)

-- so its links are few
few_links : (c : Channel) (device : DeviceId) (links : List LinkId) → IsPath worked c device links → length links ≤ height device.0
few_links c device [] path = leb_zero (height device.0)
few_links c device (link ∷ links) path =
    let on = goes_on c device links link.0 path in
    let rest = few_links c on.parent links on.path in
    let nearer = on.nearer in
    omega arith

pub at_most_two : (c : Channel) (device : DeviceId) (links : List LinkId) → IsPath worked c device links → length links ≤ 2
at_most_two c device links path = grind (arith, few_links, low_height)

-- ---- sums over links

each_at_most : (f : Link → ℕ) (b : ℕ) (xs : List Link) → AllEach (λ l. f l ≤ b) xs → (n : ℕ) → option_map_or f (slice_get xs n) 0 ≤ b
each_at_most f b [] all n = leb_zero b
each_at_most f b (x ∷ xs) all zero = all.0
each_at_most f b (x ∷ xs) all (suc n) = each_at_most f b xs all.1 n

sum_at_most : (f : LinkId → ℕ) (b : ℕ) → ((link : LinkId) → f link ≤ b) → (links : List LinkId) → length links ≤ 2 → sum_by f links ≤ 2 * b
sum_at_most f b low [] few = leb_zero (2 * b)
sum_at_most f b low (a ∷ []) few = let one = low a in omega arith
sum_at_most f b low (a ∷ c ∷ []) few = let one = low a in let two = low c in omega arith
sum_at_most f b low (a ∷ c ∷ d ∷ links) few = absurd (omega arith)

low_jitter : (link : LinkId) → jitter_of worked link ≤ 1310720
low_jitter link = grind (arith, each_at_most, jitter_low)

low_delay : (link : LinkId) → delay_of worked link ≤ 1344798720
low_delay link = grind (arith, each_at_most, delay_low)

module _ (c : Channel) (device : DeviceId) (links : List LinkId) (path : IsPath worked c device links) where
  pub delays_at_most : delay_on worked links ≤ 2 * 1344798720
  delays_at_most = sum_at_most (delay_of worked) 1344798720 low_delay links (at_most_two c device links path)

  jitters_at_most : jitter_on worked links ≤ 2 * 1310720
  jitters_at_most = sum_at_most (jitter_of worked) 1310720 low_jitter links (at_most_two c device links path)

-- ---- beta

greatest_at_most : (measure : List LinkId → ℕ) (b : ℕ) {m : ℕ}
    → ((c : Channel) (device : DeviceId) (links : List LinkId) → IsPath worked c device links → measure links ≤ b)
    → IsGreatest (IsOfPath worked measure) m → m ≤ b
greatest_at_most measure b low g = grind arith

-- beta is at most that of two links with the greatest jitter
pub low_beta : (beta : ℕ) → IsBeta worked (pos beta) → beta ≤ 3276832
low_beta beta b = grind (arith, greatest_at_most, jitters_at_most, length, at_most_two, unsigned_abs)

-- ---- the worked network keeps the rules of its times

pub delays_fit : (place : ℕ) → DelaysFit worked place
delays_fit place beta channel links is_beta of path =
    let low = low_beta beta is_beta in
    let delay = delays_at_most channel (record { 0 = place }) links path in
    omega arith

settles : (beta : ℕ) → beta ≤ 3276832 → 8 * beta + 12 * 26214404 + 40 * 1 ≤ 345000000
settles beta low = omega arith

pub errors_settle : ErrorsSettle worked
errors_settle beta is = settles beta (low_beta beta is)

precise : (beta : ℕ) → beta ≤ 3276832 → 345000000 + 16 * beta + 24 * 26214404 + 80 * 1 ≤ 1048576000
precise beta low = omega arith

pub precision_fits : PrecisionFits worked
precision_fits = record { errors = λ beta is. precise beta (low_beta beta is); calc = leb-true 65536000 1048576000 refl }

pub correction_fits : CorrectionFits worked
correction_fits = leb-true 17104896000 18350080000 refl

begins : 26261585920 ≤ 26542080000
begins = leb-true 26261585920 26542080000 refl

pub schedule_fits : ScheduleFits worked
schedule_fits = grind (arith, begins, all_each, leb-true)

-- ---- the worked network keeps the rules of its shape: limits and names

pub limits_kept : (part : ℕ) → IsWithinLimits worked part
limits_kept part = grind (arith, leb-true)

abbrev device_names : List (List ℕ)
device_names = codes "m1" ∷ codes "m2" ∷ codes "m3" ∷ codes "m4" ∷ codes "c1" ∷ codes "ra" ∷ codes "ca" ∷ codes "rb" ∷ codes "cb" ∷ []

abbrev link_names : List (List ℕ)
link_names =
    codes "m1_a" ∷ codes "m2_a" ∷ codes "m3_a" ∷ codes "m4_a" ∷ codes "c1_a" ∷ codes "ra_ca" ∷ codes "m1_b" ∷ codes "m2_b" ∷ codes "m3_b" ∷ codes "m4_b"
    ∷ codes "c1_b" ∷ codes "rb_cb" ∷ []

-- the place of an address among those of the devices
abbrev place_of_mac : ℕ → ℕ
place_of_mac mac = place_in ((0x11 ∷ []) ∷ (0x12 ∷ []) ∷ (0x13 ∷ []) ∷ (0x14 ∷ []) ∷ (0x15 ∷ []) ∷ (0x21 ∷ []) ∷ (0x22 ∷ []) ∷ (0x23 ∷ []) ∷ (0x24 ∷ []) ∷ [])
    ((mac - 0x020000000000) ∷ [])

pub devices_differ : (i : ℕ) → DeviceIsNew worked i
devices_differ i k earlier device lt at_k at_i = (
  λ same. numbered_apart (λ d. place_in device_names d.name) worked.device (refl, (refl, (refl, (refl, (refl, (refl, (refl, (refl, (refl, tt))))))))) k i
      earlier device lt at_k
      at_i (ap (place_in device_names) same),
  λ same. numbered_apart (λ d. place_of_mac d.mac) worked.device (refl, (refl, (refl, (refl, (refl, (refl, (refl, (refl, (refl, tt))))))))) k i earlier device
      lt at_k
      at_i (ap place_of_mac same),
)

pub links_differ : (i : ℕ) → LinkIsNew worked i
links_differ i k earlier link lt at_k at_i same =
    numbered_apart (λ l. place_in link_names l.name) worked.link
    (refl, (refl, (refl, (refl, (refl, (refl, (refl, (refl, (refl, (refl, (refl, (refl, tt)))))))))))) k i earlier link lt
    at_k at_i (ap (place_in link_names) same)

-- ---- channels

-- the compression master of the channel
abbrev pub cm_of : Channel → ℕ
cm_of A = 6
cm_of B = 8

-- and its relay
abbrev pub relay_of : Channel → ℕ
relay_of A = 5
relay_of B = 7

cm_is : (c : Channel) (n : ℕ) → IsCmOf worked c (record { 0 = n }) → n ≡ cm_of c
cm_is A n it = grind (arith, some_place)
cm_is B n it = grind (arith, some_place)

device_is : (device : DeviceId) (n : ℕ) → device.0 ≡ n → device ≡ record { 0 = n }
device_is device n e = rw e

cm_there : (c : Channel) → IsCmOf worked c (record { 0 = cm_of c })
cm_there A = (refl, refl)
cm_there B = (refl, refl)

one_cm : (c : Channel) → ExactlyOne (IsCmOf worked c)
one_cm c = (record { 0 = cm_of c }, cm_there c, λ y has. device_is y (cm_of c) (cm_is c y.0 has))

pub cms_kept : (part : ℕ) → HasOneCm worked part
cms_kept part = record { on_a = λ is. one_cm A; on_b = λ is. one_cm B }

-- ---- links

pub joins_kept : (i : ℕ) → JoinsChildToSwitch worked i
joins_kept i link at = grind (arith, at_place)

-- the only uplink of the device on the channel
abbrev pub up : Channel → ℕ → ℕ
up A n = n
up B n = if n == 7 then 11 else n + 6

pub uplink_is : (c : Channel) (device : DeviceId) (n : ℕ) → IsUplink worked c device (record { 0 = n }) → n ≡ up c device.0
uplink_is A device n it = grind (arith, some_place)
uplink_is B device n it = grind (arith, some_place)

-- ---- connections

first_uplink : (c : Channel) (n : ℕ) → IsUplink worked c (record { 0 = n }) (record { 0 = up c n })
    → IsFirstUplink worked c (record { 0 = n }) (record { 0 = up c n })
first_uplink c n leads = grind (arith, leads, uplink_is)

one_uplink : (c : Channel) (n : ℕ) → IsUplink worked c (record { 0 = n }) (record { 0 = up c n }) → ExactlyOne (IsUplink worked c (record { 0 = n }))
one_uplink c n leads = (record { 0 = up c n }, leads, λ y has. link_is y (up c n) (uplink_is c (record { 0 = n }) y.0 has))

both : (P : Channel → Type 0) → P A → P B → (c : Channel) → P c
both P a b A = a
both P a b B = b

ends_lead : (n : ℕ) → IsEndSystem worked (record { 0 = n }) → (c : Channel) → IsUplink worked c (record { 0 = n }) (record { 0 = up c n })
ends_lead n it =
    some_place (λ k. (c : Channel) → IsUplink worked c (record { 0 = k }) (record { 0 = up c k })) (λ d. is_end_system d.role ≡ true) worked.device (
      λ h. both (λ c. IsUplink worked c (record { 0 = 0 }) (record { 0 = up c 0 })) (refl, refl) (refl, refl),
      (
        λ h. both (λ c. IsUplink worked c (record { 0 = 1 }) (record { 0 = up c 1 })) (refl, refl) (refl, refl),
        (
          λ h. both (λ c. IsUplink worked c (record { 0 = 2 }) (record { 0 = up c 2 })) (refl, refl) (refl, refl),
          (
            λ h. both (λ c. IsUplink worked c (record { 0 = 3 }) (record { 0 = up c 3 })) (refl, refl) (refl, refl),
            (
              λ h. both (λ c. IsUplink worked c (record { 0 = 4 }) (record { 0 = up c 4 })) (refl, refl) (refl, refl),
              (
                λ h. absurd (let bad = h in cc),
                (
                  λ h. absurd (let bad = h in cc),
                  (
                    λ h. absurd (let bad = h in cc),
                    (
                      λ h. absurd (let bad = h in cc),
                      tt,
                    ),
                  ),
                ),
              ),
            ),
          ),
        ),
      ),
    ) n it

relay_is : (c : Channel) (n : ℕ) → IsRoleOf worked Relay c (record { 0 = n }) → n ≡ relay_of c
relay_is A n it = grind (arith, some_place)
relay_is B n it = grind (arith, some_place)

child_is : (c : Channel) (n : ℕ) → IsChildOf worked (record { 0 = relay_of c }) (record { 0 = n }) → n ≡ up c (relay_of c)
child_is A n it = grind (arith, some_place)
child_is B n it = grind (arith, some_place)

relay_child : (c : Channel) → IsChildOf worked (record { 0 = relay_of c }) (record { 0 = up c (relay_of c) })
relay_child A = refl
relay_child B = refl

one_child : (c : Channel) (n : ℕ) → n ≡ relay_of c → ExactlyOne (IsChildOf worked (record { 0 = n }))
one_child c n e = rw e (
  record { 0 = up c (relay_of c) },
  relay_child c,
  λ y has. link_is y (up c (relay_of c))
      (child_is c y.0 has),
)

cm_leads : (c : Channel) → LeadsToCm worked c (record { 0 = cm_of c })
cm_leads c = ([], leb-true 0 8 refl, cm_there c)

relay_path : (c : Channel) → IsFirstPath worked c (record { 0 = relay_of c }) (record { 0 = up c (relay_of c) } ∷ [])
relay_path A = (first_uplink A 5 (refl, refl), (refl, refl))
relay_path B = (first_uplink B 7 (refl, refl), (refl, refl))

relay_leads : (c : Channel) → LeadsToCm worked c (record { 0 = relay_of c })
relay_leads c = (record { 0 = up c (relay_of c) } ∷ [], leb-true 1 8 refl, relay_path c)

-- the path of an end system leads by the channel's relay
abbrev path_of : Channel → ℕ → List LinkId
path_of c n = record { 0 = up c n } ∷ record { 0 = up c (relay_of c) } ∷ []

leads_by : (c : Channel) (n : ℕ) → IsFirstPath worked c (record { 0 = n }) (path_of c n) → LeadsToCm worked c (record { 0 = n })
leads_by c n path = (path_of c n, leb-true 2 8 refl, path)

leads : (c : Channel) (n : ℕ) → IsDeviceOf worked c (record { 0 = n }) → LeadsToCm worked c (record { 0 = n })
leads A n it = some_place (λ k. LeadsToCm worked A (record { 0 = k })) (λ d. (is_end_system d.role ≡ true) ⊎ (d.channel ≡ Some A)) worked.device (
  λ h. leads_by A 0 (first_uplink A 0 (refl, refl), relay_path A),
  (
    λ h. leads_by A 1 (first_uplink A 1 (refl, refl), relay_path A),
    (
      λ h. leads_by A 2 (first_uplink A 2 (refl, refl), relay_path A),
      (
        λ h. leads_by A 3 (first_uplink A 3 (refl, refl), relay_path A),
        (
          λ h. leads_by A 4 (first_uplink A 4 (refl, refl), relay_path A),
          (
            λ h. relay_leads A,
            (
              λ h. cm_leads A,
              (
                λ h. absurd (elim h [ inl e ↦ (let bad = e in cc) | inr e ↦ (let bad = e in cc) ]),
                (
                  λ h. absurd (elim h [ inl e ↦ (let bad = e in cc) | inr e ↦ (let bad = e in cc) ]),
                  tt,
                ),
              ),
            ),
          ),
        ),
      ),
    ),
  ),
) n it
leads B n it = some_place (λ k. LeadsToCm worked B (record { 0 = k })) (λ d. (is_end_system d.role ≡ true) ⊎ (d.channel ≡ Some B)) worked.device (
  λ h. leads_by B 0 (first_uplink B 0 (refl, refl), relay_path B),
  (
    λ h. leads_by B 1 (first_uplink B 1 (refl, refl), relay_path B),
    (
      λ h. leads_by B 2 (first_uplink B 2 (refl, refl), relay_path B),
      (
        λ h. leads_by B 3 (first_uplink B 3 (refl, refl), relay_path B),
        (
          λ h. leads_by B 4 (first_uplink B 4 (refl, refl), relay_path B),
          (
            λ h. absurd (elim h [ inl e ↦ (let bad = e in cc) | inr e ↦ (let bad = e in cc) ]),
            (
              λ h. absurd (elim h [ inl e ↦ (let bad = e in cc) | inr e ↦ (let bad = e in cc) ]),
              (
                λ h. relay_leads B,
                (
                  λ h. cm_leads B,
                  tt,
                ),
              ),
            ),
          ),
        ),
      ),
    ),
  ),
) n it

pub connected : (i : ℕ) → IsConnected worked i
connected i = record { ends = λ is c. one_uplink c i (ends_lead i is c); relays = λ c is. one_child c i (relay_is c i is); paths = λ c is. leads c i is }

-- ---- masters

some_start : IsNone (Some (units_of 0)) → ⊥
some_start none = cc

pub no_off_switch : (c : Channel) → HasOffSwitch worked c → ⊥
no_off_switch c off = grind (arith, some_place, some_start)

low : pos 0 ≤ℤ pos 345000000
low = omega (arith, ints)

pub masters_kept : (part : ℕ) → MastersSuffice worked part
masters_kept part = grind (arith, leb-true, numbered_apart, all_each, low, no_off_switch)

-- ---- the worked network is accepted

pub worked_keeps_rules : (rule : Rule) → IsKept rule worked
worked_keeps_rules Limits place = limits_kept place
worked_keeps_rules DevicesDiffer place = devices_differ place
worked_keeps_rules LinksDiffer place = links_differ place
worked_keeps_rules CompressionMasters place = cms_kept place
worked_keeps_rules Joints place = joins_kept place
worked_keeps_rules Connections place = connected place
worked_keeps_rules Masters place = masters_kept place
worked_keeps_rules Delays place = delays_fit place
worked_keeps_rules Settling place = errors_settle
worked_keeps_rules Precision place = precision_fits
worked_keeps_rules Correction place = correction_fits
worked_keeps_rules ScheduleStart place = schedule_fits
worked_keeps_rules WindowEnds place = windows_end place
worked_keeps_rules VlNamesDiffer place = vl_names_differ place
worked_keeps_rules VlIdsDiffer place = vl_ids_differ place
worked_keeps_rules Periods place = has_period place
worked_keeps_rules Senders place = ends_send place
worked_keeps_rules LinksOnce place = links_once place
worked_keeps_rules Sources place = has_source place
worked_keeps_rules Targets place = enters_anew place
worked_keeps_rules Spacing place = rows_stand_apart place
worked_keeps_rules BothChannels place = both_channels place
worked_keeps_rules Forwarding place = comes_in_time place
worked_keeps_rules RowsOfDevice place = few_rows place

-- ---- the worked network is in range

within : (low high n : ℕ) → nat_le low n ≡ true → nat_le n high ≡ true → IsWithin low high (units_of n)
within low high n least most = grind (arith, leb-true, ints)

name_of : (text : List ℕ) → nat_le 1 (length text) ≡ true → nat_le (length text) 16 ≡ true → list_all is_name_character text ≡ true → IsNameText text
name_of text some short plain = record { some = leb-true 1 (length text) some; short = leb-true (length text) 16 short; plain = plain }

device_in : (d : Device) → IsNameText d.name → is_some d.member ≡ is_master d.role → IfSome d.member (λ m. m ≤ 31)
    → is_some d.channel ≡ not (is_end_system d.role) → d.start ≡ Some (units_of 0) → IsDeviceInRange d
device_in d name masters member switches start = grind (arith, within)

link_in : {text : List ℕ} (child parent : ℕ) → IsNameText text → nat_le (child + 1) 9 ≡ true
    → nat_le (parent + 1) 9 ≡ true → IsLinkInRange worked (link_of text child parent)
link_in child parent name few_child few_parent = grind (arith, leb-true, within)

row_in : (link : ℕ) (way : Way) (offset : ℕ) → nat_le (link + 1) 12 ≡ true → nat_le offset (2 ^ 40) ≡ true → IsRowInRange worked (row_of link way offset)
row_in link way offset few low =
    let l = leb-true (link + 1) 12 few in
    record { vl = leb-true 1 1 refl; link = omega arith; offset = within 0 (2 ^ 40) offset (leb-zero offset) low }

pub worked_in_range : IsInRange worked
worked_in_range = record {
  version = inl refl;
  cycle = within (2 ^ 32) (2 ^ 40) 131072000000 refl refl;
  rho = leb-true 50000 1000000 refl;
  grain = within 1 1048576 1 refl refl;
  dmax = within 1 (2 ^ 40) 3276800000 refl refl;
  calc = within 1 (2 ^ 40) 65536000 refl refl;
  settled = within 0 (2 ^ 40) 345000000 refl refl;
  precision = within 1 (2 ^ 40) 1048576000 refl refl;
  correction = within 0 (2 ^ 40) 18350080000 refl refl;
  tt_start = within 0 (2 ^ 40) 26542080000 refl refl;
  marker = leb-true (0x03040506 + 1) (2 ^ 32) refl;
  threshold_least = leb-true 1 3 refl;
  threshold_most = leb-true 3 31 refl;
  few_devices = leb-true 10 (2 ^ 32) refl;
  few_links = leb-true 13 (2 ^ 32) refl;
  few_vls = leb-true 2 (2 ^ 32) refl;
  few_rows = leb-true 5 (2 ^ 32) refl;
  devices = all_each IsDeviceInRange worked.device (
    device_in _ (name_of (codes "m1") refl refl refl) refl (leb-true 0 31 refl) refl refl,
    (
      device_in _ (name_of (codes "m2") refl refl refl) refl (leb-true 1 31 refl) refl refl,
      (
        device_in _ (name_of (codes "m3") refl refl refl) refl (leb-true 2 31 refl) refl refl,
        (
          device_in _ (name_of (codes "m4") refl refl refl) refl (leb-true 3 31 refl) refl refl,
          (
            device_in _ (name_of (codes "c1") refl refl refl) refl (tt) refl refl,
            (
              device_in _ (name_of (codes "ra") refl refl refl) refl (tt) refl refl,
              (
                device_in _ (name_of (codes "ca") refl refl refl) refl (tt) refl refl,
                (
                  device_in _ (name_of (codes "rb") refl refl refl) refl (tt) refl refl,
                  (
                    device_in _ (name_of (codes "cb") refl refl refl) refl (tt) refl refl,
                    tt,
                  ),
                ),
              ),
            ),
          ),
        ),
      ),
    ),
  );
  links = all_each (IsLinkInRange worked) worked.link (
    link_in 0 5 (name_of (codes "m1_a") refl refl refl) refl refl,
    (
      link_in 1 5 (name_of (codes "m2_a") refl refl refl) refl refl,
      (
        link_in 2 5 (name_of (codes "m3_a") refl refl refl) refl refl,
        (
          link_in 3 5 (name_of (codes "m4_a") refl refl refl) refl refl,
          (
            link_in 4 5 (name_of (codes "c1_a") refl refl refl) refl refl,
            (
              link_in 5 6 (name_of (codes "ra_ca") refl refl refl) refl refl,
              (
                link_in 0 7 (name_of (codes "m1_b") refl refl refl) refl refl,
                (
                  link_in 1 7 (name_of (codes "m2_b") refl refl refl) refl refl,
                  (
                    link_in 2 7 (name_of (codes "m3_b") refl refl refl) refl refl,
                    (
                      link_in 3 7 (name_of (codes "m4_b") refl refl refl) refl refl,
                      (
                        link_in 4 7 (name_of (codes "c1_b") refl refl refl) refl refl,
                        (
                          link_in 7 8 (name_of (codes "rb_cb") refl refl refl) refl refl,
                          tt,
                        ),
                      ),
                    ),
                  ),
                ),
              ),
            ),
          ),
        ),
      ),
    ),
  );
  vls = all_each (IsVlInRange worked) worked.vl (
    record {
      name = name_of (codes "v1") refl refl refl;
      id = leb-true 2 (2 ^ 16) refl;
      length_least = leb-true 60 60 refl;
      length_most = leb-true 60 1514 refl;
      ethertype_least = leb-true 1536 2048 refl;
      ethertype_most = leb-true 2049 (2 ^ 16) refl;
      ethertype_other = λ e. absurd (omega arith);
      sender = leb-true 1 9 refl;
      period_least = leb-true 1 1 refl;
      period_most = leb-true 1 64 refl;
      phase = leb-true 0 63 refl;
    },
    tt,
  );
  rows = all_each (IsRowInRange worked) worked.row (
    row_in 0 Up 26542080000 refl refl,
    (
      row_in 6 Up 26542080000 refl refl,
      (
        row_in 4 Down 28180480000 refl refl,
        (
          row_in 10 Down 28180480000 refl refl,
          tt,
        ),
      ),
    ),
  );
}

-- ---- the rough day of the worked network is one of which the laws on runs speak

abbrev the_break : Event
the_break = record { time = units_of 131072000000; what = events.Break (record { 0 = 3 }) }

abbrev the_cut : Event
the_cut = record { time = units_of 200000000000; what = events.Cut (record { 0 = 11 }) Up }

abbrev the_end : Event
the_end = record { time = units_of (20 * 131072000000 - 1); what = events.End }

-- ---- lists of one and two events

last_of_one : (x : Event) (front behind : List Event) (last : Event) → x ∷ [] ≡ front ++ last ∷ behind → x ≡ last
last_of_one x [] behind last same = let it = same in cc
last_of_one x (f ∷ front) behind last same = grind (arith, none_told)

last_of_two : (x y : Event) (front : List Event) (last : Event) → x ∷ y ∷ [] ≡ front ++ last ∷ [] → y ≡ last
last_of_two x y [] last same = let it = same in absurd cc
last_of_two x y (f ∷ front) last same = grind (arith, last_of_one)

-- ---- each event is within the hypothesis, given those before it

none_broken : (device : DeviceId) → IsBroken [] device → ⊥
none_broken device broken = let lt = broken.2 in omega arith

break_within : IsWithinHypothesis worked [] the_break
break_within Order v = none_told v.front [] v.last v.order
break_within Late v = let late = v in omega (arith, ints)
break_within Rate v = absurd (let bad = v.what in cc)
break_within Wire v = absurd (let bad = v.what in cc)
break_within Hold v = absurd (let bad = v.what in cc)
break_within OtherChannel v = absurd (let bad = v.what in cc)
break_within NotMaster v = grind arith
break_within SecondBreak v = none_broken v.broken v.is_broken
break_within TooFewMasters v = let few = v.few in omega arith
break_within NotBroken v = absurd (let bad = v.what in cc)
break_within NotOff v = absurd (let bad = v.what in cc)

-- before the cut no channel is the faulty one
none_faulty : {channel : Channel} → IsFaulty worked (the_break ∷ []) channel → ⊥
none_faulty {channel} (inl off) = no_off_switch channel off
none_faulty (inr it) = grind (arith, last_of_one)

cut_within : IsWithinHypothesis worked (the_break ∷ []) the_cut
cut_within Order v = grind (arith, last_of_one, ints)
cut_within Late v = let late = v in omega (arith, ints)
cut_within Rate v = absurd (let bad = v.what in cc)
cut_within Wire v = absurd (let bad = v.what in cc)
cut_within Hold v = absurd (let bad = v.what in cc)
cut_within OtherChannel v = none_faulty v.is_faulty
cut_within NotMaster v = absurd (let bad = v.breaks in cc)
cut_within SecondBreak v = absurd (let bad = v.breaks in cc)
cut_within TooFewMasters v = absurd (let bad = v.breaks in cc)
cut_within NotBroken v = absurd (let bad = v.what in cc)
cut_within NotOff v = absurd (let bad = v.what in cc)

end_within : IsWithinHypothesis worked (the_break ∷ the_cut ∷ []) the_end
end_within Order v = grind (arith, last_of_two, ints)
end_within Late v = let late = v in omega (arith, ints)
end_within Rate v = absurd (let bad = v.what in cc)
end_within Wire v = absurd (let bad = v.what in cc)
end_within Hold v = absurd (let bad = v.what in cc)
end_within OtherChannel v = absurd (let bad = v.what in cc)
end_within NotMaster v = absurd (let bad = v.breaks in cc)
end_within SecondBreak v = absurd (let bad = v.breaks in cc)
end_within TooFewMasters v = absurd (let bad = v.breaks in cc)
end_within NotBroken v = absurd (let bad = v.what in cc)
end_within NotOff v = absurd (let bad = v.what in cc)

all_within : AreWithinHypothesis worked rough_events
all_within [] behind e same = grind (arith, break_within)
all_within (b ∷ []) behind e same = grind (arith, cut_within)
all_within (b ∷ c ∷ []) behind e same = grind (arith, end_within)
all_within (b ∷ c ∷ d ∷ before) behind e same = grind (arith, none_told)

-- ---- the rest

in_range : (t : ℕ) (what : What) → ((link : LinkId) (way : Way) (delay : Units) → what ≡ events.Hold link way delay → ⊥)
    → IsEventInRange (record { time = units_of t; what = what })
in_range t what no_hold = record { time = omega (arith, ints); hold = λ link way delay is. absurd (no_hold link way delay is) }

-- the events are of the network's devices and links
of_network : All (λ e. IsOfNetwork worked e.what) rough_events
of_network = all_each (λ e. IsOfNetwork worked e.what) rough_events (leb-true 4 9 refl, (leb-true 12 12 refl, (tt, tt)))

pub rough_day_under : IsUnder worked rough_events
rough_day_under = grind (arith, worked_in_range, worked_keeps_rules, of_network, all_each, in_range, all_within)

-- ---- its clocks

pub rough_day_lawful : IsLawful rough_day
rough_day_lawful =
    lawful fresh_segment stepped_segment segment_reading
    (keeps_clock_laws fresh_segment stepped_segment segment_reading (λ c. c.grain) segment_count exact_steps)
    (begins_at_zero fresh_segment stepped_segment segment_reading (λ c. c.grain) segment_count exact_steps)
    rough_day_under

-- What the one picture of a schedule shows: its rows, and the links and trees within their limits.
use Rattle.std.{specs.{List.{All, Contains, list_any}, Prelude.{if◌then◌else◌, ◌==◌, IsSomeAnd, slice_get}}}
use Rattle.std.proofs.{Math.{ListN.get_or-map, Nat.{div-mul-le_self, min_comm}}}
use Rattle.std.proofs.Common
use Common.{◌%◌, ◌*◌, ◌++◌, ◌+◌, ◌-◌, ◌/◌, ◌<◌, ◌∙◌, ◌∷◌, ◌≡◌, ◌≤◌, ◌⊎◌, Bool, List, None, Option, Some, [], ap, arith}
use Common.{false, get_or, inl, inr, length, length-append, map, max, min, refl, subst, suc, sym, true, zero, ℕ}
use Rattle.std.proofs.lemmas.{Bool.{Decides.eqb_tells, cases_lt, eq-eqb, false≢true}, Int.ints, Nat.le-div}
use Rattle.std.proofs.lemmas.{Option.{slice_get-get_or, slice_get_within}}
use Rattle.std.proofs.lemmas.List.{Elements.{All-cons, All-nil, Contains-append_left, Contains-append_right}}
use Rattle.std.proofs.lemmas.List.{Folds.list_any_at, ext_get_or, length-map}
use Rattle.lens_schedule.specs.{Answer.{IsScheduleOf, picture_answer}, Frames.frame_of}
use Rattle.lens_schedule.specs.{Laws.{BoxesStandApart, PlacesGrow, RowsAreShown, WindowsAreThose}}
use Rattle.lens_schedule.specs.{Lines.{lane_line, part_line}, Scale.scale_of}
use Rattle.lens_schedule.specs.{Tree.{AreTwigsBelow, IsTwig, IsTwigAt, twig_by}}
use Rattle.lens_schedule.specs.Lanes
use Lanes.{column_by, lane_at, lane_of, lanes_below, lanes_of, leaves_by, link_of, port_number, way_of}
use Rattle.lens_schedule.specs.Picture
use Picture.{IsPicture, cycle_parts, frame_part, front_parts, full_parts, lane_part, lane_place, picture_of, sheet_of}
use Picture.{twig_part, zone_parts}
use Rattle.lens_schedule.specs.declared.{lanes.Lane.Lane, part.SchedulePart.{SchedulePart, TheVariants.{Bare, Close}}}
use Rattle.lens_schedule.specs.declared.{picture.Sheet.Sheet, scale.Scale.Scale, tree.Twig.Twig}
use Rattle.lens_svg.specs.{Titles.title_of, declared.element.PicturePoint.PicturePoint}
use Rattle.net_plan.{proofs.Trees.{beta_exists, paths_are_unique, rules_give_trees}}
use Rattle.net_plan.specs.{Bounds.{IsBeta, beta_at}, Paths.{IsPath, IsTree, PathsAreUnique}, Places.IsSwitchOf}
use Rattle.net_plan.specs.{Ranges.IsInRange}
use Rattle.net_plan.specs.declared.{ids.{DeviceId.DeviceId, LinkId.LinkId}, network.Network.Network}
use Rattle.net_plan.specs.declared.{tables.{Link.Link, Way.{TheVariants.{Down, Up}, Way}}}
use Rattle.schedule_tables.{proofs.{Margins.{begun_below, shape_rules}, SlotLemmas.one_entry}}
use Rattle.schedule_tables.specs.{Entries.{AreEntries, EntriesAreInRange, EntryIsOne, IsEntry, IsEntryInRange}}
use Rattle.schedule_tables.specs.{Rules.KeepsRules, Schedule.{Coincide, IsClearBefore}}
use Rattle.schedule_tables.specs.{Windows.{arrival_of, port_time, tolerance}}
use Rattle.schedule_tables.specs.declared.{entry.Entry.Entry}
use Rattle.schedule_tables.specs.declared.{rule.Rule.TheVariants.{Limits, Precision, ScheduleStart, Spacing}}
use Rattle.tte_forms.specs.Answering.{Answer}
use Rattle.tte_units.specs.{Amount.amount, declared.frames.channel.Channel.{Channel, TheVariants.{A, B}}}

-- ---- what the lines of the picture say of the schedule

quotients : (m n k : ℕ) → 0 < k → m ≤ n → m / k ≤ n / k
quotients m n k some le =
    let whole = div-mul-le_self m k in
    le-div (m / k) n k some (omega (arith, whole, le))

-- what comes later stands no farther to the left
pub places_grow : PlacesGrow
places_grow scale early late le =
    let here = min early scale.end - scale.begin in
    let there = min late scale.end - scale.begin in
    let farther : here * 600 ≤ there * 600 = omega (arith, le) in
    let parts = quotients (here * 600) (there * 600) (max (scale.end - scale.begin) 1) (omega arith) farther in
    omega (arith, parts)

turned : (e f : Entry) → Coincide e.vl f.vl → Coincide f.vl e.vl
turned e f same =
    let turn = min_comm e.vl.period f.vl.period in
    ap (λ (m : ℕ). f.vl.phase % m) (sym turn) ∙ sym same ∙ ap (λ (m : ℕ). e.vl.phase % m) turn

-- two rows of one port, of which the first stands first in the file
in_order : {network : Network} {j k : ℕ} {first second : Entry} → KeepsRules network → IsEntry network j first
    → IsEntry network k second → j < k → first.row.link ≡ second.row.link → first.row.way ≡ second.row.way
    → Coincide first.vl second.vl → IsClearBefore network first second ⊎ IsClearBefore network second first
in_order {j} {k} {first} {second} keeps is its lt link way meet =
    keeps Spacing k j first second lt is its (sym link) (sym way) (turned first second meet)

clear : (network : Network) (scale : Scale) (at : PicturePoint) (first second : Entry) → IsClearBefore network first second
    → (frame_of network scale at first).port.to ≤ (frame_of network scale at second).port.from
clear network scale at first second before =
    places_grow scale (amount first.row.offset + port_time first) (amount second.row.offset) (omega (arith, before))

either : (network : Network) (scale : Scale) (at : PicturePoint) (first second : Entry)
    → IsClearBefore network first second ⊎ IsClearBefore network second first
    → ((frame_of network scale at first).port.to ≤ (frame_of network scale at second).port.from)
    ⊎ ((frame_of network scale at second).port.to ≤ (frame_of network scale at first).port.from)
either network scale at first second (inl before) = inl (clear network scale at first second before)
either network scale at first second (inr behind) = inr (clear network scale at second first behind)

turn : {P Q : Type 0} → P ⊎ Q → Q ⊎ P
turn (inl p) = inr p
turn (inr q) = inl q

-- the boxes of two rows of one port that come in one cycle do not overlap
pub boxes_apart : BoxesStandApart
boxes_apart network scale at j k first second keeps is its not link way meet =
    elim (cases_lt j k) [
      | inl lt ↦ either network scale at first second (in_order keeps is its lt link way meet)
      | inr ge ↦
          let lt : k < j = omega (arith, ge, not) in
          either network scale at first second (turn (in_order keeps its is lt (sym link) (sym way)
          (turned first second meet)))
    ]

-- a frame arrives so late that its window begins in the cycle
begun : {network : Network} {k : ℕ} {entry : Entry} → KeepsRules network → IsEntry network k entry
    → tolerance network ≤ arrival_of entry
begun {network} {k} {entry} keeps is =
    let some = (beta_exists network (rules_give_trees network (shape_rules network keeps))).1 in
    let beta = beta_at network some.jitter some.links in
    let fits = (keeps Precision 0).errors beta (subst (IsBeta network) some.value some) in
    let within = slice_get_within network.link entry.row.link.0 entry.link is.link in
    let start = (keeps ScheduleStart 0).begins entry.row.link.0 entry.link within in
    let offset = begun_below (amount entry.row.offset + 1) k entry keeps is (omega arith) in
    omega (arith, fits, start, offset)

-- the window that is drawn is that of the receiver
pub windows_those : WindowsAreThose
windows_those network scale at k entry range keeps is =
    let late = begun keeps is in
    (omega (arith, ints, late), refl)

-- ---- the trees of the devices below a number

module _ (network : Network) (channel : Channel) where
  -- one device more
  pub twigs_next : (n : ℕ) (before last : List Twig) → AreTwigsBelow network channel n before
      → IsTwigAt network channel n last → AreTwigsBelow network channel (n + 1) (before ++ last)
  twigs_next n before last are is =
      let next : suc n ≡ n + 1 = omega arith in
      subst (λ k. AreTwigsBelow network channel k (before ++ last)) next (before, last, are, is, refl)

  at_most_one : (n : ℕ) (twigs : List Twig) → IsTwigAt network channel n twigs → length twigs ≤ 1
  at_most_one n twigs (inl (twig, of, is, same)) = rw same (omega arith)
  at_most_one n twigs (inr (other, same)) = rw same (omega arith)

  -- each device stands in it once or not
  pub few_twigs : (n : ℕ) (twigs : List Twig) → AreTwigsBelow network channel n twigs → length twigs ≤ n
  few_twigs zero twigs none = rw none (omega arith)
  few_twigs (suc n) twigs (before, last, are, is, same) =
      let first = few_twigs n before are in
      let here = at_most_one n last is in
      rw same (omega (arith, first, here, length-append before last))

  twig_once : (device : DeviceId) (t u : Twig) → PathsAreUnique → IsTree network → IsTwig network channel device t
      → IsTwig network channel device u → t ≡ u
  twig_once device t u unique tree (links, path, is) (others, other, same) =
      is ∙ ap (twig_by channel device) (unique network channel device links others tree path other) ∙ sym same

  twigs_at_once : (n : ℕ) (ts us : List Twig) → PathsAreUnique → IsTree network → IsTwigAt network channel n ts
      → IsTwigAt network channel n us → ts ≡ us
  twigs_at_once n ts us unique tree (inl (t, of, is, same)) (inl (u, has, its, there)) =
      same ∙ ap (λ (x : Twig). x ∷ []) (twig_once (record { 0 = n }) t u unique tree is its) ∙ sym there
  twigs_at_once n ts us unique tree (inl (t, of, is, same)) (inr (not, there)) = absurd (not of)
  twigs_at_once n ts us unique tree (inr (not, same)) (inl (u, has, its, there)) = absurd (not has)
  twigs_at_once n ts us unique tree (inr (not, same)) (inr (other, there)) = same ∙ sym there

  -- a channel has one tree
  twigs_once : (n : ℕ) (ts us : List Twig) → PathsAreUnique → IsTree network → AreTwigsBelow network channel n ts
      → AreTwigsBelow network channel n us → ts ≡ us
  twigs_once zero ts us unique tree none empty = none ∙ sym empty
  twigs_once (suc n) ts us unique tree (before, last, are, is, same) (front, rest, have, its, there) =
      same ∙ ap (λ (xs : List Twig). xs ++ last) (twigs_once n before front unique tree are have)
      ∙ ap (λ (xs : List Twig). front ++ xs) (twigs_at_once n last rest unique tree is its) ∙ sym there

-- ---- a network has one answer of `draw`

-- the rows have one list of entries
pub entries_once : {network : Network} (es fs : List Entry) → EntryIsOne → AreEntries network es
    → AreEntries network fs → es ≡ fs
entries_once [] [] one p q = refl
entries_once [] (f ∷ fs) one p q = absurd (omega (arith, p.count, q.count))
entries_once {network} (e ∷ es) fs one p q =
    let long : length (e ∷ es) ≡ length fs = p.count ∙ sym q.count in
    ext_get_or e (e ∷ es) fs long
    (λ i lt.
    one network i (get_or (e ∷ es) i e) (get_or fs i e) (p.each i (get_or (e ∷ es) i e) (slice_get-get_or (e ∷ es) i e lt))
    (q.each i (get_or fs i e) (slice_get-get_or fs i e (omega (arith, lt, long)))))

-- and one picture
picture_once : {network : Network} {entries : List Entry} {ps qs : List SchedulePart} → IsTree network
    → IsPicture network entries ps → IsPicture network entries qs → ps ≡ qs
picture_once {network} {entries} tree p q =
    let a = twigs_once network A (length network.device) p.a q.a paths_are_unique tree p.of_a q.of_a in
    let b = twigs_once network B (length network.device) p.b q.b paths_are_unique tree p.of_b q.of_b in
    p.is ∙ ap (λ ts. picture_of network entries ts p.b) a ∙ ap (λ ts. picture_of network entries q.a ts) b ∙ sym q.is

pub schedule_one : {words : List (List ℕ)} {network : Network} {a b : Answer} → EntryIsOne → IsTree network
    → IsScheduleOf words network a → IsScheduleOf words network b → a ≡ b
schedule_one {words} {network} one tree p q =
    let rows = entries_once p.entries q.entries one p.rows q.rows in
    let first : IsPicture network q.entries p.parts = subst (λ es. IsPicture network es p.parts) rows p.picture in
    p.is ∙ ap (picture_answer network (title_of words)) (picture_once tree first q.picture) ∙ sym q.is

-- ---- each row of the schedule has its box among the lines, and its port its lane

map_in : {X Y : Type 0} (f : X → Y) (xs : List X) (x : X) → Contains xs x → Contains (map f xs) (f x)
map_in f xs x at = (at.0, omega (arith, at.1, length-map xs f), get_or-map f xs at.0 x ∙ ap f at.2)

-- the row stands among the entries
in_entries : {network : Network} {entries : List Entry} {k : ℕ} {entry : Entry} → AreEntries network entries
    → IsEntry network k entry → Contains entries entry
in_entries {network} {entries} {k} {entry} are is =
    let within = slice_get_within network.row k entry.row is.row in
    let lt : k < length entries = omega (arith, within, are.count) in
    let same =
    one_entry network k (get_or entries k entry) entry (are.each k (get_or entries k entry) (slice_get-get_or entries k entry lt)) is in
    (k, lt, same)

-- a port's number tells its link and its way
link_back : (link : LinkId) (way : Way) → link_of (port_number link way) ≡ link
link_back link Up = let half : 2 * link.0 / 2 ≡ link.0 = omega arith in ap (λ (n : ℕ). let l : LinkId = record { 0 = n } in l) half
link_back link Down = let half : (2 * link.0 + 1) / 2 ≡ link.0 = omega arith in ap (λ (n : ℕ). let l : LinkId = record { 0 = n } in l) half

way_back : (link : LinkId) (way : Way) → way_of (port_number link way) ≡ way
way_back link Up = let even : 2 * link.0 % 2 ≡ 0 = omega arith in ap (λ (n : ℕ). if n == 0 then Up else Down) even
way_back link Down = let odd : (2 * link.0 + 1) % 2 ≡ 1 = omega arith in ap (λ (n : ℕ). if n == 0 then Up else Down) odd

port_within : (link : LinkId) (way : Way) (n : ℕ) → link.0 < n → port_number link way < 2 * n
port_within link Up n lt = omega (arith, lt)
port_within link Down n lt = omega (arith, lt)

with_lane : (lane : Lane) (has : Bool) → has ≡ true → Contains (if has then lane ∷ [] else []) lane
with_lane lane true is = (0, omega arith, refl)
with_lane lane false is = absurd (false≢true is)

-- a port by which a row leaves has a lane
in_lanes : (network : Network) (entries : List Entry) (port n : ℕ) → list_any (leaves_by port) entries ≡ true → port < n
    → Contains (lanes_below network entries n) (lane_of network entries port)
in_lanes network entries port zero any lt = absurd (omega (arith, lt))
in_lanes network entries port (suc n) any lt =
    let lane = lane_of network entries port in
    elim (cases_lt port n) [
      | inl less ↦
          Contains-append_left (lanes_below network entries n) (lane_at network entries n) lane (in_lanes network entries port n any less)
      | inr ge ↦
          let same : port ≡ n = omega (arith, lt, ge) in
          let here : Contains (lane_at network entries port) lane = with_lane lane (list_any (leaves_by port) entries) any in
          Contains-append_right (lanes_below network entries n) (lane_at network entries n) lane
          (subst (λ m. Contains (lane_at network entries m) lane) same here)
    ]

of_two : (b : Bool) (ps qs : List SchedulePart) (part : SchedulePart) → b ≡ false → Contains qs part → Contains (if b then ps else qs) part
of_two true ps qs part is at = absurd (false≢true (sym is))
of_two false ps qs part is at = at

-- a part of the cycle is one of the picture, where there are rows
in_cycle : (network : Network) (entries : List Entry) (lanes : List Lane) (sheet : Sheet) (entry : Entry) (part : SchedulePart) → Contains entries entry
    → Contains (full_parts network (scale_of network entries) entries lanes sheet) part → Contains (cycle_parts network entries lanes sheet) part
in_cycle network entries lanes sheet entry part some at =
    elim (eqb_tells (length entries) 0) [
      | inl none ↦ absurd (omega (arith, none.1, some.1))
      | inr full ↦
          of_two (length entries == 0) (Bare sheet.top ∷ []) (full_parts network (scale_of network entries) entries lanes sheet) part full.0 at
    ]

in_picture : (network : Network) (entries : List Entry) (a b : List Twig) (part : SchedulePart)
    → Contains (cycle_parts network entries (lanes_of network entries) (sheet_of network (lanes_of network entries) a b)) part
    → Contains (picture_of network entries a b) part
in_picture network entries a b part at =
    let lanes = lanes_of network entries in
    let sheet = sheet_of network lanes a b in
    let before = front_parts sheet (length entries) ++ map (twig_part a) a ++ map (twig_part b) b in
    let cycle = cycle_parts network entries lanes sheet in
    Contains-append_left (before ++ cycle) (Close ∷ []) part (Contains-append_right before cycle part at)

-- a part of the picture has its line
in_lines : {words : List (List ℕ)} {network : Network} {a : Answer} (of : IsScheduleOf words network a) (part : SchedulePart)
    → Contains (picture_of network of.entries of.picture.a of.picture.b) part
    → Contains a.lines (part_line network (title_of words) part)
in_lines {words} {network} {a} of part at =
    let whole = picture_of network of.entries of.picture.a of.picture.b in
    let lines : a.lines ≡ map (part_line network (title_of words)) whole =
    ap (λ (x : Answer). x.lines) of.is ∙ ap (λ (ps : List SchedulePart). map (part_line network (title_of words)) ps) of.picture.is in
    subst (λ (ls : List (List ℕ)). Contains ls (part_line network (title_of words) part)) (sym lines) (map_in (part_line network (title_of words)) whole part at)

pub rows_shown : RowsAreShown
rows_shown words network a of k entry is =
    let entries = of.entries in
    let lanes = lanes_of network entries in
    let sheet = sheet_of network lanes of.picture.a of.picture.b in
    let scale = scale_of network entries in
    let here = in_entries of.rows is in
    let port = port_number entry.row.link entry.row.way in
    let lane = lane_of network entries port in
    let box = frame_part network scale lanes sheet.top entry in
    let zones = zone_parts network scale sheet A ++ zone_parts network scale sheet B in
    let rails = map (lane_part lanes sheet.top) lanes in
    let boxes = map (frame_part network scale lanes sheet.top) entries in
    let leaves : leaves_by port (get_or entries here.0 entry) ≡ true = ap (leaves_by port) here.2 ∙ eq-eqb port port refl in
    let any = list_any_at (leaves_by port) entries here.0 entry here.1 leaves in
    let ports = port_within entry.row.link entry.row.way (length network.link) (slice_get_within network.link entry.row.link.0 entry.link is.link) in
    let with = in_lanes network entries port (2 * length network.link) any ports in
    let boxed = Contains-append_right (zones ++ rails) boxes box (map_in (frame_part network scale lanes sheet.top) entries entry here) in
    let railed =
    Contains-append_left (zones ++ rails) boxes (lane_part lanes sheet.top lane)
    (Contains-append_right zones rails (lane_part lanes sheet.top lane) (map_in (lane_part lanes sheet.top) lanes lane with)) in
    let show : (part : SchedulePart) → Contains (full_parts network scale entries lanes sheet) part → Contains a.lines (part_line network (title_of words) part) =
    λ part at. in_lines of part
    (in_picture network entries of.picture.a of.picture.b part (in_cycle network entries lanes sheet entry part here at)) in
    let same : lane_place lanes sheet.top lane.column (port_number lane.link lane.way)
    ≡ lane_place lanes sheet.top (column_by network entry.row.link) port =
    ap (λ l. lane_place lanes sheet.top (column_by network l) (port_number l lane.way)) (link_back entry.row.link entry.row.way)
    ∙ ap (λ w. lane_place lanes sheet.top (column_by network entry.row.link) (port_number entry.row.link w))
    (way_back entry.row.link entry.row.way) in
    record {
      at = lane_place lanes sheet.top (column_by network entry.row.link) port;
      box = show box boxed;
      lane = lane;
      link = link_back entry.row.link entry.row.way;
      way = way_back entry.row.link entry.row.way;
      of_port = subst (λ p. Contains a.lines (lane_line network lane p)) same (show (lane_part lanes sheet.top lane) railed);
    }

-- ---- how many links and rows an accepted network has, and that its rows are in range

pub most_links : (network : Network) → KeepsRules network → length network.link ≤ 128
most_links network keeps = (keeps Limits 1).links refl

pub most_rows : {network : Network} {entries : List Entry} → KeepsRules network → AreEntries network entries
    → length entries ≤ 1024
most_rows keeps are =
    let few = (keeps Limits 3).rows refl in
    omega (arith, are.count, few)

pub all_in_range : {network : Network} {entries : List Entry} → EntriesAreInRange → IsInRange network
    → AreEntries network entries → All (IsEntryInRange network) entries
all_in_range {network} {entries} law range are k d lt =
    law network k (get_or entries k d) range (are.each k (get_or entries k d) (slice_get-get_or entries k d lt))

-- ---- the links of a path are the network's

-- what a device of some fact is
on_some : {X : Type 0} (o : Option X) (P : X → Type 0) → IsSomeAnd o P → (x : X) × (o ≡ Some x) × P x
on_some None P none = absurd none
on_some (Some x) P holds = (x, refl, holds)

pub few_links : (network : Network) (channel : Channel) (device : DeviceId) (links : List LinkId) → length network.link ≤ 128
    → IsPath network channel device links → All (λ link. link.0 < 128) links
few_links network channel device [] few path = All-nil (λ (link : LinkId). link.0 < 128)
few_links network channel device (link ∷ links) few path =
    let here = on_some (slice_get network.link link.0)
    (λ (l : Link). (l.child ≡ device) × IsSwitchOf network channel l.parent × IsPath network channel l.parent links) path in
    let within = slice_get_within network.link link.0 here.0 here.1 in
    All-cons (λ (l : LinkId). l.0 < 128) link links (omega (arith, within, few))
    (few_links network channel here.0.parent links few here.2.2)

-- The cells of a row: their colours, and the records that leave them as they are.
use Rattle.std.proofs.{lemmas.{Bool.{Decides.nat_tests, cases_Bool, false≢true}, List.take_all}}
use Rattle.std.proofs.Common
use Common.{if◌then◌else◌, ◌∙◌, ◌∷◌, ◌≡◌, ◌≤◌, Bool, List, None, Option, Some, [], ap, arith, cond, false, inl, inr}
use Common.{refl, subst, sym, true, ℕ}
use Rattle.std.specs.{List.{cons_option, list_any}, Option.option_map_or}
use Rattle.std.specs.{Prelude.{◌==◌, ◌||◌, filter, filter_map, fold, length, slice_get, suc, take, zero}}
use Rattle.audit_law.specs.events.Readings.{scenario_under}
use Rattle.lens_flows.specs.declared.judge.flow.Flow.{Flow}
use Rattle.lens_overview.proofs.{LawAnswers.none_are}
use Rattle.lens_overview.proofs.{LawFlows.{IsKnown, both_is, come_delivered, first_is, has, known_of, second_is}}
use Rattle.lens_overview.proofs.{LawStrokes.same_shade}
use Rattle.lens_overview.proofs.LawRows
use LawRows.{brought_code, brought_delivered, cell_frame, come_brought, delivered_brought, frame, never_missing}
use Rattle.lens_overview.specs.{Cells.{Missed, cut, seen, shade_at, taken, turned}, Copies.{coming, is_copy_of}}
use Rattle.lens_overview.specs.{Grids.column_of, Labels.is_kind}
use Rattle.lens_overview.specs.{LawColours.{BlueIsByA, ComesBy, ComesByOne, GreenIsByBoth, InEach, InSome, VioletIsByB}}
use Rattle.lens_overview.specs.{LawParts.IsDeliveredIn, Laws.{cells_for, grid_for}}
use Rattle.lens_overview.specs.{Parts.{is_counted, is_of, is_turning}, Rows.{calm_below, is_turn, is_turned, with_calm}}
use Rattle.lens_overview.specs.{Shades.{code_of, more}, Telling.news_by}
use Rattle.lens_overview.specs.declared.{grid.Grid.Grid, label.Kind.Kind, news.{Change.Change, News.News}}
use Rattle.lens_overview.specs.declared.{rows.Calm.Calm, shade.Shade.Shade}
use Rattle.lens_svg.specs.Sketching.{with_at}
use Rattle.net_plan.specs.declared.{ids.{DeviceId.DeviceId, LinkId.LinkId, VlId.VlId}, network.Network.Network}
use Rattle.net_plan.specs.declared.{tables.Way.Way}
use Rattle.run_law.specs.{declared.note.Note.Note, records.Happenings.{Happening, happenings}}
use Rattle.run_law.specs.{scenario.Scenarios.Scenario}
use Rattle.tte_audit.specs.Report.{events_of}
use Rattle.tte_units.specs.declared.frames.channel.Channel.{Channel, TheVariants.{A, B}}
use Rattle.lens_overview.specs.declared.label.Label.TheVariants as labels
use Rattle.lens_overview.specs.declared.news.Change.TheVariants as changes
use Rattle.lens_overview.specs.declared.parts.RowSort.TheVariants as parts
use Rattle.lens_overview.specs.declared.shade.Shade.TheVariants as shades

-- ---- the colours of the cells of a flow, and the channels by which its frames come

of_code : (shade other : Shade) → code_of shade ≡ code_of other → shade ≡ other
of_code shade other e = same_shade shade other (let test : (code_of shade == code_of other) ≡ true = grind (arith, nat_tests, e) in test)

module _ (network : Network) (ns : List Note) (flow : Flow) where
  abbrev s : Scenario
  s = scenario_under network (events_of ns)

  abbrev hs : List Happening
  hs = happenings network ns

  abbrev all : List News
  all = news_by network ns ns

  -- the cell of a column, and the shade of the frame of a cycle
  abbrev cell : ℕ → Shade
  cell column = shade_at (cells_for network ns [] flow) column

  abbrev shade : ℕ → Shade
  shade c = frame all flow.vl flow.device c

  known : (c : ℕ) → IsKnown network s hs flow c ns
  known c = known_of network s hs flow c ns

  most : (c : ℕ) → code_of (shade c) ≤ 3
  most c = never_missing flow.vl flow.device c all

  -- where it is delivered, it has come, and the cell of its column is no better
  delivered_code : (c column : ℕ) → column_of (grid_for network ns) c ≡ column → IsDeliveredIn network ns flow c
      → (1 ≤ code_of (shade c)) × (code_of (shade c) ≤ code_of (cell column))
  delivered_code c column at d =
      let h = delivered_brought network s hs ns flow c d in
      let code = brought_code all flow.vl flow.device c h.0 h.1 h.2 in
      (code.0, subst (λ (k : ℕ). code_of (shade c) ≤ code_of (cell k)) at code.2)

  come_code : (c column : ℕ) (channel : Channel) → column_of (grid_for network ns) c ≡ column → ComesBy network ns flow c channel
      → code_of (shade c) ≤ code_of (cell column)
  come_code c column channel at come = (delivered_code c column at (come_delivered network s hs flow c ns channel come)).1

  code_delivered : (c : ℕ) → 1 ≤ code_of (shade c) → IsDeliveredIn network ns flow c
  code_delivered c some =
      let h = come_brought flow.vl flow.device c all shades.Blank refl some in
      brought_delivered network s hs ns flow c h.0 h.1 h.2

  -- the cell is the shade of the frame of a cycle of the column, where it has come
  cell_some : (column : ℕ) → 1 ≤ code_of (cell column) → (c : ℕ) × (column_of (grid_for network ns) c ≡ column) × (cell column ≡ shade c)
  cell_some column some = elim (cell_frame all flow.vl flow.device column) [
    | inl blank ↦ let none : code_of (cell column) ≡ 0 = ap code_of blank in absurd (omega (arith, none, some))
    | inr at ↦ at
  ]

  both_by : (c : ℕ) → ComesBy network ns flow c A → ComesBy network ns flow c B → shade c ≡ shades.Both
  both_by c a b = both_is (shade c) ((known c).shows A a) ((known c).shows B b)

  by_both : (c : ℕ) → shade c ≡ shades.Both → ComesBy network ns flow c A × ComesBy network ns flow c B
  by_both c e = ((known c).comes A (ap (has A) e), (known c).comes B (ap (has B) e))

  first_by : (c : ℕ) → ComesByOne network ns flow c A B → shade c ≡ shades.AloneA
  first_by c come = first_is (shade c) ((known c).shows A come.0) (λ other. come.1 ((known c).comes B other))

  by_first : (c : ℕ) → shade c ≡ shades.AloneA → ComesByOne network ns flow c A B
  by_first c e = (
    (known c).comes A (ap (has A) e),
    λ other. false≢true (sym (ap (has B) e) ∙ (known c).shows B other),
  )

  second_by : (c : ℕ) → ComesByOne network ns flow c B A → shade c ≡ shades.AloneB
  second_by c come = second_is (shade c) ((known c).shows B come.0) (λ other. come.1 ((known c).comes A other))

  by_second : (c : ℕ) → shade c ≡ shades.AloneB → ComesByOne network ns flow c B A
  by_second c e = (
    (known c).comes B (ap (has B) e),
    λ other. false≢true (sym (ap (has A) e) ∙ (known c).shows A other),
  )

  green_to : (column : ℕ) → cell column ≡ shades.Both → InSome network ns column (λ c. IsDeliveredIn network ns flow c)
      × InEach network ns column (λ c. IsDeliveredIn network ns flow c → ComesBy network ns flow c A × ComesBy network ns flow c B)
  green_to column e =
      let code : code_of (cell column) ≡ 1 = ap code_of e in
      let at = cell_some column (omega (arith, code)) in
      let own : code_of (shade at.0) ≡ 1 = ap code_of (sym at.2) ∙ code in (
        (at.0, at.1, code_delivered at.0 (omega (arith, own))),
        λ c place d.
            let h = delivered_code c column place d in
            let some = h.0 in
            let high = h.1 in
            let one : code_of (shade c) ≡ 1 = omega (arith, some, high, code) in
            by_both c (of_code (shade c) shades.Both one),
      )

  to_green : (column : ℕ) → InSome network ns column (λ c. IsDeliveredIn network ns flow c)
      × InEach network ns column (λ c. IsDeliveredIn network ns flow c → ComesBy network ns flow c A × ComesBy network ns flow c B)
      → cell column ≡ shades.Both
  to_green column h =
      let there = h.0 in
      let code = delivered_code there.0 column there.1 there.2 in
      let some = code.0 in
      let high = code.1 in
      let at = cell_some column (omega (arith, some, high)) in
      let own : code_of (cell column) ≡ code_of (shade at.0) = ap code_of at.2 in
      let by = h.1 at.0 at.1 (code_delivered at.0 (omega (arith, some, high, own))) in
      at.2 ∙ both_by at.0 by.0 by.1

  blue_to : (column : ℕ) → cell column ≡ shades.AloneA → InSome network ns column (λ c. ComesByOne network ns flow c A B)
  blue_to column e =
      let code : code_of (cell column) ≡ 3 = ap code_of e in
      let at = cell_some column (omega (arith, code)) in
      (at.0, at.1, by_first at.0 (sym at.2 ∙ e))

  to_blue : (column : ℕ) → InSome network ns column (λ c. ComesByOne network ns flow c A B) → cell column ≡ shades.AloneA
  to_blue column h =
      let high = come_code h.0 column A h.1 h.2.0 in
      let own : code_of (shade h.0) ≡ 3 = ap code_of (first_by h.0 h.2) in
      let at = cell_some column (omega (arith, high, own)) in
      let same : code_of (cell column) ≡ code_of (shade at.0) = ap code_of at.2 in
      let top = most at.0 in
      let three : code_of (cell column) ≡ 3 = omega (arith, high, own, same, top) in
      of_code (cell column) shades.AloneA three

  violet_to : (column : ℕ) → cell column ≡ shades.AloneB → InSome network ns column (λ c. ComesByOne network ns flow c B A)
      × InEach network ns column (λ c. ComesByOne network ns flow c A B → ⊥)
  violet_to column e =
      let code : code_of (cell column) ≡ 2 = ap code_of e in
      let at = cell_some column (omega (arith, code)) in (
        (at.0, at.1, by_second at.0 (sym at.2 ∙ e)),
        λ c place come.
            let high = come_code c column A place come.0 in
            let own : code_of (shade c) ≡ 3 = ap code_of (first_by c come) in
            absurd (omega (arith, high, own, code)),
      )

  to_violet : (column : ℕ) → InSome network ns column (λ c. ComesByOne network ns flow c B A)
      × InEach network ns column (λ c. ComesByOne network ns flow c A B → ⊥) → cell column ≡ shades.AloneB
  to_violet column h =
      let there = h.0 in
      let high = come_code there.0 column B there.1 there.2.0 in
      let own : code_of (shade there.0) ≡ 2 = ap code_of (second_by there.0 there.2) in
      let at = cell_some column (omega (arith, high, own)) in
      let same : code_of (cell column) ≡ code_of (shade at.0) = ap code_of at.2 in
      let top = most at.0 in
      let other : code_of (shade at.0) ≡ 3 → ⊥ = λ e. h.1 at.0 at.1 (by_first at.0 (of_code (shade at.0) shades.AloneA e)) in
      of_code (cell column) shades.AloneB (two (code_of (cell column)) (omega (arith, high, own)) (omega (arith, same, top)) (λ e. other (sym same ∙ e)))
    where
      two : (n : ℕ) → 2 ≤ n → n ≤ 3 → (n ≡ 3 → ⊥) → n ≡ 2
      two n low high none = elim (Rattle.std.proofs.lemmas.Bool.cases_lt n 3) [
        | inl less ↦ omega (arith, low, less)
        | inr more ↦ absurd (none (omega (arith, high, more)))
      ]

-- no frame is missing
none_missed : (network : Network) (ns : List Note) (flow : Flow) (missed : List Missed) (column : ℕ) → missed ≡ []
    → shade_at (cells_for network ns missed flow) column ≡ shade_at (cells_for network ns [] flow) column
none_missed network ns flow missed column none = ap (λ m. shade_at (cells_for network ns m flow) column) none

pub green_is_by_both : GreenIsByBoth
green_is_by_both words network octets ns end a rules r answer flow column =
    let same = none_missed network ns flow answer.missed column (none_are network octets ns end answer.missed rules r answer.each) in (
      λ e. green_to network ns flow column (sym same ∙ e),
      λ h. same ∙ to_green network ns flow column h,
    )

pub blue_is_by_a : BlueIsByA
blue_is_by_a words network octets ns end a rules r answer flow column =
    let same = none_missed network ns flow answer.missed column (none_are network octets ns end answer.missed rules r answer.each) in (
      λ e. blue_to network ns flow column (sym same ∙ e),
      λ h. same ∙ to_blue network ns flow column h,
    )

pub violet_is_by_b : VioletIsByB
violet_is_by_b words network octets ns end a rules r answer flow column =
    let same = none_missed network ns flow answer.missed column (none_are network octets ns end answer.missed rules r answer.each) in (
      λ e. violet_to network ns flow column (sym same ∙ e),
      λ h. same ∙ to_violet network ns flow column h,
    )

-- ---- records that leave the cells of a row as they are: lists without what makes no difference

pub fold_skips : {A B : Type 0} (take : B → A → B) (p : A → Bool) → ((b : B) (a : A) → p a ≡ false → take b a ≡ b) → (b : B) (xs : List A)
    → fold take b (filter p xs) ≡ fold take b xs
fold_skips take p keeps b [] = refl
fold_skips {A} {B} take p keeps b (x ∷ xs) =
    let by = λ (c : Bool). fold take b (cond c (x ∷ filter p xs) (filter p xs)) in
    elim (cases_Bool (p x)) [
      | inl is ↦ ap by is ∙ fold_skips take p keeps (take b x) xs
      | inr other ↦ ap by other ∙ fold_skips take p keeps b xs ∙ ap (λ (y : B). fold take y xs) (sym (keeps b x other))
    ]

pub any_skips : {A : Type 0} (q p : A → Bool) → ((a : A) → p a ≡ false → q a ≡ false) → (xs : List A) → list_any q (filter p xs) ≡ list_any q xs
any_skips q p fails [] = refl
any_skips {A} q p fails (x ∷ xs) =
    let by = λ (c : Bool). list_any q (cond c (x ∷ filter p xs) (filter p xs)) in
    elim (cases_Bool (p x)) [
      | inl is ↦ ap by is ∙ ap (λ (c : Bool). q x || c) (any_skips q p fails xs)
      | inr other ↦ ap by other ∙ any_skips q p fails xs ∙ ap (λ (c : Bool). c || list_any q xs) (sym (fails x other))
    ]

-- ---- rows of each sort

no_kind : (kind : Kind) (other : Option Kind) → is_counted other ≡ false → is_kind kind other ≡ false
no_kind kind (Some other) none = absurd cc
no_kind kind None none = refl

pub counts_skip : (grid : Grid) (kind : Kind) (cells : List Shade) (all : List News)
    → fold (taken grid (labels.Count kind)) cells (filter (is_of parts.Counts) all) ≡ fold (taken grid (labels.Count kind)) cells all
counts_skip grid kind cells all =
    fold_skips (taken grid (labels.Count kind)) (is_of parts.Counts)
    (λ cells news none.
    let column = column_of grid news.cycle in
    ap (λ (c : Bool). if c then with_at cells column (more (shade_at cells column)) else cells) (no_kind kind news.kind none))
    cells all

no_turn : (device : DeviceId) (column : ℕ) (cells : List Shade) (change : Change) → is_turning change ≡ false → turned device column change cells ≡ cells
no_turn device column cells (changes.Turns other shade) none = absurd cc
no_turn device column cells change none = refl

pub lane_skips : (grid : Grid) (device : DeviceId) (cells : List Shade) (all : List News)
    → fold (taken grid (labels.Lane device)) cells (filter (is_of parts.Changes) all) ≡ fold (taken grid (labels.Lane device)) cells all
lane_skips grid device cells all =
    fold_skips (taken grid (labels.Lane device)) (is_of parts.Changes) (λ cells news none. no_turn device _ cells news.change none) cells all

no_cut : (link : LinkId) (way : Way) (column : ℕ) (cells : List Shade) (change : Change) → is_turning change ≡ false
    → cut link way column change cells ≡ cells
no_cut link way column cells (changes.Cuts other of) none = absurd cc
no_cut link way column cells (changes.Heals other of) none = absurd cc
no_cut link way column cells change none = refl

pub passage_skips : (grid : Grid) (link : LinkId) (way : Way) (cells : List Shade) (all : List News)
    → fold (taken grid (labels.Passage link way)) cells (filter (is_of parts.Changes) all) ≡ fold (taken grid (labels.Passage link way)) cells all
passage_skips grid link way cells all =
    fold_skips (taken grid (labels.Passage link way)) (is_of parts.Changes) (λ cells news none. no_cut link way _ cells news.change none) cells all

no_copy : (vl : VlId) (device : DeviceId) (cells : List Shade) (change : Change) → is_copy_of vl change ≡ false → seen vl device change cells ≡ cells
no_copy vl device cells (changes.Delivers copied) none = rw none refl
no_copy vl device cells (changes.Repeats copied) none = rw none refl
no_copy vl device cells change none = refl

-- the cells behind the copies of a virtual link that come to a device
module _ (vl : VlId) (device : DeviceId) where
  abbrev pub seen_by : List Shade → Change → List Shade
  seen_by cells change = seen vl device change cells

  seen_first : (cells : List Shade) (change : Change) (rest : List Change)
      → fold seen_by cells (cons_option (coming change) rest) ≡ fold seen_by (seen_by cells change) rest
  seen_first cells (changes.Delivers copied) rest = refl
  seen_first cells (changes.Repeats copied) rest = refl
  seen_first cells change rest = refl

  seen_all : (grid : Grid) (cells : List Shade) (all : List News)
      → fold seen_by cells (filter_map (λ news. coming news.change) all) ≡ fold (taken grid (labels.Flow vl device)) cells all
  seen_all grid cells [] = refl
  seen_all grid cells (news ∷ all) =
      seen_first cells news.change (filter_map (λ news. coming news.change) all) ∙ seen_all grid (seen_by cells news.change) all

  pub copies_fill : (grid : Grid) (cells : List Shade) (all : List News)
      → fold seen_by cells (filter (is_copy_of vl) (filter_map (λ news. coming news.change) all)) ≡ fold (taken grid (labels.Flow vl device)) cells all
  copies_fill grid cells all =
      fold_skips seen_by (is_copy_of vl) (no_copy vl device) cells (filter_map (λ news. coming news.change) all) ∙ seen_all grid cells all

never_turned : (device : DeviceId) (change : Change) → is_turning change ≡ false → is_turn device change ≡ false
never_turned device (changes.Turns other shade) none = absurd cc
never_turned device change none = refl

-- a device is turned by such a record
pub turned_skips : (device : DeviceId) (all : List News) → is_turned (filter (is_of parts.Changes) all) device ≡ is_turned all device
turned_skips device all =
    any_skips (λ (news : News). is_turn device news.change) (is_of parts.Changes) (λ news none. never_turned device news.change none) all

-- and the others stay as they are
pub calm_skips : (network : Network) (all : List News) (n : ℕ) → calm_below network (filter (is_of parts.Changes) all) n ≡ calm_below network all n
calm_skips network all zero = refl
calm_skips network all (suc n) =
    let few = calm_below network (filter (is_of parts.Changes) all) n in
    ap (λ (b : Bool). option_map_or (λ d. if b then few else with_calm few d.start) (slice_get network.device n) few)
    (turned_skips (record { 0 = n }) all)
    ∙ ap (λ (calm : Calm).
    option_map_or (λ d. if is_turned all (record { 0 = n }) then calm else with_calm calm d.start) (slice_get network.device n) calm)
    (calm_skips network all n)

-- ---- all records of a part

-- the cells behind the records that may fill the row are those behind all
pub filled_by : {A B : Type 0} (take_one : B → A → B) (some all : List A) (n : ℕ) (start cells : B) → length some ≤ n
    → cells ≡ fold take_one start (take n some) → ((b : B) → fold take_one b some ≡ fold take_one b all) → cells ≡ fold take_one start all
filled_by {A} take_one some all n start cells past is same =
    is ∙ ap (λ (xs : List A). fold take_one start xs) (take_all n some past) ∙ same start

-- The laws of the picture of a report: of states, of clocks, and that nothing owed is missing.
use Rattle.std.proofs.{lemmas.{Bool.{cases_lt, false≢true}, Int.ints, Option.slice_get_past}}
use Rattle.std.proofs.Common
use Common.{if◌then◌else◌, ◌++◌, ◌+ℤ◌, ◌+◌, ◌-ℤ◌, ◌-◌, ◌<◌, ◌∙◌, ◌∷◌, ◌≡◌, ◌≤ℤ◌, ◌≤◌, ◌⊎◌, Bool, List, None, Option}
use Common.{Some, [], ap, arith, false, fold, inl, inr, length, pos, refl, subst, suc, sym, true, zero, ℕ, ℤ}
use Rattle.std.specs.{Option.option_map_or}
use Rattle.std.specs.{Prelude.{◌&&◌, ◌==◌, codes, int_le, option_map, slice_get, unsigned_abs, unwrap_or}}
use Rattle.audit_law.specs.events.Readings.{scenario_under}
use Rattle.lens_flows.{proofs.AllTold.split_at, specs.declared.judge.flow.Flow.Flow}
use Rattle.lens_overview.proofs.{LawTexts.{is_lane, is_passage, lane_of, passage_of}}
use Rattle.lens_overview.proofs.LawLines
use LawLines.{all, flow_row, lane_drawn, lane_is, lane_size, line_drawn, line_in, lines, name_there, none_red}
use LawLines.{one_ribbon, passage_drawn, passage_is, passage_size, piece_of, rows}
use Rattle.lens_overview.proofs.LawRows
use LawRows.{IsOfRow, IsTold, brought_cell, brought_delivered, cell_brought, delivered_brought, in_each, note_told}
use LawRows.{picture_stroke, told_long, told_note}
use Rattle.lens_overview.proofs.LawStrokes
use LawStrokes.{IsBarOf, IsGreatest, at_first, bar_greatest, bar_of, picture_bar, stroke_label, strokes_are}
use Rattle.lens_overview.specs.{Answer.IsOverviewAnswer, Bars.{bars_of, greatest_of}}
use Rattle.lens_overview.specs.{Cells.{Missed, cells_of, flow_cells, is_any, shade_at}}
use Rattle.lens_overview.specs.{Grids.{column_of, grid_of, pen_at}, Labels.with_receiver}
use Rattle.lens_overview.specs.{LawParts.{HasRow, IsDeliveredIn, IsStrokeOf}}
use Rattle.lens_overview.specs.{LawStates.{HasCells, IsStrokeAlong, device_cell, way_cell}}
use Rattle.lens_overview.specs.{Lines.{extent_line, piece_line, ribbon_line}, Missed.{AreMissed, IsMissed}}
use Rattle.lens_overview.specs.{News.{last_cycle, news_in, news_of}, Pieces.{not_begun, picture_of, pieces_of, told_of}}
use Rattle.lens_overview.specs.{Ranges.{all_below, each_below}, Shades.is_blank}
use Rattle.lens_overview.specs.{Spreads.{apart, ends_at, greater, lesser, local_at, spread_at, spread_by, with_local}}
use Rattle.lens_overview.specs.{Telling.news_by}
use Rattle.lens_overview.specs.Laws
use Laws.{BarsAreTrue, CellsAreDelivered, DeviceStrokesAreTrue, DevicesAreDrawn, FlowsAreDrawn, HeadIsDrawn}
use Laws.{IsGreatestIn, IsTrueBar, NoneIsRed, StrokesAreOfFlows, WayStrokesAreTrue, WaysAreDrawn, cells_for, grid_for}
use Laws.{spread_of}
use Rattle.lens_overview.specs.Rows
use Rows.{Row, ToldSoFar, calm_below, count_rows, filled_row, is_like, is_turned, joined, lane_at, lane_rows, losses}
use Rows.{others_row, passage_rows, passages_at, raised, rows_of, start_of, title_row, upper_rows, with_flows}
use Rattle.lens_overview.specs.declared.{grid.{Grid.Grid, GridPen.GridPen}, label.{Group.Group, Kind.Kind, Label.Label}}
use Rattle.lens_overview.specs.declared.{news.News.News, pieces.{Piece.Piece, Ribbon.Ribbon}, rows.Calm.Calm}
use Rattle.lens_overview.specs.declared.{shade.Shade.Shade, spread.LocalExtremes.LocalExtremes}
use Rattle.lens_svg.specs.{Sketching.moment, Titles.title_of}
use Rattle.net_plan.specs.declared.{ids.{DeviceId.DeviceId, LinkId.LinkId}, network.Network.Network}
use Rattle.net_plan.specs.declared.{tables.{Device.Device, Way.Way}}
use Rattle.run_law.{proofs.{device.States.is_in, runs.Places.in_parts}}
use Rattle.run_law.specs.{declared.note.{Note.Note, NoteBody.NoteBody}}
use Rattle.run_law.specs.{device.{LocalClocks.local, States.{is_synchronised, state_after}}, law.Safety.IsInStep}
use Rattle.run_law.specs.{records.{Happenings.{Happening, happenings, up_to}, Order.IsIn}}
use Rattle.run_law.specs.{scenario.Scenarios.{Scenario, is_broken}}
use Rattle.schedule_tables.specs.Rules.{KeepsRules}
use Rattle.tte_audit.specs.Report.{events_of}
use Rattle.tte_forms.specs.Answering.{Answer}
use Rattle.tte_reports.{proofs.Reports.{none_later, report_well}, specs.Reports.IsReportOf}
use Rattle.tte_units.{proofs.general_lemmas.Options.one, specs.{Amount.amount, declared.units.Units.Units}}
use Rattle.lens_overview.specs.declared.label.Group.TheVariants as groups
use Rattle.lens_overview.specs.declared.label.Kind.TheVariants as kinds
use Rattle.lens_overview.specs.declared.label.Label.TheVariants as labels
use Rattle.lens_overview.specs.declared.pieces.Piece.TheVariants as pieces
use Rattle.lens_overview.specs.declared.shade.Shade.TheVariants as shades
use Rattle.net_plan.specs.declared.tables.Way.TheVariants as ways
use Rattle.run_law.specs.declared.note.NoteBody.TheVariants as notes

-- ---- the picture of what was told

-- the picture of these columns and this last cycle
abbrev pub picture_by : Network → Grid → ℕ → List News → List Flow → List Piece
picture_by network grid last all flows =
    picture_of grid (rows_of network (record { news = all; last = last; grid = grid }) [] flows) (bars_of grid all) (greatest_of all) (length all)

-- is that of the records, where they are theirs
pub picture_same : (network : Network) (grid : Grid) (last : ℕ) (told all : List News) (flows fs : List Flow)
    → told ≡ all → last ≡ last_cycle told → grid ≡ grid_of last → flows ≡ fs
    → picture_by network grid last told flows ≡ pieces_of network all [] fs
picture_same network grid last told all flows fs news end columns same =
    ap (λ x. picture_by network x last told flows) columns
    ∙ ap (λ x. picture_by network (grid_of x) x told flows) end
    ∙ ap (λ x. picture_by network (grid_of (last_cycle x)) (last_cycle x) x flows) news
    ∙ ap (λ x. picture_by network (grid_of (last_cycle all)) (last_cycle all) all x) same

-- ---- how far apart clocks are, and whose they are: whose clocks the ends are

either : (b : Bool) (x y : ℤ) → ((if b then x else y) ≡ x) ⊎ ((if b then x else y) ≡ y)
either true x y = inl refl
either false x y = inr refl

-- the value is an end that was, or one of the clocks
abbrev IsEnd : Option LocalExtremes → List (Option ℤ) → ℤ → Type 0
IsEnd o os v = ((e : LocalExtremes) × (o ≡ Some e) × ((v ≡ e.least) ⊎ (v ≡ e.greatest))) ⊎ IsIn (Some v) os

-- of one more clock
end_before : (o : Option LocalExtremes) (x : Option ℤ) (e : LocalExtremes) (os : List (Option ℤ)) (v : ℤ) → with_local o x ≡ Some e → (v ≡ e.least) ⊎ (v ≡ e.greatest)
    → IsEnd o (x ∷ os) v
end_before o None e os v is at = inl (e, is, at)
end_before None (Some l) e os v is at =
    let made : record { least = l; greatest = l } ≡ e = one (Some (record { least = l; greatest = l })) (record { least = l; greatest = l }) e refl is in
    elim at [
      | inl low ↦ inr (inl (ap (λ (z : ℤ). Some z) (low ∙ sym (ap (λ (x : LocalExtremes). x.least) made))))
      | inr high ↦ inr (inl (ap (λ (z : ℤ). Some z) (high ∙ sym (ap (λ (x : LocalExtremes). x.greatest) made))))
    ]
end_before (Some d) (Some l) e os v is at =
    let own : LocalExtremes = record { least = lesser d.least l; greatest = greater d.greatest l } in
    let made : own ≡ e = one (Some own) own e refl is in
    elim at [
      | inl low ↦ least_of (low ∙ sym (ap (λ (x : LocalExtremes). x.least) made)) (either (int_le d.least l) d.least l)
      | inr high ↦ greatest_of (high ∙ sym (ap (λ (x : LocalExtremes). x.greatest) made)) (either (int_le d.greatest l) l d.greatest)
    ]
  where
    least_of : v ≡ lesser d.least l → (lesser d.least l ≡ d.least) ⊎ (lesser d.least l ≡ l) → IsEnd (Some d) (Some l ∷ os) v
    least_of same (inl old) = inl (d, refl, inl (same ∙ old))
    least_of same (inr new) = inr (inl (ap (λ (z : ℤ). Some z) (same ∙ new)))

    greatest_of : v ≡ greater d.greatest l → (greater d.greatest l ≡ l) ⊎ (greater d.greatest l ≡ d.greatest) → IsEnd (Some d) (Some l ∷ os) v
    greatest_of same (inl new) = inr (inl (ap (λ (z : ℤ). Some z) (same ∙ new)))
    greatest_of same (inr old) = inl (d, refl, inr (same ∙ old))

ends_are : (os : List (Option ℤ)) (o : Option LocalExtremes) (e : LocalExtremes) (v : ℤ) → fold with_local o os ≡ Some e → (v ≡ e.least) ⊎ (v ≡ e.greatest) → IsEnd o os v
ends_are [] o e v is at = inl (e, is, at)
ends_are (x ∷ os) o e v is at = by (ends_are os (with_local o x) e v is at)
  where
    by : IsEnd (with_local o x) os v → IsEnd o (x ∷ os) v
    by (inl (d, made, own)) = end_before o x d os v made own
    by (inr i) = inr (inr i)

-- ---- a clock that counts is in step

abbrev local_where : Bool → Bool → ℤ → Option ℤ
local_where broken synchronised own = if broken then None else if synchronised then Some own else None

where_of : (broken synchronised : Bool) (own v : ℤ) → Some v ≡ local_where broken synchronised own → (broken ≡ false) × (synchronised ≡ true) × (own ≡ v)
where_of true synchronised own v e = absurd cc
where_of false false own v e = absurd cc
where_of false true own v e = (refl, refl, one (Some own) own v refl (sym e))

module _ (s : Scenario) (hs : List Happening) (t : ℕ) where
  -- the device is correct and synchronised, and its local clock shows this
  pub record Shows (v : ℤ) : Type 0 where
    pub device : DeviceId
    pub in_step : IsInStep s hs device t
    pub shows : v ≡ local s hs device t

  abbrev local_of : ℕ → Option ℤ
  local_of place = local_at s hs t (record { 0 = place })

  end_shows : (count : ℕ) (e : LocalExtremes) (v : ℤ) → ends_at s hs t count ≡ Some e → (v ≡ e.least) ⊎ (v ≡ e.greatest) → Shows v
  end_shows count e v is at = by (ends_are (each_below local_of count) None e v is at)
    where
      shown : (device : DeviceId) → Some v ≡ local_at s hs t device → Shows v
      shown device same =
          let w = where_of (is_broken s device t) (is_synchronised (state_after s (up_to t hs) device)) (local s hs device t) v same in
          record {
            device = device;
            in_step = record { correct = w.0; synchronised = is_in (state_after s (up_to t hs) device) w.1 };
            shows = sym w.2;
          }

      by : IsEnd None (each_below local_of count) v → Shows v
      by (inl (d, none, own)) = absurd cc
      by (inr i) = let h = in_each local_of count (Some v) i in shown (record { 0 = h.0 }) h.1

  -- the clocks of two devices are so far apart
  pub record AreApart (n : ℕ) : Type 0 where
    pub least : ℤ
    pub greatest : ℤ
    pub low : Shows least
    pub high : Shows greatest
    pub is : n ≡ unsigned_abs (greatest -ℤ least)

  some_apart : (o : Option LocalExtremes) (n : ℕ) → option_map apart o ≡ Some n → (e : LocalExtremes) × (o ≡ Some e) × (n ≡ apart e)
  some_apart None n e = absurd cc
  some_apart (Some ends) n e = (ends, refl, sym (one (Some (apart ends)) (apart ends) n refl e))

  at_apart : (n : ℕ) → spread_at s hs t ≡ Some n → AreApart n
  at_apart n e =
      let h = some_apart (ends_at s hs t (length s.network.device)) n e in record {
        least = h.0.least;
        greatest = h.0.greatest;
        low = end_shows (length s.network.device) h.0 h.0.least h.1 (inl refl);
        high = end_shows (length s.network.device) h.0 h.0.greatest h.1 (inr refl);
        is = h.2;
      }

  pub by_apart : (body : NoteBody) (n : ℕ) → spread_by s hs t body ≡ Some n → AreApart n
  by_apart (notes.Corrected device cycle by adjustment) n e = at_apart n e
  by_apart body n e = absurd cc

-- ---- how far

abs_most : (d p : ℤ) → d ≤ℤ p → (pos 0 -ℤ d) ≤ℤ p → unsigned_abs d ≤ unsigned_abs p
abs_most d p up down = grind (arith, unsigned_abs, ints)

pub abs_close : (x y p : ℤ) → x ≤ℤ (y +ℤ p) → y ≤ℤ (x +ℤ p) → unsigned_abs (x -ℤ y) ≤ unsigned_abs p
abs_close x y p one other = abs_most (x -ℤ y) p (omega (arith, ints, one)) (omega (arith, ints, other))

-- ---- each stroke of a device's or a way's row is one of its cells

module _ (network : Network) (told : ToldSoFar) where
  -- the cells of such a row are those of its device or way
  abbrev pub MadeAs : Label → List Shade → Type 0
  MadeAs (labels.Lane device) cells =
      (d : Device) × (slice_get network.device device.0 ≡ Some d) × (cells ≡ cells_of told.grid told.news (labels.Lane device) (start_of d.start))
  MadeAs (labels.Passage link way) cells = cells ≡ cells_of told.grid told.news (labels.Passage link way) shades.Blank
  MadeAs label cells = Unit {0}

  abbrev pub AreMade : List Row → Type 0
  AreMade rs = (row : Row) → IsIn row rs → MadeAs row.label row.cells

  made_both : (rs ss : List Row) → AreMade rs → AreMade ss → AreMade (rs ++ ss)
  made_both rs ss first second row i = elim (in_parts row rs ss i) [ inl l ↦ first row l | inr r ↦ second row r ]

  made_none : AreMade []
  made_none row i = absurd i

  made_one : (r : Row) → MadeAs r.label r.cells → AreMade (r ∷ [])
  made_one r made row (inl is) = subst (λ (x : Row). MadeAs x.label x.cells) (sym is) made
  made_one r made row (inr none) = absurd none

  made_if : (b : Bool) (rs ss : List Row) → AreMade rs → AreMade ss → AreMade (if b then rs else ss)
  made_if true rs ss first second = first
  made_if false rs ss first second = second

  made_below : (rows_at : ℕ → List Row) (n : ℕ) → ((k : ℕ) → AreMade (rows_at k)) → AreMade (all_below rows_at n)
  made_below rows_at zero each = made_none
  made_below rows_at (suc n) each = made_both (all_below rows_at n) (rows_at n) (made_below rows_at n each) (each n)

  made_filled : (label : Label) → MadeAs label (cells_of told.grid told.news label shades.Blank) → AreMade (filled_row told label)
  made_filled label made =
      let cells = cells_of told.grid told.news label shades.Blank in
      made_if (is_any cells) (record { label = label; cells = cells } ∷ []) [] (made_one (record { label = label; cells = cells }) made) made_none

  made_title : (group : Group) → AreMade (title_row group)
  made_title group = made_one (record { label = labels.Title group; cells = [] }) tt

  made_lane : (k : ℕ) → AreMade (lane_at network told k)
  made_lane k = by (slice_get network.device k) refl
    where
      lane : Device → Row
      lane d = record { label = labels.Lane (record { 0 = k }); cells = cells_of told.grid told.news (labels.Lane (record { 0 = k })) (start_of d.start) }

      by : (o : Option Device) → slice_get network.device k ≡ o
          → AreMade (option_map_or (λ (d : Device). if is_turned told.news (record { 0 = k }) then lane d ∷ [] else []) o [])
      by None e = made_none
      by (Some d) e = made_if (is_turned told.news (record { 0 = k })) (lane d ∷ []) [] (made_one (lane d) (d, e, refl)) made_none

  made_others : (calm : Calm) → AreMade (others_row told calm)
  made_others calm = made_if (calm.synchronised == 0 && calm.off == 0) [] _ made_none (made_one _ tt)

  made_counts : (kinds : List Kind) → AreMade (count_rows told kinds)
  made_counts [] = made_none
  made_counts (kind ∷ kinds) =
      made_both (filled_row told (labels.Count kind)) (count_rows told kinds) (made_filled (labels.Count kind) tt) (made_counts kinds)

  made_passages : (k : ℕ) → AreMade (passages_at told k)
  made_passages k =
      made_both (filled_row told (labels.Passage (record { 0 = k }) ways.Up)) (filled_row told (labels.Passage (record { 0 = k }) ways.Down))
      (made_filled (labels.Passage (record { 0 = k }) ways.Up) refl) (made_filled (labels.Passage (record { 0 = k }) ways.Down) refl)

  made_upper : AreMade (upper_rows network told)
  made_upper =
      let events = filled_row told (labels.Count kinds.Event) in
      let states = title_row groups.States in
      let lanes = lane_rows network told in
      let cuts = title_row groups.Ways in
      let passages = passage_rows network told in
      let titles = title_row groups.Flows in
      let count = length network.device in
      made_both (events ++ states ++ lanes ++ cuts ++ passages) titles
      (made_both (events ++ states ++ lanes ++ cuts) passages
      (made_both (events ++ states ++ lanes) cuts
      (made_both (events ++ states) lanes
      (made_both events states (made_filled (labels.Count kinds.Event) tt) (made_title groups.States))
      (made_both (all_below (lane_at network told) count) (others_row told (calm_below network told.news count))
      (made_below (lane_at network told) count made_lane)
      (made_others (calm_below network told.news count))))
      (made_title groups.Ways))
      (made_below (passages_at told) (length network.link) made_passages))
      (made_title groups.Flows)

  made_more : (label : Label) (cells : List Shade) → MadeAs label cells → MadeAs (with_receiver label) cells
  made_more (labels.Flow vl device) cells made = tt
  made_more (labels.Flows vl count) cells made = tt
  made_more label cells made = made

  made_joined : (flow : Flow) (cells : List Shade) (rs : List Row) → AreMade rs → AreMade (joined flow cells rs)
  made_joined flow cells [] each = made_one (record { label = labels.Flow flow.vl flow.device; cells = cells }) tt
  made_joined flow cells (r ∷ rs) each =
      made_if (is_like flow.vl cells r) (raised r ∷ rs) (r ∷ joined flow cells rs) first (rest (made_joined flow cells rs (λ row i. each row (inr i))))
    where
      first : AreMade (raised r ∷ rs)
      first row (inl is) = subst (λ (x : Row). MadeAs x.label x.cells) (sym is) (made_more r.label r.cells (each r (inl refl)))
      first row (inr i) = each row (inr i)

      rest : AreMade (joined flow cells rs) → AreMade (r ∷ joined flow cells rs)
      rest more row (inl is) = each row (inl is)
      rest more row (inr i) = more row i

  made_flows : (missed : List Missed) (flows : List Flow) (rs : List Row) → AreMade rs → AreMade (with_flows told missed rs flows)
  made_flows missed [] rs each = each
  made_flows missed (f ∷ flows) rs each =
      let cells = flow_cells told.grid told.news told.last missed f.vl f.device in
      made_flows missed flows (joined f cells rs) (made_joined f cells rs each)

  pub rows_made : (missed : List Missed) (flows : List Flow) → AreMade (rows_of network told missed flows)
  rows_made missed flows =
      let upper = with_flows told missed (upper_rows network told) flows in
      made_both (upper ++ title_row groups.Losses) (count_rows told losses)
      (made_both upper (title_row groups.Losses) (made_flows missed flows (upper_rows network told) made_upper) (made_title groups.Losses))
      (made_counts losses)

lane_label : (label : Label) → is_lane label ≡ true
    → ((device : DeviceId) × (label ≡ labels.Lane device)) ⊎ ((synchronised : ℕ) × (off : ℕ) × (label ≡ labels.Others synchronised off))
lane_label (labels.Lane device) e = inl (device, refl)
lane_label (labels.Others synchronised off) e = inr (synchronised, off, refl)
lane_label label e = absurd (false≢true e)

passage_label : (label : Label) → is_passage label ≡ true → (link : LinkId) × (way : Way) × (label ≡ labels.Passage link way)
passage_label (labels.Passage link way) e = (link, way, refl)
passage_label label e = absurd (false≢true e)

module _ (network : Network) (s : Scenario) (hs : List Happening) (ns : List Note) (title : List ℕ) (missed : List Missed) (flows : List Flow) where
  abbrev news : List News
  news = news_in network s hs ns

  abbrev grid_here : Grid
  grid_here = grid_of (last_cycle news)

  some_columns : 1 ≤ grid_here.columns
  some_columns = omega arith

  -- a stroke of a row whose cells are these
  along : (ribbon : Ribbon) (line : List ℕ) (label : Label) (cell : ℕ → Shade) → line ≡ ribbon_line network ribbon
      → (of : IsOfRow grid_here (all network title news missed flows) (rows network title news missed flows) ribbon) → of.row.label ≡ label
      → length of.row.cells ≡ grid_here.columns → ((k : ℕ) → k < grid_here.columns → shade_at of.row.cells k ≡ cell k)
      → IsStrokeAlong network grid_here (lines network title news missed flows) label cell line
  along ribbon line label cell is of named size are =
      let own = strokes_are grid_here of.row.label of.y of.row.cells not_begun 0 of.row.cells (pieces.Stroke ribbon)
      (at_first grid_here of.row.label of.y of.row.cells size) of.stroke in
      let made : Ribbon =
      record { label = of.row.label; y = of.y; shade = own.shade; from = pen_at grid_here own.first; to = pen_at grid_here own.last } in
      let same : ribbon ≡ made = one_ribbon ribbon made own.is in
      subst (λ l. IsStrokeAlong network grid_here (lines network title news missed flows) l cell line) named (record {
        y = of.y;
        name = name_there network title news missed flows of.row of.y of.laid;
        first = own.first;
        last = own.last;
        shade = own.shade;
        is = is ∙ ap (ribbon_line network) same;
        some = own.some;
        seen = own.seen;
        each = λ column low high.
            let at = own.each column low high in
            elim (cases_lt column grid_here.columns) [
              | inl within ↦ sym (are column within) ∙ at
              | inr past ↦
                  let gone = slice_get_past of.row.cells column (omega (arith, size, past)) in
                  let blank : shade_at of.row.cells column ≡ shades.Blank = ap (λ (o : Option Shade). unwrap_or o shades.Blank) gone in
                  let none : is_blank own.shade ≡ true = ap is_blank (sym at ∙ blank) in
                  absurd (false≢true (sym own.seen ∙ none))
            ];
      })

  pub lane_true : (line rest : List ℕ) → IsIn line (lines network title news missed flows) → line ≡ codes "<path class=\"lane " ++ rest
      → ((device : DeviceId) × (d : Device) × (slice_get network.device device.0 ≡ Some d)
      × IsStrokeAlong network grid_here (lines network title news missed flows) (labels.Lane device) (device_cell network grid_here ns device (start_of d.start)) line)
      ⊎ ((ribbon : Ribbon) × (synchronised : ℕ) × (off : ℕ) × (ribbon.label ≡ labels.Others synchronised off) × (line ≡ ribbon_line network ribbon))
  lane_true line rest i e =
      let at = piece_of network title (all network title news missed flows) line i in
      let stroke = lane_of network title at.0 rest (sym at.2 ∙ e) in
      let ribbon = stroke.0 in
      let is : line ≡ ribbon_line network ribbon = at.2 ∙ ap (piece_line network title) stroke.1 in
      let of = picture_stroke grid_here (rows network title news missed flows) (bars_of grid_here news) (greatest_of news) (length news) ribbon
      (subst (λ p. IsIn p (all network title news missed flows)) stroke.1 at.1) in
      by ribbon is of (lane_label ribbon.label stroke.2)
    where
      by : (ribbon : Ribbon) → line ≡ ribbon_line network ribbon
          → IsOfRow grid_here (all network title news missed flows) (rows network title news missed flows) ribbon
          → ((device : DeviceId) × (ribbon.label ≡ labels.Lane device))
          ⊎ ((synchronised : ℕ) × (off : ℕ) × (ribbon.label ≡ labels.Others synchronised off))
          → ((device : DeviceId) × (d : Device) × (slice_get network.device device.0 ≡ Some d)
          × IsStrokeAlong network grid_here (lines network title news missed flows) (labels.Lane device) (device_cell network grid_here ns device (start_of d.start)) line)
          ⊎ ((ribbon : Ribbon) × (synchronised : ℕ) × (off : ℕ) × (ribbon.label ≡ labels.Others synchronised off) × (line ≡ ribbon_line network ribbon))
      by ribbon is of (inr (synchronised, off, named)) = inr (ribbon, synchronised, off, named, is)
      by ribbon is of (inl (device, named)) =
          let own : of.row.label ≡ labels.Lane device =
          sym (stroke_label grid_here of.row.label of.y not_begun 0 of.row.cells ribbon of.stroke) ∙ named in
          let made = subst (λ (l : Label). MadeAs network (told_of news) l of.row.cells) own
          (rows_made network (told_of news) missed flows of.row of.there) in
          let d = made.0 in
          inl (
            device,
            d,
            made.1,
            along ribbon line (labels.Lane device) (device_cell network grid_here ns device (start_of d.start)) is of own
                (ap length made.2 ∙ lane_size network s hs ns grid_here some_columns device (start_of d.start))
                (λ k within. ap (λ cs. shade_at cs k) made.2 ∙ lane_is network s hs ns grid_here some_columns device (start_of d.start) k within),
          )

  pub passage_true : (line rest : List ℕ) → IsIn line (lines network title news missed flows) → line ≡ codes "<path class=\"passage " ++ rest
      → (link : LinkId) × (way : Way)
      × IsStrokeAlong network grid_here (lines network title news missed flows) (labels.Passage link way) (way_cell network grid_here ns link way) line
  passage_true line rest i e =
      let at = piece_of network title (all network title news missed flows) line i in
      let stroke = passage_of network title at.0 rest (sym at.2 ∙ e) in
      let ribbon = stroke.0 in
      let is : line ≡ ribbon_line network ribbon = at.2 ∙ ap (piece_line network title) stroke.1 in
      let of = picture_stroke grid_here (rows network title news missed flows) (bars_of grid_here news) (greatest_of news) (length news) ribbon
      (subst (λ p. IsIn p (all network title news missed flows)) stroke.1 at.1) in
      let named = passage_label ribbon.label stroke.2 in
      let own : of.row.label ≡ labels.Passage named.0 named.1 =
      sym (stroke_label grid_here of.row.label of.y not_begun 0 of.row.cells ribbon of.stroke) ∙ named.2 in
      let made = subst (λ (l : Label). MadeAs network (told_of news) l of.row.cells) own (rows_made network (told_of news) missed flows of.row of.there) in (
        named.0,
        named.1,
        along ribbon line (labels.Passage named.0 named.1) (way_cell network grid_here ns named.0 named.1) is of own
            (ap length made ∙ passage_size network s hs ns grid_here some_columns named.0 named.1)
            (λ k within. ap (λ cs. shade_at cs k) made ∙ passage_is network s hs ns grid_here some_columns named.0 named.1 k within),
      )

-- ---- nothing that is owed is missing

module _ (network : Network) (octets : List ℕ) (ns : List Note) (end : Units) where
  none_missed : {m : Missed} → KeepsRules network → IsReportOf network octets ns end
      → IsMissed (scenario_under network (events_of ns)) (happenings network ns) (amount end) m → ⊥
  none_missed {m} rules r missed =
      let d = (report_well rules r).safe.delivery m.vl missed.of_vl m.cycle m.device missed.owed in
      missed.none d.delivery d.link d.cause d.there d.is

  -- so these are all
  pub missed_none : KeepsRules network → IsReportOf network octets ns end
      → AreMissed (scenario_under network (events_of ns)) (happenings network ns) (amount end) []
  missed_none rules r m = (λ there. absurd there, λ missed. absurd (none_missed rules r missed))

  -- and no others
  pub none_are : (missed : List Missed) → KeepsRules network → IsReportOf network octets ns end
      → AreMissed (scenario_under network (events_of ns)) (happenings network ns) (amount end) missed → missed ≡ []
  none_are [] rules r are = refl
  none_are (m ∷ missed) rules r are = absurd (none_missed rules r ((are m).0 (inl refl)))

-- ---- the laws of the picture of a report

-- the lines of an answer
answer_lines : (words : List (List ℕ)) (network : Network) (ns : List Note) (end : Units) (a : Answer) → (answer : IsOverviewAnswer words network ns end a)
    → a.lines ≡ lines network (title_of words) (news_by network ns ns) answer.missed answer.flows
answer_lines words network ns end a answer = ap (λ (x : Answer). x.lines) answer.is

-- a piece of the picture has its line
line_there : (words : List (List ℕ)) (network : Network) (ns : List Note) (end : Units) (a : Answer) → (answer : IsOverviewAnswer words network ns end a)
    → (piece : Piece) → IsIn piece (pieces_of network (news_by network ns ns) answer.missed answer.flows)
    → IsIn (piece_line network (title_of words) piece) a.lines
line_there words network ns end a answer piece i =
    subst (λ ls. IsIn (piece_line network (title_of words) piece) ls) (sym (answer_lines words network ns end a answer))
    (line_in network (title_of words) (pieces_of network (news_by network ns ns) answer.missed answer.flows) piece i)

pub head_is_drawn : HeadIsDrawn
head_is_drawn words network ns end a answer =
    let there = line_there words network ns end a answer in
    let records = length (news_by network ns ns) in
    let long = told_long network (scenario_under network (events_of ns)) (happenings network ns) ns [] in
    let many : records ≡ length ns = omega (arith, long) in
    record {
      title = there pieces.Title (inr (inl refl));
      heading = there pieces.Heading (inr (inr (inr (inr (inl refl)))));
      extent =
          subst (λ n. IsIn (extent_line n (amount network.precision)) a.lines) many
          (there (pieces.Extent records) (inr (inr (inr (inr (inr (inl refl)))))));
    }

pub none_is_red : NoneIsRed
none_is_red words network octets ns end a rules r answer line rest i e =
    let none = none_are network octets ns end answer.missed rules r answer.each in
    let same = answer_lines words network ns end a answer
    ∙ ap (λ (missed : List Missed). lines network (title_of words) (news_by network ns ns) missed answer.flows) none in
    none_red network (title_of words) (news_by network ns ns) answer.flows line rest (subst (λ ls. IsIn line ls) same i) e

pub flows_are_drawn : FlowsAreDrawn
flows_are_drawn words network ns end a answer flow is =
    subst (λ ls. HasRow network (grid_for network ns) ls flow (cells_for network ns answer.missed flow))
    (sym (answer_lines words network ns end a answer))
    (flow_row network (title_of words) (news_by network ns ns) answer.missed answer.flows flow (answer.are.all flow is))

pub strokes_are_of_flows : StrokesAreOfFlows
strokes_are_of_flows words network ns end a answer line rest i e =
    let same = answer_lines words network ns end a answer in
    let h = line_drawn network (title_of words) (news_by network ns ns) answer.missed answer.flows line rest (subst (λ ls. IsIn line ls) same i) e in
    let drawn = h.3 in (
      drawn.flow,
      answer.are.each drawn.flow drawn.among,
      subst (λ ls. IsStrokeOf network (grid_for network ns) ls drawn.flow (cells_for network ns answer.missed drawn.flow) line)
          (sym same) drawn.stroke,
    )

-- a record delivers a frame of the column
abbrev IsCome : Network → List Note → Flow → ℕ → Type 0
IsCome network ns flow column = (cycle : ℕ) × (column_of (grid_for network ns) cycle ≡ column) × IsDeliveredIn network ns flow cycle

-- the cell is filled
abbrev IsFilled : Network → List Note → List Missed → Flow → ℕ → Type 0
IsFilled network ns missed flow column = is_blank (shade_at (cells_for network ns missed flow) column) ≡ false

filled_come : (network : Network) (ns : List Note) (flow : Flow) (column : ℕ) → IsFilled network ns [] flow column → IsCome network ns flow column
filled_come network ns flow column seen =
    let h = cell_brought (news_by network ns ns) flow.vl flow.device column seen in
    let d = h.2 in
    (h.0, h.1, brought_delivered network (scenario_under network (events_of ns)) (happenings network ns) ns flow h.0 d.0 d.1 d.2)

come_filled : (network : Network) (ns : List Note) (flow : Flow) (column : ℕ) → IsCome network ns flow column → IsFilled network ns [] flow column
come_filled network ns flow column come =
    let h = delivered_brought network (scenario_under network (events_of ns)) (happenings network ns) ns flow come.0 come.2 in
    let seen = (brought_cell (news_by network ns ns) flow.vl flow.device come.0 h.0 h.1 h.2).1 in
    subst (λ k. IsFilled network ns [] flow k) come.1 seen

pub cells_are_delivered : CellsAreDelivered
cells_are_delivered words network octets ns end a rules r answer flow column =
    let none = none_are network octets ns end answer.missed rules r answer.each in (
      λ seen. filled_come network ns flow column (subst (λ m. IsFilled network ns m flow column) none seen),
      λ come. subst (λ m. IsFilled network ns m flow column) (sym none) (come_filled network ns flow column come),
    )

-- ---- bars

-- no correction of a report finds clocks further apart than the precision
spread_close : (network : Network) (octets : List ℕ) (ns : List Note) (end : Units) (note : Note) (n : ℕ) → KeepsRules network
    → IsReportOf network octets ns end → IsIn note ns → spread_of network ns note ≡ Some n → n ≤ amount network.precision
spread_close network octets ns end note n rules r i e =
    let s = scenario_under network (events_of ns) in
    let hs = happenings network ns in
    let far = by_apart s hs (moment note) note.body n e in
    let at = split_at note ns i in
    let soon = none_later network octets ns end r at.0 at.1 note at.2 in
    let close = (report_well rules r).safe.precision.after (moment note) far.high.device far.low.device soon
    far.high.in_step
    far.low.in_step in
    let one = close.one in
    let other = close.other in
    let top = far.high.shows in
    let bottom = far.low.shows in
    let most = abs_close far.greatest far.least network.precision.0 (omega (arith, ints, one, top, bottom)) (omega (arith, ints, other, top, bottom)) in
    omega (arith, most, far.is)

-- what the records tell of a spread
spread_told : (network : Network) (ns : List Note) (column spread : ℕ)
    → IsGreatest (grid_for network ns) column None (news_by network ns ns) spread → IsGreatestIn network ns column spread
spread_told network ns column spread greatest = by greatest.is
  where
    from_news : (news : News) → IsIn news (news_by network ns ns) → column_of (grid_for network ns) news.cycle ≡ column → news.spread ≡ Some spread
        → IsIn news [] ⊎ IsTold network (scenario_under network (events_of ns)) (happenings network ns) ns news → IsGreatestIn network ns column spread
    from_news news i own is (inl none) = absurd none
    from_news news i own is (inr told) = record {
      note = told.note;
      there = told.there;
      among = sym (ap (λ (n : News). column_of (grid_for network ns) n.cycle) told.is) ∙ own;
      is = sym (ap (λ (n : News). n.spread) told.is) ∙ is;
      greatest = λ other n j at e.
          let h = note_told network (scenario_under network (events_of ns)) (happenings network ns) ns [] other j in
          greatest.each (news_of network (scenario_under network (events_of ns)) (happenings network ns) h.0 other) n h.1 at e;
    }

    by : (None ≡ Some spread) ⊎ ((news : News) × IsIn news (news_by network ns ns) × (column_of (grid_for network ns) news.cycle ≡ column) × (news.spread ≡ Some spread))
        → IsGreatestIn network ns column spread
    by (inl none) = absurd cc
    by (inr h) =
        from_news h.0 h.1 h.2 h.3 (told_note network (scenario_under network (events_of ns)) (happenings network ns) ns [] h.0 h.1)

bar_true : (title : List ℕ) (network : Network) (octets : List ℕ) (ns : List Note) (end : Units) (line : List ℕ) → KeepsRules network → IsReportOf network octets ns end
    → (pen : GridPen) (width height spread : ℕ) → line ≡ piece_line network title (pieces.Bar pen width height spread)
    → IsBarOf (grid_for network ns) (bars_of (grid_for network ns) (news_by network ns ns)) 0 (pieces.Bar pen width height spread)
    → IsTrueBar network ns line
bar_true title network octets ns end line rules r pen width height spread is bar =
    let grid = grid_for network ns in
    let greatest = spread_told network ns bar.column bar.spread (bar_greatest grid bar.column (news_by network ns ns) bar.spread bar.of) in
    let place : 0 + bar.column ≡ bar.column = omega arith in
    record {
      column = bar.column;
      height = bar.height;
      spread = bar.spread;
      is =
          is ∙ ap (piece_line network title) bar.is
          ∙ ap (λ k. piece_line network title (pieces.Bar (pen_at (grid_for network ns) k) ((grid_for network ns).pitch - 1) bar.height bar.spread)) place;
      low = bar.low;
      greatest = greatest;
      close = spread_close network octets ns end greatest.note bar.spread rules r greatest.there greatest.is;
    }

pub bars_are_true : BarsAreTrue
bars_are_true words network octets ns end a rules r answer line rest i e =
    let same = answer_lines words network ns end a answer in
    let news = news_by network ns ns in
    let grid = grid_for network ns in
    let all = pieces_of network news answer.missed answer.flows in
    let at = piece_of network (title_of words) all line (subst (λ ls. IsIn line ls) same i) in
    let bar = bar_of network (title_of words) at.0 rest (sym at.2 ∙ e) in
    let there : IsIn (pieces.Bar bar.0 bar.1 bar.2 bar.3) all = subst (λ p. IsIn p all) bar.4 at.1 in
    bar_true (title_of words) network octets ns end line rules r bar.0 bar.1 bar.2 bar.3 (at.2 ∙ ap (piece_line network (title_of words)) bar.4)
    (picture_bar bar.0 bar.1 bar.2 bar.3 grid (rows_of network (told_of news) answer.missed answer.flows) (bars_of grid news) (greatest_of news) (length news) there)

-- ---- devices and ways

pub devices_are_drawn : DevicesAreDrawn
devices_are_drawn words network ns end a answer device d note at i turn =
    subst (λ ls. HasCells network (grid_for network ns) ls (labels.Lane device)
    (device_cell network (grid_for network ns) ns device (start_of d.start))) (sym (answer_lines words network ns end a answer))
    (lane_drawn network (scenario_under network (events_of ns)) (happenings network ns) ns (title_of words) answer.missed answer.flows device d note at i turn)

pub ways_are_drawn : WaysAreDrawn
ways_are_drawn words network ns end a answer link way column there within seen =
    subst (λ ls. HasCells network (grid_for network ns) ls (labels.Passage link way)
    (way_cell network (grid_for network ns) ns link way)) (sym (answer_lines words network ns end a answer))
    (passage_drawn network (scenario_under network (events_of ns)) (happenings network ns) ns (title_of words) answer.missed answer.flows link way column there within seen)

pub device_strokes_are_true : DeviceStrokesAreTrue
device_strokes_are_true words network ns end a answer line rest i e =
    let same = answer_lines words network ns end a answer in
    subst (λ ls. ((device : DeviceId) × (d : Device) × (slice_get network.device device.0 ≡ Some d)
    × IsStrokeAlong network (grid_for network ns) ls (labels.Lane device) (device_cell network (grid_for network ns) ns device (start_of d.start)) line)
    ⊎ ((ribbon : Ribbon) × (synchronised : ℕ) × (off : ℕ) × (ribbon.label ≡ labels.Others synchronised off) × (line ≡ ribbon_line network ribbon)))
    (sym same) (lane_true network (scenario_under network (events_of ns)) (happenings network ns) ns (title_of words) answer.missed answer.flows line rest
    (subst (λ ls. IsIn line ls) same i) e)

pub way_strokes_are_true : WayStrokesAreTrue
way_strokes_are_true words network ns end a answer line rest i e =
    let same = answer_lines words network ns end a answer in
    let h = passage_true network (scenario_under network (events_of ns)) (happenings network ns) ns (title_of words) answer.missed answer.flows line rest
    (subst (λ ls. IsIn line ls) same i) e in (
      h.0,
      h.1,
      subst (λ ls. IsStrokeAlong network (grid_for network ns) ls (labels.Passage h.0 h.1)
          (way_cell network (grid_for network ns) ns h.0 h.1) line) (sym same) h.2,
    )

-- The rows and lines of a picture, for devices, ways and flows.
use Rattle.std.proofs.{Math.{ListN.get_or-append, Seq.{drop-cons, set-append_seam}}}
use Rattle.std.proofs.Common
use Common.{if◌then◌else◌, ◌++◌, ◌+◌, ◌-◌, ◌<◌, ◌∙◌, ◌∷◌, ◌≡◌, ◌≤◌, Bool, List, None, Option, Some, [], ap, arith, drop}
use Common.{false, fold, get_or, inl, inr, length, length-append, length-take, map, refl, replicate, set, subst, suc}
use Common.{sym, take, true, zero, ℕ}
use Rattle.std.proofs.lemmas.{Bool.{Decides.nat_tests, cases_lt, false≢true}}
use Rattle.std.proofs.lemmas.{Option.{slice_get_within, unwrap_or-slice_get}}
use Rattle.std.proofs.lemmas.List.{Sums.fold-append, get_or-append-add, get_or-replicate, get_or-take, length-replicate}
use Rattle.std.proofs.lemmas.List.{length-take-le, take-append-drop, take_more}
use Rattle.std.specs.{List.list_any, Option.option_map_or}
use Rattle.std.specs.{Prelude.{◌&&◌, ◌==◌, ◌||◌, codes, nat_le, nat_lt, not, slice_get, unwrap_or}}
use Rattle.lens_flows.specs.declared.judge.flow.Flow.{Flow}
use Rattle.lens_overview.proofs.{LawFlows.{flow_has, long_flow, row_is}}
use Rattle.lens_overview.proofs.{LawStrokes.{IsStruck, all_struck, at_first, stroke_label, strokes_are}}
use Rattle.lens_overview.proofs.{LawTexts.{flow_stroke, is_flow, missing_flow, missing_of, stroke_of}}
use Rattle.lens_overview.proofs.LawRows
use LawRows.{IsLaid, at_place, none_missing, note_told, picture_laid, picture_stroke, told_from}
use Rattle.lens_overview.specs.{Bars.{bars_of, greatest_of}, Grids.{column_of, grid_of, pen_at, right_of}}
use Rattle.lens_overview.specs.{Labels.is_of_vl, LawParts.{HasRow, HasStroke, IsStrokeOf}}
use Rattle.lens_overview.specs.{LawStates.{HasCells, IsTurn, device_after, device_cell, way_after, way_cell}}
use Rattle.lens_overview.specs.{Lines.{name_line, piece_line, ribbon_line}}
use Rattle.lens_overview.specs.{News.{change_at, change_of, cycle_of, last_cycle, news_in, news_of, repeats_by, struck}}
use Rattle.lens_overview.specs.{Pieces.{not_begun, pieces_of, strokes_from, told_of}, Ranges.all_below, Shades.is_blank}
use Rattle.lens_overview.specs.Cells
use Cells.{Missed, cells_of, cut, filled_from, flow_cells, is_alike, is_any, is_same_way, shade_at, taken, turned}
use Rattle.lens_overview.specs.Rows
use Rows.{Row, ToldSoFar, calm_below, count_rows, filled_row, is_like, is_turn, is_turned, joined, lane_at, lane_rows}
use Rows.{losses, others_row, passage_rows, passages_at, raised, rows_of, start_of, title_row, upper_rows, with_flows}
use Rattle.lens_overview.specs.declared.{grid.Grid.Grid, label.Label.Label, news.{Change.Change, News.News}}
use Rattle.lens_overview.specs.declared.{pieces.{Piece.Piece, Ribbon.Ribbon}, shade.Shade.Shade}
use Rattle.net_plan.specs.declared.{event.What.What, ids.{DeviceId.DeviceId, LinkId.LinkId, VlId.VlId}}
use Rattle.net_plan.specs.declared.{network.Network.Network, tables.{Device.Device, Way.Way}}
use Rattle.run_law.{proofs.runs.Places.{in_left, in_right}}
use Rattle.run_law.specs.{declared.note.{Note.Note, NoteBody.NoteBody}, records.{Happenings.Happening, Order.IsIn}}
use Rattle.run_law.specs.{scenario.Scenarios.Scenario}
use Rattle.lens_overview.specs.declared.label.Group.TheVariants as groups
use Rattle.lens_overview.specs.declared.label.Kind.TheVariants as kinds
use Rattle.lens_overview.specs.declared.label.Label.TheVariants as labels
use Rattle.lens_overview.specs.declared.news.Change.TheVariants as changes
use Rattle.lens_overview.specs.declared.pieces.Piece.TheVariants as pieces
use Rattle.lens_overview.specs.declared.shade.Shade.TheVariants as shades
use Rattle.net_plan.specs.declared.event.What.TheVariants as events
use Rattle.net_plan.specs.declared.tables.Way.TheVariants as ways
use Rattle.run_law.specs.declared.judgement.Reason.TheVariants as reasons
use Rattle.run_law.specs.declared.note.NoteBody.TheVariants as notes

-- ---- what the lines of a picture show of flows

module _ (network : Network) (title : List ℕ) where
  pub line_in : (all : List Piece) (piece : Piece) → IsIn piece all
      → IsIn (piece_line network title piece) (map (piece_line network title) all)
  line_in [] piece i = absurd i
  line_in (p ∷ all) piece (inl is) = inl (ap (piece_line network title) is)
  line_in (p ∷ all) piece (inr i) = inr (line_in all piece i)

  pub piece_of : (all : List Piece) (line : List ℕ) → IsIn line (map (piece_line network title) all)
      → (piece : Piece) × IsIn piece all × (line ≡ piece_line network title piece)
  piece_of [] line i = absurd i
  piece_of (p ∷ all) line (inl is) = (p, inl refl, is)
  piece_of (p ∷ all) line (inr i) = let h = piece_of all line i in (h.0, inr h.1, h.2)

ribbon_in : Ribbon → Piece → Ribbon
ribbon_in d (pieces.Stroke ribbon) = ribbon
ribbon_in d piece = d

pub one_ribbon : (a b : Ribbon) → pieces.Stroke a ≡ pieces.Stroke b → a ≡ b
unfolding ribbon_in
one_ribbon a b e = ap (ribbon_in a) e

module _ (network : Network) (title : List ℕ) (news : List News) (missed : List Missed) (flows : List Flow) where
  abbrev pub grid : Grid
  grid = grid_of (last_cycle news)

  abbrev pub all : List Piece
  all = pieces_of network news missed flows

  abbrev pub lines : List (List ℕ)
  lines = map (piece_line network title) all

  abbrev pub rows : List Row
  rows = rows_of network (told_of news) missed flows

  abbrev pub cells : Flow → List Shade
  cells flow = flow_cells grid news (last_cycle news) missed flow.vl flow.device

  pub name_there : (row : Row) (y : ℕ) → IsLaid grid all row y → IsIn (name_line network row.label y (right_of grid)) lines
  name_there row y laid = line_in network title all (pieces.Name row.label y (right_of grid)) (laid.all (pieces.Name row.label y (right_of grid)) (inl refl))

  -- each flow has its row
  pub flow_row : (flow : Flow) → IsIn flow flows → HasRow network grid lines flow (cells flow)
  flow_row flow i =
      let has = flow_has network (told_of news) missed flows flow i in
      let row = has.row in
      let laid = picture_laid grid rows (bars_of grid news) (greatest_of news) (length news) row has.there in
      let size : length row.cells ≡ grid.columns = ap length has.cells ∙ long_flow network (told_of news) missed flow in
      record {
        label = row.label;
        of_flow = has.of_flow;
        y = laid.0;
        name = name_there row laid.0 laid.1;
        each = λ column within seen.
            let own : is_blank (shade_at row.cells column) ≡ false = ap (λ cs. is_blank (shade_at cs column)) has.cells ∙ seen in
            let struck = all_struck grid row.label laid.0 row.cells not_begun 0 row.cells column (at_first grid row.label laid.0 row.cells size)
            (omega arith) within own in
            drawn row laid.0 laid.1 column (shade_at (cells flow) column)
            (ap (λ cs. shade_at cs column) has.cells) struck;
      }
    where
      drawn : (row : Row) (y : ℕ) → IsLaid grid all row y → (column : ℕ) (shade : Shade) → shade_at row.cells column ≡ shade
          → IsStruck grid row.label y row.cells (strokes_from grid row.label y not_begun 0 row.cells) column
          → HasStroke network grid lines row.label y column shade
      drawn row y laid column shade same struck =
          let stroke : Shade → Ribbon = λ s. record { label = row.label; y = y; shade = s; from = pen_at grid struck.first; to = pen_at grid struck.last } in
          let there = line_in network title all (pieces.Stroke (stroke (shade_at row.cells column)))
          (laid.all (pieces.Stroke (stroke (shade_at row.cells column))) (inr struck.there)) in
          record {
            first = struck.first;
            last = struck.last;
            begins = struck.begins;
            ends = struck.ends;
            line = subst (λ (s : Shade). IsIn (ribbon_line network (stroke s)) lines) same there;
          }

  -- a stroke of frames, and its flow
  pub record IsDrawn (line : List ℕ) (ribbon : Ribbon) : Type 0 where
    pub flow : Flow
    pub among : IsIn flow flows
    pub stroke : IsStrokeOf network grid lines flow (cells flow) line
    pub shade : stroke.shade ≡ ribbon.shade

  -- each stroke of frames is one of a flow
  pub stroke_drawn : (ribbon : Ribbon) (line : List ℕ) → IsIn (pieces.Stroke ribbon) all → is_flow ribbon.label ≡ true
      → line ≡ ribbon_line network ribbon → IsDrawn line ribbon
  stroke_drawn ribbon line i frames is =
      let of = picture_stroke grid rows (bars_of grid news) (greatest_of news) (length news) ribbon i in
      let label = stroke_label grid of.row.label of.y not_begun 0 of.row.cells ribbon of.stroke in
      let some = row_is network (told_of news) missed flows of.row of.there (ap is_flow (sym label) ∙ frames) in
      let size : length of.row.cells ≡ grid.columns = ap length some.cells ∙ long_flow network (told_of news) missed some.flow in
      let own = strokes_are grid of.row.label of.y of.row.cells not_begun 0 of.row.cells (pieces.Stroke ribbon)
      (at_first grid of.row.label of.y of.row.cells size) of.stroke in
      let made : Ribbon =
      record { label = of.row.label; y = of.y; shade = own.shade; from = pen_at grid own.first; to = pen_at grid own.last } in
      let same : ribbon ≡ made = one_ribbon ribbon made own.is in
      record {
        flow = some.flow;
        among = some.among;
        stroke = record {
          label = of.row.label;
          of_flow = some.of_flow;
          y = of.y;
          name = name_there of.row of.y of.laid;
          first = own.first;
          last = own.last;
          shade = own.shade;
          is = is ∙ ap (ribbon_line network) same;
          some = own.some;
          seen = own.seen;
          each = λ column low high. ap (λ cs. shade_at cs column) (sym some.cells) ∙ own.each column low high;
        };
        shade = sym (ap (λ (r : Ribbon). r.shade) same);
      }

  -- so is each line that begins as such a stroke's
  pub line_drawn : (line rest : List ℕ) → IsIn line lines → line ≡ flow_stroke ++ rest
      → (ribbon : Ribbon) × (is_flow ribbon.label ≡ true) × (line ≡ ribbon_line network ribbon) × IsDrawn line ribbon
  line_drawn line rest i e =
      let at = piece_of network title all line i in
      let stroke = stroke_of network title at.0 rest (sym at.2 ∙ e) in
      let is : line ≡ ribbon_line network stroke.0 = at.2 ∙ ap (piece_line network title) stroke.1 in (
        stroke.0,
        stroke.2,
        is,
        stroke_drawn stroke.0 line (subst (λ p. IsIn p all) stroke.1 at.1) stroke.2 is,
      )

-- no line says that a frame is missing, where none is
pub none_red : (network : Network) (title : List ℕ) (news : List News) (flows : List Flow) (line rest : List ℕ) → IsIn line (lines network title news [] flows)
    → line ≡ codes "<path class=\"flow missing" ++ rest → ⊥
none_red network title news flows line rest i e =
    let h = line_drawn network title news [] flows line (codes "missing" ++ rest) i (e ∙ missing_flow rest) in
    let red = missing_of network h.0 rest h.1 (sym h.2 ∙ e) in
    let drawn = h.3 in
    let stroke = drawn.stroke in
    none_missing news drawn.flow.vl drawn.flow.device stroke.first
    (stroke.each stroke.first (omega arith) stroke.some ∙ drawn.shade ∙ red)

-- ---- the rows of devices and ways: cells that are filled from one on

module _ (cells : List Shade) (from : ℕ) (shade : Shade) where
  full : length (filled_from cells from shade) ≡ length cells
  full =
      let both = length-append (take from cells) (replicate (length cells - from) shade) in
      let front = length-take from cells in
      let rest = length-replicate (length cells - from) shade in
      omega (arith, both, front, rest)

  full_at : (k : ℕ) → k < length cells → shade_at (filled_from cells from shade) k ≡ (if nat_le from k then shade else shade_at cells k)
  full_at k within = elim (cases_lt k from) [
    | inl less ↦
        let test : nat_le from k ≡ false = grind (arith, nat_tests, less) in
        let front = length-take from cells in
        unwrap_or-slice_get (filled_from cells from shade) k shades.Blank
        ∙ get_or-append (take from cells) (replicate (length cells - from) shade) shades.Blank k (omega (arith, front, less, within))
        ∙ get_or-take from cells k shades.Blank less
        ∙ sym (unwrap_or-slice_get cells k shades.Blank)
        ∙ sym (ap (λ (b : Bool). if b then shade else shade_at cells k) test)
    | inr more ↦
        let test : nat_le from k ≡ true = grind (arith, nat_tests, more) in
        let front = length-take-le from cells (omega (arith, more, within)) in
        let place : k ≡ length (take from cells) + (k - from) = omega (arith, front, more) in
        unwrap_or-slice_get (filled_from cells from shade) k shades.Blank
        ∙ ap (λ (n : ℕ). get_or (filled_from cells from shade) n shades.Blank) place
        ∙ get_or-append-add (take from cells) (replicate (length cells - from) shade) (k - from) shades.Blank
        ∙ get_or-replicate (length cells - from) (k - from) shade shades.Blank (omega (arith, more, within))
        ∙ sym (ap (λ (b : Bool). if b then shade else shade_at cells k) test)
  ]

-- ---- what a record makes of a cell

-- of a device
abbrev turn_by : DeviceId → Change → Shade → Shade
turn_by device (changes.Turns other new) shade = if other.0 == device.0 then new else shade
turn_by device change shade = shade

turned_long : (device : DeviceId) (column : ℕ) (change : Change) (cells : List Shade) → length (turned device column change cells) ≡ length cells
turned_long device column (changes.Turns other new) cells = by (other.0 == device.0)
  where
    by : (b : Bool) → length (if b then filled_from cells column new else cells) ≡ length cells
    by true = full cells column new
    by false = refl
turned_long device column change cells = refl

turned_at : (device : DeviceId) (column : ℕ) (change : Change) (cells : List Shade) (k : ℕ) → k < length cells
    → shade_at (turned device column change cells) k ≡ (if nat_le column k then turn_by device change (shade_at cells k) else shade_at cells k)
turned_at device column (changes.Turns other new) cells k within = by (other.0 == device.0)
  where
    same : (b : Bool) (x : Shade) → x ≡ (if b then x else x)
    same true x = refl
    same false x = refl

    by : (b : Bool) → shade_at (if b then filled_from cells column new else cells) k
        ≡ (if nat_le column k then if b then new else shade_at cells k else shade_at cells k)
    by true = full_at cells column new k within
    by false = same (nat_le column k) (shade_at cells k)
turned_at device column change cells k within = same (nat_le column k) (shade_at cells k)
  where
    same : (b : Bool) (x : Shade) → x ≡ (if b then x else x)
    same true x = refl
    same false x = refl

-- of a way
abbrev cut_by : LinkId → Way → ℕ → ℕ → Change → Shade → Shade
cut_by link way at k (changes.Cuts other of) shade = if nat_le at k then if is_same_way link way other of then shades.Cut else shade else shade
cut_by link way at k (changes.Heals other of) shade = if nat_lt at k then if is_same_way link way other of then shades.Blank else shade else shade
cut_by link way at k change shade = shade

cut_if : (b : Bool) (cells : List Shade) (from : ℕ) (shade : Shade) → length (if b then filled_from cells from shade else cells) ≡ length cells
cut_if true cells from shade = full cells from shade
cut_if false cells from shade = refl

cut_long : (link : LinkId) (way : Way) (column : ℕ) (change : Change) (cells : List Shade) → length (cut link way column change cells) ≡ length cells
cut_long link way column (changes.Cuts other of) cells = cut_if (is_same_way link way other of) cells column shades.Cut
cut_long link way column (changes.Heals other of) cells = cut_if (is_same_way link way other of) cells (column + 1) shades.Blank
cut_long link way column change cells = refl

part_at : (b : Bool) (cells : List Shade) (from : ℕ) (shade : Shade) (k : ℕ) → k < length cells
    → shade_at (if b then filled_from cells from shade else cells) k ≡ (if nat_le from k then if b then shade else shade_at cells k else shade_at cells k)
part_at true cells from shade k within = full_at cells from shade k within
part_at false cells from shade k within = same (nat_le from k) (shade_at cells k)
  where
    same : (b : Bool) (x : Shade) → x ≡ (if b then x else x)
    same true x = refl
    same false x = refl

behind : (at k : ℕ) → nat_le (at + 1) k ≡ nat_lt at k
behind at k = elim (cases_lt at k) [
  | inl less ↦
      let a : nat_le (at + 1) k ≡ true = grind (arith, nat_tests, less) in
      let b : nat_lt at k ≡ true = grind (arith, nat_tests, less) in
      a ∙ sym b
  | inr more ↦
      let a : nat_le (at + 1) k ≡ false = grind (arith, nat_tests, more) in
      let b : nat_lt at k ≡ false = grind (arith, nat_tests, more) in
      a ∙ sym b
]

cut_at : (link : LinkId) (way : Way) (column : ℕ) (change : Change) (cells : List Shade) (k : ℕ) → k < length cells
    → shade_at (cut link way column change cells) k ≡ cut_by link way column k change (shade_at cells k)
cut_at link way column (changes.Cuts other of) cells k within = part_at (is_same_way link way other of) cells column shades.Cut k within
cut_at link way column (changes.Heals other of) cells k within =
    part_at (is_same_way link way other of) cells (column + 1) shades.Blank k within
    ∙ ap (λ (b : Bool). if b then if is_same_way link way other of then shades.Blank else shade_at cells k else shade_at cells k) (behind column k)
cut_at link way column change cells k within = refl

-- ---- what its change is

module _ (network : Network) where
  no_turn : (d : DeviceId) (link : LinkId) (o : Option Change) (device : DeviceId) (shade : Shade)
      → turn_by device (repeats_by network d link o) shade ≡ shade
  no_turn d link None device shade = refl
  no_turn d link (Some (changes.Sends vl cycle)) device shade = refl
  no_turn d link (Some change) device shade = refl

  turn_told : (before : List News) (device : DeviceId) (body : NoteBody) (shade : Shade)
      → turn_by device (change_of network before body) shade ≡ device_after device body shade
  turn_told before device (notes.Event line (events.Break other)) shade = refl
  turn_told before device (notes.Event line what) shade = refl
  turn_told before device (notes.Dropped d link cause reasons.Repeat) shade =
      no_turn d link (change_at before cause) device shade
  turn_told before device body shade = refl

  no_cut : (d : DeviceId) (l : LinkId) (o : Option Change) (link : LinkId) (way : Way) (at k : ℕ) (shade : Shade)
      → cut_by link way at k (repeats_by network d l o) shade ≡ shade
  no_cut d l None link way at k shade = refl
  no_cut d l (Some (changes.Sends vl cycle)) link way at k shade = refl
  no_cut d l (Some change) link way at k shade = refl

  cut_told : (before : List News) (link : LinkId) (way : Way) (at k : ℕ) (body : NoteBody) (shade : Shade)
      → cut_by link way at k (change_of network before body) shade ≡ way_after link way at k body shade
  cut_told before link way at k (notes.Event line what) shade = by what
    where
      by : (what : What) → cut_by link way at k (struck what) shade ≡ way_after link way at k (notes.Event line what)
          shade
      by (events.Cut other of) = refl
      by (events.Heal other of) = refl
      by (events.Break device) = refl
      by what = refl
  cut_told before link way at k (notes.Dropped d l cause reasons.Repeat) shade =
      no_cut d l (change_at before cause) link way at k shade
  cut_told before link way at k body shade = refl

  -- ---- all records

  -- what is folded over the news is so over the records
  fold_told : (s : Scenario) (hs : List Happening) (f : Shade → News → Shade) (g : Shade → Note → Shade)
      → ((before : List News) (note : Note) (shade : Shade)
      → f shade (news_of network s hs before note) ≡ g shade note)
      → (ns : List Note) (before : List News) (shade : Shade)
      → fold f shade (told_from network s hs before ns) ≡ fold g (fold f shade before) ns
  fold_told s hs f g same [] before shade = refl
  fold_told s hs f g same (note ∷ ns) before shade =
      fold_told s hs f g same ns (before ++ news_of network s hs before note ∷ []) shade
      ∙ ap (λ (x : Shade). fold g x ns) (fold-append f shade before (news_of network s hs before note ∷ []) ∙ same
      before note (fold f shade before))

lane_cells : (grid : Grid) (device : DeviceId) (all : List News) (cells : List Shade) (k : ℕ) → k < length cells
    → shade_at (fold (taken grid (labels.Lane device)) cells all) k
    ≡ fold (λ shade news. if nat_le (column_of grid news.cycle) k then turn_by device news.change shade else shade) (shade_at cells k) all
lane_cells grid device [] cells k within = refl
lane_cells grid device (news ∷ all) cells k within =
    let long = turned_long device (column_of grid news.cycle) news.change cells in
    lane_cells grid device all (turned device (column_of grid news.cycle) news.change cells) k (omega (arith, long, within))
    ∙ ap (λ (x : Shade). fold (λ shade news. if nat_le (column_of grid news.cycle) k then turn_by device news.change shade else shade) x all)
    (turned_at device (column_of grid news.cycle) news.change cells k within)

passage_cells : (grid : Grid) (link : LinkId) (way : Way) (all : List News) (cells : List Shade) (k : ℕ) → k < length cells
    → shade_at (fold (taken grid (labels.Passage link way)) cells all) k
    ≡ fold (λ shade news. cut_by link way (column_of grid news.cycle) k news.change shade) (shade_at cells k) all
passage_cells grid link way [] cells k within = refl
passage_cells grid link way (news ∷ all) cells k within =
    let long = cut_long link way (column_of grid news.cycle) news.change cells in
    passage_cells grid link way all (cut link way (column_of grid news.cycle) news.change cells) k (omega (arith, long, within))
    ∙ ap (λ (x : Shade). fold (λ shade news. cut_by link way (column_of grid news.cycle) k news.change shade) x all)
    (cut_at link way (column_of grid news.cycle) news.change cells k within)

lane_long : (grid : Grid) (device : DeviceId) (all : List News) (cells : List Shade) → length (fold (taken grid (labels.Lane device)) cells all) ≡ length cells
lane_long grid device [] cells = refl
lane_long grid device (news ∷ all) cells =
    lane_long grid device all (turned device (column_of grid news.cycle) news.change cells) ∙ turned_long device (column_of grid news.cycle) news.change cells

passage_long : (grid : Grid) (link : LinkId) (way : Way) (all : List News) (cells : List Shade)
    → length (fold (taken grid (labels.Passage link way)) cells all) ≡ length cells
passage_long grid link way [] cells = refl
passage_long grid link way (news ∷ all) cells =
    passage_long grid link way all (cut link way (column_of grid news.cycle) news.change cells) ∙ cut_long link way (column_of grid news.cycle) news.change cells

even_at : (n k : ℕ) (shade : Shade) → k < n → shade_at (replicate n shade) k ≡ shade
even_at n k shade within = unwrap_or-slice_get (replicate n shade) k shades.Blank ∙ get_or-replicate n k shade shades.Blank within

module _ (network : Network) (s : Scenario) (hs : List Happening) (ns : List Note) (grid : Grid) (some : 1 ≤ grid.columns) where
  abbrev all_told : List News
  all_told = news_in network s hs ns

  pub lane_is : (device : DeviceId) (start : Shade) (k : ℕ) → k < grid.columns
      → shade_at (cells_of grid all_told (labels.Lane device) start) k ≡ device_cell network grid ns device start k
  lane_is device start k within =
      let size = length-replicate (grid.columns - 1 + 1) start in
      lane_cells grid device all_told (replicate (grid.columns - 1 + 1) start) k (omega (arith, size, some, within))
      ∙ fold_told network s hs (λ shade news. if nat_le (column_of grid news.cycle) k then turn_by device news.change shade else shade)
      (λ shade note. if nat_le (column_of grid (cycle_of network note)) k then device_after device note.body shade else shade)
      (λ before note shade. ap (λ (x : Shade). if nat_le (column_of grid (cycle_of network note)) k then x else shade) (turn_told network before device note.body shade))
      ns [] (shade_at (replicate (grid.columns - 1 + 1) start) k)
      ∙ ap (λ x. device_cell network grid ns device x k) (even_at (grid.columns - 1 + 1) k start (omega (arith, some, within)))

  pub passage_is : (link : LinkId) (way : Way) (k : ℕ) → k < grid.columns
      → shade_at (cells_of grid all_told (labels.Passage link way) shades.Blank) k ≡ way_cell network grid ns link way k
  passage_is link way k within =
      let size = length-replicate (grid.columns - 1 + 1) shades.Blank in
      passage_cells grid link way all_told (replicate (grid.columns - 1 + 1) shades.Blank) k (omega (arith, size, some, within))
      ∙ fold_told network s hs (λ shade news. cut_by link way (column_of grid news.cycle) k news.change shade)
      (λ shade note. way_after link way (column_of grid (cycle_of network note)) k note.body shade)
      (λ before note shade. cut_told network before link way (column_of grid (cycle_of network note)) k note.body shade)
      ns [] (shade_at (replicate (grid.columns - 1 + 1) shades.Blank) k)
      ∙ ap (λ (x : Shade). fold (λ shade note. way_after link way (column_of grid (cycle_of network note)) k note.body shade) x ns)
      (even_at (grid.columns - 1 + 1) k shades.Blank (omega (arith, some, within)))

  pub lane_size : (device : DeviceId) (start : Shade) → length (cells_of grid all_told (labels.Lane device) start) ≡ grid.columns
  lane_size device start =
      let size = length-replicate (grid.columns - 1 + 1) start in
      let long = lane_long grid device all_told (replicate (grid.columns - 1 + 1) start) in
      omega (arith, size, long, some)

  pub passage_size : (link : LinkId) (way : Way) → length (cells_of grid all_told (labels.Passage link way) shades.Blank) ≡ grid.columns
  passage_size link way =
      let size = length-replicate (grid.columns - 1 + 1) shades.Blank in
      let long = passage_long grid link way all_told (replicate (grid.columns - 1 + 1) shades.Blank) in
      omega (arith, size, long, some)

-- ---- rows that are drawn

flow_of_vl : (label : Label) (vl : VlId) → is_of_vl label vl ≡ true → is_flow label ≡ true
flow_of_vl (labels.Flow other device) vl of = refl
flow_of_vl (labels.Flows other count) vl of = refl
flow_of_vl label vl of = absurd (false≢true of)

-- no flow joins the row of another thing
not_like : (vl : VlId) (cells : List Shade) (row : Row) → is_flow row.label ≡ false → is_like vl cells row ≡ false
not_like vl cells row other = by (is_of_vl row.label vl) refl
  where
    by : (b : Bool) → is_of_vl row.label vl ≡ b → (b && is_alike row.cells cells) ≡ false
    by true of = absurd (false≢true (sym other ∙ flow_of_vl row.label vl of))
    by false of = refl

other_joined : (flow : Flow) (cells : List Shade) (rs : List Row) (row : Row) → is_flow row.label ≡ false → IsIn row rs → IsIn row (joined flow cells rs)
other_joined flow cells [] row other i = absurd i
other_joined flow cells (r ∷ rs) row other (inl is) =
    let like : is_like flow.vl cells r ≡ false = ap (is_like flow.vl cells) (sym is) ∙ not_like flow.vl cells row other in
    subst (λ (b : Bool). IsIn row (if b then raised r ∷ rs else r ∷ joined flow cells rs)) (sym like) (inl is)
other_joined flow cells (r ∷ rs) row other (inr i) = by (is_like flow.vl cells r) (other_joined flow cells rs row other i)
  where
    by : (b : Bool) → IsIn row (joined flow cells rs) → IsIn row (if b then raised r ∷ rs else r ∷ joined flow cells rs)
    by true more = inr i
    by false more = inr more

other_kept : (told : ToldSoFar) (missed : List Missed) (flows : List Flow) (rs : List Row) (row : Row) → is_flow row.label ≡ false → IsIn row rs
    → IsIn row (with_flows told missed rs flows)
other_kept told missed [] rs row other i = i
other_kept told missed (f ∷ flows) rs row other i =
    let cells = flow_cells told.grid told.news told.last missed f.vl f.device in
    other_kept told missed flows (joined f cells rs) row other (other_joined f cells rs row other i)

in_below : (rows_at : ℕ → List Row) (n k : ℕ) (row : Row) → k < n → IsIn row (rows_at k) → IsIn row (all_below rows_at n)
in_below rows_at zero k row within i = absurd (omega (arith, within))
in_below rows_at (suc n) k row within i = elim (cases_lt k n) [
  | inl less ↦ in_left row (all_below rows_at n) (rows_at n) (in_below rows_at n k row less i)
  | inr more ↦
      let last : k ≡ n = omega (arith, within, more) in
      in_right row (all_below rows_at n) (rows_at n) (subst (λ (m : ℕ). IsIn row (rows_at m)) last i)
]

any_in : {X : Type 0} (p : X → Bool) (x : X) (xs : List X) → IsIn x xs → p x ≡ true → list_any p xs ≡ true
any_in p x [] i passes = absurd i
any_in p x (y ∷ ys) (inl is) passes = ap (λ (b : Bool). b || list_any p ys) (ap p (sym is) ∙ passes)
any_in p x (y ∷ ys) (inr i) passes = ap (λ (b : Bool). p y || b) (any_in p x ys i passes) ∙ or_true (p y)
  where
    or_true : (b : Bool) → (b || true) ≡ true
    or_true true = refl
    or_true false = refl

module _ (network : Network) (s : Scenario) (hs : List Happening) (ns : List Note) (title : List ℕ) (missed : List Missed) (flows : List Flow) where
  abbrev news : List News
  news = news_in network s hs ns

  abbrev grid_here : Grid
  grid_here = grid_of (last_cycle news)

  some_columns : 1 ≤ grid_here.columns
  some_columns = omega arith

  upper_there : (row : Row) → is_flow row.label ≡ false → IsIn row (upper_rows network (told_of news)) → IsIn row (rows network title news missed flows)
  upper_there row other i =
      let upper = with_flows (told_of news) missed (upper_rows network (told_of news)) flows in
      in_left row (upper ++ title_row groups.Losses) (count_rows (told_of news) losses)
      (in_left row upper (title_row groups.Losses) (other_kept (told_of news) missed flows (upper_rows network (told_of news)) row other i))

  -- a row whose cells are these is drawn
  cells_drawn : (label : Label) (cells : List Shade) (cell : ℕ → Shade) → IsIn (record { label = label; cells = cells }) (rows network title news missed flows)
      → length cells ≡ grid_here.columns → ((k : ℕ) → k < grid_here.columns → shade_at cells k ≡ cell k)
      → HasCells network grid_here (lines network title news missed flows) label cell
  cells_drawn label cells cell i size is =
      let row : Row = record { label = label; cells = cells } in
      let laid = picture_laid grid_here (rows network title news missed flows) (bars_of grid_here news) (greatest_of news) (length news) row i in
      record {
        y = laid.0;
        name = name_there network title news missed flows row laid.0 laid.1;
        each = λ column within seen.
            let own = is column within in
            let struck = all_struck grid_here label laid.0 cells not_begun 0 cells column (at_first grid_here label laid.0 cells size)
            (omega arith) within (ap is_blank own ∙ seen) in
            drawn row laid.0 laid.1 column (cell column) own struck;
      }
    where
      drawn : (row : Row) (y : ℕ) → IsLaid grid_here (all network title news missed flows) row y → (column : ℕ) (shade : Shade) → shade_at row.cells column ≡ shade
          → IsStruck grid_here row.label y row.cells (strokes_from grid_here row.label y not_begun 0 row.cells) column
          → HasStroke network grid_here (lines network title news missed flows) row.label y column shade
      drawn row y laid column shade same struck =
          let stroke : Shade → Ribbon = λ x.
          (record { label = row.label; y = y; shade = x; from = pen_at grid_here struck.first; to = pen_at grid_here struck.last }) in
          let there = line_in network title (all network title news missed flows) (pieces.Stroke (stroke (shade_at row.cells column)))
          (laid.all (pieces.Stroke (stroke (shade_at row.cells column))) (inr struck.there)) in
          record {
            first = struck.first;
            last = struck.last;
            begins = struck.begins;
            ends = struck.ends;
            line = subst (λ (x : Shade). IsIn (ribbon_line network (stroke x)) (lines network title news missed flows)) same there;
          }

  -- ---- devices

  turn_is : (before : List News) (device : DeviceId) (body : NoteBody) → IsTurn device body → is_turn device (change_of network before body) ≡ true
  turn_is before device body turn =
      let same : (device.0 == device.0) ≡ true = grind (arith, nat_tests) in
      elim turn.is [
        | inl (line, is) ↦ ap (λ b. is_turn device (change_of network before b)) is ∙ same
        | inr (state, cause, why, is) ↦ ap (λ b. is_turn device (change_of network before b)) is ∙ same
      ]

  turned_there : (device : DeviceId) (note : Note) → IsIn note ns → IsTurn device note.body → is_turned news device ≡ true
  turned_there device note i turn =
      let h = note_told network s hs ns [] note i in
      any_in (λ (x : News). is_turn device x.change) (news_of network s hs h.0 note) news h.1 (turn_is h.0 device note.body turn)

  pub lane_drawn : (device : DeviceId) (d : Device) (note : Note) → slice_get network.device device.0 ≡ Some d → IsIn note ns → IsTurn device note.body
      → HasCells network grid_here (lines network title news missed flows) (labels.Lane device) (device_cell network grid_here ns device (start_of d.start))
  lane_drawn device d note at i turn =
      let cells = cells_of grid_here news (labels.Lane device) (start_of d.start) in
      let row : Row = record { label = labels.Lane device; cells = cells } in
      let within = slice_get_within network.device device.0 d at in
      let here : IsIn row (lane_at network (told_of news) device.0) =
      subst (λ (o : Option Device). IsIn row (option_map_or (λ (x : Device). if is_turned news device
      then record { label = labels.Lane device; cells = cells_of grid_here news (labels.Lane device) (start_of x.start) } ∷ [] else []) o [])) (sym at)
      (subst (λ (b : Bool). IsIn row (if b then row ∷ [] else [])) (sym (turned_there device note i turn)) (inl refl)) in
      let count = length network.device in
      let events = filled_row (told_of news) (labels.Count kinds.Event) in
      let states = title_row groups.States in
      let lanes = lane_rows network (told_of news) in
      let cuts = title_row groups.Ways in
      let passages = passage_rows network (told_of news) in
      let titles = title_row groups.Flows in
      let lane : IsIn row lanes =
      in_left row (all_below (lane_at network (told_of news)) count) (others_row (told_of news) (calm_below network news count))
      (in_below (lane_at network (told_of news)) count device.0 row within here) in
      let upper : IsIn row (upper_rows network (told_of news)) =
      in_left row (events ++ states ++ lanes ++ cuts ++ passages) titles
      (in_left row (events ++ states ++ lanes ++ cuts) passages
      (in_left row (events ++ states ++ lanes) cuts (in_right row (events ++ states) lanes lane))) in
      cells_drawn (labels.Lane device) cells (device_cell network grid_here ns device (start_of d.start)) (upper_there row refl upper)
      (lane_size network s hs ns grid_here some_columns device (start_of d.start))
      (lane_is network s hs ns grid_here some_columns device (start_of d.start))

  -- ---- ways

  abbrev cut_cells : LinkId → Way → List Shade
  cut_cells link way = cells_of grid_here news (labels.Passage link way) shades.Blank

  cut_any : (link : LinkId) (way : Way) (k : ℕ) → k < grid_here.columns → is_blank (way_cell network grid_here ns link way k) ≡ false
      → is_any (cut_cells link way) ≡ true
  cut_any link way k within seen =
      let size = passage_size network s hs ns grid_here some_columns link way in
      let own = passage_is network s hs ns grid_here some_columns link way k within in
      let at = at_place (cut_cells link way) k (omega (arith, size, within)) in
      let get : get_or (cut_cells link way) k shades.Blank ≡ way_cell network grid_here ns link way k =
      sym (unwrap_or-slice_get (cut_cells link way) k shades.Blank) ∙ own in
      any_in (λ (x : Shade). not (is_blank x)) (get_or (cut_cells link way) k shades.Blank) (cut_cells link way) at
      (ap (λ x. not (is_blank x)) get ∙ ap not seen)

  cut_row : (link : LinkId) (way : Way) → is_any (cut_cells link way) ≡ true
      → IsIn (record { label = labels.Passage link way; cells = cut_cells link way }) (filled_row (told_of news) (labels.Passage link way))
  cut_row link way any =
      let row : Row = record { label = labels.Passage link way; cells = cut_cells link way } in
      subst (λ (b : Bool). IsIn row (if b then row ∷ [] else [])) (sym any) (inl refl)

  cut_there : (link : LinkId) (way : Way) → is_any (cut_cells link way) ≡ true
      → IsIn (record { label = labels.Passage link way; cells = cut_cells link way }) (passages_at (told_of news) link.0)
  cut_there link ways.Up any =
      in_left (record { label = labels.Passage link ways.Up; cells = cut_cells link ways.Up }) (filled_row (told_of news) (labels.Passage link ways.Up))
      (filled_row (told_of news) (labels.Passage link ways.Down)) (cut_row link ways.Up any)
  cut_there link ways.Down any =
      in_right (record { label = labels.Passage link ways.Down; cells = cut_cells link ways.Down }) (filled_row (told_of news) (labels.Passage link ways.Up))
      (filled_row (told_of news) (labels.Passage link ways.Down)) (cut_row link ways.Down any)

  pub passage_drawn : (link : LinkId) (way : Way) (k : ℕ) → link.0 < length network.link → k < grid_here.columns
      → is_blank (way_cell network grid_here ns link way k) ≡ false
      → HasCells network grid_here (lines network title news missed flows) (labels.Passage link way) (way_cell network grid_here ns link way)
  passage_drawn link way k there within seen =
      let row : Row = record { label = labels.Passage link way; cells = cut_cells link way } in
      let here = cut_there link way (cut_any link way k within seen) in
      let events = filled_row (told_of news) (labels.Count kinds.Event) in
      let states = title_row groups.States in
      let lanes = lane_rows network (told_of news) in
      let cuts = title_row groups.Ways in
      let passages = passage_rows network (told_of news) in
      let titles = title_row groups.Flows in
      let among : IsIn row passages = in_below (passages_at (told_of news)) (length network.link) link.0 row there here in
      let upper : IsIn row (upper_rows network (told_of news)) =
      in_left row (events ++ states ++ lanes ++ cuts ++ passages) titles (in_right row (events ++ states ++ lanes ++ cuts) passages among) in
      cells_drawn (labels.Passage link way) (cut_cells link way) (way_cell network grid_here ns link way) (upper_there row refl upper)
      (passage_size network s hs ns grid_here some_columns link way)
      (passage_is network s hs ns grid_here some_columns link way)

-- ---- a flow that joins a row, and flows that do so one after another

set_at : {X : Type 0} (xs : List X) (p : ℕ) (d y : X) → p < length xs → set xs p y ≡ take p xs ++ y ∷ drop (suc p) xs
set_at {X = X} xs p d y within =
    let size : length (take p xs) ≡ p = length-take-le p xs (omega (arith, within)) in
    ap (λ (ys : List X). set ys p y) (sym (take-append-drop p xs) ∙ ap (λ (ys : List X). take p xs ++ ys) (drop-cons xs p d within))
    ∙ ap (λ (n : ℕ). set (take p xs ++ get_or xs p d ∷ drop (suc p) xs) n y) (sym size)
    ∙ set-append_seam (take p xs) (get_or xs p d) (drop (suc p) xs) y

-- the row at the place is like the flow: it has one receiver more
pub joins_at : (flow : Flow) (cells : List Shade) (rows : List Row) (p : ℕ) (d : Row) → p < length rows
    → is_like flow.vl cells (get_or rows p d) ≡ true
    → set rows p (raised (get_or rows p d)) ≡ take p rows ++ joined flow cells (drop p rows)
joins_at flow cells rows p d within like =
    let row = get_or rows p d in
    let rest = drop (suc p) rows in
    set_at rows p d (raised row) within
    ∙ ap (λ (xs : List Row). take p rows ++ xs) (sym (ap (λ xs. joined flow cells xs) (drop-cons rows p d within)
    ∙ ap (λ (b : Bool). if b then raised row ∷ rest else row ∷ joined flow cells rest) like))

-- one flow more
pub flows_more : (told : ToldSoFar) (missed : List Missed) (base now next : List Row) (flows : List Flow) (n : ℕ) (x d : Flow) → n < length flows
    → now ≡ with_flows told missed base (take n flows) → x ≡ get_or flows n d → next ≡ with_flows told missed now (x ∷ [])
    → next ≡ with_flows told missed base (take (n + 1) flows)
flows_more told missed base now next flows n x d within so is more =
    more ∙ ap (λ (flow : Flow). with_flows told missed now (flow ∷ [])) is
    ∙ ap (λ rows. with_flows told missed rows (get_or flows n d ∷ [])) so
    ∙ sym (fold-append (λ rows flow. joined flow (flow_cells told.grid told.news told.last missed flow.vl flow.device) rows) base (take n flows)
    (get_or flows n d ∷ []))
    ∙ ap (λ fs. with_flows told missed base fs) (sym (take_more flows n d within))

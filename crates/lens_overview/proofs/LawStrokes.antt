-- The strokes and cells of a row, and the bars of the strip.
use Rattle.std.{specs.Prelude.{◌==◌, codes, max, nat_lt, slice_get, slice_set, unwrap_or}}
use Rattle.std.proofs.{Math.Seq.set-append_seam}
use Rattle.std.proofs.Common
use Common.{if◌then◌else◌, ◌&&◌, ◌*◌, ◌++◌, ◌+◌, ◌-◌, ◌/◌, ◌<◌, ◌∙◌, ◌∷◌, ◌≡◌, ◌≤◌, ◌⊎◌, Bool, List, None, Option, Some}
use Common.{[], add-one, ap, append_assoc, arith, drop, drop-cons, false, fold, get_or, inl, inr, length, length-append}
use Common.{length-take, refl, replicate, set, subst, suc, sym, take, true, zero, ℕ}
use Rattle.std.proofs.lemmas.{Bool.{Decides.nat_tests, cases_lt, false≢true}}
use Rattle.std.proofs.lemmas.{Option.{slice_get_past, unwrap_or-slice_get}}
use Rattle.std.proofs.lemmas.List.{get_or-replicate, get_or-set_other, get_or-set_same, length-replicate, length-set}
use Rattle.std.proofs.lemmas.List.{replicate_more}
use Rattle.lens_overview.{proofs.LawRows.in_each}
use Rattle.lens_overview.specs.{Bars.{bars_of, greater, raised}, Cells.{is_alike, shade_at}, Grids.{column_of, pen_at}}
use Rattle.lens_overview.specs.{Rows.Row, Shades.{code_of, is_blank, is_same}, Signs.sign_line}
use Rattle.lens_overview.specs.Lines
use Lines.{bar_line, bar_part, caption_line, caption_part, extent_line, piece_line, rail_part, records_part}
use Lines.{spread_line, stroke_part, tick_line, tick_part}
use Rattle.lens_overview.specs.Pieces
use Pieces.{bar_at, bar_height, bars_from, below, bottom_of, front, not_begun, picture_of, row_pieces, rows_from}
use Pieces.{stride_of, stroke_to, strokes_from, ticks, top}
use Rattle.lens_overview.specs.declared.{grid.{Grid.Grid, GridPen.GridPen}, label.Label.Label, news.News.News}
use Rattle.lens_overview.specs.declared.{shade.Shade.Shade}
use Rattle.lens_overview.specs.declared.pieces.{BegunStroke.BegunStroke, Piece.{Piece, TheVariants.Stroke}}
use Rattle.lens_overview.specs.declared.pieces.{Ribbon.Ribbon}
use Rattle.lens_svg.specs.{Elements.opening_line, Sketching.with_at, Titles.{heading_line, title_line}}
use Rattle.net_plan.specs.declared.network.Network.{Network}
use Rattle.run_law.{proofs.runs.Places.{in_left, in_parts, in_right}, specs.records.Order.IsIn}
use Rattle.tte_units.proofs.general_lemmas.Options.{one}
use Rattle.lens_overview.specs.declared.label.Kind.TheVariants as kinds
use Rattle.lens_overview.specs.declared.label.Label.TheVariants as labels
use Rattle.lens_overview.specs.declared.pieces.Piece.TheVariants as pieces
use Rattle.lens_overview.specs.declared.shade.Shade.TheVariants as shades
use Rattle.lens_overview.specs.declared.signs.OverviewSign.TheVariants as signs

-- ---- cells that are filled one by one, and cells that are alike

-- one cell more
pub fill_step : {X : Type 0} (cs : List X) (from k p : ℕ) (shade d : X) → from + k ≡ p → p < length cs
    → set (take from cs ++ (replicate k shade ++ drop p cs)) p shade ≡ take from cs ++ (replicate (k + 1) shade ++ drop (p + 1) cs)
fill_step {X = X} cs from k p shade d sum within =
    let front = take from cs ++ replicate k shade in
    let rest = drop (suc p) cs in
    let size = length-append (take from cs) (replicate k shade) in
    let taken = length-take from cs in
    let filled = length-replicate k shade in
    let whole : length front ≡ p = grind (arith, size, taken, filled, sum, within) in
    ap (λ (xs : List X). set (take from cs ++ (replicate k shade ++ xs)) p shade) (drop-cons cs p d within)
    ∙ ap (λ (xs : List X). set xs p shade) (sym (append_assoc (take from cs) (replicate k shade) (get_or cs p d ∷ rest)))
    ∙ ap (λ (n : ℕ). set (front ++ get_or cs p d ∷ rest) n shade) (sym whole)
    ∙ set-append_seam front (get_or cs p d) rest shade
    ∙ append_assoc (take from cs) (replicate k shade) (shade ∷ rest)
    ∙ ap (λ (xs : List X). take from cs ++ xs) (sym (append_assoc (replicate k shade) (shade ∷ []) rest) ∙ ap (λ (xs : List X). xs ++ rest) (replicate_more k shade))
    ∙ ap (λ (n : ℕ). take from cs ++ (replicate (k + 1) shade ++ drop n cs)) (sym (add-one p))

and_false : (b : Bool) → (b && false) ≡ false
and_false true = refl
and_false false = refl

-- lists of two lengths are not alike
pub alike_differ : (xs ys : List Shade) → (length xs ≡ length ys → ⊥) → is_alike xs ys ≡ false
alike_differ [] [] other = absurd (other refl)
alike_differ [] (y ∷ ys) other = refl
alike_differ (x ∷ xs) [] other = refl
alike_differ (x ∷ xs) (y ∷ ys) other =
    ap (λ (b : Bool). is_same x y && b) (alike_differ xs ys (λ e. other (ap (λ n. suc n) e))) ∙ and_false (is_same x y)

-- ---- the bars of the strip: lines of bars

abbrev octet_at : ℕ → List ℕ → ℕ
octet_at n line = get_or line n 0

-- the piece is a bar
abbrev pub IsBar : Piece → Type 0
IsBar piece = (pen : GridPen) × (width : ℕ) × (height : ℕ) × (spread : ℕ) × (piece ≡ pieces.Bar pen width height spread)

stroke_class : (network : Network) (title : List ℕ) (label : Label) (y : ℕ) (shade : Shade) (from to : GridPen) (rest : List ℕ)
    → piece_line network title (pieces.Stroke (record { label = label; y = y; shade = shade; from = from; to = to })) ≡ codes "<path class=\"bar" ++ rest → ⊥
unfolding stroke_part
stroke_class network title (labels.Count kinds.Event) y shade from to rest same = let octet = ap (octet_at 13) same in omega (arith, octet)
stroke_class network title label y shade from to rest same = let octet = ap (octet_at 13) same in omega (arith, octet)

-- a line that begins so is that of a bar
pub bar_of : (network : Network) (title : List ℕ) (piece : Piece) (rest : List ℕ) → piece_line network title piece ≡ codes "<path class=\"bar" ++ rest → IsBar piece
unfolding opening_line title_line heading_line extent_line records_part sign_line caption_line caption_part spread_line tick_line tick_part bar_line bar_part rail_part
bar_of network title (pieces.Bar pen width height spread) rest same = (pen, width, height, spread, refl)
bar_of network title (pieces.Stroke ribbon) rest same =
    absurd (stroke_class network title ribbon.label ribbon.y ribbon.shade ribbon.from ribbon.to rest same)
bar_of network title (pieces.Shared signs.Style) rest same = let octet = ap (octet_at 1) same in absurd (omega (arith, octet))
bar_of network title piece rest same = let octet = ap (octet_at 1) same in absurd (omega (arith, octet))

-- ---- the bars of a picture

-- the bar of a column
abbrev pub bar_in : List (Option ℕ) → ℕ → Option ℕ
bar_in bars k = unwrap_or (slice_get bars k) None

-- it is of this spread
pub record IsBarOf (grid : Grid) (bars : List (Option ℕ)) (from : ℕ) (piece : Piece) : Type 0 where
  pub column : ℕ
  pub height : ℕ
  pub spread : ℕ
  pub is : piece ≡ pieces.Bar (pen_at grid (from + column)) (grid.pitch - 1) height spread
  pub low : height ≤ 36
  pub of : bar_in bars column ≡ Some spread

first_bar : (grid : Grid) (greatest bar : Option ℕ) (column : ℕ) (bars : List (Option ℕ)) (piece : Piece) → IsIn piece (bar_at grid greatest column bar)
    → IsBarOf grid (bar ∷ bars) column piece
first_bar grid None bar column bars piece i = absurd i
first_bar grid (Some greatest) None column bars piece i = absurd i
first_bar grid (Some greatest) (Some spread) column bars piece (inl e) = record {
  column = 0;
  height = bar_height spread greatest;
  spread = spread;
  is = e ∙ ap (λ k. pieces.Bar (pen_at grid k) (grid.pitch - 1) (bar_height spread greatest) spread) (let k : column ≡ column + 0 = omega arith in k);
  low = omega arith;
  of = refl;
}
first_bar grid (Some greatest) (Some spread) column bars piece (inr none) = absurd none

bars_are : (grid : Grid) (greatest : Option ℕ) (from : ℕ) (bars : List (Option ℕ)) (piece : Piece) → IsIn piece (bars_from grid greatest from bars)
    → IsBarOf grid bars from piece
bars_are grid greatest from [] piece i = absurd i
bars_are grid greatest from (bar ∷ bars) piece i =
    by (in_parts piece (bar_at grid greatest from bar) (bars_from grid greatest (from + 1) bars) i) (bars_are grid greatest (from + 1) bars piece)
  where
    by : IsIn piece (bar_at grid greatest from bar) ⊎ IsIn piece (bars_from grid greatest (from + 1) bars)
        → (IsIn piece (bars_from grid greatest (from + 1) bars) → IsBarOf grid bars (from + 1) piece) → IsBarOf grid (bar ∷ bars) from piece
    by (inl i) more = first_bar grid greatest bar from bars piece i
    by (inr i) more =
        let rest = more i in
        let place : (from + 1) + rest.column ≡ from + suc rest.column = omega arith in
        record {
          column = suc rest.column;
          height = rest.height;
          spread = rest.spread;
          is = rest.is ∙ ap (λ k. pieces.Bar (pen_at grid k) (grid.pitch - 1) rest.height rest.spread) place;
          low = rest.low;
          of = rest.of;
        }

module _ (pen : GridPen) (width height spread : ℕ) where
  abbrev bar : Piece
  bar = pieces.Bar pen width height spread

  no_stroke : (grid : Grid) (label : Label) (y : ℕ) (begun : BegunStroke) (column : ℕ) → IsIn bar (stroke_to grid label y begun column) → ⊥
  no_stroke grid label y begun column i = by (is_blank begun.shade) i
    where
      by : (b : Bool) → IsIn bar (if b then [] else pieces.Stroke (record {
        label = label;
        y = y;
        shade = begun.shade;
        from = pen_at grid begun.column;
        to = pen_at grid column;
      }) ∷ []) → ⊥
      by true i = i
      by false (inl e) = cc
      by false (inr i) = i

  no_strokes : (grid : Grid) (label : Label) (y : ℕ) (begun : BegunStroke) (column : ℕ) (cells : List Shade)
      → IsIn bar (strokes_from grid label y begun column cells) → ⊥
  no_strokes grid label y begun column [] i = no_stroke grid label y begun grid.columns i
  no_strokes grid label y begun column (shade ∷ cells) i =
      by (is_same begun.shade shade) i (no_strokes grid label y begun (column + 1) cells)
      (no_strokes grid label y (record { shade = shade; column = column }) (column + 1) cells)
    where
      by : (b : Bool)
          → IsIn bar (if b then strokes_from grid label y begun (column + 1) cells else stroke_to grid label y begun column
          ++ strokes_from grid label y (record { shade = shade; column = column }) (column + 1) cells)
          → (IsIn bar (strokes_from grid label y begun (column + 1) cells) → ⊥)
          → (IsIn bar (strokes_from grid label y (record { shade = shade; column = column }) (column + 1) cells) → ⊥) → ⊥
      by true i same other = same i
      by false i same other =
          elim (in_parts bar (stroke_to grid label y begun column)
          (strokes_from grid label y (record { shade = shade; column = column }) (column + 1) cells) i) [
            | inl now ↦ no_stroke grid label y begun column now
            | inr later ↦ other later
          ]

  no_row : (grid : Grid) (row : Row) (y : ℕ) → IsIn bar (row_pieces grid row y) → ⊥
  no_row grid row y (inl e) = cc
  no_row grid row y (inr i) = no_strokes grid row.label y not_begun 0 row.cells i

  no_rows : (grid : Grid) (y : ℕ) (rows : List Row) → IsIn bar (rows_from grid y rows) → ⊥
  no_rows grid y [] i = i
  no_rows grid y (r ∷ rows) i =
      elim (in_parts bar (row_pieces grid r (below y r.label)) (rows_from grid (below y r.label) rows) i) [
        | inl one ↦ no_row grid r (below y r.label) one
        | inr more ↦ no_rows grid (below y r.label) rows more
      ]

  no_ticks : (grid : Grid) (bottom : ℕ) → IsIn bar (ticks grid bottom) → ⊥
  no_ticks grid bottom i =
      let tick : ℕ → Piece = λ n. pieces.Tick (pen_at grid (stride_of grid.columns * n)) (bottom + 8) in
      let h = in_each tick ((grid.columns - 1) / stride_of grid.columns + 1) bar i in
      other (pen_at grid (stride_of grid.columns * h.0)) (bottom + 8) h.1
    where
      other : (at : GridPen) (down : ℕ) → bar ≡ pieces.Tick at down → ⊥
      other at down e = cc

  no_front : (grid : Grid) (bottom : ℕ) (greatest : Option ℕ) (records : ℕ) → IsIn bar (front grid bottom greatest records) → ⊥
  no_front grid bottom greatest records (inl e) = cc
  no_front grid bottom greatest records (inr (inl e)) = cc
  no_front grid bottom greatest records (inr (inr (inl e))) = cc
  no_front grid bottom greatest records (inr (inr (inr (inl e)))) = cc
  no_front grid bottom greatest records (inr (inr (inr (inr (inl e))))) = cc
  no_front grid bottom greatest records (inr (inr (inr (inr (inr (inl e)))))) = cc
  no_front grid bottom greatest records (inr (inr (inr (inr (inr (inr (inl e))))))) = cc
  no_front grid bottom greatest records (inr (inr (inr (inr (inr (inr (inr (inl e)))))))) = cc
  no_front grid bottom greatest records (inr (inr (inr (inr (inr (inr (inr (inr (inl e))))))))) = cc
  no_front grid bottom greatest records (inr (inr (inr (inr (inr (inr (inr (inr (inr (inl e)))))))))) = cc
  no_front grid bottom greatest records (inr (inr (inr (inr (inr (inr (inr (inr (inr (inr none)))))))))) = none

  no_end : IsIn bar (pieces.Shared signs.Close ∷ []) → ⊥
  no_end (inl e) = cc
  no_end (inr i) = i

  -- each bar of a picture is one of the strip
  pub picture_bar : (grid : Grid) (rows : List Row) (bars : List (Option ℕ)) (greatest : Option ℕ) (records : ℕ) → IsIn bar (picture_of grid rows bars greatest records)
      → IsBarOf grid bars 0 bar
  picture_bar grid rows bars greatest records i =
      let bottom = bottom_of top rows in
      let end : List Piece = pieces.Shared signs.Close ∷ [] in
      let below_bars = rows_from grid top rows ++ end in
      let below_ticks = bars_from grid greatest 0 bars ++ below_bars in
      elim (in_parts bar (front grid bottom greatest records) (ticks grid bottom ++ below_ticks) i) [
        | inl first ↦ absurd (no_front grid bottom greatest records first)
        | inr more ↦ elim (in_parts bar (ticks grid bottom) below_ticks more) [
          | inl tick ↦ absurd (no_ticks grid bottom tick)
          | inr rest ↦ elim (in_parts bar (bars_from grid greatest 0 bars) below_bars rest) [
            | inl there ↦ bars_are grid greatest 0 bars bar there
            | inr last ↦ elim (in_parts bar (rows_from grid top rows) end last) [
              | inl row ↦ absurd (no_rows grid top rows row)
              | inr none ↦ absurd (no_end none)
            ]
          ]
        ]
      ]

-- ---- the greatest spread of a column

-- the greater of two spreads is one of them, and none is greater
record IsGreater (o p : Option ℕ) (m : ℕ) : Type 0 where
  pub is : (o ≡ Some m) ⊎ (p ≡ Some m)
  pub first : (n : ℕ) → o ≡ Some n → n ≤ m
  pub second : (n : ℕ) → p ≡ Some n → n ≤ m

greater_is : (o p : Option ℕ) (m : ℕ) → greater o p ≡ Some m → IsGreater o p m
greater_is None p m e = record {
  is = inr e;
  first = λ n none. absurd cc;
  second = λ n there. let same = one p n m there e in omega (arith, same);
}
greater_is (Some a) None m e = record {
  is = inl e;
  first = λ n there. let same = one (Some a) n m there e in omega (arith, same);
  second = λ n none. absurd cc;
}
greater_is (Some a) (Some b) m e =
    let top : max a b ≡ m = one (Some (max a b)) (max a b) m refl e in
    record {
      is = elim (cases_lt a b) [
        | inl less ↦ inr (ap (λ (n : ℕ). Some n) (let same : b ≡ m = omega (arith, top, less) in same))
        | inr more ↦ inl (ap (λ (n : ℕ). Some n) (let same : a ≡ m = omega (arith, top, more) in same))
      ];
      first = λ n there. let same = one (Some a) a n refl there in omega (arith, top, same);
      second = λ n there. let same = one (Some b) b n refl there in omega (arith, top, same);
    }

module _ (grid : Grid) (k : ℕ) where
  -- with one more spread
  abbrev column_with : Option ℕ → News → Option ℕ
  column_with o news = if column_of grid news.cycle == k then greater o news.spread else o

  -- the greatest spread of those of the column
  pub record IsGreatest (o : Option ℕ) (all : List News) (m : ℕ) : Type 0 where
    pub is : (o ≡ Some m) ⊎ ((news : News) × IsIn news all × (column_of grid news.cycle ≡ k) × (news.spread ≡ Some m))
    pub first : (n : ℕ) → o ≡ Some n → n ≤ m
    pub each : (news : News) (n : ℕ) → IsIn news all → column_of grid news.cycle ≡ k → news.spread ≡ Some n → n ≤ m

  greatest_is : (all : List News) (o : Option ℕ) (m : ℕ) → fold column_with o all ≡ Some m → IsGreatest o all m
  greatest_is [] o m e = record {
    is = inl e;
    first = λ n there. let same = one o n m there e in omega (arith, same);
    each = λ news n i. absurd i;
  }
  greatest_is (x ∷ all) o m e = by (column_of grid x.cycle == k) refl (greatest_is all (column_with o x) m e)
    where
      by : (b : Bool) → (column_of grid x.cycle == k) ≡ b → IsGreatest (if b then greater o x.spread else o) all m → IsGreatest o (x ∷ all) m
      by true at rest =
          let here : column_of grid x.cycle ≡ k = grind (arith, nat_tests, at) in
          record {
            is = from_rest here (greater o x.spread) (λ n e. greater_is o x.spread n e) rest.is;
            first = λ n there. first_most o x.spread n there (greater o x.spread) refl rest.first;
            each = λ news n i own spread. elim i [
              | inl is ↦ second_most o x.spread n (sym (ap (λ (z : News). z.spread) is) ∙ spread) (greater o x.spread) refl rest.first
              | inr there ↦ rest.each news n there own spread
            ];
          }
        where
          from_rest : column_of grid x.cycle ≡ k → (g : Option ℕ) → ((n : ℕ) → g ≡ Some n → IsGreater o x.spread n)
              → (g ≡ Some m) ⊎ ((news : News) × IsIn news all × (column_of grid news.cycle ≡ k) × (news.spread ≡ Some m))
              → (o ≡ Some m) ⊎ ((news : News) × IsIn news (x ∷ all) × (column_of grid news.cycle ≡ k) × (news.spread ≡ Some m))
          from_rest here g are (inl e) = elim ((are m e).is) [ inl old ↦ inl old | inr new ↦ inr (x, inl refl, here, new) ]
          from_rest here g are (inr (news, i, own, spread)) = inr (news, inr i, own, spread)

          first_most : (o p : Option ℕ) (n : ℕ) → o ≡ Some n → (g : Option ℕ) → greater o p ≡ g → ((n : ℕ) → g ≡ Some n → n ≤ m) → n ≤ m
          first_most None p n there g is most = absurd cc
          first_most (Some a) None n there g is most = most n (sym is ∙ there)
          first_most (Some a) (Some b) n there g is most =
              let high = most (max a b) (sym is) in
              let same = one (Some a) a n refl there in
              omega (arith, high, same)

          second_most : (o p : Option ℕ) (n : ℕ) → p ≡ Some n → (g : Option ℕ) → greater o p ≡ g → ((n : ℕ) → g ≡ Some n → n ≤ m) → n ≤ m
          second_most o None n there g is most = absurd cc
          second_most None (Some b) n there g is most = most n (sym is ∙ there)
          second_most (Some a) (Some b) n there g is most =
              let high = most (max a b) (sym is) in
              let same = one (Some b) b n refl there in
              omega (arith, high, same)
      by false at rest = record {
        is = elim rest.is [ inl old ↦ inl old | inr h ↦ inr (h.0, inr h.1, h.2, h.3) ];
        first = rest.first;
        each = λ news n i own spread. elim i [
          | inl is ↦
              let here : column_of grid x.cycle ≡ k = sym (ap (λ (z : News). column_of grid z.cycle) is) ∙ own in
              absurd (grind (arith, nat_tests, at, here))
          | inr there ↦ rest.each news n there own spread
        ];
      }

  -- the bar of the column is
  long_with : (bars : List (Option ℕ)) (place : ℕ) (x : Option ℕ) → length (with_at bars place x) ≡ length bars
  long_with bars place x = by (nat_lt place (length bars))
    where
      by : (b : Bool) → length (if b then slice_set bars place x else bars) ≡ length bars
      by true = length-set bars place x
      by false = refl

  bar_same : (bars : List (Option ℕ)) (x : Option ℕ) → k < length bars → bar_in (with_at bars k x) k ≡ x
  bar_same bars x within =
      let test : nat_lt k (length bars) ≡ true = grind (arith, nat_tests, within) in
      ap (λ (b : Bool). bar_in (if b then slice_set bars k x else bars) k) test
      ∙ unwrap_or-slice_get (slice_set bars k x) k None ∙ get_or-set_same bars k x None within

  bar_other : (bars : List (Option ℕ)) (place : ℕ) (x : Option ℕ) → (k ≡ place → ⊥) → bar_in (with_at bars place x) k ≡ bar_in bars k
  bar_other bars place x apart = by (nat_lt place (length bars))
    where
      by : (b : Bool) → bar_in (if b then slice_set bars place x else bars) k ≡ bar_in bars k
      by true =
          unwrap_or-slice_get (slice_set bars place x) k None ∙ get_or-set_other bars place k x None apart ∙ sym (unwrap_or-slice_get bars k None)
      by false = refl

  raised_at : (bars : List (Option ℕ)) (news : News) → k < length bars → bar_in (raised grid bars news) k ≡ column_with (bar_in bars k) news
  raised_at bars news within = by (column_of grid news.cycle == k) refl
    where
      by : (b : Bool) → (column_of grid news.cycle == k) ≡ b
          → bar_in (raised grid bars news) k ≡ (if b then greater (bar_in bars k) news.spread else bar_in bars k)
      by true e =
          let same : column_of grid news.cycle ≡ k = grind (arith, nat_tests, e) in
          ap (λ c. bar_in (with_at bars c (greater (bar_in bars c) news.spread)) k) same ∙ bar_same bars (greater (bar_in bars k) news.spread) within
      by false e =
          let apart : k ≡ column_of grid news.cycle → ⊥ = λ same. let s = same in grind (arith, nat_tests, e, s) in
          bar_other bars (column_of grid news.cycle) (greater (bar_in bars (column_of grid news.cycle)) news.spread) apart

  bars_at : (all : List News) (bars : List (Option ℕ)) → k < length bars → bar_in (fold (raised grid) bars all) k ≡ fold column_with (bar_in bars k) all
  bars_at [] bars within = refl
  bars_at (news ∷ all) bars within =
      let long = long_with bars (column_of grid news.cycle) (greater (bar_in bars (column_of grid news.cycle)) news.spread) in
      bars_at all (raised grid bars news) (omega (arith, long, within))
      ∙ ap (λ (o : Option ℕ). fold column_with o all) (raised_at bars news within)

  bars_long : (all : List News) (bars : List (Option ℕ)) → length (fold (raised grid) bars all) ≡ length bars
  bars_long [] bars = refl
  bars_long (news ∷ all) bars =
      bars_long all (raised grid bars news) ∙ long_with bars (column_of grid news.cycle) (greater (bar_in bars (column_of grid news.cycle)) news.spread)

  pub bar_greatest : (all : List News) (m : ℕ) → bar_in (bars_of grid all) k ≡ Some m → IsGreatest None all m
  bar_greatest all m e = by (cases_lt k grid.columns)
    where
      none : List (Option ℕ)
      none = replicate grid.columns None

      by : (k < grid.columns) ⊎ (grid.columns ≤ k) → IsGreatest None all m
      by (inl within) =
          let size = length-replicate grid.columns (let x : Option ℕ = None in x) in
          let start : bar_in (replicate grid.columns None) k ≡ None =
          unwrap_or-slice_get (replicate grid.columns None) k None ∙ get_or-replicate grid.columns k None None within in
          let at = bars_at all (replicate grid.columns None) (omega (arith, size, within)) in
          greatest_is all None m (sym (ap (λ (o : Option ℕ). fold column_with o all) start) ∙ sym at ∙ e)
      by (inr past) =
          let size = length-replicate grid.columns (let x : Option ℕ = None in x) in
          let long = bars_long all (replicate grid.columns None) in
          let gone = slice_get_past (bars_of grid all) k (omega (arith, size, long, past)) in
          let is : bar_in (bars_of grid all) k ≡ None = ap (λ (o : Option (Option ℕ)). unwrap_or o None) gone in
          let no : None ≡ Some m = sym is ∙ e in
          absurd cc

-- ---- the strokes of a row, and its cells: shades of one code are one

shade_by : ℕ → Shade
shade_by n =
    if n == 0 then shades.Blank else if n == 1 then shades.Both else if n == 2 then shades.AloneB else if n == 3 then shades.AloneA
    else if n == 4 then shades.Missing else if n == 5 then shades.Off else if n == 6 then shades.Integrating
    else if n == 7 then shades.Joining else if n == 8 then shades.Synchronised else if n == 9 then shades.Broken
    else if n == 10 then shades.Cut else if n == 11 then shades.One else if n == 12 then shades.Two
    else if n == 13 then shades.Three else shades.Many

back : (shade : Shade) → shade_by (code_of shade) ≡ shade
unfolding shade_by
back shades.Blank = refl
back shade = refl

pub same_shade : (a b : Shade) → is_same a b ≡ true → a ≡ b
same_shade a b same =
    let codes : code_of a ≡ code_of b = grind (arith, nat_tests, same) in
    sym (back a) ∙ ap shade_by codes ∙ back b

-- ---- the cells from a column on

-- the cell of the next column is the first of those that are left
cell_here : (cells rest : List Shade) (shade : Shade) (column : ℕ) → drop column cells ≡ shade ∷ rest → shade_at cells column ≡ shade
cell_here [] rest shade zero e = absurd cc
cell_here [] rest shade (suc c) e = absurd cc
cell_here (x ∷ cells) rest shade zero e = cc
cell_here (x ∷ cells) rest shade (suc c) e = cell_here cells rest shade c e

drop_suc : (cells rest : List Shade) (shade : Shade) (column : ℕ) → drop column cells ≡ shade ∷ rest → drop (suc column) cells ≡ rest
drop_suc [] rest shade zero e = absurd cc
drop_suc [] rest shade (suc c) e = absurd cc
drop_suc (x ∷ cells) rest shade zero e = cc
drop_suc (x ∷ cells) rest shade (suc c) e = drop_suc cells rest shade c e

drop_next : (cells rest : List Shade) (shade : Shade) (column : ℕ) → drop column cells ≡ shade ∷ rest → drop (column + 1) cells ≡ rest
drop_next cells rest shade column e = ap (λ (n : ℕ). drop n cells) (add-one column) ∙ drop_suc cells rest shade column e

module _ (grid : Grid) (label : Label) (y : ℕ) (all : List Shade) where
  -- the stroke of this shade from one column to another
  abbrev pub stroke : Shade → ℕ → ℕ → Piece
  stroke shade first last =
      Stroke (record { label = label; y = y; shade = shade; from = pen_at grid first; to = pen_at grid last })

  -- the cells from one column to another have this shade
  abbrev pub AreOf : Shade → ℕ → ℕ → Type 0
  AreOf shade first last = (column : ℕ) → first ≤ column → column < last → shade_at all column ≡ shade

  -- the piece is the stroke of cells
  pub record IsStroke (piece : Piece) : Type 0 where
    pub shade : Shade
    pub first : ℕ
    pub last : ℕ
    pub is : piece ≡ stroke shade first last
    pub seen : is_blank shade ≡ false
    pub some : first < last
    pub each : AreOf shade first last

  -- the cell has a stroke among these pieces
  pub record IsStruck (among : List Piece) (column : ℕ) : Type 0 where
    pub first : ℕ
    pub last : ℕ
    pub begins : first ≤ column
    pub ends : column < last
    pub there : IsIn (stroke (shade_at all column) first last) among

  -- the cells that are left are those from the column on, and those before it have the shade that has begun
  pub record IsAt (begun : BegunStroke) (column : ℕ) (cells : List Shade) : Type 0 where
    pub left : drop column all ≡ cells
    pub whole : column + length cells ≡ grid.columns
    pub begins : begun.column ≤ column
    pub has : is_blank begun.shade ≡ false → begun.column < column
    pub each : AreOf begun.shade begun.column column

  pub at_first : length all ≡ grid.columns → IsAt not_begun 0 all
  at_first size = record {
    left = refl;
    whole = omega (arith, size);
    begins = omega arith;
    has = λ seen. absurd (false≢true (sym seen));
    each = λ column low high. absurd (omega (arith, high));
  }

  same_at : (begun : BegunStroke) (column : ℕ) (shade : Shade) (cells : List Shade) → IsAt begun column (shade ∷ cells) → begun.shade ≡ shade
      → IsAt begun (column + 1) cells
  same_at begun column shade cells at same =
      let low = at.begins in
      let size = at.whole in
      record {
        left = drop_next all cells shade column at.left;
        whole = omega (arith, size);
        begins = omega (arith, low);
        has = λ seen. omega (arith, low);
        each = λ k first last. elim (cases_lt k column) [
          | inl less ↦ at.each k first less
          | inr more ↦
              let here : k ≡ column = omega (arith, last, more) in
              ap (shade_at all) here ∙ cell_here all cells shade column at.left ∙ sym same
        ];
      }

  other_at : (begun : BegunStroke) (column : ℕ) (shade : Shade) (cells : List Shade) → IsAt begun column (shade ∷ cells)
      → IsAt (record { shade = shade; column = column }) (column + 1) cells
  other_at begun column shade cells at =
      let size = at.whole in
      record {
        left = drop_next all cells shade column at.left;
        whole = omega (arith, size);
        begins = omega arith;
        has = λ seen. omega arith;
        each = λ k first last.
            let here : k ≡ column = omega (arith, last, first) in
            ap (shade_at all) here ∙ cell_here all cells shade column at.left;
      }

  -- ---- each stroke is one of cells

  stroke_is : (begun : BegunStroke) (column : ℕ) (piece : Piece) → (is_blank begun.shade ≡ false → begun.column < column)
      → AreOf begun.shade begun.column column → IsIn piece (stroke_to grid label y begun column) → IsStroke piece
  stroke_is begun column piece has each i = by (is_blank begun.shade) refl i
    where
      by : (b : Bool) → is_blank begun.shade ≡ b → IsIn piece (if b then [] else stroke begun.shade begun.column column ∷ []) → IsStroke piece
      by true e i = absurd i
      by false e (inl is) =
          record { shade = begun.shade; first = begun.column; last = column; is = is; seen = e; some = has e; each = each }
      by false e (inr i) = absurd i

  pub strokes_are : (begun : BegunStroke) (column : ℕ) (cells : List Shade) (piece : Piece) → IsAt begun column cells
      → IsIn piece (strokes_from grid label y begun column cells) → IsStroke piece
  strokes_are begun column [] piece at i =
      let size = at.whole in
      let end : column ≡ grid.columns = omega (arith, size) in
      stroke_is begun grid.columns piece (λ seen. subst (λ n. begun.column < n) end (at.has seen))
      (subst (λ n. AreOf begun.shade begun.column n) end at.each) i
  strokes_are begun column (shade ∷ cells) piece at i =
      by (is_same begun.shade shade) refl i (strokes_are begun (column + 1) cells piece)
      (strokes_are (record { shade = shade; column = column }) (column + 1) cells piece)
    where
      by : (b : Bool) → is_same begun.shade shade ≡ b
          → IsIn piece (if b then strokes_from grid label y begun (column + 1) cells else stroke_to grid label y begun column
          ++ strokes_from grid label y (record { shade = shade; column = column }) (column + 1) cells)
          → (IsAt begun (column + 1) cells → IsIn piece (strokes_from grid label y begun (column + 1) cells) → IsStroke piece)
          → (IsAt (record { shade = shade; column = column }) (column + 1) cells
          → IsIn piece (strokes_from grid label y (record { shade = shade; column = column }) (column + 1) cells) → IsStroke piece) → IsStroke piece
      by true e i same other = same (same_at begun column shade cells at (same_shade begun.shade shade e)) i
      by false e i same other =
          elim (in_parts piece (stroke_to grid label y begun column)
          (strokes_from grid label y (record { shade = shade; column = column }) (column + 1) cells) i) [
            | inl now ↦ stroke_is begun column piece at.has at.each now
            | inr later ↦ other (other_at begun column shade cells at) later
          ]

  -- ---- each cell that is not blank has one

  stroke_in : (begun : BegunStroke) (column : ℕ) → is_blank begun.shade ≡ false
      → IsIn (stroke begun.shade begun.column column) (stroke_to grid label y begun column)
  stroke_in begun column seen =
      subst (λ (b : Bool). IsIn (stroke begun.shade begun.column column) (if b then [] else stroke begun.shade begun.column column ∷ []))
      (sym seen) (inl refl)

  struck_left : (ps qs : List Piece) (k : ℕ) → IsStruck ps k → IsStruck (ps ++ qs) k
  struck_left ps qs k s = record {
    first = s.first;
    last = s.last;
    begins = s.begins;
    ends = s.ends;
    there = in_left (stroke (shade_at all k) s.first s.last) ps qs s.there;
  }

  struck_right : (ps qs : List Piece) (k : ℕ) → IsStruck qs k → IsStruck (ps ++ qs) k
  struck_right ps qs k s = record {
    first = s.first;
    last = s.last;
    begins = s.begins;
    ends = s.ends;
    there = in_right (stroke (shade_at all k) s.first s.last) ps qs s.there;
  }

  struck_by : (begun : BegunStroke) (column k : ℕ) → begun.column ≤ k → k < column → is_blank begun.shade ≡ false → shade_at all k ≡ begun.shade
      → IsStruck (stroke_to grid label y begun column) k
  struck_by begun column k low high seen is = record {
    first = begun.column;
    last = column;
    begins = low;
    ends = high;
    there = subst (λ (s : Shade). IsIn (stroke s begun.column column) (stroke_to grid label y begun column)) (sym is) (stroke_in begun column seen);
  }

  -- the strokes where the next cell is so
  next_strokes : (b : Bool) (begun : BegunStroke) (column : ℕ) (shade : Shade) (cells : List Shade) → is_same begun.shade shade ≡ b
      → strokes_from grid label y begun column (shade ∷ cells)
      ≡ (if b then strokes_from grid label y begun (column + 1) cells else stroke_to grid label y begun column
      ++ strokes_from grid label y (record { shade = shade; column = column }) (column + 1) cells)
  next_strokes b begun column shade cells e =
      ap (λ (x : Bool). if x then strokes_from grid label y begun (column + 1) cells else stroke_to grid label y begun column
      ++ strokes_from grid label y (record { shade = shade; column = column }) (column + 1) cells) e

  -- that has begun
  begun_struck : (begun : BegunStroke) (column : ℕ) (cells : List Shade) (k : ℕ) → IsAt begun column cells → begun.column ≤ k → k < column
      → is_blank begun.shade ≡ false → IsStruck (strokes_from grid label y begun column cells) k
  begun_struck begun column [] k at low high seen =
      let size = at.whole in
      struck_by begun grid.columns k low (omega (arith, size, high)) seen (at.each k low high)
  begun_struck begun column (shade ∷ cells) k at low high seen =
      by (is_same begun.shade shade) refl (λ next. begun_struck begun (column + 1) cells k next low (omega (arith, high)) seen)
    where
      by : (b : Bool) → is_same begun.shade shade ≡ b
          → (IsAt begun (column + 1) cells → IsStruck (strokes_from grid label y begun (column + 1) cells) k)
          → IsStruck (strokes_from grid label y begun column (shade ∷ cells)) k
      by true e more =
          subst (λ (ps : List Piece). IsStruck ps k) (sym (next_strokes true begun column shade cells e))
          (more (same_at begun column shade cells at (same_shade begun.shade shade e)))
      by false e more =
          subst (λ (ps : List Piece). IsStruck ps k) (sym (next_strokes false begun column shade cells e))
          (struck_left (stroke_to grid label y begun column)
          (strokes_from grid label y (record { shade = shade; column = column }) (column + 1) cells) k
          (struck_by begun column k low high seen (at.each k low high)))

  -- and each later one
  pub all_struck : (begun : BegunStroke) (column : ℕ) (cells : List Shade) (k : ℕ) → IsAt begun column cells → column ≤ k → k < grid.columns
      → is_blank (shade_at all k) ≡ false → IsStruck (strokes_from grid label y begun column cells) k
  all_struck begun column [] k at low high seen = let size = at.whole in absurd (omega (arith, size, low, high))
  all_struck begun column (shade ∷ cells) k at low high seen =
      by (is_same begun.shade shade) refl (λ next more. all_struck begun (column + 1) cells k next more high seen)
      (λ next more. all_struck (record { shade = shade; column = column }) (column + 1) cells k next more high seen)
    where
      here : shade_at all column ≡ shade
      here = cell_here all cells shade column at.left

      by : (b : Bool) → is_same begun.shade shade ≡ b
          → (IsAt begun (column + 1) cells → column + 1 ≤ k → IsStruck (strokes_from grid label y begun (column + 1) cells) k)
          → (IsAt (record { shade = shade; column = column }) (column + 1) cells → column + 1 ≤ k
          → IsStruck (strokes_from grid label y (record { shade = shade; column = column }) (column + 1) cells) k)
          → IsStruck (strokes_from grid label y begun column (shade ∷ cells)) k
      by true e same other =
          let next = same_at begun column shade cells at (same_shade begun.shade shade e) in
          let first = at.begins in
          subst (λ (ps : List Piece). IsStruck ps k) (sym (next_strokes true begun column shade cells e)) (elim (cases_lt column k) [
            | inl less ↦ same next (omega (arith, less))
            | inr more ↦
                let now : k ≡ column = omega (arith, low, more) in
                let is : shade_at all k ≡ begun.shade = ap (shade_at all) now ∙ here ∙ sym (same_shade begun.shade shade e) in
                begun_struck begun (column + 1) cells k next (omega (arith, first, low)) (omega (arith, now)) (sym (ap is_blank is) ∙ seen)
          ])
      by false e same other =
          let next = other_at begun column shade cells at in
          let rest = strokes_from grid label y (record { shade = shade; column = column }) (column + 1) cells in
          subst (λ (ps : List Piece). IsStruck ps k) (sym (next_strokes false begun column shade cells e))
          (struck_right (stroke_to grid label y begun column) rest k (elim (cases_lt column k) [
            | inl less ↦ other next (omega (arith, less))
            | inr more ↦
                let now : k ≡ column = omega (arith, low, more) in
                let is : shade_at all k ≡ shade = ap (shade_at all) now ∙ here in
                begun_struck (record { shade = shade; column = column }) (column + 1) cells k next low (omega (arith, now))
                (sym (ap is_blank is) ∙ seen)
          ]))

-- ---- whose strokes they are

label_in : Label → Piece → Label
label_in d (Stroke ribbon) = ribbon.label
label_in d piece = d

to_label : (grid : Grid) (label : Label) (y : ℕ) (begun : BegunStroke) (column : ℕ) (ribbon : Ribbon) → IsIn (Stroke ribbon) (stroke_to grid label y begun column)
    → ribbon.label ≡ label
unfolding label_in
to_label grid label y begun column ribbon i = by (is_blank begun.shade) i
  where
    by : (b : Bool) → IsIn (Stroke ribbon) (if b then [] else stroke grid label y [] begun.shade begun.column column ∷ []) → ribbon.label ≡ label
    by true i = absurd i
    by false (inl e) = ap (label_in label) e
    by false (inr none) = absurd none

-- a stroke of a row's cells shows what the row does
pub stroke_label : (grid : Grid) (label : Label) (y : ℕ) (begun : BegunStroke) (column : ℕ) (cells : List Shade) (ribbon : Ribbon)
    → IsIn (Stroke ribbon) (strokes_from grid label y begun column cells) → ribbon.label ≡ label
stroke_label grid label y begun column [] ribbon i = to_label grid label y begun grid.columns ribbon i
stroke_label grid label y begun column (shade ∷ cells) ribbon i =
    by (is_same begun.shade shade) i (stroke_label grid label y begun (column + 1) cells ribbon)
    (stroke_label grid label y (record { shade = shade; column = column }) (column + 1) cells ribbon)
  where
    by : (b : Bool)
        → IsIn (Stroke ribbon) (if b then strokes_from grid label y begun (column + 1) cells else stroke_to grid label y begun column
        ++ strokes_from grid label y (record { shade = shade; column = column }) (column + 1) cells)
        → (IsIn (Stroke ribbon) (strokes_from grid label y begun (column + 1) cells) → ribbon.label ≡ label)
        → (IsIn (Stroke ribbon) (strokes_from grid label y (record { shade = shade; column = column }) (column + 1) cells) → ribbon.label ≡ label)
        → ribbon.label ≡ label
    by true i same other = same i
    by false i same other =
        elim (in_parts (Stroke ribbon) (stroke_to grid label y begun column)
        (strokes_from grid label y (record { shade = shade; column = column }) (column + 1) cells) i) [
          | inl now ↦ to_label grid label y begun column ribbon now
          | inr later ↦ other later
        ]

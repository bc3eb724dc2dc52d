-- How the lines of a picture begin.
use Rattle.lens_overview.specs.Lines.{bar_line, bar_part, caption_line, caption_part, extent_line, piece_line, rail_part, records_part, ribbon_line, spread_line, stroke_part, tick_line, tick_part}
use Rattle.lens_overview.specs.{Signs.sign_line, declared.{grid.GridPen.GridPen, label.Label.Label, pieces.{Piece.Piece, Ribbon.Ribbon}, shade.Shade.Shade}}
use Rattle.{lens_svg.specs.{Elements.opening_line, Titles.{heading_line, title_line}}, net_plan.specs.declared.network.Network.Network}
use Rattle.std.{proofs.{Common.{◌++◌, ◌≡◌, Bool, List, ap, arith, false, get_or, refl, true, ℕ}, lemmas.Bool.false≢true}, specs.Prelude.codes}
use Rattle.lens_overview.specs.declared.label.Kind.TheVariants as kinds
use Rattle.lens_overview.specs.declared.label.Label.TheVariants as labels
use Rattle.lens_overview.specs.declared.pieces.Piece.TheVariants as pieces
use Rattle.lens_overview.specs.declared.shade.Shade.TheVariants as shades
use Rattle.lens_overview.specs.declared.signs.OverviewSign.TheVariants as signs

-- the octet at the place of a line
abbrev octet_at : ℕ → List ℕ → ℕ
octet_at n line = get_or line n 0

-- the row is one of a virtual link's frames
abbrev pub is_flow : Label → Bool
is_flow (labels.Flow vl device) = true
is_flow (labels.Flows vl count) = true
is_flow label = false

-- the beginning of the line of a stroke of such a row
abbrev pub flow_stroke : List ℕ
flow_stroke = codes "<path class=\"flow "

-- a stroke whose line begins so is one of such a row
flow_class : (network : Network) (label : Label) (y : ℕ) (shade : Shade) (from to : GridPen) (rest : List ℕ)
    → ribbon_line network (record { label = label; y = y; shade = shade; from = from; to = to }) ≡ flow_stroke ++ rest → is_flow label ≡ true
unfolding stroke_part
flow_class network (labels.Flow vl device) y shade from to rest same = refl
flow_class network (labels.Flows vl count) y shade from to rest same = refl
flow_class network (labels.Count kinds.Event) y shade from to rest same = let octet = ap (octet_at 13) same in absurd (omega (arith, octet))
flow_class network label y shade from to rest same = let octet = ap (octet_at 13) same in absurd (omega (arith, octet))

-- and one whose line says that a frame is missing has that shade
missing_class : (network : Network) (label : Label) (y : ℕ) (shade : Shade) (from to : GridPen) (rest : List ℕ) → is_flow label ≡ true
    → ribbon_line network (record { label = label; y = y; shade = shade; from = from; to = to }) ≡ codes "<path class=\"flow missing" ++ rest → shade ≡ shades.Missing
unfolding stroke_part
missing_class network (labels.Flow vl device) y shades.Missing from to rest flow same = refl
missing_class network (labels.Flow vl device) y shades.Many from to rest flow same = let octet = ap (octet_at 19) same in absurd (omega (arith, octet))
missing_class network (labels.Flow vl device) y shade from to rest flow same = let octet = ap (octet_at 18) same in absurd (omega (arith, octet))
missing_class network (labels.Flows vl count) y shades.Missing from to rest flow same = refl
missing_class network (labels.Flows vl count) y shades.Many from to rest flow same = let octet = ap (octet_at 19) same in absurd (omega (arith, octet))
missing_class network (labels.Flows vl count) y shade from to rest flow same = let octet = ap (octet_at 18) same in absurd (omega (arith, octet))
missing_class network label y shade from to rest flow same = absurd (false≢true flow)

-- a line that begins so is that of a stroke of such a row
pub stroke_of : (network : Network) (title : List ℕ) (piece : Piece) (rest : List ℕ) → piece_line network title piece ≡ flow_stroke ++ rest
    → (ribbon : Ribbon) × (piece ≡ pieces.Stroke ribbon) × (is_flow ribbon.label ≡ true)
unfolding opening_line title_line heading_line extent_line records_part sign_line caption_line caption_part spread_line tick_line tick_part bar_line bar_part rail_part
stroke_of network title (pieces.Stroke ribbon) rest same =
    (ribbon, refl, flow_class network ribbon.label ribbon.y ribbon.shade ribbon.from ribbon.to rest same)
stroke_of network title (pieces.Bar pen width height apart) rest same = let octet = ap (octet_at 13) same in absurd (omega (arith, octet))
stroke_of network title (pieces.Shared signs.Style) rest same = let octet = ap (octet_at 1) same in absurd (omega (arith, octet))
stroke_of network title piece rest same = let octet = ap (octet_at 1) same in absurd (omega (arith, octet))

-- a line of a stroke that says so
pub missing_of : (network : Network) (ribbon : Ribbon) (rest : List ℕ) → is_flow ribbon.label ≡ true
    → ribbon_line network ribbon ≡ codes "<path class=\"flow missing" ++ rest → ribbon.shade ≡ shades.Missing
missing_of network ribbon rest flow same = missing_class network ribbon.label ribbon.y ribbon.shade ribbon.from ribbon.to rest flow same

-- a line that says that a frame is missing begins as that of a stroke of frames
pub missing_flow : (rest : List ℕ) → codes "<path class=\"flow missing" ++ rest ≡ flow_stroke ++ (codes "missing" ++ rest)
missing_flow rest = refl

-- the row is one of devices
abbrev pub is_lane : Label → Bool
is_lane (labels.Lane device) = true
is_lane (labels.Others synchronised off) = true
is_lane label = false

lane_class : (network : Network) (label : Label) (y : ℕ) (shade : Shade) (from to : GridPen) (rest : List ℕ)
    → ribbon_line network (record { label = label; y = y; shade = shade; from = from; to = to }) ≡ codes "<path class=\"lane " ++ rest → is_lane label ≡ true
unfolding stroke_part
lane_class network (labels.Lane device) y shade from to rest same = refl
lane_class network (labels.Others synchronised off) y shade from to rest same = refl
lane_class network (labels.Count kinds.Event) y shade from to rest same = let octet = ap (octet_at 13) same in absurd (omega (arith, octet))
lane_class network label y shade from to rest same = let octet = ap (octet_at 13) same in absurd (omega (arith, octet))

-- a line that begins so is that of a stroke of such a row
pub lane_of : (network : Network) (title : List ℕ) (piece : Piece) (rest : List ℕ) → piece_line network title piece ≡ codes "<path class=\"lane " ++ rest
    → (ribbon : Ribbon) × (piece ≡ pieces.Stroke ribbon) × (is_lane ribbon.label ≡ true)
unfolding opening_line title_line heading_line extent_line records_part sign_line caption_line caption_part spread_line tick_line tick_part bar_line bar_part rail_part
lane_of network title (pieces.Stroke ribbon) rest same =
    (ribbon, refl, lane_class network ribbon.label ribbon.y ribbon.shade ribbon.from ribbon.to rest same)
lane_of network title (pieces.Bar pen width height apart) rest same = let octet = ap (octet_at 13) same in absurd (omega (arith, octet))
lane_of network title (pieces.Shared signs.Style) rest same = let octet = ap (octet_at 1) same in absurd (omega (arith, octet))
lane_of network title piece rest same = let octet = ap (octet_at 1) same in absurd (omega (arith, octet))

-- the row is one of a way
abbrev pub is_passage : Label → Bool
is_passage (labels.Passage link way) = true
is_passage label = false

passage_class : (network : Network) (label : Label) (y : ℕ) (shade : Shade) (from to : GridPen) (rest : List ℕ)
    → ribbon_line network (record { label = label; y = y; shade = shade; from = from; to = to }) ≡ codes "<path class=\"passage " ++ rest → is_passage label ≡ true
unfolding stroke_part
passage_class network (labels.Passage link way) y shade from to rest same = refl
passage_class network (labels.Count kinds.Event) y shade from to rest same = let octet = ap (octet_at 13) same in absurd (omega (arith, octet))
passage_class network label y shade from to rest same = let octet = ap (octet_at 13) same in absurd (omega (arith, octet))

-- a line that begins so is that of a stroke of such a row
pub passage_of : (network : Network) (title : List ℕ) (piece : Piece) (rest : List ℕ) → piece_line network title piece ≡ codes "<path class=\"passage " ++ rest
    → (ribbon : Ribbon) × (piece ≡ pieces.Stroke ribbon) × (is_passage ribbon.label ≡ true)
unfolding opening_line title_line heading_line extent_line records_part sign_line caption_line caption_part spread_line tick_line tick_part bar_line bar_part rail_part
passage_of network title (pieces.Stroke ribbon) rest same =
    (ribbon, refl, passage_class network ribbon.label ribbon.y ribbon.shade ribbon.from ribbon.to rest same)
passage_of network title (pieces.Bar pen width height apart) rest same = let octet = ap (octet_at 13) same in absurd (omega (arith, octet))
passage_of network title (pieces.Shared signs.Style) rest same = let octet = ap (octet_at 1) same in absurd (omega (arith, octet))
passage_of network title piece rest same = let octet = ap (octet_at 1) same in absurd (omega (arith, octet))

-- The line of each piece of a picture.
use Rattle.std.specs.Prelude.{◌++◌, ◌/◌, List, None, Option, Some, codes, decimal, ℕ}
use Rattle.lens_overview.specs.{Labels.{group_word, kind_word, label_word}, Shades.shade_word, Signs.sign_line}
use Rattle.lens_overview.specs.declared.{grid.{Grid.Grid, GridPen.GridPen}, label.Label.Label, pieces.{Piece.Piece, Ribbon.Ribbon}}
use Rattle.lens_svg.specs.{Elements.opening_line, Numbers.micros_text, Titles.{heading_line, title_line}}
use Rattle.net_plan.specs.{Belonging.{device_name, link_name, vl_name}, declared.network.Network.Network}
use Rattle.{trace_text.specs.EventWords.way_text, tte_units.specs.Amount.amount}
use Rattle.lens_overview.specs.declared.label.Label.TheVariants as labels
use Rattle.lens_overview.specs.declared.pieces.Piece.TheVariants as pieces

-- what a row shows
unfoldable pub label_text : Network → Label → List ℕ
label_text network (labels.Title group) = group_word group
label_text network (labels.Count kind) = kind_word kind
label_text network (labels.Lane device) = device_name network device
label_text network (labels.Others synchronised off) =
    codes "others: " ++ decimal synchronised ++ codes " synchronised, " ++ decimal off ++ codes " off"
label_text network (labels.Passage link way) = link_name network link ++ codes " " ++ way_text way
label_text network (labels.Flow vl device) = vl_name network vl ++ codes " to " ++ device_name network device
label_text network (labels.Flows vl count) = vl_name network vl ++ codes " to " ++ decimal count ++ codes " receivers"

-- of what the picture is, and of how many records
unfoldable pub records_part : ℕ → List ℕ
records_part records = codes "<text class=\"note\" x=\"12\" y=\"39\">the whole run, records " ++ decimal records

-- the same, and the precision
unfoldable pub extent_line : ℕ → ℕ → List ℕ
extent_line records precision =
    records_part records ++ codes ", precision " ++ micros_text precision ++ codes " us</text>\n"

-- how many columns there are, and of how many cycles
unfoldable pub caption_part : Grid → List ℕ
caption_part grid =
    codes "<text class=\"note\" x=\"12\" y=\"84\">columns " ++ decimal grid.columns ++ codes ", of cycles "
    ++ decimal grid.cycles

-- the same, and how long a cycle is
unfoldable pub caption_line : Network → Grid → List ℕ
caption_line network grid =
    caption_part grid ++ codes ", each of " ++ micros_text (amount network.cycle)
    ++ codes " us. Numbers are cycles. The thicker a stroke, the more events or frames.</text>\n"

-- how far apart clocks are, in whole nanoseconds, rounded down
unfoldable pub apart_text : ℕ → List ℕ
apart_text apart = decimal (apart / 65536) ++ codes " ns"

-- the greatest spread
unfoldable pub greatest_text : Option ℕ → List ℕ
greatest_text (Some greatest) = codes "spread of clocks up to " ++ apart_text greatest
greatest_text None = codes "no spread of clocks"

-- it and the precision
unfoldable pub spread_line : Network → Option ℕ → List ℕ
spread_line network greatest =
    codes "<g><text class=\"name lane\" x=\"192\" y=\"104\">" ++ greatest_text greatest
    ++ codes "</text><text class=\"name title\" x=\"192\" y=\"118\">of precision "
    ++ apart_text (amount network.precision) ++ codes "</text></g>\n"

-- a line between two columns, down to here, and the number of the cycle that begins there, above
unfoldable pub tick_part : GridPen → ℕ → List ℕ
tick_part pen down =
    codes "<g><path class=\"tick\" d=\"M" ++ decimal pen.x ++ codes " 146 V" ++ decimal down
    ++ codes "\"/><text class=\"time\" x=\"" ++ decimal pen.x ++ codes "\" y=\"142\">" ++ decimal pen.cycle

-- the same, and the number below
unfoldable pub tick_line : GridPen → ℕ → List ℕ
tick_line pen down =
    tick_part pen down ++ codes "</text><text class=\"time\" x=\"" ++ decimal pen.x ++ codes "\" y=\""
    ++ decimal down ++ codes "\" dy=\"10\">" ++ decimal pen.cycle ++ codes "</text></g>\n"

-- a bar so wide and so high
unfoldable pub bar_part : GridPen → ℕ → ℕ → List ℕ
bar_part pen width height =
    codes "<path class=\"bar\" d=\"M" ++ decimal pen.x ++ codes " 130 h" ++ decimal width ++ codes " v-"
    ++ decimal height ++ codes " h-" ++ decimal width

-- the same, and what it says
unfoldable pub bar_line : GridPen → ℕ → ℕ → ℕ → List ℕ
bar_line pen width height apart =
    bar_part pen width height ++ codes " z\"><title>spread " ++ apart_text apart ++ codes " from cycle "
    ++ decimal pen.cycle ++ codes "</title></path>\n"

-- the line of a row, so far down, up to here
unfoldable pub rail_part : Label → ℕ → ℕ → List ℕ
rail_part label y right =
    codes "<g transform=\"translate(0," ++ decimal y ++ codes ")\"><path class=\"rail " ++ label_word label
    ++ codes "\" d=\"M200 0 H" ++ decimal right ++ codes "\"/>"

-- the beginning of its name beside that
unfoldable pub class_part : Label → List ℕ
class_part label = codes "<text class=\"name " ++ label_word label ++ codes "\" x=\"192\" y=\"3\">"

-- its name
unfoldable pub name_part : Network → Label → List ℕ
name_part network label = class_part label ++ label_text network label ++ codes "</text></g>\n"

-- the line and the name of a row
abbrev pub name_line : Network → Label → ℕ → ℕ → List ℕ
name_line network label y right = rail_part label y right ++ name_part network label

-- a stroke along a row, from one column to another
unfoldable pub stroke_part : Ribbon → List ℕ
stroke_part ribbon =
    codes "<path class=\"" ++ label_word ribbon.label ++ codes " " ++ shade_word ribbon.shade ++ codes "\" d=\"M"
    ++ decimal ribbon.from.x ++ codes " " ++ decimal ribbon.y ++ codes " H" ++ decimal ribbon.to.x ++ codes "\">"

-- from which cycle on it is there, and before which it ends
unfoldable pub cycles_part : Ribbon → List ℕ
cycles_part ribbon =
    codes " from cycle " ++ decimal ribbon.from.cycle ++ codes " until " ++ decimal ribbon.to.cycle
    ++ codes "</title></path>\n"

-- its shade, and its cycles
unfoldable pub shade_part : Ribbon → List ℕ
shade_part ribbon = codes " " ++ shade_word ribbon.shade ++ cycles_part ribbon

-- what it says
unfoldable pub title_part : Network → Ribbon → List ℕ
title_part network ribbon = codes "<title>" ++ label_text network ribbon.label ++ shade_part ribbon

-- the line of a ribbon
abbrev pub ribbon_line : Network → Ribbon → List ℕ
ribbon_line network ribbon = stroke_part ribbon ++ title_part network ribbon

-- the line of a piece of the picture of this title
abbrev pub piece_line : Network → List ℕ → Piece → List ℕ
piece_line network title (pieces.Opening width height) = opening_line width height
piece_line network title pieces.Title = title_line title
piece_line network title pieces.Heading = heading_line title
piece_line network title (pieces.Extent records) = extent_line records (amount network.precision)
piece_line network title (pieces.Shared sign) = sign_line sign
piece_line network title (pieces.Caption grid) = caption_line network grid
piece_line network title (pieces.Spread greatest) = spread_line network greatest
piece_line network title (pieces.Tick pen down) = tick_line pen down
piece_line network title (pieces.Bar pen width height apart) = bar_line pen width height apart
piece_line network title (pieces.Name label y right) = name_line network label y right
piece_line network title (pieces.Stroke ribbon) = ribbon_line network ribbon

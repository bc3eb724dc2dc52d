-- All parts of the picture of a network.
use Rattle.std.specs.Prelude.{◌*◌, ◌++◌, ◌+◌, ◌==◌, ◌^◌, ◌∷◌, ◌≡◌, ◌≤◌, List, [], if◌then◌else◌, length, map, max, ℕ}
use Rattle.lens_schedule.specs.{Frames.frame_of, Lanes.{column_by, column_of, lanes_before, lanes_of, port_number}}
use Rattle.lens_schedule.specs.{Scale.scale_of, Tree.{AreTwigs, twigs_before}, Zones.{stretches, zone_of}}
use Rattle.lens_schedule.specs.declared.{lanes.Lane.Lane, picture.Sheet.Sheet, scale.Scale.Scale, tree.Twig.Twig}
use Rattle.lens_schedule.specs.declared.zones.CycleStretch.{CycleStretch}
use Rattle.lens_schedule.specs.declared.part.SchedulePart.{SchedulePart, TheVariants.{Bare, Caption, Close, Head, Heading, Opening}}
use Rattle.lens_svg.specs.declared.element.PicturePoint.{PicturePoint}
use Rattle.{net_plan.specs.declared.network.Network.Network, schedule_tables.specs.declared.entry.Entry.Entry}
use Rattle.tte_units.specs.declared.frames.channel.Channel.{Channel, TheVariants.{A, B}}
use Rattle.lens_schedule.specs.declared.part.SchedulePart.TheVariants as parts

-- how far down a row of the trees is
abbrev pub tree_y : ℕ → ℕ
tree_y row = 84 + 13 * row

-- the lanes begin and end below the longer tree
abbrev pub top_of : List Twig → List Twig → ℕ
top_of a b = tree_y (max (length a) (length b)) + 30

-- how many lanes the column has
abbrev pub lanes_in : Network → List Lane → ℕ → ℕ
lanes_in network lanes column = lanes_before lanes column (2 * length network.link)

abbrev pub bottom_of : Network → List Lane → ℕ → ℕ
bottom_of network lanes top =
    top + 20 * max (lanes_in network lanes (column_of A)) (lanes_in network lanes (column_of B))

abbrev pub sheet_of : Network → List Lane → List Twig → List Twig → Sheet
sheet_of network lanes a b =
    let top = top_of a b in
    record { top = top; bottom = bottom_of network lanes top }

-- far less than numbers go
pub record IsSmall (sheet : Sheet) : Type 0 where
  pub top : sheet.top ≤ 2 ^ 46
  pub bottom : sheet.bottom ≤ 2 ^ 50

-- a device in the tree of its channel, among these
abbrev pub twig_part : List Twig → Twig → SchedulePart
twig_part twigs twig =
    parts.Twig twig (record { x = twig.x; y = tree_y (twigs_before twigs twig.place) })
    (tree_y (twigs_before twigs twig.parent))

-- where the lane of a port begins
abbrev pub lane_place : List Lane → ℕ → ℕ → ℕ → PicturePoint
lane_place lanes top column port = record { x = column; y = top + 20 * lanes_before lanes column port }

-- a port in its lane
abbrev pub lane_part : List Lane → ℕ → Lane → SchedulePart
lane_part lanes top lane = parts.Lane lane (lane_place lanes top lane.column (port_number lane.link lane.way))

-- a row's frame in the lane of its port
abbrev pub frame_part : Network → Scale → List Lane → ℕ → Entry → SchedulePart
frame_part network scale lanes top entry =
    parts.Frame (frame_of network scale
    (lane_place lanes top (column_by network entry.row.link) (port_number entry.row.link entry.row.way)) entry)

-- the stretches of the cycle in the column of a channel
abbrev pub zone_part : Network → Scale → Sheet → ℕ → CycleStretch → SchedulePart
zone_part network scale sheet column stretch =
    parts.Zone (zone_of network scale column sheet.top sheet.bottom stretch)

abbrev pub zone_parts : Network → Scale → Sheet → Channel → List SchedulePart
zone_parts network scale sheet channel = map (zone_part network scale sheet (column_of channel)) stretches

-- the cycle with its frames, or that there are none
abbrev pub full_parts : Network → Scale → List Entry → List Lane → Sheet → List SchedulePart
full_parts network scale entries lanes sheet =
    zone_parts network scale sheet A ++ zone_parts network scale sheet B
    ++ map (lane_part lanes sheet.top) lanes ++ map (frame_part network scale lanes sheet.top) entries

abbrev pub cycle_parts : Network → List Entry → List Lane → Sheet → List SchedulePart
cycle_parts network entries lanes sheet =
    if length entries == 0
    then Bare sheet.top ∷ []
    else full_parts network (scale_of network entries) entries lanes sheet

-- how wide and how high the picture is, what each picture has, and the numbers of the network
abbrev pub front_parts : Sheet → ℕ → List SchedulePart
front_parts sheet rows = Opening 1900 (sheet.bottom + 40) ∷ parts.Title ∷ Head ∷ Heading ∷ Caption rows ∷ []

-- the picture of the network with these rows, these lanes and these trees of its channels
abbrev pub parts_of : Network → List Entry → List Lane → List Twig → List Twig → List SchedulePart
parts_of network entries lanes a b =
    let sheet = sheet_of network lanes a b in
    front_parts sheet (length entries) ++ map (twig_part a) a ++ map (twig_part b) b
    ++ cycle_parts network entries lanes sheet ++ Close ∷ []

-- the lanes are those of the rows
abbrev pub picture_of : Network → List Entry → List Twig → List Twig → List SchedulePart
picture_of network entries a b = parts_of network entries (lanes_of network entries) a b

-- these parts are the picture of the network with these rows
pub record IsPicture (network : Network) (entries : List Entry) (parts : List SchedulePart) : Type 0 where
  pub a : List Twig
  pub b : List Twig
  pub of_a : AreTwigs network A a
  pub of_b : AreTwigs network B b
  pub is : parts ≡ picture_of network entries a b

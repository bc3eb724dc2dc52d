-- Where an instant stands in a picture.
use Rattle.std.specs.Prelude.{ℕ, ◌+◌, ◌-◌, ◌/◌, ◌≤◌, nat_lt, if◌then◌else◌, Bool, true, false}
use Rattle.lens_svg.specs.declared.layout.{Pen.Pen, Side.{Side, TheVariants.{Before, Behind, Passed, Within}}, Span.Span}

-- how many pixels wide a picture is at most
abbrev pub widest : ℕ
widest = 65536

-- the greatest number of a time
abbrev pub last_time : ℕ
last_time = 18446744073709551615

-- the whole run
abbrev pub whole : Span
whole = record { from = 0; to = last_time }

-- the time is before the span, in it with both its ends, or behind it
abbrev pub side_of : Span → ℕ → Side
side_of span time = if nat_lt time span.from then Before else if nat_lt span.to time then Behind else Within

-- the time is in the span
abbrev pub is_within : Side → Bool
is_within Before = false
is_within Within = true
is_within Passed = false
is_within Behind = false

abbrev pub holds : Span → ℕ → Bool
holds span time = is_within (side_of span time)

-- so many pixels, and at least 26 and at most 78
abbrev pub clamped : ℕ → ℕ
clamped pixels = if nat_lt pixels 26 then 26 else if nat_lt 78 pixels then 78 else pixels

-- how many pixels lie between two instants: one for 30,000,000 units, within these bounds
abbrev pub gap : ℕ → ℕ → ℕ
gap from to = if nat_lt from to then clamped ((to - from) / 30000000) else 0

-- no farther to the right than a picture may be wide
abbrev pub capped : ℕ → ℕ
capped x = if nat_lt x widest then x else widest

-- the pen where a picture from this time on begins
abbrev pub pen_at : ℕ → Pen
pen_at from = record { x = 170; time = from; most = 170 }

-- the pen at a time: a later one stands by the gap to the right of all marks of the one before, and none farther than a
-- picture may be wide
abbrev pub moved : Pen → ℕ → Pen
moved pen time =
    let x = capped (pen.most + gap pen.time time) in
    if nat_lt pen.time time then record { x = x; time = time; most = x } else pen

-- a mark stands where its instant does, or 14 pixels to the right of the last one of its row that stands there
abbrev pub stand : Pen → ℕ → ℕ
stand pen last = if nat_lt last pen.x then pen.x else capped (last + 14)

-- the pen with a mark that stands here
abbrev pub reached : Pen → ℕ → Pen
reached pen x = record pen { most = if nat_lt pen.most x then x else pen.most }

-- it is there
pub record IsOnPaper (pen : Pen) : Type 0 where
  pub x : pen.x ≤ widest
  pub most : pen.most ≤ widest

-- where the lanes end behind the last instant
abbrev pub right_of : Pen → ℕ
right_of pen = if nat_lt pen.most 810 then 940 else pen.most + 130

-- how wide the picture is
abbrev pub width_of : Pen → ℕ
width_of pen = right_of pen + 20

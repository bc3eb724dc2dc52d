-- The shades of cells.
use Rattle.std.specs.Prelude.{◌==◌, Bool, List, None, Option, Some, codes, if◌then◌else◌, nat_lt, ℕ}
use Rattle.{lens_overview.specs.declared.shade.Shade.Shade, sync_state.specs.declared.state.State.State}
use Rattle.tte_units.specs.declared.frames.channel.Channel.{Channel, TheVariants.{A, B}}
use Rattle.lens_overview.specs.declared.shade.Shade.TheVariants as shades
use Rattle.sync_state.specs.declared.state.State.TheVariants as states

-- the number of a shade, which no two have; of those of a frame a worse one has the greater
abbrev pub code_of : Shade → ℕ
code_of shades.Blank = 0
code_of shades.Both = 1
code_of shades.AloneB = 2
code_of shades.AloneA = 3
code_of shades.Missing = 4
code_of shades.Off = 5
code_of shades.Integrating = 6
code_of shades.Joining = 7
code_of shades.Synchronised = 8
code_of shades.Broken = 9
code_of shades.Cut = 10
code_of shades.One = 11
code_of shades.Two = 12
code_of shades.Three = 13
code_of shades.Many = 14

-- they are one shade
abbrev pub is_same : Shade → Shade → Bool
is_same first second = code_of first == code_of second

-- there is nothing to be drawn
abbrev pub is_blank : Shade → Bool
is_blank shade = is_same shade shades.Blank

-- the worse of two shades of a frame: by none is worse than by one channel, and that than by both
abbrev pub worse : Shade → Shade → Shade
worse first second = if nat_lt (code_of first) (code_of second) then second else first

-- one, two, three or more records
abbrev pub more : Shade → Shade
more shade =
    if is_blank shade then shades.One
    else if is_same shade shades.One then shades.Two
    else if is_same shade shades.Two then shades.Three
    else shades.Many

-- a frame with one more copy by a channel: `alone` is that of the channel, and `other` that of the other one
abbrev pub with_copy : Shade → Shade → Shade → Shade
with_copy shade alone other =
    if is_blank shade then alone else if is_same shade other then shades.Both else shade

-- a frame that is delivered by the channel
abbrev pub delivered : Shade → Option Channel → Shade
delivered shade (Some A) = with_copy shade shades.AloneA shades.AloneB
delivered shade (Some B) = with_copy shade shades.AloneB shades.AloneA
delivered shade None = shade

-- a frame of which a second copy comes by the channel, where it is delivered
abbrev pub repeated : Shade → Option Channel → Shade
repeated shade channel = if is_blank shade then shade else delivered shade channel

-- of a state
abbrev pub shade_of : State → Shade
shade_of states.Off = shades.Off
shade_of states.Integrating = shades.Integrating
shade_of states.Joining = shades.Joining
shade_of states.Synchronised = shades.Synchronised

-- the word of a shade
abbrev pub shade_word : Shade → List ℕ
shade_word shades.Blank = codes "blank"
shade_word shades.Both = codes "both"
shade_word shades.AloneB = codes "alone_b"
shade_word shades.AloneA = codes "alone_a"
shade_word shades.Missing = codes "missing"
shade_word shades.Off = codes "off"
shade_word shades.Integrating = codes "integrating"
shade_word shades.Joining = codes "joining"
shade_word shades.Synchronised = codes "synchronised"
shade_word shades.Broken = codes "broken"
shade_word shades.Cut = codes "cut"
shade_word shades.One = codes "one"
shade_word shades.Two = codes "two"
shade_word shades.Three = codes "three"
shade_word shades.Many = codes "many"

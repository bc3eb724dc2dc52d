-- What the values of a network file mean.
use Rattle.std.specs.{List.list_all, Prelude.{if◌then◌else◌, length, nat_le, negsuc, pos, ℕ, ℤ}}
use Rattle.std.specs.Prelude.{◌&&◌, ◌==◌, Bool, Err, List, None, Ok, Option, Result, Some, bytes_eq, codes}
use Rattle.{byteorder.specs.Endian.big_number, net_plan.specs.declared.tables.{Role.Role, Way.Way}}
use Rattle.{hex.specs.Hex.decode_sized, tte_units.specs.declared.frames.channel.Channel.{Channel, TheVariants.{A, B}}}
use Rattle.{hex.specs.declared.error.FromHexError.FromHexError, net_plan.specs.NameText.is_name_character}
use Rattle.net_plan.specs.declared.tables.{Role.TheVariants.{Client, Cm, Master, Relay}, Way.TheVariants.{Down, Up}}
use Rattle.tte_units.specs.declared.speed.Speed.{Speed, TheVariants.{Gbit1, Mbit100}}

-- a whole number from low to high
abbrev pub number_within : ℕ → ℕ → ℤ → Option ℕ
number_within low high (pos n) = if nat_le low n && nat_le n high then Some n else None
number_within low high (negsuc n) = None

-- the number that octets spell, the greatest first
abbrev pub number_spelled : ℕ → Result (List ℕ) FromHexError → Option ℕ
number_spelled count (Ok octets) = Some (big_number count octets)
number_spelled count (Err e) = None

-- the number of a text of hexadecimal digits, of either case, for so many octets
abbrev pub hex_number : ℕ → List ℕ → Option ℕ
hex_number count text = number_spelled count (decode_sized text count)

-- 1 to 16 characters of names
abbrev pub is_name_text : List ℕ → Bool
is_name_text text = nat_le 1 (length text) && nat_le (length text) 16 && list_all is_name_character text

-- a name of a device, a link or a virtual link
abbrev pub name_of : List ℕ → Option (List ℕ)
name_of text = if is_name_text text then Some text else None

-- a device's role
abbrev pub role_of : List ℕ → Option Role
role_of text =
    if bytes_eq text (codes "master") then Some Master
    else if bytes_eq text (codes "client") then Some Client
    else if bytes_eq text (codes "cm") then Some Cm
    else if bytes_eq text (codes "relay") then Some Relay
    else None

-- a switch's channel
abbrev pub channel_of : List ℕ → Option Channel
channel_of text =
    if bytes_eq text (codes "a") then Some A
    else if bytes_eq text (codes "b") then Some B
    else None

-- one of the ways of a link
abbrev pub way_of : List ℕ → Option Way
way_of text =
    if bytes_eq text (codes "up") then Some Up
    else if bytes_eq text (codes "down") then Some Down
    else None

-- the speed of a link, in Mbit/s
abbrev pub speed_of : ℤ → Option Speed
speed_of (pos n) = if n == 100 then Some Mbit100 else if n == 1000 then Some Gbit1 else None
speed_of (negsuc n) = None

-- the number, if it is there and not this one
abbrev pub other_than : ℕ → Option ℕ → Option ℕ
other_than k None = None
other_than k (Some n) = if n == k then None else Some n

-- an EtherType of time-triggered frames: 35,101 is that of protocol control frames
abbrev pub ethertype_of : ℤ → Option ℕ
ethertype_of z = other_than 35101 (number_within 1536 65535 z)

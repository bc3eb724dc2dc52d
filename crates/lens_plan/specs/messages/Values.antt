-- The values of the words of a message's line.
use Rattle.std.specs.{List.list_all, Option.{option_and_then, option_map, option_map_or}, Str.bytes_eq}
use Rattle.std.specs.Prelude.{◌%◌, ◌&&◌, ◌*◌, ◌-◌, ◌/◌, ◌==◌, ◌^◌, Bool, List, None, Option, Some, codes, drop, false}
use Rattle.std.specs.Prelude.{if◌then◌else◌, length, nat_le, take, ℕ}
use Rattle.net_plan.specs.{NameText.is_name_character, Places.{device_at, is_end_system}}
use Rattle.net_plan.specs.declared.{ids.DeviceId.DeviceId, network.Network.Network}
use Rattle.trace_text.specs.{Names.device_spelled, Numbers.number_up_to}

-- the number, if it is no less
abbrev pub at_least : ℕ → ℕ → Option ℕ
at_least least n = if nat_le least n then Some n else None

-- a number in decimal without leading zeros, from the least to the most
unfoldable pub number_between : ℕ → ℕ → List ℕ → Option ℕ
number_between least most text = option_and_then (at_least least) (number_up_to most text)

-- the latest place in a cycle, in units of 2^-16 ns
abbrev pub latest : ℕ
latest = 2 ^ 40

-- so many of the unit, in units of 2^-16 ns, if that is at most this
unfoldable pub in_unit : ℕ → ℕ → List ℕ → Option ℕ
in_unit most unit digits = option_map (λ n. n * unit) (number_between 0 (most / unit) digits)

-- a time of at most this: a number of units, or of ns, us or ms with that word right behind it
unfoldable pub time_spelled : ℕ → List ℕ → Option ℕ
time_spelled most text =
    let digits = take (length text - 2) text in
    let unit = drop (length text - 2) text in
    if bytes_eq unit (codes "ns") then in_unit most 65536 digits
    else if bytes_eq unit (codes "us") then in_unit most 65536000 digits
    else if bytes_eq unit (codes "ms") then in_unit most 65536000000 digits
    else in_unit most 1 text

-- a period of cycles: 1, 2, 4, 8, 16, 32 or 64, the divisors of 64
unfoldable pub period_spelled : List ℕ → Option ℕ
period_spelled text = option_and_then (λ n. if 64 % n == 0 then Some n else None) (number_between 1 64 text)

-- 1 to 16 characters of names
unfoldable pub is_name_text : List ℕ → Bool
is_name_text text = nat_le 1 (length text) && nat_le (length text) 16 && list_all is_name_character text

-- is the device an end system?
abbrev pub is_end : Network → DeviceId → Bool
is_end network device = option_map_or (λ d. is_end_system d.role) (device_at network device) false

-- the end system of this name
unfoldable pub end_system_spelled : Network → List ℕ → Option DeviceId
end_system_spelled network text =
    option_and_then (λ d. if is_end network d then Some d else None) (device_spelled network text)

-- Which events have a line.
use Rattle.std.specs.Prelude.{◌≤ℤ◌, ◌≤◌, List, length, neg_ℤ, pos, ℕ, ⊤}
use Rattle.{hex.specs.Hex.IsBytes, net_plan.specs.Ranges.IsWithin, trace_text.specs.Numbers.{fastest, latest}}
use Rattle.{net_plan.specs.declared.event.Event.Event, tte_units.specs.declared.{rates.Ppb.Ppb, units.Units.Units}}
use Rattle.net_plan.specs.declared.event.What.{TheVariants.{Break, Cut, End, Heal, Hold, On, Rate, Send, Wire}, What}

-- a time of a trace, in units
abbrev pub IsTime : Units → Type 0
IsTime units = IsWithin 0 latest units

-- a rate of a trace, in parts per 10^9
pub record IsRate (rate : Ppb) : Type 0 where
  pub least : neg_ℤ (pos fastest) ≤ℤ rate.0
  pub most : rate.0 ≤ℤ pos fastest

-- the octets of a frame, without its check sequence
pub record IsFrame (octets : List ℕ) : Type 0 where
  pub bytes : IsBytes octets
  pub least : 60 ≤ length octets
  pub most : length octets ≤ 1514

-- the numbers of what befalls the network lie in their ranges
abbrev pub IsWhatInRange : What → Type 0
IsWhatInRange (Rate device rate) = IsRate rate
IsWhatInRange (Wire link way delay) = IsTime delay
IsWhatInRange (Hold link way delay) = IsTime delay
IsWhatInRange (Cut link way) = ⊤
IsWhatInRange (Heal link way) = ⊤
IsWhatInRange (On device) = ⊤
IsWhatInRange (Break device) = ⊤
IsWhatInRange (Send link octets) = IsFrame octets
IsWhatInRange End = ⊤

-- the numbers of the event lie in their ranges
pub record IsEventInRange (event : Event) : Type 0 where
  pub time : IsTime event.time
  pub what : IsWhatInRange event.what

-- What a record has put on a wire, as a world shows it.
use Rattle.std.specs.Prelude.{◌<◌, ◌≡◌, IfSome, List, None, Option, Some, length, option_map, ℕ}
use Rattle.run_law.specs.{control.Wires.{Signal, launched}, records.Happenings.{Happening, numbered, time_of}}
use Rattle.run_law.specs.{records.Ranks.rank, scenario.Scenarios.Scenario}
use Rattle.world_state.specs.declared.contents.{Content.{Content, TheVariants.{Port, Wire}}, Signal.Signal as Sent}

-- what the record put on a wire, where it put some there
abbrev pub put_by : Scenario → Happening → Option Signal
put_by s h = option_map (λ l. l.signal) (launched s h (time_of h) h.note.body)

-- then it was on a link of the network
abbrev pub IsOnOwnLink : Scenario → Happening → Type 0
IsOnOwnLink s h = IfSome (launched s h (time_of h) h.note.body) (λ l. l.link.0 < length s.network.link)

-- the record of this number is of this time, behind those of its events
pub record IsOfNow (hs : List Happening) (now number : ℕ) (h : Happening) : Type 0 where
  pub there : numbered hs number ≡ Some h
  pub at : time_of h ≡ now
  pub behind : 2 < rank h.note.body

-- what is on a wire, of what is under way
abbrev pub on_wire_in : Option Content → Option Sent
on_wire_in None = None
on_wire_in (Some (Wire signal)) = Some signal
on_wire_in (Some (Port frame reading)) = None

-- Where the lines of a report's records begin, and the records by their numbers.
use Rattle.std.specs.Prelude.{◌≡◌, ◌≤◌, List, None, Option, Some, drop, length, slice_get, suc, zero, ℕ}
use Rattle.{net_plan.specs.declared.network.Network.Network, run_law.specs.declared.note.Note.Note}
use Rattle.tte_reports.specs.Reports.{AreLines}

-- the record of this number, from 1; 0 is the number of none
abbrev pub note_at : List Note → ℕ → Option Note
note_at ns zero = None
note_at ns (suc before) = slice_get ns before

-- at this place of the octets the lines of the records behind so many begin
pub record BeginsAt (network : Network) (octets : List ℕ) (notes : List Note) (before place : ℕ) : Type 0 where
  pub within : place ≤ length octets
  pub lines : AreLines network (drop place octets) (drop before notes)

-- these are the places where the lines of the records begin, one after another
pub record ArePlaces (network : Network) (octets : List ℕ) (notes : List Note) (places : List ℕ) : Type 0 where
  pub count : length places ≡ length notes
  pub each : (before place : ℕ) → slice_get places before ≡ Some place → BeginsAt network octets notes before place

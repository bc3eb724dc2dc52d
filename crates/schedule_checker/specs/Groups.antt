-- Rows in groups, by the virtual link and by the link that they name.
use Rattle.std.specs.{List.Contains, Option.option_map_or, Prelude.{◌≡◌, List, Some, [], slice_get, ℕ}}
use Rattle.net_plan.specs.declared.ids.{LinkId.LinkId, VlId.VlId}
use Rattle.schedule_tables.specs.{Entries.AreEntries, declared.entry.Entry.Entry}
use Rattle.schedule_checker.specs.declared.{both_channels.Kin.Kin, groups.{Groups.Groups, RowPlaces.RowPlaces}}

-- the places in the group of the number
abbrev pub places_in : RowPlaces → ℕ → List ℕ
places_in places number = option_map_or (λ group. group.items) (slice_get places.groups.items number) []

-- each row of the virtual link stands at one of these places
pub record HasRowsOf (entries : List Entry) (vl : VlId) (places : List ℕ) : Type 0 where
  pub all : (place : ℕ) (entry : Entry) → slice_get entries place ≡ Some entry → entry.row.vl ≡ vl
      → Contains places place

-- each row that goes by the link stands at one of these places
pub record HasRowsBy (entries : List Entry) (link : LinkId) (places : List ℕ) : Type 0 where
  pub all : (place : ℕ) (entry : Entry) → slice_get entries place ≡ Some entry → entry.row.link ≡ link
      → Contains places place

-- each row stands in the groups of its virtual link and of its link
pub record AreGroups (entries : List Entry) (groups : Groups) : Type 0 where
  pub of_vl : (vl : VlId) → HasRowsOf entries vl (places_in groups.by_vl vl.0)
  pub by_link : (link : LinkId) → HasRowsBy entries link (places_in groups.by_link link.0)

-- these are rows of a network, and each of the virtual link is among them
pub record AreKin (kin : Kin) : Type 0 where
  pub entries : AreEntries kin.network.now kin.entries.now
  pub places : HasRowsOf kin.entries.now kin.vl kin.places.now

use Rattle.{net_file.specs.TextPlaces.{place_behind, text_start}, std.{proofs.Common.length, specs.Prelude.{◌+◌, ◌≡◌, ◌≤◌}}}
use Rattle.net_file.proofs.text_place.place_behind_text.Given as goal

abbrev pub invariant-octets : goal.invariant-octets
invariant-octets l =
    (place_behind l.left l.place ≡ place_behind l.text text_start)
    × (l.place.line + length l.left ≤ 262145)
    × (l.place.column + length l.left ≤ 262145)

abbrev pub decreases-octets : goal.decreases-octets
decreases-octets l = length l.left

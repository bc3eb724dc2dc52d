use Rattle.{schedule_checker.specs.Groups.places_in, std.proofs.Common.{◌≡◌, ◌≤◌, length, ℕ}}
use Rattle.schedule_checker.proofs.groups.RowPlaces.make_room.Given as goal

abbrev pub invariant-loop : goal.invariant-loop
invariant-loop l = ((other : ℕ) → places_in l.self other ≡ places_in l.fn.self other) × (l.counter ≤ length l.self.groups.items)

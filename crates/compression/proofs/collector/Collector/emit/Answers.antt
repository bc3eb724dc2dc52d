use Rattle.std.proofs.{Common.{◌≡◌, ◌≤ℤ◌, arith, of_z, to_z, w64}, lemmas.Int.ints}
use Rattle.compression.proofs.Collectors.{IsLeast-first, IsSound-emitted, Stands-emitted}
use Rattle.compression.{specs.{Collecting.Collecting, Emission.emission}}
use Rattle.compression.proofs.collector.Collector.emit.Goals as goal

pub invariant_of-self : goal.invariant_of-self
invariant_of-self c =
    let later = to_z w64 (of_z w64 c.max.result) in
    IsSound-emitted c.remove_first-first.result c.remove_first-first.new.self later c.self.invariant
    c.remove_first-first.ensures (omega (arith, ints, c.max.ensures.self_bound))

pub returns-clause-due : goal.returns-clause-due
returns-clause-due c =
    let v : Collecting = record { ow = c.self.inside.ow.0; calc = c.self.inside.calc.0; earliest = c.self.inside.earliest.0; waiting = c.self.inside.waiting }
    in
    let at : c.compressed-compressed.result.at.0 ≡ emission v.ow v.calc c.remove_first-first.result =
    rw c.compressed-compressed.ensures in
    rw (← c.self.view_is, at) (IsLeast-first c.remove_first-first.result c.remove_first-first.new.self
    c.self.invariant c.remove_first-first.ensures)

pub returns-clause-stands : goal.returns-clause-stands
returns-clause-stands c =
    let v : Collecting = record { ow = c.self.inside.ow.0; calc = c.self.inside.calc.0; earliest = c.self.inside.earliest.0; waiting = c.self.inside.waiting }
    in
    let later = to_z w64 (of_z w64 c.max.result) in
    let at : c.compressed-compressed.result.at.0 ≡ emission v.ow v.calc c.remove_first-first.result =
    rw c.compressed-compressed.ensures in
    let le : c.self.inside.earliest.0 ≤ℤ later = omega (arith, ints, c.max.ensures.self_bound) in
    let past : emission v.ow v.calc c.remove_first-first.result ≤ℤ later =
    omega (arith, ints, c.max.ensures.other_bound) in
    λ points emitted s.
    rw c.compressed-compressed.ensures
    (Stands-emitted c.remove_first-first.result c.remove_first-first.new.self later c.self.invariant
    c.remove_first-first.ensures le past
    (rw c.self.view_is s))

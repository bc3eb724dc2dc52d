use Rattle.std.proofs.Common.{◌∙◌, ◌≡◌, ◌≢◌, ◌⊎◌, ap, arith, inl, inr, refl, subst, sym}
use Rattle.compression.proofs.Collectors.{IsSound-takes, Stands-role_ignored, Stands-role_joined, Stands-role_opened}
use Rattle.compression.proofs.Collectors.{able, last_is_joined, role-whole}
use Rattle.compression.specs.{Clusters.{point_at}, Collecting.{Collecting, with_joined}, Role.role, Row.IsSound}
use Rattle.compression.specs.{declared.taken.Taken.{Taken, TheVariants.{Joined, OtherCycle, Repeat}}}
use Rattle.compression.proofs.collector.Collector.point.Goals as goal

pub offer-taken-requires-clause-last : goal.offer-taken-requires-clause-last
offer-taken-requires-clause-last c =
    let sound : IsSound c.args.self.now = subst IsSound c.self.view_is c.self.invariant in
    rw (ap (λ v. v.waiting) c.self.view_is) (able c.args.reading.0 c.args.master sound c.requires.order c.requires.room)

pub invariant_of-self-in-Joined : goal.invariant_of-self-in-Joined
invariant_of-self-in-Joined c =
    let p = point_at c.args.reading.0 c.args.master c.args.cycle in
    let order = rw (← c.self.view_is) at c.requires.order in
    IsSound-takes p c.offer-taken.new.self c.self.invariant order (sym c.in-Joined.ensures.role)
    (c.in-Joined.ensures.joined refl)

pub returns-in-Opened-clause-role : goal.returns-in-Opened-clause-role
returns-in-Opened-clause-role c =
    let p = point_at c.args.reading.0 c.args.master c.args.cycle in
    λ points emitted clusters s are.
    c.offer-taken.ensures.role ∙ ap (λ v. role v.waiting p) c.self.view_is ∙ role-whole p
    c.requires.order
    clusters s are

pub returns-in-Joined-clause-role : goal.returns-in-Joined-clause-role
returns-in-Joined-clause-role c =
    let p = point_at c.args.reading.0 c.args.master c.args.cycle in
    λ points emitted clusters s are.
    c.offer-taken.ensures.role ∙ ap (λ v. role v.waiting p) c.self.view_is ∙ role-whole p
    c.requires.order
    clusters s are

pub returns-in-Repeat-clause-role : goal.returns-in-Repeat-clause-role
returns-in-Repeat-clause-role c =
    let p = point_at c.args.reading.0 c.args.master c.args.cycle in
    λ points emitted clusters s are.
    c.offer-taken.ensures.role ∙ ap (λ v. role v.waiting p) c.self.view_is ∙ role-whole p
    c.requires.order
    clusters s are

pub returns-in-Opened-clause-stands : goal.returns-in-Opened-clause-stands
returns-in-Opened-clause-stands c =
    search (arith, Stands-role_opened)

pub returns-in-Joined-clause-stands : goal.returns-in-Joined-clause-stands
returns-in-Joined-clause-stands c =
    search (arith, Stands-role_joined)

not_joined : (t : Taken) → (t ≡ Repeat) ⊎ (t ≡ OtherCycle) → t ≢ Joined
not_joined t (inl e) j = cc
not_joined t (inr e) j = cc

pub returns-in-Joined-clause-joins : goal.returns-in-Joined-clause-joins
returns-in-Joined-clause-joins c =
    let p = point_at c.args.reading.0 c.args.master c.args.cycle in
    let v : Collecting = record { ow = c.self.inside.ow.0; calc = c.self.inside.calc.0; earliest = c.self.inside.earliest.0; waiting = c.self.inside.waiting }
    in
    let last = last_is_joined v p c.offer-taken.new.self c.in-Joined.ensures.role (c.in-Joined.ensures.joined refl) in
    λ _. rw last (ap (λ u. with_joined u p) c.self.view_is)

pub returns-in-Repeat-clause-stands : goal.returns-in-Repeat-clause-stands
returns-in-Repeat-clause-stands c =
    search (arith, not_joined, Stands-role_ignored)

pub returns-in-Joined-clause-few : goal.returns-in-Joined-clause-few
returns-in-Joined-clause-few c =
    let p = point_at c.args.reading.0 c.args.master c.args.cycle in
    let order = rw (← c.self.view_is) at c.requires.order in
    let joins = c.in-Joined.ensures.joined refl in
    (IsSound-takes p c.offer-taken.new.self c.self.invariant order (sym c.in-Joined.ensures.role) joins).few

pub returns-in-Repeat-clause-few : goal.returns-in-Repeat-clause-few
returns-in-Repeat-clause-few c =
    let same = c.offer-taken.ensures.ignored (not_joined c.offer-taken.result c.in-Repeat.is) in
    rw same c.self.invariant.few

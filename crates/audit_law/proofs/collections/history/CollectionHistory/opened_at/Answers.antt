use Rattle.std.proofs.Common.{◌∙◌, ◌≡◌, ◌≤ℤ◌, ◌≤◌, FitsSigned, None, Some, ap, arith, length, map, of_z, pos, rules, sym, w64}
use Rattle.std.{proofs.lemmas.Int.{ints, to_z-of_z}}
use Rattle.audit_law.{specs.collections.Kept.{cluster_kept, emitted, kept_in}}
use Rattle.audit_law.proofs.collections_lemmas.Clusters
use Clusters.{contains-at, emission-at, gathered-rising, length-kept, none-behind, none-beside, none-opened, only-there}
use Rattle.audit_law.specs.{collections.{Gathered.HasRow, Rising.IsPlaceFor}}
use Rattle.audit_law.proofs.collections.history.CollectionHistory.opened_at.Goals as goal

pub search-place-requires-clause-rising : goal.search-place-requires-clause-rising
search-place-requires-clause-rising c =
    let some : pos 0 ≤ℤ c.args.self.now.ow = rw (sym c.self.view_is) c.self.invariant.0 in
    gathered-rising c.in-Some.row some c.requires c.in-Some.is

pub returns-then-place-row-clause-each : goal.returns-then-place-row-clause-each
returns-then-place-row-clause-each c =
    let h = c.args.self.now in
    let row = c.in-Some.row in
    let ks = kept_in h (Some row) in
    let fits : FitsSigned w64 c.args.opened = search rules in
    let place : IsPlaceFor ks c.args.opened c.search-place.result =
    rw (to_z-of_z w64 c.args.opened fits) at c.search-place.ensures in
    let has : HasRow h row = rw c.in-Some.is at c.requires.1.held in
    let past : length ks ≤ c.search-place.result = rw (length-kept has) (omega (arith, c.if-place-row.true)) in
    rw c.in-Some.is (none-opened h ks c.args.opened None (none-behind place past))

pub returns-then-kept-opened-clause-found : goal.returns-then-kept-opened-clause-found
returns-then-kept-opened-clause-found c =
    let h = c.args.self.now in
    let ks = kept_in h (Some c.in-Some.row) in
    let d = c.kept_at-kept.result.now in
    let at = emission-at h ks c.search-place.result d c.kept_at-kept.ensures.there ∙ ap Some (sym c.emitted.ensures) in
    let there = contains-at (map (emitted h.ow h.calc) (map (cluster_kept h.counted) ks)) c.search-place.result c.emitted.result at in (
      rw c.in-Some.is there,
      rw c.emitted.ensures (omega (arith, ints, c.if-kept-opened.true)),
    )

pub returns-then-kept-opened-clause-each : goal.returns-then-kept-opened-clause-each
returns-then-kept-opened-clause-each c =
    let h = c.args.self.now in
    let row = c.in-Some.row in
    let ks = kept_in h (Some row) in
    let fits : FitsSigned w64 c.args.opened = search rules in
    let place : IsPlaceFor ks c.args.opened c.search-place.result =
    rw (to_z-of_z w64 c.args.opened fits) at c.search-place.ensures in
    let d = c.kept_at-kept.result.now in
    let opens : d.opened ≡ c.args.opened = omega (arith, ints, c.if-kept-opened.true) in
    let some : pos 0 ≤ℤ h.ow = rw (sym c.self.view_is) c.self.invariant.0 in
    let up = gathered-rising row some c.requires c.in-Some.is in
    let all = only-there h d up place c.kept_at-kept.ensures.there opens in
    rw c.in-Some.is (rw c.emitted.ensures all)

pub returns-else-kept-opened-clause-each : goal.returns-else-kept-opened-clause-each
returns-else-kept-opened-clause-each c =
    let h = c.args.self.now in
    let row = c.in-Some.row in
    let ks = kept_in h (Some row) in
    let fits : FitsSigned w64 c.args.opened = search rules in
    let place : IsPlaceFor ks c.args.opened c.search-place.result =
    rw (to_z-of_z w64 c.args.opened fits) at c.search-place.ensures in
    let d = c.kept_at-kept.result.now in
    let some : pos 0 ≤ℤ h.ow = rw (sym c.self.view_is) c.self.invariant.0 in
    let up = gathered-rising row some c.requires c.in-Some.is in
    let other : d.opened ≡ c.args.opened → ⊥ = λ same. c.if-kept-opened.false (ap (of_z w64) same) in
    rw c.in-Some.is (none-opened h ks c.args.opened None (none-beside d up place c.kept_at-kept.ensures.there other))

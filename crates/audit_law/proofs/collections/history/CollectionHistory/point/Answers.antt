use Rattle.std.proofs.{Common.{◌∙◌, ◌≡◌, ◌≤ℤ◌, ◌⊎◌, FitsSigned, ap, inl, inr, pos, rules, sym, w64}, lemmas.Int.to_z-of_z}
use Rattle.std.specs.Prelude.{All}
use Rattle.compression.specs.{Clusters.{point_at}, Role.role, declared.taken.Taken.TheVariants.{Joined, Opened, OtherCycle, Repeat}}
use Rattle.audit_law.proofs.collections_lemmas.Clusters.{gathers-grown, gathers-ignored, gathers-joins, gathers-opened}
use Rattle.audit_law.specs.{collections.{Kept.{History, IsCounted, clusters_in}}}
use Rattle.audit_law.proofs.collections.history.CollectionHistory.point.Goals as goal

sound : (h : History) → (inside : History) → inside ≡ h → (pos 0 ≤ℤ inside.ow) × All (IsCounted inside.counted) inside.closed
    → (pos 0 ≤ℤ h.ow) × All (IsCounted h.counted) h.closed
sound h inside is has = rw is at has

pub returns-in_err-next-in-Opened-clause-kept : goal.returns-in_err-next-in-Opened-clause-kept
returns-in_err-next-in-Opened-clause-kept c =
    let all = (sound c.args.self.now _ c.self.view_is c.self.invariant).1 in
    gathers-grown c.args.self.now c.open.new.self c.open.ensures.grown all

pub returns-in_err-next-in-Joined-clause-kept : goal.returns-in_err-next-in-Joined-clause-kept
returns-in_err-next-in-Joined-clause-kept c =
    let all = (sound c.args.self.now _ c.self.view_is c.self.invariant).1 in
    gathers-grown c.args.self.now c.join.new.self c.join.ensures.grown all

pub returns-in_ok-next-in-Opened-clause-kept : goal.returns-in_ok-next-in-Opened-clause-kept
returns-in_ok-next-in-Opened-clause-kept c =
    let all = (sound c.args.self.now _ c.self.view_is c.self.invariant).1 in
    gathers-grown c.args.self.now c.open.new.self c.open.ensures.grown all

pub returns-in_ok-next-in-Joined-clause-kept : goal.returns-in_ok-next-in-Joined-clause-kept
returns-in_ok-next-in-Joined-clause-kept c =
    let all = (sound c.args.self.now _ c.self.view_is c.self.invariant).1 in
    gathers-grown c.args.self.now c.join.new.self c.join.ensures.grown all

pub returns-in_ok-next-in-Opened-clause-gathers : goal.returns-in_ok-next-in-Opened-clause-gathers
returns-in_ok-next-in-Opened-clause-gathers c =
    let p = point_at c.args.reading c.args.master c.args.cycle in
    let has = sound c.args.self.now _ c.self.view_is c.self.invariant in
    let is : Opened ≡ role (clusters_in c.args.self.now c.args.gathering.now) p = search rules in
    let fits : FitsSigned w64 c.args.reading = search rules in
    let opens = rw (to_z-of_z w64 c.args.reading fits) at c.in_ok-next-in-Opened.ensures.opened in
    gathers-opened c.args.self.now c.open.new.self c.args.gathering.now c.in_ok-next-in-Opened.next p has.0 has.1 c.open.ensures.grown opens is

pub returns-in_ok-next-in-Joined-clause-gathers : goal.returns-in_ok-next-in-Joined-clause-gathers
returns-in_ok-next-in-Joined-clause-gathers c =
    let p = point_at c.args.reading c.args.master c.args.cycle in
    let has = sound c.args.self.now _ c.self.view_is c.self.invariant in
    let is : Joined ≡ role (clusters_in c.args.self.now c.args.gathering.now) p = search rules in
    let fits : FitsSigned w64 c.args.reading = search rules in
    let joins = rw (to_z-of_z w64 c.args.reading fits) at c.in_ok-next-in-Joined.ensures.joined in
    gathers-joins c.args.self.now c.join.new.self c.args.gathering.now c.in_ok-next-in-Joined.next p has.0 has.1 c.join.ensures.grown joins is

pub returns-in-Repeat-clause-gathers : goal.returns-in-Repeat-clause-gathers
returns-in-Repeat-clause-gathers c =
    let p = point_at c.args.reading c.args.master c.args.cycle in
    let has = sound c.args.self.now _ c.self.view_is c.self.invariant in
    let fits : FitsSigned w64 c.args.reading = search rules in
    let taken = c.role-taken.ensures
    ∙ ap (λ x. role (clusters_in c.args.self.now c.args.gathering.now) (point_at x c.args.master c.args.cycle)) (to_z-of_z w64 c.args.reading fits) in
    let is : (role (clusters_in c.args.self.now c.args.gathering.now) p ≡ Repeat) ⊎ (role (clusters_in c.args.self.now c.args.gathering.now) p ≡ OtherCycle) =
    elim c.in-Repeat.is [ inl e ↦ inl (sym taken ∙ e) | inr e ↦ inr (sym taken ∙ e) ] in
    gathers-ignored c.args.self.now c.args.gathering.now p has.0 is

use Rattle.std.proofs.lemmas.Int.{to_z-of_z}
use Rattle.audit_devices.proofs.stretches_lemmas.Stretches.{emissions_same, equal_emitted, same_emitted}
use Rattle.{audit_law.specs.{collections.Kept.emissions_in, declared.collections.emitted.Emitted.Emitted}, std.specs.Prelude.{All, Contains}}
use Rattle.std.proofs.{Common.{◌∙◌, ◌≡◌, FitsSigned, IsTrue, List, None, Some, false, refl, rules, subst, sym, w64, ℤ}, lemmas.List.Elements.All-contains}
use Rattle.audit_devices.proofs.stretches.stretch.Stretch.emits.Goals as goal

pub returns-in-Some : goal.returns-in-Some
returns-in-Some c network points clusters has are =
    let h = c.args.self.now.collections.now in
    let g = c.args.self.now.gathering in
    let a : Emitted = c.args.emitted.now in
    let found : Emitted = c.in-Some.found in
    let fits : FitsSigned w64 a.opened = search rules in
    let each : All (λ (e : Emitted). e.opened ≡ a.opened → c.opened_at.result ≡ Some e) (emissions_in h g) =
    subst (λ (x : ℤ). All (λ (e : Emitted). e.opened ≡ x → c.opened_at.result ≡ Some e) (emissions_in h g)) (to_z-of_z w64 a.opened fits)
    c.opened_at.ensures.each in
    subst (λ (es : List Emitted). (IsTrue c.eq.result → Contains es a) × (Contains es a → IsTrue c.eq.result))
    (emissions_same clusters has are) (
      λ told. subst (Contains (emissions_in h g)) (same_emitted found a c.eq.result c.eq.ensures told) c.in-Some.ensures.found.0,
      λ there.
          let is = All-contains (λ (e : Emitted). e.opened ≡ a.opened → c.opened_at.result ≡ Some e) (emissions_in h g) a each there refl in
          equal_emitted found a c.eq.result c.eq.ensures (some_is found a (sym c.in-Some.is ∙ is)),
    )
  where
    some_is : (x y : Emitted) → Some x ≡ Some y → x ≡ y
    some_is x y e = cc

pub returns-in-None : goal.returns-in-None
returns-in-None c network points clusters has are =
    let h = c.args.self.now.collections.now in
    let g = c.args.self.now.gathering in
    let a : Emitted = c.args.emitted.now in
    let fits : FitsSigned w64 a.opened = search rules in
    let each : All (λ (e : Emitted). e.opened ≡ a.opened → c.opened_at.result ≡ Some e) (emissions_in h g) =
    subst (λ (x : ℤ). All (λ (e : Emitted). e.opened ≡ x → c.opened_at.result ≡ Some e) (emissions_in h g)) (to_z-of_z w64 a.opened fits)
    c.opened_at.ensures.each in
    subst (λ (es : List Emitted). (IsTrue false → Contains es a) × (Contains es a → IsTrue false))
    (emissions_same clusters has are) (
      λ never. absurd (true_not never),
      λ there.
          let is = All-contains (λ (e : Emitted). e.opened ≡ a.opened → c.opened_at.result ≡ Some e) (emissions_in h g) a each there refl in
          absurd (none_is a (sym c.in-None.is ∙ is)),
    )
  where
    true_not : IsTrue false → ⊥
    true_not e = cc

    none_is : (x : Emitted) → None ≡ Some x → ⊥
    none_is x e = cc

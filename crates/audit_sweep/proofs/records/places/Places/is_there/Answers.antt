use Rattle.{audit_sweep.proofs.records_lemmas.AscendingPlaces.{found_at, in_map, of_map}, std.proofs.lemmas.Bool.{ltb-false, ltb-true}}
use Rattle.std.specs.Prelude.{slice_get}
use Rattle.run_law.{proofs.law.FirstDeliveries.in_at, specs.records.{Order.IsIn, Ranks.place_of}}
use Rattle.{std.proofs.Common.{◌∙◌, ◌≡◌, ◌≤◌, List, Some, ap, arith, length, subst, sym, ℕ}, tte_units.proofs.general_lemmas.Lists.{got_at, got_within}}
use Rattle.audit_sweep.proofs.records.places.Places.is_there.Goals as goal

pub returns-in-Some : goal.returns-in-Some
returns-in-Some c = λ hs are.
    let items = c.args.self.now in
    let k = c.count_before-count.result in
    let p = c.args.place.now in
    let found = c.in-Some.found.now in
    let same = c.deref.ensures.value ∙ c.self.view_is in
    let got : slice_get items k ≡ Some found = ap (λ (xs : List (List ℕ)). slice_get xs k) (sym same)
    ∙ got_at c.deref.result.now k found (ltb-true k (length c.deref.result.now) (sym c.in-Some.ensures.lookup.0)) c.in-Some.ensures.lookup.1 in (
      λ is.
          of_map p hs (subst (λ xs. IsIn p xs) are.same
          (subst (λ q. IsIn q items) (c.is_same.ensures.0 is) (in_at items k found got))),
      λ has.
          let there : IsIn p items =
          subst (λ q. IsIn q items) has.2 (subst (λ xs. IsIn (place_of has.0) xs) (sym are.same) (in_map has.0 hs has.1)) in
          let at : slice_get items k ≡ Some p = found_at items k p c.count_before-count.ensures.bound are.ascending
          (c.count_before-count.ensures.part are.ascending) there in
          let both : Some found ≡ Some p = sym got ∙ at in
          c.is_same.ensures.1 cc,
    )

pub returns-in-None : goal.returns-in-None
returns-in-None c = λ hs are.
    let items = c.args.self.now in
    let k = c.count_before-count.result in
    let p = c.args.place.now in
    let same = c.deref.ensures.value ∙ c.self.view_is in
    let past : length items ≤ k =
    subst (λ xs. length xs ≤ k) same (ltb-false k (length c.deref.result.now) (sym c.in-None.ensures.lookup.0)) in (
      λ is. absurd cc,
      λ has.
          let there : IsIn p items =
          subst (λ q. IsIn q items) has.2 (subst (λ xs. IsIn (place_of has.0) xs) (sym are.same) (in_map has.0 hs has.1)) in
          let at : slice_get items k ≡ Some p = found_at items k p c.count_before-count.ensures.bound are.ascending
          (c.count_before-count.ensures.part are.ascending) there in
          absurd (omega (arith, past, got_within items k p at)),
    )

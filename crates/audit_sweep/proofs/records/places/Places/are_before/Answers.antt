use Rattle.{audit_sweep.proofs.records_lemmas.AscendingPlaces.{all_by_last, in_map, last_in, none_last, of_map}, run_law.specs.records.Order.{IsBefore, IsIn}}
use Rattle.compression.proofs.Middles.{slice_get-last}
use Rattle.run_law.specs.records.Ranks.{place_of}
use Rattle.std.{proofs.Common.{◌∙◌, ◌≡◌, List, None, Some, ap, refl, subst, sym, ℕ}, specs.List.last_or}
use Rattle.run_law.proofs.records.Order.{before_is, is_there}
use Rattle.audit_sweep.proofs.records.places.Places.are_before.Goals as goal

pub returns-in-Some : goal.returns-in-Some
returns-in-Some c = λ hs are.
    let items = c.args.self.now in
    let last = c.in-Some.last.now in
    let p = c.args.place.now in
    let found : Some last ≡ last_or None items =
    c.in-Some.ensures.value ∙ slice_get-last c.deref.result.now ∙ ap (λ (xs : List (List ℕ)). last_or None xs) (c.deref.ensures.value ∙ c.self.view_is) in (
      λ is h i.
          let b : IsBefore last p = is_there last p (sym c.is_before.ensures ∙ is) in
          all_by_last items last p are.ascending found b (place_of h) (subst (λ xs. IsIn (place_of h) xs) (sym are.same) (in_map h hs i)),
      λ all.
          let r = of_map last hs (subst (λ xs. IsIn last xs) are.same (last_in items last found)) in
          c.is_before.ensures ∙ before_is last p (subst (λ q. IsBefore q p) r.2 (all r.0 r.1)),
    )

pub returns-in-None : goal.returns-in-None
returns-in-None c = λ hs are.
    let items = c.args.self.now in
    let found : None ≡ last_or None items =
    c.in-None.ensures.value ∙ slice_get-last c.deref.result.now ∙ ap (λ (xs : List (List ℕ)). last_or None xs) (c.deref.ensures.value ∙ c.self.view_is) in (
      λ is h i.
          absurd (subst (λ xs. IsIn (place_of h) xs) (sym are.same ∙ none_last items found) (in_map h hs i)),
      λ all. refl,
    )

use Rattle.std.proofs.{Common.{◌++◌, ◌∙◌, ◌∷◌, List, [], ap, map, subst, sym, ℕ}, lemmas.List.map-append}
use Rattle.run_law.specs.records.{Order.{IsBefore, IsIn}, Ranks.place_of}
use Rattle.audit_sweep.{proofs.records_lemmas.AscendingPlaces.{ascends_on, of_map}, specs.records.places.Placing.AreAscending}
use Rattle.audit_sweep.proofs.records.places.Places.push.Goals as goal

pub returns-clause-added : goal.returns-clause-added
returns-clause-added c = λ hs h are at all.
    let items = c.args.self.now in
    let p = c.args.place in
    let new = c.in_ok-push.ensures.items ∙ ap (λ (xs : List (List ℕ)). xs ++ p ∷ []) (c.self.view_is) in
    record {
      same = new ∙ ap (λ (xs : List (List ℕ)). xs ++ p ∷ []) are.same ∙ ap (λ (q : List ℕ). map place_of hs ++ q ∷ []) (sym at)
          ∙ sym (map-append place_of hs (h ∷ []));
      ascending = subst AreAscending (sym new)
          (ascends_on items p are.ascending
          (λ q i.
          let r = of_map q hs (subst (λ xs. IsIn q xs) are.same i) in
          subst (λ s. IsBefore s p) r.2 (all r.0 r.1)));
    }

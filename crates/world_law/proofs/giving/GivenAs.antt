-- The first of what is to come is given, with its number: what is settled then.
use Rattle.run_law.proofs.runs.Places.{nothing_between}
use Rattle.world_law.proofs.Words.{◌++◌, ◌∙◌, ◌∷◌, ◌≡◌, ◌≤◌, AllBefore, AreComing, Happening, IsBefore, IsDue, IsFounded, IsIn, IsOwnSource, IsWorkedOff, List}
use Rattle.world_law.proofs.Words.{Scenario, [], ap, append_assoc, arith, behind, cases_Bool, chain, false, in_right, inl, inr, is_at_source, key}
use Rattle.world_law.proofs.Words.{members_in, never_self, place_of, rank, refl, subst, sym, time_of, ℕ}
use Rattle.world_law.proofs.giving.GivenParts.{IsGiving, all_over, beyond, up_to_place, worked_by_then}
use Rattle.world_law.proofs.{putting.Near.{AreFrom, own_source}, runs.Worlds.{at_least, first_before, own_here}}
use Rattle.world_law.proofs.putting.{Placing.{AreOne, IsBehindIt, due_given, own_given, same_place}, PutIn.own_time}
use Rattle.world_law.specs.world.World.{IsDueAs}

-- the record is given as this one, which has its number
pub record IsGivenAs (s : Scenario) (hs : List Happening) (z g : Happening) (rest : List Happening) (from to : List ℕ)
    (now : ℕ) : Type 0 where
  pub giving : IsGiving s hs z rest from to now
  pub one : AreOne z g
  pub founded : IsFounded place_of (IsDue s) hs

module _ {s : Scenario} {hs : List Happening} {z g : Happening} {rest : List Happening} {from to : List ℕ} {now : ℕ}
    (x : IsGivenAs s hs z g rest from to now) where
  not_over : (q : List ℕ) → IsBefore q (behind (place_of z)) → IsBefore (place_of z) q → ⊥
  not_over q under lt = search (arith, up_to_place, place_of, never_self, chain)

  -- what stands behind it is to come, so it stands behind its source
  late : (y : Happening) → IsIn y rest → is_at_source y.note.body ≡ false
  late y i = elim (cases_Bool (is_at_source y.note.body)) [
    | inr no_it ↦ no_it
    | inl is ↦
        let are = x.giving.are in
        absurd (not_over (place_of y) (are.not_past z (inl refl) (place_of y) (are.worked y (inr i) is))
        (first_before are y i))
  ]

  from_two : 2 ≤ rank z.note.body
  from_two =
      let are = x.giving.are in
      at_least z now 2 [] (are.of_now z (inl refl))
      (λ b. not_over (now ∷ 2 ∷ []) (are.not_past z (inl refl) (now ∷ 2 ∷ []) (are.begun z (inl refl))) b)

  from_it : (front back : List Happening) → rest ≡ front ++ back → AreFrom (time_of z) (rank z.note.body) (z ∷ front)
  from_it front back e y i =
      let at = all_over x.giving front back e y i in
      (at.0, at_least y (time_of z) (rank z.note.body) (key (members_in z) z.note.body) at.0 at.1)

  -- what is due by a source that is worked off is due by the other list, of that source
  over_to : (front back : List Happening) (y : Happening) → rest ≡ front ++ back → time_of y ≡ time_of z → is_at_source y.note.body ≡ false
      → IsDueAs s (hs ++ z ∷ front) y → IsWorkedOff s (hs ++ z ∷ front) (behind (place_of z)) y
      → IsDueAs s (hs ++ g ∷ front) y × IsWorkedOff s (hs ++ g ∷ front) (behind (place_of z)) y
  over_to front back y e at late due off =
      let b : IsBehindIt s (hs ++ z ∷ front) z y off.0 = record { at = at; not_there = late; own = off.1; under = not_over off.0 off.3 } in
      let from = from_it front back e in
      let is = due_given s hs front z g x.one x.giving.forward x.founded from_two from b due in
      let own = own_given s hs front z g x.one x.giving.forward x.founded from_two from b due in
      (is, (off.0, own, own_source s (hs ++ g ∷ front) y.note.time (members_in y) y.note.body off.0 late is.cause own, off.3))

  back_to : (front back : List Happening) (y : Happening) → rest ≡ front ++ back → time_of y ≡ time_of z → is_at_source y.note.body ≡ false
      → IsDueAs s (hs ++ g ∷ front) y → IsWorkedOff s (hs ++ g ∷ front) (behind (place_of z)) y
      → IsDueAs s (hs ++ z ∷ front) y × IsWorkedOff s (hs ++ z ∷ front) (behind (place_of z)) y
  back_to front back y e at late due off =
      let place = same_place z g x.one in
      let ranks : rank z.note.body ≡ rank g.note.body = ap (λ h. rank h.note.body) x.one in
      let time : time_of z ≡ time_of g = ap time_of x.one in
      let b : IsBehindIt s (hs ++ g ∷ front) g y off.0 = record {
        at = at ∙ time;
        not_there = late;
        own = off.1;
        under = rw place at (not_over off.0 off.3);
      } in
      let from : AreFrom (time_of g) (rank g.note.body) (g ∷ front) = λ h i.
      let was = from_it front back e in
      elim i [
        | inl same ↦ (ap time_of same, rw same (omega arith))
        | inr more ↦
            let it = was h (inr more) in
            (it.0 ∙ time, rw ranks at it.1)
      ] in
      let high : 2 ≤ rank g.note.body = rw ranks at from_two in
      let is = due_given s hs front g z (sym x.one) x.giving.forward x.founded high from b due in
      let own = own_given s hs front g z (sym x.one) x.giving.forward x.founded high from b due in
      (is, (off.0, own, own_source s (hs ++ z ∷ front) y.note.time (members_in y) y.note.body off.0 late is.cause own, off.3))

  -- what comes from a source up to the record's place, behind the record, is of its time and stands behind that source
  of_it : (js : List Happening) (y : Happening) (q : List ℕ) → IsOwnSource s js (time_of y) (members_in y) y.note.body q
      → IsBefore q (behind (place_of z)) → IsBefore (place_of z) (place_of y) → (time_of y ≡ time_of z) × (is_at_source y.note.body ≡ false)
  of_it js y q own under over =
      search (arith, own_time, cases_Bool, own_here, not_over)

  pub coming_then : AreComing s (hs ++ g ∷ []) rest (behind (place_of z)) now
  coming_then =
      let are = x.giving.are in
      let first = first_before are in
      let each : (front back : List Happening) (y : Happening) → rest ≡ front ++ y ∷ back
      → IsDueAs s (hs ++ g ∷ front) y × IsWorkedOff s (hs ++ g ∷ front) (behind (place_of z)) y = λ front back y e.
      let whole : z ∷ rest ≡ (z ∷ front) ++ y ∷ back = rw e in
      let here : IsIn y rest = rw e (in_right y front (y ∷ back) (inl refl)) in
      let by = are.by (z ∷ front) back y whole in
      over_to front (y ∷ back) y e (are.of_now y (inr here) ∙ sym (are.of_now z (inl refl))) (late y here) (are.founded (z ∷ front) back y whole).1
      (by.0, by.1, by.2, are.not_past z (inl refl) by.0 by.3) in
      record {
        of_now = λ y i. are.of_now y (inr i);
        after = λ y i b. nothing_between (place_of z) (place_of y) (first y i) b;
        founded = λ front back y e.
            let was = are.founded (z ∷ front) back y (rw e) in
            (λ h i. was.0 h (inr i), rw (append_assoc hs (g ∷ []) front) (each front back y e).0);
        by = λ front back y e.
            rw (append_assoc hs (g ∷ []) front) (each front back y e).1;
        full = λ front back y e before none not due worked.
            let over = beyond (place_of z) (place_of y) not in
            let all : AllBefore place_of (z ∷ front) (place_of y) = λ h i. elim i
            [ inl same ↦ rw same over | inr more ↦ before h more ] in
            let parts = append_assoc hs (g ∷ []) front in
            let yet : IsBefore (place_of y) from → ⊥ = λ b. are.after z (inl refl)
            (chain (place_of z) (place_of y) from over b) in
            let off : IsWorkedOff s (hs ++ g ∷ front) (behind (place_of z)) y =
            rw parts at worked in
            let it = of_it (hs ++ g ∷ front) y off.0 off.1 off.3 over in
            let was = back_to front back y e it.0 it.1 (rw parts at due) off in
            let found = are.full (z ∷ front) back y (rw e) all none yet was.0 (
              was.1.0,
              was.1.1,
              was.1.2,
              worked_by_then x.giving (z ∷ front) (all_over x.giving front back e) was.1.2
                  was.1.3,
            ) in
            elim found.1 [
              | inl same ↦ absurd (never_self (place_of y) (subst (λ p. IsBefore p (place_of y)) (sym (ap place_of same) ∙ found.2) over))
              | inr i ↦ (found.0, i, found.2)
            ];
        begun = λ y i. are.not_past z (inl refl) (now ∷ 2 ∷ []) (are.begun y (inr i));
      }

-- One more call.
use Rattle.std.proofs.{Common.{◌++◌, ◌∙◌, ◌∷◌, ◌≡◌, ◌⊎◌, List, None, Option, [], inl, inr, refl, sym, ℕ}, lemmas.List.Sums.fold_push}
use Rattle.tte_units.specs.declared.units.Units.{Units}
use Rattle.sync_state.specs.Calls.{Call, IsAnswered, StandsAfter, after, after_all, next_adjustment, next_integrated, next_number, next_state}
use Rattle.sync_state.specs.{Standing.{Standing, adjustment_at_start, state_at_start}, declared.{plan.SyncPlan.SyncPlan, state.State.State}}

-- a list that ends with y is split within the front, or at y
push_split : {X : Type 0} (xs : List X) (y : X) (ps : List X) (x : X) (qs : List X) → xs ++ y ∷ [] ≡ ps ++ x ∷ qs
    → ((rs : List X) × (xs ≡ ps ++ x ∷ rs)) ⊎ ((xs ≡ ps) × (y ≡ x))
push_split [] y [] x qs same = inr (refl, cc)
push_split [] y (p ∷ []) x qs same = absurd (cc)
push_split [] y (p ∷ (q ∷ ps)) x qs same = absurd (cc)
push_split (a ∷ xs) y [] x qs same = inl (xs, cc)
push_split (a ∷ xs) y (p ∷ ps) x qs same =
    elim (push_split xs y ps x qs cc) [
      | inl front ↦ inl (front.0, cc)
      | inr last ↦ inr (cc, last.1)
    ]

abbrev made : SyncPlan → State → Units → ℕ → Option ℕ → Standing
made plan state adjustment number integrated = record {
  plan = plan;
  state = state;
  adjustment = adjustment;
  number = number;
  integrated = integrated;
}

-- where a device stands after one more call
after_all-push : (plan : SyncPlan) (start : Option Units) (calls : List Call) (call : Call) → after (after_all plan start calls) call ≡ after_all plan start
    (calls ++ call ∷ [])
after_all-push plan start calls call =
    let now = after (after_all plan start calls) call in
    let later = calls ++ call ∷ [] in
    let s = sym (fold_push next_state (state_at_start start) calls call) in
    let a = sym (fold_push next_adjustment (adjustment_at_start start) calls call) in
    let n = sym (fold_push next_number 1 calls call) in
    rw s
    (rw a
    ((rw n
    ((rw (sym (fold_push next_integrated None calls call)))))))

pub stands_at_start : (plan : SyncPlan) (start : Option Units) → StandsAfter plan start [] (after_all plan start [])
stands_at_start plan start = record { stands = refl; answered = λ earlier later call same. absurd (no_split earlier call later same) } where
  no_split : {X : Type 0} (ps : List X) (x : X) (qs : List X) → [] ≡ ps ++ x ∷ qs → ⊥
  no_split [] x qs same = cc
  no_split (p ∷ ps) x qs same = cc

pub one_more : (plan : SyncPlan) (start : Option Units) (calls : List Call) (s t : Standing) (call : Call) → IsAnswered s call → t ≡ after s call
    → StandsAfter plan start calls s → StandsAfter plan start (calls ++ call ∷ []) t
one_more plan start calls s t call answered step is = record {
  stands = step ∙ (rw is.stands (after_all-push plan start calls call));
  answered = λ earlier later x same.
      elim (push_split calls call earlier x later same) [
        | inl front ↦ is.answered earlier front.0 x front.1
        | inr last ↦ rw last.0 at (rw last.1 at (rw is.stands at answered))
      ];
}

-- How a run goes on from place to place, and up to each time, where it is decided what is due.
use Rattle.std.proofs.{lemmas.{Bool.cases_order, List.append-nil}}
use Rattle.std.proofs.Common
use Common.{◌++◌, ◌<◌, ◌∙◌, ◌∷◌, ◌≡◌, ◌⊎◌, List, [], append_assoc, arith, inl, inr, refl, subst, suc, sym, zero, ℕ}
use Rattle.run_law.{specs.{records.Order.{IsBefore, IsIn}, runs.Runs.IsRun}}
use Rattle.run_law.proofs.{scenario.Decisions.IsDecided}
use Rattle.run_law.proofs.runs.{Grow.{empty_run, grow, move_mark}}
use Rattle.run_law.proofs.runs.Places
use Places.{before_behind, before_later, before_or_not, behind, chain, either_way, in_parts, in_right, nothing_between}

-- ---- how a run goes on from place to place, where at each place it is decided whether a record is due

-- ---- places under a place

-- the place is that one, or stands under it
abbrev pub IsUnder : List ℕ → List ℕ → Type 0
IsUnder p q = (key : List ℕ) × (q ≡ p ++ key)

-- what is before the next place is before the place, or stands under it
pub record IsNext (p next : List ℕ) : Type 0 where
  pub up : (q : List ℕ) → IsBefore q p → IsBefore q next
  pub down : (q : List ℕ) → IsBefore q next → IsBefore q p ⊎ IsUnder p q

next_up : (p : List ℕ) (i : ℕ) (q : List ℕ) → IsBefore q (p ++ i ∷ []) → IsBefore q (p ++ suc i ∷ [])
next_up [] i [] b = tt
next_up [] i (x ∷ xs) (inl lt) = inl (omega arith)
next_up [] i (x ∷ xs) (inr h) = absurd h.1
next_up (y ∷ p) i [] b = tt
next_up (y ∷ p) i (x ∷ xs) (inl lt) = inl lt
next_up (y ∷ p) i (x ∷ xs) (inr h) = inr (h.0, next_up p i xs h.1)

next_down : (p : List ℕ) (i : ℕ) (q : List ℕ) → IsBefore q (p ++ suc i ∷ []) → IsBefore q (p ++ i ∷ []) ⊎ IsUnder (p ++ i ∷ []) q
next_down [] i [] b = inl tt
next_down [] i (x ∷ xs) (inl lt) =
    elim (cases_order x i) [
      | inl e ↦ inr (xs, rw e)
      | inr (inl less) ↦ inl (inl less)
      | inr (inr gt) ↦ absurd (omega arith)
    ]
next_down [] i (x ∷ xs) (inr h) = absurd h.1
next_down (y ∷ p) i [] b = inl tt
next_down (y ∷ p) i (x ∷ xs) (inl lt) = inl (inl lt)
next_down (y ∷ p) i (x ∷ xs) (inr h) = grind (arith, (next_down p i xs h.1))

pub next_of : (p : List ℕ) (i : ℕ) → IsNext (p ++ i ∷ []) (p ++ suc i ∷ [])
next_of p i = record { up = next_up p i; down = next_down p i }

-- what is before a place is before each place under it
before_under : (p : List ℕ) (n : ℕ) (q : List ℕ) → IsBefore q p → IsBefore q (p ++ n ∷ [])
before_under [] n q b = grind arith
before_under (y ∷ p) n [] b = tt
before_under (y ∷ p) n (x ∷ xs) (inl lt) = inl lt
before_under (y ∷ p) n (x ∷ xs) (inr h) = inr (h.0, before_under p n xs h.1)

-- and one under it is before a later one
pub under_before : (p : List ℕ) (k n : ℕ) (ks : List ℕ) → k < n → IsBefore (p ++ k ∷ ks) (p ++ n ∷ [])
under_before [] k n ks lt = inl lt
under_before (y ∷ p) k n ks lt = inr (refl, under_before p k n ks lt)

-- what is before a place under one is before the next
pub inside_next : (p : List ℕ) (i n : ℕ) (q : List ℕ) → IsBefore q ((p ++ i ∷ []) ++ n ∷ []) → IsBefore q (p ++ suc i ∷ [])
inside_next [] i n [] b = tt
inside_next [] i n (x ∷ xs) (inl lt) = inl (omega arith)
inside_next [] i n (x ∷ xs) (inr h) = inl (omega (arith, h.0))
inside_next (z ∷ p) i n [] b = tt
inside_next (z ∷ p) i n (x ∷ xs) (inl lt) = inl lt
inside_next (z ∷ p) i n (x ∷ xs) (inr h) = inr (h.0, inside_next p i n xs h.1)

-- ---- sizes

-- so many numbers, each below the bound
abbrev pub IsSized : ℕ → ℕ → List ℕ → Type 0
IsSized zero bound [] = Unit {0}
IsSized zero bound (k ∷ ks) = ⊥
IsSized (suc size) bound [] = ⊥
IsSized (suc size) bound (k ∷ ks) = (k < bound) × IsSized size bound ks

-- ---- one more place

module _ {N : Type 0} (place : N → List ℕ) (IsDue : List N → N → Type 0) where
  -- a run goes up to a later mark, where none that is due is before this alone
  pub move_on : (m next : List ℕ) (ns : List N) → IsRun place IsDue m ns → ((q : List ℕ) → IsBefore q m → IsBefore q next)
      → ((y : N) → IsDue ns y → IsBefore (place y) next → IsBefore (place y) m) → IsRun place IsDue next ns
  move_on m next ns run up none =
      move_mark IsDue run (λ x i. up (place x) (run.within x i))
      (record { gap = λ ps qs y e before rest due here. gap ps qs y e rest due here })
    where
      gap : (ps qs : List N) (y : N) → ns ≡ ps ++ qs → ((n : N) → IsIn n qs → IsBefore (place n) (place y) → ⊥) → IsDue ps y → IsBefore (place y) next
          → IsBefore (place y) m
      gap ps [] y e rest due here = none y (rw (e ∙ append-nil ps) due) here
      gap ps (q ∷ qs) y e rest due here =
          elim (before_or_not (place y) m) [
            | inl b ↦ b
            | inr not ↦ absurd (rest q (inl refl) (before_later (place q) (place y) m
                (run.within q (rw e (in_right q ps (q ∷ qs) (inl refl)))) not))
          ]

  -- a record is due at the place
  abbrev pub HasDue : List N → List ℕ → Type 0
  HasDue ns p = (x : N) × IsDue ns x × (place x ≡ p)

  -- where this is decided: with records under one place alone
  module _ (decide : (ns : List N) (p : List ℕ) → IsDecided (HasDue ns p)) (under : List ℕ) (Kept : List N → Type 0)
      (grows : (ms : List N) (x : N) → Kept ms → IsUnder under (place x) → Kept (ms ++ x ∷ [])) where
    -- there is such a run up to the mark
    pub record IsReached (mark : List ℕ) : Type 0 where
      pub ms : List N
      pub run : IsRun place IsDue mark ms
      pub kept : Kept ms

    -- what is due under the place has so many further numbers, each below the bound
    abbrev pub AreSized : List ℕ → ℕ → ℕ → Type 0
    AreSized p size bound = (ms : List N) (y : N) (key : List ℕ) → Kept ms → IsDue ms y → place y ≡ p ++ key → IsSized size bound key

    only_place : (p : List ℕ) (bound : ℕ) (ms : List N) (y : N) (key : List ℕ) → AreSized p zero bound → Kept ms → IsDue ms y → place y ≡ p ++ key → place y ≡ p
    only_place p bound ms y [] sized kept due e = e ∙ append-nil p
    only_place p bound ms y (k ∷ ks) sized kept due e = absurd (sized ms y (k ∷ ks) kept due e)

    -- a run up to a place that has nothing under it goes on to the next
    leaf : (p next : List ℕ) (bound : ℕ) → IsNext p next → IsBefore p next → IsUnder under p → AreSized p zero bound → IsReached p → IsReached next
    leaf p next bound at first here sized r = by (decide r.ms p)
      where
        by : IsDecided (HasDue r.ms p) → IsReached next
        by (inl has) =
            let x = has.0 in
            let ms = r.ms ++ x ∷ [] in
            let kept = grows r.ms x r.kept (subst (IsUnder under) (sym has.2) here) in
            let run = grow IsDue x r.run (λ n i. subst (IsBefore (place n)) (sym has.2) (r.run.within n i)) has.1
            (record { gap = λ ps qs y e before rest due lt. subst (IsBefore (place y)) has.2 lt }) in
            let there = rw has.2 at run in
            record {
              ms = ms;
              run =
                  move_on (behind p) next ms there
                  (λ q b. elim (either_way q p) [
                    | inl lt ↦ at.up q lt
                    | inr (inl e) ↦ rw e first
                    | inr (inr gt) ↦ absurd (nothing_between p q gt b)
                  ])
                  (λ y due lt. elim (at.down (place y) lt) [
                    | inl b ↦ chain (place y) p (behind p) b (before_behind p)
                    | inr u ↦ rw (only_place p bound ms y u.0 sized kept due u.1) (before_behind p)
                  ]);
              kept = kept;
            }
        by (inr none) = record {
          ms = r.ms;
          run =
              move_on p next r.ms r.run at.up
              (λ y due lt. elim (at.down (place y) lt) [
                | inl b ↦ b
                | inr u ↦ absurd (none (y, due, only_place p bound r.ms y u.0 sized r.kept due u.1))
              ]);
          kept = r.kept;
        }

    -- from the first place under p to the n-th
    loop : (p : List ℕ) (n : ℕ) → ((i : ℕ) → IsReached (p ++ i ∷ []) → IsReached (p ++ suc i ∷ [])) → IsReached (p ++ zero ∷ []) → IsReached (p ++ n ∷ [])
    loop p zero one r = r
    loop p (suc n) one r = one n (loop p n one r)

    -- a run up to a place goes on to the next, over all that is under it
    pub sweep : (size bound : ℕ) (p next : List ℕ) → IsNext p next → IsBefore p next
        → ((n : ℕ) (q : List ℕ) → IsBefore q (p ++ n ∷ []) → IsBefore q next) → IsUnder under p → AreSized p size bound → IsReached p → IsReached next
    sweep zero bound p next at first inside here sized r = leaf p next bound at first here sized r
    sweep (suc size) bound p next at first inside here sized r =
        let start : IsReached (p ++ zero ∷ []) = record {
          ms = r.ms;
          run =
              move_on p (p ++ zero ∷ []) r.ms r.run (λ q b. before_under p zero q b)
              (λ y due lt. elim (either_way (place y) p) [
                | inl b ↦ b
                | inr (inl e) ↦ absurd (sized r.ms y [] r.kept due (e ∙ sym (append-nil p)))
                | inr (inr gt) ↦ absurd (nothing_between p (place y) gt lt)
              ]);
          kept = r.kept;
        } in
        let end = loop p bound (λ i at_i. sweep size bound (p ++ i ∷ []) (p ++ suc i ∷ []) (next_of p i) (under_before p i (suc i) [] (omega arith))
        (λ n q b. inside_next p i n q b) (here.0 ++ i ∷ [], rw here.1 (append_assoc under here.0 (i ∷ [])))
        (λ ms y key kept due e. (sized ms y (i ∷ key) kept due (e ∙ append_assoc p (i ∷ []) key)).1) at_i) start in
        record {
          ms = end.ms;
          run = move_on (p ++ bound ∷ []) next end.ms end.run (inside bound) (λ y due lt. below y end.ms end.kept due (at.down (place y) lt));
          kept = end.kept;
        }
      where
        below : (y : N) (ms : List N) → Kept ms → IsDue ms y → IsBefore (place y) p ⊎ IsUnder p (place y) → IsBefore (place y) (p ++ bound ∷ [])
        below y ms kept due (inl b) = before_under p bound (place y) b
        below y ms kept due (inr ([], e)) = absurd (sized ms y [] kept due e)
        below y ms kept due (inr (k ∷ ks, e)) =
            rw e (under_before p k bound ks (sized ms y (k ∷ ks) kept due e).0)

-- ---- where the places of what is due at each time and rank are bounded, there is a run up to each time

-- a place has a time, a rank and further numbers
pub record IsShaped (ranks : ℕ) (p : List ℕ) : Type 0 where
  pub time : ℕ
  pub rank : ℕ
  pub key : List ℕ
  pub below : rank < ranks
  pub is : p ≡ time ∷ rank ∷ key

-- nothing is before the empty place
pub never_before_none : (q : List ℕ) → IsBefore q [] → ⊥
never_before_none [] b = b
never_before_none (x ∷ xs) b = b

module _ {N : Type 0} (place : N → List ℕ) (IsDue : List N → N → Type 0) where
  -- what is due at the time and rank, given the records and more of this time and rank, has so many numbers below the bound
  pub record IsBoundedBy (t r : ℕ) (ms : List N) : Type 0 where
    pub size : ℕ
    pub bound : ℕ
    pub sized : (more : List N) (y : N) (key : List ℕ) → ((x : N) → IsIn x more → IsUnder (t ∷ r ∷ []) (place x)) → IsDue (ms ++ more) y
        → place y ≡ t ∷ r ∷ key → IsSized size bound key

  -- the records are these and more of the time and rank
  abbrev pub IsRecent : ℕ → ℕ → List N → List N → Type 0
  IsRecent t r ms ns = (more : List N) × (ns ≡ ms ++ more) × ((x : N) → IsIn x more → IsUnder (t ∷ r ∷ []) (place x))

  -- there is a run up to the mark
  abbrev pub IsRunTo : List ℕ → Type 0
  IsRunTo mark = (ms : List N) × IsRun place IsDue mark ms

  module _ (decide : (ns : List N) (p : List ℕ) → IsDecided (HasDue place IsDue ns p)) (ranks : ℕ) (shape : (y : N) → IsShaped ranks (place y))
      (bounded : (t r : ℕ) (ms : List N) → IsBoundedBy t r ms) where
    -- a run goes on over a rank, over ranks, and over a time
    next_rank : (t r : ℕ) → IsRunTo (t ∷ r ∷ []) → IsRunTo (t ∷ suc r ∷ [])
    next_rank t r from =
        let b = bounded t r from.0 in
        let end = sweep place IsDue decide (t ∷ r ∷ []) (IsRecent t r from.0) grows b.size b.bound (t ∷ r ∷ []) (t ∷ suc r ∷ []) (next_of (t ∷ []) r)
        (under_before (t ∷ []) r (suc r) [] (omega arith)) (λ n q i. inside_next (t ∷ []) r n q i) ([], refl)
        (λ ms y key kept due e. b.sized kept.0 y key kept.2 (rw kept.1 at due) e)
        (record { ms = from.0; run = from.1; kept = ([], sym (append-nil from.0), λ x i. absurd i) }) in
        (end.ms, end.run)
      where
        grows : (ms : List N) (x : N) → IsRecent t r from.0 ms → IsUnder (t ∷ r ∷ []) (place x) → IsRecent t r from.0 (ms ++ x ∷ [])
        grows ms x kept u = (
          kept.0 ++ x ∷ [],
          rw kept.1 (append_assoc from.0 kept.0 (x ∷ [])),
          λ z i. elim (in_parts z kept.0 (x ∷ []) i) [
            | inl l ↦ kept.2 z l
            | inr (inl e) ↦ rw e u
            | inr (inr none) ↦ absurd none
          ],
        )

    to_rank : (t r : ℕ) → IsRunTo (t ∷ zero ∷ []) → IsRunTo (t ∷ r ∷ [])
    to_rank t zero from = from
    to_rank t (suc r) from = next_rank t r (to_rank t r from)

    -- nothing is due at a time before its ranks
    no_rank : (t : ℕ) (p : List ℕ) → IsShaped ranks p → IsBefore p (t ∷ zero ∷ []) → IsBefore p (t ∷ [])
    no_rank t p at b = by (rw at.is at b)
      where
        by : IsBefore (at.time ∷ at.rank ∷ at.key) (t ∷ zero ∷ []) → IsBefore p (t ∷ [])
        by (inl lt) = rw at.is (inl lt)
        by (inr (e, inl lt)) = absurd (omega arith)
        by (inr (e, inr h)) = absurd (never_before_none at.key h.1)

    -- nor behind them
    all_ranks : (t : ℕ) (p : List ℕ) → IsShaped ranks p → IsBefore p (suc t ∷ []) → IsBefore p (t ∷ ranks ∷ [])
    all_ranks t p at b = by (rw at.is at b)
      where
        by : IsBefore (at.time ∷ at.rank ∷ at.key) (suc t ∷ []) → IsBefore p (t ∷ ranks ∷ [])
        by (inl lt) =
            elim (cases_order at.time t) [
              | inl e ↦ rw at.is (inr (e, inl at.below))
              | inr (inl less) ↦ rw at.is (inl less)
              | inr (inr gt) ↦ absurd (omega arith)
            ]
        by (inr h) = absurd h.1

    before_ranks : (t : ℕ) (q : List ℕ) → IsBefore q (t ∷ []) → IsBefore q (t ∷ zero ∷ [])
    before_ranks t [] b = tt
    before_ranks t (x ∷ xs) (inl lt) = inl lt
    before_ranks t (x ∷ xs) (inr h) = absurd h.1

    next_time : (t : ℕ) → IsRunTo (t ∷ []) → IsRunTo (suc t ∷ [])
    next_time t from =
        let end = to_rank t ranks (
          from.0,
          move_on place IsDue (t ∷ []) (t ∷ zero ∷ []) from.0 from.1 (before_ranks t)
              (λ y due b. no_rank t (place y) (shape y) b),
        ) in (
          end.0,
          move_on place IsDue (t ∷ ranks ∷ []) (suc t ∷ []) end.0 end.1 (λ q b. inside_next [] t ranks q b)
              (λ y due b. all_ranks t (place y) (shape y) b),
        )

    -- nothing is due before time 0
    at_start : IsRunTo (zero ∷ [])
    at_start = ([], empty_run place IsDue (zero ∷ []) (λ y due b. none (place y) (shape y) b))
      where
        none : (p : List ℕ) → IsShaped ranks p → IsBefore p (zero ∷ []) → ⊥
        none p at b = by (rw at.is at b)
          where
            by : IsBefore (at.time ∷ at.rank ∷ at.key) (zero ∷ []) → ⊥
            by (inl lt) = omega arith
            by (inr h) = h.1

    pub run_to_time : (t : ℕ) → IsRunTo (t ∷ [])
    run_to_time zero = at_start
    run_to_time (suc t) = next_time t (run_to_time t)

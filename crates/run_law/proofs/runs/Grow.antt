-- How a run begins, goes up to a later mark, and goes on by its next record.
use Rattle.run_law.proofs.Words.{◌++◌, ◌∙◌, ◌∷◌, ◌≡◌, ◌⊎◌, AllBefore, IsBefore, IsFounded, IsRun, List, NoneBefore, [], ap, append-nil, inl, inr, refl}
use Rattle.{run_law.{proofs.Words.{sym, ℕ}, specs.runs.Runs.NothingDueUpTo}, tte_units.proofs.general_lemmas.Lists.{no_front, none_before}}
use Rattle.run_law.proofs.runs.Places.{before_behind, behind, chain, either_way, in_left, in_parts, in_right, never_self, nothing_between}
use Rattle.std.proofs.Common.{arith}

-- ---- a run begins

-- no record is the run up to a mark before which none is due
pub empty_run : {N : Type 0} (place : N → List ℕ) (IsDue : List N → N → Type 0) (mark : List ℕ) → ((y : N) → IsDue [] y → IsBefore (place y) mark → ⊥)
    → IsRun place IsDue mark []
empty_run {N} place IsDue mark none = grind (arith, none_before, no_front)

-- ---- a run under other causes, and up to another mark

-- a run up to a mark is that up to another one, where its records are before this and no others are due
pub move_mark : {N : Type 0} {place : N → List ℕ} (IsDue : List N → N → Type 0) {mark later : List ℕ} {ns : List N}
    → IsRun place IsDue mark ns → AllBefore place ns later → NothingDueUpTo place IsDue mark ns later
    → IsRun place IsDue later ns
move_mark IsDue run within nothing = grind arith

-- ---- a run goes on

-- a list and one more, in two parts
pub record IsLastOf {N : Type 0} (ns ps qs : List N) (x : N) : Type 0 where
  pub others : List N
  pub last : qs ≡ others ++ x ∷ []
  pub whole : ns ≡ ps ++ others

pub in_two : {N : Type 0} (ns ps qs : List N) (x : N) → ns ++ x ∷ [] ≡ ps ++ qs → ((qs ≡ []) × (ps ≡ ns ++ x ∷ [])) ⊎ IsLastOf ns ps qs x
in_two ns [] qs x e = inr (record { others = ns; last = sym e; whole = refl })
in_two [] (p ∷ []) [] x e = inl (refl, sym e)
in_two [] (p ∷ []) (q ∷ qs) x e = absurd cc
in_two [] (p ∷ r ∷ ps) qs x e = absurd cc
in_two (n ∷ ns) (p ∷ ps) qs x e =
    let head : n ≡ p = cc in
    elim (in_two ns ps qs x cc) [
      | inl l ↦ inl (l.0, rw l.1 (rw (sym head)))
      | inr r ↦ inr (record {
        others = r.others;
        last = r.last;
        whole =
            rw r.whole (rw head);
      })
    ]

no_cons : {N : Type 0} (y : N) (qs : List N) → y ∷ qs ≡ [] → ⊥
no_cons y qs e = cc

founded_by : {N : Type 0} (place : N → List ℕ) (IsDue : List N → N → Type 0) (ns : List N) (x : N) → IsFounded place IsDue ns → AllBefore place ns (place x)
    → IsDue ns x → (ps qs : List N) (y : N) (others : List N) → y ∷ qs ≡ others ++ x ∷ [] → ns ≡ ps ++ others → AllBefore place ps (place y) × IsDue ps y
founded_by {N} place IsDue ns x founded before due ps qs y [] last whole = grind (arith, append-nil)
founded_by {N} place IsDue ns x founded before due ps qs y (o ∷ others) last whole =
    founded ps others y (whole ∙ ap (λ t. ps ++ t ∷ others) (sym cc))

-- a founded list is founded with one more that is behind it and due
pub grow_founded : {N : Type 0} (place : N → List ℕ) (IsDue : List N → N → Type 0) (ns : List N) (x : N) → IsFounded place IsDue ns
    → AllBefore place ns (place x) → IsDue ns x → IsFounded place IsDue (ns ++ x ∷ [])
grow_founded place IsDue ns x founded before due ps qs y e =
    elim (in_two ns ps (y ∷ qs) x e) [
      | inl l ↦ absurd (no_cons y qs l.0)
      | inr r ↦ founded_by place IsDue ns x founded before due ps qs y r.others r.last r.whole
    ]

-- a run goes on by the record that is due behind it, where no other is due before that
pub grow : {N : Type 0} {place : N → List ℕ} (IsDue : List N → N → Type 0) {mark : List ℕ} {ns : List N} (x : N)
    → IsRun place IsDue mark ns → AllBefore place ns (place x) → IsDue ns x
    → NothingDueUpTo place IsDue mark ns (place x) → IsRun place IsDue (behind (place x)) (ns ++ x ∷ [])
grow {N} {place} IsDue {ns} x run before due nothing =
    let at_x = in_right x ns (x ∷ []) (inl refl) in
    record {
      founded = grow_founded place IsDue ns x run.founded before due;
      full = λ ps qs y e b n d w.
          elim (either_way (place y) (place x)) [
            | inr (inl same) ↦ (x, at_x, sym same)
            | inr (inr gt) ↦ absurd (nothing_between (place x) (place y) gt w)
            | inl lt ↦
                elim (in_two ns ps qs x e) [
                  | inl l ↦ absurd (never_self (place x) (chain (place x) (place y) (place x) (b x (rw l.1 at_x)) lt))
                  | inr r ↦
                      let none : NoneBefore place r.others (place y) = λ m i. n m
                      (rw r.last (in_left m r.others (x ∷ []) i)) in
                      let found = run.full ps r.others y r.whole b none d (nothing.gap ps r.others y r.whole b none d lt) in
                      (found.0, in_left found.0 ns (x ∷ []) found.1, found.2)
                ]
          ];
      within = λ m i.
          elim (in_parts m ns (x ∷ []) i) [
            | inl l ↦ chain (place m) (place x) (behind (place x)) (before m l) (before_behind (place x))
            | inr (inl e) ↦ rw e (before_behind (place x))
            | inr (inr none) ↦ absurd none
          ];
    }

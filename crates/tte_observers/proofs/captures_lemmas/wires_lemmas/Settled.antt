-- Which records are settled as one more is given.
use Rattle.run_law.{proofs.law.FirstDeliveries.{in_filter, none_kept}, specs.records.Order.IsBefore}
use Rattle.tte_observers.specs.captures.wires.Packets.{is_behind_events}
use Rattle.run_law.proofs.{records.Order.{all_kept, any_in, in_any, same_kept}}
use Rattle.run_law.proofs.{runs.Places.{in_left, in_parts, in_right, parted}}
use Rattle.std.proofs.{Common.{◌&&◌, filter, nat_lt, not}, lemmas.{Bool.{or_cases, or_left, or_right}, List.Elements.filter-append}}
use Rattle.std.proofs.lemmas.Bool.{and_from, cases_Bool, cases_lt, eq-eqb, false_from_ne_true, lt-ltb, ltb-true, not-true, not_from_false, not_from_true}
use Rattle.tte_observers.proofs.captures_lemmas.wires_lemmas.Words.{◌++◌, ◌<◌, ◌==◌, ◌∙◌, ◌∷◌, ◌≡◌, ◌≤◌, ◌⊎◌, AllBefore, Bool, Happening, IsIn, List, []}
use Rattle.tte_observers.proofs.captures_lemmas.wires_lemmas.Words.{and_parts, ap, append-nil, arith, both_ways, eqb-true, false, if◌then◌else◌, inl, inr}
use Rattle.tte_observers.proofs.captures_lemmas.wires_lemmas.Words.{is_settled, place_of, rank, refl, settled, subst, sym, time_of, true, unsettled, ℕ}
pub use Rattle.tte_observers.specs.captures.wires.Stopping.{filter_has}
use Rattle.run_law.proofs.records.Members.{in_kept}

-- ---- behind the events of a time

-- the record is of a later time, or of this time and no event's
abbrev pub IsBehindEvents : ℕ → Happening → Type 0
IsBehindEvents t g = (t < time_of g) ⊎ ((time_of g ≡ t) × (1 < rank g.note.body))

behind_tested : (t : ℕ) (g : Happening) → IsBehindEvents t g → is_behind_events t g ≡ true
behind_tested t g (inl lt) = or_left (nat_lt t (time_of g)) (t == time_of g && nat_lt 1 (rank g.note.body)) (lt-ltb t (time_of g) lt)
behind_tested t g (inr h) =
    or_right (nat_lt t (time_of g)) (t == time_of g && nat_lt 1 (rank g.note.body))
    (and_from (t == time_of g) (nat_lt 1 (rank g.note.body)) (eq-eqb t (time_of g) (sym h.0)) (lt-ltb 1 (rank g.note.body) h.1))

tested_behind : (t : ℕ) (g : Happening) → is_behind_events t g ≡ true → IsBehindEvents t g
tested_behind t g is = elim (or_cases (nat_lt t (time_of g)) (t == time_of g && nat_lt 1 (rank g.note.body)) is) [
  | inl later ↦ inl (ltb-true t (time_of g) later)
  | inr here ↦
      let h = and_parts (t == time_of g) (nat_lt 1 (rank g.note.body)) here in
      inr (sym (eqb-true t (time_of g) h.0), ltb-true 1 (rank g.note.body) h.1)
]

-- it is settled by this record
pub settled_by : (hs : List Happening) (h g : Happening) → IsIn g hs → IsBehindEvents (time_of h) g → is_settled hs h ≡ true
settled_by hs h g i b = in_any (is_behind_events (time_of h)) hs g i (behind_tested (time_of h) g b)

-- and then there is one
settling : (hs : List Happening) (h : Happening) → is_settled hs h ≡ true → (g : Happening) × IsIn g hs × IsBehindEvents (time_of h) g
settling hs h is = let f = any_in (is_behind_events (time_of h)) hs is in (f.0, f.1, tested_behind (time_of h) f.0 f.2)

not_settled : (hs : List Happening) (h : Happening) → ((g : Happening) → IsIn g hs → IsBehindEvents (time_of h) g → ⊥) → is_settled hs h ≡ false
not_settled hs h none = false_from_ne_true (is_settled hs h) (λ is. let s = settling hs h is in none s.0 s.1 s.2)

-- the record of an event alone is not settled by its own place
pub unsettled_rank : (hs : List Happening) (h : Happening) → IsIn h (unsettled hs) → rank h.note.body ≤ 1
unsettled_rank hs h i =
    let free = not-true (is_settled hs h) (filter_has (λ g. not (is_settled hs g)) hs h i) in
    elim (cases_lt 1 (rank h.note.body)) [
      | inl high ↦
          absurd (both_ways (is_settled hs h) free (settled_by hs h h (in_filter (λ g. not (is_settled hs g)) hs h i) (inr (refl, high))))
      | inr low ↦ low
    ]

-- ---- places

-- what is before the place of an event's record is earlier, or an event's of its time
pub before_event : (h : Happening) (t : ℕ) (more : List ℕ) → IsBefore (place_of h) (t ∷ 1 ∷ more) → (time_of h < t) ⊎ ((time_of h ≡ t) × (rank h.note.body ≤ 1))
before_event h t more (inl lt) = inl lt
before_event h t more (inr (same, inl low)) = inr (same, omega (arith, low))
before_event h t more (inr (same, inr (is, rest))) = inr (same, omega (arith, is))

-- what is before the place of a record is not later
pub before_record : (h z : Happening) → IsBefore (place_of h) (place_of z) → (time_of h < time_of z) ⊎ (time_of h ≡ time_of z)
before_record h z (inl lt) = inl lt
before_record h z (inr (same, rest)) = inr same

-- a settled record is earlier than any event that comes behind all records
pub settled_sooner : (hs : List Happening) (t : ℕ) (more : List ℕ) → AllBefore place_of hs (t ∷ 1 ∷ more) → (h : Happening) → is_settled hs h ≡ true
    → time_of h < t
settled_sooner hs t more all h is =
    let s = settling hs h is in
    let g = s.0 in
    elim s.2 [
      | inl later ↦ elim (before_event g t more (all g s.1)) [ inl lt ↦ omega (arith, later, lt) | inr here ↦ (let e = here.0 in omega (arith, later, e)) ]
      | inr same ↦
          let at = same.0 in
          let high = same.1 in
          elim (before_event g t more (all g s.1)) [ inl lt ↦ omega (arith, at, lt) | inr here ↦ (let low = here.1 in absurd (omega (arith, high, low))) ]
    ]

-- ---- one more record

module _ (hs : List Happening) (n : Happening) where
  abbrev pub more : List Happening
  more = hs ++ n ∷ []

  own : IsIn n more
  own = in_right n hs (n ∷ []) (inl refl)

  -- it settles those that it is behind
  pub settles : (h : Happening) → IsBehindEvents (time_of h) n → is_settled more h ≡ true
  settles h b = settled_by more h n own b

  -- behind all of them
  pub all_settled : ((h : Happening) → IsIn h more → IsBehindEvents (time_of h) n) → (settled more ≡ more) × (unsettled more ≡ [])
  all_settled all = (
    all_kept (is_settled more) more (λ h i. settles h (all h i)),
    none_kept (λ h. not (is_settled more h)) more (λ h i. not_from_true (is_settled more h) (settles h (all h i))),
  )

  one_settled : (p : Happening → Bool) → p n ≡ false → filter p (n ∷ []) ≡ []
  one_settled p off = ap (λ (b : Bool). if b then n ∷ [] else []) off

  one_unsettled : (p : Happening → Bool) → p n ≡ false → filter (λ h. not (p h)) (n ∷ []) ≡ n ∷ []
  one_unsettled p off = ap (λ (b : Bool). if not b then n ∷ [] else []) off

  module _ (new : is_settled more n ≡ false) where
    -- all but itself
    pub others_settled : ((h : Happening) → IsIn h hs → IsBehindEvents (time_of h) n) → (settled more ≡ hs) × (unsettled more ≡ n ∷ [])
    others_settled all =
        let p = is_settled more in
        let each : (h : Happening) → IsIn h hs → p h ≡ true = λ h i. settles h (all h i) in (
          filter-append p hs (n ∷ []) ∙ ap (λ l. l ++ filter p (n ∷ [])) (all_kept p hs each) ∙ ap (λ l. hs ++ l) (one_settled p new) ∙ append-nil hs,
          filter-append (λ h. not (p h)) hs (n ∷ []) ∙ ap (λ l. l ++ filter (λ h. not (p h)) (n ∷ [])) (none_kept (λ h. not (p h)) hs
              (λ h i. not_from_true (p h) (each h i))) ∙ one_unsettled p new,
        )

    -- no further ones
    pub still_settled : ((h : Happening) → IsIn h hs → is_settled more h ≡ is_settled hs h) → (settled more ≡ settled hs)
        × (unsettled more ≡ unsettled hs ++ n ∷ [])
    still_settled same =
        let p = is_settled more in
        let q = is_settled hs in (
          filter-append p hs (n ∷ []) ∙ ap (λ l. l ++ filter p (n ∷ [])) (same_kept p q hs same) ∙ ap (λ l. filter q hs ++ l) (one_settled p new)
              ∙ append-nil (filter q hs),
          filter-append (λ h. not (p h)) hs (n ∷ [])
              ∙ ap (λ l. l ++ filter (λ h. not (p h)) (n ∷ [])) (same_kept (λ h. not (p h)) (λ h. not (q h)) hs (λ h i. ap not (same h i)))
              ∙ ap (λ l. filter (λ h. not (q h)) hs ++ l) (one_unsettled p new),
        )

  -- a record that is settled stays so
  kept : (h : Happening) → is_settled hs h ≡ true → is_settled more h ≡ true
  kept h is = let s = settling hs h is in settled_by more h s.0 (in_left s.0 hs (n ∷ []) s.1) s.2

  -- one more record of an event, behind all, and not behind those that are not settled
  module _ (event : rank n.note.body ≡ 1) (t : ℕ) (at : time_of n ≡ t) (key : List ℕ) (all : AllBefore place_of hs (t ∷ 1 ∷ key)) where
    not_behind : (h g : Happening) → t ≤ time_of h → IsIn g more → IsBehindEvents (time_of h) g → ⊥
    not_behind h g late i b = elim (in_parts g hs (n ∷ []) i) [
      | inl old ↦ elim (before_event g t key (all g old)) [
        | inl lt ↦ elim b [ inl later ↦ omega (arith, late, lt, later) | inr here ↦ (let e = here.0 in omega (arith, late, lt, e)) ]
        | inr same ↦
            let e = same.0 in
            let low = same.1 in
            elim b [ inl later ↦ omega (arith, late, e, later) | inr here ↦ (let high = here.1 in omega (arith, low, high)) ]
      ]
      | inr (inl it) ↦
          let now : time_of g ≡ t = ap time_of it ∙ at in
          let low : rank g.note.body ≡ 1 = ap (λ (x : Happening). rank x.note.body) it ∙ event in
          elim b [ inl later ↦ omega (arith, late, now, later) | inr here ↦ (let high = here.1 in omega (arith, low, high)) ]
      | inr (inr none) ↦ none
    ]

    pub new_unsettled : is_settled more n ≡ false
    new_unsettled = not_settled more n (λ g i b. not_behind n g (omega (arith, at)) i b)

    -- where those that are not settled are of its time, it settles none
    pub same_settled : ((h : Happening) → IsIn h (unsettled hs) → time_of h ≡ t) → (h : Happening) → IsIn h hs → is_settled more h ≡ is_settled hs h
    same_settled now h i = elim (cases_Bool (is_settled hs h)) [
      | inl on ↦ kept h on ∙ sym on
      | inr off ↦
          let when = now h (in_kept (λ g. not (is_settled hs g)) hs h i (not_from_false (is_settled hs h) off)) in
          not_settled more h (λ g j b. not_behind h g (omega (arith, when)) j b) ∙ sym off
    ]

    -- where they are of another time, it settles all
    pub others_earlier : (t0 : ℕ) → ((h : Happening) → IsIn h (unsettled hs) → time_of h ≡ t0) → (t0 ≡ t → ⊥) → (h : Happening) → IsIn h hs → time_of h < t
    others_earlier t0 now apart h i = elim (cases_Bool (is_settled hs h)) [
      | inl on ↦ settled_sooner hs t key all h on
      | inr off ↦
          let when = now h (in_kept (λ g. not (is_settled hs g)) hs h i (not_from_false (is_settled hs h) off)) in
          elim (before_event h t key (all h i)) [ inl lt ↦ lt | inr same ↦ absurd (apart (sym when ∙ same.0)) ]
    ]

-- ---- records in order

-- what has the property stands before what has not
part_first : {X : Type 0} (p : X → Bool) (xs : List X)
    → ((ps : List X) (x : X) (qs : List X) → xs ≡ ps ++ x ∷ qs → p x ≡ true → (y : X) → IsIn y ps → p y ≡ true) → xs ≡ filter p xs ++ filter (λ x. not (p x)) xs
part_first p [] closed = refl
part_first {X} p (x ∷ xs) closed =
    by (p x) refl (part_first p xs (λ ps z qs is holds y i. closed (x ∷ ps) z qs (ap (λ (l : List X). x ∷ l) is) holds y (inr i)))
  where
    by : (b : Bool) → p x ≡ b → xs ≡ filter p xs ++ filter (λ y. not (p y)) xs
        → x ∷ xs ≡ (if b then x ∷ filter p xs else filter p xs) ++ (if not b then x ∷ filter (λ y. not (p y)) xs else filter (λ y. not (p y)) xs)
    by true is rest = ap (λ (l : List X). x ∷ l) rest
    by false is rest =
        let none : (y : X) → IsIn y xs → p y ≡ false = λ y i.
        false_from_ne_true (p y) (λ holds.
        let at = parted y xs i in
        both_ways (p x) is (closed (x ∷ at.0) y at.1 (ap (λ (l : List X). x ∷ l) at.2) holds x (inl refl))) in
        sym (ap (λ (l : List X). l ++ x ∷ filter (λ y. not (p y)) xs) (none_kept p xs none)
        ∙ ap (λ (l : List X). x ∷ l) (all_kept (λ y. not (p y)) xs (λ y i. not_from_false (p y) (none y i))))

-- in a run the settled records stand first
pub settled_first : (hs : List Happening) → ((ps qs : List Happening) (x : Happening) → hs ≡ ps ++ x ∷ qs → AllBefore place_of ps (place_of x))
    → hs ≡ settled hs ++ unsettled hs
settled_first hs order = part_first (is_settled hs) hs (λ ps x qs is holds y i.
    let s = settling hs x holds in
    let here : IsIn y hs = subst (IsIn y) (sym is) (in_left y ps (x ∷ qs) i) in
    settled_by hs y s.0 s.1 (elim (before_record y x (order ps qs x is y i)) [
      | inl lt ↦ inl (elim s.2 [ inl later ↦ omega (arith, lt, later) | inr same ↦ (let e = same.0 in omega (arith, lt, e)) ])
      | inr at ↦ subst (λ t. IsBehindEvents t s.0) (sym at) s.2
    ]))

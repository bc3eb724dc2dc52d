-- The first of what is to come is given: what is worked off then.
use Rattle.{run_law.proofs.runs.Places.nothing_between, world_law.proofs.Words.{rank, refl, subst, suc, sym, time_of, ℕ}}
use Rattle.run_law.specs.{control.Permanence.IsPermanent, scenario.{Scenarios.events_up_to}}
use Rattle.std.proofs.lemmas.Bool.{le-leb}
use Rattle.world_law.proofs.runs.{TaskPlaces.{no_task_at, second}, Worlds.{AreSettled, first_before, source_back}}
use Rattle.world_law.proofs.Words.{◌++◌, ◌<◌, ◌∙◌, ◌∷◌, ◌≡◌, ◌≤◌, ◌⊎◌, DeviceId, Happening, HaveBefallen, IsBefore, IsForward, IsIn}
use Rattle.world_law.proofs.Words.{IsSource, LinkId, List, NoSourceBefore, NoteBody, Option, Pcf, Scenario, Some, Units, [], amount, ap, arith}
use Rattle.world_law.proofs.Words.{before_behind, before_later, before_or_not, behind, chain, either_way, in_left, inl, inr, is_at_source, is_broken, key}
use Rattle.world_law.proofs.Words.{length, members_in, nat_le, never_self, numbered, place_of, same_kept, slice_get, true}
use Rattle.world_law.specs.device.Plain.{with_number}
use Rattle.run_law.specs.declared.note.NoteBody.TheVariants as notes

-- ---- events so far

pub in_get : {X : Type 0} (xs : List X) (x : X) → IsIn x xs → (i : ℕ) × (slice_get xs i ≡ Some x)
in_get [] x i = absurd i
in_get (y ∷ xs) x (inl e) = (0, ap Some (sym e))
in_get (y ∷ xs) x (inr i) = let more = in_get xs x i in (suc more.0, more.1)

-- at a later time no other events have befallen
pub no_later_events : {s : Scenario} {frontier : List ℕ} {now : ℕ} (t : ℕ) → HaveBefallen s frontier now → now ≤ t
    → events_up_to s t ≡ events_up_to s now
no_later_events t b le = grind (arith, same_kept, nat_le, amount, in_get, le-leb)

pub no_later_breaks : (s : Scenario) (frontier : List ℕ) (now t : ℕ) (device : DeviceId)
    → HaveBefallen s frontier now → now ≤ t
    → is_broken s device t ≡ is_broken s device now
no_later_breaks s frontier now t device b le =
    rw (no_later_events t b le)

pub some_same : {X : Type 0} (x y : X) (o : Option X) → o ≡ Some x → o ≡ Some y → x ≡ y
some_same x y o a b = cc

-- the arrival of this number is permanent by the records of its number alone
pub same_permanent : {s : Scenario} (hs : List Happening) {js : List Happening} {t : ℕ} {device : DeviceId}
    {link : LinkId} {cause : ℕ} {frame : Pcf} {point : Units} (p : IsPermanent s js device t link cause frame point)
    → numbered hs cause ≡ Some p.arrival → IsPermanent s hs device t link cause frame point
same_permanent hs p there = grind arith

-- ---- places

-- what is before the place just behind another is not behind that one
pub up_to_place : (w p : List ℕ) → IsBefore w (behind p) → (w ≡ p) ⊎ IsBefore w p
up_to_place w p b = elim (either_way w p) [ inl lt ↦ inr lt | inr (inl e) ↦ inl e | inr (inr gt) ↦ absurd (nothing_between p w gt b) ]

-- ---- a source at the place of a record

key_long : (members : ℕ) (body : NoteBody) → 1 ≤ length (key members body)
key_long m (notes.Event line what) = omega arith
key_long m other = omega arith

abbrev pub IsNoSourceRank : ℕ → Type 0
IsNoSourceRank r = (2 ≡ r → ⊥) × (3 ≡ r → ⊥) × (8 ≡ r → ⊥) × (14 ≡ r → ⊥) × ((r < 4) ⊎ (6 < r))

pub source_kinds : (body : NoteBody) → (is_at_source body ≡ true) ⊎ IsNoSourceRank (rank body)
source_kinds (notes.Arrived device link cause clock) = inl refl
source_kinds (notes.Permanent device link cause point verdict) = inl refl
source_kinds (notes.Left device link cause clock) = inl refl
source_kinds (notes.Clock device reading adjustment state) = inl refl
source_kinds (notes.Compressed device opened at cycle members verdict) = inl refl
source_kinds (notes.Sent device cycle) = inl refl
source_kinds (notes.Corrected device cycle by adjustment) = inl refl
source_kinds (notes.Event line what) =
    inr (λ e. omega arith, λ e. omega arith, λ e. omega arith, λ e. omega arith, inl (omega arith))
source_kinds other = inr (λ e. omega arith, λ e. omega arith, λ e. omega arith, λ e. omega arith, inr (omega arith))

abbrev time_in : List ℕ → ℕ
time_in [] = 0
time_in (n ∷ ns) = n

-- a source that stands at the place of a record stands so by the record's kind
pub at_its_place : {s : Scenario} {hs : List Happening} (z : Happening) {w : List ℕ} → IsSource s hs w
    → w ≡ place_of z → is_at_source z.note.body ≡ true
at_its_place {s} z (IsSource.acting t device task a) e = search (arith, source_kinds, no_task_at, rank, key)
at_its_place z source e = grind (arith, source_kinds, second, key_long)

-- ---- what is worked off

-- what a step that gives the first of what is to come starts from
pub record IsGiving (s : Scenario) (hs : List Happening) (z : Happening) (rest : List Happening) (from to : List ℕ)
    (now : ℕ) : Type 0 where
  pub forward : IsForward s
  pub are : AreSettled s hs (z ∷ rest) from to now
  pub first : NoSourceBefore s hs to (place_of z)
  pub past : (p : List ℕ) → IsBefore p (now ∷ []) → IsBefore p to

-- records of the time of this one, none before it
abbrev pub AreOver : Happening → List Happening → Type 0
AreOver z zs = (y : Happening) → IsIn y zs → (time_of y ≡ time_of z) × (IsBefore (place_of y) (place_of z) → ⊥)

-- so it is of itself, whatever its number
pub over_itself : (z : Happening) (n : ℕ) → AreOver z (with_number n z ∷ [])
over_itself z n y (inl same) = (ap time_of same, λ b. never_self (place_of z) (subst (λ p. IsBefore p (place_of z)) (ap place_of same) b))
over_itself z n y (inr none) = absurd none

module _ {s : Scenario} {hs : List Happening} {z : Happening} {rest : List Happening} {from to : List ℕ} {now : ℕ}
    (g : IsGiving s hs z rest from to now) where
  -- and of what is to come from it on
  pub all_over : (front back : List Happening) → rest ≡ front ++ back → AreOver z (z ∷ front)
  all_over front back e y (inl same) =
      (ap time_of same, λ b. never_self (place_of z) (rw same at b))
  all_over front back e y (inr i) =
      let there : IsIn y rest = rw e (in_left y front back i) in (
        g.are.of_now y (inr there) ∙ sym (g.are.of_now z (inl refl)),
        λ b. never_self (place_of z) (chain (place_of z) (place_of y) (place_of z) (first_before g.are y there) b),
      )

  -- a source up to the place of the first, by others of its time that are not before it, is worked off
  pub worked_by_then : (zs : List Happening) → AreOver z zs → {w : List ℕ} → IsSource s (hs ++ zs) w
      → IsBefore w (behind (place_of z)) → IsBefore w to
  worked_by_then zs over {w} source under =
      let le = up_to_place w (place_of z) under in
      let at = g.are.of_now z (inl refl) in
      elim (source_back hs zs (time_of z) (rank z.note.body) (key (members_in z) z.note.body) g.forward
      (λ y i. (over y i).0) (λ y i. (over y i).1) source le) [
        | inl old ↦
            elim (before_or_not w to) [
              | inl yet ↦ yet
              | inr not ↦
                  elim le [
                    | inr lt ↦ absurd (g.first w old not lt)
                    | inl same ↦ rw same (g.are.worked z (inl refl) (at_its_place z old same))
                  ]
            ]
        | inr (inl early) ↦ g.past w (rw at at early)
        | inr (inr same) ↦ rw (ap (λ (n : ℕ). n ∷ 2 ∷ []) (sym at) ∙ sym same) at (g.are.begun z (inl refl))
      ]

-- what is not before the place just behind another is behind that one
pub beyond : (p q : List ℕ) → (IsBefore q (behind p) → ⊥) → IsBefore p q
beyond p q not = before_later p q (behind p) (before_behind p) not

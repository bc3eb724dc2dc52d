-- What is kept of all devices, and of the frames that they took, goes on by one more record.
use Rattle.std.{specs.Prelude.{OnOk, is_ok, option_and_then}}
use Rattle.std.proofs.{Common.{Err, Ok, Result}}
use Rattle.std.proofs.{lemmas.{Bool.{cases_order, eq-eqb, le-ltb}, List.Elements.filter_map-append}}
use Rattle.audit_devices.proofs.Kept.{kept_still, nothing_of, parted_on, test_chain}
use Rattle.run_law.proofs.{records.Order.{before_is, same_kept}, runs.Places.in_parts}
use Rattle.audit_devices.proofs.Words
use Words.{if◌then◌else◌, ◌&&◌, ◌++◌, ◌<◌, ◌==◌, ◌||◌, ◌∙◌, ◌∷◌, ◌≡◌, ◌⊎◌, AscendAll, Bool, Carried, DeviceId}
use Words.{DeviceTakings, Global, Happening, History, IsFresh, IsIn, Keeps, List, Network, None, NoteBody, Option}
use Words.{Scenario, Some, Taking, Vec, VlId, [], ap, arith, carried_by, cons_option, false, filter, filter_map}
use Words.{got_within, inl, inr, is_before, is_taking_before, last_or, length, members_in, nat_lt, ne_eqb, option_map}
use Words.{option_map_or, place_at, place_of, records_before, refl, slice_get, slice_set, subject_of, subst, suc, sym}
use Words.{taken_of, takings_of, time_of, true, zero, ℕ}
use Rattle.audit_devices.specs.{Following.IsMet, Keeping.KeepsAll, Showing.IsSteady}
use Rattle.audit_devices.specs.{Taking.{coming_of, taken_at, taken_by, taking_of}}
use Rattle.audit_devices.specs.{Takings.{HasTaken, TakesRightly, kept_of, taker_count}}
use Rattle.audit_devices.specs.{declared.{shown.Readings.Readings, taking.Taken.Taken, takings.Takings.Takings}}
use Rattle.net_plan.{proofs.SameIds.alike, specs.declared.ids.LinkId.LinkId}
use Rattle.run_law.specs.{records.{Happenings.earlier, Order.{AllBefore, IsBefore}}, scenario.Devices.is_end}
use Rattle.run_law.specs.timed.{Dispatching.{is_accepted, last_accepted}}
use Rattle.run_law.specs.timed.{Receptions.{is_taken_before, last_taken, taken_cycle}}
use Rattle.tte_units.proofs.general_lemmas.{Bools.{no_more, none_shorter}, Lists.{set_other, set_same}}
use Rattle.run_law.specs.declared.note.NoteBody.TheVariants as notes

-- ---- what is kept of all devices goes on by one more record: what holds where a call was not cut short

pub on_ok : {A E : Type 0} (r : Result A E) (P : Type 0) → (is_ok r ≡ true → P) → OnOk r P
on_ok (Ok x) P holds = holds refl
on_ok (Err e) P holds = tt

pub also_on_ok : {A E : Type 0} (r : Result A E) (P Q : Type 0) → (P → Q) → OnOk r P → OnOk r Q
also_on_ok (Ok x) P Q also holds = also holds
also_on_ok (Err e) P Q also holds = tt

-- ---- the step

pub all_still : (s : Scenario) (hs : List Happening) (h : Happening) (body : NoteBody) (histories : List History) → h.note.body ≡ body
    → ((device : DeviceId) → device.0 < length histories → subject_of body ≡ Some device → ⊥) → KeepsAll s hs histories → KeepsAll s (hs ++ h ∷ []) histories
all_still s hs h body histories is none keeps device history there =
    kept_still h
    (nothing_of s.network device (carried_by h) h.note.body
    (λ e. none device (got_within histories device.0 history there) (sym (ap subject_of is) ∙ e))) (keeps device history there)

pub all_on : {s : Scenario} (hs : List Happening) (h : Happening) {d : DeviceId} {new : History}
    (histories : List History) → subject_of h.note.body ≡ Some d → d.0 < length histories
    → Keeps s (hs ++ h ∷ []) d new → KeepsAll s hs histories → KeepsAll s (hs ++ h ∷ []) (slice_set histories d.0 new)
all_on {s} hs h {d} {new} histories subject within kept keeps device history there =
    elim (cases_order d.0 device.0) [
      | inl same ↦
          let mk : ℕ → DeviceId = λ n. record { 0 = n } in
          let one : d ≡ device = ap mk same in
          let found : Some new ≡ Some history = sym (set_same histories d.0 new within) ∙ ap (slice_get (slice_set histories d.0 new)) same ∙ there in
          let is : new ≡ history = cc in
          subst (λ x. Keeps s (hs ++ h ∷ []) x history) one (subst (Keeps s (hs ++ h ∷ []) d) is kept)
      | inr (inl lt) ↦ other (λ e. absurd (omega (arith, e, lt)))
      | inr (inr gt) ↦ other (λ e. absurd (omega (arith, e, gt)))
    ]
  where
    other : (d.0 ≡ device.0 → ⊥) → Keeps s (hs ++ h ∷ []) device history
    other not =
        kept_still h
        (nothing_of s.network device (carried_by h) h.note.body
        (λ e. let one : Some d ≡ Some device = sym subject ∙ e in let is : d ≡ device = cc in not (ap (λ (x : DeviceId). x.0) is)))
        (keeps device history (sym (set_other histories d.0 device.0 new not) ∙ there))

-- ---- the place of what is met

pub place_met : {s : Scenario} {d : DeviceId} {h : Happening} {t : ℕ} {body : NoteBody} {carried : Carried}
    {readings : Readings} → IsMet s d h t body carried readings → place_at t carried.members.0 body ≡ place_of h
place_met met = grind (arith, place_at, time_of, members_in)

-- ---- before a time

pub earlier_are : (t : ℕ) (hs : List Happening) → records_before (t ∷ []) hs ≡ earlier t hs
earlier_are t hs = same_kept (λ h. is_before (place_of h) (t ∷ [])) (λ h. nat_lt (time_of h) t) hs (λ h i. no_more (nat_lt (time_of h) t) (time_of h == t))

-- ---- at first

pub kept_first : {s : Scenario} {network : Network} {d : DeviceId} {history : History} → s.network ≡ network
    → IsSteady s d → IsFresh network d history → Keeps s [] d history
kept_first is steady fresh = grind (arith, length)

-- one more history that is fresh
pub fresh_more : {network : Network} (xs : List History) {x : History}
    → ((d : DeviceId) (history : History) → slice_get xs d.0 ≡ Some history → IsFresh network d history)
    → IsFresh network (record { 0 = length xs }) x → (d : DeviceId) (history : History)
    → slice_get (xs ++ x ∷ []) d.0 ≡ Some history → IsFresh network d history
fresh_more {network} xs {x} old new d history there =
    elim (which xs d.0 there) [
      | inl e ↦ old d history e
      | inr both ↦
          let mk : ℕ → DeviceId = λ n. record { 0 = n } in
          let one : mk (length xs) ≡ d = ap mk (sym both.0) in
          subst (IsFresh network d) both.1 (subst (λ y. IsFresh network y x) one new)
    ]
  where
    which : (ys : List History) (i : ℕ) → slice_get (ys ++ x ∷ []) i ≡ Some history → (slice_get ys i ≡ Some history) ⊎ ((i ≡ length ys) × (x ≡ history))
    which [] zero e = let is : x ≡ history = cc in inr (refl, is)
    which [] (suc i) e = absurd cc
    which (y ∷ ys) zero e = inl e
    which (y ∷ ys) (suc i) e = elim (which ys i e) [ inl f ↦ inl f | inr both ↦ inr (omega (arith, both.0), both.1) ]

-- ---- what is kept of the frames that were taken: the last one

-- of a record nothing is made and it does not pass, or what is made of it passes where it does
abbrev Fits : (Happening → Option Taking) → (Happening → Bool) → (Taking → Bool) → (Option Happening → Option Taking → Type 0) → Happening → Type 0
Fits f p q A h = ((f h ≡ None) × (p h ≡ false)) ⊎ ((e : Taking) × (f h ≡ Some e) × (p h ≡ q e) × A (Some h) (Some e))

last_agree : (f : Happening → Option Taking) (p : Happening → Bool) (q : Taking → Bool) (A : Option Happening → Option Taking → Type 0) (hs : List Happening)
    (o : Option Happening) (made : Option Taking) → ((h : Happening) → IsIn h hs → Fits f p q A h) → A o made
    → A (last_or o (filter p hs)) (last_or made (filter q (filter_map f hs)))
last_agree f p q A [] o made fits a = a
last_agree f p q A (h ∷ hs) o made fits a = by (λ u v w. last_agree f p q A hs u v (λ x i. fits x (inr i)) w) (fits h (inl refl))
  where
    Rest : Type 0
    Rest = (u : Option Happening) (v : Option Taking) → A u v → A (last_or u (filter p hs)) (last_or v (filter q (filter_map f hs)))

    on : Rest → (e : Taking) (b : Bool) → A (Some h) (Some e)
        → A (last_or o (if b then h ∷ filter p hs else filter p hs)) (last_or made (if b then e ∷ filter q (filter_map f hs) else filter q (filter_map f hs)))
    on rest e true agree = rest (Some h) (Some e) agree
    on rest e false agree = rest o made a

    by : Rest → Fits f p q A h → A (last_or o (filter p (h ∷ hs))) (last_or made (filter q (filter_map f (h ∷ hs))))
    by rest (inl (none, off)) =
        subst (λ (b : Bool). A (last_or o (if b then h ∷ filter p hs else filter p hs)) (last_or made (filter q (filter_map f (h ∷ hs))))) (sym off)
        (subst (λ (k : Option Taking). A (last_or o (filter p hs)) (last_or made (filter q (cons_option k (filter_map f hs))))) (sym none)
        (rest o made a))
    by rest (inr (e, some, same, agree)) =
        subst (λ (b : Bool). A (last_or o (if b then h ∷ filter p hs else filter p hs)) (last_or made (filter q (filter_map f (h ∷ hs))))) (sym same)
        (subst (λ (k : Option Taking). A (last_or o (if q e then h ∷ filter p hs else filter p hs)) (last_or made (filter q (cons_option k (filter_map f hs)))))
        (sym some)
        (on rest e (q e) agree))

filter_both : {X : Type 0} (r p : X → Bool) (xs : List X) → filter p (filter r xs) ≡ filter (λ x. r x && p x) xs
filter_both r p [] = refl
filter_both {X} r p (x ∷ xs) = grind (arith, filter, (filter_both r p xs))

-- ---- frames that came before another

both_fit : (x y c : Bool) (e : Taking) (passes : Bool) (P : Type 0) → c ≡ passes → P → (((if x && y then Some e else None) ≡ None) × ((x && y && c) ≡ false))
    ⊎ (((if x && y then Some e else None) ≡ Some e) × ((x && y && c) ≡ passes) × P)
both_fit true true c e passes P same holds = inr (refl, same, holds)
both_fit true false c e passes P same holds = inl (refl, refl)
both_fit false y c e passes P same holds = inl (refl, refl)

abbrev TakenFits : DeviceId → VlId → ℕ → LinkId → ℕ → ℕ → ℕ → NoteBody → Type 0
TakenFits device vl t link cause at number body =
    ((option_and_then (taken_at device vl) (taken_by at number body) ≡ None) × (is_taken_before device vl t link cause at body ≡ false))
    ⊎ ((e : Taking) × (option_and_then (taken_at device vl) (taken_by at number body) ≡ Some e)
    × (is_taken_before device vl t link cause at body ≡ is_taking_before t link cause e) × (taken_cycle body ≡ Some e.cycle))

came : (at t by link from cause : ℕ) → (nat_lt at t || (at == t && (nat_lt by link || (by == link && nat_lt from cause))))
    ≡ (nat_lt at t || (at == t && (nat_lt by link || (by == link && (nat_lt from cause || (from == cause && false))))))
came at t by link from cause =
    ap (λ (b : Bool). nat_lt at t || (at == t && (nat_lt by link || (by == link && b)))) (sym (no_more (nat_lt from cause) (from == cause)))

taken_fits : (device : DeviceId) (vl : VlId) (t : ℕ) (link : LinkId) (cause at number : ℕ) (body : NoteBody) → TakenFits device vl t link cause at number body
taken_fits device vl t link cause at number (notes.Accepted other by from of_vl cycle) =
    let e : Taking = record { time = at; link = by; cause = from; number = number; cycle = cycle } in
    elim (both_fit (device.0 == other.0) (vl.0 == of_vl.0) _ e (is_taking_before t link cause e) (Some cycle
    ≡ Some cycle) (came at t by.0 link.0 from cause) refl) [
      | inl none ↦ inl none
      | inr (some, same, says) ↦ inr (e, some, same, says)
    ]
taken_fits device vl t link cause at number (notes.Delivered other by from of_vl cycle) = grind (arith, both_fit, is_taking_before, came)
taken_fits device vl t link cause at number body = inl (refl, refl)

pub last_taken_is : (hs : List Happening) (device : DeviceId) (t : ℕ) (link : LinkId) (cause : ℕ) (vl : VlId)
    → last_taken hs device t link cause vl ≡ option_map (λ e. e.cycle) (last_or None (filter (is_taking_before t link cause) (takings_of hs device vl)))
last_taken_is hs device t link cause vl =
    last_agree (taking_of device vl) (λ h. is_taken_before device vl t link cause (time_of h) h.note.body) (is_taking_before t link cause)
    (λ o made. option_and_then (λ h. taken_cycle h.note.body) o ≡ option_map (λ (e : Taking). e.cycle) made) hs None None
    (λ h i. taken_fits device vl t link cause (time_of h) h.note.number h.note.body) refl

-- ---- frames that a switch took before a time

abbrev AcceptedFits : DeviceId → VlId → ℕ → ℕ → ℕ → NoteBody → Type 0
AcceptedFits device vl t at number body =
    ((option_and_then (taken_at device vl) (taken_by at number body) ≡ None) × ((nat_lt at t && is_accepted device vl body) ≡ false))
    ⊎ ((e : Taking) × (option_and_then (taken_at device vl) (taken_by at number body) ≡ Some e)
    × ((nat_lt at t && is_accepted device vl body) ≡ is_taking_before t (record { 0 = 0 }) 0 e)
    × (option_and_then (taken_at device vl) (taken_by at number body) ≡ Some e))

none_below : (a b : Bool) → a ≡ false → (a || (b && false)) ≡ false
none_below a b e = no_more a b ∙ e

came_earlier : (at t by from : ℕ) → nat_lt at t ≡ (nat_lt at t || (at == t && (nat_lt by 0 || (by == 0 && (nat_lt from 0 || (from == 0 && false))))))
came_earlier at t by from = grind (arith, none_below, nat_lt, le-ltb, no_more)

switch_fit : (z x y : Bool) (e : Taking) (passes : Bool) → z ≡ passes → (((if x && y then Some e else None) ≡ None) × ((z && (x && y)) ≡ false))
    ⊎ (((if x && y then Some e else None) ≡ Some e) × ((z && (x && y)) ≡ passes) × ((if x && y then Some e else None) ≡ Some e))
switch_fit true true true e passes same = inr (refl, same, refl)
switch_fit false true true e passes same = inr (refl, same, refl)
switch_fit z true false e passes same = inl (refl, none_shorter z)
switch_fit z false y e passes same = inl (refl, none_shorter z)

accepted_fits : (network : Network) (device : DeviceId) (vl : VlId) (t at number : ℕ) (body : NoteBody) → is_end network device ≡ false
    → TakesRightly network body → AcceptedFits device vl t at number body
accepted_fits network device vl t at number (notes.Accepted other by from of_vl cycle) switch right =
    grind (arith, switch_fit, nat_lt, is_taking_before, came_earlier)
accepted_fits network device vl t at number (notes.Delivered other by from of_vl cycle) switch right = by_device (device.0 == other.0) refl
  where
    by_device : (b : Bool) → (device.0 == other.0) ≡ b → AcceptedFits device vl t at number (notes.Delivered other by from of_vl cycle)
    by_device true e =
        let clash : false ≡ true = sym switch ∙ ap (is_end network) (alike device other e) ∙ right in
        absurd cc
    by_device false e =
        let taking : Taking = record { time = at; link = by; cause = from; number = number; cycle = cycle } in
        inl (ap (λ (b : Bool). if b && vl.0 == of_vl.0 then Some taking else None) e, none_shorter (nat_lt at t))
accepted_fits network device vl t at number body switch right = inl (refl, none_shorter (nat_lt at t))

pub last_accepted_is : (network : Network) (hs : List Happening) (device : DeviceId) (vl : VlId) (t : ℕ) → is_end network device ≡ false
    → ((h : Happening) → IsIn h hs → TakesRightly network h.note.body) → option_and_then (taking_of device vl) (last_accepted hs device vl t)
    ≡ last_or None (filter (is_taking_before t (record { 0 = 0 }) 0) (takings_of hs device vl))
last_accepted_is network hs device vl t switch rightly =
    ap (λ (xs : List Happening). option_and_then (taking_of device vl) (last_or None xs))
    (filter_both (λ h. nat_lt (time_of h) t) (λ h. is_accepted device vl h.note.body) hs)
    ∙ last_agree (taking_of device vl) (λ h. nat_lt (time_of h) t && is_accepted device vl h.note.body) (is_taking_before t (record { 0 = 0 }) 0)
    (λ o made. option_and_then (taking_of device vl) o ≡ made) hs None None
    (λ h i. accepted_fits network device vl t (time_of h) h.note.number h.note.body switch (rightly h i)) refl

-- ---- their order

record IsMade (f : Happening → Option Taking) (hs : List Happening) (e : Taking) : Type 0 where
  pub h : Happening
  pub there : IsIn h hs
  pub made : f h ≡ Some e

in_made : (f : Happening → Option Taking) (hs : List Happening) (e : Taking) → IsIn e (filter_map f hs) → IsMade f hs e
in_made f [] e i = absurd i
in_made f (h ∷ hs) e i = by (λ j. in_made f hs e j) (f h) refl i
  where
    by : (IsIn e (filter_map f hs) → IsMade f hs e) → (o : Option Taking) → f h ≡ o → IsIn e (cons_option o (filter_map f hs)) → IsMade f (h ∷ hs) e
    by rest None eq i = let r = rest i in record { h = r.h; there = inr r.there; made = r.made }
    by rest (Some x) eq (inl same) = record { h = h; there = inl refl; made = eq ∙ ap (λ y. Some y) (sym same) }
    by rest (Some x) eq (inr more) = let r = rest more in record { h = r.h; there = inr r.there; made = r.made }

taken_so : (x y : Bool) (e taking : Taking) → (if x && y then Some e else None) ≡ Some taking → (x ≡ true) × (e ≡ taking)
taken_so true true e taking same = let is : e ≡ taking = cc in (refl, is)
taken_so true false e taking same = absurd cc
taken_so false y e taking same = absurd cc

-- the place of a record of this rank by which the device took this
abbrev taking_place : ℕ → DeviceId → Taking → List ℕ
taking_place r device e = e.time ∷ r ∷ device.0 ∷ e.link.0 ∷ e.cause ∷ []

-- the rank of the records by which a device takes frames
abbrev taking_rank : Network → DeviceId → ℕ
taking_rank network device = if is_end network device then 12 else 11

placed : (network : Network) (device : DeviceId) (vl : VlId) (at number members : ℕ) (body : NoteBody) (e : Taking) → TakesRightly network body
    → option_and_then (taken_at device vl) (taken_by at number body) ≡ Some e → place_at at members body ≡ taking_place (taking_rank network device) device e
placed network device vl at number members (notes.Accepted other by from of_vl cycle) e right made = grind (arith, taken_so, alike)
placed network device vl at number members (notes.Delivered other by from of_vl cycle) e right made = grind (arith, taken_so, alike)
placed network device vl at number members body e right made = absurd cc

came_first : (r d t l c u m k : ℕ) → IsBefore (t ∷ r ∷ d ∷ l ∷ c ∷ []) (u ∷ r ∷ d ∷ m ∷ k ∷ []) → IsBefore (t ∷ l ∷ c ∷ []) (u ∷ m ∷ k ∷ [])
came_first r d t l c u m k (inl lt) = inl lt
came_first r d t l c u m k (inr (e, inl lt)) = absurd (omega (arith, lt))
came_first r d t l c u m k (inr (e, inr (same, inl lt))) = absurd (omega (arith, lt))
came_first r d t l c u m k (inr (e, inr (same, inr (also, rest)))) = inr (e, rest)

-- what is taken, and what is further taken
abbrev more_by : Option Taking → List Taking → List Taking
more_by None taken = taken
more_by (Some e) taken = taken ++ e ∷ []

append_none : (xs : List Taking) → xs ++ [] ≡ xs
append_none [] = refl
append_none (x ∷ xs) = ap (λ (t : List Taking). x ∷ t) (append_none xs)

takings_more : (hs : List Happening) (h : Happening) (device : DeviceId) (vl : VlId)
    → takings_of (hs ++ h ∷ []) device vl ≡ more_by (taking_of device vl h) (takings_of hs device vl)
takings_more hs h device vl = grind (arith, filter_map-append, takings_of, cons_option, append_none)

ascend_more : (network : Network) (hs : List Happening) (h : Happening) (device : DeviceId) (vl : VlId)
    → ((x : Happening) → IsIn x hs → TakesRightly network x.note.body)
    → TakesRightly network h.note.body → AllBefore place_of hs (place_of h) → AscendAll (takings_of hs device vl)
    → AscendAll (takings_of (hs ++ h ∷ []) device vl)
ascend_more network hs h device vl rightly right all old = subst AscendAll (sym (takings_more hs h device vl)) (by (taking_of device vl h) refl)
  where
    by : (o : Option Taking) → taking_of device vl h ≡ o → AscendAll (more_by o (takings_of hs device vl))
    by None made = old
    by (Some e) made = λ t link cause.
        parted_on (is_taking_before t link cause) (takings_of hs device vl) e (old t link cause) (λ passes y i.
        let r = taking_rank network device in
        let m = in_made (taking_of device vl) hs y i in
        let first = placed network device vl (time_of m.h) m.h.note.number (members_in m.h) m.h.note.body y (rightly m.h m.there) m.made in
        let second = placed network device vl (time_of h) h.note.number (members_in h) h.note.body e right made in
        let before : IsBefore (taking_place r device y) (taking_place r device e) =
        subst (λ p. IsBefore p (taking_place r device e)) first (subst (IsBefore (place_of m.h)) second (all m.h m.there)) in
        let came = came_first r device.0 y.time y.link.0 y.cause e.time e.link.0 e.cause before in
        test_chain (coming_of y) (coming_of e) (t ∷ link.0 ∷ cause ∷ []) (before_is (coming_of y) (coming_of e) came) passes)

-- ---- one more record

pub taken_on : {network : Network} {hs : List Happening} (h : Happening) {old : Takings} (new : Takings)
    → taker_count new ≡ taker_count old → ((device : DeviceId) (vl : VlId) → device.0 < taker_count old
    → kept_of new device vl ≡ more_by (taking_of device vl h) (kept_of old device vl))
    → TakesRightly network h.note.body → AllBefore place_of hs (place_of h) → HasTaken network hs old
    → HasTaken network (hs ++ h ∷ []) new
taken_on {network} {hs} h {old} new count more right all has = record {
  kept = λ device vl lt.
      let within : device.0 < taker_count old = omega (arith, lt, count) in
      more device vl within
      ∙ ap (more_by (taking_of device vl h)) (has.kept device vl within)
      ∙ sym (takings_more hs h device vl);
  ascend = λ device vl. ascend_more network hs h device vl has.rightly right all (has.ascend device vl);
  rightly = λ x i. by x (in_parts x hs (h ∷ []) i);
}
  where
    by : (x : Happening) → (IsIn x hs) ⊎ (IsIn x (h ∷ [])) → TakesRightly network x.note.body
    by x (inl i) = has.rightly x i
    by x (inr (inl same)) = subst (λ (y : Happening). TakesRightly network y.note.body) (sym same) right
    by x (inr (inr none)) = absurd none

-- what the record of this time, number and body says was taken
pub told_by : (h : Happening) (time number : ℕ) (body : NoteBody) → time ≡ time_of h → number ≡ h.note.number → h.note.body ≡ body
    → taken_by (time_of h) h.note.number h.note.body ≡ taken_by time number body
told_by h time number body at count is = grind (arith, time_of)

-- a record by which nothing was taken
pub nothing_taken : (h : Happening) (device : DeviceId) (vl : VlId) (taken : List Taking) → taken_by (time_of h) h.note.number h.note.body ≡ None
    → taken ≡ more_by (taking_of device vl h) taken
nothing_taken h device vl taken none = ap (λ o. more_by (option_and_then (taken_at device vl) o) taken) (sym none)

of_other : (device : DeviceId) (vl : VlId) (t : Taken) → (device.0 ≡ t.device.0 → ⊥) → taken_at device vl t ≡ None
of_other device vl t not = ap (λ (b : Bool). if b && vl.0 == t.vl.0 then Some t.taking else None) (ne_eqb device.0 t.device.0 not)

module _ (h : Happening) (device : DeviceId) (vl : VlId) (t : Taken) (taken : List Taking)
    (is : taken_by (time_of h) h.note.number h.note.body ≡ Some t) where
  -- a record by which another device took something
  pub other_taken : (device.0 ≡ t.device.0 → ⊥) → taken ≡ more_by (taking_of device vl h) taken
  other_taken not =
      ap (λ o. more_by o taken) (sym (ap (option_and_then (taken_at device vl)) is ∙ of_other device vl t not))

  -- a record by which the device took something
  pub this_taken : device.0 ≡ t.device.0 → (if vl.0 == t.vl.0 then taken ++ t.taking ∷ [] else taken)
      ≡ more_by (taking_of device vl h) taken
  this_taken same = grind (arith, eq-eqb)

-- ---- what is kept of one device

abbrev items_at : List DeviceTakings → DeviceId → VlId → List Taking
items_at devices device vl = option_map_or (λ d. taken_of d vl) (slice_get devices device.0) []

pub kept_on : (h : Happening) (devices : List DeviceTakings) (t : Taken) (old new : DeviceTakings) → taken_by (time_of h) h.note.number h.note.body ≡ Some t
    → t.device.0 < length devices → slice_get devices t.device.0 ≡ Some old
    → ((vl : VlId) → taken_of new vl ≡ (if vl.0 == t.vl.0 then taken_of old vl ++ t.taking ∷ [] else taken_of old vl)) → (device : DeviceId) (vl : VlId)
    → items_at (slice_set devices t.device.0 new) device vl ≡ more_by (taking_of device vl h) (items_at devices device vl)
kept_on h devices t old new is within there more device vl =
    grind (arith, cases_order, slice_get, slice_set, set_same, option_map_or, taken_of, this_taken, set_other, other_taken)

pub of_ok : {A E : Type 0} (r : Result A E) (P : Type 0) → is_ok r ≡ true → OnOk r P → P
of_ok (Ok x) P ok holds = holds
of_ok (Err e) P ok holds = absurd cc

-- ---- at first

none_in : (i : ℕ) → option_map_or (λ (v : Vec Taking Global). v.items) (slice_get [] i) [] ≡ []
none_in zero = refl
none_in (suc i) = refl

-- a list of none more
pub more_room : (lists : List (Vec Taking Global)) (x : Vec Taking Global) (i : ℕ) → x.items ≡ []
    → option_map_or (λ (v : Vec Taking Global). v.items) (slice_get (lists ++ x ∷ []) i) []
    ≡ option_map_or (λ (v : Vec Taking Global). v.items) (slice_get lists i) []
more_room [] x zero none = none
more_room [] x (suc i) none = refl
more_room (y ∷ lists) x zero none = refl
more_room (y ∷ lists) x (suc i) none = more_room lists x i none

abbrev pub items_by : List DeviceTakings → ℕ → VlId → List Taking
items_by devices i vl = option_map_or (λ d. taken_of d vl) (slice_get devices i) []

pub no_devices : (i : ℕ) (vl : VlId) → items_by [] i vl ≡ []
no_devices zero vl = refl
no_devices (suc i) vl = refl

-- a device more that took none
pub more_devices : (devices : List DeviceTakings) (x : DeviceTakings) (i : ℕ) (vl : VlId) → x.vls.items ≡ []
    → items_by (devices ++ x ∷ []) i vl ≡ items_by devices i vl
more_devices [] x zero vl none =
    ap (λ (xs : List (Vec Taking Global)). option_map_or (λ (v : Vec Taking Global). v.items) (slice_get xs vl.0) []) none
    ∙ none_in vl.0
more_devices [] x (suc i) vl none = refl
more_devices (y ∷ devices) x zero vl none = refl
more_devices (y ∷ devices) x (suc i) vl none = more_devices devices x i vl none

pub none_taken : (network : Network) (takings : Takings) → ((i : ℕ) (vl : VlId) → items_by takings.devices.items i vl ≡ []) → HasTaken network [] takings
none_taken network takings none = grind arith

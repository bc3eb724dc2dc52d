-- What is due at the time of a record does not rest on its number.
use Rattle.std.proofs.Common.{arith}
use Rattle.world_law.proofs.devices.Standing.{adjustments_plain, earlier_plain, filter_plain, states_plain}
use Rattle.world_law.proofs.Words.{◌&&◌, ◌==◌, ◌||◌, ◌∷◌, ◌≡◌, Bool, DeviceId, Happening, LinkId, List, None, Option, Scenario}
use Rattle.world_law.proofs.Words.{Some, Standpoint, VlId, [], adjustment_at_hearing, ap, earlier, filter, has_joined_at}
use Rattle.world_law.proofs.Words.{is_joined_by, is_taken_before, is_turned_on_at, last_or, last_taken, list_any, nat_lt, option_and_then, plain}
use Rattle.world_law.proofs.Words.{plains, refl, state_after, state_at_hearing, state_before, taken_cycle, time_of, timed_arrival, ℕ}

-- ---- what was taken, and what was heard at this time

last_and_plain : (f : Happening → Option ℕ) → ((h : Happening) → f (plain h) ≡ f h) → (o other : Option Happening) (hs : List Happening)
    → option_and_then f o ≡ option_and_then f other → option_and_then f (last_or o (plains hs)) ≡ option_and_then f (last_or other hs)
last_and_plain f same o other [] e = e
last_and_plain f same o other (h ∷ hs) e = last_and_plain f same (Some (plain h)) (Some h) hs (same h)

pub last_taken_plain : (hs : List Happening) (device : DeviceId) (t : ℕ) (link : LinkId) (cause : ℕ) (vl : VlId)
    → last_taken (plains hs) device t link cause vl ≡ last_taken hs device t link cause vl
last_taken_plain hs device t link cause vl =
    let p = λ (h : Happening). is_taken_before device vl t link cause (time_of h) h.note.body in
    rw (filter_plain p p (λ h. refl) hs)
    (last_and_plain (λ h. taken_cycle h.note.body) (λ h. refl) None None (filter p hs) refl)

any_plain : (p : Happening → Bool) → ((h : Happening) → p (plain h) ≡ p h) → (hs : List Happening) → list_any p (plains hs) ≡ list_any p hs
any_plain p same [] = refl
any_plain p same (h ∷ hs) = rw (same h) (rw (any_plain p same hs))

joined_at_plain : (hs : List Happening) (device : DeviceId) (t : ℕ) → has_joined_at (plains hs) device t ≡ has_joined_at hs device t
joined_at_plain hs device t =
    any_plain (λ h. time_of h == t && is_joined_by device h.note.body) (λ h. refl) hs

pub hearing_adjustment_plain : (s : Scenario) (hs : List Happening) (device : DeviceId) (t : ℕ)
    → adjustment_at_hearing s (plains hs) device t ≡ adjustment_at_hearing s hs device t
hearing_adjustment_plain s hs device t =
    let p = λ (h : Happening). nat_lt (time_of h) t || is_joined_by device h.note.body in
    rw (filter_plain p p (λ h. refl) hs)
    (adjustments_plain s (filter p hs) device)

pub hearing_state_plain : (s : Scenario) (hs : List Happening) (device : DeviceId) (t : ℕ) → state_at_hearing s (plains hs) device t ≡ state_at_hearing s hs
    device
    t
hearing_state_plain s hs device t =
    grind (arith, state_before, plains, joined_at_plain, has_joined_at, is_turned_on_at, state_after, earlier_plain, states_plain, earlier)

-- ---- arrivals

pub timed_by : (s : Scenario) (device : DeviceId) (link : LinkId) (at : Standpoint) (octets : List ℕ) (last other : VlId → Option ℕ)
    → ((vl : VlId) → last vl ≡ other vl) → timed_arrival s.network device link at octets last ≡ timed_arrival s.network device link at octets other
timed_by s device link at octets last other same = ap (timed_arrival s.network device link at octets) (λ i vl. same vl i)

-- Events in order.
use Rattle.{std.proofs.Common.{◌≤ℤ◌, fold, pos, slice_get}, tte_units.specs.Amount.units_of}
use Rattle.tte_traces.proofs.Words.{◌++◌, ◌∷◌, ◌≡◌, ◌≤◌, EndsAt, Event, List, Some, Units, [], amount, arith, last_time, subst, suc, zero, ℕ}

-- the times of the events are from this on, and none is earlier than one before it
abbrev pub IsInOrder : ℕ → List Event → Type 0
IsInOrder least [] = Unit {0}
IsInOrder least (e ∷ es) = (pos 0 ≤ℤ e.time.0) × (least ≤ amount e.time) × IsInOrder (amount e.time) es

-- the events are in order, from 0 on, and only the last is the end
pub record AreInOrder (events : List Event) : Type 0 where
  pub order : IsInOrder 0 events
  pub last : (time : Units) → EndsAt events time → time ≡ last_time events

-- none of them is earlier than the least
none_less : (least : ℕ) (es : List Event) (k : ℕ) (e : Event) → IsInOrder least es → slice_get es k ≡ Some e → least ≤ amount e.time
none_less least [] k e o is = absurd cc
none_less least (d ∷ es) zero e o is = let same : d ≡ e = cc in subst (λ (x : Event). least ≤ amount x.time) same o.1
none_less least (d ∷ es) (suc k) e o is = let more = none_less (amount d.time) es k e o.2 is in omega (arith, o.1, more)

-- none behind an event is earlier
pub not_earlier : (least : ℕ) (front behind : List Event) (event : Event) (k : ℕ) (e : Event) → IsInOrder least (front ++ event ∷ behind)
    → slice_get (event ∷ behind) k ≡ Some e → amount event.time ≤ amount e.time
not_earlier least [] behind event zero e o is =
    let same : event ≡ e = cc in subst (λ (x : Event). amount event.time ≤ amount x.time) same (omega arith)
not_earlier least [] behind event (suc k) e o is = none_less (amount event.time) behind k e o.2 is
not_earlier least (d ∷ front) behind event k e o is = not_earlier (amount d.time) front behind event k e o.2 is

-- the time of the last event, or this where there is none
abbrev last_from : Units → List Event → Units
last_from time events = fold (λ before event. event.time) time events

last_least : (time : Units) (es : List Event) → IsInOrder (amount time) es → amount time ≤ amount (last_from time es)
last_least time [] o = omega arith
last_least time (e ∷ es) o = let more = last_least e.time es o.2 in omega (arith, o.1, more)

module _ (front behind : List Event) (event : Event) (order : IsInOrder 0 (front ++ event ∷ behind)) where
  -- an event is no later than the last
  pub last_of : amount event.time ≤ amount (last_time (front ++ event ∷ behind))
  last_of = go (units_of 0) 0 front order
    where
      go : (time : Units) (least : ℕ) (front : List Event) → IsInOrder least (front ++ event ∷ behind)
          → amount event.time ≤ amount (last_from time (front ++ event ∷ behind))
      go time least [] o = last_least event.time behind o.2
      go time least (d ∷ front) o = go d.time (amount d.time) front o.2

  -- the last of those before an event is no later than it
  pub last_before : amount (last_time front) ≤ amount event.time
  last_before = go (units_of 0) 0 front (omega arith) order
    where
      go : (time : Units) (least : ℕ) (front : List Event) → amount time ≤ least → IsInOrder least
          (front ++ event ∷ behind)
          → amount (last_from time front) ≤ amount event.time
      go time least [] le o = omega (arith, le, o.1)
      go time least (d ∷ front) le o = go d.time (amount d.time) front (omega arith) o.2

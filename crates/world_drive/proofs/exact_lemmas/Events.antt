-- The last of some events, and their end.
use Rattle.{drift_world.specs.Running.last_time, run_law.specs.runs.DueRecords.EndsAt, std.{proofs.lemmas.List.Sums.fold_push, specs.List.Contains}}
use Rattle.{net_plan.specs.declared.event.Event.Event, tte_units.specs.{Amount.units_of, declared.units.Units.Units}, world_drive.specs.exact.Records.HaveEnded}
use Rattle.{net_plan.specs.declared.event.What.TheVariants.End, std.proofs.Common.{◌++◌, ◌∷◌, ◌≡◌, ◌⊎◌, List, [], ap, arith, inl, inr, refl, subst, suc, zero}}

-- ---- the last of events

pub last_or_none : (events : List Event) → (events ≡ []) ⊎ ((front : List Event) × (last : Event) × (events ≡ front ++ last ∷ []))
last_or_none [] = inl refl
last_or_none (e ∷ events) = elim (last_or_none events) [
  | inl none ↦ inr ([], e, ap (λ (l : List Event). e ∷ l) none)
  | inr some ↦ inr (e ∷ some.0, some.1, ap (λ (l : List Event). e ∷ l) some.2)
]

-- ---- their end

pub parted : {X : Type 0} (xs : List X) (x : X) → Contains xs x → (ps : List X) × (qs : List X) × (xs ≡ ps ++ x ∷ qs)
parted [] x i = absurd (omega (arith, i.1))
parted (y ∷ ys) x (zero, lt, e) = ([], ys, ap (λ t. t ∷ ys) e)
parted (y ∷ ys) x (suc k, lt, e) = let p = parted ys x (k, omega arith, e) in (y ∷ p.0, p.1, ap (λ (t : List _). y ∷ t) p.2)

-- the time of the last is that of the event
pub last_is : (front : List Event) (last : Event) → last_time (front ++ last ∷ []) ≡ last.time
last_is front last = fold_push (λ before event. event.time) (units_of 0) front last

-- events of which one is the end, end at the time of the last
pub ended_at : (events : List Event) → HaveEnded events → (time : Units) × EndsAt events time
ended_at events (k, e, lt, at, is) =
    let same : e ≡ record { time = e.time; what = End } = ap (λ w. let d : Event = record { time = e.time; what = w } in d) is in
    (e.time, subst (Contains events) same (k, lt, at))

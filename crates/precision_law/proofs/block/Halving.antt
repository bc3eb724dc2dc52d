-- The dispatches of a cycle come half as far apart as those of the cycle before, but for the starts.
use Rattle.precision_law.proofs.{block.Instants.{has_start, next_first, none_at_start, start_is}}
use Rattle.precision_law.proofs.{law.Precision.{before_narrow, behind_of, later_end}, words.Laws.{state_left, widened}}
use Rattle.sync_state.proofs.VerdictLemmas.{up_state}
use Rattle.precision_law.proofs.words.Clocks.{adjustment_is_last, adjustment_stays, anchored_clocks_reach, anchored_clocks_show, before_of}
use Rattle.precision_law.proofs.words.Clocks.{clocks_reach_sharply, device_of, earlier_before, frames_come_first, master_ends, never_some, over, passes}
use Rattle.precision_law.proofs.words.Clocks.{reaches_whole, room, shared_clocks_halve, sizes_are, starts_stay_together, state_stays, steady}
use Rattle.precision_law.proofs.words.{Clocks.{synchronised_has_time, tested, time_stays, within_run}, Runs.{same_some, start_of, state_after, time_of}, Std.ℤ}
use Rattle.precision_law.proofs.words.Laws.{AreShared, BlocksGoSo, Hull, HullsAreNarrow, IsDispatch, IsGood, IsInBlock, IsNearHull, IsOldAt}
use Rattle.precision_law.proofs.words.Laws.{IsOverBefore, IsReachedNear, IsView, Sizes, Stands, View, adjustment_left, epoch_time, first_dispatch, has_time}
use Rattle.precision_law.proofs.words.Laws.{hull_of, is_dispatch, last_correction, last_dispatch, last_setting, set_adjustment, start_hull}
use Rattle.precision_law.proofs.words.Plans.{DeviceId, adjustment_at_start, amount, device_at, is_master}
use Rattle.precision_law.proofs.words.Runs.{Happening, IsCaused, IsIn, earlier, founded_at, has_role, in_filter, is_end, is_synchronised, is_turned_on_at}
use Rattle.precision_law.proofs.words.Std.{◌*◌, ◌+ℤ◌, ◌+◌, ◌-ℤ◌, ◌<ℤ◌, ◌<◌, ◌∙◌, ◌∷◌, ◌≡◌, ◌≤ℤ◌, ◌≤◌, ◌⊎◌, List, None, Option, Some, [], ap, arith, by_lt_z}
use Rattle.precision_law.proofs.words.Std.{clamps, filter, inl, inr, ints, negsuc, option_map_or, pos, refl, subst, suc, true, zero, ℕ}
use Rattle.run_law.proofs.device.States.{is_in}

-- ---- the ends of a hull

-- an end of the hull is the time of one of the records, or the end of the hull that was given
abbrev pub IsEndOf : (Hull → ℤ) → Option Hull → List Happening → Hull → Type 0
IsEndOf end o hs w = ((h : Happening) × IsIn h hs × (end w ≡ pos (time_of h))) ⊎ ((old : Hull) × (o ≡ Some old) × (end w ≡ end old))

-- so it is where one record widens the hull
abbrev Widens : (Hull → ℤ) → Type 0
Widens end = (o : Option Hull) (t : ℤ) (w : Hull) → widened o t ≡ Some w → (end w ≡ t) ⊎ ((old : Hull) × (o ≡ Some old) × (end w ≡ end old))

least_widens : Widens (λ w. w.least)
least_widens None t w e = inl (rw (same_some _ w _ e refl))
least_widens (Some x) t w e =
    let same = ap (λ y. y.least) (same_some _ w _ e refl) in
    by_lt_z x.least t (λ lt. inr (x, refl, omega (arith, ints, clamps))) (λ ge. inl (omega (arith, ints, clamps)))

greatest_widens : Widens (λ w. w.greatest)
greatest_widens None t w e = inl (rw (same_some _ w _ e refl))
greatest_widens (Some x) t w e =
    let same = ap (λ y. y.greatest) (same_some _ w _ e refl) in
    by_lt_z x.greatest t (λ lt. inl (omega (arith, ints, clamps))) (λ ge. inr (x, refl, omega (arith, ints, clamps)))

end_of : (end : Hull → ℤ) → Widens end → (o : Option Hull) (hs : List Happening) (w : Hull) → over o hs ≡ Some w → IsEndOf end o hs w
end_of end widens o [] w e = inr (w, e, refl)
end_of end widens o (g ∷ hs) w e = elim (end_of end widens (widened o (pos (time_of g))) hs w e) [
  | inl at ↦ inl (at.0, inr at.1, at.2)
  | inr old ↦ elim (widens o (pos (time_of g)) old.0 old.1) [
    | inl here ↦ inl (g, inl refl, old.2 ∙ here)
    | inr before ↦ inr (before.0, before.1, old.2 ∙ before.2)
  ]
]

-- both ends are
pub record HasEnds (o : Option Hull) (hs : List Happening) (w : Hull) : Type 0 where
  pub least : IsEndOf (λ x. x.least) o hs w
  pub greatest : IsEndOf (λ x. x.greatest) o hs w

pub ends_of : (o : Option Hull) (hs : List Happening) (w : Hull) → over o hs ≡ Some w → HasEnds o hs w
ends_of o hs w e = record { least = end_of (λ x. x.least) least_widens o hs w e; greatest = end_of (λ x. x.greatest) greatest_widens o hs w e }

-- ---- the clocks of masters at a dispatch

-- what makes a time one of the block behind
pub record IsInNext (v : View) (n : ℕ) (before : Stands v n) (w : ℕ) : Type 0 where
  pub next : ℕ
  pub is_over : IsOverBefore v (suc n) next
  pub from : before.next ≤ w
  pub to : w < next
  pub in_run : w ≤ v.until

-- the time in its block
abbrev pub block_of : (v : View) (n : ℕ) (before : Stands v n) (w : ℕ) → IsInNext v n before w → IsInBlock v n w
block_of v n before w at = record { before = before; next = at.next; is_over = at.is_over; from = at.from; to = at.to; in_run = at.in_run }

-- a dispatch lies in the block of its cycle
pub in_next : {v : View} {n : ℕ} (before : Stands v n) (w : ℕ) → IsView v
    → first_dispatch v.sizes before.hull ≤ℤ pos w → pos w ≤ℤ last_dispatch v.sizes before.hull → w ≤ v.until
    → IsInNext v n before w
in_next {v} {n} before w is low high in_run =
    let next = behind_of (last_correction v.sizes before.hull) before.next (later_end n before is) in
    record {
      next = next.0;
      is_over = (before.hull, before.is_hull, next.1.behind);
      from = omega (arith, ints, next_first before is);
      to = omega (
        arith,
        ints,
        next.1.behind,
        frames_come_first v.sizes before.hull (room is) (before_narrow before),
        before_narrow before,
      );
      in_run = in_run;
    }

pub master_is_end : (v : View) (device : DeviceId) → has_role v.scenario.network is_master device ≡ true → is_end v.scenario.network device ≡ true
master_is_end v device e =
    let d = device_of is_master (device_at v.scenario.network device) e in
    rw d.1 (master_ends d.0.role d.2)

-- what a dispatch says of the master's clock
pub record HasDispatched (v : View) (device : DeviceId) (cycle w : ℕ) : Type 0 where
  pub begun : 1 ≤ cycle
  pub end : is_end v.scenario.network device ≡ true
  pub synchronised : is_synchronised (state_left v device w) ≡ true
  pub least : pos (cycle * v.sizes.cycle) ≤ℤ (pos (v.scenario.reading device w) +ℤ adjustment_left v device w)
  pub most : (pos (v.scenario.reading device w) +ℤ adjustment_left v device w) ≤ℤ (pos (cycle * v.sizes.cycle) +ℤ pos (2 * v.sizes.grain))

pub has_dispatched : {v : View} {h : Happening} {device : DeviceId} {cycle : ℕ} → IsView v
    → IsDispatch v h device cycle → HasDispatched v device cycle (time_of h)
has_dispatched {v} {h} {device} {cycle} is dispatch =
    let found = founded_at v.scenario v.records h is.run.founded dispatch.there in
    let sends = subst (IsCaused v.scenario found.front h.note.time) dispatch.is found.due.cause in
    let split = before_of is found in
    let state = up_state (is_turned_on_at v.scenario device (time_of h)) (state_after v.scenario (earlier (time_of h) found.front) device)
    sends.up.synchronised in
    let left = rw (earlier_before split) at state in
    let reaches = reaches_whole split sends.reached in
    let sharp = clocks_reach_sharply v device (pos (cycle * amount v.scenario.network.cycle)) (time_of h) is reaches in
    let same : cycle * v.sizes.cycle ≡ cycle * amount v.scenario.network.cycle =
    rw (sizes_are is).cycle in
    record {
      begun = sends.begun;
      end = master_is_end v device sends.master;
      synchronised = ap is_synchronised left;
      least = omega (arith, ints, sharp.least);
      most = omega (arith, ints, sharp.most);
    }

-- ---- the first cycle

-- a clock that was not set before a dispatch stands as at the start
unset : (o : Option Happening) → option_map_or (λ h. pos (time_of h)) o (negsuc 0) <ℤ pos 0 → o ≡ None
unset None early = refl
unset (Some h) early = absurd (omega (arith, ints))

-- the sizes of the first cycle
pub start_near : {v : View} {device : DeviceId} {w : ℕ} → IsView v → IsGood v device → HasDispatched v device 1 w
    → epoch_time (earlier w v.records) device <ℤ pos 0 → pos w ≤ℤ last_dispatch v.sizes (start_hull v.sizes)
    → IsReachedNear v.sizes (pos 0 -ℤ pos (2 * v.sizes.settled)) (pos 0) v.sizes.cycle w
start_near {v} {device} {w} is good has early late =
    let reading = v.scenario.reading device in
    let none = unset (last_setting (earlier w v.records) device) early in
    let timed : has_time (state_left v device 0) ≡ true = time_stays v device 0 w is (omega arith) early
    (synchronised_has_time (state_left v device w) has.synchronised) in
    let at_start = subst (λ hs. has_time (state_after v.scenario hs device) ≡ true) (none_at_start v.records) timed in
    let start = has_start (start_of v.scenario.network device) at_start in
    let known = start_is device start.0 is start.1 in
    let same = ap (λ a. a.0)
    (adjustment_is_last v.scenario (earlier w v.records) device ∙ ap (set_adjustment v.scenario device) none ∙ ap adjustment_at_start start.1) in
    let zero_reading = (steady v is device).begins in
    let shows = anchored_clocks_show v.sizes reading (adjustment_left v device w) 0 (pos 0 -ℤ pos (2 * v.sizes.settled)) (pos 0) 0 w (steady v is device)
    (omega arith) (omega (arith, ints, (room is).many_errors))
    (record { least = omega (arith, ints); most = omega (arith, ints) }) in
    anchored_clocks_reach v.sizes (pos (reading w) +ℤ adjustment_left v device w) 0 (pos 0 -ℤ pos (2 * v.sizes.settled)) (pos 0) v.sizes.cycle w shows
    (omega (arith, ints, has.least)) (omega (arith, ints, has.most))

-- ---- later cycles

-- when the clock of a master that shares a frame reaches the next cycle
abbrev pub low_by : Sizes → ℤ → ℤ → ℤ
low_by n shared other = (shared +ℤ other) -ℤ pos (2 * n.path + 4 * n.grain + n.drift)

abbrev pub high_by : Sizes → ℤ → ℤ → ℤ
high_by n shared other = (shared +ℤ other) +ℤ pos (2 * n.path + n.drift + 1)

pub record IsReachedBy (v : View) (n w : ℕ) (hull : Hull) (shared : ℤ) : Type 0 where
  pub other : ℤ
  pub near : IsNearHull v.sizes hull other
  pub reached : IsReachedNear v.sizes (low_by v.sizes shared other) (high_by v.sizes shared other) v.sizes.cycle w

pub shared_near : {v : View} {n w : ℕ} (before : Stands v n) {device : DeviceId}
    (share : AreShared v n before.hull before.next) → IsView v → IsGood v device → HasDispatched v device (suc n) w
    → before.next ≤ w → IsOldAt v before.next device w → pos w ≤ℤ last_dispatch v.sizes before.hull
    → IsReachedBy v n w before.hull share.shared
shared_near {v} {n} {w} before {device} share is good has from old late =
    let reading = v.scenario.reading device in
    let still = state_stays is_synchronised refl device before.next w is from old has.synchronised in
    let by = share.each device (record { end = has.end; good = good }) (is_in (state_left v device before.next) still) in
    let same = ap (λ a. a.0) (adjustment_stays device before.next w is from old) in
    let low = low_by v.sizes share.shared by.other in
    let high = high_by v.sizes share.shared by.other in
    let anchored = rw same at by.anchored in
    let shows = anchored_clocks_show v.sizes reading (adjustment_left v device w) n low high by.set_at w (steady v is device)
    (omega (arith, by.not_behind)) (omega (arith, ints, by.not_before, before_narrow before, room is))
    anchored in
    let product : suc n * v.sizes.cycle ≡ n * v.sizes.cycle + v.sizes.cycle = omega arith in
    record {
      other = by.other;
      near = by.near;
      reached = anchored_clocks_reach v.sizes (pos (reading w) +ℤ adjustment_left v device w) n low high v.sizes.cycle w shows
          (omega (arith, ints, has.least)) (omega (arith, ints, has.most));
    }

-- ---- the hull

-- a record at an end of the hull
record IsEnd (v : View) (n : ℕ) (before : Stands v n) (h : Happening) : Type 0 where
  pub device : DeviceId
  pub dispatch : IsDispatch v h device (suc n)
  pub low : first_dispatch v.sizes before.hull ≤ℤ pos (time_of h)
  pub high : pos (time_of h) ≤ℤ last_dispatch v.sizes before.hull

end_is : {v : View} {n : ℕ} (before : Stands v n) (h : Happening)
    → IsIn h (filter (λ g. is_dispatch v before.hull (suc n) g g.note.body) v.records) → IsEnd v n before h
end_is before h i = grind (arith, is_dispatch, tested, passes, in_filter)

-- its master's clock was set before the block
end_old : BlocksGoSo → {v : View} {n : ℕ} {before : Stands v n} {h : Happening} → IsView v → (e : IsEnd v n before h)
    → (before.next ≤ time_of h) × IsOldAt v before.next e.device (time_of h)
end_old goes {v} {n} {before} {h} is e =
    let at = in_next before (time_of h) is e.low e.high (within_run is h e.dispatch.there) in
    (at.from, ((goes v n (time_of h) (block_of v n before (time_of h) at) is).dispatches h e.device (suc n) e.dispatch refl).old)

-- the two ends of the hull come near
ends_near : BlocksGoSo → {v : View} (n : ℕ) {before : Stands v n} {g h : Happening} → IsView v → IsEnd v n before g
    → IsEnd v n before h → time_of g ≤ time_of h + v.sizes.spread
ends_near goes {v} zero {before} {g} {h} is one other =
    starts_stay_together v.sizes (time_of g) (time_of h) (room is) (near g one) (near h other)
  where
    near : (h : Happening) → IsEnd v zero before h → IsReachedNear v.sizes (pos 0 -ℤ pos (2 * v.sizes.settled)) (pos 0) v.sizes.cycle (time_of h)
    near h e =
        let same = same_some (hull_of v zero) before.hull (start_hull v.sizes) before.is_hull refl in
        let old = rw before.is_over at (end_old goes is e).1 in
        start_near is e.dispatch.good (has_dispatched is e.dispatch) old
        (rw same at e.high)
ends_near goes {v} (suc c) {before} {g} {h} is one other =
    let x = near g one in
    let y = near h other in
    let half = shared_clocks_halve v.sizes before.hull share.shared x.other y.other (time_of g) (time_of h) (room is)
    x.near y.near x.reached y.reached in
    omega (arith, ints, before_narrow before, (room is).errors.spread_is)
  where
    share : AreShared v (suc c) before.hull before.next
    share = before.shared (omega arith)

    near : (h : Happening) → IsEnd v (suc c) before h → IsReachedBy v (suc c) (time_of h) before.hull share.shared
    near h e =
        let at = end_old goes is e in
        shared_near before share is e.dispatch.good (has_dispatched is e.dispatch) at.0 at.1 e.high

pub hulls_are_narrow : BlocksGoSo → HullsAreNarrow
hulls_are_narrow goes v n before hull is is_hull =
    let test = λ (g : Happening). is_dispatch v before.hull (suc n) g g.note.body in
    let over_is = rw before.is_hull at is_hull in
    let ends = ends_of None (filter test v.records) hull over_is in
    elim ends.greatest [
      | inr none ↦ absurd (never_some none.0 none.1)
      | inl top ↦ elim ends.least [
        | inr none ↦ absurd (never_some none.0 none.1)
        | inl low ↦ omega (arith, ints, ends_near goes n is (end_is before top.0 top.1) (end_is before low.0 low.1), top.2, low.2)
      ]
    ]

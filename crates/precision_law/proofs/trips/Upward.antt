-- A trip up takes dmax.
use Rattle.precision_law.proofs.{hearing.Timely.trip_in_time, trips.Travels.{jitter_back, jitter_of_legs, last_young, leg_link, many_back, switch_of}}
use Rattle.{precision_law.proofs.words.{Clocks.{child_channel, parent_ways, sizes_are}, Laws.links_of}, std.proofs.lemmas.List.length-map}
use Rattle.precision_law.proofs.words.Laws.{IsInTime, IsLeg, IsPermanentAt, IsTrip, IsView, Leg, TripsDownTakeDmax, TripsUpTakeDmax, View, clock_in, links_back}
use Rattle.precision_law.proofs.words.Plans.{Channel, DeviceId, Down, IsChildOf, IsCmOf, IsPath, IsSwitchOf, LinkId, Network, Up}
use Rattle.precision_law.proofs.words.Plans.{Way, amount, closed, device_at, jitter_of, jitter_on, link_at, opened, point_of, target_by, waits_for_point}
use Rattle.precision_law.proofs.words.{Runs.{Happening, channel_of, is_relay, same_some, time_of}, Std.{sum_by-cons, sym, true, ℕ, ℤ}}
use Rattle.precision_law.proofs.words.Std.{◌∙◌, ◌∷◌, ◌≡◌, List, Some, [], ap, arith, inl, inr, length, option_and_then, option_map, pos, refl, subst}
use Rattle.run_law.specs.declared.note.NoteBody.TheVariants as notes

-- ---- sums

pub jitter_up : (n : Network) (legs : List Leg) → jitter_on n (links_of legs) ≡ jitter_of_legs n legs
jitter_up n [] = refl
jitter_up n (leg ∷ legs) =
    omega (
      arith,
      jitter_up n legs,
      sum_by-cons (jitter_of n) leg.link (links_of legs),
      sum_by-cons
          (λ x. jitter_of n x.link) leg legs,
    )

-- ---- the path up

-- the device that has this path is a switch of the channel
record LeadsUp (v : View) (channel : Channel) (device : DeviceId) (links : List LinkId) : Type 0 where
  pub path : IsPath v.scenario.network channel device links
  pub switch : IsSwitchOf v.scenario.network channel device

channel_is : (n : Network) (channel : Channel) (device : DeviceId) → IsSwitchOf n channel device → channel_of n device ≡ Some channel
channel_is n channel device switch =
    let d = opened (λ x. x.channel ≡ Some channel) (device_at n device) switch in
    rw d.1 d.2

-- one leg more
leg_up : {v : View} {channel : Channel} {leg : Leg} {links : List LinkId} → IsView v → (l : IsLeg v Up leg)
    → IsChildOf v.scenario.network l.sender leg.link → LeadsUp v channel l.receiver links
    → IsPath v.scenario.network channel l.sender (leg.link ∷ links)
leg_up is l child up = grind (arith, leg_link, option_map, target_by, opened, link_at, same_some, closed)

-- from what arrived at a switch
path_from : {v : View} (channel : Channel) (g last : Happening) (legs : List Leg) (cm relay : DeviceId)
    (by to : LinkId) (c d t u : ℕ) → IsView v → IsCmOf v.scenario.network channel cm → IsTrip v Up g legs last
    → last.note.body ≡ notes.Arrived cm to d u → g.note.body ≡ notes.Arrived relay by c t
    → LeadsUp v channel relay (links_of legs)
path_from channel g last [] cm relay by to c d t u is one trip ends body = grind (arith, opened, device_at, closed)
path_from {v} channel g last (leg ∷ legs) cm relay by to c d t u is one trip ends body =
    let n = v.scenario.network in
    let l = trip.1 in
    let up = path_from channel leg.arriving last legs cm l.receiver leg.link to leg.leaving.note.number d
    l.arrived_clock u is one trip.2 ends l.arrives in
    let gives = rw (ap (λ (h : Happening). h.note.body) trip.0 ∙ body) at l.gives in
    let child : IsChildOf n l.sender leg.link = elim gives.1.on [
      | inl up ↦ up.1
      | inr down ↦ (let wrong = sym (parent_ways n l.sender leg.link down.1).1 ∙ l.from_way in absurd cc)
    ] in
    let path = leg_up is l child up in
    let link = leg_link is l in
    let parent : link.0.parent ≡ l.receiver = cc in
    let own = child_channel l.sender leg.link is (subst (λ x. is_relay n x ≡ true) refl gives.1.relay)
    child in
    let of_link = own ∙ ap (λ o. option_and_then (λ x. channel_of n x.parent) o) link.1
    ∙ ap (channel_of n) parent ∙ channel_is n channel l.receiver up.switch in
    record {
      path = rw gives.0 at path;
      switch = subst (IsSwitchOf n channel) gives.0 (switch_of n channel l.sender of_link);
    }

-- the links of a trip up from a master are its path
pub path_up : {v : View} (channel : Channel) (first last : Happening) (legs : List Leg) (master cm : DeviceId)
    (cycle : ℕ) (to : LinkId) (d u : ℕ) → IsView v → IsCmOf v.scenario.network channel cm
    → IsTrip v Up first legs last → last.note.body ≡ notes.Arrived cm to d u
    → first.note.body ≡ notes.Sent master cycle → IsPath v.scenario.network channel master (links_of legs)
path_up channel first last [] master cm cycle to d u is one trip ends body =
    (let wrong = sym body ∙ ap (λ h. h.note.body) trip ∙ ends in absurd cc)
path_up {v} channel first last (leg ∷ legs) master cm cycle to d u is one trip ends body =
    let l = trip.1 in
    let up = path_from channel leg.arriving last legs cm l.receiver leg.link to leg.leaving.note.number d
    l.arrived_clock u is one trip.2 ends l.arrives in
    let gives = rw (ap (λ (h : Happening). h.note.body) trip.0 ∙ body) at l.gives in
    let path = leg_up is l gives.1 up in
    rw gives.0 at path

-- ---- the time of a trip

trip_takes_dmax : {v : View} (way : Way) (first last : Happening) (legs : List Leg) (links : List LinkId)
    (channel : Channel) (device at : DeviceId) (point : ℤ) (q : ℕ) → IsView v
    → jitter_on v.scenario.network links ≡ jitter_of_legs v.scenario.network legs → length links ≡ length legs
    → IsPath v.scenario.network channel device links → clock_in first ≡ 0 → IsTrip v way first legs last
    → (p : IsPermanentAt v last at point q) → clock_in last ≡ p.clock → IsInTime v first q
trip_takes_dmax {v} way first last legs links channel device at point q is jitters many path fresh trip p p_clock =
    let n = v.scenario.network in
    let young = last_young way first last legs is trip fresh in
    let reading = v.scenario.reading at in
    let at_point = p.at_point ∙ ap (λ c. point_of (pos (reading (time_of last))) c (pos v.sizes.dmax)) (sym p_clock) ∙ ap
    (λ x. point_of (pos (reading (time_of last))) (clock_in last) (pos x)) (sizes_are is).dmax in
    let waits = waits_for_point n.rho (amount n.grain) (amount n.dmax) (clock_in last) (time_of last) q reading is.lawful.range.rho (is.lawful.clocks at) young
    (rw at_point at p.reached) in
    let in_time =
    trip_in_time way first last legs links channel device q is jitters many path trip fresh waits.0 waits.1 in
    record { not_early = in_time.0; not_late = in_time.1 }

pub trips_up_take_dmax : TripsUpTakeDmax
trips_up_take_dmax v first last legs channel device cm point q is member path fresh trip p clock =
    trip_takes_dmax Up first last legs (links_of legs) channel device cm point q is (jitter_up v.scenario.network legs)
    (length-map legs (λ leg. leg.link)) path fresh trip p clock

pub trips_down_take_dmax : TripsDownTakeDmax
trips_down_take_dmax v first last legs channel device point q is member path fresh trip p clock =
    trip_takes_dmax Down first _ legs (links_back legs) channel device _ _ q is (jitter_back v.scenario.network legs)
    (many_back legs) path fresh trip p clock

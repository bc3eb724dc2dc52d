-- What a device hears is timely.
use Rattle.{drift_clock.proofs.transparent_lemmas.HopLaw.permanent_in_time, tte_units.proofs.general_lemmas.Options.mapped}
use Rattle.{net_plan.proofs.Amounts.amount_within, precision_law.proofs.Plain.device_of, run_law.specs.records.Causes.last_from}
use Rattle.precision_law.proofs.{block.Instants.cm_channel}
use Rattle.precision_law.proofs.trips.Travels.{GivesDown, adds_up, jitter_back, jitter_of_legs, last_young, many_back}
use Rattle.precision_law.proofs.trips.Travels.{path_down}
use Rattle.precision_law.proofs.words.{Clocks.{frames_down_are_of_cms, natural, permanence_is_sharp, sizes_are, steady}, Laws.{base_of, clock_in, links_back}}
use Rattle.precision_law.proofs.words.Laws.{EmissionsAreSharp, HeardFramesAreTimely, IsEmission, IsFromAfar, IsHeard, IsTimely, IsTrip, IsView, Leg, View}
use Rattle.precision_law.proofs.words.Plans.{Channel, Cm, Device, DeviceId, Down, IsCmOf, IsDeviceOf, IsPath, IsReach, IsSwitchOf, Joints, LinkId}
use Rattle.precision_law.proofs.words.Plans.{Members, Pcf, Relay, Waits, Way, amount, beta_at, closed, device_at, growth, is_end_system, jitter_on, link_at}
use Rattle.precision_law.proofs.words.{Plans.{opened, paths_are_unique, point_of, rules_give_trees, shape_rules, waits_for_point}, Runs.with_clock}
use Rattle.precision_law.proofs.words.Runs.{Happening, IsCaused, IsChain, IsIn, cause_of, channel_of, founded_at, frame_by}
use Rattle.precision_law.proofs.words.Runs.{frame_from, in_left, is_cm, is_cm_role, numbered, numbered_front, numbered_in, same_some, time_of}
use Rattle.precision_law.proofs.words.Std.{◌*◌, ◌+◌, ◌-◌, ◌∙◌, ◌∷◌, ◌≡◌, ◌≤◌, ◌⊎◌, List, Some, [], ap, arith, inl, inr, ints, length, mul-le-mul_left}
use Rattle.precision_law.proofs.words.Std.{option_and_then, option_map_or, pos, refl, subst, sym, true, ℕ, ℤ}
use Rattle.run_law.proofs.scenario.Devices.{cm_role}
use Rattle.run_law.specs.declared.note.NoteBody.TheVariants as notes

-- ---- chains of causes

-- two chains of causes that go back to records without a cause end at one
same_end : (hs : List Happening) (r : Happening) (xs ys : List Happening) → IsChain hs r xs → IsChain hs r ys → cause_of (last_from r xs).note.body ≡ 0
    → cause_of (last_from r ys).note.body ≡ 0 → last_from r xs ≡ last_from r ys
same_end hs r [] [] a b p q = refl
same_end hs r [] (y ∷ ys) a b p q = (absurd cc)
same_end hs r (x ∷ xs) [] a b p q = (absurd cc)
same_end hs r (x ∷ xs) (y ∷ ys) a b p q =
    let same = same_some (numbered hs (cause_of r.note.body)) y x b.0 a.0 in
    let moved : IsChain hs x ys = rw same at b.1 in
    let quiet : cause_of (last_from x ys).note.body ≡ 0 = rw same at q in
    same_end hs x xs ys a.1 moved p quiet ∙ ap (λ h. last_from h ys) (sym same)

-- ---- paths

module _ (v : View) (channel : Channel) (device : DeviceId) where
  -- a device that is an end system, or has the channel, is of the channel
  pub of_channel_is : (d : Device) → device_at v.scenario.network device ≡ Some d
      → (is_end_system d.role ≡ true) ⊎ (d.channel ≡ Some channel) → IsDeviceOf v.scenario.network channel device
  of_channel_is d at is =
      closed (λ x. (is_end_system x.role ≡ true) ⊎ (x.channel ≡ Some channel))
      (device_at v.scenario.network device) d at is

  -- the device of a path is
  pub path_member : (links : List LinkId) → IsView v → IsPath v.scenario.network channel device links
      → IsDeviceOf v.scenario.network channel device
  path_member [] is path =
      let d = opened (λ x. (x.role ≡ Cm) × (x.channel ≡ Some channel))
      (device_at v.scenario.network device) path in
      of_channel_is d.0 d.1 (inr d.2.1)
  path_member (link ∷ links) is path =
      let n = v.scenario.network in
      let l = opened (λ k. (k.child ≡ device) × IsSwitchOf n channel k.parent × IsPath n channel k.parent
      links) (link_at n link) path in
      let joint = is.lawful.rules Joints link.0 l.0 l.1 in
      let p = opened (λ x. x.channel ≡ Some joint.0) (device_at n l.0.parent) joint.1 in
      let q = opened (λ x. x.channel ≡ Some channel) (device_at n l.0.parent) l.2.1 in
      let channel_is =
      same_some _ _ _ p.2 (rw (same_some _ _ _ q.1 p.1) at q.2) in
      elim joint.2 [
        | inl end ↦
            let e = opened (λ x. is_end_system x.role ≡ true) (device_at n l.0.child) end in
            of_channel_is e.0 (ap (device_at n) (sym l.2.0) ∙ e.1) (inl e.2)
        | inr role ↦
            let e = opened (λ x. (x.role ≡ Relay) × (x.channel ≡ Some joint.0)) (device_at n l.0.child)
            role in
            of_channel_is e.0 (ap (device_at n) (sym l.2.0) ∙ e.1)
            (inr (e.2.1 ∙ ap (λ c. Some c) channel_is))
      ]

pub cm_of : (v : View) (cm : DeviceId) (channel : Channel) → is_cm v.scenario.network cm ≡ true → channel_of v.scenario.network cm ≡ Some channel
    → IsCmOf v.scenario.network channel cm
cm_of v cm channel is_one of = grind (arith, device_of, is_cm_role, device_at, option_and_then, closed, cm_role)

-- ---- frames from afar

module _ {v : View} {first : Happening} {cm : DeviceId} {cycle : ℕ} {members : Members}
    (e : IsEmission v first cm cycle members) (is : IsView v) where
  -- an emission gives the path of its compression master
  pub emission_gives : (channel : Channel) × GivesDown v channel first cm []
  emission_gives =
      let at = founded_at v.scenario v.records first is.run.founded e.there in
      let emits = subst (IsCaused v.scenario at.front first.note.time) e.is at.due.cause in
      let channel = cm_channel cm is emits.cm in (
        channel.0,
        record {
          path = cm_of v cm channel.0 emits.cm channel.1;
          is_giver = λ d k gives. (rw e.is at gives).0;
          of_channel = λ d k gives. channel.1;
          arrived =
              λ d k c t body. (let wrong = sym e.is ∙ body in absurd cc);
        },
      )

  -- an emission's frame has no delay so far
  pub emission_clock : clock_in first ≡ 0
  emission_clock =
      let at = founded_at v.scenario v.records first is.run.founded e.there in
      ap (λ o. option_map_or (λ f. f.clock) o 0)
      (ap (λ x. x.frame) at.due.same ∙ ap (frame_by v.scenario.network at.front) e.is)

-- a trip of a path takes dmax, but for the path error
pub trip_in_time : {v : View} (way : Way) (first last : Happening) (legs : List Leg) (links : List LinkId)
    (channel : Channel) (device : DeviceId) (q : ℕ) {a : ℕ} → IsView v
    → jitter_on v.scenario.network links ≡ jitter_of_legs v.scenario.network legs → length links ≡ length legs
    → IsPath v.scenario.network channel device links → IsTrip v way first legs last → clock_in first ≡ 0
    → time_of last ≤ q → Waits v.scenario.network.rho (amount v.scenario.network.grain)
    (amount v.scenario.network.dmax - clock_in last) (q - time_of last) a
    → (time_of first + v.sizes.dmax ≤ q + v.sizes.path) × (q ≤ time_of first + v.sizes.dmax + v.sizes.path)
trip_in_time {v} way first last legs links channel device q {a} is jitter_is many path trip fresh after waits =
    let n = v.scenario.network in
    let sums = adds_up way first last legs is trip in
    let tree = rules_give_trees n (shape_rules n is.lawful.rules) in
    let member = path_member v channel device links is path in
    let reach = tree.reach channel device member in
    let few : length links ≤ 8 = rw (sym (paths_are_unique n channel device reach.0 links tree reach.2 path)) reach.1 in
    let growth_is : clock_in last ≡ growth sums.hops = omega (arith, sums.grows) in
    let lacking = subst (λ x. Waits n.rho (amount n.grain) (amount n.dmax - x) (q - time_of last) a) growth_is waits in
    let grain = (amount_within is.lawful.range.grain).1 in
    let law = permanent_in_time n.rho (amount n.grain) (amount n.dmax) (time_of first) (time_of last) q a sums.hops is.lawful.range.rho grain
    (omega (arith, sums.many)) sums.are
    (omega (arith, last_young way first last legs is trip fresh)) sums.travels after lacking in
    let jitters = is.beta.jitter_greatest.most (jitter_on n links) (channel, (device, (links, member, path, refl))) in
    let dmax = (sizes_are is).dmax in
    let value : v.sizes.path ≡ beta_at n is.beta.jitter is.beta.links = omega (arith, ints, is.beta.value) in
    let rounds : 8 * amount n.grain * (length sums.hops + 2) ≤ 8 * amount n.grain * (is.beta.links + 2) = mul-le-mul_left (8 * amount n.grain)
    (let m = sums.many in omega (
      arith,
      is.beta.links_greatest.most (length links)
          (channel, (device, (links, member, path, refl))),
    )) in
    (omega (arith, sums.jitter), omega (arith, sums.jitter))

-- what arrived has the clock that its record shows
pub arrived_clock : {v : View} (arrival : Happening) (device : DeviceId) (link : LinkId) (from clock : ℕ) → IsView v
    → IsIn arrival v.records → arrival.note.body ≡ notes.Arrived device link from clock → (frame : Pcf)
    → arrival.frame ≡ Some frame → clock_in arrival ≡ clock
arrived_clock {v} arrival device link from clock is i body frame framed =
    let at = founded_at v.scenario v.records arrival is.run.founded i in
    let f = mapped (with_clock clock) (frame_from at.front from) frame
    (sym (ap (λ x. x.frame) at.due.same ∙ ap (frame_by v.scenario.network at.front) body) ∙ framed) in
    rw framed (ap (λ g. g.clock) (sym f.2))

-- what came from afar is timely
afar_timely : {v : View} {device : DeviceId} {channel : Channel} {cycle : ℕ} {members : Members} {h : Happening}
    {q : ℕ} {point : ℤ} {expected : ℕ} → IsView v → IsHeard v device channel cycle members h q point expected
    → IsFromAfar v device h q point expected → IsTimely v.sizes (v.scenario.reading device)
    (base_of v.sizes (time_of h)) q point expected
afar_timely {v} {device} {h} {q} is heard afar =
    let n = v.scenario.network in
    let found = founded_at v.scenario v.records afar.ripe is.run.founded afar.there in
    let ripens = subst (IsCaused v.scenario found.front afar.ripe.note.time) afar.is found.due.cause in
    let p = ripens.permanent in
    let arrival = p.arrival in
    let in_all : IsIn arrival v.records = subst (IsIn arrival) (sym found.whole)
    (in_left arrival found.front (afar.ripe ∷ found.rest) (numbered_in found.front afar.cause arrival p.there)) in
    let from_cm = frames_down_are_of_cms v arrival device afar.link p.from p.clock is in_all p.arrived afar.down in
    let by_ripe : cause_of afar.ripe.note.body ≡ afar.cause = ap cause_of afar.is in
    let to_arrival : numbered v.records (cause_of afar.ripe.note.body) ≡ Some arrival = subst (λ x. numbered v.records x ≡ Some arrival) (sym by_ripe)
    (subst (λ hs. numbered hs afar.cause ≡ Some arrival) (sym found.whole)
    (numbered_front found.front (afar.ripe ∷ found.rest) afar.cause arrival p.there)) in
    let one = afar.back.begins ∙ same_end v.records afar.ripe afar.back.causes (arrival ∷ from_cm.back.causes) afar.back.chain (to_arrival, from_cm.back.chain)
    (rw (sym afar.back.begins) (ap cause_of heard.emission.is))
    (rw (sym from_cm.back.begins) (ap cause_of from_cm.emission.is)) ∙ sym from_cm.back.begins in
    let gives = emission_gives from_cm.emission is in
    let fresh = emission_clock from_cm.emission is in
    let path = path_down from_cm.first arrival from_cm.legs from_cm.cm [] is gives.1 from_cm.trip device afar.link
    p.from p.clock p.arrived in
    let young = last_young Down from_cm.first arrival from_cm.legs is from_cm.trip fresh in
    let clock : clock_in arrival ≡ p.clock =
    arrived_clock arrival device afar.link p.from p.clock is in_all p.arrived ripens.frame p.of_frame in
    let reading = v.scenario.reading device in
    let point_is = p.at_point ∙ ap (point_of (pos (reading (time_of arrival))) p.clock) (natural n.dmax.0 (omega (arith, ints))) ∙ ap
    (λ c. point_of (pos (reading (time_of arrival))) c (pos (amount n.dmax))) (sym clock) in
    let waits = waits_for_point n.rho (amount n.grain) (amount n.dmax) (clock_in arrival) (time_of arrival) (time_of afar.ripe) reading is.lawful.range.rho
    (is.lawful.clocks device) young (subst (λ z. IsReach reading (pos (time_of arrival)) z (pos (time_of afar.ripe))) point_is p.reached) in
    let in_time = trip_in_time Down from_cm.first arrival from_cm.legs (links_back from_cm.legs) gives.0 device
    (time_of afar.ripe) is
    (jitter_back n from_cm.legs) (many_back from_cm.legs) path from_cm.trip fresh waits.0 waits.1 in
    let sharp = permanence_is_sharp v.sizes reading (time_of arrival) afar.at.0 (time_of afar.ripe) (steady v is device)
    (omega (arith, ints))
    p.reached in
    let first_time : time_of h ≡ time_of from_cm.first = ap time_of one in
    let reading_q : reading q ≡ reading (time_of afar.ripe) = ap reading afar.ripe_at in
    record { not_early = omega (arith, ints); not_late = omega (arith, ints); least = omega (arith, ints); most = omega (arith, ints) }

pub heard_frames_are_timely : EmissionsAreSharp → HeardFramesAreTimely
heard_frames_are_timely sharp v device channel cycle members h q point expected is heard = elim heard.hears [
  | inr afar ↦ afar_timely is heard afar
  | inl own ↦
      let first = sharp v h heard.cm cycle members heard.emission is in
      let reading_q = ap (λ d. v.scenario.reading d q) own.same ∙ ap (v.scenario.reading heard.cm) own.at_once in
      record { not_early = omega (arith, ints); not_late = omega (arith, ints); least = omega (arith, ints); most = omega (arith, ints) }
]

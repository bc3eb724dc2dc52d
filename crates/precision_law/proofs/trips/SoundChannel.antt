-- The sound channel brings dispatches up to its compression master, and compressed frames down.
use Rattle.precision_law.proofs.{compression.Frames.dispatch_clock}
use Rattle.precision_law.proofs.{hearing.Timely.{emission_clock, emission_gives, path_member}}
use Rattle.precision_law.proofs.trips.{Legs.relay_not_end, Travels.path_down}
use Rattle.precision_law.proofs.trips.{Upward.{path_up, trips_down_take_dmax, trips_up_take_dmax}}
use Rattle.precision_law.proofs.words.Clocks
use Clocks.{HasGone, IsClean, IsGivenOn, IsReady, arrives_at, child_kind, child_not_parent, child_ways, device_of}
use Clocks.{goes_over, good_is_correct, leaves_at, master_ends, master_member, no_fault, parent_ways, receiver_way}
use Clocks.{sizes_are, sound_switch_on, sound_ways_are_whole, switches_are_good, takes_at_most, trip_more}
use Clocks.{will_be_permanent}
use Rattle.precision_law.proofs.words.Laws
use Laws.{AreOpenOn, FramesGoDown, FramesGoUp, IsBrought, IsEmission, IsGood, IsOpen, IsTrip, IsView, IsWholeFrom, Leg}
use Laws.{SoundFramesGoDown, SoundFramesGoUp, View, clock_in, links_back}
use Rattle.precision_law.proofs.words.Plans
use Plans.{A, B, Channel, Cm, CompressionMasters, DeviceId, Down, IsChildOf, IsCmOf, IsDeviceInRange, IsDeviceOf}
use Plans.{IsPath, IsSwitchOf, Link, LinkId, Master, Members, Network, Pcf, Role, Up, Way, all_at, amount, beta_at}
use Plans.{closed, delay_by, delay_of, delay_on, device_at, is_end_system, is_master, link_at, margins, opened}
use Plans.{rules_give_trees, shape_rules, target_by}
use Rattle.precision_law.proofs.words.Runs
use Runs.{Gives, Happening, IsCaused, IsIn, IsParentOf, are_others, dispatched_frame, founded_at, frame_by}
use Runs.{integration_frame, is_end, is_of_other_member, is_parent_of, is_relay, is_relay_role, member_of, receiver_of}
use Runs.{same_some, time_of, with_clock}
use Rattle.precision_law.proofs.words.Std
use Std.{◌&&◌, ◌*◌, ◌++◌, ◌+◌, ◌/◌, ◌<◌, ◌==◌, ◌^◌, ◌∙◌, ◌∷◌, ◌≡◌, ◌≤◌, ◌⊎◌, Bool, List, Option, Some, [], ap, arith}
use Std.{both_ways, eq-eqb, false, false_from_ne_true, inl, inr, ints, is_some, length, mul-le-mul_left, not, not-true}
use Std.{option_map, option_map_or, refl, subst, suc, sum_by-cons, sym, true, ℕ}
use Rattle.run_law.specs.declared.note.NoteBody.TheVariants as notes

-- ---- a frame goes over one link of the sound channel, in either way

-- the clock of a frame that has been on its way for at most so long, over so many links
abbrev pub HasGrown : View → ℕ → ℕ → ℕ → Type 0
HasGrown v clock d k = 10 ^ 9 * clock ≤ 10 ^ 9 * d + v.scenario.network.rho * d + 2 * amount v.scenario.network.grain * 10 ^ 9 * k

-- a frame of the sound channel was given to a link, having been on its way for so long since t0, over so many links
pub record IsUnderWay (v : View) (channel : Channel) (way : Way) (t0 : ℕ) (r : Happening) (frame : Pcf) (sender receiver : DeviceId) (link : LinkId) (l : Link)
    (d k : ℕ) : Type 0 where
  pub given : IsGivenOn v way r frame sender receiver link l
  pub switch : IsSwitchOf v.scenario.network channel l.parent
  pub clean : IsClean v.scenario.network frame
  pub good : IsGood v sender
  pub taken_by : IsGood v receiver
  pub ready : IsReady v receiver t0
  pub mine : is_of_other_member v.scenario.network receiver link frame.members ≡ false
  pub clock : HasGrown v frame.clock d k
  pub time : time_of r ≤ t0 + d
  pub after : t0 ≤ time_of r

-- it has come over the link
pub record HasCome (v : View) (way : Way) (t0 : ℕ) (r : Happening) (frame : Pcf) (receiver : DeviceId) (link : LinkId) (l : Link) (d k : ℕ) : Type 0 where
  pub gone : HasGone v way r frame receiver link l
  pub small : gone.clock ≤ amount v.scenario.network.dmax
  pub clock : HasGrown v gone.clock (d + delay_by l) (suc k)
  pub time : time_of gone.arriving ≤ t0 + (d + delay_by l)
  pub after : t0 ≤ time_of gone.arriving

-- the delay of a path is that of its first link and of the others
pub delay_more : (n : Network) (link : LinkId) (l : Link) (rest : List LinkId) → link_at n link ≡ Some l
    → delay_on n (link ∷ rest) ≡ delay_by l + delay_on n rest
delay_more n link l rest at = sum_by-cons (delay_of n) link rest ∙ ap (λ x. x + delay_on n rest) (rw at)

-- so it does, where its path is no longer than others
pub comes_over : {v : View} {channel : Channel} {way : Way} {t0 : ℕ} {r : Happening} {frame : Pcf}
    {sender receiver : DeviceId} {link : LinkId} {l : Link} {d k : ℕ} (is : IsView v) → IsWholeFrom v channel t0
    → IsUnderWay v channel way t0 r frame sender receiver link l d k → v.sizes.path + (d + delay_by l) ≤ v.sizes.dmax
    → k + 1 ≤ is.beta.links → t0 + v.sizes.dmax + v.sizes.path ≤ v.until
    → HasCome v way t0 r frame receiver link l d k
comes_over {v} {channel} {way} {t0} {r} {frame} {sender} {receiver} {link} {l} {d} {k} is intact c fits few in_run =
    let n = v.scenario.network in
    let takes = takes_at_most way link l (time_of r) is c.given.there in
    let value : v.sizes.path ≡ beta_at n is.beta.jitter is.beta.links = omega (arith, ints, is.beta.value) in
    let fits_so : v.sizes.path + (d + delay_by l) ≤ amount n.dmax = omega (arith, (sizes_are is).dmax) in
    let left = leaves_at v.scenario link way (time_of r) in
    let u = arrives_at v.scenario link way (time_of r) in
    let soon : u ≤ t0 + (d + delay_by l) = omega (arith, takes.0, c.time) in
    let within : u ≤ v.until = omega arith in
    let behind : t0 ≤ u = omega (arith, c.after) in
    let stands = c.ready u behind (omega arith) in
    let drift : n.rho * (d + delay_by l) ≤ n.rho * amount n.dmax = mul-le-mul_left n.rho (omega arith) in
    let grains : amount n.grain * (k + 1) ≤ amount n.grain * (is.beta.links + 2) =
    mul-le-mul_left (amount n.grain) (omega arith) in
    let floor : 4 * n.rho * amount n.dmax < 10 ^ 9 * (4 * n.rho * amount n.dmax / 10 ^ 9 + 1) = omega arith in
    let spend : (next : ℕ) → 10 ^ 9 * next ≤ 10 ^ 9 * frame.clock + 10 ^ 9 * delay_by l + n.rho * delay_by l + 2 * amount n.grain * 10 ^ 9
    → (next ≤ amount n.dmax) × HasGrown v next (d + delay_by l) (suc k) = λ next grows.
    (omega (arith, c.clock), omega (arith, c.clock)) in
    let of_channel = closed (λ x. IsSwitchOf n channel x.parent) (link_at n link) l c.given.there c.switch in
    let whole = intact.ways link way left of_channel (omega (arith, c.after)) (omega (arith, takes.1)) in
    let gone = goes_over is c.given (good_is_correct v sender left c.good (omega (arith, takes.1))) whole
    (λ next grows. (spend next grows).0)
    (λ next small. no_fault receiver link u next is c.clean c.taken_by within stands.0 stands.1 c.mine small) within in
    let spent = spend gone.clock gone.grows in
    record {
      gone = gone;
      small = spent.0;
      clock = spent.1;
      time = omega (arith, gone.at);
      after =
          omega (arith, gone.at);
    }

-- ---- the sound channel brings dispatches up to its compression master: roles

-- a switch is no end system
pub switch_ends : {v : View} (device : DeviceId) (channel : Channel) → IsView v
    → IsSwitchOf v.scenario.network channel device → is_end v.scenario.network device ≡ false
switch_ends {v} device channel is switch =
    let d = opened (λ x. x.channel ≡ Some channel) (device_at v.scenario.network device) switch in
    let known = all_at IsDeviceInRange v.scenario.network.device device.0 d.0 is.lawful.range.devices d.1 in
    ap (λ o. option_map_or (λ x. is_end_system x.role) o false) d.1
    ∙ not-true (is_end_system d.0.role) (sym (ap (λ c. is_some c) (sym d.2) ∙ known.switches))

-- one that is a link's child is a relay
pub child_relays : {v : View} (device : DeviceId) (channel : Channel) (link : LinkId) (l : Link) → IsView v
    → link_at v.scenario.network link ≡ Some l → l.child ≡ device → IsSwitchOf v.scenario.network channel device
    → is_relay v.scenario.network device ≡ true
child_relays {v} device channel link l is at child switch =
    elim (child_kind device link is (closed (λ k. k.child ≡ device) (link_at v.scenario.network link)
    l at child)) [
      | inl end ↦ absurd (both_ways (is_end v.scenario.network device) (switch_ends device channel is switch) end)
      | inr x ↦ rw x.1 (ap is_relay_role x.2)
    ]

last_false : (a b c : Bool) → (b ≡ true → c ≡ false) → (a && b && c) ≡ false
last_false true true c f = f refl
last_false a b c f = refl

-- a channel has one compression master
pub one_cm : {v : View} (channel : Channel) (a b : DeviceId) → IsView v → IsCmOf v.scenario.network channel a
    → IsCmOf v.scenario.network channel b → a ≡ b
one_cm A a b is x y = (let one = (is.lawful.rules CompressionMasters 0).on_a refl in one.2 a x ∙ sym (one.2 b y))
one_cm B a b is x y = (let one = (is.lawful.rules CompressionMasters 1).on_b refl in one.2 a x ∙ sym (one.2 b y))

-- ---- one link up

-- a frame that is given to the first link of a path, and has been on its way for so long over so many links
record CanGoUp (v : View) (channel : Channel) (t0 : ℕ) (link : LinkId) (rest : List LinkId) (r : Happening) (frame : Pcf) (sender : DeviceId) (d k links : ℕ) : Type 0 where
  pub path : IsPath v.scenario.network channel sender (link ∷ rest)
  pub there : IsIn r v.records
  pub of_frame : r.frame ≡ Some frame
  pub clean : IsClean v.scenario.network frame
  pub gives : Gives v.scenario.network r.note.body sender link
  pub good : IsGood v sender
  pub member : is_end v.scenario.network sender ≡ true → are_others (member_of v.scenario.network sender) frame.members ≡ false
  pub clock : HasGrown v frame.clock d k
  pub time : time_of r ≤ t0 + d
  pub after : t0 ≤ time_of r
  pub fits : v.sizes.path + (d + delay_on v.scenario.network (link ∷ rest)) ≤ v.sizes.dmax
  pub few : k + suc (length rest) ≤ links

-- it has come up the link, to a switch that has the rest of the path
record Stepped (v : View) (channel : Channel) (t0 : ℕ) (link : LinkId) (rest : List LinkId) (r : Happening) (frame : Pcf) (d k : ℕ) : Type 0 where
  pub l : Link
  pub at : link_at v.scenario.network link ≡ Some l
  pub switch : IsSwitchOf v.scenario.network channel l.parent
  pub path : IsPath v.scenario.network channel l.parent rest
  pub come : HasCome v Up t0 r frame l.parent link l d k

step_up : {v : View} {channel : Channel} {t0 : ℕ} {link : LinkId} {rest : List LinkId} {r : Happening} {frame : Pcf}
    {sender : DeviceId} {d k : ℕ} (is : IsView v) → IsWholeFrom v channel t0
    → CanGoUp v channel t0 link rest r frame sender d k is.beta.links → AreOpenOn v channel t0
    → t0 + v.sizes.dmax + v.sizes.path ≤ v.until → Stepped v channel t0 link rest r frame d k
step_up {v} {channel} {link} {rest} {r} {frame} {sender} {d} {k} is intact c opens in_run =
    let n = v.scenario.network in
    let l = opened (λ x. (x.child ≡ sender) × IsSwitchOf n channel x.parent × IsPath n channel x.parent rest)
    (link_at n link) c.path in
    let receiver = l.0.parent in
    let child = closed (λ x. x.child ≡ sender) (link_at n link) l.0 l.1 l.2.0 in
    let to : receiver_of n link Up ≡ Some receiver = ap (λ o. option_map (target_by Up) o) l.1 in
    let member : is_of_other_member n receiver link frame.members ≡ false =
    grind (
      arith,
      option_map_or,
      receiver.0,
      is_end,
      are_others,
      member_of,
      l.1,
      last_false,
      l.0.parent.0,
      l.0.child,
      l.2.0,
    ) in
    record {
      l = l.0;
      at = l.1;
      switch = l.2.1;
      path = l.2.2;
      come = comes_over is intact (record {
        given = record {
          given = c.there;
          of_frame = c.of_frame;
          gives = c.gives;
          there = l.1;
          from_way = (child_ways sender link is child).1;
          on_way = receiver_way link receiver Up is to;
          comes_to = to;
        };
        switch = l.2.1;
        clean = c.clean;
        good = c.good;
        taken_by = switches_are_good v channel receiver is l.2.1;
        ready = λ u from till. (intact.on receiver u l.2.1 from, opens receiver u l.2.1 from till);
        mine = member;
        clock = c.clock;
        time = c.time;
        after = c.after;
      }) (omega (arith, c.fits, delay_more n link l.0 rest l.1)) (omega (arith, c.few)) in_run;
    }

-- ---- up to the compression master

-- the frame has arrived at the compression master
record IsAtCm (v : View) (channel : Channel) (last : Happening) : Type 0 where
  pub cm : DeviceId
  pub is_cm : IsCmOf v.scenario.network channel cm
  pub link : LinkId
  pub cause : ℕ
  pub clock : ℕ
  pub body : last.note.body ≡ notes.Arrived cm link cause clock
  pub clock_is : clock_in last ≡ clock
  pub small : clock ≤ amount v.scenario.network.dmax

record GoesUp (v : View) (channel : Channel) (r : Happening) : Type 0 where
  pub legs : List Leg
  pub last : Happening
  pub trip : IsTrip v Up r legs last
  pub come : IsAtCm v channel last

go_up : {v : View} {channel : Channel} {t0 : ℕ} (link : LinkId) (rest : List LinkId) (r : Happening) (frame : Pcf)
    (sender : DeviceId) (d k : ℕ) (is : IsView v) → IsWholeFrom v channel t0
    → CanGoUp v channel t0 link rest r frame sender d k is.beta.links → AreOpenOn v channel t0
    → t0 + v.sizes.dmax + v.sizes.path ≤ v.until → GoesUp v channel r
go_up link [] r frame sender d k is intact c opens in_run =
    let p = step_up is intact c opens in_run in
    let gone = p.come.gone in
    record {
      legs = record { link = link; giving = r; leaving = gone.leaving; arriving = gone.arriving } ∷ [];
      last = gone.arriving;
      trip = (refl, gone.is, refl);
      come = record {
        cm = p.l.parent;
        is_cm = p.path;
        link = link;
        cause = gone.cause;
        clock = gone.clock;
        body = gone.body;
        clock_is = rw gone.of_frame;
        small = p.come.small;
      };
    }
go_up {v} {channel} link (next ∷ rest) r frame sender d k is intact c opens in_run =
    let n = v.scenario.network in
    let p = step_up is intact c opens in_run in
    let gone = p.come.gone in
    let device = p.l.parent in
    let m = opened (λ x. (x.child ≡ device) × IsSwitchOf n channel x.parent × IsPath n channel x.parent rest)
    (link_at n next) p.path in
    let relay = child_relays device channel next m.0 is m.1 m.2.0 p.switch in
    let parent = closed (λ x. x.parent ≡ device) (link_at n link) p.l p.at refl in
    let child = closed (λ x. x.child ≡ device) (link_at n next) m.0 m.1 m.2.0 in
    let more = go_up next rest gone.arriving (with_clock gone.clock frame) device (d + delay_by p.l) (suc k) is
    intact (record {
      path = p.path;
      there = gone.is.arrived;
      of_frame = gone.of_frame;
      clean = record { kind = c.clean.kind; priority = c.clean.priority; domain = c.clean.domain };
      gives = rw gone.body (refl, record { relay = relay; on = inl (parent, child) });
      good = switches_are_good v channel device is p.switch;
      member = λ ends. absurd (both_ways (is_end n device) (switch_ends device channel is p.switch) ends);
      clock = p.come.clock;
      time = p.come.time;
      after = p.come.after;
      fits = omega (arith, c.fits, delay_more n link p.l (next ∷ rest) p.at);
      few = omega (arith, c.few);
    }) opens in_run in
    record {
      legs = record { link = link; giving = r; leaving = gone.leaving; arriving = gone.arriving } ∷ more.legs;
      last = more.last;
      trip = (refl, gone.is, more.trip);
      come = more.come;
    }

-- ---- the law

master_no_cm : (role : Role) → is_master role ≡ true → role ≡ Cm → ⊥
master_no_cm Master e f = cc
master_no_cm role e f = cc

-- the delays of a path leave room for its error
pub path_fits : {v : View} (channel : Channel) (device : DeviceId) (links : List LinkId) (is : IsView v)
    → IsDeviceOf v.scenario.network channel device → IsPath v.scenario.network channel device links
    → (v.sizes.path + delay_on v.scenario.network links ≤ v.sizes.dmax) × (length links ≤ is.beta.links)
path_fits {v} channel device links is member path =
    let fits = (margins rules_give_trees v.scenario.network v.sizes.path is.lawful.range is.lawful.rules is.beta).dmax.paths channel device links member path in (
      omega (arith, (sizes_are is).dmax),
      is.beta.links_greatest.most (length links)
          (channel, (device, (links, member, path, refl))),
    )

pub frames_go_up : FramesGoUp
frames_go_up v channel h master cm cycle is intact d one opens in_run =
    let n = v.scenario.network in
    let at = founded_at v.scenario v.records h is.run.founded d.there in
    let sends : IsCaused v.scenario at.front h.note.time (notes.Sent master cycle) = subst (IsCaused v.scenario at.front h.note.time) d.is at.due.cause in
    let role = device_of is_master (device_at n master) sends.master in
    let of_channel = closed (λ x. (is_end_system x.role ≡ true) ⊎ (x.channel ≡ Some channel)) (device_at n master)
    role.0 role.1 (inl (master_ends role.0.role role.2)) in
    let reach = (rules_give_trees n (shape_rules n is.lawful.rules)).reach channel master of_channel in
    let framed : h.frame ≡ Some (dispatched_frame n master cycle) = rw at.due.same (ap (frame_by n at.front) d.is) in
    let m = master_member master is sends.master in
    elim reach.0 as (λ links. IsPath n channel master links → IsBrought v Up h cm) [
      | [] ↦ grind (arith, opened, device_at, role.0, same_some, role.1, master_no_cm, role.0.role, role.2)
      | link ∷ rest ↦ λ path.
          let l = opened (λ x. (x.child ≡ master) × IsSwitchOf n channel x.parent × IsPath n channel x.parent rest)
          (link_at n link) path in
          let child = closed (λ x. x.child ≡ master) (link_at n link) l.0 l.1 l.2.0 in
          let fits = path_fits channel master (link ∷ rest) is of_channel path in
          let goes = go_up link rest h (dispatched_frame n master cycle) master 0 0 is intact (record {
            path = path;
            there = d.there;
            of_frame = framed;
            clean = record { kind = refl; priority = refl; domain = refl };
            gives = rw d.is (refl, child);
            good = d.good;
            member = λ ends. rw m.1 (ap not (eq-eqb (2 ^ m.0) (2 ^ m.0) refl));
            clock = omega arith;
            time = omega arith;
            after = omega arith;
            fits = omega (arith, fits.0);
            few = omega (arith, fits.1);
          }) opens in_run in
          let come = goes.come in
          let body = come.body ∙ ap (λ x. notes.Arrived x come.link come.cause come.clock)
          (one_cm channel come.cm cm is come.is_cm one) in
          let will = will_be_permanent goes.last cm come.link come.cause come.clock is body
          (omega (arith, come.small, sizes_are is)) in
          let up = path_up channel h goes.last goes.legs master cm cycle come.link come.cause come.clock is one
          goes.trip body d.is in
          record {
            legs = goes.legs;
            last = goes.last;
            trip = goes.trip;
            point = will.point;
            q = will.q;
            permanent = will.permanent;
            in_time =
                trips_up_take_dmax v h goes.last goes.legs channel master cm will.point will.q is of_channel up
                (dispatch_clock is d)
                goes.trip will.permanent (come.clock_is ∙ sym will.same);
          }
    ] reach.2

-- the sound channel is whole
pub sound_is_whole : {v : View} (t : ℕ) → IsView v → IsWholeFrom v v.channel t
sound_is_whole {v} t is = record {
  ways = λ link way u of_channel from le. sound_ways_are_whole v link way u is of_channel le;
  on = λ switch u of_channel from. sound_switch_on switch u is of_channel;
}

pub sound_frames_go_up : SoundFramesGoUp
sound_frames_go_up v h master cm cycle is d one opens in_run =
    frames_go_up v v.channel h master cm cycle is (sound_is_whole (time_of h) is) d one opens in_run

-- ---- the sound channel brings compressed frames down to its devices: one link down

-- a frame of the sound channel has come down to the device
record ComesDown (v : View) (channel : Channel) (first : Happening) (cm device : DeviceId) (d k : ℕ) : Type 0 where
  pub legs : List Leg
  pub last : Happening
  pub trip : IsTrip v Down first legs last
  pub there : IsIn last v.records
  pub frame : Pcf
  pub of_frame : last.frame ≡ Some frame
  pub clean : IsClean v.scenario.network frame
  pub gives : (link : LinkId) → IsParentOf v.scenario.network device link → IsSwitchOf v.scenario.network channel device → Gives v.scenario.network last.note.body device link
  pub clock : HasGrown v frame.clock d k
  pub small : frame.clock ≤ amount v.scenario.network.dmax
  pub time : time_of last ≤ time_of first + d
  pub after : time_of first ≤ time_of last
  pub how : (device ≡ cm) ⊎ ((link : LinkId) × (cause : ℕ) × (last.note.body ≡ notes.Arrived device link cause frame.clock))

go_down : (links : List LinkId) {v : View} {channel : Channel} {first : Happening} {cm : DeviceId}
    (device : DeviceId) {cycle : ℕ} {members : Members} → IsView v → IsWholeFrom v channel (time_of first)
    → IsEmission v first cm cycle members → IsCmOf v.scenario.network channel cm
    → IsPath v.scenario.network channel device links → IsGood v device → IsReady v device (time_of first)
    → AreOpenOn v channel (time_of first) → time_of first + v.sizes.dmax + v.sizes.path ≤ v.until
    → ComesDown v channel first cm device (delay_on v.scenario.network links) (length links)
go_down [] {v} {channel} {first} {cm} device {cycle} {members} is intact e one path good ready opens in_run =
    let at = founded_at v.scenario v.records first is.run.founded e.there in
    let same : cm ≡ device = one_cm channel cm device is one path in
    record {
      legs = [];
      last = first;
      trip = refl;
      there = e.there;
      frame = integration_frame v.scenario.network cm cycle members;
      of_frame = ap (λ x. x.frame) at.due.same ∙ ap (frame_by v.scenario.network at.front) e.is;
      clean = record { kind = refl; priority = refl; domain = refl };
      gives = λ link parent switch. subst (λ b. Gives v.scenario.network b device link) (sym e.is) (sym same, parent);
      clock = omega arith;
      small = omega arith;
      time = omega arith;
      after = omega arith;
      how = inl (sym same);
    }
go_down (link ∷ rest) {v} {channel} {first} device is intact e one path good ready opens in_run =
    let n = v.scenario.network in
    let l = opened (λ (x : Link). (x.child ≡ device) × IsSwitchOf n channel x.parent × IsPath n channel x.parent rest) (link_at n link) path in
    let sender : DeviceId = l.0.parent in
    let switch : IsSwitchOf v.scenario.network channel sender = l.2.1 in
    let of_sender = switches_are_good v channel sender is switch in
    let above = go_down rest sender is intact e one l.2.2 of_sender
    (λ u from to. (intact.on sender u switch from, opens sender u switch from to)) opens in_run in
    let r = above.last in
    let child : IsChildOf n device link = closed (λ (x : Link). x.child ≡ device) (link_at n link) l.0 l.1 l.2.0 in
    let parent : IsParentOf n sender link = closed (λ (x : Link). x.parent ≡ sender) (link_at n link) l.0 l.1 refl in
    let to : receiver_of n link Down ≡ Some device = ap (λ o. option_map (target_by Down) o) l.1 ∙ ap
    (λ (x : DeviceId). Some x) l.2.0 in
    let delay = delay_more n link l.0 rest l.1 in
    let whole = path_fits channel device (link ∷ rest) is (path_member v channel device (link ∷ rest) is path) path in
    let hidden = sym (ap (λ (o : Option Link). option_map_or (λ k. k.parent.0 == device.0) o false) l.1)
    ∙ false_from_ne_true (is_parent_of n device link) (child_not_parent device link is child) in
    let come = comes_over {way = Down} {r = r} {frame = above.frame} {sender = sender} {receiver = device} {link = link} {l = l.0} {d = delay_on n rest} {k = length rest} is intact (record {
      given = grind (arith, above.there, above.of_frame, above.gives, l.1, parent_ways, child_ways);
      switch = switch;
      clean = above.clean;
      good = of_sender;
      taken_by = good;
      ready = ready;
      mine =
          ap (λ (o : Option Link). option_map_or (λ x. x.parent.0 == device.0 && is_end n x.child && are_others (member_of n x.child) above.frame.members) o
          false) l.1 ∙ ap (λ (b : Bool). b && is_end n l.0.child && are_others (member_of n l.0.child) above.frame.members) hidden;
      clock = above.clock;
      time = above.time;
      after = above.after;
    }) (omega (arith, whole.0)) (omega (arith, whole.1)) in_run in
    let gone = come.gone in
    let sum : delay_on n rest + delay_by l.0 ≡ delay_on n (link ∷ rest) = omega arith in
    record {
      legs = above.legs ++ record { link = link; giving = r; leaving = gone.leaving; arriving = gone.arriving } ∷ [];
      last = gone.arriving;
      trip = trip_more first r gone.arriving above.legs above.trip refl refl gone.is;
      there = gone.is.arrived;
      frame = with_clock gone.clock above.frame;
      of_frame = gone.of_frame;
      clean = record { kind = above.clean.kind; priority = above.clean.priority; domain = above.clean.domain };
      gives =
          λ next parent_of of_channel. subst (λ b. Gives n b device next) (sym gone.body)
          (refl, record { relay = child_relays device channel link l.0 is l.1 l.2.0 of_channel; on = inr (child, parent_of) });
      clock = subst (λ x. HasGrown v gone.clock x (length (link ∷ rest))) sum come.clock;
      small = come.small;
      time = omega (arith, come.time);
      after = come.after;
      how = inr (link, gone.cause, gone.body);
    }

-- ---- the law

-- the gate of a device of the channel is open
is_open_at : (v : View) (channel : Channel) (device : DeviceId) (u : ℕ) → IsDeviceOf v.scenario.network channel device → (IsSwitchOf v.scenario.network channel device → IsOpen v device u)
    → IsOpen v device u
is_open_at v channel device u member opens =
    grind (arith, opened, is_end_system, device_at, is_relay, option_map_or, is_relay_role, false_from_ne_true, relay_not_end, closed)

pub frames_go_down : FramesGoDown
frames_go_down v channel h device cm cycle members is intact e one member good other opens in_run on =
    let reach = (rules_give_trees v.scenario.network (shape_rules v.scenario.network is.lawful.rules)).reach channel device member in
    let ready : IsReady v device (time_of h) = λ u from to. (on u from to, is_open_at v channel device u member (λ switch. opens device u switch from to)) in
    let goes = go_down reach.0 device is intact e one reach.2 good ready opens in_run in
    elim goes.how [
      | inl same ↦ absurd (other same)
      | inr arrived ↦
          let will = will_be_permanent goes.last device arrived.0 arrived.1 goes.frame.clock is arrived.2
          (omega (arith, goes.small, sizes_are is)) in
          let gives = emission_gives e is in
          let path = path_down h goes.last goes.legs cm [] is gives.1 goes.trip device arrived.0 arrived.1
          goes.frame.clock arrived.2 in
          let clock_is : clock_in goes.last ≡ goes.frame.clock = rw goes.of_frame in
          record {
            legs = goes.legs;
            last = goes.last;
            trip = goes.trip;
            point = will.point;
            q = will.q;
            permanent = will.permanent;
            in_time =
                trips_down_take_dmax v h goes.last goes.legs gives.0 device will.point will.q is (path_member v gives.0 device (links_back goes.legs) is path)
                path (emission_clock e is) goes.trip will.permanent (clock_is ∙ sym will.same);
          }
    ]

pub sound_frames_go_down : SoundFramesGoDown
sound_frames_go_down v h device cm cycle members is e one member good other opens in_run on =
    frames_go_down v v.channel h device cm cycle members is (sound_is_whole (time_of h) is) e one member good other
    opens in_run on

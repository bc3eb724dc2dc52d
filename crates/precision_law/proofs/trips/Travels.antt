-- What the legs of a trip add up to, and the path that they go.
use Rattle.precision_law.proofs.{block.Instants.arrival_link}
use Rattle.precision_law.proofs.words.Clocks.{arrived_frame, child_channel, gives_down, leaving_is, leg_hop, reached}
use Rattle.precision_law.proofs.words.Clocks.{same_cycle}
use Rattle.precision_law.proofs.words.Laws.{IsLeg, IsTrip, IsView, Leg, View, clock_in, links_back}
use Rattle.precision_law.proofs.words.Plans.{Channel, DeviceId, Down, Hop, IsHop, IsPath, IsSwitchOf, Link, LinkId, Network, Pcf, Way, amount, closed}
use Rattle.precision_law.proofs.words.Plans.{device_at, growth, jitter_of, jitter_on, link_at, opened, target_by, travel}
use Rattle.precision_law.proofs.words.Runs.{Gives, Happening, IsCaused, channel_of, channel_of_link, cycle_in, founded_at, is_relay, members_in}
use Rattle.precision_law.proofs.words.{Runs.{same_some, time_of, with_clock}, Std.{option_map, subst, suc, sum_by, sum_by-cons, sym, true, ℕ}}
use Rattle.precision_law.proofs.words.Std.{◌+◌, ◌∙◌, ◌∷◌, ◌≡◌, ◌≤◌, All, All-cons, All-nil, List, Some, [], ap, arith, fold, length, option_and_then}
use Rattle.run_law.specs.declared.note.NoteBody.TheVariants as notes

-- ---- sums

-- how far the delays of the legs vary together
abbrev pub jitter_of_legs : Network → List Leg → ℕ
jitter_of_legs n legs = sum_by (λ leg. jitter_of n leg.link) legs

-- what a trip adds up to
pub record AddsUp (v : View) (first last : Happening) (legs : List Leg) : Type 0 where
  pub hops : List Hop
  pub are : All (IsHop v.scenario.network.rho (amount v.scenario.network.grain)) hops
  pub travels : time_of last ≡ time_of first + travel hops
  pub grows : clock_in last ≡ clock_in first + growth hops
  pub many : length hops ≡ length legs
  pub jitter : sum_by (λ h. h.jitter) hops ≡ jitter_of_legs v.scenario.network legs

-- the link of a leg is there
pub leg_link : {v : View} {way : Way} {leg : Leg} → IsView v → IsLeg v way leg
    → (l : Link) × (link_at v.scenario.network leg.link ≡ Some l)
leg_link {v} {leg} is l =
    let at = founded_at v.scenario v.records leg.arriving is.run.founded l.arrived in
    arrival_link v (subst (IsCaused v.scenario at.front leg.arriving.note.time) l.arrives at.due.cause)

pub adds_up : {v : View} (way : Way) (first last : Happening) (legs : List Leg) → IsView v
    → IsTrip v way first legs last → AddsUp v first last legs
adds_up way first last [] is trip = grind (arith, All-nil, amount, time_of, clock_in)
adds_up {v} way first last (leg ∷ legs) is trip =
    let more = adds_up way leg.arriving last legs is trip.2 in
    let link = leg_link is trip.1 in
    let hop = leg_hop link.0 is trip.1 link.1 in
    record {
      hops = hop.hop ∷ more.hops;
      are = All-cons (IsHop v.scenario.network.rho (amount v.scenario.network.grain)) hop.hop more.hops hop.is more.are;
      travels = omega (
        arith,
        sum_by-cons (λ h. h.hold + h.delay) hop.hop more.hops,
        ap time_of trip.0,
        hop.travels,
        more.travels,
      );
      grows = omega (
        arith,
        sum_by-cons (λ h. h.measured + h.wire) hop.hop more.hops,
        ap clock_in trip.0,
        hop.grows,
        more.grows,
      );
      many = ap suc more.many;
      jitter = omega (
        arith,
        sum_by-cons (λ h. h.jitter) hop.hop more.hops,
        sum_by-cons
            (λ x. jitter_of v.scenario.network x.link) leg legs,
      );
    }

-- what a trip brings is not too old
stays_young : {v : View} (way : Way) (first last : Happening) (legs : List Leg) → IsView v
    → IsTrip v way first legs last → clock_in first ≤ amount v.scenario.network.dmax
    → clock_in last ≤ amount v.scenario.network.dmax
stays_young way first last [] is trip young =
    (let same : clock_in first ≡ clock_in last = ap clock_in trip in omega arith)
stays_young way first last (leg ∷ legs) is trip young =
    let link = leg_link is trip.1 in
    stays_young way leg.arriving last legs is trip.2 (leg_hop link.0 is trip.1 link.1).young

pub last_young : {v : View} (way : Way) (first last : Happening) (legs : List Leg) → IsView v
    → IsTrip v way first legs last → clock_in first ≡ 0 → clock_in last ≤ amount v.scenario.network.dmax
last_young way first last legs is trip zero_clock = stays_young way first last legs is trip (omega arith)

-- ---- links from the last to the first

pub back_sum : (f : LinkId → ℕ) (legs : List Leg) (acc : List LinkId) → sum_by f (fold (λ links leg. leg.link ∷ links) acc legs) ≡ sum_by f acc + sum_by
    (λ leg. f leg.link) legs
back_sum f [] acc = omega arith
back_sum f (leg ∷ legs) acc = omega (
  arith,
  back_sum f legs (leg.link ∷ acc),
  sum_by-cons f leg.link acc,
  sum_by-cons
      (λ x. f x.link) leg legs,
)

back_length : (legs : List Leg) (acc : List LinkId) → length (fold (λ links leg. leg.link ∷ links) acc legs) ≡ length acc + length legs
back_length [] acc = omega arith
back_length (leg ∷ legs) acc = (let more = back_length legs (leg.link ∷ acc) in omega arith)

pub jitter_back : (n : Network) (legs : List Leg) → jitter_on n (links_back legs) ≡ jitter_of_legs n legs
jitter_back n legs = (let e = back_sum (jitter_of n) legs [] in omega arith)

pub many_back : (legs : List Leg) → length (links_back legs) ≡ length legs
many_back legs = (let e = back_length legs [] in omega arith)

-- ---- the path down

-- a device of a channel is a switch of it
pub switch_of : (n : Network) (channel : Channel) (device : DeviceId) → channel_of n device ≡ Some channel → IsSwitchOf n channel device
switch_of n channel device e =
    let d = reached (λ x. x.channel) (device_at n device) channel e in
    closed (λ x. x.channel ≡ Some channel) (device_at n device) d.0 d.1 d.2

-- the link of a leg down leads from its receiver to its sender
pub leg_down : {v : View} {leg : Leg} → IsView v → (l : IsLeg v Down leg)
    → (link : Link) × (link_at v.scenario.network leg.link ≡ Some link) × (link.child ≡ l.receiver)
    × (link.parent ≡ l.sender)
leg_down is l = grind (arith, leg_link, option_map, target_by, opened, link_at, gives_down, same_some)

-- what gives a frame down is of the channel, and has this path
pub record GivesDown (v : View) (channel : Channel) (first : Happening) (giver : DeviceId) (links : List LinkId) : Type 0 where
  pub path : IsPath v.scenario.network channel giver links
  pub is_giver : (d : DeviceId) (k : LinkId) → Gives v.scenario.network first.note.body d k → d ≡ giver
  pub of_channel : (d : DeviceId) (k : LinkId) → Gives v.scenario.network first.note.body d k → channel_of v.scenario.network giver ≡ Some channel
  pub arrived : (d : DeviceId) (k : LinkId) (c t : ℕ) → first.note.body ≡ notes.Arrived d k c t → d ≡ giver

-- a relay that a leg down leads to is of the channel
pub through : {v : View} (channel : Channel) {leg : Leg} → IsView v → (l : IsLeg v Down leg) (m : Link)
    → link_at v.scenario.network leg.link ≡ Some m → m.child ≡ l.receiver → m.parent ≡ l.sender
    → channel_of v.scenario.network l.sender ≡ Some channel → is_relay v.scenario.network l.receiver ≡ true
    → channel_of v.scenario.network l.receiver ≡ Some channel
through {v} channel {leg} is l m at child parent of_sender relay =
    let up = child_channel l.receiver leg.link is relay
    (closed (λ x. x.child ≡ l.receiver) (link_at v.scenario.network leg.link) m at child) in
    up ∙ ap (λ o. option_and_then (λ x. channel_of v.scenario.network x.parent) o) at ∙ ap
    (channel_of v.scenario.network) parent ∙ of_sender

pub path_down : {v : View} {channel : Channel} (first last : Happening) (legs : List Leg) (giver : DeviceId)
    (links : List LinkId) → IsView v → GivesDown v channel first giver links → IsTrip v Down first legs last
    → (device : DeviceId) (link : LinkId) (cause clock : ℕ) → last.note.body ≡ notes.Arrived device link cause clock
    → IsPath v.scenario.network channel device (fold (λ links leg. leg.link ∷ links) links legs)
path_down {v} {channel} first last [] giver links is g trip device link cause clock body =
    let at : first.note.body ≡ notes.Arrived device link cause clock = rw trip body in
    rw (g.arrived device link cause clock at) g.path
path_down {v} {channel} first last (leg ∷ legs) giver links is g trip device link cause clock body =
    let n = v.scenario.network in
    let l = trip.1 in
    let gives : Gives n first.note.body l.sender leg.link = rw trip.0 at l.gives in
    let sender = g.is_giver l.sender leg.link gives in
    let at = leg_down is l in
    let channel_s : channel_of n l.sender ≡ Some channel = ap (channel_of n) sender ∙ g.of_channel l.sender leg.link gives in
    let switch : IsSwitchOf n channel at.0.parent = subst (IsSwitchOf n channel) (sym at.3) (switch_of n channel l.sender channel_s) in
    let path : IsPath n channel at.0.parent links = rw (at.3 ∙ sender) g.path in
    let here = closed (λ k. (k.child ≡ l.receiver) × IsSwitchOf n channel k.parent
    × IsPath n channel k.parent links) (link_at n leg.link) at.0 at.1 (at.2, switch, path) in
    path_down leg.arriving last legs l.receiver (leg.link ∷ links) is (record {
      path = here;
      is_giver = λ d k passes. (rw l.arrives at passes).0;
      of_channel =
          λ d k passes. (let p = (rw l.arrives at passes) in through channel is l
          at.0 at.1 at.2 at.3 channel_s
          (rw p.0 at p.1.relay));
      arrived =
          λ d k c t e. (let one = sym l.arrives
          ∙ e in cc);
    }) trip.2 device link cause clock body

-- ---- A frame keeps its cycle and its members on its way down, and stays on the channel

-- the later record is of the same frame as the earlier one, but for its clock
pub record KeepsFrame (g h : Happening) : Type 0 where
  pub frame : Pcf
  pub of_frame : h.frame ≡ Some frame
  pub cycle : cycle_in g ≡ cycle_in h
  pub members : members_in g ≡ members_in h

leg_keeps : {v : View} {way : Way} {leg : Leg} → IsView v → IsLeg v way leg → KeepsFrame leg.giving leg.arriving
leg_keeps {leg} is l =
    let left = leaving_is is l in
    let arrived = arrived_frame (with_clock l.left_clock left.frame) is l left.left_frame in
    let first = same_cycle leg.leaving leg.giving left.frame l.left_clock left.of_frame left.left_frame in
    let second = same_cycle leg.arriving leg.leaving (with_clock l.left_clock left.frame) l.arrived_clock left.left_frame arrived in
    record {
      frame = with_clock l.arrived_clock (with_clock l.left_clock left.frame);
      of_frame = arrived;
      cycle = first.0 ∙ second.0;
      members = first.1 ∙ second.1;
    }

-- the last leg of a way down, and what came by it
pub record EndsSo (v : View) (channel : Channel) (first last : Happening) : Type 0 where
  pub leg : Leg
  pub is : IsLeg v Down leg
  pub ends : leg.arriving ≡ last
  pub keeps : KeepsFrame first last
  pub of_channel : channel_of_link v.scenario.network leg.link ≡ Some channel

pub ends_so : {v : View} (channel : Channel) (first last : Happening) (leg : Leg) (legs : List Leg) → IsView v
    → ((d : DeviceId) (k : LinkId) → Gives v.scenario.network first.note.body d k
    → channel_of v.scenario.network d ≡ Some channel) → IsTrip v Down first (leg ∷ legs) last
    → EndsSo v channel first last
ends_so {v} channel first last leg [] is of_channel trip =
    let n = v.scenario.network in
    let l = trip.1 in
    let gives : Gives n first.note.body l.sender leg.link = rw trip.0 at l.gives in
    let at = leg_down is l in
    record {
      leg = leg;
      is = l;
      ends = trip.2;
      keeps = rw trip.2 at (rw trip.0 at (leg_keeps is l));
      of_channel = rw at.1 (ap (channel_of n) at.3 ∙ of_channel l.sender leg.link gives);
    }
ends_so {v} channel first last leg (next ∷ more) is of_channel trip =
    let n = v.scenario.network in
    let l = trip.1 in
    let gives : Gives n first.note.body l.sender leg.link = rw trip.0 at l.gives in
    let at = leg_down is l in
    let channel_s = of_channel l.sender leg.link gives in
    let later = ends_so channel leg.arriving last next more is (λ d k passes.
    let p = rw l.arrives at passes in
    ap (channel_of n) p.0 ∙ through channel is l at.0 at.1 at.2 at.3 channel_s
    (rw p.0 at p.1.relay)) trip.2 in
    let here = rw trip.0 at (leg_keeps is l) in
    let k = later.keeps in
    record {
      leg = later.leg;
      is = later.is;
      ends = later.ends;
      keeps = record { frame = k.frame; of_frame = k.of_frame; cycle = here.cycle ∙ k.cycle; members = here.members ∙ k.members };
      of_channel = later.of_channel;
    }

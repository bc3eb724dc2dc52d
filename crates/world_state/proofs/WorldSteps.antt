-- The steps of a world: what devices hear, do and make, what comes of events, and what is due first.
use Rattle.std.{specs.{List.{Contains, filter_map}, Option.option_map_or, Prelude.{IfSome, IsSomeAnd, Ok}}}
use Rattle.std.proofs.Common
use Common.{if◌then◌else◌, ◌%◌, ◌*◌, ◌++◌, ◌+◌, ◌/◌, ◌<ℤ◌, ◌<◌, ◌==◌, ◌^◌, ◌↔◌, ◌∙◌, ◌∷◌, ◌≡◌, ◌≤ℤ◌, ◌≤◌, ◌⊎◌, All}
use Common.{Bool, List, None, Option, Some, [], ap, append_assoc, arith, eq-eqb, false, get_or, inl, inr, length}
use Common.{length-append, map, option_and_then, refl, replicate, set, slice_get, subst, suc, sym, take, true, zero, ℕ}
use Common.{ℤ}
use Rattle.std.proofs.lemmas.{Bool.{cases_eq, ne_eqb}, Int.ints}
use Rattle.std.proofs.lemmas.{Option.{get_or_from_slice_get, same_Some, slice_get-get_or, slice_get_within}}
use Rattle.std.proofs.lemmas.List.{Sorted.IsPermutation-sym, ext_get_or, get_or-map, get_or-replicate, get_or-set_other}
use Rattle.std.proofs.lemmas.List.{get_or-set_same, get_or_default, length-map, length-replicate, length-set}
use Rattle.compression.specs.declared.compressed.Compressed.{Compressed}
use Rattle.device_rules.{proofs.frames_lemmas.Made.made_is}
use Rattle.device_rules.{specs.{Headings.heading_of, Reading.MayHearSome, frames.Made.head_of, least_key.Trees.no_key}}
use Rattle.net_plan.specs.{Padding.padded, Places.link_at, Ranges.{IsInRange, IsLinkInRange, IsVlInRange}}
use Rattle.net_plan.specs.declared.{event.What.What, ids.{DeviceId.DeviceId, LinkId.LinkId, VlId.VlId}}
use Rattle.net_plan.specs.declared.{network.Network.Network, tables.{Link.Link, VirtualLink.VirtualLink}}
use Rattle.pcf_codec.{proofs.Numbers.read_behind}
use Rattle.pcf_codec.{specs.{Decoding.decoded, EtherType.pcf_type, Fields.field, Spelling.Spells}}
use Rattle.run_law.{proofs.records.Members.in_map as is_mapped}
use Rattle.run_law.specs.{control.Wires.{Signal, control, signal_of, time_on_port, timed}}
use Rattle.run_law.specs.{declared.steps.{Act.Act, Arrival.Arrival, Moment.Moment, Ripe.Ripe}}
use Rattle.run_law.specs.{records.{Frames.{tt_frame, tt_frame_by}, Order.{IsBefore, IsIn}}}
use Rattle.run_law.specs.machines.{Answers.{IsActOf, after_arrival, after_correction, after_emission, called}}
use Rattle.run_law.specs.machines.{Calls.{HasDue, MayHear, StandsFor}, Nodes.{Node, arriving}}
use Rattle.run_law.specs.machines.{Tasks.{IsDueReading, IsPending, Task, reading_for}}
use Rattle.sync_state.specs.{declared.answers.Verdict.{TheVariants.Corrected, Verdict}, membership.Summary.Summary}
use Rattle.tte_units.{proofs.general_lemmas.Lists.in_all, specs.declared.{frames.pcf.Pcf.Pcf, units.Units.Units}}
use Rattle.world_law.specs.world.World.{AreInOrder, AtPort}
use Rattle.world_state.proofs.{Queues.{ports_kept, sound_with}, queue_lemmas.Slots.in_permuted}
use Rattle.world_state.specs.{Befalling.{AreSettledBy, entry_of, record_of, sent_up}, Giving.IsPutOn}
use Rattle.world_state.specs.{Hearing.{AreOctetsOf, MayCome}, Keeping.Meaning, Places.IsSomePut}
use Rattle.world_state.specs.{Sound.{AreBelow, AreUnderWay, rank_of}, Views.{at_port, befell_as, octets_of}}
use Rattle.world_state.specs.{timers.{SlotKeys.{AreKeys, timer_of}, Times.{IsFirst, never, unset}}}
use Rattle.world_state.specs.declared.{queue.Entry.Entry, timers.Timer.Timer}
use Rattle.world_state.specs.declared.contents.{Befallen.Befallen, Content.{Content, TheVariants.Wire}, Settled.Settled}
use Rattle.world_state.specs.declared.contents.{Timed.TheVariants.Made, WayState.WayState}
use Rattle.net_plan.specs.declared.event.What.TheVariants as events
use Rattle.run_law.specs.declared.steps.Act.TheVariants as acts
use Rattle.run_law.specs.declared.steps.Arrival.TheVariants as arrivals
use Rattle.run_law.specs.declared.steps.Ripe.TheVariants as ripe
use Rattle.world_state.specs.declared.contents.Signal.TheVariants as signals

-- ---- what an act leaves as it was

of_emission : (network : Network) (device : DeviceId) (node : Node) (moment : Moment) (sent : Compressed) (heard : Ripe)
    → (after_emission network device node moment sent heard).broken ≡ node.broken
of_emission network device node moment sent ripe.Opened = refl
of_emission network device node moment sent other = refl

of_correction : (node : Node) (moment : Moment) (heard : Summary) (cycle : _) (verdict : Verdict)
    → (after_correction node moment heard cycle verdict).broken ≡ node.broken
of_correction node moment heard cycle (Corrected by) = refl
of_correction node moment heard cycle other = refl

module _ (network : Network) (device : DeviceId) (node : Node) where
  -- a device that acts is as sound as before
  pub still_sound : (moment : Moment) (act : Act) (new : Node) → IsActOf network device node moment act new
      → new.broken ≡ node.broken
  still_sound moment (acts.Send frame) new (cycle, first, of_frame, is) = ap Node.broken is
  still_sound moment (acts.Dispatch row cycle) new (first, is) = ap Node.broken is
  still_sound moment (acts.Emit sent heard) new (first, so, is) =
      ap Node.broken is ∙ of_emission network device node moment sent heard
  still_sound moment (acts.Correct cycle verdict) new (first, (heard, comes, is)) =
      ap Node.broken is ∙ of_correction node moment heard cycle verdict

  -- ---- what is due

  -- what is due is reached: something is
  pub some_due : (due : Option Units) (reading : ℤ) → IsDueReading network device node due
      → IsSomeAnd due (λ at. at.0 ≤ℤ reading) → HasDue network device node reading
  some_due None reading is reached = absurd reached
  some_due (Some at) reading is reached = (is.0.0, is.0.1, rw is.0.2 reached)

  -- it is not: nothing is
  pub none_due : (due : Option Units) (reading : ℤ) → IsDueReading network device node due
      → IfSome due (λ at. reading <ℤ at.0) → (task : Task) → IsPending network device node task
      → reading <ℤ reading_for network node task
  none_due None reading is later task pending = absurd (is task pending)
  none_due (Some at) reading is later task pending =
      let least = is.1 task pending in
      omega (arith, ints)

-- ---- what comes of the events of an instant is settled: the world stands again: a step of the loop

module _ (network : Network) (broken : List Bool) (ups : List WayState) (time : ℕ) where
  pub settled_more : (befell : List Befallen) (b : Befallen) (old mid new : List Settled) (before between after : List (Entry Content))
      → AreSettledBy network broken ups time befell old mid before between → IsSomePut (record_of network broken ups b.number b.what) mid new
      → IsPutOn (entry_of network ups time b.number b.what) between after → AreSettledBy network broken ups time (befell ++ b ∷ []) old new before after
  settled_more [] b old mid new before between after are one put = (
    new,
    after,
    rw are.0 at one,
    rw are.1 at put,
    (refl, refl),
  )
  settled_more (f ∷ befell) b old mid new before between after are one put =
      (are.0, are.1, are.2, are.3, settled_more befell b are.0 mid new are.1 between after are.4 one put)

  -- one more is worked off
  pub take_next : (xs : List Befallen) (i : ℕ) (d : Befallen) → i < length xs → take (suc i) xs ≡ take i xs ++ get_or xs i d ∷ []
  take_next [] i d lt = absurd (omega arith)
  take_next (x ∷ xs) zero d lt = refl
  take_next (x ∷ xs) (suc i) d lt = rw (take_next xs i d (omega arith))

same_at : {X : Type 0} (xs : List X) (i : ℕ) (a b : X) → i < length xs → a ≡ get_or xs i a → b ≡ get_or xs i b → a ≡ b
same_at xs i a b lt is also = is ∙ sym (also ∙ get_or_from_slice_get xs i (get_or xs i a) b (slice_get-get_or xs i a lt))

-- the loop goes on
pub loop_step : (network : Network) (broken : List Bool) (ups : List WayState) (time : ℕ) (xs ys : List Befallen) (i : ℕ) {b m : Befallen} {what : What}
    (old mid new : List Settled) (before between after : List (Entry Content)) {one : Option Settled} {put : Option (Entry Content)}
    → length ys ≡ length xs → i < length xs → ((k : ℕ) (d : Befallen) → i ≤ k → get_or ys k d ≡ get_or xs k d) → b ≡ get_or ys i b → m ≡ get_or ys i m
    → what ≡ m.what → AreSettledBy network broken ups time (take i xs) old mid before between
    → one ≡ record_of network broken ups b.number what → IsSomePut one mid new → put ≡ entry_of network ups time b.number what → IsPutOn put between after
    → AreSettledBy network broken ups time (take (i + 1) xs) old new before after
loop_step network broken ups time xs ys i {b} {m} {what} old mid new before between after long lt agree is also of are one_is settles put_is puts =
    let whats = of ∙ ap Befallen.what (same_at ys i m b (omega arith) also is) in
    let next : i + 1 ≡ suc i = omega arith in
    let at = sym (agree i b (omega arith)) ∙ sym is in
    rw (ap (λ (n : ℕ). take n xs) next ∙ take_next network broken ups time xs i b lt ∙ ap
    (λ (y : Befallen). take i xs ++ y ∷ []) at) (settled_more network broken ups time (take i xs) b old mid new
    before between after are
    (rw (one_is ∙ ap (record_of network broken ups b.number) whats) at settles)
    (rw (put_is ∙ ap (entry_of network ups time b.number) whats) at puts))

-- ---- what an event puts under way

abbrev up_entry : Network → ℕ → ℕ → LinkId → List ℕ → Link → WayState → Entry Content
up_entry network time number link octets l w = record {
  place = record {
    at = time + time_on_port network link (signal_of octets) + w.delay;
    rank = 2;
    device = l.parent.0;
    link = link.0;
    cause = number;
  };
  content = Wire (signals.Octets octets);
}

-- it is on a wire, of its record, by a link of the network
record IsSendOf (network : Network) (number : ℕ) (e : Entry Content) : Type 0 where
  rank : e.place.rank ≡ 2
  kind : rank_of e.content ≡ 2
  device : e.place.device < length network.device
  link : e.place.link < length network.link
  cause : e.place.cause ≡ number
  none : at_port e ≡ None

module _ {network : Network} (range : IsInRange network) (ups : List WayState) (time number : ℕ) where
  sent_is : (link : LinkId) (octets : List ℕ) (l : Link) (w : WayState) (cut : Bool) (e : Entry Content) → slice_get network.link link.0 ≡ Some l → w.cut ≡ cut
      → sent_up network time number link octets l w ≡ Some e → IsSendOf network number e
  sent_is link octets l w true e found is sent =
      absurd (cc)
  sent_is link octets l w false e found is sent =
      let same =
      same_Some _ _ (sym (ap (λ b. if b then None else Some (up_entry network time number link octets l w)) is) ∙
      sent) in
      subst (IsSendOf network number) same
      (record {
        rank = refl;
        kind = refl;
        device = (in_all (IsLinkInRange network) network.link link.0 l range.links found).parent;
        link = slice_get_within network.link link.0 l found;
        cause = refl;
        none = refl;
      })

  by_way : (link : LinkId) (octets : List ℕ) {l : Link} (o : Option WayState) {e : Entry Content} → slice_get network.link link.0 ≡ Some l
      → option_and_then (sent_up network time number link octets l) o ≡ Some e → IsSendOf network number e
  by_way link octets None found sent = absurd cc
  by_way link octets {l} (Some w) {e} found sent = sent_is link octets l w w.cut e found refl sent

  by_link : (link : LinkId) (octets : List ℕ) (o : Option Link) {e : Entry Content} → link_at network link ≡ o
      → option_and_then (λ l. option_and_then (sent_up network time number link octets l) (slice_get ups link.0)) o ≡ Some e → IsSendOf network number e
  by_link link octets None found sent = absurd cc
  by_link link octets (Some l) {e} found sent = by_way link octets (slice_get ups link.0) found sent

  send_of : (what : What) (e : Entry Content) → entry_of network ups time number what ≡ Some e → IsSendOf network number e
  send_of (events.Send link octets) e sent = by_link link octets (link_at network link) refl sent
  send_of other e sent = absurd cc

  if_send : (o : Option (Entry Content)) → ((e : Entry Content) → o ≡ Some e → IsSendOf network number e) → IfSome o (λ one. at_port one ≡ None)
  if_send None is = tt
  if_send (Some e) is = (is e refl).none

-- nothing under way is of the record of this number on a wire
abbrev pub IsFreshOf : List (Entry Content) → ℕ → Type 0
IsFreshOf entries number = (d : Entry Content) → IsIn d entries → d.place.rank ≡ 2 → d.place.cause ≡ number → ⊥

module _ (network : Network) (range : IsInRange network) (broken : List Bool) (ups : List WayState) (time given : ℕ) where
  -- one is put under way
  put_sound : (number : ℕ) (o : Option (Entry Content)) (old new : List (Entry Content))
      → ((e : Entry Content) → o ≡ Some e → IsSendOf network number e) → IsPutOn o old new → AreUnderWay network old → AreBelow given old → number < given
      → IsFreshOf old number → AreUnderWay network new × AreBelow given new
  put_sound number None old new of put are below lt fresh = (subst (AreUnderWay network) (sym put) are, subst (AreBelow given) (sym put) below)
  put_sound number (Some e) old new of put are below lt fresh =
      let it = of e refl in (
        sound_with network old new e are put (it.rank ∙ sym it.kind) it.device it.link
            (λ d there same. fresh d there (ap (λ l. get_or l 1 0) same ∙ it.rank)
            (ap (λ l. get_or l 4 0) same ∙ it.cause)),
        λ d there. elim (in_permuted new (e ∷ old) d (IsPermutation-sym _ _ put) there) [
          | inl is ↦ rw (ap (λ (x : Entry Content). x.place.cause) is ∙ it.cause) lt
          | inr rest ↦ below d rest
        ],
      )

  put_fresh : (number other : ℕ) (o : Option (Entry Content)) (old new : List (Entry Content))
      → ((e : Entry Content) → o ≡ Some e → IsSendOf network number e) → IsPutOn o old new → number < other → IsFreshOf old other → IsFreshOf new other
  put_fresh number other None old new of put lt fresh = rw put fresh
  put_fresh number other (Some e) old new of put lt fresh = λ d there rank cause.
      elim (in_permuted new (e ∷ old) d (IsPermutation-sym _ _ put) there) [
        | inl is ↦ let own = ap (λ x. x.place.cause) is ∙ (of e refl).cause in omega arith
        | inr rest ↦ fresh d rest rank cause
      ]

  pub sound_settled : (befell : List Befallen) (old new : List Settled) (before after : List (Entry Content))
      → AreSettledBy network broken ups time befell old new before after → AreUnderWay network before → AreBelow given before
      → AreInOrder (map befell_as befell) → ((b : Befallen) → IsIn b befell → b.number < given) → ((b : Befallen) → IsIn b befell → IsFreshOf before b.number)
      → AreUnderWay network after × AreBelow given after
  sound_settled [] old new before after so are below order lt fresh = (subst (AreUnderWay network) (sym so.1) are, subst (AreBelow given) (sym so.1) below)
  sound_settled (b ∷ befell) old new before after (mid, between, one, put, rest) are below order lt fresh =
      let of = send_of range ups time b.number b.what in
      let step = put_sound b.number _ before between of put are below (lt b (inl refl)) (fresh b (inl refl)) in
      sound_settled befell mid new between after rest step.0 step.1 order.1 (λ c i. lt c (inr i))
      (λ c i. put_fresh b.number c.number _ before between of put (order.0 (befell_as c) (is_mapped befell_as befell c i)) (fresh c (inr i)))

  -- and nothing at the ports changes
  pub ports_settled : (befell : List Befallen) (old new : List Settled) (before after : List (Entry Content))
      → AreSettledBy network broken ups time befell old new before after → (y : AtPort) → IsIn y (filter_map at_port after) ↔ IsIn y (filter_map at_port before)
  ports_settled [] old new before after so y = (
    λ there. rw so.1 at there,
    λ there. rw so.1 there,
  )
  ports_settled (b ∷ befell) old new before after (mid, between, one, put, rest) y =
      let more = ports_settled befell mid new between after rest y in
      let here = ports_kept (entry_of network ups time b.number b.what) before between
      (if_send range ups time b.number _ (send_of range ups time b.number b.what)) put y in
      (λ there. here.0 (more.0 there), λ there. more.1 (here.1 there))

-- the same of lists that are the same
pub settled_with : (network : Network) (broken own : List Bool) (ups ways : List WayState) (time : ℕ) (befell : List Befallen) (old was new : List Settled)
    (before first after : List (Entry Content)) → broken ≡ own → ups ≡ ways → old ≡ was → before ≡ first
    → AreSettledBy network broken ups time befell old new before after → AreSettledBy network own ways time befell was new first after
settled_with network broken own ups ways time befell old was new before first after a b c d so = grind arith

-- ---- the frames that senders make, on the wire

-- of a virtual link of the network it is the frame of the law
pub made_octets : (network : Network) (vl : VlId) (cycle : ℕ) → vl.0 < length network.vl → octets_of network (Made vl cycle) ≡ tt_frame network vl cycle
made_octets network vl cycle lt = made_is network vl cycle lt

-- ---- its EtherType

-- a frame shows the EtherType of its virtual link
pub type_shown : (network : Network) (vl : VirtualLink) (cycle : ℕ) → vl.ethertype < 2 ^ 16 → field 12 2 (tt_frame_by network vl cycle) ≡ vl.ethertype
type_shown network vl cycle less = grind (arith, replicate, length, length-append, append_assoc, read_behind)

-- octets with another EtherType are no protocol control frame
pub plain_signal : (octets : List ℕ) → (field 12 2 octets == pcf_type) ≡ false → signal_of octets ≡ timed octets
plain_signal octets other = rw other

-- so is what a sender makes
pub made_type : (network : Network) (vl : VlId) (cycle : ℕ) (zeros : List ℕ) → IsInRange network → (field 12 2 zeros == pcf_type) ≡ false
    → (field 12 2 (option_map_or (λ v. tt_frame_by network v cycle) (slice_get network.vl vl.0) zeros) == pcf_type) ≡ false
made_type network vl cycle zeros range none = by (slice_get network.vl vl.0) refl
  where
    by : (o : Option VirtualLink) → slice_get network.vl vl.0 ≡ o → (field 12 2 (option_map_or (λ v. tt_frame_by network v cycle) o zeros) == pcf_type) ≡ false
    by None e = none
    by (Some v) e =
        let in_range = in_all (IsVlInRange network) network.vl vl.0 v range.vls e in
        ne_eqb (field 12 2 (tt_frame_by network v cycle)) pcf_type
        (λ same. in_range.ethertype_other (sym (type_shown network v cycle in_range.ethertype_most) ∙ same))

pub made_signal : {network : Network} (vl : VlId) (cycle : ℕ) → IsInRange network
    → signal_of (octets_of network (Made vl cycle)) ≡ timed (octets_of network (Made vl cycle))
made_signal {network} vl cycle range =
    plain_signal (octets_of network (Made vl cycle)) (made_type network vl cycle (replicate 60 0) range refl)

-- ---- its size

padded_size : (size : ℕ) (octets : List ℕ) → length octets ≤ size → length (padded size octets) ≡ size
padded_size size octets fits = grind (arith, length-append, replicate, length, length-replicate)

sized : (network : Network) (vl : VirtualLink) (cycle : ℕ) → 60 ≤ vl.length → length (tt_frame_by network vl cycle) ≡ vl.length
sized network vl cycle least =
    padded_size vl.length (head_of network vl cycle) (omega arith)

-- what a sender makes has 60 octets to 1,514
pub made_size : {network : Network} (vl : VlId) (cycle : ℕ) → IsInRange network
    → (60 ≤ length (octets_of network (Made vl cycle))) × (length (octets_of network (Made vl cycle)) ≤ 1514)
made_size {network} vl cycle range = by (slice_get network.vl vl.0) refl
  where
    frame : Option VirtualLink → List ℕ
    frame found = option_map_or (λ v. tt_frame_by network v cycle) found (replicate 60 0)

    by : (o : Option VirtualLink) → slice_get network.vl vl.0 ≡ o → (60 ≤ length (frame o)) × (length (frame o) ≤ 1514)
    by None e = (omega arith, omega arith)
    by (Some v) e =
        let in_range = in_all (IsVlInRange network) network.vl vl.0 v range.vls e in
        let size = sized network v cycle in_range.length_least in
        let least = in_range.length_least in
        let most = in_range.length_most in (omega arith, omega arith)

-- ---- its heading

pub made_heading : (network : Network) (vl : VlId) (cycle : ℕ) → vl.0 < length network.vl
    → heading_of (tt_frame network vl cycle) ≡ heading_of (octets_of network (Made vl cycle))
made_heading network vl cycle lt = ap heading_of (sym (made_octets network vl cycle lt))

-- ---- what a device hears, as its machine asks for it

-- the octets of a control frame
pub control_octets : {octets : List ℕ} {frame : Pcf} → Spells octets frame → decoded octets ≡ Ok frame
    → AreOctetsOf (control (Ok frame)) octets
control_octets spells back = grind (arith, eq-eqb)

-- so they may be heard
pub may_hear : {M : Type 0} (stands : Meaning M) (machine : M) {signal : Signal}
    (moment : Moment) (link : LinkId) {octets : List ℕ} → StandsFor stands machine (MayCome signal moment link)
    → AreOctetsOf signal octets → StandsFor stands machine
    (λ network device node. MayHear network device node moment link octets)
may_hear stands machine moment link may are = grind arith

-- so such octets may be heard, whatever they are
pub may_hear_some : {M : Type 0} (stands : Meaning M) (machine : M) {signal : Signal}
    (moment : Moment) (link : LinkId) {octets : List ℕ} (Are : List ℕ → Type 0)
    → StandsFor stands machine (MayCome signal moment link) → AreOctetsOf signal octets → Are octets
    → MayHearSome stands machine moment link Are
may_hear_some stands machine moment link {octets} Are may are is =
    let m = may_hear stands machine moment link may are in (m.0, m.1, m.2, m.3, (octets, is, m.4))

-- the octets of a frame that its sender made
pub made_are : {network : Network} (vl : VlId) (cycle : ℕ) {octets : List ℕ} → IsInRange network
    → octets ≡ octets_of network (Made vl cycle) → AreOctetsOf (timed (octets_of network (Made vl cycle))) octets
made_are {network} vl cycle {octets} range is =
    let size = made_size vl cycle range in
    record {
      is = ap signal_of is ∙ made_signal vl cycle range;
      least = rw is size.0;
      most = rw is size.1;
    }

-- octets that were sent as a frame of the schedule
pub sent_octets : {given octets : List ℕ} → signal_of given ≡ timed given → octets ≡ given → 60 ≤ length octets → length octets ≤ 1514
    → AreOctetsOf (timed given) octets
sent_octets plain is least most = record { is = ap signal_of is ∙ plain; least = least; most = most }

-- octets as a broken master sent them
pub given_octets : {given octets : List ℕ} → octets ≡ given → 60 ≤ length octets → length octets ≤ 1514 → AreOctetsOf (signal_of given) octets
given_octets is least most = record { is = ap signal_of is; least = least; most = most }

-- what a device hears does not break it
pub heard_sound : (node : Node) (moment : Moment) (arrival : Arrival)
    → (called moment arriving (after_arrival node moment arrival)).broken ≡ node.broken
heard_sound node moment (arrivals.Dropped reason) = refl
heard_sound node moment other = refl

-- ---- the slot of the least key is due first

-- the timer of a slot is that of its key
pub timer_at : (keys : List ℕ) (slot : ℕ) → slot < length keys → slice_get (map timer_of keys) slot ≡ Some (timer_of (get_or keys slot 0))
timer_at keys slot lt =
    let long = length-map keys timer_of in
    slice_get-get_or (map timer_of keys) slot (timer_of 0) (omega arith)
    ∙ (rw (get_or-map timer_of keys slot 0 (timer_of 0) lt))

least_at : (keys : List ℕ) (key slot : ℕ) → All (λ k. key ≤ k) keys → slot < length keys → key ≤ get_or keys slot 0
least_at keys key slot least lt = least slot 0 lt

pub least_time : (keys : List ℕ) (key : ℕ) → All (λ k. key ≤ k) keys → All (λ timer. key / 2 ^ 64 ≤ timer.time)
    (map timer_of keys)
least_time keys key least slot d lt =
    let few : slot < length keys = omega (arith, length-map keys timer_of) in
    let le = least_at keys key slot least few in
    let time = ap Timer.time (get_or-map timer_of keys slot 0 d few) in
    omega arith

-- no slot is before that of the least key
not_before : (key other : ℕ) {slot : ℕ} (below : ℕ) → key ≤ other → key % 2 ^ 56 ≡ slot → (key / 2 ^ 64 ≡ never → ⊥)
    → (other ≡ no_key) ⊎ (other % 2 ^ 56 ≡ below)
    → IsBefore (other / 2 ^ 64 ∷ other % 2 ^ 64 / 2 ^ 56 ∷ below ∷ []) (key / 2 ^ 64 ∷ key % 2 ^ 64 / 2 ^ 56 ∷ slot ∷ []) → ⊥
not_before key other below le here some either (inl lt) = omega arith
not_before key other below le here some either (inr (e, inl lt)) = omega arith
not_before key other below le here some (inl none) (inr (e, inr (f, inl lt))) = some (omega arith)
not_before key other below le here some (inr own) (inr (e, inr (f, inl lt))) = omega arith
not_before key other below le here some either (inr (e, inr (f, inr (g, b)))) = b

pub first_slot : (keys : List ℕ) (key : ℕ) → AreKeys keys → All (λ k. key ≤ k) keys → (key ≡ no_key) ⊎ Contains keys key → (key / 2 ^ 64 ≡ never → ⊥)
    → IsFirst (map timer_of keys) (record { time = key / 2 ^ 64; rank = key % 2 ^ 64 / 2 ^ 56; slot = key % 2 ^ 64 % 2 ^ 56 })
first_slot keys key are least (inl none) some = absurd (some (omega arith))
first_slot keys key are least (inr (slot, lt, at)) some =
    let is = get_or_default keys slot 0 key lt ∙ at in
    let low : key % 2 ^ 56 ≡ slot = elim (are slot lt) [
      | inl none ↦ absurd (some (omega arith))
      | inr own ↦ omega arith
    ] in
    let own : key % 2 ^ 64 % 2 ^ 56 ≡ slot = omega arith in
    let long = length-map keys timer_of in
    record {
      inside = omega arith;
      timer = rw own (timer_at keys slot lt ∙ ap (λ k. Some (timer_of k)) is);
      true_time = some;
      least = λ below t at_below b.
          let few : below < length keys = omega (arith, (slice_get_within (map timer_of keys) below t at_below)) in
          let of_key = same_Some _ _ (sym (timer_at keys below few) ∙ at_below) in
          not_before key (get_or keys below 0) below (least_at keys key below least few) low some (are below few)
          (rw (sym own) (rw (sym of_key) at b));
    }

-- a slot's key is set
pub are_set : (keys : List ℕ) (slot time rank : ℕ) → slot < length keys → slot < 2 ^ 56 → AreKeys keys
    → AreKeys (set keys slot (time * 2 ^ 64 + (rank * 2 ^ 56 + slot)))
are_set keys slot time rank lt small are other few = grind (arith, cases_eq, get_or, set, get_or-set_same, get_or-set_other, length-set)

-- the timers of slots that have no keys
pub timers_made : (slots : ℕ) → map timer_of (replicate slots no_key) ≡ replicate slots unset
timers_made slots =
    ext_get_or unset (map timer_of (replicate slots no_key)) (replicate slots unset)
    (length-map (replicate slots no_key) timer_of ∙ length-replicate slots no_key ∙ sym (length-replicate slots unset))
    (λ k lt.
    let few : k < slots = omega (arith, length-map (replicate slots no_key) timer_of, length-replicate slots no_key) in
    get_or-map timer_of (replicate slots no_key) k 0 unset (omega (arith, length-replicate slots no_key))
    ∙ ap timer_of (get_or-replicate slots k no_key 0 few) ∙ sym (get_or-replicate slots k unset unset few))

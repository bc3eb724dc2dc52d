-- The events of a storm given one after another, and that each seed has a storm and an answer.
use Rattle.std.proofs.{Math.{Nat.{div-lt_iff_lt-mul, mod-lt}, Pow.pow-lt}}
use Rattle.std.proofs.Common
use Common.{if◌then◌else◌, ◌%◌, ◌*◌, ◌++◌, ◌+◌, ◌-◌, ◌<◌, ◌==◌, ◌^◌, ◌||◌, ◌∙◌, ◌∷◌, ◌≡◌, ◌≤◌, Any, Bool, List, None}
use Common.{Ok, Option, Some, [], ap, append_assoc, arith, false, inl, inr, length, length-append, refl, replicate}
use Common.{subst, suc, sym, true, zero, ℕ}
use Rattle.std.proofs.lemmas.{Bool.{cases_Bool, cases_lt}, Int.ints}
use Rattle.std.proofs.lemmas.List.{Elements.{All-append, All-cons, All-nil, All-replicate}, Quantifiers.Any-push}
use Rattle.std.proofs.lemmas.List.{append-nil, get_or_past}
use Rattle.std.specs.{Int.{byte_at, bytes_high_first}, List.All}
use Rattle.std.specs.{Prelude.{IfSome, IsSomeAnd, MatchOption, is_some, slice_index}}
use Rattle.fault_hypothesis.proofs.storm_lemmas.OneStorm
use OneStorm.{IsLastBelow, end_is_behind, last_of_all, master_found, master_uplink, next_master, next_other, some_link}
use OneStorm.{some_master}
use Rattle.tte_traces.proofs.{Runs.all_records, Taken.holds_a_time, storms_lemmas.Summed.greatest_spread}
use Rattle.fault_hypothesis.proofs.storm_lemmas.Storms
use Storms.{broken_is_master, more_events, no_events, none_later, one_more, storms_within, time_in_run}
use Rattle.fault_hypothesis.specs.{Watching.Watches}
use Rattle.fault_hypothesis.specs.storm.{Progress.Progress}
use Rattle.fault_hypothesis.specs.storm.{Striking.{IsLastMaster, IsMaster, SendsForged, Strikes, forged}, Words.draw_at}
use Rattle.fault_hypothesis.specs.storm.Choosing
use Choosing.{channel_of, choice_of, device_of, hold_of, link_of, rate_of, way_of, wire_of}
use Rattle.fault_hypothesis.specs.storm.Events
use Events.{AreNoLater, AreStormEvents, IsChosen, IsDrawn, IsEventOf, IsStorm, IsStormEvent, substitute, time_of}
use Rattle.hex.specs.Hex.{IsBytes}
use Rattle.net_plan.specs.{Belonging.IsOfNetwork, Places.{is_master, link_at}, Ranges.{IsDeviceInRange, IsInRange}}
use Rattle.net_plan.specs.declared.{event.{Event.Event, What.What}, ids.DeviceId.DeviceId, network.Network.Network}
use Rattle.net_plan.specs.declared.{tables.Link.Link}
use Rattle.pcf_codec.{proofs.Spellings.{Fits, padding, spells}}
use Rattle.pcf_codec.{specs.{Encoded.encoded, EtherType.pcf_type, Spelling.code_of}}
use Rattle.run_law.{proofs.scenario.{Decided.hypothesis_is_decided, Decisions.{IsDecided, decided_any}}}
use Rattle.run_law.specs.{declared.note.Note.Note, records.Happenings.happenings}
use Rattle.run_law.specs.{scenario.{Faults.{Breaks, IsBroken}, Hypothesis.{AreWithinHypothesis, IsWithinHypothesis}}}
use Rattle.schedule_tables.specs.Rules.{KeepsRules}
use Rattle.trace_text.specs.Ranges.{IsEventInRange}
use Rattle.tte_forms.specs.declared.status.Status.TheVariants.{Done}
use Rattle.tte_traces.specs.{declared.storms.{counting.Seen.Seen, events.StormEvents.StormEvents}}
use Rattle.tte_traces.specs.storms.{Answer.exact_scenario, Counts.IsSeen, Laws.{FitsFrames, StormAnswersExist}}
use Rattle.tte_traces.specs.storms.{Storms.{GivesStorm, HasStormed, IsStormTo, left_of}}
use Rattle.tte_traces.specs.storms.{summary.{Counting.counts_of, Lines.summary_lines}}
use Rattle.tte_units.{proofs.general_lemmas.{Lists.{in_all, some_at}, Naturals.byte_at_small}}
use Rattle.tte_units.specs.{Amount.amount}
use Rattle.tte_units.specs.declared.{units.Units.Units}
use Rattle.tte_units.specs.declared.frames.pcf.{Pcf.Pcf}
use Rattle.tte_units.specs.declared.frames.pcf.{PcfKind.{PcfKind, TheVariants.{ColdStart, ColdStartAck, Integration}}}
use Rattle.world_drive.{proofs.exact_lemmas.Events.{last_or_none, parted}}
use Rattle.world_drive.specs.{Observing.Told, Sources.{GivesNext, MayGive, given_in}}
use Rattle.world_drive.specs.{exact.{Records.{AreAllRecords, HaveEnded}, Worlds.{ExactWorld, StandsExact}}}
use Rattle.net_plan.specs.declared.event.What.TheVariants as kinds

-- ---- the events of a storm given one after another: the beginning

pub storm_first : {network : Network} (seed cycles : ℕ) (it : StormEvents) → 1 ≤ cycles → cycles ≤ 100000
    → it.accepted.now ≡ network → Watches network it.watch []
    → it.storm ≡ record { seed = seed; cycles = cycles; given = 0 } → IsStormTo network seed cycles [] it
storm_first {network} seed cycles it least most over watches storm = record {
  over = over;
  least = least;
  most = most;
  watches = watches;
  each = no_events network seed cycles;
  seed_is = ap (λ (p : Progress). p.seed) storm;
  cycles_is = ap (λ (p : Progress). p.cycles) storm;
  given_is = ap (λ (p : Progress). p.given) storm;
}

-- as the source's own parts tell it
pub own_storm : {network : Network} {seed cycles : ℕ} {events : List Event} {it : StormEvents}
    → IsStormTo network seed cycles events it → IsStormTo network it.storm.seed it.storm.cycles events it
own_storm {network} {seed} {events} {it} is =
    subst (λ k. IsStormTo network k it.storm.cycles events it) (sym is.seed_is) (subst (λ k. IsStormTo network seed k events it) (sym is.cycles_is) is)

-- ---- the next event

-- the end has not come where only steps' events were given
pub none_ended : (network : Network) (seed cycles : ℕ) (events : List Event) → AreStormEvents network seed cycles events → length events ≤ 8 * cycles
    → HaveEnded events → ⊥
none_ended network seed cycles events each few (k, e, lt, at, is) =
    let p = parted events e (k, lt, at) in
    let last = end_is_behind seed cycles (length p.0) (each p.0 p.1 e p.2) is in
    let long = ap (λ l. length l) p.2 in
    let longer = length-append p.0 (e ∷ p.1) in
    omega (arith, last, few, long, longer)

-- the event was drawn
pub record IsDrawnFor (network : Network) (it : StormEvents) (event : Event) : Type 0 where
  pub is : (admitted : List Event) → Watches network it.watch admitted → IsStormEvent network it.storm.seed it.storm.cycles admitted it.storm.given event
  pub within : (admitted : List Event) → Watches network it.watch admitted → AreNoLater admitted (time_of network it.storm.given)
      → IsWithinHypothesis network admitted event
  pub of_network : IsOfNetwork network event.what
  pub range : IsEventInRange event
  pub early : it.storm.given ≤ 8 * it.storm.cycles

module _ (network : Network) (seed cycles : ℕ) (events : List Event) (it : StormEvents) (given : IsStormTo network seed cycles events it) (event : Event)
    (d : IsDrawnFor network it event) where
  own : IsStormTo network it.storm.seed it.storm.cycles events it
  own = own_storm given

  few : length events ≤ 8 * it.storm.cycles
  few = let early = d.early in let count = given.given_is in omega (arith, early, count)

  pub within_now : IsWithinHypothesis network events event
  within_now = d.within events given.watches (none_later network it.storm.seed it.storm.cycles events it.storm.given own.each (sym given.given_is))

  pub may_give : MayGive network events event
  may_give = record {
    unended = none_ended network it.storm.seed it.storm.cycles events own.each few;
    number = let less = few in let most = own.most in omega (arith, less, most);
    of_network = d.of_network;
    begun = d.range.time.least;
    limit = d.range.time.most;
    hold = holds_a_time event.what d.range.what;
    within = within_now;
  }

  -- it was given
  pub gives_one : (new : StormEvents) → new.accepted.now ≡ it.accepted.now → Watches network new.watch (events ++ event ∷ [])
      → new.storm ≡ record it.storm { given = it.storm.given + 1 } → IsStormTo network seed cycles (events ++ event ∷ []) new
  gives_one new over watches storm =
      let more = one_more network it.storm.seed it.storm.cycles events it.storm.given own.each (sym given.given_is) (d.is events given.watches) in
      record {
        over = over ∙ given.over;
        least = given.least;
        most = given.most;
        watches = watches;
        each =
            subst (λ k. AreStormEvents network k cycles (events ++ event ∷ [])) given.seed_is
            (subst (λ k. AreStormEvents network it.storm.seed k (events ++ event ∷ [])) given.cycles_is more.0);
        seed_is = ap (λ (p : Progress). p.seed) storm ∙ given.seed_is;
        cycles_is = ap (λ (p : Progress). p.cycles) storm ∙ given.cycles_is;
        given_is = ap (λ (p : Progress). p.given) storm ∙ sym more.1;
      }

  pub fewer_left : (new : StormEvents) → new.storm ≡ record it.storm { given = it.storm.given + 1 }
      → 8 * new.storm.cycles + 1 - new.storm.given < 8 * it.storm.cycles + 1 - it.storm.given
  fewer_left new storm =
      let early = d.early in
      let same = ap (λ (p : Progress). p.cycles) storm in
      let more = ap (λ (p : Progress). p.given) storm in
      omega (arith, early, same, more)

-- what answers whether there is an event gives it as a source of events
pub gives_as_source : {K : Type 0} (answer : Bool) (event : Event) (network : Network) (first from : Unit {0}) (origin old new : StormEvents)
    (events : List Event) (before after : K)
    → GivesStorm network origin.storm.seed origin.storm.cycles events (if answer then Some event else None) old new
    → GivesNext {B = Unit {0}} {S = Unit {0}} {K = K} {E = StormEvents} (λ n f o es b it. IsStormTo n o.storm.seed o.storm.cycles es it)
    (λ n f o es b it. IsStormTo n o.storm.seed o.storm.cycles es it × (length es ≡ 8 * o.storm.cycles + 1)) (λ n f o es stop b it x y. ⊥) left_of network
    first origin events (given_in (Ok answer) event) from old new before after
gives_as_source true event network first from origin old new events before after gives = gives
gives_as_source false event network first from origin old new events before after gives = (gives.0, (gives.1, gives.2))

-- ---- the end

-- the last of all events is the end
pub all_ended : (network : Network) (seed cycles : ℕ) (events : List Event) → AreStormEvents network seed cycles events → length events ≡ 8 * cycles + 1
    → HaveEnded events
all_ended network seed cycles events each whole = elim (last_or_none events) [
  | inl none ↦ let empty = ap (λ l. length l) none in absurd (omega (arith, whole, empty))
  | inr some ↦
      let front = some.0 in
      let last = some.1 in
      let long = ap (λ l. length l) some.2 in
      let longer = length-append front (last ∷ []) in
      let number : length front ≡ 8 * cycles = omega (arith, whole, long, longer) in
      let what : last.what ≡ kinds.End = elim (each front [] last some.2) [
        | inl step ↦ let less = step.0 in absurd (omega (arith, less, number))
        | inr end ↦ ap (λ (e : Event). e.what) end.1
      ] in
      subst HaveEnded (sym some.2) (Any-push (λ (e : Event). e.what ≡ kinds.End) front last what)
]

pub has_stormed : {network : Network} {seed cycles : ℕ} {events : List Event} {notes : List Note}
    {world : ExactWorld} {it : StormEvents} {old put : Told} {seen : Seen} → IsStormTo network seed cycles events it
    → length events ≡ 8 * cycles + 1 → StandsExact network world events notes → AreAllRecords network events notes
    → IsSeen network events notes None old put seen → HasStormed network seed cycles seen
has_stormed {events} {notes} given whole stands records is = record {
  events = events;
  storm = record { whole = whole; each = given.each };
  range = stands.times;
  of_network = stands.of_network;
  notes = notes;
  records = records;
  tallied = is.tallied;
  widest = is.spread_is.0;
}

-- ---- there is a storm of each seed, and an answer for it

-- what is known of the network and of the time of a step
record IsReady (network : Network) (time : Units) : Type 0 where
  range : IsInRange network
  rules : KeepsRules network
  fits : FitsFrames network
  early : amount time ≤ 2 ^ 20 * amount network.cycle

-- ---- octets

abbrev AreBytes : List ℕ → Type 0
AreBytes = All (λ b. b < 256)

number_bytes : (k n : ℕ) → AreBytes (bytes_high_first k n)
number_bytes zero n = All-nil (λ b. b < 256)
number_bytes (suc k) n = All-cons (λ b. b < 256) (byte_at k n) (bytes_high_first k n) (byte_at_small k n) (number_bytes k n)

kind_small : (kind : PcfKind) → code_of kind < 256
kind_small Integration = omega arith
kind_small ColdStart = omega arith
kind_small ColdStartAck = omega arith

-- octets, each of which is a byte
abbrev Bytes : Type 0
Bytes = (octets : List ℕ) × AreBytes octets

abbrev number : ℕ → ℕ → Bytes
number k n = (bytes_high_first k n, number_bytes k n)

abbrev zeros : ℕ → Bytes
zeros n = (replicate n 0, All-replicate (λ b. b < 256) n 0 (omega arith))

abbrev joined : Bytes → Bytes → Bytes
joined a b = (a.0 ++ b.0, All-append (λ b. b < 256) a.0 b.0 a.1 b.1)

abbrev fronted : (x : ℕ) → x < 256 → Bytes → Bytes
fronted x small rest = (x ∷ rest.0, All-cons (λ b. b < 256) x rest.0 small rest.1)

encoded_bytes : (p : Pcf) → p.priority < 256 → p.domain < 256 → AreBytes (encoded p)
unfolding encoded
encoded_bytes p priority domain =
    let kind = fronted (code_of p.kind) (kind_small p.kind) (joined (zeros 5) (joined (number 8 p.clock) (zeros 18))) in
    let rest = joined (zeros 4) (fronted p.priority priority (fronted p.domain domain kind)) in
    let all = joined (number 6 p.destination) (joined (number 6 p.source) (joined (number 2 pcf_type)
    (joined (number 4 p.cycle) (joined (number 4 p.members.0) rest)))) in
    all.1

each_byte : (xs : List ℕ) → AreBytes xs → IsBytes xs
each_byte xs all i =
    elim (cases_lt i (length xs)) [
      | inl lt ↦ all i 0 lt
      | inr past ↦ (let none : slice_index xs i ≡ 0 = get_or_past xs i 0 past in omega (arith, none))
    ]

-- ---- a strike

-- some device is broken
abbrev SomeBroken : List Event → Type 0
SomeBroken before = Any (λ e. (device : DeviceId) × Breaks device e) before

breaks_some : (what : What) → IsDecided ((device : DeviceId) × (what ≡ kinds.Break device))
breaks_some (kinds.Break device) = inl (device, refl)
breaks_some other = inr (λ h. let is = h.1 in cc)

some_broken : (before : List Event) → IsDecided (SomeBroken before)
some_broken before = decided_any (λ e. (device : DeviceId) × Breaks device e) (λ e. breaks_some e.what) before

-- the last master below a place, if there is one
last_below : (network : Network) (place : ℕ) → place ≤ length network.device → (last : Option DeviceId) × IsLastBelow network last place
last_below network zero within = (None, λ device lt. absurd (omega (arith, lt)))
last_below network (suc n) within =
    let found = some_at network.device n (omega (arith, within)) in
    let next : n + 1 ≡ suc n = omega arith in
    elim (cases_Bool (is_master found.0.role)) [
      | inl is ↦
          (let last : Option DeviceId = Some (record { 0 = n }) in
          (last, subst (IsLastBelow network last) next (next_master network n found.0 found.1 is)))
      | inr other ↦
          (let last = last_below network n (omega (arith, within)) in
          (last.0, subst (IsLastBelow network last.0) next (next_other network n found.0 last.0 found.1 (λ is. cc) last.1)))
    ]

-- the last master, for there is one
last_master : (network : Network) → KeepsRules network → (master : DeviceId) × IsLastMaster network master
last_master network rules =
    let last = last_below network (length network.device) (omega arith) in
    by last.0 (last_of_all network last.0 last.1)
  where
    by : (last : Option DeviceId) → MatchOption last ((device : DeviceId) → IsMaster network device → ⊥) (IsLastMaster network)
        → (master : DeviceId) × IsLastMaster network master
    by None none = let one = some_master network rules in absurd (none one.0 one.1)
    by (Some master) is = (master, is)

-- the master's member number
numbered : (member : Option ℕ) → is_some member ≡ true → IfSome member (λ m. m ≤ 31) → (m : ℕ) × (member ≡ Some m) × (m ≤ 31)
numbered None some small = absurd cc
numbered (Some m) some small = (m, refl, small)

-- a master sends its forged frame
sends_forged : {network : Network} (device : DeviceId) {time : Units} (seed n : ℕ) → IsReady network time
    → IsMaster network device → (what : What) × SendsForged network device time (draw_at seed n) what
sends_forged {network} device {time} seed n ready is =
    let found = master_found network device is in
    let here = in_all IsDeviceInRange network.device device.0 found.0 ready.range.devices found.1 in
    let member = numbered found.0.member (here.masters ∙ found.2) here.member in
    let up = master_uplink network device (channel_of (draw_at seed n)) ready.rules is in
    let frame = forged network found.0 member.0 time (draw_at seed n) in
    let small = member.2 in
    let begun = ready.range.cycle.least in
    let dmax = ready.range.dmax.most in
    let least = ready.range.dmax.least in
    let early = ready.early in
    let some : 0 < amount network.cycle = omega (arith, ints, begun) in
    let clock = mod-lt (draw_at seed n).size {m = amount network.dmax + 1} (omega arith) in
    let fits : Fits frame = record {
      destination = ready.fits.destination;
      source = in_all (λ d. d.mac < 2 ^ 48) network.device device.0 found.0 ready.fits.sources found.1;
      cycle = (div-lt_iff_lt-mul {k = amount network.cycle} {x = amount time} {y = 2 ^ 32} some).1 (omega (arith, some, early));
      members = pow-lt {i = member.0} {j = 32} (omega (arith, small));
      clock = omega (arith, ints, clock, dmax, least);
    } in (
      kinds.Send up.0 (encoded frame),
      record {
        master = found.0;
        member = member.0;
        link = up.0;
        octets = encoded frame;
        at = found.1;
        numbered = member.1;
        uplink = up.1;
        spells = spells frame fits;
        padding = padding frame;
        bytes = each_byte (encoded frame) (encoded_bytes frame ready.fits.priority ready.fits.domain);
        sends = refl;
      },
    )

-- a strike: the broken master sends, or the last one breaks
strike : {network : Network} (before : List Event) {time : Units} (seed n : ℕ) → IsReady network time
    → AreWithinHypothesis network before → (what : What) × Strikes network before time (draw_at seed n) what
strike {network} before seed n ready within =
    elim (some_broken before) [
      | inl some ↦
          (let device = some.4.0 in
          let broken : IsBroken before device = (some.0, some.1, some.2, some.3, some.4.1) in
          let sends = sends_forged device seed n ready (broken_is_master network before within device broken) in
          (sends.0, inr (device, broken, sends.1)))
      | inr none ↦
          (let last = last_master network ready.rules in (
            kinds.Break last.0,
            inl (record {
              master = last.0;
              none = λ device broken. none (broken.0, broken.1, broken.2, broken.3, (device, broken.4));
              last = last.1;
              breaks = refl;
            }),
          ))
    ]

-- ---- a step

-- the link that is drawn is one of the network
link_there : (network : Network) (seed n : ℕ) → KeepsRules network → (link : Link) × (link_at network (link_of network (draw_at seed n)) ≡ Some link)
link_there network seed n rules = some_at network.link ((draw_at seed n).place % length network.link) (mod-lt (draw_at seed n).place (some_link network rules))

chosen_link : (o : Option Link) (link : Link) (f : Link → What) → o ≡ Some link → IsSomeAnd o (λ l. f link ≡ f l)
chosen_link o link f at = subst (λ (x : Option Link). IsSomeAnd x (λ l. f link ≡ f l)) (sym at) refl

-- what holds of both holds of whichever is chosen
either_way : {X : Type 0} (P : X → Type 0) (b : Bool) (x y : X) → P x → P y → P (if b then x else y)
either_way P true x y p q = p
either_way P false x y p q = q

module _ {network : Network} (before : List Event) {time : Units} (seed n : ℕ) (ready : IsReady network time)
    (within : AreWithinHypothesis network before) where
  -- by the number of what is drawn, since no other crate names the kinds
  drawn : (what : What) × IsDrawn network before time (draw_at seed n) what
  drawn =
      let draw = draw_at seed n in
      let rest = draw.kind % 8 in
      let link = link_there network seed n ready.rules in
      let wire : Link → What = λ l. kinds.Wire (link_of network draw) (way_of draw) (wire_of l draw) in
      let hold : Link → What = λ l. kinds.Hold (link_of network draw) (way_of draw) (hold_of l draw) in
      let six = if rest == 6 then choice_of 6 else choice_of 7 in
      let five = if rest == 5 then choice_of 5 else six in
      let four = if rest == 4 then choice_of 4 else five in
      let three = if rest == 3 then choice_of 3 else four in
      let two = if rest == 2 then choice_of 2 else three in
      either_way (λ choice. (what : What) × IsChosen network before time draw choice what) (rest == 0 || rest == 1)
      (choice_of 0) two
      (kinds.Rate (device_of network draw) (rate_of network draw), refl)
      (either_way (λ choice. (what : What) × IsChosen network before time draw choice what) (rest == 2) (choice_of 2)
      three
      (wire link.0, chosen_link (link_at network (link_of network draw)) link.0 wire link.1)
      (either_way (λ choice. (what : What) × IsChosen network before time draw choice what) (rest == 3) (choice_of 3)
      four
      (hold link.0, chosen_link (link_at network (link_of network draw)) link.0 hold link.1)
      (either_way (λ choice. (what : What) × IsChosen network before time draw choice what) (rest == 4) (choice_of 4)
      five
      (kinds.Cut (link_of network draw) (way_of draw), refl)
      (either_way (λ choice. (what : What) × IsChosen network before time draw choice what) (rest == 5) (choice_of 5)
      six
      (kinds.Heal (link_of network draw) (way_of draw), refl)
      (either_way (λ choice. (what : What) × IsChosen network before time draw choice what) (rest == 6) (choice_of 6)
      (choice_of 7)
      (kinds.On (device_of network draw), refl)
      (strike before seed n ready within))))))

  -- the event of a step: what is drawn, or what stands for it
  step : (event : Event) × IsEventOf network before time (draw_at seed n) event
  step =
      let what = drawn in
      elim ((hypothesis_is_decided network before (record { time = time; what = what.0 })).some) [
        | inl keeps ↦ (
          record { time = time; what = what.0 },
          record { drawn = what.0; is_drawn = what.1; becomes = inl (keeps, refl) },
        )
        | inr outside ↦ (
          record { time = time; what = substitute },
          record { drawn = what.0; is_drawn = what.1; becomes = inr (λ keeps. keeps outside.0 outside.1.violates, refl) },
        )
      ]

-- ---- the storm

-- what a storm is of
pub record IsStormy (network : Network) (cycles : ℕ) : Type 0 where
  pub few : cycles ≤ 100000
  pub range : IsInRange network
  pub rules : KeepsRules network
  pub fits : FitsFrames network

ready_at : {network : Network} {cycles : ℕ} (n : ℕ) → IsStormy network cycles → n ≤ 8 * cycles
    → IsReady network (time_of network n)
ready_at {network} n stormy within =
    let few = stormy.few in
    let early = time_in_run network n (omega (arith, few, within)) in
    record { range = stormy.range; rules = stormy.rules; fits = stormy.fits; early = omega (arith, ints, early) }

-- so many more events of the storm behind the first ones
more_steps : {network : Network} (seed : ℕ) {cycles : ℕ} (n : ℕ) (front : List Event) → IsStormy network cycles
    → AreStormEvents network seed cycles front → length front + n ≤ 8 * cycles
    → (behind : List Event) × (length behind ≡ n) × AreStormEvents network seed cycles (front ++ behind)
more_steps {network} seed {cycles} zero front stormy each within =
    ([], refl, subst (AreStormEvents network seed cycles) (sym (append-nil front)) each)
more_steps {network} seed {cycles} (suc n) front stormy each within =
    let keeps = storms_within network seed cycles front stormy.few each in
    let ready = ready_at (length front) stormy (omega (arith, within)) in
    let next = step front seed (length front) ready keeps in
    let one : AreStormEvents network seed cycles (front ++ next.0 ∷ []) =
    more_events network seed cycles front {event = next.0} each (inl (omega (arith, within), next.1)) in
    let size = length-append front (next.0 ∷ []) in
    let rest = more_steps seed n (front ++ next.0 ∷ []) stormy one (omega (arith, within, size)) in
    let count = rest.1 in (
      next.0 ∷ rest.0,
      omega (arith, count),
      subst (AreStormEvents network seed cycles) (append_assoc front (next.0 ∷ []) rest.0) rest.2,
    )

module _ {network : Network} (seed : ℕ) {cycles : ℕ} (front : List Event) (stormy : IsStormy network cycles)
    (each : AreStormEvents network seed cycles front) where
  -- behind the first events of a storm, all others, and the end with them
  pub rest_of_storm : length front ≤ 8 * cycles → (behind : List Event)
      × IsStorm network seed cycles (front ++ behind) × HaveEnded (front ++ behind)
  rest_of_storm within =
      let steps = more_steps seed (8 * cycles - length front) front stormy each (omega (arith, within)) in
      let all = front ++ steps.0 in
      let count = steps.1 in
      let long = length-append front steps.0 in
      let size : length all ≡ 8 * cycles = omega (arith, within, count, long) in
      let end : Event = record { time = time_of network (length all); what = kinds.End } in
      let moved = append_assoc front steps.0 (end ∷ []) in
      let is : IsStorm network seed cycles (all ++ end ∷ []) = record {
        whole = omega (arith, size, length-append all (end ∷ []));
        each = more_events network seed cycles all {event = end} steps.2 (inr (size, refl));
      } in (
        steps.0 ++ end ∷ [],
        subst (IsStorm network seed cycles) moved is,
        subst HaveEnded moved (Any-push (λ (e : Event). e.what ≡ kinds.End) all end refl),
      )

  -- behind the first events that were given, whatever is left
  pub storm_behind : length front ≤ 8 * cycles + 1 → (behind : List Event)
      × IsStorm network seed cycles (front ++ behind)
  storm_behind within = elim (cases_lt (length front) (8 * cycles + 1)) [
    | inl less ↦ let rest = rest_of_storm (omega (arith, less)) in (rest.0, rest.1)
    | inr all ↦ (
      [],
      subst (IsStorm network seed cycles) (sym (append-nil front))
          (record { whole = omega (arith, within, all); each = each }),
    )
  ]

pub storm_answers_exist : StormAnswersExist
storm_answers_exist seed cycles network few range rules fits =
    let stormy : IsStormy network cycles = record { few = few; range = range; rules = rules; fits = fits } in
    let events = rest_of_storm seed [] stormy (no_events network seed cycles) (omega arith) in
    let run = all_records events.0 range events.2 in
    let widest = greatest_spread (exact_scenario network events.0) (happenings network run.0) in (
      record { status = Done; lines = summary_lines seed cycles (counts_of run.0) widest.0 network.precision },
      record {
        events = events.0;
        storm = events.1;
        notes = run.0;
        records = run.1;
        spread = widest.0;
        widest = widest.1;
        answer = refl;
      },
    )

-- The packets of frames, put one after another as times come and events befall the world.
use Rattle.std.proofs.{Common.{drop, get_or, pos}, Math.Seq.take-suc}
use Rattle.std.proofs.{lemmas.{Int.ints, List.{map-append, take-append-drop}}}
use Rattle.std.specs.{Io.KnownBytes.Appends, List.concat}
use Rattle.std.specs.{Prelude.{IfErr, IfSome, MatchResult, OnOk, slice_get, unsigned_abs}}
use Rattle.device_rules.specs.frames.traced.RecordOctets.{shown}
use Rattle.drift_world.specs.{Running.event_note, Wires.{IsOfNow, put_by}}
use Rattle.pcf_codec.specs.Encoded.{encoded}
use Rattle.run_law.proofs.records.Order.{index_of}
use Rattle.run_law.specs.{control.Wires.{Launch, Signal, control, launched, timed}, records.Happenings.numbered}
use Rattle.run_law.specs.{scenario.Ways.{is_way, way_from}}
use Rattle.tte_forms.proofs.Puts.{PutFails-more, PutsLines-fails, PutsLines-more}
use Rattle.tte_io.specs.{Faults.{Rose, next_count}, Told.AppendsFront}
use Rattle.tte_observers.{specs.captures.wires.Seeing.{IsTimely, TakesWhat, octets_sent}}
use Rattle.tte_observers.proofs.captures_lemmas.wires_lemmas.{Given.carried_is}
use Rattle.tte_observers.proofs.captures_lemmas.wires_lemmas.Seen
use Seen.{IsReady, flush_failed, flushed, later_ready, later_stops, ready_out, ready_seen, same_ready, sent_new}
use Rattle.tte_observers.proofs.captures_lemmas.wires_lemmas.Words
use Words.{if◌then◌else◌, ◌++◌, ◌+◌, ◌<◌, ◌==◌, ◌^◌, ◌∙◌, ◌∷◌, ◌≡◌, ◌≤◌, AllBefore, Bool, Capture, Cut, Err, Event}
use Words.{ExactWorld, Ghosts, Happening, HasLink, IsIn, IsSpelt, LinkId, List, Network, None, Note, NoteBody, Ok}
use Words.{Option, PassesTo, Pcf, PutFails, PutFails-behind, PutsAll, PutsLines, PutsLines-append, PutsLines-none}
use Words.{Result, Scenario, SeesRecords, SeesWay, Some, Start, StopsRecords, StopsWay, Told, Units, Way, [], amount}
use Words.{and_parts, ap, arith, both_ways, cons_option, eqb-true, false, happenings, inl, inr, is_sent_on, is_way_of}
use Words.{last_happening, length, map, one_more, option_map, packet_at, packets_of, place_of, rank, record_octets}
use Words.{refl, sends_of, sent_packets, shown_as, subst, suc, sym, take, time_of, told_by, true, ℕ}
use Rattle.tte_traces.proofs.Ends.{writes_fails}
use Rattle.tte_units.specs.Amount.{units_of}
use Rattle.world_drive.specs.{Observing.{Befell, PutsFurther}}
use Rattle.world_drive.specs.{declared.observing.Cut.TheVariants.{OutOfMemory, WriteFault}, exact.Worlds.StandsExact}
use Rattle.run_law.specs.declared.note.NoteBody.TheVariants as notes

-- ---- an event that befell the world is seen

module _ (network : Network) (world : ExactWorld) (events : List Event) (notes : List Note) (event : Event) (start : Start Capture) (told : Told)
    (it : Capture) (befell : Befell network world events notes event (event_note (length notes + 1) (length events + 1) event))
    (seen : SeesWay network events notes start told it) where
  abbrev note : Note
  note = event_note (length notes + 1) (length events + 1) event

  abbrev under : List Event
  under = events ++ event ∷ []

  -- what is ready for the event is that of its record
  abbrev pub Ready : Told → Capture → Type 0
  Ready last mid = IsReady network events (happenings network notes) start told it seen event (length notes + 1) (length events + 1) last mid

  order : AllBefore place_of (happenings network notes) (amount event.time ∷ 1 ∷ (length events + 1) ∷ [])
  order = (befell.stands.is.run.founded (happenings network notes) [] (last_happening network notes note) (one_more network notes note)).0

  now_is : amount event.time ≡ world.now
  now_is = sym (ap unsigned_abs befell.reached.now)

  past : (e : Event) → IsIn e under → amount e.time ≤ amount event.time
  past e i =
      let at = index_of e under i in
      let le = befell.stands.is.befallen.past at.0 e at.1 in
      let now = now_is in
      omega (arith, le, now)

  limit : amount event.time ≤ 2 ^ 60
  limit = let low = befell.stands.is.limit in let now = now_is in omega (arith, low, now)

  takes : (last : Told) (mid new : Capture) (r : Result (Unit {0}) Cut) → Ready last mid → OnOk r (TakesWhat event.what mid new)
      → IfErr r (λ cut. cut ≡ OutOfMemory)
      → MatchResult r (λ _. SeesWay network under (notes ++ note ∷ []) start last new) (λ cut. StopsWay network under (notes ++ note ∷ []) cut start last)
  takes last mid new (Ok x) ready took err =
      subst (λ l. SeesRecords network under l start last new) (sym (one_more network notes note))
      (ready_seen network events (happenings network notes) start told it seen event (length notes + 1) (length events + 1) last mid new ready past limit took)
  takes last mid new (Err cut) ready took err =
      subst (λ c. StopsWay network under (notes ++ note ∷ []) c start last) (sym err)
      (subst (λ l. StopsRecords network under l OutOfMemory start last) (sym (one_more network notes note))
      (ready_out network events (happenings network notes) start told it seen event (length notes + 1) (length events + 1) last mid ready))

  sent : sends_of it.link it.way (last_happening network notes note ∷ [])
      ≡ octets_sent it.link it.way event.what
  sent = sent_new network (happenings network notes) (length notes + 1) (length events + 1) event.time event.what it.link it.way

  module _ {K : Type 0} (sink : Ghosts K) (before after : K) (old_told : told_by sink before ≡ told) where
    -- it is ready once the time has come
    ready : (mid : Capture) → PassesTo sink (amount event.time) it (Ok tt) mid before after → Ready (told_by sink after) mid
    ready mid (inl here) =
        let same : told_by sink after ≡ told = ap (told_by sink) here.3 ∙ old_told in
        subst (λ (t : Told). Ready t mid) (sym same)
        (subst (Ready told) (sym here.2)
        (same_ready network events (happenings network notes) start told it seen event (length notes + 1) (length events + 1) order (sym here.0) sent))
    ready mid (inr later) =
        let is = later.2.0 in
        let puts =
        subst (λ t. PutsLines (sent_packets it.cut it.time it.sends.items) (shown_as t) (shown_as (told_by sink after))) old_told later.1.all.0 in
        later_ready network events (happenings network notes) start told it seen event (length notes + 1) (length events + 1) order (λ e. later.0 (sym e)) mid
        (told_by sink after) (ap (λ (c : Capture). c.link) is) (ap (λ (c : Capture). c.way) is) (ap (λ (c : Capture). c.cut) is)
        (ap (λ (c : Capture). c.time) is) later.2.1
        (flushed network events (happenings network notes) start told it seen (shown_as (told_by sink after)) puts) sent

    pub event_goes : (mid new : Capture) (r : Result (Unit {0}) Cut) → PassesTo sink (amount event.time) it (Ok tt) mid before after
        → OnOk r (TakesWhat event.what mid new) → IfErr r (λ cut. cut ≡ OutOfMemory)
        → MatchResult r (λ _. SeesWay network under (notes ++ note ∷ []) start (told_by sink after) new)
        (λ cut. StopsWay network under (notes ++ note ∷ []) cut start (told_by sink after))
    event_goes mid new r passes took err = takes (told_by sink after) mid new r (ready mid passes) took err

    -- the put of what waited failed
    pub event_fails : (mid : Capture) (cut : Cut) → PassesTo sink (amount event.time) it (Err cut) mid before after
        → StopsWay network under (notes ++ note ∷ []) cut start (told_by sink after)
    event_fails mid cut (inl here) = absurd (let e = here.1 in cc)
    event_fails mid cut (inr later) =
        let failed = later.1.failed in
        let fails = subst (λ t. PutFails (sent_packets it.cut it.time it.sends.items) (shown_as t)
        (shown_as (told_by sink after))) old_told failed.1 in
        subst (λ c. StopsWay network under (notes ++ note ∷ []) c start (told_by sink after)) (sym failed.0)
        (subst (λ l. StopsRecords network under l WriteFault start (told_by sink after)) (sym (one_more network notes note))
        (later_stops network events (happenings network notes) start told it seen event (length notes + 1) (length events + 1) order (λ e. later.0 (sym e))
        (told_by sink after) (flush_failed network events (happenings network notes) start told it seen (shown_as (told_by sink after)) fails)))

-- ---- packets put one after another

module _ {K : Type 0} (sink : Ghosts K) where
  -- nothing is put
  pub puts_none : {T : Type 0} (x : T) (now : K) → PutsAll {T = T} sink [] (Ok x) now now
  puts_none x now = record { all = (PutsLines-none (shown_as (told_by sink now)), refl); failed = tt {0} }

  -- one line is put
  pub puts_one : {T : Type 0} (line : List ℕ) (x : T) (old new : K) → Appends (sink.written old) (sink.written new) line
      → sink.puts new ≡ next_count (sink.puts old) → sink.faults new ≡ sink.faults old → PutsLines (line ∷ []) (shown_as (told_by sink old))
      (shown_as (told_by sink new))
  puts_one line x old new written counted quiet =
      let a = shown_as (told_by sink old) in
      PutsLines-more line (shown_as (told_by sink new)) (PutsLines-none a) written counted

  pub one_put : {T : Type 0} (line : List ℕ) (x : T) (old new : K) → Appends (sink.written old) (sink.written new) line
      → sink.puts new ≡ next_count (sink.puts old) → sink.faults new ≡ sink.faults old → PutsAll {T = T} sink (line ∷ []) (Ok x) old new
  one_put line x old new written counted quiet = record { all = (puts_one line x old new written counted quiet, quiet); failed = tt {0} }

  -- its put fails
  pub one_failed : {T : Type 0} (line : List ℕ) (old new : K) → AppendsFront (sink.written old) (sink.written new) line
      → sink.puts new ≡ next_count (sink.puts old) → Rose (sink.faults old) (sink.faults new) → PutsAll {T = T} sink (line ∷ []) (Err WriteFault) old new
  one_failed line old new front counted rose =
      let a = shown_as (told_by sink old) in
      record {
        all = tt {0};
        failed = (
          refl,
          PutsLines-fails line [] (shown_as (told_by sink new)) (PutsLines-none a) front counted,
          rose,
        );
      }

  -- lines, and then others
  pub then_all : {T U : Type 0} (lines more : List (List ℕ)) (x : T) (r : Result U Cut) (old now new : K) → PutsAll {T = T} sink lines (Ok x) old now
      → PutsAll sink more r now new → PutsAll sink (lines ++ more) r old new
  then_all lines more x (Ok y) old now new p q = record {
    all = (
      PutsLines-append p.all.0 q.all.0,
      q.all.1 ∙ p.all.1,
    );
    failed = tt {0};
  }
  then_all lines more x (Err e) old now new p q = record {
    all = tt {0};
    failed = (
      q.failed.0,
      PutFails-behind more (shown_as (told_by sink new)) p.all.0 q.failed.1,
      subst (λ n. Rose n (sink.faults new)) p.all.1 q.failed.2,
    );
  }

  -- a put that fails leaves the others out
  pub failed_more : {T U : Type 0} (lines more : List (List ℕ)) (e : Cut) (old new : K) → PutsAll {T = T} sink lines (Err e) old new
      → PutsAll {T = U} sink (lines ++ more) (Err e) old new
  failed_more lines more e old new p = record {
    all = tt {0};
    failed = (p.failed.0, PutFails-more more p.failed.1, p.failed.2);
  }

  -- what was put is more than before
  pub all_further : {T U : Type 0} (lines : List (List ℕ)) (x : T) (y : U) (old new : K) → PutsAll {T = T} sink lines (Ok x) old new
      → PutsFurther {T = U} sink (Ok y) old new
  all_further lines x y old new p = record { grew = (concat lines, p.all.0.written); quiet = p.all.1; cause = tt {0} }

  pub failed_further : {T U : Type 0} (lines : List (List ℕ)) (e : Cut) (old new : K) → PutsAll {T = T} sink lines (Err e) old new
      → PutsFurther {T = U} sink (Err e) old new
  failed_further lines OutOfMemory old new p = absurd (let is = p.failed.0 in cc)
  failed_further lines WriteFault old new p = record {
    grew = writes_fails p.failed.1;
    quiet = tt {0};
    cause = p.failed.2;
  }

  -- memory runs out behind them
  pub memory_further : {T U : Type 0} (lines : List (List ℕ)) (x : T) (old new : K) → PutsAll {T = T} sink lines (Ok x) old new
      → PutsFurther {T = U} sink (Err OutOfMemory) old new
  memory_further lines x old new p = record { grew = (concat lines, p.all.0.written); quiet = tt {0}; cause = p.all.1 }

-- ---- frames of a list

module _ (t : ℕ) (frames : List (List ℕ)) (i : ℕ) (frame : List ℕ) (lt : i < length frames) (is : (d : List ℕ) → get_or frames i d ≡ frame) where
  -- those up to the next
  pub frames_more : map (packet_at t) (take i frames) ++ packet_at t frame ∷ [] ≡ map (packet_at t) (take (i + 1) frames)
  frames_more =
      let next : suc i ≡ i + 1 = omega arith in
      sym (map-append (packet_at t) (take i frames) (frame ∷ []))
      ∙ ap (map (packet_at t)) (ap (λ (x : List ℕ). take i frames ++ x ∷ []) (sym (is [])) ∙ sym (take-suc frames i [] lt) ∙ ap (λ (k : ℕ). take k frames) next)

  -- and the others behind it
  pub frames_all : (map (packet_at t) (take i frames) ++ packet_at t frame ∷ []) ++ map (packet_at t) (drop (i + 1) frames) ≡ map (packet_at t) frames
  frames_all =
      ap (λ (l : List (List ℕ)). l ++ map (packet_at t) (drop (i + 1) frames)) frames_more
      ∙ sym (map-append (packet_at t) (take (i + 1) frames) (drop (i + 1) frames)) ∙ ap (map (packet_at t)) (take-append-drop (i + 1) frames)

-- ---- what is put as the time of an event comes

module _ {K : Type 0} (sink : Ghosts K) (time : ℕ) (old : Capture) where
  -- the put of what waited failed
  pub passes_failed : (cut : Cut) (new : Capture) (before after : K) → PassesTo sink time old (Err cut) new before after
      → PutsFurther {T = Unit {0}} sink (Err cut) before after
  passes_failed cut new before after (inl here) = absurd (let e = here.1 in cc)
  passes_failed cut new before after (inr later) = failed_further sink (sent_packets old.cut old.time old.sends.items) cut before after later.1

  -- lines were put, if any
  lines_put : (new : Capture) (before after : K) → PassesTo sink time old (Ok (tt {0})) new before after
      → (lines : List (List ℕ)) × PutsAll {T = Unit {0}} sink lines (Ok (tt {0})) before after
  lines_put new before after (inl here) =
      ([], subst (λ k. PutsAll {T = Unit {0}} sink [] (Ok (tt {0})) before k) (sym here.3) (puts_none sink (tt {0}) before))
  lines_put new before after (inr later) = (sent_packets old.cut old.time old.sends.items, later.1)

  -- and then the event is taken, or memory runs out
  pub passes_then : (new : Capture) (before after : K) (r : Result (Unit {0}) Cut) → IfErr r (λ cut. cut ≡ OutOfMemory)
      → PassesTo sink time old (Ok (tt {0})) new before after → PutsFurther sink r before after
  passes_then new before after (Ok x) err passes =
      let p = lines_put new before after passes in all_further sink p.0 (tt {0}) x before after p.1
  passes_then new before after (Err cut) err passes =
      let p = lines_put new before after passes in
      subst (λ (e : Cut). PutsFurther {T = Unit {0}} sink (Err e) before after) (sym err) (memory_further sink p.0 (tt {0}) before after p.1)

-- ---- the packet of a frame that a record put on a wire, from what a world shows of it: the record stands last

last_at : {X : Type 0} (xs : List X) (x : X) → slice_get (xs ++ x ∷ []) (length xs) ≡ Some x
last_at [] x = refl
last_at (y ∷ xs) x = last_at xs x

next_number : (n k : ℕ) → n ≡ k + 1 → n ≡ suc k
next_number n k e = omega (arith, e)

-- what is sent is the record of no event
pub sent_rank : (network : Network) (link : LinkId) (way : Way) (body : NoteBody) → is_sent_on network link way body ≡ true → 2 < rank body
sent_rank network link way (notes.Left device k cause clock) sent = omega arith
sent_rank network link way (notes.TtSent device k cause vl cycle) sent = omega arith
sent_rank network link way body sent = absurd (both_ways false refl sent)

-- the record that the world gave last is of its present time
pub of_now : {network : Network} {world : ExactWorld} {events : List Event} (notes : List Note) (note : Note)
    → StandsExact network world events (notes ++ note ∷ []) → note.time ≡ units_of world.now → 2 < rank note.body
    → IsOfNow (happenings network (notes ++ note ∷ [])) world.now note.number (last_happening network notes note)
of_now {network} notes note stands at behind =
    let hs = happenings network notes in
    let z = last_happening network notes note in
    let due = (stands.is.run.founded hs [] z (one_more network notes note)).1 in
    record {
      there =
          ap (λ n. numbered (happenings network (notes ++ note ∷ [])) n) (next_number note.number (length hs) due.number)
          ∙ ap (λ (l : List Happening). slice_get l (length hs)) (one_more network notes note) ∙ last_at hs z;
      at = ap amount at;
      behind = behind;
    }

-- ---- its link is that of the way

same_link : (link k : LinkId) (way turned : Way) → is_way_of link way k turned ≡ true → link.0 ≡ k.0
same_link link k way turned is = eqb-true link.0 k.0 (and_parts (link.0 == k.0) (is_way way turned) is).0

within : (n : ℕ) (link k : LinkId) (way turned : Way) → link.0 < n → is_way_of link way k turned ≡ true → k.0 < n
within n link k way turned lt is = let same = same_link link k way turned is in omega (arith, lt, same)

module _ (s : Scenario) (link : LinkId) where
  launch_within : (k : LinkId) (way turned : Way) (frame : Option Pcf) → HasLink s.network link
      → is_way_of link way k turned ≡ true → IfSome
      (option_map (λ (f : Pcf). let l : Launch = record { link = k; way = turned; signal = control (Ok f) } in l)
      frame) (λ l. l.link.0 < length s.network.link)
  launch_within k way turned None there is = tt
  launch_within k way turned (Some f) there is = within (length s.network.link) link k way turned there is

  pub on_own_link : (way : Way) (z : Happening) → HasLink s.network link → (body : NoteBody)
      → is_sent_on s.network link way body ≡ true → IfSome (launched s z (time_of z) body)
      (λ l. l.link.0 < length s.network.link)
  on_own_link way z there (notes.Left device k cause clock) sent =
      launch_within k way (way_from s.network device k) z.frame there sent
  on_own_link way z there (notes.TtSent device k cause vl cycle) sent =
      within (length s.network.link) link k way (way_from s.network device k) there sent
  on_own_link way z there body sent = absurd (both_ways false refl sent)

-- ---- the packet

-- what was put on the wire, and its packet where it is sent on the way
abbrev put_of : Option Launch → Option Signal
put_of launch = option_map (λ (l : Launch). l.signal) launch

abbrev line_of : ℕ → Option (List ℕ) → List (List ℕ)
line_of t octets = cons_option (option_map (packet_at t) octets) []

-- the lines of what is found on the wire: none, or that of octets as they are spelt
pub record AreLinesOf (t : ℕ) (found : Option Signal) (lines : List (List ℕ)) : Type 0 where
  pub none : found ≡ None → lines ≡ []
  pub some : (signal : Signal) → found ≡ Some signal → (octets : List ℕ) → IsSpelt signal octets → lines ≡ packet_at t octets ∷ []

left_lines : (k : LinkId) (turned : Way) {t : ℕ} (frame : Option Pcf) {lines : List (List ℕ)} → AreLinesOf t
    (put_of (option_map (λ (f : Pcf). let l : Launch = record { link = k; way = turned; signal = control (Ok f) } in
    l) frame)) lines → lines ≡ line_of t (option_map encoded frame)
left_lines k turned None are = are.none refl
left_lines k turned (Some f) are = are.some (control (Ok f)) refl (encoded f) refl

module _ (s : Scenario) (link : LinkId) (way : Way) (z : Happening) where
  sent_lines : {t : ℕ} {lines : List (List ℕ)} (body : NoteBody) → is_sent_on s.network link way body ≡ true
      → AreLinesOf t (put_of (launched s z t body)) lines → lines ≡ line_of t (shown body z.frame z.octets)
  sent_lines (notes.Left device k cause clock) sent are = left_lines k (way_from s.network device k) z.frame are
  sent_lines (notes.TtSent device k cause vl cycle) sent are = are.some (timed z.octets) refl z.octets refl
  sent_lines body sent are = absurd (both_ways false refl sent)

  -- the lines of what a record put on the wire are its packet
  pub packet_is : {lines : List (List ℕ)} → is_sent_on s.network link way z.note.body ≡ true
      → AreLinesOf (time_of z) (put_by s z) lines → lines ≡ packets_of s link way (z ∷ [])
  packet_is sent are =
      let high = sent_rank s.network link way z.note.body sent in
      sent_lines z.note.body sent are
      ∙ sym (ap (λ (b : Bool). cons_option (if b then option_map (packet_at (time_of z))
      (record_octets z) else None) [])
      (carried_is s link way (time_of z) z.note.body (omega (arith, high)) ∙ sent))

-- the time of a record that a world gave
pub timely : (time : Units) (now : ℕ) → time ≡ units_of now → now ≤ 2 ^ 60 → IsTimely time
timely time now at low =
    let e : time.0 ≡ pos now = ap (λ (u : Units). u.0) at in
    record { begun = omega (arith, ints, e); limit = omega (arith, ints, e, low) }

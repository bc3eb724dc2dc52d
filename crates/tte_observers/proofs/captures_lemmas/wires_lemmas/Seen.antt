-- What the observer of a way has put, from record to record.
use Rattle.{drift_world.specs.Running.event_note, run_law.specs.scenario.Ways.cut_set}
use Rattle.{net_plan.specs.declared.event.What.What, run_law.{proofs.runs.Places.{in_left, in_parts}, specs.records.Happenings.happening}}
use Rattle.{net_plan.specs.declared.tables.Way.TheVariants.Up, tte_observers.specs.captures.wires.Seeing.{TakesWhat, cut_after, octets_sent, sent_by}}
use Rattle.{std.proofs.Common.{append_assoc, unwrap_or, zero}, world_drive.specs.declared.observing.Cut.TheVariants.{OutOfMemory, WriteFault}}
use Rattle.tte_observers.proofs.captures_lemmas.wires_lemmas.{Cuts.{cut_known, cut_more, packets_sent, packets_stay}, Words.{sym, time_of, true, unsettled, ℕ}}
use Rattle.tte_observers.proofs.captures_lemmas.wires_lemmas.Settled.{IsBehindEvents, all_settled, before_record, filter_has, new_unsettled, others_earlier}
use Rattle.tte_observers.proofs.captures_lemmas.wires_lemmas.Settled.{others_settled, same_settled, settled_sooner, settles, still_settled, unsettled_rank}
use Rattle.tte_observers.proofs.captures_lemmas.wires_lemmas.Words.{◌++◌, ◌+◌, ◌<◌, ◌^◌, ◌∙◌, ◌∷◌, ◌≡◌, ◌≤◌, AllBefore, AreFrom, Bool, Capture, Event}
use Rattle.tte_observers.proofs.captures_lemmas.wires_lemmas.Words.{Happening, HasLink, IsIn, LinkId, List, Network, None, Note, PutFails, PutFails-behind}
use Rattle.tte_observers.proofs.captures_lemmas.wires_lemmas.Words.{PutsLines, PutsLines-append, PutsLines-none, SeesRecords, SeesWay, Shown, Some, Start}
use Rattle.tte_observers.proofs.captures_lemmas.wires_lemmas.Words.{StopsRecords, Told, Units, Way, [], amount, ap, append-nil, arith, cons_option, false}
use Rattle.tte_observers.proofs.captures_lemmas.wires_lemmas.Words.{filter_map-append, if◌then◌else◌, inl, inr, is_settled, is_way_of, packet_of, packets_of}
use Rattle.tte_observers.proofs.captures_lemmas.wires_lemmas.Words.{place_of, rank, refl, scenario_under, sends_of, sent_packets, settled, shown_as, subst, suc}
use Rattle.net_plan.specs.declared.event.What.TheVariants as events
use Rattle.run_law.specs.declared.note.NoteBody.TheVariants as notes
pub use Rattle.tte_observers.specs.captures.wires.Stopping.{at_start}

-- ---- at first

pub seen_first : (network : Network) (told : Told) (it : Capture) → HasLink network it.link → it.cut ≡ false → it.time ≡ 0 → it.sends.items ≡ []
    → SeesWay network [] [] (record { told = told; observer = it }) told it
seen_first network told it there open_ first none = record {
  same_link = refl;
  same_way = refl;
  there = there;
  parts = refl;
  puts = PutsLines-none (shown_as told);
  sends = none;
  now = λ h i. absurd i;
  past = λ e i. absurd i;
  cut = open_;
  limit = omega (arith, first);
}

-- ---- what is known of the records seen

module _ (network : Network) (events : List Event) (hs : List Happening) (start : Start Capture) (put : Told) (it : Capture)
    (seen : SeesRecords network events hs start put it) where
  -- with the packets that wait, all packets
  pub whole : packets_of (scenario_under network events) it.link it.way (settled hs) ++ sent_packets it.cut it.time it.sends.items
      ≡ packets_of (scenario_under network events) it.link it.way hs
  whole =
      let s = scenario_under network events in
      let front = packets_of s it.link it.way (settled hs) in
      let cut = cut_known network events it.link it.time seen.past ∙ sym seen.cut in
      let waiting = packets_sent s it.link it.way it.cut it.time (unsettled hs) (λ h i. (seen.now h i, unsettled_rank hs h i)) cut in
      ap (λ l. front ++ sent_packets it.cut it.time l) seen.sends ∙ ap (λ (l : List (List ℕ)). front ++ l) (sym waiting)
      ∙ sym (filter_map-append (packet_of s it.link it.way) (settled hs) (unsettled hs)) ∙ ap (packets_of s it.link it.way) (sym seen.parts)

  -- they are put
  pub flushed : (new : Shown) → PutsLines (sent_packets it.cut it.time it.sends.items) (shown_as put) new
      → PutsLines (packets_of (scenario_under network events) it.link it.way hs) (shown_as start.told) new
  flushed new p =
      subst (λ ls. PutsLines ls (shown_as start.told) new) whole
      (PutsLines-append seen.puts p)

  -- their put fails
  pub flush_failed : (new : Shown) → PutFails (sent_packets it.cut it.time it.sends.items) (shown_as put) new
      → PutFails (packets_of (scenario_under network events) it.link it.way hs) (shown_as start.told) new
  flush_failed new p =
      subst (λ ls. PutFails ls (shown_as start.told) new) whole
      (PutFails-behind (sent_packets it.cut it.time it.sends.items) new seen.puts p)

  -- ---- one more record that is no event's

  module _ (z : Happening) (high : 1 < rank z.note.body) (order : AllBefore place_of hs (place_of z)) where
    behind_all : (h : Happening) → IsIn h (hs ++ z ∷ []) → IsBehindEvents (time_of h) z
    behind_all h i = elim (in_parts h hs (z ∷ []) i) [
      | inl old ↦ elim (before_record h z (order h old)) [ inl lt ↦ inl lt | inr same ↦ inr (sym same, high) ]
      | inr (inl is) ↦ inr (sym (ap time_of is), high)
      | inr (inr none) ↦ absurd none
    ]

    both : (settled (hs ++ z ∷ []) ≡ hs ++ z ∷ []) × (unsettled (hs ++ z ∷ []) ≡ [])
    both = all_settled hs z behind_all

    pub record_seen : (new : Capture) (told : Told) → new.link ≡ it.link → new.way ≡ it.way → new.cut ≡ it.cut → new.time ≡ it.time → new.sends.items ≡ []
        → PutsLines (packets_of (scenario_under network events) it.link it.way (hs ++ z ∷ [])) (shown_as start.told) (shown_as told)
        → SeesRecords network events (hs ++ z ∷ []) start told new
    record_seen new told link way cut time none puts = record {
      same_link = link ∙ seen.same_link;
      same_way = way ∙ seen.same_way;
      there = subst (HasLink network) (sym link) seen.there;
      parts = sym (ap (λ (l : List Happening). settled (hs ++ z ∷ []) ++ l) both.1 ∙ append-nil (settled (hs ++ z ∷ [])) ∙ both.0);
      puts =
          subst (λ ls. PutsLines ls (shown_as start.told) (shown_as told))
          (ap (λ l. packets_of (scenario_under network events) l it.way (hs ++ z ∷ [])) (sym link)
          ∙ ap (λ w. packets_of (scenario_under network events) new.link w (hs ++ z ∷ [])) (sym way)
          ∙ ap (packets_of (scenario_under network events) new.link new.way) (sym both.0)) puts;
      sends = none ∙ ap (sends_of new.link new.way) (sym both.1);
      now = λ h i. absurd (subst (IsIn h) both.1 i);
      past = λ e i. let le = seen.past e i in omega (arith, time, le);
      cut = cut ∙ seen.cut ∙ ap (λ l. cut_after l events) (sym link);
      limit = let low = seen.limit in omega (arith, time, low);
    }

    -- a put of what waits fails, or that of the record's own packet
    pub record_stops : (front rest : List Happening) (told : Told) → hs ++ z ∷ [] ≡ front ++ rest
        → PutFails (packets_of (scenario_under network events) it.link it.way front) (shown_as start.told) (shown_as told)
        → StopsRecords network events (hs ++ z ∷ []) WriteFault start told
    record_stops front rest told parts fails = record {
      front = front;
      rest = rest;
      parts = parts;
      settled = λ h i.
          settles hs z h
          (behind_all h (subst (IsIn h) (sym parts) (in_left h front rest i)));
      stops = inl
          (subst (λ ls. PutFails ls (shown_as start.told) (shown_as told)) (at_start network events hs start put it seen events front) fails);
    }

  -- ---- one more event

  module _ (event : Event) (number line : ℕ) where
    abbrev note : Note
    note = event_note number line event

    abbrev pub newest : Happening
    newest = happening network hs note

    abbrev more : List Happening
    more = hs ++ newest ∷ []

    abbrev under : List Event
    under = events ++ event ∷ []

    -- what is so once the time of the event has come, and before the event is taken
    pub record IsReady (told : Told) (mid : Capture) : Type 0 where
      pub same_link : mid.link ≡ it.link
      pub same_way : mid.way ≡ it.way
      pub same_cut : mid.cut ≡ it.cut
      pub time : mid.time ≡ amount event.time
      pub parts : more ≡ settled more ++ unsettled more
      pub puts : PutsLines (packets_of (scenario_under network under) it.link it.way (settled more)) (shown_as start.told) (shown_as told)
      pub waits : sends_of it.link it.way (unsettled more) ≡ mid.sends.items ++ octets_sent it.link it.way event.what
      pub now : (h : Happening) → IsIn h (unsettled more) → time_of h ≡ amount event.time

    -- memory runs out as it is taken
    pub ready_out : (told : Told) (mid : Capture) → IsReady told mid → StopsRecords network under more OutOfMemory start told
    ready_out told mid r = record {
      front = settled more;
      rest = unsettled more;
      parts = r.parts;
      settled = λ h i. filter_has (is_settled more) more h i;
      stops = subst (λ ls. PutsLines ls (shown_as start.told) (shown_as told))
          (at_start network events hs start put it seen under (settled more)) r.puts;
    }

    -- it is taken
    pub ready_seen : (told : Told) (mid new : Capture) → IsReady told mid → ((e : Event) → IsIn e under → amount e.time ≤ amount event.time)
        → amount event.time ≤ 2 ^ 60 → TakesWhat event.what mid new → SeesRecords network under more start told new
    ready_seen told mid new r past limit takes =
        let link : new.link ≡ it.link = ap (λ (c : Capture). c.link) takes.0 ∙ r.same_link in
        let way : new.way ≡ it.way = ap (λ (c : Capture). c.way) takes.0 ∙ r.same_way in
        let time : new.time ≡ amount event.time = ap (λ (c : Capture). c.time) takes.0 ∙ r.time in
        let cut : new.cut ≡ unwrap_or (cut_set mid.link Up event.what) mid.cut = ap (λ (c : Capture). c.cut) takes.0 in
        record {
          same_link = link ∙ seen.same_link;
          same_way = way ∙ seen.same_way;
          there = subst (HasLink network) (sym link) seen.there;
          parts = r.parts;
          puts =
              subst (λ ls. PutsLines ls (shown_as start.told) (shown_as told))
              (ap (λ l. packets_of (scenario_under network under) l it.way (settled more)) (sym link)
              ∙ ap (λ w. packets_of (scenario_under network under) new.link w (settled more)) (sym way)) r.puts;
          sends =
              takes.1 ∙ ap (λ l. mid.sends.items ++ octets_sent l mid.way event.what) r.same_link
              ∙ ap (λ w. mid.sends.items ++ octets_sent it.link w event.what) r.same_way ∙ sym r.waits
              ∙ ap (λ l. sends_of l it.way (unsettled more)) (sym link) ∙ ap (λ w. sends_of new.link w (unsettled more)) (sym way);
          now = λ h i. r.now h i ∙ sym time;
          past = λ e i. let le = past e i in omega (arith, time, le);
          cut =
              cut ∙ ap (λ l. unwrap_or (cut_set l Up event.what) mid.cut) r.same_link
              ∙ ap (λ (b : Bool). unwrap_or (cut_set it.link Up event.what) b) (r.same_cut ∙ seen.cut) ∙ cut_more it.link events event
              ∙ ap (λ l. cut_after l under) (sym link);
          limit = omega (arith, time, limit);
        }

    module _ (order : AllBefore place_of hs (amount event.time ∷ 1 ∷ line ∷ [])) where
      abbrev t : ℕ
      t = amount event.time

      new_free : is_settled more newest ≡ false
      new_free = new_unsettled hs newest refl t refl (line ∷ []) order

      from_here : AreFrom t (event ∷ [])
      from_here zero e is = let same : event ≡ e = cc in omega (arith, ap (λ (x : Event). amount x.time) same)
      from_here (suc k) e is = absurd cc

      -- it is of the time of those that wait
      pub same_ready : it.time ≡ t → sends_of it.link it.way (newest ∷ []) ≡ octets_sent it.link it.way event.what → IsReady put it
      same_ready time sent =
          let now = λ (h : Happening) (i : IsIn h (unsettled hs)). seen.now h i ∙ time in
          let both = still_settled hs newest new_free (same_settled hs newest refl t refl (line ∷ []) order now) in
          record {
            same_link = refl;
            same_way = refl;
            same_cut = refl;
            time = time;
            parts =
                ap (λ (l : List Happening). l ++ newest ∷ []) seen.parts ∙ append_assoc (settled hs) (unsettled hs) (newest ∷ [])
                ∙ ap (λ (l : List Happening). l ++ (unsettled hs ++ newest ∷ [])) (sym both.0) ∙ ap (λ (l : List Happening). settled more ++ l) (sym both.1);
            puts =
                subst (λ ls. PutsLines ls (shown_as start.told) (shown_as put))
                (sym (packets_stay network events (event ∷ []) it.link it.way t (settled hs) from_here
                (λ h i. settled_sooner hs t (line ∷ []) order h (filter_has (is_settled hs) hs h i)))
                ∙ ap (packets_of (scenario_under network under) it.link it.way) (sym both.0))
                seen.puts;
            waits =
                ap (sends_of it.link it.way) both.1
                ∙ filter_map-append (λ h. sent_by it.link it.way h.octets h.note.body) (unsettled hs) (newest ∷ [])
                ∙ ap (λ (l : List (List ℕ)). l ++ sends_of it.link it.way (newest ∷ [])) (sym seen.sends)
                ∙ ap (λ (l : List (List ℕ)). it.sends.items ++ l) sent;
            now = λ h i. elim (in_parts h (unsettled hs) (newest ∷ []) (subst (IsIn h) both.1 i)) [
              | inl old ↦ now h old
              | inr (inl is) ↦ ap time_of is
              | inr (inr none) ↦ absurd none
            ];
          }

      -- it is of a later time
      sooner : (it.time ≡ t → ⊥) → (h : Happening) → IsIn h hs → time_of h < t
      sooner apart = others_earlier hs newest refl t refl (line ∷ []) order it.time seen.now apart

      stays_put : (it.time ≡ t → ⊥) → packets_of (scenario_under network under) it.link it.way hs ≡ packets_of (scenario_under network events) it.link it.way hs
      stays_put apart = packets_stay network events (event ∷ []) it.link it.way t hs from_here (sooner apart)

      pub later_ready : (it.time ≡ t → ⊥) → (mid : Capture) (told : Told) → mid.link ≡ it.link → mid.way ≡ it.way → mid.cut ≡ it.cut → mid.time ≡ t
          → mid.sends.items ≡ [] → PutsLines (packets_of (scenario_under network events) it.link it.way hs) (shown_as start.told) (shown_as told)
          → sends_of it.link it.way (newest ∷ []) ≡ octets_sent it.link it.way event.what → IsReady told mid
      later_ready apart mid told link way cut time none puts sent =
          let both = others_settled hs newest new_free (λ h i. inl (sooner apart h i)) in
          record {
            same_link = link;
            same_way = way;
            same_cut = cut;
            time = time;
            parts = sym (ap (λ (l : List Happening). l ++ unsettled more) both.0 ∙ ap (λ (l : List Happening). hs ++ l) both.1);
            puts =
                subst (λ ls. PutsLines ls (shown_as start.told) (shown_as told))
                (sym (stays_put apart) ∙ ap (packets_of (scenario_under network under) it.link it.way) (sym both.0)) puts;
            waits =
                ap (sends_of it.link it.way) both.1 ∙ sent
                ∙ ap (λ (l : List (List ℕ)). l ++ octets_sent it.link it.way event.what) (sym none);
            now = λ h i. elim (subst (IsIn h) both.1 i) [ inl is ↦ ap time_of is | inr none ↦ absurd none ];
          }

      -- the put of what waited failed
      pub later_stops : (it.time ≡ t → ⊥) → (told : Told) → PutFails (packets_of (scenario_under network events) it.link it.way hs) (shown_as start.told)
          (shown_as told) → StopsRecords network under more WriteFault start told
      later_stops apart told fails = record {
        front = hs;
        rest = newest ∷ [];
        parts = refl;
        settled = λ h i. settles hs newest h (inl (sooner apart h i));
        stops =
            inl (subst (λ ls. PutFails ls (shown_as start.told) (shown_as told)) (sym (stays_put apart)
            ∙ at_start network events hs start put it seen under hs)
            fails);
      }

-- what an event's record sends up the way
pub sent_new : (network : Network) (hs : List Happening) (number line : ℕ) (time : Units) (what : What) (link : LinkId) (way : Way)
    → sends_of link way (happening network hs (record { number = number; time = time; body = notes.Event line what }) ∷ []) ≡ octets_sent link way what
sent_new network hs number line time (events.Send k given) link way =
    elim (is_way_of link way k Up) as (λ (b : Bool). cons_option (if b then Some given else None) [] ≡ (if b then given ∷ [] else [])) [
      | true ↦ refl
      | false ↦ refl
    ]
sent_new network hs number line time what link way = refl

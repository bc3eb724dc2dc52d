-- The events of a storm: their texts, lines and ranges, and the run over their lines.
use Rattle.std.{specs.{Fmt.signed_decimal, Io.KnownBytes.Appends, List.concat, Prelude.IsSomeAnd}}
use Rattle.std.proofs.{Math.Nat.mod-lt}
use Rattle.std.proofs.{lemmas.{Bool.Decides.nat_tests, Int.ints, List.{Elements.All-weaker, append-nil}}}
use Rattle.std.proofs.Common
use Common.{◌%◌, ◌*◌, ◌++◌, ◌+◌, ◌<◌, ◌∙◌, ◌∷◌, ◌≡◌, ◌≢◌, ◌≤◌, List, None, Option, Some, [], ap, append_assoc, arith}
use Common.{false, inl, inr, length, length-append, refl, subst, suc, sym, zero, ℕ}
use Rattle.fault_hypothesis.proofs.storm_lemmas.OneStorm.{master_within, one_storm, some_device, some_link}
use Rattle.fault_hypothesis.proofs.storm_lemmas.OneStorm.{uplink_within}
use Rattle.report_text.proofs.Visible.{is_lf, joined_short, line_unbroken, size, time_short, time_visible, what_short}
use Rattle.report_text.proofs.Visible.{what_visible}
use Rattle.fault_hypothesis.proofs.storm_lemmas.Storms
use Storms.{front_of_storm, no_events, storm_number, storm_time, storms_within, time_in_run}
use Rattle.fault_hypothesis.specs.{declared.storm.draw.StormDraw.StormDraw}
use Rattle.fault_hypothesis.specs.storm.{Striking.Strikes, Words.draw_at}
use Rattle.fault_hypothesis.specs.storm.Choosing
use Choosing.{channel_of, choice_of, device_of, hold_of, link_of, rate_of, way_of, wire_of}
use Rattle.fault_hypothesis.specs.storm.Events
use Events.{AreStormEvents, IsChosen, IsDrawn, IsStorm, IsStormEvent, substitute, time_of}
use Rattle.lens.specs.events.{Answer.{IsEventsAnswer, event_lines}, Laws.{EventsAnswersExist, StormReport}}
use Rattle.net_plan.specs.{Belonging.IsOfNetwork, Places.link_at, Ranges.{IsInRange, IsLinkInRange}}
use Rattle.net_plan.specs.{declared.{event.{Event.Event, What.What}, network.Network.Network, tables.Link.Link}}
use Rattle.report_text.{specs.NoteLine.report_of}
use Rattle.run_law.specs.declared.note.Note.{Note}
use Rattle.schedule_tables.specs.{Rules.KeepsRules, declared.rule.Rule.TheVariants.{DevicesDiffer, LinksDiffer}}
use Rattle.trace_text.{proofs.EventsBack.{reads_back, text_joined}}
use Rattle.trace_text.specs.{EventLine.{event_line, event_text, what_words}, EventReading.event_read}
use Rattle.trace_text.specs.{Ranges.{IsEventInRange, IsRate, IsTime, IsWhatInRange}}
use Rattle.tte_forms.{proofs.Puts.{Ends-gives, PutsLines-fails, PutsLines-more, PutsLines-none}}
use Rattle.tte_forms.specs.{Answering.{Answer, Ends, Gives, GivesAnswer}, Putting.{PutsLines, Shown}}
use Rattle.tte_forms.specs.{declared.status.Status.{Status, TheVariants.{Done, WriteFault}}}
use Rattle.tte_io.{proofs.LineReading.{behind_line-append, first_line-append}}
use Rattle.tte_io.specs.{Faults.next_count, Line.{IsUnbroken, behind_line, first_line, lf, line_limit}}
use Rattle.tte_io.specs.{Told.AppendsFront}
use Rattle.tte_traces.proofs.{Answers.trace_answer_one}
use Rattle.tte_traces.proofs.{storms_lemmas.Drawn.{IsStormy, all_ended, none_ended, storm_behind}}
use Rattle.tte_traces.specs.{Answer.{IsRunAnswer, report_lines}, Lines.{AreAdmitted, behind_lines}}
use Rattle.tte_traces.specs.{declared.storms.events.StormEvents.StormEvents, storms.Storms.IsStormTo}
use Rattle.tte_units.{proofs.general_lemmas.Lists.in_all, specs.{Amount.amount, declared.units.Units.Units}}
use Rattle.world_drive.specs.exact.Records.{AreAllRecords, HaveEnded}
use Rattle.net_plan.specs.declared.event.What.TheVariants as kinds

-- ---- the text of an event has no LF

no_lf : (octet : ℕ) → is_lf octet ≡ false → octet ≢ lf
no_lf octet other same = grind (arith, nat_tests)

-- its words are visible, so none of its octets is an LF
pub event_unbroken : {network : Network} {event : Event} → IsInRange network → IsOfNetwork network event.what
    → IsEventInRange event → IsUnbroken (event_text network event)
event_unbroken {network} {event} range of_network in_range =
    let words = signed_decimal event.time.0 ∷ what_words network event.what in
    let joined = line_unbroken words (time_visible event.time in_range.time, what_visible network event.what range of_network in_range.what) in
    subst IsUnbroken (sym (text_joined network event)) (All-weaker (λ (o : ℕ). is_lf o ≡ false) (λ (o : ℕ). o ≢ lf) no_lf _ joined)

-- ---- the text of an event fits a line

pub event_short : (network : Network) (event : Event) → IsInRange network → IsOfNetwork network event.what → IsEventInRange event
    → length (event_text network event) ≤ line_limit
unfolding size
event_short network event range of_network in_range =
    let time = signed_decimal event.time.0 in
    let words = what_words network event.what in
    let short = what_short network event.what range of_network in_range.what in
    let first = time_short event.time in_range.time in
    let joined = joined_short (time ∷ words) in
    subst (λ t. length t ≤ line_limit) (sym (text_joined network event)) (omega (arith, short, first, joined))

-- ---- the lines of a storm's events put one after another

-- the lines of some events and of others behind them
pub lines_of_both : (network : Network) (events others : List Event)
    → event_lines network (events ++ others) ≡ event_lines network events ++ event_lines network others
lines_of_both network [] others = refl
lines_of_both network (e ∷ events) others = ap (λ (ls : List (List ℕ)). event_line network e ∷ ls) (lines_of_both network events others)

-- the lines of the events that the source gave were put
pub record HasPutEvents (network : Network) (seed cycles : ℕ) (it : StormEvents) (old now : Shown) : Type 0 where
  pub events : List Event
  pub given : IsStormTo network seed cycles events it
  pub puts : PutsLines (event_lines network events) old now

pub puts_none : {network : Network} {seed cycles : ℕ} {it : StormEvents} (s : Shown)
    → IsStormTo network seed cycles [] it → HasPutEvents network seed cycles it s s
puts_none s given = record { events = []; given = given; puts = PutsLines-none s }

module _ (network : Network) (seed cycles : ℕ) (it : StormEvents) (old now : Shown) (h : HasPutEvents network seed cycles it old now) where
  -- one more
  pub puts_more : (event : Event) (after : StormEvents) (new : Shown) → IsStormTo network seed cycles (h.events ++ event ∷ []) after
      → Appends now.written new.written (event_line network event) → new.puts ≡ next_count now.puts → HasPutEvents network seed cycles after old new
  puts_more event after new given whole counted = record {
    events = h.events ++ event ∷ [];
    given = given;
    puts =
        subst (λ ls. PutsLines ls old new) (sym (lines_of_both network h.events (event ∷ [])))
        (PutsLines-more (event_line network event) new h.puts whole counted);
  }

  -- all of them, and what was put is passed on
  pub puts_all : (status : Status) (new : Shown) → length h.events ≡ 8 * cycles + 1 → Ends Done status now new
      → GivesAnswer (IsEventsAnswer seed cycles network) status old new
  puts_all status new all ends = inl (
    record { status = Done; lines = event_lines network h.events },
    record { events = h.events; storm = record { whole = all; each = h.given.each }; answer = refl },
    Ends-gives Done status new h.puts ends,
  )

  -- the put of the next one failed: the storm goes on behind it, so there is an answer
  pub puts_fail : (event : Event) (after : StormEvents) (new : Shown) → IsStormy network cycles
      → IsStormTo network seed cycles (h.events ++ event ∷ []) after → AppendsFront now.written new.written (event_line network event)
      → new.puts ≡ next_count now.puts → GivesAnswer (IsEventsAnswer seed cycles network) WriteFault old new
  puts_fail event after new stormy given front counted =
      let first = h.events ++ event ∷ [] in
      let number = storm_number network seed cycles h.events (length h.events) event (given.each h.events [] event refl) in
      let few : length first ≤ 8 * cycles + 1 = omega (arith, number, length-append h.events (event ∷ [])) in
      let rest = storm_behind seed first stormy given.each few in
      let all = first ++ rest.0 in
      let lines : event_lines network all ≡ event_lines network h.events ++ event_line network event ∷ event_lines network rest.0 =
      ap (event_lines network) (append_assoc h.events (event ∷ []) rest.0) ∙ lines_of_both network h.events (event ∷ rest.0) in
      let fails = PutsLines-fails (event_line network event) (event_lines network rest.0) new h.puts front counted in
      let answer : List (List ℕ) → Answer = λ ls. record { status = Done; lines = ls } in inl (
        answer (event_lines network all),
        record { events = all; storm = rest.1; answer = refl },
        subst (λ (ls : List (List ℕ)). Gives (answer ls) WriteFault old new) (sym lines) (inr (inl (refl, inl fails))),
      )

-- ---- the events of a storm are of the network, and their numbers lie in their ranges

-- what befalls is of the network and in range
pub record IsRanged (network : Network) (what : What) : Type 0 where
  pub of_network : IsOfNetwork network what
  pub range : IsWhatInRange what

ranged_as : {network : Network} (what : What) {other : What} → what ≡ other → IsRanged network other
    → IsRanged network what
ranged_as {network} what same ranged = subst (IsRanged network) (sym same) ranged

-- ---- what a draw chooses

module _ (network : Network) (range : IsInRange network) (rules : KeepsRules network) (draw : StormDraw) where
  device_there : (device_of network draw).0 < length network.device
  device_there = mod-lt draw.place (some_device network rules)

  link_there : (link_of network draw).0 < length network.link
  link_there = mod-lt draw.place (some_link network rules)

  -- a rate is at most rho
  rate_ranged : IsRate (rate_of network draw)
  rate_ranged =
      let above : draw.size % (2 * network.rho + 1) < 2 * network.rho + 1 = mod-lt draw.size (omega arith) in
      let rho = range.rho in
      record { least = omega (arith, ints, above, rho); most = omega (arith, ints, above, rho) }

  -- a wire delay is at most the link's wire and its jitter
  wire_ranged : (l : Link) → IsLinkInRange network l → IsTime (wire_of l draw)
  wire_ranged l of_link =
      let more : draw.size % (amount l.jitter + 1) < amount l.jitter + 1 = mod-lt draw.size (omega arith) in
      let wire = of_link.wire in
      let jitter = of_link.jitter in
      record { least = omega (arith, ints, more, wire.least); most = omega (arith, ints, more, wire.most, jitter.least, jitter.most) }

  hold_ranged : (l : Link) → IsLinkInRange network l → IsTime (hold_of l draw)
  hold_ranged l of_link =
      let less : draw.size % (amount l.hold + 1) < amount l.hold + 1 = mod-lt draw.size (omega arith) in
      let hold = of_link.hold in
      record { least = omega (arith, ints, less); most = omega (arith, ints, less, hold.least, hold.most) }

  -- what is chosen of the link is so where it is so of each link in range
  of_link : (f : Link → What) (what : What) → ((l : Link) → IsLinkInRange network l → IsRanged network (f l))
      → IsSomeAnd (link_at network (link_of network draw)) (λ l. what ≡ f l) → IsRanged network what
  of_link f what each is = some_link_by (link_at network (link_of network draw)) refl is
    where
      some_link_by : (o : Option Link) → link_at network (link_of network draw) ≡ o → IsSomeAnd o (λ l. what ≡ f l) → IsRanged network what
      some_link_by None at none = absurd none
      some_link_by (Some l) at same =
          ranged_as what same (each l (in_all (IsLinkInRange network) network.link (link_of network draw).0 l range.links at))

  struck : (before : List Event) (time : Units) (what : What) → Strikes network before time draw what → IsRanged network what
  struck before time what (inl breaks) =
      ranged_as {network = network} what {other = kinds.Break breaks.master} breaks.breaks
      (record { of_network = master_within network breaks.master breaks.last.master; range = tt })
  struck before time what (inr (device, broken, sends)) =
      let size = sends.spells.size in
      ranged_as {network = network} what {other = kinds.Send sends.link sends.octets} sends.sends (record {
        of_network = uplink_within network device sends.link (channel_of draw) sends.uplink;
        range = record { bytes = sends.bytes; least = omega (arith, size); most = omega (arith, size) };
      })

  -- by the rest of the first word
  chosen_by : (before : List Event) (time : Units) (rest : ℕ) (what : What) → rest < 8 → IsChosen network before time draw (choice_of rest) what
      → IsRanged network what
  chosen_by before time zero what less is = ranged_as {network = network} what is (record { of_network = device_there; range = rate_ranged })
  chosen_by before time (suc zero) what less is = ranged_as {network = network} what is (record { of_network = device_there; range = rate_ranged })
  chosen_by before time (suc (suc zero)) what less is =
      of_link (λ l. kinds.Wire (link_of network draw) (way_of draw) (wire_of l draw)) what
      (λ l of_range. record { of_network = link_there; range = wire_ranged l of_range }) is
  chosen_by before time (suc (suc (suc zero))) what less is =
      of_link (λ l. kinds.Hold (link_of network draw) (way_of draw) (hold_of l draw)) what
      (λ l of_range. record { of_network = link_there; range = hold_ranged l of_range }) is
  chosen_by before time (suc (suc (suc (suc zero)))) what less is = ranged_as {network = network} what is (record { of_network = link_there; range = tt })
  chosen_by before time (suc (suc (suc (suc (suc zero))))) what less is = ranged_as {network = network} what is (record { of_network = link_there; range = tt })
  chosen_by before time (suc (suc (suc (suc (suc (suc zero)))))) what less is = ranged_as {network = network} what is (record { of_network = device_there; range = tt })
  chosen_by before time (suc (suc (suc (suc (suc (suc (suc zero))))))) what less is = struck before time what is
  chosen_by before time (suc (suc (suc (suc (suc (suc (suc (suc n)))))))) what less is = absurd (omega (arith, less))

  same_choice : choice_of (draw.kind % 8) ≡ choice_of draw.kind
  same_choice =
      let same : draw.kind % 8 % 8 ≡ draw.kind % 8 = omega arith in
      rw same refl

  chosen : (before : List Event) (time : Units) (what : What) → IsDrawn network before time draw what → IsRanged network what
  chosen before time what is = chosen_by before time (draw.kind % 8) what (omega arith) (rw same_choice is)

-- ---- an event of a storm

module _ (network : Network) (range : IsInRange network) (rules : KeepsRules network) where
  instead : IsRanged network substitute
  instead = record {
    of_network = some_device network rules;
    range = record { least = omega (arith, ints); most = omega (arith, ints) };
  }

  -- the time of a step is one of a trace
  time_ranged : (n : ℕ) → n ≤ 800000 → IsTime (time_of network n)
  time_ranged n few =
      let late = time_in_run network n few in
      let cycle = range.cycle in
      record { least = omega (arith, ints); most = omega (arith, ints, late, cycle.most, cycle.least) }

  pub storm_ranged : (seed cycles : ℕ) (before : List Event) (n : ℕ) (event : Event) → cycles ≤ 100000
      → IsStormEvent network seed cycles before n event → IsOfNetwork network event.what × IsEventInRange event
  storm_ranged seed cycles before n event few is =
      let number = storm_number network seed cycles before n event is in
      let time : IsTime event.time = subst IsTime (sym (storm_time network seed cycles before n event is)) (time_ranged n (omega (arith, few, number))) in
      let what : IsRanged network event.what = elim is [
        | inl step ↦ elim step.1.becomes [
          | inl drawn ↦
              subst (IsRanged network) (sym (ap (λ (e : Event). e.what) drawn.1))
              (chosen network range rules (draw_at seed n) before (time_of network n) step.1.drawn step.1.is_drawn)
          | inr other ↦ subst (IsRanged network) (sym (ap (λ (e : Event). e.what) other.1)) instead
        ]
        | inr end ↦ subst (IsRanged network) (sym (ap (λ (e : Event). e.what) end.1)) (record { of_network = tt; range = tt })
      ] in
      (what.of_network, record { time = time; what = what.range })

-- ---- the run over the lines of a storm's events is the one that the storm's summary sums up

-- the text of a trace of these events
abbrev text_of : Network → List Event → List ℕ
text_of network events = concat (event_lines network events)

module _ (network : Network) (range : IsInRange network) (rules : KeepsRules network) (seed cycles : ℕ) (few : cycles ≤ 100000) where
  -- ---- one line

  -- the first line of the text is the first event's, and behind it is the text of the others
  first_text : (event : Event) (rest : List ℕ) (before : List Event) → AreStormEvents network seed cycles (before ++ event ∷ [])
      → (first_line (event_line network event ++ rest) ≡ event_text network event) × (behind_line (event_line network event ++ rest) ≡ rest)
  first_text event rest before each =
      let own = storm_ranged network range rules seed cycles before (length before) event few (each before [] event refl) in
      let unbroken = event_unbroken range own.0 own.1 in
      let text = event_text network event in
      let moved = append_assoc text (lf ∷ []) rest in (
        ap first_line moved ∙ first_line-append text (lf ∷ rest) unbroken ∙ append-nil text,
        ap behind_line moved ∙ behind_line-append text (lf ∷ rest) unbroken,
      )

  -- ---- all lines

  -- the line behind so many is that behind the first and so many
  shifted : (n : ℕ) (octets : List ℕ) → behind_lines (suc n) octets ≡ behind_lines n (behind_line octets)
  shifted zero octets = refl
  shifted (suc n) octets = ap behind_line (shifted n octets)

  -- behind the lines of some events is the text of those behind them, whatever came before
  behind_from : (out front behind : List Event) → AreStormEvents network seed cycles (out ++ (front ++ behind))
      → behind_lines (length front) (text_of network (front ++ behind)) ≡ text_of network behind
  behind_from out [] behind each = refl
  behind_from out (e ∷ front) behind each =
      let others = front ++ behind in
      let whole : AreStormEvents network seed cycles ((out ++ e ∷ []) ++ others) =
      subst (AreStormEvents network seed cycles) (sym (append_assoc out (e ∷ []) others)) each in
      let own = front_of_storm network seed cycles (out ++ e ∷ []) others whole in
      let next = first_text e (text_of network others) out own in
      shifted (length front) (text_of network (e ∷ others))
      ∙ ap (behind_lines (length front)) next.1
      ∙ behind_from (out ++ e ∷ []) front behind whole

  -- the line of an event is some
  some_line : (event : Event) (rest : List ℕ) → event_line network event ++ rest ≡ [] → ⊥
  some_line event rest none =
      let text = event_text network event in
      omega (arith, ap length none, length-append (event_line network event) rest, length-append text (lf ∷ []))

  -- each event of the storm is admitted, given those before it
  admitted : (events : List Event) → AreStormEvents network seed cycles events → AreAdmitted network (text_of network events) events
  admitted events each before behind event order =
      let whole = subst (AreStormEvents network seed cycles) order each in
      let octets = behind_lines (length before) (text_of network events) in
      let rest : octets ≡ event_line network event ++ text_of network behind =
      ap (λ es. behind_lines (length before) (text_of network es)) order ∙ behind_from [] before (event ∷ behind) whole in
      let is = whole before behind event refl in
      let number = storm_number network seed cycles before (length before) event is in
      let own = storm_ranged network range rules seed cycles before (length before) event few is in
      let front : AreStormEvents network seed cycles before = front_of_storm network seed cycles before (event ∷ behind) whole in
      let with_it : AreStormEvents network seed cycles (before ++ event ∷ []) = front_of_storm network seed cycles (before ++ event ∷ []) behind
      (subst (AreStormEvents network seed cycles) (sym (append_assoc before (event ∷ []) behind)) whole) in
      let first : first_line octets ≡ event_text network event = ap first_line rest ∙ (first_text event (text_of network behind) before with_it).0 in
      let short = event_short network event range own.0 own.1 in
      record {
        has = record {
          is_open = record {
            some = λ none. some_line event (text_of network behind) (sym rest ∙ none);
            number = omega (arith, number, few);
            unended = none_ended network seed cycles before front number;
          };
          short = subst (λ t. length t ≤ line_limit) (sym first) short;
          read = ap (event_read network) first ∙ reads_back network event range (rules DevicesDiffer) (rules LinksDiffer) own.0 own.1;
        };
        within = storms_within network seed cycles events few each before behind event order;
      }

  -- `run` over the text has the report of all records
  run_of_text : (events : List Event) (notes : List Note) → IsStorm network seed cycles events → AreAllRecords network events notes
      → IsRunAnswer (text_of network events) network (record { status = Done; lines = report_of network notes })
  run_of_text events notes storm records =
      let ended : HaveEnded events = all_ended network seed cycles events storm.each storm.whole in
      let same = append-nil events in
      let none : behind_lines (length events) (text_of network events) ≡ [] =
      ap (λ es. behind_lines (length events) (text_of network es)) (sym same)
      ∙ behind_from [] events [] (subst (AreStormEvents network seed cycles) (sym same) storm.each) in
      record {
        events = events;
        admitted = admitted events storm.each;
        is = inl (record { ended = ended; none_left = none; notes = notes; records = records; answer = refl });
      }

pub storm_report : StormReport
storm_report seed cycles network trace report summary few range rules e r s =
    let events : s.events ≡ e.events = one_storm network seed cycles s.events e.events rules few s.storm e.storm in
    let text : concat trace.lines ≡ text_of network s.events = ap (λ (a : Answer). concat a.lines) e.answer ∙ ap (text_of network) (sym events) in
    let run = run_of_text network range rules seed cycles few s.events s.notes s.storm s.records in
    let asked : IsRunAnswer (text_of network s.events) network report = subst (λ octets. IsRunAnswer octets network report) text r in
    record {
      events = s.events;
      storm = s.storm;
      notes = s.notes;
      records = s.records;
      spread = s.spread;
      widest = s.widest;
      reported = trace_answer_one report_lines network (text_of network s.events) report _ asked run;
      summed = s.answer;
    }

pub events_answers_exist : EventsAnswersExist
events_answers_exist seed cycles network few range rules fits =
    let stormy : IsStormy network cycles = record { few = few; range = range; rules = rules; fits = fits } in
    let all = storm_behind seed [] stormy (no_events network seed cycles) (omega arith) in
    (record { status = Done; lines = event_lines network all.0 }, record { events = all.0; storm = all.1; answer = refl })

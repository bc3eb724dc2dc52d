-- A trace gives its events one after another.
use Rattle.{drift_world.specs.Running.HoldsATime, std.specs.Prelude.IfErr, trace_text.specs.Ranges.IsWhatInRange, tte_forms.specs.Putting.IsPassedOn}
use Rattle.{std.proofs.Common.{◌-◌, Bool, false, true}, tte_forms.specs.Faults.{PutFailed, ReadFailed}, tte_traces.proofs.Words.{shown_by, subst, sym, ℕ}}
use Rattle.tte_traces.proofs.Words.{◌++◌, ◌<◌, ◌^◌, ◌∙◌, ◌∷◌, ◌≡◌, ◌≢◌, AreAdmitted, Err, Event, ForOctets, GaveEvents, IfSome, List, Network, None, Ok, Option}
use Rattle.tte_traces.proofs.Words.{ReadsOn, Result, Rose, Some, TakesFew, Trace, TraceStop, What, [], ap, arith, behind_lines, length, length-append, refl}
use Rattle.tte_traces.specs.{Following.{Follows, GivesEvent, GoesOn, IsRefused, Reads, ReadsMore, TakesNext}, Taking.{EndedBehind, IsStopAt, StoppedBehind}}
use Rattle.{tte_traces.specs.declared.fault.TraceStop.TheVariants.{Fault, ReadFault, WriteFault}, world_drive.specs.Sources.{GivesNext, MayGive, given_in}}
use Rattle.net_plan.specs.declared.event.What.TheVariants as kinds
use Rattle.tte_io.specs.declared.ends.Sink as sinks
use Rattle.tte_io.specs.declared.ends.Source as sources

-- a hold that it sets is a time
pub holds_a_time : (what : What) → IsWhatInRange what → HoldsATime what
holds_a_time (kinds.Hold link way hold) range = range.least
holds_a_time what range = tt

-- the event that it gives may befall the network
may_give : {network : Network} {events : List Event} {event : Event} {trace : Trace}
    → GivesEvent network events event trace → MayGive network events event
may_give {events} {event} gives =
    let few = gives.follows.number in
    let long = length-append events (event ∷ []) in
    record {
      unended = gives.unended;
      number = omega (arith, few, long);
      of_network = gives.of_network;
      begun = gives.range.time.least;
      limit = gives.range.time.most;
      hold = holds_a_time event.what gives.range.what;
      within = gives.within;
    }

fewer_lines : {network : Network} {events : List Event} {event : Event} {old new : Trace}
    → Follows network events old → GivesEvent network events event new → 2 ^ 32 - new.lines < 2 ^ 32 - old.lines
fewer_lines {events} {event} follows gives =
    let own = follows.lines in
    let more = gives.follows.lines in
    let few = gives.follows.number in
    let long = length-append events (event ∷ []) in
    omega (arith, own, more, few, long)

-- a call that answers no event for a cause stopped for it
pub stop_given : (result : Result Bool TraceStop) (event : Event) (stop : TraceStop) → given_in result event ≡ Err stop → result ≡ Err stop
stop_given (Ok true) event stop is = absurd cc
stop_given (Ok false) event stop is = absurd cc
stop_given (Err cause) event stop is = let same : cause ≡ stop = cc in ap Err same

-- a call that is refused answers no event
pub refused_given : (result : Result Bool TraceStop) (event : Event) → IfErr result IsRefused → IfErr (given_in result event) IsRefused
refused_given (Ok true) event refused = refused
refused_given (Ok false) event refused = refused
refused_given (Err cause) event refused = refused

-- the first of two lists with one more at the end
front_same : {X : Type 0} (xs ys : List X) (x y : X) → xs ++ x ∷ [] ≡ ys ++ y ∷ [] → length ys ≡ length xs
front_same xs ys x y e =
    let a = length-append xs (x ∷ []) in
    let b = length-append ys (y ∷ []) in
    let same = ap length e in
    omega (arith, a, b, same)

-- what holds for all octets that are told, and for some
for_octets : (left : Option (List ℕ)) (P : List ℕ → Type 0) → ((octets : List ℕ) → left ≡ Some octets → P octets) → (octets : List ℕ) × P octets
    → ForOctets left P
for_octets None P told any = any
for_octets (Some octets) P told any = told octets refl

-- the octets that were read have the events in their first lines
pub gave_some : {B : Type 0} {source : sources.Ghosts B} {network : Network} {first : B} {events : List Event}
    {now : B} {trace : Trace} → GaveEvents source network first events now trace
    → ForOctets (source.left first) (λ octets. AreAdmitted network octets events)
gave_some {source} {network} {first} {events} gave =
    for_octets (source.left first) (λ octets. AreAdmitted network octets events) (λ octets told. (gave.reads octets told).2.admitted)
    (gave.any.0 ++ [], (gave.any.1 [] (λ _. refl)).admitted)

-- where it stopped at a fault, that is the fault
stop_at : (network : Network) (octets : List ℕ) (events : List Event) (stop : TraceStop) (trace : Trace) (left : List ℕ)
    → ReadsOn network octets events (Err stop) trace left → IsStopAt network events (behind_lines (length events) octets) stop
stop_at network octets events (Fault fault) trace left o = o
stop_at network octets events ReadFault trace left o = tt
stop_at network octets events WriteFault trace left o = tt

-- what a call for the next event tells
pub record TellsNext {B K : Type 0} (source : sources.Ghosts B) (sink : sinks.Ghosts K) (from now : B) (old new : Trace)
    (result : Result (Option Event) TraceStop) (before after : K) : Type 0 where
  pub follows : (network : Network) (events : List Event) → Follows network events old → GoesOn network events result new
  pub takes : TakesNext old (source.left from) result new (source.left now)
  pub unchanged : result ≢ Err ReadFault → source.faults now ≡ source.faults from
  pub failed_rose : result ≡ Err ReadFault → ReadFailed source from now
  pub passed : result ≡ Err ReadFault → IsPassedOn (shown_by sink after)
  pub quiet : result ≢ Err WriteFault → sink.faults after ≡ sink.faults before
  pub unpassed : result ≡ Err WriteFault → PutFailed sink before after

module _ {B K : Type 0} (source : sources.Ghosts B) (sink : sinks.Ghosts K) (network : Network) (first : B) (origin : Trace) (events : List Event)
    (from now : B) (old new : Trace) (before after : K) (gave : GaveEvents source network first events from old) where
  few_now : (result : Result (Option Event) TraceStop) → TakesNext old (source.left from) result new (source.left now) → (octets : List ℕ)
      → source.left first ≡ Some octets → IfSome (source.left now) (TakesFew octets (length events))
  few_now result takes octets told = let h = gave.reads octets told in takes.few network octets events h.0 h.1 h.2

  more_any : (result : Result (Option Event) TraceStop) → TakesNext old (source.left from) result new (source.left now)
      → ReadsMore network gave.any.0 events result new
  more_any result takes = takes.any network gave.any.0 events gave.any.1

  pub trace_gives : (result : Result (Option Event) TraceStop) → TellsNext source sink from now old new result before after
      → GivesNext (λ at f o es n it. GaveEvents source at f es n it) (λ at f o es n it. EndedBehind source at f es n)
      (λ at f o es stop n it b a. StoppedBehind source sink at f es stop n it b a) (λ (it : Trace). 2 ^ 32 - it.lines) network first origin events result now
      old new before after
  trace_gives (Ok (Some event)) t =
      let gives = t.follows network events gave.follows in (
        may_give gives,
        fewer_lines gave.follows gives,
        record {
          follows = gives.follows;
          reads = λ octets told. let h = gave.reads octets told in t.takes.reads network octets events h.0 h.1 h.2;
          any = let m = more_any (Ok (Some event)) t.takes in (gave.any.0 ++ m.more, λ left none. (m.reads left none).1);
          few = λ front last same octets told.
              subst (λ n. IfSome (source.left now) (TakesFew octets n)) (sym (front_same events front event last same))
              (few_now (Ok (Some event)) t.takes octets told);
          calm = t.unchanged (λ is. cc) ∙ gave.calm;
        },
      )
  trace_gives (Ok None) t = (
    (t.follows network events gave.follows).0,
    record {
      all = λ octets told.
          let h = gave.reads octets told in
          let o = t.takes.reads network octets events h.0 h.1 h.2 in (o.0, o.1, h.2.admitted, o.2.0);
      some = for_octets (source.left first) (λ octets. AreAdmitted network octets events × (behind_lines (length events) octets ≡ []))
          (λ octets told.
          let h = gave.reads octets told in
          let o = t.takes.reads network octets events h.0 h.1 h.2 in (h.2.admitted, o.2.0))
          (let m = more_any (Ok None) t.takes in
          let r = m.reads [] (λ _. refl) in ((gave.any.0 ++ m.more) ++ [], (r.0, r.1.0)));
      few = few_now (Ok None) t.takes;
    },
  )
  trace_gives (Err stop) t = record {
    reads = λ octets told.
        let h = gave.reads octets told in
        let o = t.takes.reads network octets events h.0 h.1 h.2 in (o.0, o.1, h.2.admitted, o.2);
    some = for_octets (source.left first) (λ octets. AreAdmitted network octets events × IsStopAt network events (behind_lines (length events) octets) stop)
        (λ octets told.
        let h = gave.reads octets told in
        let o = t.takes.reads network octets events h.0 h.1 h.2 in (h.2.admitted, stop_at network octets events stop new o.0 o.2))
        (let m = more_any (Err stop) t.takes in
        let r = m.reads [] (λ _. refl) in
        ((gave.any.0 ++ m.more) ++ [], (r.0, stop_at network ((gave.any.0 ++ m.more) ++ []) events stop new [] r.1)));
    few = few_now (Err stop) t.takes;
    lines = (t.follows network events gave.follows).lines;
    read = λ is. (
      subst (λ n. Rose n (source.faults now)) gave.calm (t.failed_rose (ap Err is)),
      t.passed (ap Err is),
    );
    write = λ is. t.unpassed (ap Err is);
    quiet = λ not. t.quiet (λ is. not (let same : stop ≡ WriteFault = cc in same));
  }

-- nothing was given
pub gave_none : {B : Type 0} (source : sources.Ghosts B) {network : Network} (now : B) {trace : Trace}
    → Follows network [] trace → ((octets : List ℕ) → Reads network octets [] trace octets)
    → GaveEvents source network now [] now trace
gave_none source now follows reads = record {
  follows = follows;
  reads = λ octets told. (octets, told, reads octets);
  any = ([], λ left none. reads left);
  few = λ front last same octets told. absurd (let e = ap length same in let long = length-append front (last ∷ []) in omega (arith, e, long));
  calm = refl;
}

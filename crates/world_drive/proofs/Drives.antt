-- A drive goes on, with more records seen by an observer, or ends.
use Rattle.std.proofs.{Common.{Bool, Result, false, length-append}, KnownBytes.{Appends-nil, Appends-trans}}
use Rattle.run_law.proofs.runs.Places.{before_later_time}
use Rattle.tte_io.specs.{Faults.Rose, declared.ends.Sink.Ghosts}
use Rattle.world_drive.proofs.{Earlier.{earlier_at, earlier_joined, records_none, up_to_end}}
use Rattle.world_drive.proofs.{exact_lemmas.{Events.ended_at, Given.amount_after}}
use Rattle.world_drive.proofs.Words
use Words.{◌++◌, ◌+ℤ◌, ◌+◌, ◌<ℤ◌, ◌<◌, ◌^◌, ◌∙◌, ◌∷◌, ◌≡◌, ◌≤ℤ◌, ◌≤◌, AreEarlier, AreRecordsBefore, AreRecordsSoFar}
use Words.{Cut, CutsAtEvent, CutsBefore, Err, Event, ExactWorld, IsAsked, List, MayGive, Network, None, Note, Ok}
use Words.{Option, Sees, SeesEvent, SeesUntil, Some, StandsExact, Start, Stops, Told, Units, [], amount, ap, append-nil}
use Words.{append_assoc, arith, inl, inr, ints, last_is, last_time, length, pos, refl, subst, sym, told_by, true}
use Words.{units_of, ℕ}
use Rattle.world_drive.specs.{Driving.{DrivesAll, DrivesCut, DrivesSoFar, HasSeenSoFar}}
use Rattle.world_drive.specs.{Observing.{FailsBy, Grows, PutsFurther, start_by}}
use Rattle.world_drive.specs.{Seeing.{ComesNext, HasSeen, MayMeet, SeesInstant}}
use Rattle.world_drive.specs.{Sources.{Gave, GivesNext, Stopped, given_in}}
use Rattle.world_drive.specs.{declared.observing.Cut.TheVariants.{OutOfMemory, WriteFault}}
use Rattle.world_drive.specs.{exact.{Records.{AreAllRecords, HaveEnded}, Worlds.IsReached}}

-- ---- more records seen by an observer: what was put

-- some was put, and no call of the sink failed
pub record PutsSoFar {K : Type 0} (sink : Ghosts K) (old new : K) : Type 0 where
  pub grew : Grows (told_by sink old) (told_by sink new)
  pub quiet : sink.faults new ≡ sink.faults old

pub puts_none : {K : Type 0} (sink : Ghosts K) (out : K) → PutsSoFar sink out out
puts_none sink out = record { grew = ([], Appends-nil (sink.written out)); quiet = refl }

pub grows_on : (old now new : Told) → Grows old now → Grows now new → Grows old new
grows_on old now new a b = (a.0 ++ b.0, Appends-trans old.written now.written new.written a.0 b.0 a.1 b.1)

pub puts_more : {K T : Type 0} {sink : Ghosts K} (x : T) {old now new : K} → PutsSoFar sink old now
    → PutsFurther {T = T} sink (Ok x) now new → PutsSoFar sink old new
puts_more {sink} x {old} {now} {new} a b =
    record { grew = grows_on (told_by sink old) (told_by sink now) (told_by sink new) a.grew b.grew; quiet = b.quiet ∙ a.quiet }

pub fails_on : {K : Type 0} (sink : Ghosts K) (e : Cut) (old now new : K) → sink.faults now ≡ sink.faults old → FailsBy sink now new e → FailsBy sink old new e
fails_on sink WriteFault old now new still f = subst (λ n. Rose n (sink.faults new)) still f
fails_on sink OutOfMemory old now new still f = f ∙ still

pub puts_on : {K T : Type 0} {sink : Ghosts K} (r : Result T Cut) {old now new : K} → PutsSoFar sink old now
    → PutsFurther sink r now new → PutsFurther sink r old new
puts_on {sink} (Ok x) {old} {now} {new} a b = record {
  grew = grows_on (told_by sink old) (told_by sink now) (told_by sink new) a.grew b.grew;
  quiet = b.quiet ∙ a.quiet;
  cause = tt {0};
}
puts_on {sink} (Err e) {old} {now} {new} a b = record {
  grew = grows_on (told_by sink old) (told_by sink now) (told_by sink new) a.grew b.grew;
  quiet = tt {0};
  cause = fails_on sink e old now new a.quiet b.cause;
}

-- where it went well, or where no call of the sink was the cause
pub puts_well : {K T : Type 0} {sink : Ghosts K} (x : T) {old new : K} → PutsSoFar sink old new
    → PutsFurther {T = T} sink (Ok x) old new
puts_well x a = record { grew = a.grew; quiet = a.quiet; cause = tt {0} }

pub puts_cut : {K T U : Type 0} {sink : Ghosts K} (e : Cut) {old now new : K} → PutsSoFar sink old now
    → PutsFurther {T = T} sink (Err e) now new → PutsFurther {T = U} sink (Err e) old new
puts_cut {sink} e {old} {now} {new} a b = record {
  grew = grows_on (told_by sink old) (told_by sink now) (told_by sink new) a.grew b.grew;
  quiet = tt {0};
  cause = fails_on sink e old now new a.quiet b.cause;
}

pub puts_so_far : {K T : Type 0} {sink : Ghosts K} (x : T) {old new : K} → PutsFurther {T = T} sink (Ok x) old new
    → PutsSoFar sink old new
puts_so_far x a = record { grew = a.grew; quiet = a.quiet }

-- memory ran out, and no call of the sink was the cause
pub puts_memory : {K T : Type 0} {sink : Ghosts K} {old new : K} → PutsSoFar sink old new
    → PutsFurther {T = T} sink (Err OutOfMemory) old new
puts_memory a = record { grew = a.grew; quiet = tt {0}; cause = a.quiet }

-- ---- one record after another

-- more records are seen, which are earlier than a time
pub record HasSeenMore {O : Type 0} (see : Sees O) (network : Network) (events : List Event) (notes : List Note) (instant : Option ℕ) (until : ℕ)
    (world : ExactWorld) (observer : O) (old : Start O) (put : Told) : Type 0 where
  pub more : List Note
  pub stands : StandsExact network world events (notes ++ more)
  pub sees : see network events (notes ++ more) instant old put observer
  pub earlier : AreEarlier network events notes more until

pub seen_none : {O : Type 0} (see : Sees O) {network : Network} {events : List Event} {notes : List Note}
    (instant : Option ℕ) (until : ℕ) {world : ExactWorld} (observer : O) (old : Start O) (put : Told)
    → StandsExact network world events notes → see network events notes instant old put observer
    → HasSeenMore see network events notes instant until world observer old put
seen_none see {network} {events} {notes} instant until {world} observer old put a b = record {
  more = [];
  stands = subst (λ ns. StandsExact network world events ns) (sym (append-nil notes)) a;
  sees = subst (λ (ns : List Note). see network events ns instant old put observer) (sym (append-nil notes)) b;
  earlier = inl refl;
}

module _ {O : Type 0} (see : Sees O) (network : Network) (events : List Event) (notes : List Note) (instant : Option ℕ) (until : ℕ) (world : ExactWorld)
    (observer : O) (old : Start O) (now : Told) (h : HasSeenMore see network events notes instant until world observer old now) where
  -- the world gave one more
  module _ (note : Note) (next : ExactWorld) (lt : next.now < until) (stands : StandsExact network next events ((notes ++ h.more) ++ note ∷ [])) where
    joined : (notes ++ h.more) ++ note ∷ [] ≡ notes ++ (h.more ++ note ∷ [])
    joined = append_assoc notes h.more (note ∷ [])

    stands_joined : StandsExact network next events (notes ++ (h.more ++ note ∷ []))
    stands_joined = subst (λ ns. StandsExact network next events ns) joined stands

    pub seen_one : (later : O) (put : Told) → see network events ((notes ++ h.more) ++ note ∷ []) instant old put later
        → HasSeenMore see network events notes instant until next later old put
    seen_one later put sees = record {
      more = h.more ++ note ∷ [];
      stands = stands_joined;
      sees = subst (λ (ns : List Note). see network events ns instant old put later) joined sees;
      earlier = earlier_at network events notes (h.more ++ note ∷ []) until lt stands_joined;
    }

    pub cut_one : (stop : Stops O) (cut : Cut) (put : Told) → stop network events ((notes ++ h.more) ++ note ∷ []) cut old put
        → CutsBefore stop network events notes until cut old put
    cut_one stop cut put stops = record {
      more = h.more ++ note ∷ [];
      earlier = earlier_at network events notes (h.more ++ note ∷ []) until lt stands_joined;
      stops = subst (λ (ns : List Note). stop network events ns cut old put) joined stops;
    }

    further : (more : List Note) → ((notes ++ h.more) ++ note ∷ []) ++ more ≡ notes ++ ((h.more ++ note ∷ []) ++ more)
    further more = ap (λ (ns : List Note). ns ++ more) joined ∙ append_assoc notes (h.more ++ note ∷ []) more

    -- the instant of this record was seen to its end
    pub seen_instant : (time : Units) (past : ExactWorld) (later : O) (put : Told) → amount time + 1 ≤ until
        → SeesInstant see network events ((notes ++ h.more) ++ note ∷ []) time past later old put
        → HasSeenMore see network events notes None until past later old put
    seen_instant time past later put le s = record {
      more = (h.more ++ note ∷ []) ++ s.more;
      stands = subst (λ ns. StandsExact network past events ns) (further s.more) s.stands;
      sees = subst (λ (ns : List Note). see network events ns None old put later) (further s.more) s.sees;
      earlier =
          inr (
            (amount time + 1) ∷ [],
            λ p b. before_later_time p (amount time + 1) until le b,
            subst (AreRecordsBefore network events ((amount time + 1) ∷ [])) (further s.more) s.all,
          );
    }

    -- the observer failed in it
    pub cut_in_instant : (stop : Stops O) (cut : Cut) (from : ℕ) (put : Told) → from ≤ until
        → CutsBefore stop network events ((notes ++ h.more) ++ note ∷ []) from cut old put → CutsBefore stop network events notes until cut old put
    cut_in_instant stop cut from put le k = record {
      more = (h.more ++ note ∷ []) ++ k.more;
      earlier =
          earlier_joined network events notes (h.more ++ note ∷ []) k.more from until le lt stands_joined
          (subst (λ ns. AreEarlier network events ns k.more from) joined k.earlier);
      stops = subst (λ (ns : List Note). stop network events ns cut old put) (further k.more) k.stops;
    }

  -- ---- no more were given

  pub cut_here : (stop : Stops O) (cut : Cut) → stop network events (notes ++ h.more) cut old now → CutsBefore stop network events notes until cut old now
  cut_here stop cut stops = record { more = h.more; earlier = h.earlier; stops = stops }

-- all were seen
pub seen_until : {O : Type 0} {see : Sees O} {network : Network} {events : List Event} {notes : List Note}
    (until : Units) (from : ExactWorld) {world next : ExactWorld} {observer : O} {old : Start O} {now : Told}
    (h : HasSeenMore see network events notes None (amount until) world observer old now)
    → StandsExact network next events ((notes ++ h.more) ++ [])
    → (from.ended ≡ true → pos from.now <ℤ until.0 → AreRecordsBefore network events (amount until ∷ []) (notes
    ++ h.more)) → SeesUntil see network events notes until from next observer old now
seen_until {network} {events} {notes} until from {next} h stands all = record {
  more = h.more;
  stands = subst (λ ns. StandsExact network next events ns) (append-nil (notes ++ h.more)) stands;
  sees = h.sees;
  earlier = h.earlier;
  all = all;
}

-- ---- a drive goes on, or ends: what a source gave

module _ {B S K E : Type 0} (gave ended : Gave B E) (stopped : Stopped B S K E) (left : E → ℕ) (network : Network)
    (first : B) (origin : E) (events : List Event) (more : Bool) (event : Event) (from : B) (old new : E) where
  pub given_one : (before after : K) → more ≡ true → GivesNext gave ended stopped left network first origin events
      (given_in (Ok more) event) from old new before after → MayGive network events event × (left new < left old)
      × gave network first origin (events ++ event ∷ []) from new
  given_one before after is p =
      subst (λ (q : Bool). GivesNext gave ended stopped left network first origin events (given_in (Ok q) event) from
      old new before after) is p

  pub given_end : (before after : K) → more ≡ false → GivesNext gave ended stopped left network first origin events
      (given_in (Ok more) event) from old new before after
      → HaveEnded events × ended network first origin events from new
  given_end before after is p =
      subst (λ (q : Bool). GivesNext gave ended stopped left network first origin events (given_in (Ok q) event) from
      old new before after) is p

-- ---- a drive goes on

-- the events given befell the world, and the records up to that of the last are seen
pub record IsDriving {B K E O : Type 0} (sink : Ghosts K) (give : Gave B E) (see : Sees O) (network : Network) (first : B) (origin : E) (begun_by : O)
    (from : B) (source : E)
    (world : ExactWorld) (observer : O) (time : Units) (line : ℕ) (old now : K) : Type 0 where
  pub events : List Event
  pub notes : List Note
  pub gave : give network first origin events from source
  pub stands : StandsExact network world events notes
  pub so_far : AreRecordsSoFar network events notes
  pub sees : see network events notes None (start_by sink old begun_by) (told_by sink now) observer
  pub last : time ≡ last_time events
  pub reached : IsReached world time
  pub number : line ≡ length events
  pub puts : PutsSoFar sink old now

pub driving_first : {B K E O : Type 0} (sink : Ghosts K) (give : Gave B E) (see : Sees O) {network : Network}
    (from : B) (source : E) {world : ExactWorld} (observer : O) (time : Units) (line : ℕ) (out : K)
    → StandsExact network world [] [] → (world.now ≡ 0) × (world.early ≡ true)
    → give network from source [] from source → see network [] [] None (start_by sink out observer)
    (told_by sink out) observer → time ≡ units_of 0 → line ≡ 0
    → IsDriving sink give see network from source observer from source world observer time line out out
driving_first sink give see {network} from source observer time line out stands fresh gave sees zero none = record {
  events = [];
  notes = [];
  gave = gave;
  stands = stands;
  so_far = records_none network;
  sees = sees;
  last = zero;
  reached = record { now = ap pos fresh.0 ∙ sym (ap (λ (u : Units). u.0) zero); early = fresh.1 };
  number = none;
  puts = puts_none sink out;
}

module _ {B K E O : Type 0} {sink : Ghosts K} {give : Gave B E} {see : Sees O} {network : Network} {first : B} {origin : E} {begun_by : O} {from : B}
    {source : E} {world : ExactWorld}
    {observer : O} {time : Units} {line : ℕ} {old now : K}
    (d : IsDriving sink give see network first origin begun_by from source world observer time line old now) where
  -- the time is in the range of runs
  pub begun : pos 0 ≤ℤ time.0
  begun = let at = d.reached.now in omega (arith, ints, at)

  pub in_range : time.0 ≤ℤ pos (2 ^ 60)
  in_range = let at = d.reached.now in let limit = d.stands.is.limit in omega (arith, ints, at, limit)

  reached_last : IsReached world (last_time d.events)
  reached_last = subst (IsReached world) d.last d.reached

  -- ---- the source was asked for the next event

  module _ (then_ : K) (told : told_by sink then_ ≡ told_by sink now) where
    pub sees_then : see network d.events d.notes None (start_by sink old begun_by) (told_by sink then_) observer
    sees_then = subst (λ (t : Told). see network d.events d.notes None (start_by sink old begun_by) t observer) (sym told) d.sees

    -- it stopped
    pub drives_so_far : {S : Type 0} (stop : Stopped B S K E) (cause : S) (later : B) (next : E) → stop network first origin d.events cause later next now then_
        → DrivesSoFar sink stop see network first origin cause later next begun_by observer old then_
    drives_so_far stop cause later next stopped = record {
      events = d.events;
      notes = d.notes;
      before = now;
      quiet = d.puts.quiet;
      stopped = stopped;
      so_far = d.so_far;
      sees = sees_then;
    }

    -- and it had when more was put
    pub seen_so_far : (new : K) → Grows (told_by sink then_) (told_by sink new) → HasSeenSoFar sink see network d.events begun_by old new
    seen_so_far new grew = record {
      notes = d.notes;
      records = d.so_far;
      observer = observer;
      between = told_by sink then_;
      sees = sees_then;
      grew = grew;
    }

    grew_then : Grows (told_by sink old) (told_by sink then_)
    grew_then = subst (λ t. Grows (told_by sink old) t) (sym told) d.puts.grew

    -- the observer has seen all before it
    pub seen_then : HasSeen see network world observer (told_by sink then_)
    seen_then = record { events = d.events; notes = d.notes; old = start_by sink old begun_by; stands = d.stands; sees = sees_then }

    module _ (still : sink.faults then_ ≡ sink.faults now) where
      quiet_then : sink.faults then_ ≡ sink.faults old
      quiet_then = still ∙ d.puts.quiet

      pub puts_then : PutsSoFar sink old then_
      puts_then = record { grew = grew_then; quiet = quiet_then }

      -- ---- it gave one

      module _ (event : Event) (may : MayGive network d.events event) where
        pub comes_next : ComesNext network world d.events d.notes event
        comes_next = record { stands = d.stands; so_far = d.so_far; may = may; reached = reached_last }

        pub may_meet : (number : ℕ) → number ≡ line + 1 → MayMeet see network world number event observer (told_by sink then_)
        may_meet number one = record {
          events = d.events;
          notes = d.notes;
          old = start_by sink old begun_by;
          next = comes_next;
          number = one ∙ ap (λ m. m + 1) d.number;
          sees = sees_then;
        }

        pub drives_on : (later : B) (next : E) (after : ExactWorld) (other : O) (number : ℕ) (new : K) → number ≡ line + 1
            → give network first origin (d.events ++ event ∷ []) later next
            → SeesEvent see network d.events d.notes event after other (start_by sink old begun_by) (told_by sink new) → IsReached after event.time
            → PutsSoFar sink old new → IsDriving sink give see network first origin begun_by later next after other event.time number old new
        drives_on later next after other number new one gave s reached puts = record {
          events = d.events ++ event ∷ [];
          notes = d.notes ++ s.more;
          gave = gave;
          stands = s.stands;
          so_far = s.so_far;
          sees = s.sees;
          last = sym (last_is d.events event);
          reached = reached;
          number = let own = d.number in let longer = length-append d.events (event ∷ []) in omega (arith, one, own, longer);
          puts = puts;
        }

        pub cut_at_event : (end : Gave B E) (stop : Stops O) (cut : Cut) (later : B) (next : E) (new : K)
            → give network first origin (d.events ++ event ∷ []) later next
            → CutsAtEvent stop network d.events d.notes event cut (start_by sink old begun_by) (told_by sink new)
            → PutsFurther {T = Unit {0}} sink (Err cut) then_ new → DrivesCut sink give end see stop network first origin cut later next begun_by old new
        cut_at_event end stop cut later next new gave k puts = record {
          events = d.events;
          so_far = seen_so_far new puts.grew;
          next = Some event;
          befallen = k.befallen;
          notes = d.notes ++ k.more;
          at = (gave, k.whether);
          stops = k.stops;
          cause = fails_on sink cut old then_ new quiet_then puts.cause;
        }

      -- ---- it gave the end before

      module _ (have : HaveEnded d.events) (until : Units) (after : until.0 ≡ time.0 +ℤ pos 1) where
        ended_now : (end : Units) × (world.ended ≡ true) × (end.0 ≡ time.0)
        ended_now =
            let e = ended_at d.events have in
            let is = (d.stands.is.ended e.0).0 e.1 in (e.0, is.0, is.1 ∙ d.reached.now)

        pub asked_end : IsAsked world until
        asked_end =
            let now_ = d.reached.now in
            let limit = d.stands.is.limit in
            record {
              order = omega (arith, ints, now_, after);
              ended = λ is. omega (arith, ints, now_, after);
              unended = λ open_. absurd (let ended = ended_now.1 in cc);
            }

        until_is : amount until ≡ amount (last_time d.events) + 1
        until_is = amount_after time until begun after ∙ ap (λ t. amount t + 1) d.last

        all_records : (notes : List Note) → AreRecordsBefore network d.events (amount until ∷ []) notes → AreAllRecords network d.events notes
        all_records notes run =
            let e = ended_at d.events have in
            let is = (d.stands.is.ended e.0).0 e.1 in
            let same : e.0.0 ≡ time.0 = is.1 ∙ d.reached.now in
            let begun_end : pos 0 ≤ℤ e.0.0 = let at = begun in omega (arith, ints, at, same) in
            let next : until.0 ≡ e.0.0 +ℤ pos 1 = omega (arith, ints, same, after) in
            (e.0, e.1, subst (λ (n : ℕ). AreRecordsBefore network d.events (n ∷ []) notes) (amount_after e.0 until begun_end next) run)

        pub drives_all : (end : Gave B E) (later : B) (next : E) (past : ExactWorld) (other : O) (new : K) → end network first origin d.events later next
            → SeesUntil see network d.events d.notes until world past other (start_by sink old begun_by) (told_by sink new)
            → PutsFurther {T = Unit {0}} sink (Ok (tt {0})) then_ new → DrivesAll sink end see network first origin later next past begun_by other old new
        drives_all end later next past other new ended s puts = record {
          events = d.events;
          notes = d.notes ++ s.more;
          ended = ended;
          have_ended = have;
          stands = s.stands;
          records = all_records (d.notes ++ s.more) (s.all ended_now.1 (let at = d.reached.now in omega (arith, ints, at, after)));
          sees = s.sees;
          so_far = seen_so_far new puts.grew;
          quiet = puts.quiet ∙ quiet_then;
        }

        pub cut_at_end : (end : Gave B E) (stop : Stops O) (cut : Cut) (later : B) (next : E) (new : K) → end network first origin d.events later next
            → CutsBefore stop network d.events d.notes (amount until) cut (start_by sink old begun_by) (told_by sink new)
            → PutsFurther {T = Unit {0}} sink (Err cut) then_ new → DrivesCut sink give end see stop network first origin cut later next begun_by old new
        cut_at_end end stop cut later next new ended k puts = record {
          events = d.events;
          so_far = seen_so_far new puts.grew;
          next = None;
          befallen = d.events;
          notes = d.notes ++ k.more;
          at = (
            ended,
            have,
            refl,
            up_to_end network d.events d.notes k.more d.so_far
                (subst (λ n. AreEarlier network d.events d.notes k.more n) until_is k.earlier),
          );
          stops = k.stops;
          cause = fails_on sink cut old then_ new quiet_then puts.cause;
        }

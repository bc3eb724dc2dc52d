-- A report is swept line by line, where its events were found before.
use Rattle.std.{proofs.Common.{suc, zero}, specs.{Borrow.Bor, Prelude.{◌==◌, IfSome, None, Ok, Option, Result, Some}}}
use Rattle.audit_sweep.specs.{Judging.Befalls, Sweeping.IsSwept, declared.sweep.Sweep.Sweep}
use Rattle.report_text.proofs.SameReports.{same_note}
use Rattle.tte_audit.proofs.{Meet.apart_of, Telling.goes_by}
use Rattle.tte_audit.proofs.ReportText
use ReportText.{IsUnderWay, befalls_there, begins_more, begins_none, events_on, line_of, next_record, one_text}
use ReportText.{right_none, right_on, swept_on, unfounded_at}
use Rattle.tte_audit.proofs.Words
use Words.{◌++◌, ◌+◌, ◌<◌, ◌∙◌, ◌∷◌, ◌≡◌, ◌⊎◌, AreEventsRight, BeginsWith, BeginsWithLine, BeginsWithRecord, Bool}
use Words.{EndWith, Event, Follows, IsRefusedBy, List, MayCome, Network, Note, NoteBody, Units, [], ap, append-nil}
use Words.{append_assoc, arith, codes, events_of, false, happenings, inl, inr, length, length-append, note_line}
use Words.{note_text, refl, subst, sym, with_event, ℕ}
use Rattle.tte_audit.specs.{LineSwept.{IsLineRefused, IsLineSwept, IsTaken}, Named.IsNamed}
use Rattle.tte_audit.specs.{Report.{HasNoEvent, IsNextLine, IsOfEvents}, Swift.{AreAt, IsAt, IsSought, IsSoughtOn}}
use Rattle.tte_audit.specs.{declared.{refusal.AuditRefusal.AuditRefusal, swift.EventSearch.EventSearch}}
use Rattle.run_law.specs.declared.note.NoteBody.TheVariants as bodies
use Rattle.tte_audit.specs.declared.refusal.AuditRefusal.TheVariants as refusals

-- ---- the events of a report are found before its records are read

-- two ends of some octets that are as long are one
pub one_end : (front other rest more : List ℕ) → front ++ rest ≡ other ++ more → length rest ≡ length more → rest ≡ more
one_end [] [] rest more e long = e
one_end [] (o ∷ os) rest more e long = absurd (omega (arith, long, ap length e, length-append (o ∷ os) more))
one_end (f ∷ fs) [] rest more e long = absurd (omega (arith, long, ap length e, length-append (f ∷ fs) rest))
one_end (f ∷ fs) (o ∷ os) rest more e long = let tails : fs ++ rest ≡ os ++ more = cc in one_end fs os rest more tails long

-- the record whose line comes first is one
pub one_record : {network : Network} {note other : Note} {octets left rest : List ℕ} → IsNamed network
    → BeginsWithRecord network note octets left → BeginsWithRecord network other octets rest → note ≡ other
one_record {network} {note} {other} {octets} {left} {rest} named a b =
    let own = line_of network note note.number octets left a refl in
    let its = line_of network other other.number octets rest b refl in
    let text : note_text network note ≡ note_text network other = one_text network note.number other.number octets left rest named own its in
    same_note network note other (apart_of named) (record { of_network = a.of_network; in_range = a.in_range })
    (record { of_network = b.of_network; in_range = b.in_range }) text

module _ (network : Network) (report : List ℕ) where
  at_more : (places : List ℕ) {place : ℕ} (notes : List Note) {note : Note} → AreAt network report places notes
      → IsAt network report place note → AreAt network report (places ++ place ∷ []) (notes ++ note ∷ [])
  at_more [] [] old new = (new, tt)
  at_more [] (n ∷ ns) old new = absurd old
  at_more (p ∷ ps) [] old new = absurd old
  at_more (p ∷ ps) (n ∷ ns) old new = (old.0, at_more ps ns old.1 new)

  -- no events
  pub none_sought : (sought : EventSearch) → sought.places.items ≡ []
      → Follows network sought.befallen.watch sought.befallen.history sought.befallen.count sought.befallen.end []
      → IsSought network report [] sought
  none_sought sought none follows = record {
    right = right_none network;
    follows = follows;
    placed = subst (λ ps. AreAt network report ps []) (sym none) tt;
  }

  -- one record more
  pub one_sought : (front : List ℕ) {octets left : List ℕ} {notes : List Note} {note : Note} {old : EventSearch}
      (new : EventSearch) → IsSought network report notes old → report ≡ front ++ octets
      → BeginsWithRecord network note octets left → MayCome network (events_of notes) note.time note.body
      → Follows network new.befallen.watch new.befallen.history new.befallen.count new.befallen.end
      (with_event (events_of notes) note.time note.body) → new.places.items ≡ old.places.items ++ length octets ∷ []
      → IsSoughtOn network report notes new
  one_sought front {octets} {left} {notes} {note} {old} new h parts begins may follows places = record {
    more = notes ++ note ∷ [];
    is = record {
      right = right_on network notes note h.right may;
      follows = subst (λ es. Follows network new.befallen.watch new.befallen.history
          new.befallen.count new.befallen.end es)
          (sym (events_on notes note)) follows;
      placed = subst (λ ps. AreAt network report ps (notes ++ note ∷ [])) (sym places)
          (at_more old.places.items {place = length octets} notes {note = note} h.placed
          (record { front = front; rest = octets; left = left; parts = parts; long = refl; begins = begins }));
    };
    few = omega (arith, length-append notes (note ∷ []));
  }

-- ---- a sweep goes on line by line

-- the record of the next line was taken
pub going_on : {network : Network} {octets rest left : List ℕ} {records : ℕ} {old : Sweep} (new : Sweep)
    {note : Note} → IsNamed network → IsUnderWay network octets records rest old
    → IsNextLine network (records + 1) rest left note → IsTaken network old new note
    → IsUnderWay network octets (records + 1) left new
going_on {network} {records} new {note} named under line taken =
    let next = next_record records named under.begins under.of.text under.counted line.begins line.numbered in
    let befalls = befalls_there network under.notes under.taken next.behind note under.of.right next.parts in
    let swept = taken (events_of under.notes) under.end (happenings network under.taken) under.swept befalls in
    record {
      notes = under.notes;
      end = under.end;
      of = under.of;
      taken = under.taken ++ note ∷ [];
      begins = next.begins;
      counted = omega (arith, under.counted, length-append under.taken (note ∷ []));
      swept = swept_on under.taken note swept;
    }

-- the record of the next line was refused
pub refused_line : {network : Network} {octets rest : List ℕ} {records : ℕ} {sweep : Sweep} → IsNamed network
    → IsUnderWay network octets records rest sweep → 0 < length rest → (refusal : AuditRefusal)
    → IsLineRefused network (records + 1) sweep rest refusal → IsRefusedBy network octets refusal
refused_line {network} {records} named under some (refusals.Unfounded n) h =
    let number = h.0 in
    let note = h.1 in
    let left = h.2 in
    let line = h.3 in
    let next = next_record records named under.begins under.of.text under.counted line.begins line.numbered in
    let befalls = befalls_there network under.notes under.taken next.behind note under.of.right next.parts in
    let unsound = h.4 (events_of under.notes) under.end (happenings network under.taken) under.swept befalls in
    unfounded_at under.taken next.behind note n under.of next.parts
    (number ∙ ap (λ k. k + 1) under.counted) under.swept.sound unsound
refused_line {network} {rest} named under some (refusals.Form n) h =
    record {
      before = under.taken;
      rest = rest;
      begins = under.begins;
      some = λ none. omega (arith, some, ap length none);
      number = h.0 ∙ ap (λ k. k + 1) under.counted;
      no_line = subst (λ k. BeginsWithLine network k rest → ⊥) (sym h.0) h.1;
    }
refused_line named under some refusals.OutOfMemory h = tt
refused_line named under some (refusals.Events n) h = absurd h
refused_line named under some (refusals.Lacking t) h = absurd h

-- no octets begin with no line
pub no_more_lines : {network : Network} {n : ℕ} {rest : List ℕ} → length rest ≡ 0 → BeginsWithLine network n rest → ⊥
no_more_lines {network} none h =
    omega (arith, none, ap length h.text, length-append (note_line network h.note) h.rest, length-append (note_text network h.note) (codes "\n"))

-- octets that are not none are some
pub some_octets : (n : ℕ) (b : Bool) → b ≡ (n == 0) → b ≡ false → 0 < n
some_octets zero b is off = absurd (cc (is, off))
some_octets (suc n) b is off = omega arith

-- ---- a report of which the events were found is swept line by line

-- of a report of which these are the events' records, these octets are left behind the records that were taken, and
-- the lines of the events to come are at these places
pub record IsOnWay (network : Network) (octets : List ℕ) (notes : List Note) (end : Units) (places : List ℕ) (records : ℕ) (rest : List ℕ)
    (sweep : Sweep) : Type 0 where
  pub front : List Note
  pub behind : List Note
  pub parts : notes ≡ front ++ behind
  pub awaited : AreAt network octets places behind
  pub taken : List Note
  pub begins : BeginsWith network octets taken rest
  pub counted : records ≡ length taken
  pub right : AreEventsRight network taken
  pub same : events_of taken ≡ events_of front
  pub swept : IsSwept network (events_of notes) end (happenings network taken) sweep

pub at_first : {network : Network} (octets : List ℕ) (notes : List Note) {end : Units} (places : List ℕ)
    {sweep : Sweep} → AreAt network octets places notes → IsSwept network (events_of notes) end [] sweep
    → IsOnWay network octets notes end places 0 octets sweep
at_first {network} octets notes places at swept = record {
  front = [];
  behind = notes;
  parts = refl;
  awaited = at;
  taken = [];
  begins = begins_none network octets;
  counted = refl;
  right = right_none network;
  same = refl;
  swept = swept;
}

quiet_befalls : (all : List Event) (time : Units) (body : NoteBody) → HasNoEvent body → Befalls all time body
quiet_befalls all time (bodies.Event line what) quiet = absurd quiet
quiet_befalls all time body quiet = tt

-- the next record has no event
pub quiet_on : {network : Network} {octets rest left : List ℕ} {notes : List Note} {end : Units} {places : List ℕ}
    {records : ℕ} {old : Sweep} (new : Sweep) {note : Note}
    → IsOnWay network octets notes end places records rest old → IsNextLine network (records + 1) rest left note
    → IsTaken network old new note → HasNoEvent note.body
    → IsOnWay network octets notes end places (records + 1) left new
quiet_on {network} {notes} {end} new {note} h line taken quiet =
    let by = goes_by network (events_of h.taken) note.time note.body quiet in
    let next : note.number ≡ length h.taken + 1 = line.numbered ∙ ap (λ k. k + 1) h.counted in
    record {
      front = h.front;
      behind = h.behind;
      parts = h.parts;
      awaited = h.awaited;
      taken = h.taken ++ note ∷ [];
      begins = begins_more h.begins line.begins next;
      counted = omega (arith, h.counted, length-append h.taken (note ∷ []));
      right = right_on network h.taken note h.right by.may;
      same = events_on h.taken note ∙ by.same ∙ h.same;
      swept = swept_on h.taken note
          (taken (events_of notes) end (happenings network h.taken) h.swept (quiet_befalls (events_of notes) note.time note.body quiet));
    }

-- the first of some places
record IsMet (network : Network) (octets : List ℕ) (place : ℕ) (places : List ℕ) (behind : List Note) : Type 0 where
  note : Note
  more : List Note
  parts : behind ≡ note ∷ more
  here : IsAt network octets place note
  awaited : AreAt network octets places more

met : (network : Network) (octets : List ℕ) (place : ℕ) (places : List ℕ) (behind : List Note) → AreAt network octets (place ∷ places) behind
    → IsMet network octets place places behind
met network octets place places [] at = absurd at
met network octets place places (n ∷ ns) at = record { note = n; more = ns; parts = refl; here = at.0; awaited = at.1 }

module _ {network : Network} (octets rest left : List ℕ) (notes : List Note) (end : Units) (places more : List ℕ)
    (records : ℕ) (old new : Sweep) (note : Note) (named : IsNamed network)
    (right : AreEventsRight network notes) where
  -- the next record is that whose line was found here
  pub event_on : IsOnWay network octets notes end places records rest old
      → IsNextLine network (records + 1) rest left note → IsTaken network old new note → places ≡ length rest ∷ more
      → IsOnWay network octets notes end more (records + 1) left new
  event_on h line taken first =
      let m = met network octets (length rest) more h.behind
      (subst (λ ps. AreAt network octets ps h.behind) first h.awaited) in
      let ended : m.here.rest ≡ rest =
      one_end m.here.front _ m.here.rest rest (sym m.here.parts ∙ h.begins.text) m.here.long in
      let same : m.note ≡ note = one_record named
      (subst (λ os. BeginsWithRecord network m.note os m.here.left) ended m.here.begins) line.begins in
      let parts : notes ≡ h.front ++ note ∷ m.more =
      h.parts ∙ ap (λ (ns : List Note). h.front ++ ns) m.parts ∙ ap (λ (n : Note). h.front ++ n ∷ m.more) same in
      let may : MayCome network (events_of h.taken) note.time note.body =
      subst (λ es. MayCome network es note.time note.body) (sym h.same)
      (right h.front m.more note parts) in
      let next : note.number ≡ length h.taken + 1 = line.numbered ∙ ap (λ k. k + 1) h.counted in
      record {
        front = h.front ++ note ∷ [];
        behind = m.more;
        parts = parts ∙ sym (append_assoc h.front (note ∷ []) m.more);
        awaited = m.awaited;
        taken = h.taken ++ note ∷ [];
        begins = begins_more h.begins line.begins next;
        counted = omega (arith, h.counted, length-append h.taken (note ∷ []));
        right = right_on network h.taken note h.right may;
        same = events_on h.taken note ∙ ap (λ es. with_event es note.time note.body) h.same ∙ sym
            (events_on h.front note);
        swept = swept_on h.taken note
            (taken (events_of notes) end (happenings network h.taken) h.swept
            (befalls_there network notes h.front m.more note right parts));
      }

  -- either of both
  pub goes_on : IsOnWay network octets notes end places records rest old
      → IsNextLine network (records + 1) rest left note → IsTaken network old new note
      → (HasNoEvent note.body × (more ≡ places)) ⊎ (places ≡ length rest ∷ more)
      → IsOnWay network octets notes end more (records + 1) left new
  goes_on h line taken (inl quiet) =
      subst (λ ps. IsOnWay network octets notes end ps (records + 1) left new) (sym quiet.1)
      (quiet_on new h line taken quiet.0)
  goes_on h line taken (inr first) =
      event_on h line taken first

-- ---- the end

-- all records were taken, and these are the events of the report
pub record IsAllTaken (network : Network) (octets : List ℕ) (end : Units) (records : ℕ) (sweep : Sweep) : Type 0 where
  pub taken : List Note
  pub of : IsOfEvents network octets taken end
  pub counted : records ≡ length taken
  pub swept : IsSwept network (events_of taken) end (happenings network taken) sweep

none_awaited : (network : Network) (octets : List ℕ) (places : List ℕ) (behind : List Note) → places ≡ [] → AreAt network octets places behind → behind ≡ []
none_awaited network octets [] [] none at = refl
none_awaited network octets [] (n ∷ ns) none at = absurd at
none_awaited network octets (p ∷ ps) behind none at = absurd cc

pub at_last : {network : Network} {octets rest : List ℕ} {notes : List Note} {end : Units} {places : List ℕ}
    {records : ℕ} {sweep : Sweep} → IsOnWay network octets notes end places records rest sweep
    → EndWith (events_of notes) end → rest ≡ [] → places ≡ [] → IsAllTaken network octets end records sweep
at_last {network} {octets} {notes} {end} {places} {sweep} h ends empty none =
    let all = none_awaited network octets places h.behind none h.awaited in
    let whole : notes ≡ h.front = h.parts ∙ ap (λ (ns : List Note). h.front ++ ns) all ∙ append-nil h.front in
    let events : events_of notes ≡ events_of h.taken = ap events_of whole ∙ sym h.same in
    record {
      taken = h.taken;
      of = record {
        text = subst (λ os. BeginsWith network octets h.taken os) empty h.begins;
        right = h.right;
        ends = subst (λ es. EndWith es end) events ends;
      };
      counted = h.counted;
      swept = subst (λ es. IsSwept network es end (happenings network h.taken) sweep) events h.swept;
    }

-- ---- what an answer tells

pub some_so : {X : Type 0} (o : Option X) (P Q : X → Type 0) → IfSome o P → ((x : X) → P x → Q x) → IfSome o Q
some_so None P Q h so = tt
some_so (Some x) P Q h so = so x h

pub line_gone : (network : Network) (number : ℕ) (old new : Sweep) (octets : List ℕ) (r : Result (Bor (List ℕ)) AuditRefusal) (left : Bor (List ℕ))
    → r ≡ Ok left → IsLineSwept network number old new octets r → IsLineSwept network number old new octets (Ok left)
line_gone network number old new octets r left is h = subst (λ x. IsLineSwept network number old new octets x) is h

-- What the observer of a way has put and keeps, by the records that it has seen.
use Rattle.std.specs.List.{last_or}
use Rattle.std.specs.Prelude.{if◌then◌else◌, ◌++◌, ◌^◌, ◌∷◌, ◌≡◌, ◌≤ℤ◌, ◌≤◌, ◌⊎◌, Bool, Err, IfErr, List, None, Ok}
use Rattle.std.specs.Prelude.{OnOk, Option, Result, Some, [], false, filter_map, map, pos, true, unwrap_or, ℕ}
use Rattle.{net_plan.specs.Belonging.HasLink, pcf_codec.specs.Encoded.encoded, tte_io.specs.declared.ends.Sink.Ghosts}
use Rattle.net_plan.specs.declared.{event.{Event.Event, What.What}, network.Network.Network, tables.Way.TheVariants.Up}
use Rattle.{net_plan.specs.declared.event.What.TheVariants.Send, run_law.specs.control.Wires.{Signal, control, timed}}
use Rattle.{net_plan.specs.declared.{ids.LinkId.LinkId, tables.Way.Way}, tte_units.specs.declared.units.Units.Units}
use Rattle.run_law.specs.{declared.note.{Note.Note, NoteBody.NoteBody}, scenario.Ways.{cut_set, is_way_of}}
use Rattle.run_law.specs.records.{Happenings.{Happening, happening, happenings, time_of}, Order.IsIn}
use Rattle.{tte_forms.specs.Putting.{PutFails, PutsLines}, tte_traces.specs.Report.{StopsLines, shown_as}}
use Rattle.{tte_io.specs.Faults.Rose, tte_units.specs.Amount.amount}
use Rattle.tte_observers.specs.captures.wires.Packets.{is_settled, packet_at, packets_of, scenario_under, settled}
use Rattle.tte_observers.specs.{captures.wires.Packets.unsettled, declared.captures.wires.capture.Capture.Capture}
use Rattle.world_drive.specs.{Observing.{Start, Told, told_by}, declared.observing.Cut.{Cut, TheVariants.WriteFault}}
use Rattle.run_law.specs.declared.note.NoteBody.TheVariants as notes

-- ---- puts

-- these lines were put, each in one put; or the put of one failed
pub record PutsAll {T K : Type 0} (sink : Ghosts K) (lines : List (List ℕ)) (result : Result T Cut)
    (old new : K) : Type 0 where
  pub all : OnOk result (PutsLines lines (shown_as (told_by sink old)) (shown_as (told_by sink new))
      × (sink.faults new ≡ sink.faults old))
  pub failed : IfErr result (λ cut. (cut ≡ WriteFault)
      × PutFails lines (shown_as (told_by sink old)) (shown_as (told_by sink new))
      × Rose (sink.faults old) (sink.faults new))

-- the octets of what is on a wire: a control frame is spelt with zero padding
abbrev pub IsSpelt : Signal → List ℕ → Type 0
IsSpelt (control (Ok frame)) octets = octets ≡ encoded frame
IsSpelt (control (Err refusal)) octets = ⊥
IsSpelt (timed given) octets = octets ≡ given

-- ---- the way up

-- is the way up of the link cut by the events, whenever they befell?
abbrev pub cut_after : LinkId → List Event → Bool
cut_after link events = unwrap_or (last_or None (filter_map (λ e. cut_set link Up e.what) events)) false

-- the octets of a record that sends some up the way
abbrev pub sent_by : LinkId → Way → List ℕ → NoteBody → Option (List ℕ)
sent_by link way octets (notes.Event line (Send other given)) =
    if is_way_of link way other Up then Some octets else None
sent_by link way octets other = None

abbrev pub sends_of : LinkId → Way → List Happening → List (List ℕ)
sends_of link way hs = filter_map (λ h. sent_by link way h.octets h.note.body) hs

-- the octets that an event sends up the way
abbrev pub octets_sent : LinkId → Way → What → List (List ℕ)
octets_sent link way (Send other given) = if is_way_of link way other Up then given ∷ [] else []
octets_sent link way other = []

-- the packets of octets that were sent up at a time, where the way is not cut
abbrev pub sent_packets : Bool → ℕ → List (List ℕ) → List (List ℕ)
sent_packets true t sends = []
sent_packets false t sends = map (packet_at t) sends

-- what befell is taken: the octets that it sends are kept, and whether the way up is cut
abbrev pub TakesWhat : What → Capture → Capture → Type 0
TakesWhat what old new =
    (new ≡ record old { cut = unwrap_or (cut_set old.link Up what) old.cut; sends = new.sends })
    × (new.sends.items ≡ old.sends.items ++ octets_sent old.link old.way what)

-- it has come to the time: it was there, or what waited was put
abbrev pub PassesTo : {K : Type 0} → Ghosts K → ℕ → Capture → Result (Unit {0}) Cut → Capture → K → K → Type 0
PassesTo sink time old result new before after =
    ((time ≡ old.time) × (result ≡ Ok tt) × (new ≡ old) × (after ≡ before))
    ⊎ ((time ≡ old.time → ⊥) × PutsAll sink (sent_packets old.cut old.time old.sends.items) result before after
    × OnOk result ((new ≡ record old { time = time; sends = new.sends }) × (new.sends.items ≡ [])))

-- ---- what was seen

-- the last record with its frame
abbrev pub last_happening : Network → List Note → Note → Happening
last_happening network records note = happening network (happenings network records) note

-- the time is that of a world
pub record IsTimely (time : Units) : Type 0 where
  pub begun : pos 0 ≤ℤ time.0
  pub limit : time.0 ≤ℤ pos (2 ^ 60)

-- the packets of the settled records were put, and of the others, which are those of the events of one time, the octets
-- are kept; the link and the way are those of the start
pub record SeesRecords (network : Network) (events : List Event) (hs : List Happening) (start : Start Capture)
    (put : Told) (it : Capture) : Type 0 where
  pub same_link : it.link ≡ start.observer.link
  pub same_way : it.way ≡ start.observer.way
  pub there : HasLink network it.link
  pub parts : hs ≡ settled hs ++ unsettled hs
  pub puts : PutsLines (packets_of (scenario_under network events) it.link it.way (settled hs)) (shown_as start.told)
      (shown_as put)
  pub sends : it.sends.items ≡ sends_of it.link it.way (unsettled hs)
  pub now : (h : Happening) → IsIn h (unsettled hs) → time_of h ≡ it.time
  pub past : (e : Event) → IsIn e events → amount e.time ≤ it.time
  pub cut : it.cut ≡ cut_after it.link events
  pub limit : it.time ≤ 2 ^ 60

abbrev pub SeesWay : Network → List Event → List Note → Start Capture → Told → Capture → Type 0
SeesWay network events records start put it = SeesRecords network events (happenings network records) start put it

-- a front of the records, all of them settled, was put, or some of it
pub record StopsRecords (network : Network) (events : List Event) (hs : List Happening) (cut : Cut)
    (start : Start Capture) (put : Told) : Type 0 where
  pub front : List Happening
  pub rest : List Happening
  pub parts : hs ≡ front ++ rest
  pub settled : (h : Happening) → IsIn h front → is_settled hs h ≡ true
  pub stops : StopsLines (packets_of (scenario_under network events) start.observer.link start.observer.way front) cut
      start.told put

abbrev pub StopsWay : Network → List Event → List Note → Cut → Start Capture → Told → Type 0
StopsWay network events records cut start put = StopsRecords network events (happenings network records) cut start put

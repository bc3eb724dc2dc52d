-- First laws of all runs.
use Rattle.std.specs.List.{All}
use Rattle.std.specs.Prelude.{◌+◌, ◌<◌, ◌∷◌, ◌≡◌, ◌≤ℤ◌, ◌⊎◌, IsSomeAnd, List, Some, [], false, length, pos, true, ℕ}
use Rattle.{drift_clock.specs.ClockLaws.KeepsClockLaws, run_law.specs.runs.DueRecords.IsScenarioRun}
use Rattle.{net_plan.specs.{Places.link_at, Ranges.IsInRange}, run_law.specs.declared.note.Note.Note}
use Rattle.net_plan.specs.declared.{event.{Event.Event, What.TheVariants.{Hold, Send}}, tables.Way.TheVariants.Up}
use Rattle.{net_plan.specs.declared.ids.{DeviceId.DeviceId, VlId.VlId}, run_law.specs.declared.note.NoteBody.NoteBody}
use Rattle.{net_plan.specs.declared.{ids.LinkId.LinkId, tables.Way.Way}, schedule_tables.specs.Rules.KeepsRules}
use Rattle.run_law.specs.{declared.judgement.Reason.{Reason, TheVariants.Off}, scenario.Hypothesis.AreWithinHypothesis}
use Rattle.run_law.specs.records.{Causes.{GoesBackTo, device_of}, Happenings.{Happening, happenings, numbered, time_of}}
use Rattle.{run_law.specs.records.Order.{IsBefore, IsIn}, tte_units.specs.{Amount.amount, declared.units.Units.Units}}
use Rattle.run_law.specs.scenario.{Faults.Cuts, Scenarios.{Scenario, is_broken}, Ways.{delay_at, hold_at, is_cut}}
use Rattle.run_law.specs.declared.note.NoteBody.TheVariants as notes

-- the event's time, and the hold that it sets, if it does, are not negative, as in the text of a trace
pub record IsEventInRange (event : Event) : Type 0 where
  pub time : pos 0 ≤ℤ event.time.0
  pub hold : (link : LinkId) (way : Way) (delay : Units) → event.what ≡ Hold link way delay → pos 0 ≤ℤ delay.0

-- each event that cuts a link cuts one of the network, as in the text of a trace: the first cut of no link would be one
-- of no channel, and the cuts behind it might be of both
abbrev pub CutsNameLinks : Scenario → Type 0
CutsNameLinks s =
    (event : Event) (link : LinkId) → IsIn event s.events → Cuts link event → link.0 < length s.network.link

-- an accepted network, under events within the fault hypothesis, with clocks that keep the clock laws and read 0 at
-- time 0
pub record IsLawful (s : Scenario) : Type 0 where
  pub range : IsInRange s.network
  pub rules : KeepsRules s.network
  pub events : All IsEventInRange s.events
  pub named : CutsNameLinks s
  pub within : AreWithinHypothesis s.network s.events
  pub clocks : (device : DeviceId) → KeepsClockLaws s.network.rho (amount s.network.grain) (s.reading device)
  pub begins : (device : DeviceId) → s.reading device 0 ≡ 0

-- the link leads from the master up to the switch
abbrev pub LeadsTo : Scenario → DeviceId → LinkId → DeviceId → Type 0
LeadsTo s master link switch = IsSomeAnd (link_at s.network link) (λ l. (l.child ≡ master) × (l.parent ≡ switch))

-- when a frame that is given to the link at a time leaves on its way up
abbrev pub leaving_time : Scenario → LinkId → ℕ → ℕ
leaving_time s link t = t + hold_at s link Up t

-- and when it then arrives
abbrev pub arrival_time : Scenario → LinkId → ℕ → ℕ
arrival_time s link t = leaving_time s link t + delay_at s link Up (leaving_time s link t)

-- the frame that left by the record of this number has come to the switch by the link: it arrived, or was dropped
-- for some reason
abbrev pub ComesTo : DeviceId → LinkId → ℕ → NoteBody → Type 0
ComesTo switch link cause body =
    ((clock : ℕ) × (body ≡ notes.Arrived switch link cause clock))
    ⊎ ((reason : Reason) × (body ≡ notes.Dropped switch link cause reason))

-- the master's frame of this number has left by the link, and has come to the switch at its time
pub record HasCome (s : Scenario) (hs : List Happening) (t number : ℕ) (master : DeviceId) (link : LinkId)
    (switch : DeviceId) : Type 0 where
  pub leaving : Happening
  pub left : numbered hs leaving.note.number ≡ Some leaving
  pub clock : ℕ
  pub leaves : leaving.note.body ≡ notes.Left master link number clock
  pub leaves_at : time_of leaving ≡ leaving_time s link t
  pub coming : Happening
  pub come : IsIn coming hs
  pub comes_at : time_of coming ≡ arrival_time s link t
  pub comes : ComesTo switch link leaving.note.number coming.note.body

-- the frame of a master comes to the first switch of each channel whose way there is not cut, where the master is not
-- broken by its leaving: there it arrives, or is dropped for a reason
abbrev pub SentFramesCome : Type 0
SentFramesCome =
    (s : Scenario) (mark : List ℕ) (ns : List Note) (h : Happening) (master : DeviceId) (cycle : ℕ) (link : LinkId)
    (switch : DeviceId)
    → IsLawful s → IsScenarioRun s mark ns
    → IsIn h (happenings s.network ns) → h.note.body ≡ notes.Sent master cycle → LeadsTo s master link switch
    → is_broken s master (leaving_time s link (time_of h)) ≡ false
    → is_cut s link Up (leaving_time s link (time_of h)) ≡ false
    → IsBefore (arrival_time s link (time_of h) ∷ 14 ∷ []) mark
    → HasCome s (happenings s.network ns) (time_of h) h.note.number master link switch

-- what a broken device may still have: drops of what comes to it, since it is off, the loss of what its `send` events
-- put on a cut way, and the record of its clock
abbrev pub IsLeftToBroken : List Happening → NoteBody → Type 0
IsLeftToBroken hs (notes.Dropped device link cause reason) = reason ≡ Off
IsLeftToBroken hs (notes.Lost device link cause) =
    (event : Happening) × (line : ℕ) × (octets : List ℕ) × (numbered hs cause ≡ Some event)
    × (event.note.body ≡ notes.Event line (Send link octets))
IsLeftToBroken hs (notes.Clock device reading adjustment state) = Unit {0}
IsLeftToBroken hs other = ⊥

-- from its break on a device has no other records
abbrev pub BrokenAreStill : Type 0
BrokenAreStill =
    (s : Scenario) (mark : List ℕ) (ns : List Note) (h : Happening) (device : DeviceId)
    → IsScenarioRun s mark ns → IsIn h (happenings s.network ns) → device_of h.note.body ≡ Some device
    → is_broken s device (time_of h) ≡ true → IsLeftToBroken (happenings s.network ns) h.note.body

-- a frame begins with its dispatch at its sender, or with the event by which a broken master put it on its link
abbrev pub IsBeginning : NoteBody → Type 0
IsBeginning (notes.TtSent device link cause vl cycle) = cause ≡ 0
IsBeginning (notes.Event line (Send link octets)) = Unit {0}
IsBeginning other = ⊥

-- the chain of causes of each frame that is delivered goes back to its beginning
abbrev pub DeliveriesBegin : Type 0
DeliveriesBegin =
    (s : Scenario) (mark : List ℕ) (ns : List Note) (h : Happening) (device : DeviceId) (link : LinkId) (cause : ℕ)
    (vl : VlId) (cycle : ℕ)
    → IsScenarioRun s mark ns → IsIn h (happenings s.network ns) → h.note.body ≡ notes.Delivered device link cause vl
    cycle
    → (first : Happening) × GoesBackTo (happenings s.network ns) h first × IsBeginning first.note.body

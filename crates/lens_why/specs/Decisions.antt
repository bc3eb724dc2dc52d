-- What the grounds decide: a record is so by the numbers that its ground tells.
use Rattle.std.specs.Prelude.{◌++◌, ◌+ℤ◌, ◌+◌, ◌-ℤ◌, ◌<ℤ◌, ◌<◌, ◌==◌, ◌^◌, ◌∷◌, ◌≡◌, ◌≢◌, ◌≤ℤ◌, ◌≤◌, ◌⊎◌}
use Rattle.std.specs.Prelude.{All, Bool, IfSome, IsSomeAnd, List, None, Option, Some, bit_and, false, filter_map}
use Rattle.std.specs.Prelude.{neg_ℤ, not, option_map, pos, true, unwrap_or, ℕ, ℤ}
use Rattle.{lens_why.specs.Grounds.{entry_given, ground_of}, net_plan.specs.declared.network.Network.Network}
use Rattle.{lens_why.specs.{Records.clock_given, Seeking.{cut_told, turns}}, std.specs.List.last_or}
use Rattle.lens_why.specs.declared.{collecting.LastCollection.LastCollection, ground.{Best.Best, Ground.Ground}}
use Rattle.lens_why.specs.declared.ground.Ground.TheVariants.{Clique, Collected, Corrected, CutBy, Gate, Heard}
use Rattle.lens_why.specs.declared.ground.Ground.TheVariants.{Held, Missed, Unsynchronised}
use Rattle.net_plan.specs.declared.{ids.{DeviceId.DeviceId, LinkId.LinkId}, tables.Way.Way}
use Rattle.run_law.specs.control.Hearing.{last_cycle}
use Rattle.run_law.specs.declared.judgement.Judgement.{Judgement, TheVariants.{Joined, Opened, Outside, Repeat, Within}}
use Rattle.run_law.specs.declared.judgement.{Reason.Reason, Why.{TheVariants.{AsyncClique, SyncClique}, Why}}
use Rattle.run_law.specs.device.States.{cycle_in, state_with}
use Rattle.run_law.specs.declared.note.{Note.Note, NoteBody.NoteBody}
use Rattle.run_law.specs.records.Happenings.{Happening, happenings, numbered, time_of}
use Rattle.run_law.specs.scenario.{Devices.{is_relay, start_of}, Scenarios.{Scenario, is_turned_on_at}, Ways.way_from}
use Rattle.run_law.specs.timed.Arrivals.{occurs_in}
use Rattle.schedule_tables.specs.{Rules.KeepsRules, declared.entry.Entry.Entry}
use Rattle.sync_state.specs.{correction.Correction.correction_of}
use Rattle.sync_state.specs.{Standing.state_at_start, membership.Members.count_of}
use Rattle.sync_state.specs.declared.state.State.{State, TheVariants.Integrating}
use Rattle.{tte_audit.specs.Report.scenario_of, tte_reports.specs.Reports.IsReportOf}
use Rattle.tte_units.specs.declared.units.Units.{Units}
use Rattle.run_law.specs.declared.judgement.Reason.TheVariants as reasons
use Rattle.run_law.specs.declared.note.NoteBody.TheVariants as notes

-- ---- corrections and cliques

-- what a channel says to a correction, if it says something
abbrev pub value_told : Option Best → Option Units
value_told best = option_map (λ b. record { 0 = b.value }) best

-- the clock goes on by the mean of what both channels say, rounded down, or by what the one says
abbrev pub IsCorrectedBy : Units → Ground → Type 0
IsCorrectedBy by (Corrected a b) = correction_of (value_told a) (value_told b) ≡ Some by
IsCorrectedBy by other = ⊥

-- the best frame of neither channel has enough masters
abbrev pub TellsTooFew : Ground → Type 0
TellsTooFew (Clique a b outside threshold) =
    IfSome a (λ told. count_of told.members < threshold) × IfSome b (λ told. count_of told.members < threshold)
TellsTooFew other = ⊥

-- that of one has, and neither has more than were heard outside their time
abbrev pub TellsOutnumbered : Ground → Type 0
TellsOutnumbered (Clique a b outside threshold) =
    (IsSomeAnd a (λ told. threshold ≤ count_of told.members)
    ⊎ IsSomeAnd b (λ told. threshold ≤ count_of told.members))
    × IfSome a (λ told. count_of told.members ≤ count_of outside)
    × IfSome b (λ told. count_of told.members ≤ count_of outside)
TellsOutnumbered other = ⊥

-- a device comes to its state so
abbrev pub IsStateBy : Why → Ground → Type 0
IsStateBy SyncClique said = TellsTooFew said
IsStateBy AsyncClique said = TellsOutnumbered said
IsStateBy other said = Unit {0}

-- ---- permanence

-- what lies so far beyond something lies no farther from it than this, on either side
abbrev pub IsNoFarther : ℤ → ℕ → Type 0
IsNoFarther off most = (neg_ℤ (pos most) ≤ℤ off) × (off ≤ℤ pos most)

-- the frame of the point was judged by what is expected of its cycle, and so it goes with how far the two lie apart and
-- may
abbrev pub IsHeardBy : Units → (ℤ → ℕ → Type 0) → Ground → Type 0
IsHeardBy point P (Heard p a expected off most) = (p ≡ point) × (off ≡ ((p.0 +ℤ a) -ℤ expected)) × P off most
IsHeardBy point P other = ⊥

-- has the collection a point of the master?
abbrev pub has_told : LastCollection → ℕ → Bool
has_told c master = not (bit_and c.members (2 ^ master) == 0)

-- the collection is open at the point, is of the cycle, and has a point of the master, or has none
pub record IsOpenFor (point : Units) (cycle master : ℕ) (has : Bool) (c : LastCollection) : Type 0 where
  pub until : point.0 ≤ℤ c.ends
  pub same : cycle ≡ c.cycle
  pub has_master : has_told c master ≡ has

-- the frame of the cycle was judged by the last collection before it, and so it goes with its master and that
abbrev pub IsCollectedBy : ℕ → (ℕ → Option LastCollection → Type 0) → Ground → Type 0
IsCollectedBy cycle P (Collected master of_cycle last) = (of_cycle ≡ cycle) × P master last
IsCollectedBy cycle P other = ⊥

-- a frame of the cycle is permanent at the point and judged so: it is heard within its time where its clock is no
-- farther from the expected than it may, in a cycle that is used; it opens a collection where the last is past, or
-- there is none; and it joins the last one where it is the first of its master
abbrev pub IsPermanentBy : Units → ℕ → Judgement → Ground → Type 0
IsPermanentBy point cycle Within said =
    IsHeardBy point (λ off most. (cycle ≤ last_cycle) × IsNoFarther off most) said
IsPermanentBy point cycle Outside said =
    IsHeardBy point (λ off most. cycle ≤ last_cycle → IsNoFarther off most → ⊥) said
IsPermanentBy point cycle Opened said =
    IsCollectedBy cycle (λ master last. IfSome last (λ c. c.ends <ℤ point.0)) said
IsPermanentBy point cycle Joined said =
    IsCollectedBy cycle (λ master last. IsSomeAnd last (IsOpenFor point cycle master false)) said
IsPermanentBy point cycle Repeat said =
    IsCollectedBy cycle (λ master last. IsSomeAnd last (IsOpenFor point cycle master true)) said
IsPermanentBy point cycle other said = Unit {0}

-- ---- ways

-- the frame that the record of the number `cause` gave to a link leaves at the time: it was held so long, and what was
-- measured of that is added to its clock
pub record IsLeftBy (hs : List Happening) (cause t clock : ℕ) (said : Ground) : Type 0 where
  pub giving : Happening
  pub there : numbered hs cause ≡ Some giving
  pub long : ℕ
  pub measured : ℕ
  pub is : said ≡ Held long measured
  pub at : t ≡ time_of giving + long
  pub sum : clock ≡ clock_given giving.note.body + measured

-- is the way cut by the last of these records that says something of it?
abbrev pub is_cut_after : LinkId → Way → List Happening → Bool
is_cut_after link way hs = unwrap_or (last_or None (filter_map (λ h. cut_told link way h.note.body) hs)) false

-- a record before this one cut the way: before it the way was whole, and no record between the two heals it
pub record IsCutBefore (hs : List Happening) (h : Happening) (link : LinkId) (way : Way) (said : Ground) : Type 0 where
  pub cutting : Happening
  pub before : List Happening
  pub between : List Happening
  pub later : List Happening
  pub parts : hs ≡ before ++ cutting ∷ (between ++ h ∷ later)
  pub is : said ≡ CutBy cutting.note.number
  pub whole : is_cut_after link way before ≡ false
  pub cuts : cut_told link way cutting.note.body ≡ Some true
  pub unhealed : All (λ g. cut_told link way g.note.body ≢ Some false) between

-- ---- drops

-- the frame came beside its window, and so it goes with the cycle and the place in it, and with the window
abbrev pub IsMissedBy : (ℕ → ℤ → Units → Units → Type 0) → Ground → Type 0
IsMissedBy P (Missed cycle position from to) = P cycle position from to
IsMissedBy P other = ⊥

-- the relay's clock stands farther beyond the opening of the gate than the gate is open
abbrev pub IsShutBy : Ground → Type 0
IsShutBy (Gate beyond most) = pos most <ℤ beyond
IsShutBy other = ⊥

-- what came to the device is dropped for the reason: before its window or behind it, or in a cycle in which its virtual
-- link does not occur; or at a shut gate
abbrev pub IsDroppedBy : Network → DeviceId → Option Entry → Reason → Ground → Type 0
IsDroppedBy network device entry reasons.Early said =
    IsSomeAnd entry (λ e. IsMissedBy (λ cycle position from to. (occurs_in e.vl cycle ≡ false) ⊎ (position <ℤ from.0))
    said)
IsDroppedBy network device entry reasons.Late said =
    IsSomeAnd entry (λ e. IsMissedBy (λ cycle position from to. (occurs_in e.vl cycle ≡ true) × (to.0 <ℤ position))
    said)
IsDroppedBy network device entry reasons.Gate said = is_relay network device ≡ true → IsShutBy said
IsDroppedBy network device entry other said = Unit {0}

-- ---- states

-- the record `since` leaves the device in the state, and is of an earlier time
pub record IsBroughtBy (hs : List Happening) (device : DeviceId) (t : ℕ) (state : State) (since : ℕ) : Type 0 where
  pub bringing : Happening
  pub there : numbered hs since ≡ Some bringing
  pub earlier : time_of bringing < t
  pub changes : turns device bringing.note.body ≡ true
  pub leaves : (old : State) → state_with device old bringing.note.body ≡ state

-- the state is that in which the device was when something came to it with the record: an event of the same time turned
-- it on; or it was so from the start; or the record that is told brought it to this
abbrev pub IsStateSince : Scenario → List Happening → Happening → DeviceId → Ground → Type 0
IsStateSince s hs h device (Unsynchronised state since) =
    ((is_turned_on_at s device (time_of h) ≡ true) × (state ≡ Integrating))
    ⊎ (((since ≡ 0) × (state ≡ state_at_start (start_of s.network device)))
    ⊎ IsBroughtBy hs device (time_of h) state since)
IsStateSince s hs h device other = ⊥

-- ---- all

-- the record, which has this body, is so by its ground
abbrev pub IsDecidedBy : Scenario → List Happening → Happening → NoteBody → Ground → Type 0
IsDecidedBy s hs h (notes.Corrected device cycle by adjustment) said = IsCorrectedBy by said
IsDecidedBy s hs h (notes.State device state cause why) said = IsStateBy why said
IsDecidedBy s hs h (notes.Permanent device link cause point verdict) said =
    IsPermanentBy point (cycle_in h) verdict said
IsDecidedBy s hs h (notes.Left device link cause clock) said = IsLeftBy hs cause (time_of h) clock said
IsDecidedBy s hs h (notes.Lost device link cause) said =
    IsCutBefore hs h link (way_from s.network device link) said
IsDecidedBy s hs h (notes.Dropped device link cause reasons.Unsynchronised) said = IsStateSince s hs h device said
IsDecidedBy s hs h (notes.Dropped device link cause reason) said =
    IsDroppedBy s.network device (entry_given s.network device link (numbered hs cause)) reason said
IsDecidedBy s hs h other said = Unit {0}

-- each record of a report is so by its ground, in a network that keeps the rules
abbrev pub GroundsDecide : Type 0
GroundsDecide =
    (network : Network) (octets : List ℕ) (ns : List Note) (end : Units) (number : ℕ) (h : Happening)
    → KeepsRules network → IsReportOf network octets ns end → numbered (happenings network ns) number ≡ Some h
    → IsDecidedBy (scenario_of network ns) (happenings network ns) h h.note.body
    (ground_of (scenario_of network ns) (happenings network ns) h)

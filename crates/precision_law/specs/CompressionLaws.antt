-- What compression masters send, and when it is heard.
use Rattle.std.specs.Prelude.{◌+◌, ◌<ℤ◌, ◌<◌, ◌≡◌, ◌≤ℤ◌, ◌≤◌, ◌⊎◌, Some, pos, suc, ℕ, ℤ}
use Rattle.{net_plan.specs.declared.ids.DeviceId.DeviceId, sync_state.specs.membership.Members.count_of}
use Rattle.{net_plan.specs.declared.ids.LinkId.LinkId, run_law.specs.{device.States.cycle_in, records.Order.IsIn}}
use Rattle.precision_law.specs.Bases.{AreBad, AreGood, HasGood, IsBaseIn, IsEmission, IsHeard, base_of}
use Rattle.precision_law.specs.{Hulls.{Hull, IsNarrow, IsTidyBefore, first_correction, hull_of}, Readings.IsFirstRead}
use Rattle.{precision_law.specs.Views.{IsDispatch, IsView, View}, run_law.specs.records.Happenings.{Happening, time_of}}
use Rattle.run_law.specs.declared.judgement.Judgement.{Judgement, TheVariants.{Integrates, Outside, Within}}
use Rattle.run_law.specs.{records.Ranks.members_in, scenario.Devices.{channel_of, channel_of_link, expected_by}}
use Rattle.tte_units.specs.declared.{frames.{channel.Channel.Channel, members.Members.Members}, units.Units.Units}
use Rattle.run_law.specs.declared.note.NoteBody.TheVariants as notes

-- a compression master's clock reaches the emission reading sharply
abbrev pub EmissionsAreSharp : Type 0
EmissionsAreSharp =
    (v : View) (h : Happening) (cm : DeviceId) (cycle : ℕ) (members : Members) (e : IsEmission v h cm cycle members)
    → IsView v
    → IsFirstRead v.sizes (v.scenario.reading cm) 0 e.at.0 (time_of h)

-- the members of what is sent: at least one, each good or broken
abbrev pub MembersAreMasters : Type 0
MembersAreMasters =
    (v : View) (h : Happening) (cm : DeviceId) (cycle : ℕ) (members : Members) → IsView v
    → IsEmission v h cm cycle members
    → (1 ≤ count_of members) × (HasGood v members ⊎ (AreBad v members × (count_of members ≡ 1)))

-- a good master dispatched a frame of the cycle before the time
pub record IsDispatchedBefore (v : View) (cycle t : ℕ) : Type 0 where
  pub first : Happening
  pub master : DeviceId
  pub dispatch : IsDispatch v first master cycle
  pub before : time_of first < t

-- what is sent with a good member is of such a cycle
abbrev pub EmissionsAreOfDispatches : Type 0
EmissionsAreOfDispatches =
    (v : View) (h : Happening) (cm : DeviceId) (cycle : ℕ) (members : Members) → IsView v
    → IsEmission v h cm cycle members → HasGood v members
    → IsDispatchedBefore v cycle (time_of h)

-- of three members one is good
abbrev pub ThreeHaveGood : Type 0
ThreeHaveGood =
    (v : View) (h : Happening) (cm : DeviceId) (cycle : ℕ) (members : Members) → IsView v
    → IsEmission v h cm cycle members → 3 ≤ count_of members
    → HasGood v members

-- a frame of three members, or of good ones alone, has its base in the hull of its cycle
abbrev pub BasesAreInHulls : Type 0
BasesAreInHulls =
    (v : View) (h : Happening) (cm : DeviceId) (cycle : ℕ) (members : Members) → IsView v
    → IsEmission v h cm cycle members → IsTidyBefore v (time_of h)
    → (3 ≤ count_of members) ⊎ AreGood v members
    → IsBaseIn v cycle v.sizes.base (base_of v.sizes (time_of h))

-- one of some good member has it there but for a precision
abbrev pub BasesAreNearHulls : Type 0
BasesAreNearHulls =
    (v : View) (h : Happening) (cm : DeviceId) (cycle : ℕ) (members : Members) → IsView v
    → IsEmission v h cm cycle members → IsTidyBefore v (time_of h)
    → HasGood v members
    → IsBaseIn v cycle (v.sizes.base + v.sizes.precision) (base_of v.sizes (time_of h))

-- the hull of the cycle, if it is there, is narrow
abbrev pub IsNarrowIfThere : View → ℕ → Type 0
IsNarrowIfThere v cycle = (hull : Hull) → hull_of v cycle ≡ Some hull → IsNarrow v.sizes hull

-- a compression master sends at most one frame of a cycle that has a good member
abbrev pub EmissionIsOne : Type 0
EmissionIsOne =
    (v : View) (t : ℕ) (h g : Happening) (cm : DeviceId) (cycle : ℕ) (members others : Members) → IsView v
    → IsTidyBefore v t → IsNarrowIfThere v cycle
    → IsEmission v h cm cycle members → IsEmission v g cm cycle others → time_of h < t → time_of g < t
    → HasGood v members → HasGood v others
    → h ≡ g

-- a frame is heard between the first dispatch of its cycle and the cycle's first correction
pub record IsHeardInBlock (v : View) (cycle q : ℕ) : Type 0 where
  pub before : Hull
  pub hull : Hull
  pub follows : ℕ
  pub is_next : cycle ≡ suc follows
  pub is_before : hull_of v follows ≡ Some before
  pub is_hull : hull_of v cycle ≡ Some hull
  pub not_early : hull.least ≤ℤ pos q
  pub not_late : pos q <ℤ first_correction v.sizes before

-- a frame that has a good member is heard so, where the dispatches before it lie in narrow hulls
abbrev pub HeardInTheirBlocks : Type 0
HeardInTheirBlocks =
    (v : View) (device : DeviceId) (channel : Channel) (cycle : ℕ) (members : Members) (h : Happening) (q : ℕ)
    (point : ℤ) (expected : ℕ) → IsView v
    → IsTidyBefore v (time_of h) → HasGood v members → ((c : ℕ) → cycle ≡ suc c → IsNarrowIfThere v c)
    → IsHeard v device channel cycle members h q point expected
    → IsHeardInBlock v cycle q

-- ---- what devices hear

-- the record says that the device hears a frame of a channel at a point, and judges it so
pub record HearsBy (v : View) (device : DeviceId) (channel : Channel) (point : ℤ) (judgement : Judgement)
    (h : Happening) : Type 0 where
  pub there : IsIn h v.records
  pub how : ((link : LinkId) × (cause : ℕ) × (at : Units)
      × (h.note.body ≡ notes.Permanent device link cause at judgement)
      × (channel_of_link v.scenario.network link ≡ Some channel) × (point ≡ at.0))
      ⊎ ((opened : Units) × (at : Units) × (cycle : ℕ) × (members : Members)
      × (h.note.body ≡ notes.Compressed device opened at cycle members judgement)
      × (channel_of v.scenario.network device ≡ Some channel) × (point ≡ at.0))

-- a judgement of one who hears
abbrev pub IsOfHearer : Judgement → Type 0
IsOfHearer Within = Unit {0}
IsOfHearer Outside = Unit {0}
IsOfHearer Integrates = Unit {0}
IsOfHearer other = ⊥

-- what is heard so is a frame that a compression master sent
abbrev pub HearingsAreOfFrames : Type 0
HearingsAreOfFrames =
    (v : View) (device : DeviceId) (channel : Channel) (point : ℤ) (judgement : Judgement) (h : Happening) → IsView v
    → IsOfHearer judgement
    → HearsBy v device channel point judgement h
    → (emission : Happening) × IsHeard v device channel (cycle_in h) (record { 0 = members_in h }) emission (time_of h)
    point (expected_by v.scenario.network device) × (time_of emission ≤ time_of h)

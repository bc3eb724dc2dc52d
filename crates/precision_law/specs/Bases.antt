-- The compressed frames that compression masters send, their bases, and who hears them.
use Rattle.std.specs.Prelude.{◌+ℤ◌, ◌+◌, ◌-ℤ◌, ◌≡◌, ◌≤ℤ◌, ◌⊎◌, Some, pos, ℕ, ℤ}
use Rattle.{net_plan.specs.declared.ids.DeviceId.DeviceId, precision_law.specs.Views.{IsBad, IsGood, View}}
use Rattle.{net_plan.specs.declared.ids.LinkId.LinkId, precision_law.specs.Hulls.{Hull, hull_of}}
use Rattle.{net_plan.specs.declared.tables.Way.TheVariants.Down, run_law.specs.records.Happenings.{Happening, time_of}}
use Rattle.{precision_law.specs.Sizes.{Sizes, expectation}, sync_state.specs.membership.Members.IsMember}
use Rattle.run_law.specs.{declared.judgement.Judgement.Judgement, scenario.Devices.{channel_of, member_of}}
use Rattle.run_law.specs.{records.{Causes.GoesBackTo, Order.IsIn}, scenario.Ways.way_to}
use Rattle.tte_units.specs.declared.{frames.{channel.Channel.Channel, members.Members.Members}, units.Units.Units}
use Rattle.run_law.specs.declared.note.NoteBody.TheVariants as notes

-- the base of what is sent at a time: when its members' frames would have been dispatched
abbrev pub base_of : Sizes → ℕ → ℤ
base_of n sent = pos sent -ℤ pos (n.dmax + n.compression)

-- the record is that by which the compression master sends a frame of this cycle and these members
pub record IsEmission (v : View) (h : Happening) (cm : DeviceId) (cycle : ℕ) (members : Members) : Type 0 where
  pub there : IsIn h v.records
  pub opened : Units
  pub at : Units
  pub verdict : Judgement
  pub is : h.note.body ≡ notes.Compressed cm opened at cycle members verdict

-- ---- members

-- the member number is that of a good master
abbrev pub IsGoodMember : View → ℕ → Type 0
IsGoodMember v i = (device : DeviceId) × (member_of v.scenario.network device ≡ Some i) × IsGood v device

-- it is that of a broken one
abbrev pub IsBadMember : View → ℕ → Type 0
IsBadMember v i = (device : DeviceId) × (member_of v.scenario.network device ≡ Some i) × IsBad v device

-- one of the members is good
abbrev pub HasGood : View → Members → Type 0
HasGood v members = (i : ℕ) × IsMember i members × IsGoodMember v i

-- each of them is
abbrev pub AreGood : View → Members → Type 0
AreGood v members = (i : ℕ) → IsMember i members → IsGoodMember v i

-- none of them is
abbrev pub AreBad : View → Members → Type 0
AreBad v members = (i : ℕ) → IsMember i members → IsBadMember v i

-- ---- bases

-- the base lies in the hull of the cycle, but for this error
pub record IsBaseIn (v : View) (cycle : ℕ) (error : ℕ) (base : ℤ) : Type 0 where
  pub hull : Hull
  pub is : hull_of v cycle ≡ Some hull
  pub least : hull.least ≤ℤ (base +ℤ pos error)
  pub most : base ≤ℤ (hull.greatest +ℤ pos error)

-- ---- hearing

-- the device is the compression master that sends the frame, and hears it at once, at its emission reading
pub record IsOwn (v : View) (device : DeviceId) (cm : DeviceId) (h : Happening) (at : Units) (q : ℕ) (point : ℤ)
    (expected : ℕ) : Type 0 where
  pub same : device ≡ cm
  pub at_once : q ≡ time_of h
  pub reading : point ≡ at.0
  pub due : expected ≡ v.sizes.dmax + v.sizes.compression

-- the frame comes to the device over links, and is permanent there at q
pub record IsFromAfar (v : View) (device : DeviceId) (h : Happening) (q : ℕ) (point : ℤ) (expected : ℕ) : Type 0 where
  pub ripe : Happening
  pub there : IsIn ripe v.records
  pub link : LinkId
  pub cause : ℕ
  pub at : Units
  pub verdict : Judgement
  pub is : ripe.note.body ≡ notes.Permanent device link cause at verdict
  pub down : way_to v.scenario.network device link ≡ Down
  pub back : GoesBackTo v.records ripe h
  pub ripe_at : q ≡ time_of ripe
  pub reading : point ≡ at.0
  pub due : expected ≡ expectation v.sizes

-- the device hears, at q and at this point, the frame that the compression master of the channel sent by the record,
-- and expects it so far into its cycle
pub record IsHeard (v : View) (device : DeviceId) (channel : Channel) (cycle : ℕ) (members : Members) (h : Happening)
    (q : ℕ) (point : ℤ) (expected : ℕ) : Type 0 where
  pub cm : DeviceId
  pub emission : IsEmission v h cm cycle members
  pub of_channel : channel_of v.scenario.network cm ≡ Some channel
  pub hears : IsOwn v device cm h emission.at q point expected ⊎ IsFromAfar v device h q point expected

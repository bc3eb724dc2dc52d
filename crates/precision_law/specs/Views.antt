-- What the precision is of: a run up to a time, with a channel that loses nothing.
use Rattle.std.specs.Prelude.{◌*◌, ◌+◌, ◌^◌, ◌∷◌, ◌≡◌, ◌≤◌, ◌⊎◌, List, [], false, pos, true, ℕ}
use Rattle.net_plan.specs.Bounds.{IsBeta}
use Rattle.{net_plan.specs.Places.IsSwitchOf, run_law.specs.runs.Runs.IsRun, tte_units.specs.Amount.amount}
use Rattle.{net_plan.specs.declared.ids.DeviceId.DeviceId, tte_units.specs.declared.frames.channel.Channel.Channel}
use Rattle.{precision_law.specs.Sizes.{Sizes, sizes_of}, run_law.specs.records.{Order.{IsBefore, IsIn}, Ranks.place_of}}
use Rattle.run_law.specs.{law.FirstLaws.IsLawful, runs.DueRecords.IsDue, scenario.{Devices.is_end, Faults.IsFaulty}}
use Rattle.run_law.specs.{records.Happenings.Happening, scenario.Scenarios.{Scenario, events_up_to, is_broken}}
use Rattle.run_law.specs.declared.note.NoteBody.TheVariants as notes

-- a scenario, a time, its records up to this time, the sizes of its network, and a channel
pub record View : Type 0 where
  pub scenario : Scenario
  pub until : ℕ
  pub records : List Happening
  pub sizes : Sizes
  pub channel : Channel

-- the channel is not the faulty one, by the events up to the time
abbrev pub IsSound : Scenario → ℕ → Channel → Type 0
IsSound s t channel = ¬ IsFaulty s.network (events_up_to s t) channel

-- the records are the run up to the time, of a lawful scenario; the channel is sound
pub record IsView (v : View) : Type 0 where
  pub lawful : IsLawful v.scenario
  pub run : IsRun place_of (IsDue v.scenario) ((v.until + 1) ∷ []) v.records
  pub short : v.until ≤ 2 ^ 20 * amount v.scenario.network.cycle
  pub beta : IsBeta v.scenario.network (pos v.sizes.path)
  pub sizes : v.sizes ≡ sizes_of v.scenario.network v.sizes.path
  pub sound : IsSound v.scenario v.until v.channel

-- the device is not broken up to the time
abbrev pub IsGood : View → DeviceId → Type 0
IsGood v device = is_broken v.scenario device v.until ≡ false

-- the device is broken by then
abbrev pub IsBad : View → DeviceId → Type 0
IsBad v device = is_broken v.scenario device v.until ≡ true

-- the device is a good end system
pub record IsGoodEnd (v : View) (device : DeviceId) : Type 0 where
  pub end : is_end v.scenario.network device ≡ true
  pub good : IsGood v device

-- the device is a switch of the sound channel
abbrev pub IsSoundSwitch : View → DeviceId → Type 0
IsSoundSwitch v device = IsSwitchOf v.scenario.network v.channel device

-- the device is one that never loses the common time
abbrev pub IsFirm : View → DeviceId → Type 0
IsFirm v device = IsGoodEnd v device ⊎ IsSoundSwitch v device

-- the record is that by which a good master sends the frame of a cycle
pub record IsDispatch (v : View) (h : Happening) (device : DeviceId) (cycle : ℕ) : Type 0 where
  pub there : IsIn h v.records
  pub is : h.note.body ≡ notes.Sent device cycle
  pub good : IsGood v device

-- each record of the time is before the mark
abbrev pub Covers : List ℕ → ℕ → Type 0
Covers mark until = (more : List ℕ) → IsBefore (until ∷ more) mark

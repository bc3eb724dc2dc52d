-- What the fault hypothesis leaves: enough good masters, and a channel that loses nothing.
use Rattle.std.specs.Prelude.{◌≡◌, ◌≤◌, Some, false, true, ℕ}
use Rattle.{net_plan.specs.Places.{IsSwitchOf, is_master}, run_law.specs.scenario.Faults.{BeginsOn, IsLinkOf}}
use Rattle.{net_plan.specs.declared.ids.DeviceId.DeviceId, sync_state.specs.membership.Members.{IsMember, count_of}}
use Rattle.{net_plan.specs.declared.{ids.LinkId.LinkId, tables.Way.Way}, run_law.specs.law.FirstLaws.IsLawful}
use Rattle.precision_law.specs.Views.{IsBad, IsGood, IsSound, IsSoundSwitch, IsView, View}
use Rattle.run_law.specs.scenario.{Devices.{has_role, member_of}, Scenarios.{Scenario, is_broken}, Ways.is_cut}
use Rattle.tte_units.specs.declared.frames.{channel.Channel.Channel, members.Members.Members}

-- the device is a good master that began on
pub record IsFirstMaster (v : View) (device : DeviceId) : Type 0 where
  pub master : has_role v.scenario.network is_master device ≡ true
  pub on : BeginsOn v.scenario.network device
  pub good : IsGood v device

-- a set of members that has all good masters which began on has enough
abbrev pub EnoughMasters : Type 0
EnoughMasters =
    (v : View) (members : Members) → IsView v
    → ((device : DeviceId) (i : ℕ) → IsFirstMaster v device → member_of v.scenario.network device ≡ Some i
    → IsMember i members)
    → v.scenario.network.sync_threshold ≤ count_of members

-- only masters are broken, and only one of them
pub record OneIsBroken (v : View) (device : DeviceId) : Type 0 where
  pub master : has_role v.scenario.network is_master device ≡ true
  pub only : (other : DeviceId) → IsBad v other → other ≡ device

-- whichever device is broken, it is so
abbrev pub OneMasterBreaks : Type 0
OneMasterBreaks = (v : View) (device : DeviceId) → IsView v → IsBad v device → OneIsBroken v device

-- a good device is not broken at any time up to the end
abbrev pub GoodIsCorrect : Type 0
GoodIsCorrect =
    (v : View) (device : DeviceId) (t : ℕ) → IsGood v device → t ≤ v.until → is_broken v.scenario device t ≡ false

-- a switch is good
abbrev pub SwitchesAreGood : Type 0
SwitchesAreGood =
    (v : View) (channel : Channel) (device : DeviceId) → IsView v → IsSwitchOf v.scenario.network channel device
    → IsGood v device

-- no way of a link of the sound channel is cut
abbrev pub SoundWaysAreWhole : Type 0
SoundWaysAreWhole =
    (v : View) (link : LinkId) (way : Way) (t : ℕ) → IsView v → IsLinkOf v.scenario.network v.channel link → t ≤ v.until
    → is_cut v.scenario link way t ≡ false

-- and its switches begin on
abbrev pub SoundSwitchesBeginOn : Type 0
SoundSwitchesBeginOn =
    (v : View) (device : DeviceId) → IsView v → IsSoundSwitch v device → BeginsOn v.scenario.network device

-- of the two channels one is sound
abbrev pub OneChannelIsSound : Type 0
OneChannelIsSound = (s : Scenario) (t : ℕ) → IsLawful s → (channel : Channel) × IsSound s t channel

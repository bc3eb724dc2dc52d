-- The channels of rows, and the devices at their ends.
use Rattle.net_plan.specs.{Ranges.{IsDeviceInRange, IsInRange}, declared.tables.Role.TheVariants.Relay}
use Rattle.run_law.proofs.scenario.Devices.{end_test}
use Rattle.precision_law.proofs.traffic_lemmas.Words.{◌∙◌, ◌≡◌, Bool, BringsChannels, Device, DeviceId, Entry, HasGoodSources, IsEntry, IsGood, IsOnChannel}
use Rattle.precision_law.proofs.traffic_lemmas.Words.{IsSwitchOf, IsView, Joints, KeepsRules, Network, None, Option, Some, View, VirtualLink, VlId, ap}
use Rattle.precision_law.proofs.traffic_lemmas.Words.{both_ways, closed, device_at, false, in_all, inl, inr, is_end, is_end_system, not, opened}
use Rattle.precision_law.proofs.traffic_lemmas.Words.{refl, same_some, slice_get, source_by, source_of, subst, sym, target_by, target_of, true, ℕ}
use Rattle.{schedule_tables.specs.{Schedule.IsSwitch, declared.rule.Rule.TheVariants.Sources}, tte_units.specs.declared.frames.channel.Channel.Channel}
use Rattle.std.proofs.Common.{arith, is_some}

-- ---- switches

-- a switch has a channel
pub switch_channel : {network : Network} (device : DeviceId) → IsInRange network → IsSwitch network device
    → (channel : Channel) × IsSwitchOf network channel device
switch_channel {network} device range switch =
    let d = opened (λ x. is_end_system x.role ≡ false) (device_at network device) switch in
    let known = in_all IsDeviceInRange network.device device.0 d.0 range.devices d.1 in
    by d.0.channel refl d.0 d.1 (known.switches ∙ ap not d.2)
  where
    by : (o : Option Channel) {c : Option Channel} → c ≡ o → (x : Device) → device_at network device ≡ Some x → is_some x.channel ≡ true → (channel : Channel)
        × IsSwitchOf network channel device
    by o e x at some = by_channel x.channel refl some
      where
        by_channel : (p : Option Channel) → x.channel ≡ p → is_some p ≡ true → (channel : Channel) × IsSwitchOf network channel device
        by_channel None is some = absurd cc
        by_channel (Some channel) is some =
            (channel, closed (λ y. y.channel ≡ Some channel) (device_at network device) x at is)

-- it is no end system
pub switch_no_end : {network : Network} (channel : Channel) (device : DeviceId) → IsInRange network
    → IsSwitchOf network channel device → is_end network device ≡ false
switch_no_end {network} channel device range switch =
    let d = opened (λ x. x.channel ≡ Some channel) (device_at network device) switch in
    let known = in_all IsDeviceInRange network.device device.0 d.0 range.devices d.1 in
    let some : is_some d.0.channel ≡ true = ap is_some d.2 in
    rw d.1 (back (is_end_system d.0.role) (sym known.switches ∙ some))
  where
    back : (b : Bool) → not b ≡ true → b ≡ false
    back true e = absurd cc
    back false e = refl

-- a switch has one channel
pub one_channel : (network : Network) (a b : Channel) (device : DeviceId) → IsSwitchOf network a device → IsSwitchOf network b device → a ≡ b
one_channel network a b device one two = grind (arith, opened, device_at, same_some)

-- ---- links

-- both ends of a link that are switches are of the channel of the other
pub ends_of_one : {network : Network} {place : ℕ} {entry : Entry} (channel : Channel) → IsInRange network
    → KeepsRules network → IsEntry network place entry → is_end network entry.link.child ≡ false
    → (IsSwitchOf network channel entry.link.parent → IsSwitchOf network channel entry.link.child)
    × (IsSwitchOf network channel entry.link.child → IsSwitchOf network channel entry.link.parent)
ends_of_one {network} {entry} channel range keeps row no_end =
    let joint = keeps Joints entry.row.link.0 entry.link row.link in
    let child : IsSwitchOf network joint.0 entry.link.child = elim joint.2 [
      | inl end ↦ absurd (both_ways _ no_end (end_test network entry.link.child end))
      | inr relay ↦
          let d = opened (λ x. (x.role ≡ Relay) × (x.channel ≡ Some joint.0)) (device_at network entry.link.child)
          relay in
          closed (λ x. x.channel ≡ Some joint.0) (device_at network entry.link.child) d.0 d.1 d.2.1
    ] in (
      λ parent. rw (one_channel network joint.0 channel entry.link.parent joint.1 parent) at child,
      λ own. rw (one_channel network joint.0 channel entry.link.child child own) at joint.1,
    )

module _ {network : Network} {place : ℕ} {entry : Entry} (channel : Channel) (range : IsInRange network)
    (keeps : KeepsRules network) (row : IsEntry network place entry) where
  -- a switch that a row of the channel leaves is one of the channel
  pub source_on : is_end network (source_of entry) ≡ false → IsOnChannel network channel entry
      → IsSwitchOf network channel (source_of entry)
  source_on no_end on = grind (arith, is_end, source_by, ends_of_one)

  -- and a row that enters a switch of the channel is one of it
  pub target_on : IsSwitchOf network channel (target_of entry) → IsOnChannel network channel entry
  target_on switch = grind (arith, target_by, ends_of_one, switch_no_end)

-- ---- sources

-- the rows of a virtual link whose sender is good leave good devices
pub good_sources : BringsChannels → {v : View} (vl : VlId) (of_vl : VirtualLink) → IsView v
    → slice_get v.scenario.network.vl vl.0 ≡ Some of_vl → IsGood v of_vl.sender → HasGoodSources v vl
good_sources channels {v} vl of_vl is there good place entry row own =
    let n = v.scenario.network in
    let same = same_some (slice_get n.vl vl.0) entry.vl of_vl (rw own at row.vl) there in
    elim (is.lawful.rules Sources place entry row) [
      | inl sender ↦ subst (IsGood v) (sym (sender ∙ ap (λ x. x.sender) same)) good
      | inr other ↦ (let switch = switch_channel (source_of entry) is.lawful.range other.0 in channels.switches v
          switch.0 (source_of entry) is switch.1)
    ]

-- What is kept of a device: its machine, or what it shows though it is broken.
use Rattle.std.specs.Prelude.{◌≡◌, false, true}
use Rattle.net_plan.specs.declared.{ids.DeviceId.DeviceId, network.Network.Network}
use Rattle.{run_law.specs.machines.Nodes.Node, world_state.specs.declared.kept.Kept.{Kept, TheVariants.{Out, Sound}}}

-- what a machine stands for: in which network, for which device, and in what state of it
abbrev pub Meaning : Type 0 → Type 1
Meaning M = M → Network → DeviceId → Node → Type 0

-- the machine of a sound device
abbrev pub sound_one : {M : Type 0} → M → Kept M
sound_one machine = Sound machine

-- it stands for the device: a sound one's machine does, and of a broken one the state and the adjustment are kept
abbrev pub keeps : {M : Type 0} → Meaning M → Meaning (Kept M)
keeps stands (Sound machine) network device node = stands machine network device node × (node.broken ≡ false)
keeps stands (Out state adjustment) network device node =
    (node.broken ≡ true) × (node.standing.state ≡ state) × (node.standing.adjustment ≡ adjustment)

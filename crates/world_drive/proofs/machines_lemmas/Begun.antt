-- Machines that have just begun, one more at a time.
use Rattle.{net_plan.specs.declared.ids.DeviceId.DeviceId, run_law.specs.machines.Nodes.begun_node, tte_units.proofs.general_lemmas.Lists.pushed}
use Rattle.{net_plan.specs.declared.network.Network.Network, std.proofs.Common.{◌++◌, ◌∙◌, ◌∷◌, ◌≡◌, List, Some, [], length, subst, sym, ℕ, ⊎_elim}}
use Rattle.{std.specs.Prelude.slice_get, world_drive.specs.{declared.machines.device_machine.DeviceMachine.DeviceMachine, machines.Standing.StandsAsDevice}}

-- the machine stands for the device at the place, which has just begun
abbrev pub HasBegun : Network → ℕ → DeviceMachine → Type 0
HasBegun network place machine = StandsAsDevice machine network (record { 0 = place }) (begun_node network (record { 0 = place }))

-- each machine does, at its own place
abbrev pub HaveBegun : Network → List DeviceMachine → Type 0
HaveBegun network machines = (device : DeviceId) (machine : DeviceMachine) → slice_get machines device.0 ≡ Some machine
    → StandsAsDevice machine network device (begun_node network device)

pub begun_pushed : (network : Network) (machines : List DeviceMachine) (last : DeviceMachine) (count : ℕ) → length machines ≡ count
    → HasBegun network count last → HaveBegun network machines → HaveBegun network (machines ++ last ∷ [])
begun_pushed network machines last count len is each device machine h =
    ⊎_elim
    (λ (g : slice_get machines device.0 ≡ Some machine). each device machine g)
    (λ (g : (device.0 ≡ length machines) × (last ≡ machine)).
    subst (λ place. HasBegun network place machine) (sym (g.0 ∙ len)) (subst (λ x. HasBegun network count x) g.1 is))
    (pushed machines last machine device.0 h)

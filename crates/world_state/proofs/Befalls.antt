-- What an event makes of a device.
use Rattle.{net_plan.proofs.SameIds.same_device, run_law.specs.machines.Nodes.Node, std.{proofs.lemmas.Bool.{cases_eq, ne_eqb}, specs.List.slice_get}}
use Rattle.{net_plan.specs.declared.event.What.TheVariants.{Break, On}, std.proofs.lemmas.Option.{get_or_from_slice_get, slice_get-get_or, slice_get_within}}
use Rattle.{net_plan.specs.declared.{event.What.What, ids.DeviceId.DeviceId, network.Network.Network}, std.proofs.lemmas.List.{get_or-set_other, length-set}}
use Rattle.{tte_units.proofs.general_lemmas.Lists.set_same, world_law.specs.world.Outcomes.befallen_node}
use Rattle.sync_state.specs.declared.state.State.TheVariants.{Off}
use Rattle.std.{proofs.Common.{◌<◌, ◌∙◌, ◌≡◌, ◌≢◌, Bool, List, Some, ap, arith, inl, inr, length, not, set, subst, sym, ℕ}}
use Rattle.world_state.specs.Keeping.{Meaning}

pub set_there : {X : Type 0} (xs : List X) (i j : ℕ) (x : X) {y : X} → j ≢ i → slice_get xs j ≡ Some y → slice_get (set xs i x) j ≡ Some y
set_there xs i j x {y} apart found =
    slice_get-get_or (set xs i x) j y (let lt = slice_get_within xs j y found in omega (arith, length-set xs i x))
    ∙ ap Some (get_or-set_other xs i j x y apart ∙ get_or_from_slice_get xs j y y found)

module _ (other : DeviceId) (turned : Bool) (device : DeviceId) (node : Node) (apart : device.0 ≢ other.0) where
  -- another device is as it was
  pub on_other : befallen_node turned (On other) device node ≡ node
  on_other = rw (ne_eqb device.0 other.0 apart)

  pub break_other : befallen_node turned (Break other) device node ≡ node
  break_other = grind (arith, not, ne_eqb)

-- one of the machines is called, and the others stay
pub one_befalls : {M : Type 0} (keeps : Meaning M) (what : What) (at : DeviceId) (machines : List M) (after : M)
    → at.0 < length machines → ((turned : Bool) (device : DeviceId) (node : Node) → device.0 ≢ at.0 → befallen_node turned what device node ≡ node)
    → (network : Network) (device : DeviceId) {machine : M} (turned : Bool) → slice_get machines device.0 ≡ Some machine
    → (device ≡ at → (node : Node) → keeps machine network device node → (what ≡ On device → node.standing.state ≡ Off)
    → keeps after network device (befallen_node turned what device node))
    → (x : M) × (slice_get (set machines at.0 after) device.0 ≡ Some x) × ((node : Node) → keeps machine network device node
    → (what ≡ On device → node.standing.state ≡ Off) → keeps x network device (befallen_node turned what device node))
one_befalls keeps what at machines after within others network device {machine} turned found own =
    elim (cases_eq device.0 at.0) [
      | inl same ↦ (
        after,
        rw same (set_same machines at.0 after within),
        own
            (same_device device at same),
      )
      | inr apart ↦ (
        machine,
        set_there machines at.0 device.0 after apart found,
        λ node k off. subst (keeps machine network device)
            (sym (others turned device node apart)) k,
      )
    ]

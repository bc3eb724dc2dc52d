-- A machine acts several times at one moment, and comes to an end.
use Rattle.run_law.specs.machines.Nodes.{turning_on}
use Rattle.world_law.proofs.{growing.FewActs.{acts_are_few, may_act_then, one_more_act}, rows.Dispatching.lawful}
use Rattle.world_law.proofs.steps_lemmas.{Words.ℕ, growing.FromZero.kept_from_zero, hearing.Calling.may_call}
use Rattle.world_law.proofs.steps_lemmas.{steps.Passed.no_task}
use Rattle.world_law.proofs.steps_lemmas.Words.{◌++◌, ◌+◌, ◌^◌, ◌∷◌, ◌≡◌, ◌≤◌, DeviceId, IsBefore, IsHeld, IsReadyAt, IsSteady, Joining, List, MayCall}
use Rattle.world_law.proofs.steps_lemmas.Words.{Network, Node, NoteBody, Phase, Ripe, Scenario, State, Units, Verdict, [], acting, amount, arith}
use Rattle.world_law.proofs.steps_lemmas.Words.{cases_lt, chain, happenings, inl, inr, length, length-append, moment_of, rank_of_call, refl}
use Rattle.world_law.specs.steps.{Acting.{correction_bodies, first_bodies, joining_bodies}, Repeating.{ActsAddUp, ActsAreBounded, ActsBringFew, NoActYet}}
use Rattle.run_law.specs.declared.steps.Act.TheVariants as acts
use Rattle.run_law.specs.declared.steps.Ripe.TheVariants as ripe
use Rattle.sync_state.specs.declared.answers.Verdict.TheVariants as verdicts

pub no_act_yet : {M : Type 0} (stands : M → Network → DeviceId → Node → Type 0) → NoActYet stands
no_act_yet stands network device moment machine node is may = ([], node, refl, refl, is)

pub acts_add_up : {M : Type 0} (stands : M → Network → DeviceId → Node → Type 0) → ActsAddUp stands
acts_add_up stands network device moment result times old mid new range rules before due once node is may =
    let so = before node is may in
    let may_now = may_act_then network device moment so.0 so.1 range rules may so.3 in
    let then_is = once so.1 so.4 may_now (due so.1 so.4) in
    let many = so.2 in
    let counted = length-append so.0 (result ∷ []) in (
      so.0 ++ result ∷ [],
      then_is.0,
      omega arith,
      one_more_act network device moment node so.1 so.0 result then_is.0 so.3 then_is.1,
      then_is.2,
    )

-- ---- a machine of a world

up_to_acting : (phase : Phase) → rank_of_call phase ≤ 4
up_to_acting turning_on = omega arith
up_to_acting phase = omega arith

not_behind : (now : ℕ) (more : List ℕ) → IsBefore (now ∷ 4 ∷ more) (now ∷ 4 ∷ []) → ⊥
not_behind now more (inl lt) = omega arith
not_behind now more (inr (e, inl lt)) = omega arith
not_behind now more (inr (e, inr (f, b))) = b

-- a device that is ready may act
pub may_act_now : (s : Scenario) {now : ℕ} {device : DeviceId} {node : Node}
    → IsReadyAt (s.reading device) s.network device node now
    → IsSteady (s.reading device) (amount s.network.precision) → now ≤ 2 ^ 60
    → MayCall s.network device node (moment_of s device now) acting
may_act_now s ready steady limit =
    grind (arith, may_call, acting, cases_lt, rank_of_call, chain, up_to_acting, not_behind)

pub acts_are_bounded : {C M : Type 0} (reading : C → ℕ → ℕ) (stands : M → Network → DeviceId → Node → Type 0) → ActsAreBounded reading stands
acts_are_bounded {C} {M} reading stands s world notes device machine new times old of_it there due so =
    let held = old.devices device of_it in
    let one : held.0 ≡ machine = (cc) in
    by (rw one at held.2)
  where
    by : IsHeld stands s (happenings s.network notes) world.settled old.frontier world.now device machine → times ≤ 259
    by (inr k) =
        let has = due k.node k.is in
        absurd (no_task s.network device k.node has.0 k.shows has.1)
    by (inl k) =
        let may = may_act_now s k.ready (old.steady device) old.limit in
        let zero_on = kept_from_zero stands s (happenings s.network notes) world.settled old.frontier world.now device
        machine k (lawful reading stands s world notes old device) in
        let chain_of = so k.node k.is may in
        let few = acts_are_few s.network device (moment_of s device world.now) k.node chain_of.0 chain_of.1 old.range old.rules zero_on may chain_of.3 in
        let many = chain_of.2 in
        omega arith

-- ---- what an act brings

module _ (n : ℕ) (device : DeviceId) where
  few_joining : (heard : Ripe) → length (joining_bodies n device heard) ≤ 1
  few_joining ripe.Integrates = omega arith
  few_joining other = omega arith

  few_first : (was : State) → length (first_bodies n device was) ≤ 1
  few_first Joining = omega arith
  few_first other = omega arith

  few_corrected : (was : State) (cycle : ℕ) (adjustment : Units) (verdict : Verdict)
      → length (correction_bodies n device was cycle adjustment verdict) ≤ 2
  few_corrected was cycle adjustment (verdicts.Corrected by) = let few = few_first was in omega arith
  few_corrected was cycle adjustment other = omega arith

of_length : {bodies others : List NoteBody} → bodies ≡ others → length others ≤ 2 → length bodies ≤ 2
of_length is few = rw is few

pub acts_bring_few : ActsBringFew
acts_bring_few s hs now device was adjustment (acts.Send frame) bodies are = of_length are (omega arith)
acts_bring_few s hs now device was adjustment (acts.Emit sent heard) bodies are =
    let few = few_joining (length hs + 1) device heard in of_length are (omega arith)
acts_bring_few s hs now device was adjustment (acts.Correct cycle verdict) bodies are =
    of_length are (few_corrected (length hs + 1) device was cycle adjustment verdict)
acts_bring_few s hs now device was adjustment (acts.Dispatch row cycle) bodies are = of_length are.4 (omega arith)

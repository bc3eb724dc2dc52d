-- A device acts: what comes of it is to come.
use Rattle.run_law.specs.control.Hearing.{heard_enough, last_cycle}
use Rattle.sync_state.specs.membership.Members.{count_of}
use Rattle.world_law.proofs.steps_lemmas.Words.{◌&&◌, Act, ArePutIn, Compressed, DeviceId, Happening, Integrating, IsSet}
use Rattle.world_law.proofs.steps_lemmas.Words.{Joining, List, Members, Network, Node, Note, NoteBody, Off, Ripe, Scenario, Stands, StandsBehind, State, SyncPlan}
use Rattle.world_law.proofs.steps_lemmas.Words.{Synchronised, World, false, happenings, heard_as, nat_le, ripe_as}
use Rattle.world_law.proofs.steps_lemmas.Words.{true, ◌∷◌, ℕ}
use Rattle.world_law.proofs.steps_lemmas.acting.{CorrectStep.correct_goes_by, Dispatching.dispatches_one}
use Rattle.world_law.proofs.steps_lemmas.acting.{JoinSteps.join_goes_by, Kept.act_rest}
use Rattle.world_law.proofs.steps_lemmas.acting.{OneAct.{IsActOn, act_goes_by, acts_on_it, emits_one}}
use Rattle.world_law.proofs.steps_lemmas.acting.{SendSteps.sends_one}
use Rattle.world_law.specs.steps.Acting.{Acts, AreActBodies, rank_of_act}
use Rattle.run_law.specs.declared.steps.Act.TheVariants as acts
use Rattle.run_law.specs.declared.steps.Ripe.TheVariants as ripe
use Rattle.std.proofs.Common.{arith}

-- ---- a master hears its own frame as one of four things

abbrev pub IsHeardSo : Ripe → Type 0
IsHeardSo ripe.Within = Unit {0}
IsHeardSo ripe.Outside = Unit {0}
IsHeardSo ripe.Integrates = Unit {0}
IsHeardSo ripe.Ignored = Unit {0}
IsHeardSo other = ⊥

pub heard_so : (plan : SyncPlan) (precision : _) (state : State) (adjustment point : _) (cycle : ℕ) (members : Members)
    → IsHeardSo (ripe_as (heard_as plan precision state adjustment point cycle members))
heard_so plan precision Off adjustment point cycle members = tt
heard_so plan precision Integrating adjustment point cycle members =
    elim (nat_le plan.threshold (count_of members) && nat_le cycle last_cycle) as (λ b. IsHeardSo (ripe_as (heard_enough b))) [ true ↦ tt | false ↦ tt ]
heard_so plan precision Joining adjustment point cycle members =
    search arith
heard_so plan precision Synchronised adjustment point cycle members =
    search arith

-- how it heard its frame
pub heard_by_it : {C M : Type 0} {reading : C → ℕ → ℕ} {stands : M → Network → DeviceId → Node → Type 0}
    {s : Scenario} {world : World C M} {notes : List Note} {device : DeviceId} {machine after : M}
    {old : Stands reading stands s world notes} {sent : Compressed} (heard : Ripe)
    → IsActOn reading stands s world notes old device machine after (acts.Emit sent heard) → IsHeardSo heard
heard_by_it {s} {device} {sent} heard on =
    search (arith, heard_so)

-- ---- all kinds

abbrev ActsBy : {C M : Type 0} → (C → ℕ → ℕ) → (M → Network → DeviceId → Node → Type 0) → Act → Type 0
ActsBy {C} {M} reading stands act =
    (s : Scenario) (world : World C M) (notes : List Note) (device : DeviceId) (after : M) (bodies : List NoteBody) (machines : List M)
    (settled : List Happening) (old : Stands reading stands s world notes) → (a : Acts reading stands s world notes old device after bodies)
    → IsActOn reading stands s world notes old device a.machine after act
    → AreActBodies s (happenings s.network notes) world.now device a.was a.adjustment act bodies
    → IsSet device.0 after world.machines machines → ArePutIn s.network (happenings s.network notes) world.now bodies world.settled settled
    → StandsBehind reading stands s (record world { early = false; machines = machines; settled = settled }) notes
    (world.now ∷ rank_of_act act ∷ act_rest s.network device act)

module _ {C M : Type 0} (reading : C → ℕ → ℕ) (stands : M → Network → DeviceId → Node → Type 0) where
  emission_by : (sent : Compressed) (heard : Ripe) → ActsBy reading stands (acts.Emit sent heard)
  emission_by sent ripe.Within s world notes device after bodies machines settled old a on are set put =
      act_goes_by
      (emits_one settled sent ripe.Within tt on set
      (rw are at put))
  emission_by sent ripe.Outside s world notes device after bodies machines settled old a on are set put =
      act_goes_by
      (emits_one settled sent ripe.Outside tt on set
      (rw are at put))
  emission_by sent ripe.Ignored s world notes device after bodies machines settled old a on are set put =
      act_goes_by
      (emits_one settled sent ripe.Ignored tt on set
      (rw are at put))
  emission_by sent ripe.Integrates s world notes device after bodies machines settled old a on are set put =
      join_goes_by (record {
        on = on;
        set = set;
        put = rw are at put;
      })
  emission_by sent heard s world notes device after bodies machines settled old a on are set put =
      absurd (heard_by_it heard on)

  acts_by : (act : Act) → ActsBy reading stands act
  acts_by (acts.Send frame) s world notes device after bodies machines settled old a on are set put =
      act_goes_by
      (sends_one settled frame on set
      (rw are at put))
  acts_by (acts.Emit sent heard) s world notes device after bodies machines settled old a on are set put =
      emission_by sent heard s world notes device after bodies machines settled old a on are set put
  acts_by (acts.Correct cycle verdict) s world notes device after bodies machines settled old a on are set put =
      correct_goes_by old device a.machine verdict
      a.was (record {
        on = on;
        before = a.before;
        stood = a.stood;
        state = a.is;
        stands_then = a.stands_then;
        set = set;
        put = rw are at put;
      })
  acts_by (acts.Dispatch row cycle) s world notes device after bodies machines settled old a on are set put =
      act_goes_by
      (dispatches_one settled row on are.2 are.3 set
      (rw are.4 at put))

  -- it acts: what comes of it is to come
  pub acted_step : (s : Scenario) {world : World C M} {notes : List Note} {device : DeviceId} {after : M}
      {bodies : List NoteBody} {machines : List M} (settled : List Happening)
      {old : Stands reading stands s world notes}
      → (a : Acts reading stands s world notes old device after bodies) → IsSet device.0 after world.machines machines
      → ArePutIn s.network (happenings s.network notes) world.now bodies world.settled settled
      → StandsBehind reading stands s (record world { early = false; machines = machines; settled = settled }) notes
      (world.now ∷ rank_of_act a.act ∷ act_rest s.network device a.act)
  acted_step s {world} {notes} {device} {after} {bodies} {machines} settled {old} a set put =
      acts_by a.act s world notes device after bodies machines settled old a (acts_on_it a) a.are set put

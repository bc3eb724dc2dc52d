-- Where the tasks of a device stand.
use Rattle.schedule_tables.specs.Dispatches.{dispatch_order}
use Rattle.world_law.proofs.Words.{◌∙◌, ◌<◌, ◌∷◌, ◌≡◌, ◌≤◌, ◌⊎◌, DeviceId, Dispatches, Happening, IsBefore, List, Network, Scenario, Task, VlId}
use Rattle.world_law.proofs.Words.{LinkId, [], act_place, amount, ap, arith, chain, dispatching, doing, emitting, inl, inr, refl, sending, correcting, subst, sym, task_place, ℕ}
use Rattle.{run_law.specs.records.Ranks.sign}

-- ---- what a place tells

abbrev pub second : List ℕ → ℕ
second [] = 0
second (a ∷ []) = 0
second (a ∷ b ∷ more) = b

abbrev pub third : List ℕ → ℕ
third [] = 0
third (a ∷ []) = 0
third (a ∷ b ∷ []) = 0
third (a ∷ b ∷ c ∷ more) = c

-- ---- the place of a task

-- its rank is one of those of tasks, and its device follows
pub record IsPlacedSo (network : Network) (t : ℕ) (device : DeviceId) (task : Task) : Type 0 where
  pub rank : ℕ
  pub rest : List ℕ
  pub is : task_place network t device task ≡ t ∷ rank ∷ device.0 ∷ rest
  pub late : 4 ≤ rank
  pub low : rank ≤ 6

module _ (network : Network) (t : ℕ) (device : DeviceId) where
  pub placed_so : (task : Task) → IsPlacedSo network t device task
  placed_so (emitting sent) = record {
    rank = 4;
    rest = amount sent.opened ∷ amount sent.at ∷ sent.cycle ∷ sent.members.0 ∷ sign sent.opened.0 ∷ sign sent.at.0 ∷ [];
    is = refl;
    late = omega arith;
    low = omega arith;
  }
  placed_so (doing (sending cycle)) =
      record { rank = 5; rest = cycle ∷ []; is = refl; late = omega arith; low = omega arith }
  placed_so (doing (correcting cycle)) =
      record { rank = 6; rest = []; is = refl; late = omega arith; low = omega arith }
  placed_so (doing (dispatching row cycle)) =
      record { rank = 6; rest = dispatch_order network row; is = refl; late = omega arith; low = omega arith }

  -- it is of the device
  pub of_device : (task : Task) (d k : ℕ) (more : List ℕ) → task_place network t device task ≡ t ∷ k ∷ d ∷ more
      → device.0 ≡ d
  of_device task d k more e = let p = placed_so task in ap third (sym p.is ∙ e)

  -- no task stands at a place of another rank
  pub no_task_at : (r : ℕ) (more : List ℕ) → (r < 4) ⊎ (6 < r) → (task : Task)
      → task_place network t device task ≡ t ∷ r ∷ more → ⊥
  no_task_at r more other task e =
      search (arith, placed_so, second)

  -- the place before all that the device does is before each task
  pub acts_first : (task : Task) → IsBefore (act_place t device) (task_place network t device task)
  acts_first (emitting sent) = inr (refl, inr (refl, inr (refl, tt)))
  acts_first (doing (sending cycle)) = inr (refl, inl (omega arith))
  acts_first (doing (correcting cycle)) = inr (refl, inl (omega arith))
  acts_first (doing (dispatching row cycle)) = inr (refl, inl (omega arith))

  -- so where a task is before a place, that is
  pub acts_before : (task : Task) (p : List ℕ) → IsBefore (task_place network t device task) p
      → IsBefore (act_place t device) p
  acts_before task p b = chain (act_place t device) (task_place network t device task) p (acts_first task) b

-- a task of a later time is not before a place up to which all is of a time
pub task_time : (network : Network) (x t : ℕ) (device : DeviceId) (task : Task) → IsBefore (task_place network x device task) (t ∷ []) → x < t
task_time network x t device task b =
    let p = placed_so network x device task in at (p.rank ∷ device.0 ∷ p.rest) (subst (λ u. IsBefore u (t ∷ [])) p.is b)
  where
    at : (ns : List ℕ) → IsBefore (x ∷ ns) (t ∷ []) → x < t
    at ns (inl lt) = lt
    at ns (inr b) = absurd b.1

-- ---- the place of a dispatch

pub row_order : {s : Scenario} {hs : List Happening} {device : DeviceId} {t : ℕ} {link : LinkId} {cause : ℕ}
    {vl : VlId} {cycle : ℕ} (d : Dispatches s hs device t link cause vl cycle)
    → dispatch_order s.network (record { 0 = d.place }) ≡ amount d.entry.row.offset ∷ d.entry.row.link.0 ∷ d.place
    ∷ []
row_order d =
    rw d.row.row

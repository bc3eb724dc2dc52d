-- What a device has done by itself, as the frontier goes on.
use Rattle.world_law.proofs.runs.TaskPlaces.{acts_before, task_time}
use Rattle.world_law.proofs.Words.{◌+◌, ◌<◌, ◌∷◌, ◌≡◌, ◌≤◌, DeviceId, HadComeTo, Happening, HasDoneFrom, HasDoneTask, HasWorkedTo, IsActedOut, IsBefore}
use Rattle.world_law.proofs.Words.{List, Node, Scenario, Task, [], act_place, arith, cases_order, chain, doing, emitting, inl, inr, task_place, ℕ}
use Rattle.world_law.specs.device.Deeds.{HasSentFrom}

pub out_on : {s : Scenario} {hs : List Happening} {now : ℕ} {device : DeviceId} {frontier : List ℕ} (then_ : List ℕ)
    → ((p : List ℕ) → IsBefore p frontier → IsBefore p then_) → IsActedOut s hs now device frontier
    → IsActedOut s hs now device then_
out_on then_ on out = record { past = on _ out.past; all = λ task a. on _ (out.all task a) }

-- it stays so
pub worked_on : {s : Scenario} {device : DeviceId} {node : Node} {changed : ℕ} (again : ℕ) {up : ℕ} {frontier : List ℕ}
    (then_ : List ℕ) → changed ≡ again → ((p : List ℕ) → IsBefore p frontier → IsBefore p then_)
    → HasWorkedTo s device node changed up frontier → HasWorkedTo s device node again up then_
worked_on again then_ same on w = record {
  undone = λ deed u x from lt. w.undone deed u x (omega arith) lt;
  done = λ deed there. let x = w.done deed there in (x.0, rw same at x.1, on _ x.2, x.3);
  unsent = w.unsent;
  sent = λ c there. let x = w.sent c there in (x.0, on _ x.1, x.2);
}

-- a task of a time that is before a place, where the same at the present instant is not, is of an earlier time
sooner : (s : Scenario) (device : DeviceId) (task : Task) (x now : ℕ) (frontier : List ℕ) → IsBefore (task_place s.network x device task) frontier
    → (IsBefore (task_place s.network now device task) frontier → ⊥) → x < now
sooner s device task x now frontier b not = elim (cases_order x now) [
  | inl same ↦ absurd (not (rw same at b))
  | inr (inl lt) ↦ lt
  | inr (inr gt) ↦ absurd (not (chain (task_place s.network now device task) (task_place s.network x device task) frontier (inl gt) b))
]

-- what it has done, where that is not before the frontier at the present instant, it had come to sooner
pub came_sooner : {s : Scenario} {device : DeviceId} {node : Node} {changed up : ℕ} (now : ℕ) {frontier : List ℕ}
    → HasWorkedTo s device node changed up frontier → (task : Task) → HasDoneTask node task
    → (IsBefore (task_place s.network now device task) frontier → ⊥) → HadComeTo s device node changed now task
came_sooner {s} {device} now {frontier} w (emitting c) did not =
    let x = w.sent c did in (x.0, sooner s device (emitting c) x.0 now frontier x.1 not, x.2)
came_sooner {s} {device} now {frontier} w (doing deed) did not =
    let x = w.done deed did in (x.0, x.1, sooner s device (doing deed) x.0 now frontier x.2 not, x.3)

-- what it has done by a time: nothing that its clock comes to then
pub record HasRested (s : Scenario) (device : DeviceId) (node : Node) (changed t : ℕ) : Type 0 where
  pub done : HasDoneFrom s.network (s.reading device) device node changed t t
  pub sent : HasSentFrom s device node t t

module _ {s : Scenario} {device : DeviceId} {node : Node} {changed up : ℕ} (now : ℕ) {frontier : List ℕ}
    (w : HasWorkedTo s device node changed up frontier) where
  -- where no act of the present instant is before the frontier, it rests
  pub rested : now ≤ up → (IsBefore (act_place now device) frontier → ⊥) → HasRested s device node changed up
  rested le not = record {
    done = record {
      undone = w.undone;
      done = λ deed there.
          let x = w.done deed there in
          let lt = sooner s device (doing deed) x.0 now frontier x.2
          (λ b. not (acts_before s.network now device (doing deed) frontier b)) in
          (x.0, x.1, omega arith, x.3);
    };
    sent = record {
      unsent = w.unsent;
      sent = λ c there.
          let x = w.sent c there in
          let lt = sooner s device (emitting c) x.0 now frontier x.1
          (λ b. not (acts_before s.network now device (emitting c) frontier b)) in
          (x.0, omega arith, x.2);
    };
  }

  -- where all is of the present instant or before, it has done nothing that its clock comes to later
  pub done_by : ((p : List ℕ) → IsBefore p frontier → IsBefore p ((now + 1) ∷ [])) → (low : ℕ) → low ≤ up
      → HasDoneFrom s.network (s.reading device) device node changed low (now + 1)
  done_by later low le = record {
    undone = λ deed u x from lt. w.undone deed u x from (omega arith);
    done = λ deed there. let x = w.done deed there in
        (x.0, x.1, task_time s.network x.0 (now + 1) device (doing deed) (later _ x.2), x.3);
  }

  pub sent_by : ((p : List ℕ) → IsBefore p frontier → IsBefore p ((now + 1) ∷ [])) → (low : ℕ) → low ≤ up
      → HasSentFrom s device node low (now + 1)
  sent_by later low le = record {
    unsent = λ c u x lt. w.unsent c u x (omega arith);
    sent = λ c there. let x = w.sent c there in
        (x.0, task_time s.network x.0 (now + 1) device (emitting c) (later _ x.1), x.2);
  }

-- and the other way: it rests by a time before which the frontier is not
pub worked_by : {s : Scenario} {device : DeviceId} {node : Node} {changed t : ℕ} (frontier : List ℕ)
    → HasRested s device node changed t → ((x : ℕ) (task : Task) → x < t
    → IsBefore (task_place s.network x device task) frontier) → HasWorkedTo s device node changed t frontier
worked_by frontier r over = record {
  undone = r.done.undone;
  done = λ deed there. let x = r.done.done deed there in (x.0, x.1, over x.0 (doing deed) x.2, x.3);
  unsent = r.sent.unsent;
  sent = λ c there. let x = r.sent.sent c there in (x.0, over x.0 (emitting c) x.1, x.2);
}

-- The kind of what a switch does first.
use Rattle.device_rules.{proofs.FirstKinds.first_kind_of, specs.FirstKinds.{IsFirstKind, kind_of, order_of_kind}}
use Rattle.device_rules.specs.declared.first_kind.TaskKind.TheVariants.{Correction, Dispatch as Dispatches, Emission}
use Rattle.run_law.specs.machines.Calls.{HasDue}
use Rattle.switch_ports.proofs.{Dispatching.IsDispatch, SwitchSteps.some_due}
use Rattle.switch_ports.proofs.Pending.{EmitsNone, corrects_none, emission_pending, emits_none, first_correction}
use Rattle.switch_ports.proofs.Pending.{in_map, its_next, kind_of as kinds_of}
use Rattle.switch_ports.proofs.Words.{◌<ℤ◌, ◌∙◌, ◌≡◌, ◌≤ℤ◌, DeviceId, IfSome, IsLeast, IsPending, Network, Node, None, Option, Some, StandsAs, Switch, Task}
use Rattle.switch_ports.proofs.Words.{Units, ap, arith, compressed, correcting, dispatching, doing, emission, emissions, emitting, inl, inr, next_point, reading_for}
use Rattle.switch_ports.proofs.Words.{refl, sending, subst, ℤ}
use Rattle.std.specs.Prelude.{IsSomeAnd}

module _ (s : Switch) (network : Network) (device : DeviceId) (node : Node) (reading : ℤ) (st : StandsAs s network device node) where
  -- a collection that is due is of the first kind
  pub emits_first : (o : Option Units) → IsSomeAnd o (λ at. at.0 ≤ℤ reading) → IfSome o (λ at. IsLeast at.0 (emissions s.collector))
      → IsFirstKind network device node reading Emission
  emits_first None some least = absurd some
  emits_first (Some at) some least =
      let c = in_map (emission s.collector.ow s.collector.calc) s.collector.waiting at.0 least.there in
      record {
        task = emitting (compressed s.collector.ow s.collector.calc c.0);
        pending = emission_pending s network device node c.0 st c.1;
        due = subst (λ z. z ≤ℤ reading) c.2 some;
        of_kind = refl;
        first = λ other p due. omega arith;
      }

  pub corrects_first : (o : Option Units) → EmitsNone s reading o → IsSomeAnd s.corrects_at (λ at. at.0 ≤ℤ reading)
      → IsFirstKind network device node reading Correction
  corrects_first o none reached =
      let due = some_due s.corrects_at reading reached in
      let next = its_next s network device node due.0 st due.1 in
      first_kind_of
      (first_correction s network device node next.0 due.0 st none due.1 (ap next_point st.standing ∙ next.1) due.2)

  dispatch_kind : (task : Task) → IsDispatch s network node task → kind_of task ≡ Dispatches
  dispatch_kind (emitting sent) is = absurd is
  dispatch_kind (doing (sending cycle)) is = absurd is
  dispatch_kind (doing (correcting cycle)) is = absurd is
  dispatch_kind (doing (dispatching row cycle)) is = refl

  -- where neither a collection nor a correction is due, all that is due are dispatches
  dispatches_all : (o : Option Units) → EmitsNone s reading o → IfSome s.corrects_at (λ at. reading <ℤ at.0) → (task : Task)
      → IsPending network device node task → reading_for network node task ≤ℤ reading → kind_of task ≡ Dispatches
  dispatches_all o none later task p due = elim (kinds_of s network device node task st p) [
    | inl x ↦ absurd (emits_none network node o task none x due)
    | inr (inl y) ↦ absurd (corrects_none s network device node reading s.corrects_at task st refl later y due)
    | inr (inr z) ↦ dispatch_kind task z
  ]

  pub dispatches_first : (o : Option Units) → EmitsNone s reading o → IfSome s.corrects_at (λ at. reading <ℤ at.0) → HasDue network device node reading
      → IsFirstKind network device node reading Dispatches
  dispatches_first o none later due = record {
    task = due.0;
    pending = due.1;
    due = due.2;
    of_kind = dispatches_all o none later due.0 due.1 due.2;
    first = λ other p here. let same = ap order_of_kind (dispatches_all o none later other p here) in omega (arith, same);
  }

-- Behind its correction point nothing more is due of a device at the instant.
use Rattle.{run_law.specs.machines.Tasks.IsWaiting, world_law.specs.steps.Ending.CorrectionEnds}
use Rattle.world_law.proofs.steps_lemmas.Words.{◌++◌, ◌+◌, ◌≡◌, ◌≤◌, AsyncClique, Cleared, Compressed, Corrected, DeviceId}
use Rattle.world_law.proofs.steps_lemmas.Words.{HasDoneFrom, HasSentFrom, HasTaskBy, Integrating, IsDueNow, List, Network, Node, Note}
use Rattle.world_law.proofs.steps_lemmas.Words.{Scenario, Stands, SyncClique, Verdict, World, arith, correcting, doing, emitting, happenings, moment_of, never_both}
use Rattle.world_law.proofs.steps_lemmas.Words.{no_cluster, point_number, refl, ℕ}
use Rattle.world_law.proofs.steps_lemmas.acting.{Correcting.{cleared_over, corrected_sent, corrects_it, no_deed}}
use Rattle.world_law.proofs.steps_lemmas.acting.{Kept.changed_soon, OneAct.{IsActOn, acts_on_it}}
use Rattle.world_law.proofs.steps_lemmas.acting.{Points.{at_point, no_frames, not_on}, Work.not_over}
use Rattle.run_law.specs.declared.steps.Act.TheVariants as acts

none_due : {s : Scenario} {device : DeviceId} (now : ℕ) {changed high : ℕ} {node : Node}
    → HasDoneFrom s.network (s.reading device) device node changed (now + 1) high
    → HasSentFrom s device node (now + 1) high → changed ≤ now → HasTaskBy s device node now → ⊥
none_due now done sent le (emitting c, p, due) = never_both _ _ (sent.unsent c p.1 now (omega arith)) due
none_due now done sent le (doing deed, p, due) = never_both _ _ (done.undone deed p.1 now le (omega arith)) due

-- nor where it has lost the common time
lost : (s : Scenario) (now : ℕ) (device : DeviceId) (n : Node) → n.standing.state ≡ Integrating
    → ((c : Compressed) → IsWaiting s.network device n c → ⊥) → HasTaskBy s device n now → ⊥
lost s now device n is none (emitting c, p, late) = none c p.1
lost s now device n is none (doing deed, p, late) = no_deed s.network device n deed is p.1.own

point_ends : {C M : Type 0} {reading : C → ℕ → ℕ} {stands : M → Network → DeviceId → Node → Type 0} {s : Scenario}
    {world : World C M} {notes : List Note} {device : DeviceId} {machine after : M}
    {old : Stands reading stands s world notes} (cycle : ℕ) (verdict : Verdict)
    → IsActOn reading stands s world notes old device machine after (acts.Correct cycle verdict)
    → IsDueNow stands s.network device (moment_of s device world.now) after → ⊥
point_ends {s} {world} {device} cycle (Corrected by) on due =
    let node = on.node in
    let now = world.now in
    let x = on.did in
    let heard = x.1.1.0 in
    let is = x.1.1.2 in
    let point = at_point s now cycle x.1.0 x.1.1.1 in
    none_due now (corrects_it s.network (s.reading device) device node now (moment_of s device now) heard by refl)
    (corrected_sent (moment_of s device now) heard by on.st.work.sent
    (no_frames s now cycle x.1.0.pending.0 point))
    (omega arith) (rw is at (due x.0 x.2))
point_ends {s} {world} {device} cycle SyncClique on due =
    search (arith, lost, no_cluster)
point_ends {s} {world} {device} cycle AsyncClique on due =
    search (arith, lost, no_cluster)
point_ends {s} {world} {notes} {device} cycle Cleared on due =
    let hs = happenings s.network notes in
    let node = on.node in
    let st = on.st in
    let now = world.now in
    let x = on.did in
    let task = x.1.0 in
    let heard = x.1.1.0 in
    let to = x.1.1.1 in
    let point = at_point s now cycle task to in
    let off = not_on st.work (point_number node.standing.state node.standing.number cycle task.pending.1.own).0 in
    let over = cleared_over cycle (moment_of s device now) heard st.work off st.calm.off st.calm.broken st.calm.falls
    st.cleared
    to.verdict_is task.pending.1 task.due (st.work.ready.in_time (doing (correcting cycle)) task.pending) st.wide
    (no_frames s now cycle task.pending.0 point) in
    not_over (hs ++ world.settled) now over.done over.sent (changed_soon (hs ++ world.settled) device now)
    (rw x.1.1.2 at (due x.0 x.2))

pub correction_ends : {C M : Type 0} (reading : C → ℕ → ℕ) (stands : M → Network → DeviceId → Node → Type 0) → CorrectionEnds reading stands
correction_ends reading stands s world notes device after bodies cycle verdict old a is =
    point_ends cycle verdict (rw is at (acts_on_it a))

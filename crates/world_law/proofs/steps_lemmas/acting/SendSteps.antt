-- The steps by which a device sends the frame of a cycle.
use Rattle.world_law.proofs.steps_lemmas.Words.{second}
use Rattle.world_law.proofs.steps_lemmas.Words.{◌∙◌, inl, inr, sym}
use Rattle.world_law.proofs.steps_lemmas.Words.{◌++◌, ◌∷◌, ◌≡◌, ArePutIn, DeviceId, Happening, IsSet}
use Rattle.world_law.proofs.steps_lemmas.Words.{List, Network, Node, Note, Pcf, Scenario, Stands, World, [], ap, arith}
use Rattle.world_law.proofs.steps_lemmas.{Words.{happenings, moment_of, sending, ℕ}}
use Rattle.world_law.proofs.steps_lemmas.acting.OneAct.{IsActOn, IsOneAct, StageAt, did_deed, has_sent_it}
use Rattle.world_law.proofs.steps_lemmas.acting.OneAct.{sending_record}
use Rattle.run_law.specs.declared.note.NoteBody.TheVariants as kinds
use Rattle.run_law.specs.declared.steps.Act.TheVariants as acts

-- the device sends
pub sends_one : {C M : Type 0} {reading : C → ℕ → ℕ} {stands : M → Network → DeviceId → Node → Type 0} {s : Scenario}
    {world : World C M} {notes : List Note} {old : Stands reading stands s world notes} {device : DeviceId}
    {machine after : M} {machines : List M} (settled : List Happening) (frame : Pcf)
    (on : IsActOn reading stands s world notes old device machine after (acts.Send frame))
    → IsSet device.0 after world.machines machines → ArePutIn s.network (happenings s.network notes) world.now
    (kinds.Sent device frame.cycle ∷ []) world.settled settled
    → IsOneAct reading stands s world notes old device machine after machines settled (acts.Send frame)
sends_one {reading} {stands} {s} {world} {notes} {old} {device} {machine} {after} settled frame on set put =
    let hs = happenings s.network notes in
    let now = world.now in
    let node = on.node in
    let act = on.did in
    let cycle = act.1.0 in
    let first = act.1.1 in
    let same_cycle : frame.cycle ≡ cycle = rw act.1.2 in
    record {
      on = on;
      apart = λ x. x;
      adjustment = rw act.1.3;
      did = λ task has. elim (did_deed s now device node (moment_of s device now) (sending cycle) task act.1.3 has) [
        | inl old ↦ inl old
        | inr e ↦ inr (e ∙ (rw (sym same_cycle)))
      ];
      at_place = λ low front. rw (sym same_cycle);
      body = kinds.Sent device cycle;
      late = omega arith;
      causes = omega arith;
      set = set;
      put = rw same_cycle at put;
      makes = λ front back parts st2 none.
          let st3 : StageAt stands s hs (front ++ back) now device machine node 5 (device.0 ∷ cycle ∷ []) =
          rw same_cycle at st2 in
          record {
            so = rw same_cycle (sending_record front back st3 first.pending first.due);
            told = λ order e. (let five : 5 ≡ 6 = ap second e in absurd (omega arith));
            it = has_sent_it front back after frame st3 first act.1 act.1.3 act.2;
          };
    }

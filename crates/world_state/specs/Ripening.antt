-- The record of a frame that is permanent, and the first of those that wait.
use Rattle.std.specs.Prelude.{◌∷◌, ◌≡◌, ◌≤ℤ◌, List, None, Option, Some, [], pos, ℕ}
use Rattle.{net_plan.specs.declared.ids.DeviceId.DeviceId, world_state.specs.Places.{IsPutAt, IsSomePut}}
use Rattle.{run_law.specs.declared.judgement.Judgement.Judgement, world_state.specs.declared.contents.Settled.Settled}
use Rattle.{run_law.specs.declared.steps.Ripe.Ripe, tte_units.specs.Amount.amount}
use Rattle.{sync_state.specs.declared.state.State.TheVariants.Joining, world_state.specs.declared.contents.Waits.Waits}
use Rattle.run_law.specs.declared.judgement.Judgement.TheVariants as judgements
use Rattle.run_law.specs.declared.judgement.Why.TheVariants as whys
use Rattle.run_law.specs.declared.note.NoteBody.TheVariants as kinds
use Rattle.run_law.specs.declared.steps.Ripe.TheVariants as ripe

-- the record of a frame that is judged so
abbrev pub judged_so : Waits → Judgement → Settled
judged_so w verdict = record {
  body = kinds.Permanent w.device w.link w.cause w.point verdict;
  frame = Some w.frame;
  octets = None;
}

-- the record of a frame that was permanent
abbrev pub ripe_record : Waits → Ripe → Settled
ripe_record w ripe.Opened = judged_so w judgements.Opened
ripe_record w ripe.Joined = judged_so w judgements.Joined
ripe_record w ripe.Repeat = judged_so w judgements.Repeat
ripe_record w ripe.Within = judged_so w judgements.Within
ripe_record w ripe.Outside = judged_so w judgements.Outside
ripe_record w ripe.Integrates = judged_so w judgements.Integrates
ripe_record w ripe.Ignored = judged_so w judgements.Ignored
ripe_record w (ripe.Dropped reason) = record {
  body = kinds.Dropped w.device w.link w.cause reason;
  frame = None;
  octets = None;
}

-- the record that its device joins, where it tells the time by the record of this number
abbrev pub joined_record : ℕ → DeviceId → Ripe → Option Settled
joined_record number device ripe.Integrates = Some (record {
  body = kinds.State device Joining number whys.Frame;
  frame = None;
  octets = None;
})
joined_record number device other = None

-- the records of what became of it are put in, where the first will have this number
pub record AreSettledSo (number : ℕ) (w : Waits) (result : Ripe) (old new : List Settled) : Type 0 where
  pub mid : List Settled
  pub at : ℕ
  pub first : IsPutAt (ripe_record w result) old mid at
  pub more : IsSomePut (joined_record number w.device result) mid new

-- where it stands among the frames that are permanent at one instant
abbrev pub ripe_numbers : Waits → List ℕ
ripe_numbers w = w.device.0 ∷ amount w.point ∷ w.frame.members.0 ∷ w.link.0 ∷ w.cause ∷ []

-- it waits at the device, and the reading has come to its point
pub record IsReached (device : DeviceId) (reading : ℕ) (w : Waits) : Type 0 where
  pub at : w.device.0 ≡ device.0
  pub reached : w.point.0 ≤ℤ pos reading

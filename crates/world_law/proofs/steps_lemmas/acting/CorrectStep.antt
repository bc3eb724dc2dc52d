-- The step by which a device comes to its correction point, whatever it comes to: the instant is over for it.
use Rattle.world_law.proofs.steps_lemmas.Words.{◌≡◌, AsyncClique, Cleared, Corrected, DeviceId, Happening, Integrating, Joining, List, Network, Node, Note, Off}
use Rattle.world_law.proofs.steps_lemmas.Words.{Scenario, Stands, StandsBehind, State, SyncClique, Synchronised, Units, Verdict, World, rows_place}
use Rattle.world_law.proofs.steps_lemmas.{Words.{false, is_timed, point_number, true, ℕ}, acting.FirstStep.first_goes_by}
use Rattle.world_law.proofs.steps_lemmas.acting.CorrectSteps.{IsCorrecting, alone_goes_by, cleared_goes_by, corrected_goes_by, outnumbered_goes_by}
use Rattle.std.proofs.Common.{arith}

module _ {C M : Type 0} {reading : C → ℕ → ℕ} {stands : M → Network → DeviceId → Node → Type 0} {s : Scenario}
    {world : World C M} {notes : List Note} (old : Stands reading stands s world notes) (device : DeviceId)
    (machine : M) where
  -- it had a next correction point
  was_timed : {after : M} {cycle : ℕ} {verdict : Verdict} {was : State} {adjustment : Units} {machines : List M}
      {settled : List Happening}
      → IsCorrecting reading stands s world notes old device machine after cycle verdict was adjustment machines
      settled → is_timed was ≡ true
  was_timed {after} {cycle} {verdict} x =
      search (arith, is_timed, point_number)

  pub correct_goes_by : {after : M} {cycle : ℕ} (verdict : Verdict) (was : State) {adjustment : Units}
      {machines : List M} {settled : List Happening}
      → IsCorrecting reading stands s world notes old device machine after cycle verdict was adjustment machines
      settled
      → StandsBehind reading stands s (record world { early = false; machines = machines; settled = settled }) notes
      (rows_place world.now device)
  correct_goes_by Cleared was x =
      cleared_goes_by x
  correct_goes_by SyncClique was x =
      alone_goes_by x
  correct_goes_by AsyncClique was x =
      outnumbered_goes_by x
  correct_goes_by (Corrected by) Joining x =
      first_goes_by x
  correct_goes_by (Corrected by) Synchronised x =
      corrected_goes_by x
  correct_goes_by (Corrected by) Off x =
      absurd (let bad = was_timed
      x in cc)
  correct_goes_by (Corrected by) Integrating x =
      absurd (let bad = was_timed x in cc)

-- How the lines of votes are put.
use Rattle.std.specs.Prelude.{◌≡◌, List, OnErr, OnOk, Result, ℕ}
use Rattle.tte_forms.specs.Putting.{PutFails, PutsLines, shown_by}
use Rattle.tte_io.specs.{Faults.Rose, declared.ends.Sink.Ghosts}

-- the lines were put, or the put of one of them failed
pub record PutsAll {T E K : Type 0} (sink : Ghosts K) (lines : List (List ℕ)) (result : Result T E) (old new : K) : Type
    0 where
  pub all : OnOk result (PutsLines lines (shown_by sink old) (shown_by sink new))
  pub fails : OnErr result (PutFails lines (shown_by sink old) (shown_by sink new))

-- the sink failed where that was the cause
pub record FailsSo {T E K : Type 0} (sink : Ghosts K) (result : Result T E) (old new : K) : Type 0 where
  pub quiet : OnOk result (sink.faults new ≡ sink.faults old)
  pub rose : OnErr result (Rose (sink.faults old) (sink.faults new))

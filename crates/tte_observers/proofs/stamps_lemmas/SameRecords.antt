-- Two runs of one scenario have the same records before a time that neither ends before.
use Rattle.precision_law.proofs.records.Times.{cut_run}
use Rattle.run_law.{proofs.law.FirstDeliveries.{same_earlier, split}}
use Rattle.run_law.{specs.{records.{Order.IsBefore, Ranks.place_of}, runs.{DueRecords.IsDue, Runs.IsRun}}}
use Rattle.tte_observers.proofs.stamps_lemmas.Words.{◌∙◌, ◌∷◌, ◌≡◌, ◌≤◌, List, Scenario, [], ap, sym, ℕ}
use Rattle.run_law.{proofs.runs.{Determined.due_is_determined, Places.{before_later_time, before_of_time}}, specs.records.Happenings.{Happening, earlier}}
use Rattle.run_law.proofs.runs.OneRun.{one_run}

-- what is before the time is before the mark
abbrev pub IsUpTo : ℕ → List ℕ → Type 0
IsUpTo t mark = (p : List ℕ) → IsBefore p (t ∷ []) → IsBefore p mark

-- an earlier time is up to each mark of a time
pub up_to_mark : (t u : ℕ) (rest : List ℕ) → t ≤ u → IsUpTo t (u ∷ rest)
up_to_mark t u rest le p before = before_of_time p u rest (before_later_time p t u le before)

pub same_before : (s : Scenario) {mark later : List ℕ} {hs gs : List Happening} (t : ℕ) → IsUpTo t mark
    → IsUpTo t later → IsRun place_of (IsDue s) mark hs → IsRun place_of (IsDue s) later gs
    → earlier t hs ≡ earlier t gs
same_before s {mark} {later} {hs} {gs} t up down one other =
    let a = split place_of (IsDue s) hs (t ∷ []) one.founded in
    let b = split place_of (IsDue s) gs (t ∷ []) other.founded in
    let left = cut_run (IsDue s) a up one in
    let right = cut_run (IsDue s) b down other in
    let same : a.front ≡ b.front = one_run (IsDue s) (due_is_determined s) left right in
    sym (same_earlier t [] a) ∙ ap (earlier t) same ∙ same_earlier t [] b

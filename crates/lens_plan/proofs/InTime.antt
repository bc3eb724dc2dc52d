-- Frames of virtual links that serve messages come in time.
use Rattle.lens_plan.specs.Laws.{ServedComeInTime}
use Rattle.net_plan.specs.{Places.IsEndSystem}
use Rattle.precision_law.proofs.traffic_lemmas.Safe.{frames_are_delivered}
use Rattle.schedule_tables.specs.{Entries.target_of, Windows.window_end}
use Rattle.std.{proofs.{Common.{◌≤ℤ◌, ◌≤◌, None, Option, Some, arith, pos, subst, sym, ℕ, ℤ}, lemmas.Int.ints}, specs.{List.Contains, Prelude.IfSome}}

-- what is no later than the window's end is no later than a bound of that
by_then : (by : Option ℕ) (end : ℕ) (offset : ℤ) → IfSome by (λ t. end ≤ t) → offset ≤ℤ pos end → IfSome by (λ t. offset ≤ℤ pos t)
by_then None end offset keeps le = tt
by_then (Some t) end offset keeps le = omega (arith, ints, keeps, le)

pub served_come_in_time : ServedComeInTime
served_come_in_time s mark ns until run vl m served of_vl cycle device owed =
    let n = s.network in
    let d = frames_are_delivered s mark ns until run vl of_vl cycle device owed in
    let w = d.in_window in
    let entry = w.entry in
    let keeps = served.rows w.row.place entry w.row.is w.row.of_vl in
    let end : IsEndSystem n (target_of entry) = subst (IsEndSystem n) (sym w.row.enters) owed.end_system in
    record {
      receiver = subst (Contains m.receivers) w.row.enters (keeps.receiver end);
      delivered = d;
      in_time = by_then m.by (window_end n entry) _ (keeps.by end) w.not_behind;
    }

-- What `clocks` answers for the records of a report.
use Rattle.std.specs.Prelude.{◌*◌, ◌++◌, ◌/◌, ◌≡◌, List, [], suc, zero, ℕ}
use Rattle.lens_clocks.specs.{Lines.told_lines, Telling.clocks_at}
use Rattle.run_law.specs.{records.Happenings.{Happening, happenings}, scenario.Scenarios.Scenario}
use Rattle.tte_audit.specs.Report.{scenario_of}
use Rattle.tte_forms.specs.{Answering.Answer, declared.status.Status.TheVariants.Done}
use Rattle.{tte_reports.specs.Reports.AnswersFor, tte_units.specs.Amount.amount}

-- the lines at the world time at which so many cycles have passed
abbrev pub cycle_lines : Scenario → List Happening → ℕ → List (List ℕ)
cycle_lines s hs k = told_lines s.network k (clocks_at s hs (k * amount s.network.cycle))

-- those of the first so many cycles, one after another
abbrev pub lines_to : Scenario → List Happening → ℕ → List (List ℕ)
lines_to s hs zero = []
lines_to s hs (suc n) = lines_to s hs n ++ cycle_lines s hs (suc n)

-- how many cycles have passed by the time
abbrev pub cycles_by : Scenario → ℕ → ℕ
cycles_by s until = until / amount s.network.cycle

-- the answer up to the time
abbrev pub clocks_answer : Scenario → List Happening → ℕ → Answer
clocks_answer s hs until = record { status = Done; lines = lines_to s hs (cycles_by s until) }

-- the answer for the records of a report, which tell this end
abbrev pub IsClocksAnswer : AnswersFor
IsClocksAnswer network ns end a = a ≡ clocks_answer (scenario_of network ns) (happenings network ns) (amount end)

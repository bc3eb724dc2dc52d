-- What an audit passes.
use Rattle.audit_law.proofs.law_lemmas.Sound.{run_exactly}
use Rattle.tte_audit.{proofs.ReportRuns.{audit_run, run_of_audit}, specs.Laws.PassedLaw}
use Rattle.run_law.specs.runs.Runs.{IsRun}
use Rattle.tte_audit.proofs.{OneAnswer.same_of, Words.{IsDue, behind_time, happenings, place_of, refl, scenario_of, subst}}

pub passed_law : PassedLaw
passed_law network octets ns time named of =
    let exactly = run_exactly place_of (IsDue (scenario_of network ns)) (behind_time time) (happenings network ns) in (
      λ a.
          let same = same_of named a.events of in
          let run = audit_run a.notes a.time named a.events.right a.run in
          exactly.0 (subst (λ t. IsRun place_of (IsDue (scenario_of network ns)) (behind_time t) (happenings network ns)) same.times
          (subst (λ ms. IsRun place_of (IsDue (scenario_of network ms)) (behind_time a.time) (happenings network ms)) same.lists run)),
      λ finds. record {
        notes = ns;
        time = time;
        events = of;
        run = run_of_audit ns time named of.right (exactly.1 finds);
        counted = refl;
      },
    )

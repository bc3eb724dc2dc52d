-- What a report lacks first is told by its debts.
use Rattle.tte_audit.{proofs.Words.{amount, ap, happenings, refl, scenario_of, subst, sym}, specs.Laws.ReportLackLaw}
use Rattle.audit_law.{proofs.law_lemmas.Owed.lack_law, specs.law.DebtLaws.IsFirstLack}

pub report_lack_law : ReportLackLaw
report_lack_law network ns end time sound =
    let law = lack_law (scenario_of network ns) (happenings network ns) (amount end) time sound in (
      λ lack.
          law.0 (subst (λ t. IsFirstLack (scenario_of network ns) (happenings network ns) (amount end) t)
          (sym (ap amount lack.is)) lack.lack),
      λ debt. record { at = time; lack = law.1 debt; is = refl },
    )

-- What holds of audits.
use Rattle.std.specs.Prelude.{◌↔◌, ◌≡◌, List, length, ℕ}
use Rattle.{audit_law.specs.law.DebtLaws.IsFirstDebt, tte_units.specs.Amount.{amount, units_of}}
use Rattle.{audit_law.specs.law.{DueRecords.IsDue, Findings.LacksNothing}, tte_units.specs.declared.units.Units.Units}
use Rattle.{net_plan.specs.declared.network.Network.Network, run_law.specs.records.Happenings.happenings}
use Rattle.{run_law.specs.{declared.note.Note.Note, records.Ranks.place_of}, tte_audit.specs.Named.IsNamed}
use Rattle.tte_audit.specs.Answers.{AreSoundNotes, IsAudited, IsFirstLackOf, IsOfFormOrEvents, IsRefusedBy}
use Rattle.tte_audit.specs.{Report.{IsOfEvents, behind_time, scenario_of}, declared.refusal.AuditRefusal.AuditRefusal}
use Rattle.tte_audit.specs.declared.refusal.AuditRefusal.TheVariants as refusals

-- a refusal that the octets themselves give: all but want of memory
abbrev pub IsOfReport : AuditRefusal → Type 0
IsOfReport refusals.OutOfMemory = ⊥
IsOfReport other = Unit {0}

-- a report has one answer: it is the report of a run, of so many records, or it is refused, by one thing
pub record HasOneAnswer (network : Network) (octets : List ℕ) : Type 0 where
  pub not_both : (count : ℕ) (refusal : AuditRefusal) → IsOfReport refusal → IsAudited network octets count
      → IsRefusedBy network octets refusal → ⊥
  pub not_refused : (notes : List Note) (time : Units) (refusal : AuditRefusal) → IsOfFormOrEvents refusal
      → IsOfEvents network octets notes time → IsRefusedBy network octets refusal → ⊥
  pub one_count : (count other : ℕ) → IsAudited network octets count → IsAudited network octets other → count ≡ other
  pub one_refusal : (refusal other : AuditRefusal) → IsOfReport refusal → IsOfReport other
      → IsRefusedBy network octets refusal → IsRefusedBy network octets other → refusal ≡ other

-- so it is of every text, over a network without two things of one name
abbrev pub AnswerLaw : Type 0
AnswerLaw = (network : Network) (octets : List ℕ) → IsNamed network → HasOneAnswer network octets

-- over such a network there are no octets that are neither the report of a run nor refused
abbrev pub NoneIsUnanswered : Type 0
NoneIsUnanswered =
    (network : Network) (octets : List ℕ) → IsNamed network
    → ((refusal : AuditRefusal) → IsOfReport refusal → IsRefusedBy network octets refusal → ⊥)
    → ((count : ℕ) → IsAudited network octets count → ⊥) → ⊥

-- where the records of a report are all sound, one is first lacking at the time at which a debt is first unpaid
abbrev pub ReportLackLaw : Type 0
ReportLackLaw =
    (network : Network) (ns : List Note) (end : Units) (time : ℕ) → AreSoundNotes network ns end
    → IsFirstLackOf network ns end (units_of time)
    ↔ IsFirstDebt (scenario_of network ns) (happenings network ns) (amount end) time

-- a report whose events are right is that of a run exactly where its records are all sound and none is lacking
abbrev pub PassedLaw : Type 0
PassedLaw =
    (network : Network) (octets : List ℕ) (ns : List Note) (time : Units) → IsNamed network
    → IsOfEvents network octets ns time
    → IsAudited network octets (length ns)
    ↔ (AreSoundNotes network ns time
    × LacksNothing place_of (IsDue (scenario_of network ns)) (behind_time time) (happenings network ns))

-- The answer for a network under the octets of a report: that it is one, and how it is given.
use Rattle.{net_plan.specs.Ranges.IsInRange, std.proofs.Common.{◌<◌, ◌∙◌, ◌≡◌, ◌≤◌, ◌⊎◌, Err, List, Ok, Result, inl, inr, length, refl, subst, sym, ℕ}}
use Rattle.{net_plan.specs.declared.network.Network.Network, schedule_tables.specs.declared.rule.Rule.TheVariants.{DevicesDiffer, LinksDiffer, VlNamesDiffer}}
use Rattle.tte_forms.specs.{Answering.{Answer, Gives, GivesAnswer}, declared.status.Status.Status}
use Rattle.schedule_tables.specs.Rules.{KeepsRules}
use Rattle.tte_forms.{proofs.Puts.unput_answer, specs.Putting.{PutsNone, Shown}}
use Rattle.tte_audit.specs.Named.{IsNamed}
use Rattle.{tte_audit.specs.declared.refusal.AuditRefusal.AuditRefusal, tte_forms.specs.declared.status.Status.TheVariants.{AuditRefused, Done, WriteFault}}
use Rattle.tte_forms.specs.{declared.accepting.NoNetwork.NoNetwork, networks.{Accepting.too_long_answer, NoNetworks.no_network_answer}}
use Rattle.tte_reports.specs.Answer.{FailsAudit, IsAuditStatus, report_refused_answer}
use Rattle.tte_reports.specs.{NoReports.{IfJudged, IsNoReport, no_report_answer}, declared.{no_report.NoReport.NoReport, reading.AuditedReport.AuditedReport}}
use Rattle.tte_reports.specs.declared.no_report.NoReport.TheVariants as causes
use Rattle.tte_forms.specs.declared.accepting.NoNetwork.TheVariants as networks

-- a network that keeps the rules has no two things of one kind and name
pub kept_apart : (network : Network) → KeepsRules network → IsInRange network → IsNamed network
kept_apart network rules range =
    record { in_range = range; devices = rules DevicesDiffer; links = rules LinksDiffer; vls = rules VlNamesDiffer }

-- ---- how it is given

-- that there is no report is told so by each command that takes one
pub no_report_given : (limit : ℕ) (Is : Answer → Type 0) (network : Network) (octets : List ℕ) (cause : NoReport) (status : Status) (old new : Shown)
    → (limit < length octets → Is too_long_answer)
    → ((refusal : AuditRefusal) → length octets ≤ limit → FailsAudit network octets refusal → Is (report_refused_answer refusal))
    → IsNoReport limit network octets cause → Gives (no_report_answer cause) status old new
    → ((cause ≡ causes.ReadFault) ⊎ (cause ≡ causes.OutOfMemory) → (status ≡ WriteFault → ⊥) × PutsNone old new) → GivesAnswer Is status old new
no_report_given limit Is network octets causes.ReadFault status old new long refused h g unput =
    unput_answer Is (no_report_answer causes.ReadFault) status old new (inl refl) (unput (inl refl)) g
no_report_given limit Is network octets causes.TooLong status old new long refused h g unput = inl (too_long_answer, long h, g)
no_report_given limit Is network octets causes.OutOfMemory status old new long refused h g unput =
    unput_answer Is (no_report_answer causes.OutOfMemory) status old new (inr refl) (unput (inr refl)) g
no_report_given limit Is network octets (causes.Refused refusal) status old new long refused h g unput = inl (report_refused_answer refusal, refused refusal h.0 h.1, g)

-- no other status than that of a judgement tells one
not_judged : (a : Answer) (status : Status) (old new : Shown) → Gives a status old new → (a.status ≡ Done → ⊥) → (a.status ≡ AuditRefused → ⊥)
    → (status ≡ Done) ⊎ (status ≡ AuditRefused) → ⊥
not_judged a status old new (inl g) done refused (inl s) = done (sym g.0 ∙ s)
not_judged a status old new (inl g) done refused (inr s) = refused (sym g.0 ∙ s)
not_judged a status old new (inr (inl g)) done refused (inl s) = let e = g.0 in cc
not_judged a status old new (inr (inl g)) done refused (inr s) = let e = g.0 in cc
not_judged a status old new (inr (inr (inl r, p))) done refused (inl s) = cc
not_judged a status old new (inr (inr (inl r, p))) done refused (inr s) = cc
not_judged a status old new (inr (inr (inr m, p))) done refused (inl s) = cc
not_judged a status old new (inr (inr (inr m, p))) done refused (inr s) = cc

-- where the status is that of a judgement, there was one
pub judged_by : (cause : NoReport) (status : Status) (old new : Shown) (P : Type 0) → Gives (no_report_answer cause) status old new
    → (status ≡ Done) ⊎ (status ≡ AuditRefused) → IfJudged (Err cause) P → P
judged_by causes.ReadFault status old new P g s h = absurd (not_judged _ status old new g (λ e. cc) (λ e. cc) s)
judged_by causes.TooLong status old new P g s h = absurd (not_judged _ status old new g (λ e. cc) (λ e. cc) s)
judged_by causes.OutOfMemory status old new P g s h = absurd (not_judged _ status old new g (λ e. cc) (λ e. cc) s)
judged_by (causes.Refused refusal) status old new P g s h = h

-- where all octets were read
pub if_judged : (result : Result AuditedReport NoReport) (P : Type 0) → P → IfJudged result P
if_judged (Ok report) P p = p
if_judged (Err (causes.Refused refusal)) P p = p
if_judged (Err causes.ReadFault) P p = tt
if_judged (Err causes.TooLong) P p = tt
if_judged (Err causes.OutOfMemory) P p = tt

-- ---- statuses

-- a network that is not accepted, and a report that is none, end as an audit may
not_fault : (a : Answer) (status : Status) (old new : Shown) → IsAuditStatus a.status → Gives a status old new → IsAuditStatus status
not_fault a status old new is (inl g) = subst IsAuditStatus (sym g.0) is
not_fault a status old new is (inr (inl g)) = subst IsAuditStatus (sym g.0) tt
not_fault a status old new is (inr (inr (inl r, p))) = subst IsAuditStatus (sym r) tt
not_fault a status old new is (inr (inr (inr m, p))) = subst IsAuditStatus (sym m) tt

pub no_network_status : (cause : NoNetwork) (status : Status) (old new : Shown) → Gives (no_network_answer cause) status old new → IsAuditStatus status
no_network_status networks.ReadFault status old new g = not_fault _ status old new tt g
no_network_status cause status old new g = not_fault _ status old new tt g

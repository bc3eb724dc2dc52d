-- What `why` answers for a network and the records of a report.
use Rattle.std.specs.Prelude.{◌∷◌, ◌≡◌, ◌⊎◌, List, None, length, ℕ}
use Rattle.{lens_why.specs.Chain.IsWholeChain, tte_reports.specs.Answer.IsAuditStatus}
use Rattle.{lens_why.specs.Lines.{chain_lines, number_refused_line}, net_plan.specs.declared.network.Network.Network}
use Rattle.run_law.specs.{declared.note.Note.Note, records.Happenings.{Happening, happenings, numbered}}
use Rattle.{tte_audit.specs.Report.scenario_of, tte_units.specs.declared.units.Units.Units}
use Rattle.tte_forms.specs.{Answering.{Answer, line_answer}, declared.status.Status.Status}
use Rattle.tte_forms.specs.declared.status.Status.TheVariants.{Done, NumberRefused}

-- the answer where there are only so many records
abbrev pub number_refused_answer : ℕ → ℕ → Answer
number_refused_answer number count = line_answer NumberRefused (number_refused_line number count)

-- the answer with the lines of these records
abbrev pub chain_answer : Network → List Note → List Happening → Answer
chain_answer network notes chain = record {
  status = Done;
  lines = chain_lines (scenario_of network notes) (happenings network notes) chain;
}

-- the answer for the records of a report: the chain of the record of the number, or that there is none
abbrev pub IsWhyAnswer : ℕ → Network → List Note → Units → Answer → Type 0
IsWhyAnswer number network notes end a =
    ((numbered (happenings network notes) number ≡ None) × (a ≡ number_refused_answer number (length notes)))
    ⊎ ((first : Happening) × (causes : List Happening)
    × IsWholeChain (happenings network notes) number first causes × (a ≡ chain_answer network notes (first ∷ causes)))

-- the statuses of `why`
abbrev pub IsWhyStatus : Status → Type 0
IsWhyStatus NumberRefused = Unit {0}
IsWhyStatus other = IsAuditStatus other

-- it may end as an audit does
pub why_audits : (status : Status) → IsAuditStatus status → IsWhyStatus status
why_audits NumberRefused h = tt
why_audits other h = h

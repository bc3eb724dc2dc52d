-- What a picture takes of the records of a report.
use Rattle.lens.specs.declared.draw.{drawing.Draft.Draft, flags.Glances.Glances, subject.Subject.Subject}
use Rattle.{lens.specs.draw.Keeping.{AreFlags, AreLanes, AreOwn}, net_plan.specs.declared.network.Network.Network}
use Rattle.lens_svg.specs.{Clocks.clocks_in, Plan.Plan, Sketching.{begun, glance_of, plan_behind}, declared.layout.Span.Span}
use Rattle.run_law.specs.{declared.note.Note.Note, records.Happenings.happenings}
use Rattle.std.specs.Prelude.{◌≡◌, Bool, List, Some, map, ℕ}
use Rattle.{tte_reports.specs.Reports.IsReportOf, tte_units.specs.declared.units.Units.Units}

-- what it has taken of these records: the plan that they leave behind this one, and what they tell of clocks
pub record IsDraftOf (network : Network) (begin : Plan) (notes : List Note) (draft : Draft) : Type 0 where
  pub sketch : draft.sketch ≡ plan_behind network begin notes
  pub clocks : draft.clocks ≡ clocks_in begin.view.span notes

-- it was taken of all records of the report
abbrev pub IsDraft : Network → List ℕ → Draft → Type 0
IsDraft network octets draft =
    (notes : List Note) (end : Units) → IsReportOf network octets notes end
    → IsDraftOf network (begun network draft.sketch.view) notes draft

-- of all these records this was taken of these first ones for the picture of a thing
pub record AreGlances (network : Network) (subject : Subject) (span : Span) (ns before : List Note) (taken : Glances)
    : Type 0 where
  pub subject_is : taken.subject ≡ subject
  pub span_is : taken.span ≡ span
  pub own : AreOwn network subject ns before taken.flags.items
  pub glances : taken.glances.items ≡ map (glance_of network) before
  pub clocks : taken.clocks ≡ clocks_in span before

-- the draft is of those of the records in the span that are kept, in their lanes
pub record IsKeptDraft (network : Network) (subject : Subject) (span : Span) (title : List ℕ) (ns : List Note) (draft : Draft)
    : Type 0 where
  pub records : List Bool
  pub lanes : List Bool
  pub view : draft.sketch.view ≡ record { span = span; kept = Some (record { records = records; lanes = lanes }); title = title }
  pub are_kept : AreFlags network subject (happenings network ns) records
  pub are_lanes : AreLanes network span records ns lanes
  pub is : IsDraftOf network (begun network draft.sketch.view) ns draft

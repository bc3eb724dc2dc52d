use Rattle.lens.specs.draw.Keeping.{cause_at, lane_at, with_flag}
use Rattle.{lens_svg.specs.Views.flag_at, std.{proofs.Common.{◌∙◌, Bool, ap, sym}, specs.Prelude.if◌then◌else◌}}
use Rattle.lens.proofs.draw.flags.pass_on.Goals as goal

pub returns-then-not-flag_at-clause-records : goal.returns-then-not-flag_at-clause-records
returns-then-not-flag_at-clause-records c =
    let records = c.args.flags.now.records.items in
    let test = ap (λ fs. flag_at fs c.args.number) (sym c.as_slice.ensures.value) ∙ sym c.flag_at.ensures ∙ c.if-not-flag_at.true in
    sym (ap (λ (b : Bool). if b then with_flag records (cause_at c.args.glances.now c.args.number) else records) test)

pub returns-then-not-flag_at-clause-lanes : goal.returns-then-not-flag_at-clause-lanes
returns-then-not-flag_at-clause-lanes c =
    let lanes = c.args.flags.now.lanes.items in
    let test = ap (λ fs. flag_at fs c.args.number) (sym c.as_slice.ensures.value) ∙ sym c.flag_at.ensures ∙ c.if-not-flag_at.true in
    sym (ap (λ (b : Bool). if b then lane_at c.args.span c.args.glances.now c.args.number lanes else lanes) test)

pub returns-clause-records : goal.returns-clause-records
returns-clause-records c =
    let records = c.args.flags.now.records.items in
    let test = ap (λ fs. flag_at fs c.args.number) (sym c.as_slice.ensures.value) ∙ sym c.flag_at.ensures ∙ c.if-not-flag_at.false in
    c.mark_at.ensures.records ∙ sym (ap (λ (b : Bool). if b then with_flag records (cause_at c.args.glances.now c.args.number) else records) test)

pub returns-clause-lanes : goal.returns-clause-lanes
returns-clause-lanes c =
    let lanes = c.args.flags.now.lanes.items in
    let test = ap (λ fs. flag_at fs c.args.number) (sym c.as_slice.ensures.value) ∙ sym c.flag_at.ensures ∙ c.if-not-flag_at.false in
    c.mark_at.ensures.lanes ∙ sym (ap (λ (b : Bool). if b then lane_at c.args.span c.args.glances.now c.args.number lanes else lanes) test)

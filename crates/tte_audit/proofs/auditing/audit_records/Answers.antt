use Rattle.tte_audit.proofs.Words.{◌+◌, ◌<◌, ◌∙◌, IsRefusedBy, Units, [], amount, ap, arith, events_of, happenings, length, refl, rules, subst, sym}
use Rattle.tte_audit.{specs.LineSwept.IsLineSwept}
use Rattle.tte_audit.proofs.{RightEvents.{ends_soon, only_end}}
use Rattle.tte_audit.proofs.{Sweeping.{going_on, no_more_lines, refused_line, some_octets}}
use Rattle.tte_audit.proofs.ReportText
use ReportText.{all_taken, begins_none, events_paid, indexed, lacks_at, lacks_by_end, passes, shorter, swept_all}
use Rattle.tte_audit.specs.declared.refusal.AuditRefusal.TheVariants as refusals
use Rattle.tte_audit.proofs.auditing.audit_records.Goals as goal

pub new-requires-clause-timely : goal.new-requires-clause-timely
new-requires-clause-timely c =
    let told = c.requires.told in
    ends_soon told.0 c.args.read.end c.requires.named.in_range told.1.of.right told.1.of.ends

pub records-init : goal.records-init
records-init c =
    let network = c.args.network.now in
    let told = c.requires.told in
    let notes = told.0 in
    let end = c.args.read.end in
    let of = told.1.of in
    record {
      under = record {
        notes = notes;
        end = end;
        of = of;
        taken = [];
        begins = begins_none network c.args.report.now;
        counted = refl;
        swept = c.in-Ok.ensures (events_of notes) told.1.history (only_end network notes end of.right of.ends);
      };
      few = omega arith;
    }

pub overflow_add-records : goal.overflow_add-records
overflow_add-records c =
    let few = c.records.invariant.few in
    let short = c.requires.short in
    omega (arith, few, short)

pub take_line-requires-clause-swept : goal.take_line-requires-clause-swept
take_line-requires-clause-swept c =
    let network = c.args.network.now in
    let under = c.records.invariant.under in
    (network, events_of under.notes, under.end, happenings network under.taken, under.swept)

pub take_line-requires-clause-same : goal.take_line-requires-clause-same
take_line-requires-clause-same c = c.records.invariant.under.swept.of_network

pub returns-in-Err-take_line : goal.returns-in-Err-take_line
returns-in-Err-take_line c =
    let network = c.args.network.now in
    let rest = c.records.rest.now in
    let some : 0 < length rest = some_octets (length rest) c.is_empty.result c.is_empty.ensures (search rules) in
    let line = subst (λ r. IsLineSwept network (c.records.records + 1) c.records.sweep c.take_line.new.sweep rest r) c.in-Err-take_line.is
    c.take_line.ensures in
    refused_line c.requires.named c.records.invariant.under some c.in-Err-take_line.refusal line

pub records-smaller : goal.records-smaller
records-smaller c =
    let network = c.args.network.now in
    let rest = c.records.rest.now in
    let line = subst (λ r. IsLineSwept network (c.records.records + 1) c.records.sweep c.take_line.new.sweep rest r) c.in-Ok-take_line.is c.take_line.ensures in
    let less = shorter line.1.begins in
    omega (arith, less)

pub records-preserved : goal.records-preserved
records-preserved c =
    let network = c.args.network.now in
    let rest = c.records.rest.now in
    let line = subst (λ r. IsLineSwept network (c.records.records + 1) c.records.sweep c.take_line.new.sweep rest r) c.in-Ok-take_line.is c.take_line.ensures in
    let left = c.in-Ok-take_line.left.now in
    let less = shorter line.1.begins in
    let few = c.records.invariant.few in
    record {
      under = going_on c.take_line.new.sweep c.requires.named c.records.invariant.under line.1 line.2;
      few = omega (arith, less, few);
    }

pub first_lack-requires : goal.first_lack-requires
first_lack-requires c =
    let network = c.args.network.now in
    let under = c.records.invariant.under in
    record { swept = (network, events_of under.notes, under.end, happenings network under.taken, under.swept) }

pub from_amount-requires : goal.from_amount-requires
from_amount-requires c =
    let network = c.args.network.now in
    let octets = c.args.report.now in
    let under = c.records.invariant.under in
    let all = all_taken c.records.records c.requires.named under.begins under.of.text
    under.counted (no_more_lines {network = network} {n = c.records.records + 1} {rest = c.records.rest.now} (search rules)) in
    let swept = swept_all octets under.notes under.taken all under.swept in
    let debt = c.in-Some.ensures network (events_of under.notes) under.end (happenings network under.notes) swept
    (λ line owes. events_paid network under.notes under.of.right owes) in
    let soon = lacks_by_end network under.notes under.end swept.sound debt in
    let timely = swept.timely in
    omega (arith, soon, timely)

pub returns-in-Some : goal.returns-in-Some
returns-in-Some c =
    let network = c.args.network.now in
    let octets = c.args.report.now in
    let under = c.records.invariant.under in
    let all = all_taken c.records.records c.requires.named under.begins under.of.text
    under.counted (no_more_lines {network = network} {n = c.records.records + 1} {rest = c.records.rest.now} (search rules)) in
    let swept = swept_all octets under.notes under.taken all under.swept in
    let debt = c.in-Some.ensures network (events_of under.notes) under.end (happenings network under.notes) swept
    (λ line owes. events_paid network under.notes under.of.right owes) in
    subst (λ (t : Units). IsRefusedBy network octets (refusals.Lacking t)) (sym c.from_amount.ensures.value)
    (lacks_at network octets under.notes under.end under.of swept.sound debt)

pub returns-in-None : goal.returns-in-None
returns-in-None c =
    let network = c.args.network.now in
    let octets = c.args.report.now in
    let under = c.records.invariant.under in
    let all = all_taken c.records.records c.requires.named under.begins under.of.text
    under.counted (no_more_lines {network = network} {n = c.records.records + 1} {rest = c.records.rest.now} (search rules)) in
    let swept = swept_all octets under.notes under.taken all under.swept in
    let lacks = c.in-None.ensures network (events_of under.notes) under.end (happenings network under.notes) swept
    (λ line owes. events_paid network under.notes under.of.right owes) in
    record {
      audited = passes network octets under.notes under.end c.records.records c.requires.named under.of (under.counted ∙ ap length (sym all))
          swept.sound lacks;
      index = indexed network octets under.notes under.end c.requires.named under.of
          (c.into_index.ensures network (events_of under.notes) under.end (happenings network under.notes) swept);
    }

use Rattle.{std.proofs.Common.{◌<◌, ◌∙◌, ◌≤◌, Err, ap, length, subst}, tte_forms.proofs.Octets.{for_all, for_read, for_too_many}}
use Rattle.tte_reports.proofs.Answers.{if_judged}
use Rattle.tte_reports.proofs.reading.read_report.Goals as goal

pub returns-in-Ok-clause-judged : goal.returns-in-Ok-clause-judged
returns-in-Ok-clause-judged g c =
    let within = subst (λ n. length c.in-Ok.octets ≤ n) c.from.ensures c.in-Ok.ensures.within in
    for_read (g.B.Source.left c.args.second.now) c.in-Ok.octets _ c.in-Ok.ensures.whole (c.audit_octets.ensures.judged c.args.limit within)

pub returns-in-Ok-clause-whole : goal.returns-in-Ok-clause-whole
returns-in-Ok-clause-whole g c = if_judged c.audit_octets.result _ c.in-Ok.ensures.emptied

pub returns-in-Err-Fault-clause-judged : goal.returns-in-Err-Fault-clause-judged
returns-in-Err-Fault-clause-judged g c = for_all (g.B.Source.left c.args.second.now) _ (λ octets. tt)

pub returns-in-Err-TooLong-clause-judged : goal.returns-in-Err-TooLong-clause-judged
returns-in-Err-TooLong-clause-judged g c =
    for_too_many c.from.result (g.B.Source.left c.args.second.now) (λ octets. c.args.limit < length octets)
    (c.read_all.ensures.too_long_left (c.in-Err-TooLong.is ∙ ap Err c.in-Err-TooLong.field-0-is))
    (λ octets many. subst (λ n. n < length octets) c.from.ensures many)

pub returns-in-Err-OutOfMemory-clause-judged : goal.returns-in-Err-OutOfMemory-clause-judged
returns-in-Err-OutOfMemory-clause-judged g c = for_all (g.B.Source.left c.args.second.now) _ (λ octets. tt)

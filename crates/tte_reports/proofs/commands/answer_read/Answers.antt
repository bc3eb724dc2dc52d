use Rattle.{run_law.specs.declared.note.Note.Note, std.proofs.Common.{List, subst, sym}}
use Rattle.{schedule_tables.specs.Rules.KeepsRules, tte_audit.specs.Named.IsNamed, tte_reports.specs.{Commands.IsRead, Reports.IsReportOf}}
use Rattle.{tte_forms.specs.{Answering.GivesAnswer, Putting.shown_by}, tte_units.specs.declared.units.Units.Units}
use Rattle.tte_reports.proofs.commands.answer_read.Goals as goal

pub put-requires-clause-named : goal.put-requires-clause-named
put-requires-clause-named g c = subst IsNamed (sym c.named_network.ensures.value) c.named_network.ensures.named

pub put-requires-clause-rules : goal.put-requires-clause-rules
put-requires-clause-rules g c = subst KeepsRules (sym c.named_network.ensures.value) c.named_network.ensures.rules

pub put-requires-clause-read : goal.put-requires-clause-read
put-requires-clause-read g c = subst (λ n. IsRead n c.args.report.now) (sym c.named_network.ensures.value) c.requires

pub returns-clause-gives : goal.returns-clause-gives
returns-clause-gives g c =
    let shown = shown_by g.K.Sink in
    subst (λ n. (notes : List Note) (end : Units) → IsReportOf n c.args.report.now.octets notes end
    → GivesAnswer (g.C.ReportCommand.answers c.args.command.now n notes end) c.put.result (shown c.args.out.now) (shown c.put.new.out)) c.named_network.ensures.value
    c.put.ensures.gives

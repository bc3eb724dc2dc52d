use Rattle.std.proofs.Common.{◌==◌, ◌∙◌, ◌≡◌, rules, tests}
use Rattle.schedule_checker.proofs.Elements.{rows_leave}
use Rattle.{schedule_tables.specs.{Entries.source_of, Schedule.leaves}, std.{proofs.iter.runs.Made.chains, specs.List.count_by}}
use Rattle.schedule_checker.proofs.ports.has_few_rows.Goals as goal

pub returns : goal.returns
returns c =
    let n = c.args.network.now in
    let es = c.args.entries.now in
    let counted : c.count.result ≡ count_by (λ e. (source_of e).0 == c.args.place) es = search (rules, chains) in
    let same : c.count.result ≡ count_by (leaves n (record { 0 = c.args.place })) n.row = counted
    ∙ rows_leave (record { 0 = c.args.place }) c.requires.entries in
    rw same (search (rules, tests))

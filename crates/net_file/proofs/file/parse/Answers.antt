use Rattle.{net_file.proofs.Documents.is_parsed, std.proofs.Common.{◌∙◌, rules}, toml.specs.declared.value.Value.the_lemmas}
use Rattle.toml.specs.{View.table_view}
use Rattle.net_file.proofs.file.parse.Goals as goal

pub returns-in-Ok-table_from_str : goal.returns-in-Ok-table_from_str
returns-in-Ok-table_from_str c =
    let entries = table_view c.in-Ok-table_from_str.table in
    let text = c.args.text.now in
    let told = c.in-Ok.ensures.cases in
    let read = c.in-Ok-table_from_str.ensures.ok in
    (entries, is_parsed text told.1 ∙ (rw told.0 at read), search (rules, the_lemmas))

use Rattle.{net_file.specs.Reading.are_keys_of, std.proofs.Common.◌≡◌, toml.specs.View.members_view}
use Rattle.net_file.proofs.reader.are_keys_of.Given as goal

abbrev pub invariant-entries : goal.invariant-entries
invariant-entries l =
    (goal.iterator-entries).can_next l.text-iterator ×
    (goal.iterator-entries).is_finite l.text-iterator ×
    (are_keys_of l.keys (members_view l.text-iterator) ≡ are_keys_of l.keys (members_view l.entries.entries))

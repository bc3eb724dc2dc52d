use Rattle.{net_file.proofs.Documents.{network_behind}, std.proofs.Common.rules}
use Rattle.net_file.proofs.file.read_value.Goals as goal

pub returns-in_err-network-clause-value : goal.returns-in_err-network-clause-value
returns-in_err-network-clause-value c = rw (network_behind _, ← c.read_document.ensures.value, c.in_err-network.was) (search rules)

pub returns-in_err-read_arrays-clause-value : goal.returns-in_err-read_arrays-clause-value
returns-in_err-read_arrays-clause-value c =
    rw (network_behind _, ← c.read_document.ensures.value, c.in_ok-network.was) (search (rules, c.in_err-read_arrays.ensures.value))

pub returns-clause-value : goal.returns-clause-value
returns-clause-value c = rw (network_behind _, ← c.read_document.ensures.value, c.in_ok-network.was) c.in_ok-read_arrays.ensures.value

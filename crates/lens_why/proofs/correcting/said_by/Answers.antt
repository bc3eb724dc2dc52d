use Rattle.std.{proofs.Common.{◌<◌, ◌∙◌, ◌≡◌, ◌≤◌, false, rules, subst, true}, specs.Prelude.nat_le}
use Rattle.lens_why.proofs.LastRecords.{said_is, said_none}
use Rattle.{run_law.specs.records.Happenings.happenings, std.proofs.lemmas.{Bool.{le-leb, lt-leb}, Int.to_z-of_z}, sync_state.specs.membership.Members.count_of}
use Rattle.{std.specs.Int.w128, tte_audit.specs.Report.scenario_of}
use Rattle.lens_why.proofs.correcting.said_by.Goals as goal

pub returns-then-network-count : goal.returns-then-network-count
returns-then-network-count c ns end h of there =
    let network = c.args.network.now in
    let enough : nat_le network.sync_threshold (count_of c.args.frame.members) ≡ true = le-leb network.sync_threshold (count_of c.args.frame.members)
    (subst (λ n. network.sync_threshold ≤ n) c.count.ensures c.if-network-count.true) in
    said_is (scenario_of network ns) (happenings network ns) h c.args.correction.device c.args.correction.cycle c.args.correction.adjustment c.args.channel
    c.args.frame _ _ enough (c.last_before.ensures ns end h of there) (to_z-of_z w128 c.value.result (search rules) ∙ c.value.ensures)

pub returns-else-network-count : goal.returns-else-network-count
returns-else-network-count c ns end h of there =
    let network = c.args.network.now in
    let few : nat_le network.sync_threshold (count_of c.args.frame.members) ≡ false = lt-leb network.sync_threshold (count_of c.args.frame.members)
    (subst (λ n. n < network.sync_threshold) c.count.ensures c.if-network-count.false) in
    said_none (scenario_of network ns) (happenings network ns) h c.args.correction.device c.args.correction.cycle c.args.correction.adjustment c.args.channel
    c.args.frame few

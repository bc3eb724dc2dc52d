use Rattle.std.proofs.lemmas.Option.{slice_get_past}
use Rattle.audit_law.specs.events.Readings.{scenario_under}
use Rattle.audit_sweep.proofs.records_lemmas.wires_lemmas.Wires.{no_wire, received, stopped, too_late}
use Rattle.device_rules.proofs.Takings.{read_at}
use Rattle.schedule_tables.specs.Entries.{target_by}
use Rattle.{net_plan.specs.declared.tables.Link.Link, std.proofs.Common.{◌<◌, ◌∙◌, ◌≡◌, ◌≤◌, List, None, length, refl, slice_get, subst, sym}}
use Rattle.audit_sweep.proofs.records.wires.receiving.received_by.Goals as goal

pub returns-in-None-get : goal.returns-in-None-get
returns-in-None-get c befallen h rem shown k device link t signal x le =
    let gone = subst (λ (xs : List Link). slice_get xs c.in-Some.put.link.0 ≡ None) c.as_slice.ensures
    (slice_get_past c.as_slice.result.now c.in-Some.put.link.0 c.in-None-get.ensures.lookup.3) in
    no_wire (scenario_under c.args.network.now befallen) h c.args.kept.now c.in-Some.put shown k
    (sym c.put_by.ensures ∙ c.in-Some.is) gone x

pub returns-then-is_stopped : goal.returns-then-is_stopped
returns-then-is_stopped c befallen h rem shown k device link t signal x le =
    let there = c.in-Some-get.ensures.lookup in
    let has = subst (λ xs. c.in-Some.put.link.0 < length xs) c.as_slice.ensures there.3.0 in
    stopped (scenario_under c.args.network.now befallen) h c.args.kept.now c.in-Some.put shown k (sym c.put_by.ensures ∙ c.in-Some.is)
    (sym (c.is_stopped.ensures c.args.network.now befallen rem has) ∙ c.if-is_stopped.true) x

pub returns-then-from-time : goal.returns-then-from-time
returns-then-from-time c befallen h rem shown k device link t signal x le =
    let there = c.in-Some-get.ensures.lookup in
    let has = subst (λ xs. c.in-Some.put.link.0 < length xs) c.as_slice.ensures there.3.0 in
    let found = read_at c.as_slice.result.now c.args.network.now.link c.in-Some.put.link.0 c.in-Some-get.link.now c.as_slice.ensures there.3.0 there.1 in
    let is = received (scenario_under c.args.network.now befallen) h c.args.kept.now c.in-Some-get.link.now c.in-Some.put
    (target_by c.in-Some.put.way c.in-Some-get.link.now) c.arrival_time-time.result
    shown k (sym c.put_by.ensures ∙ c.in-Some.is) found
    (sym (c.is_stopped.ensures c.args.network.now befallen rem has) ∙ c.if-is_stopped.false) refl
    (c.arrival_time-time.ensures c.args.network.now befallen rem has) in
    too_late c.args.until is (subst (λ n. n < c.arrival_time-time.result) c.from.ensures c.if-from-time.true)
    x le

pub returns : goal.returns
returns c befallen h rem shown k =
    let there = c.in-Some-get.ensures.lookup in
    let has = subst (λ xs. c.in-Some.put.link.0 < length xs) c.as_slice.ensures there.3.0 in
    let found = read_at c.as_slice.result.now c.args.network.now.link c.in-Some.put.link.0 c.in-Some-get.link.now c.as_slice.ensures there.3.0 there.1 in (
      received (scenario_under c.args.network.now befallen) h c.args.kept.now c.in-Some-get.link.now c.in-Some.put c.target_by.result
          c.arrival_time-time.result shown k (sym c.put_by.ensures ∙ c.in-Some.is) found
          (sym (c.is_stopped.ensures c.args.network.now befallen rem has) ∙ c.if-is_stopped.false) c.target_by.ensures
          (c.arrival_time-time.ensures c.args.network.now befallen rem has),
      subst (λ n. c.arrival_time-time.result ≤ n) c.from.ensures c.if-from-time.false,
    )

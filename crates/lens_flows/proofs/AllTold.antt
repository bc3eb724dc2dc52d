-- What is told of all flows of a report: one answer, by times of deliveries, with nothing owed missing.
use Rattle.std.{specs.Prelude.{All, Some}}
use Rattle.std.proofs.{lemmas.{List.Elements.{All-head, All-tail}, Option.slice_get_within}}
use Rattle.std.proofs.Common
use Common.{◌*◌, ◌++◌, ◌-◌, ◌<◌, ◌^◌, ◌∙◌, ◌∷◌, ◌≡◌, ◌≤◌, List, [], ap, arith, inl, inr, map, refl, subst, sum_by, sym}
use Common.{ℕ}
use Rattle.audit_law.specs.events.Readings.{scenario_under}
use Rattle.lens_flows.proofs.{Summing.sum_same, judge_lemmas.Judging.receiver_there}
use Rattle.lens_flows.proofs.counts_lemmas.{Orders.all_none, Telling.{all_told_one, count_one, flows_one}}
use Rattle.lens_flows.proofs.counts_lemmas.{Within.counts_within}
use Rattle.lens_flows.specs.{Answer.{AreAllTold, IsFlowsAnswer, IsMissing, IsMissingAt, told_answer, told_lines}}
use Rattle.lens_flows.specs.{Laws.{CertainAreDue, CertainAreOwed, NoneIsMissing}, Lines.{flow_line, sum_line}}
use Rattle.lens_flows.specs.{Writing.IsWritable, judge.{Certain.IsCertainAt, Flows.IsFlow}}
use Rattle.lens_flows.specs.counts.{Counted.HasFateAt, Deliveries.{deliveries_of, delivery_by}, FlowLists.AreFlows}
use Rattle.lens_flows.specs.counts.{Ordered.IsCountOf, Told.{AreToldOf, IsTold}}
use Rattle.lens_flows.specs.declared.{counts.{deliveries.Delivery.Delivery, told.FlowTold.FlowTold}}
use Rattle.lens_flows.specs.declared.{judge.flow.Flow.Flow}
use Rattle.net_plan.specs.declared.network.Network.{Network}
use Rattle.run_law.proofs.records.Order.{all_of, given_of}
use Rattle.tte_reports.{proofs.Reports.{end_soon, none_later, report_well}, specs.Reports.{IsOneFor, IsReportOf}}
use Rattle.run_law.{specs.{declared.note.{Note.Note, NoteBody.NoteBody}, records.{Happenings.happenings, Order.IsIn}}}
use Rattle.schedule_tables.specs.Rules.{KeepsRules}
use Rattle.tte_audit.specs.Report.{events_of}
use Rattle.tte_forms.specs.{Answering.Answer, declared.status.Status.TheVariants.Done}
use Rattle.tte_units.specs.{Amount.amount, declared.units.Units.Units}
use Rattle.lens_flows.specs.declared.judge.fate.Fate.TheVariants as fates
use Rattle.run_law.specs.declared.note.NoteBody.TheVariants as notes

-- ---- nothing that is owed is missing

none_counted : (IsSo : ℕ → Type 0) (n : ℕ) → ((t : ℕ) → IsSo t → ⊥) → IsCountOf IsSo n → n ≡ 0
none_counted IsSo n none ([], are, is) = is
none_counted IsSo n none (t ∷ ts, are, is) = absurd (none t (are.each t (inl refl)))

module _ (network : Network) (octets : List ℕ) (ns : List Note) (end : Units) where
  none_at : {flow : Flow} {t : ℕ} → KeepsRules network → IsReportOf network octets ns end
      → IsMissingAt (scenario_under network (events_of ns)) (happenings network ns) (amount end) flow t → ⊥
  none_at {flow} rules r m =
      let d = (report_well rules r).safe.delivery flow.vl flow.of_vl m.cycle flow.device m.owed.owed in
      m.none d.delivery d.link d.cause d.there d.is

  pub missing_none : (one : FlowTold) → KeepsRules network → IsReportOf network octets ns end
      → IsMissing network ns end one 0
  missing_none one rules r = (
    [],
    all_none (IsMissingAt (scenario_under network (events_of ns)) (happenings network ns) (amount end) one.flow)
        (λ t u. t < u)
        (λ t. none_at {flow = one.flow} {t = t} rules r),
    refl,
  )

pub none_is_missing : NoneIsMissing
none_is_missing network octets ns end a rules r answer one i =
    none_counted (IsMissingAt (scenario_under network (events_of ns)) (happenings network ns) (amount end) one.flow) (answer.missing one)
    (λ t. none_at network octets ns end {flow = one.flow} {t = t} rules r) (answer.counted one i)

-- ---- what is told of all flows: it has lines, and these are the answer

in_map : (one : FlowTold) (told : List FlowTold) → IsIn one told → IsIn one.flow (map (λ (t : FlowTold). t.flow) told)
in_map one [] i = i
in_map one (t ∷ told) (inl same) = inl (ap (λ (x : FlowTold). x.flow) same)
in_map one (t ∷ told) (inr i) = inr (in_map one told i)

pub writable_all : {network : Network} {ns : List Note} {end : Units} {told : List FlowTold}
    → AreAllTold network ns end told → All (IsWritable network) told
writable_all {network} {told} all =
    all_of (IsWritable network) told (λ one i.
    let is = all.are.each one.flow (in_map one told i) in
    record { vl = slice_get_within network.vl one.flow.vl.0 one.flow.of_vl is.there; device = receiver_there is })

-- what is told of each of the flows
pub all_told : (network : Network) (ns : List Note) (end : Units) {until : ℕ} {ds : List Delivery}
    {flows : List Flow} {told : List FlowTold} → AreFlows network flows → until ≡ amount end → ds ≡ deliveries_of ns
    → AreToldOf (scenario_under network (events_of ns)) (happenings network ns) until ds flows told
    → AreAllTold network ns end told
all_told network ns end {ds} {flows} {told} are ends same of =
    let s = scenario_under network (events_of ns) in
    let hs = happenings network ns in
    let last = subst (λ n. AreToldOf s hs n ds flows told) ends of in
    let whole = subst (λ xs. AreToldOf s hs (amount end) xs flows told) same last in
    record { are = subst (AreFlows network) (sym whole.flows) are; each = whole.each }

pub flows_each : (network : Network) {flows : List Flow} → AreFlows network flows → All (IsFlow network) flows
flows_each network {flows} are = all_of (IsFlow network) flows are.each

pub answer_there : {network : Network} {octets : List ℕ} {ns : List Note} {end : Units} {told : List FlowTold}
    → KeepsRules network → IsReportOf network octets ns end → AreAllTold network ns end told
    → IsFlowsAnswer network ns end (told_answer network told)
answer_there {network} {octets} {ns} {end} {told} rules r all = record {
  told = told;
  all = all;
  missing = λ one. 0;
  counted = λ one i. missing_none network octets ns end one rules r;
  is = refl;
}

-- ---- the answer for a report is one

flow_lines_same : (network : Network) (told : List FlowTold) (m n : FlowTold → ℕ) → ((one : FlowTold) → IsIn one told → m one ≡ n one)
    → map (λ (one : FlowTold). flow_line network one (m one)) told ≡ map (λ (one : FlowTold). flow_line network one (n one)) told
flow_lines_same network [] m n same = refl
flow_lines_same network (t ∷ told) m n same =
    ap (λ (k : ℕ). flow_line network t k ∷ map (λ (one : FlowTold). flow_line network one (m one)) told) (same t (inl refl))
    ∙ ap (λ (ls : List (List ℕ)). flow_line network t (n t) ∷ ls) (flow_lines_same network told m n (λ one i. same one (inr i)))

lines_same : (network : Network) (told : List FlowTold) (m n : FlowTold → ℕ) → ((one : FlowTold) → IsIn one told → m one ≡ n one)
    → told_lines network told m ≡ told_lines network told n
lines_same network told m n same =
    ap (λ (ls : List (List ℕ)). ls ++ sum_line told (sum_by m told) ∷ []) (flow_lines_same network told m n same)
    ∙ ap (λ (k : ℕ). map (λ (one : FlowTold). flow_line network one (n one)) told ++ sum_line told k ∷ []) (sum_same m n told same)

answers_one : {network : Network} {ns : List Note} {end : Units} {a b : Answer} → IsFlowsAnswer network ns end a
    → IsFlowsAnswer network ns end b → a ≡ b
answers_one {network} {ns} {end} p q =
    let s = scenario_under network (events_of ns) in
    let hs = happenings network ns in
    let until = amount end in
    let flows = flows_one network p.all.are q.all.are in
    let told = all_told_one s hs until (deliveries_of ns) p.told q.told flows p.all.each q.all.each in
    let there = λ (one : FlowTold) (i : IsIn one p.told). subst (IsIn one) told i in
    let lines = lines_same network p.told p.missing q.missing
    (λ one i. count_one (IsMissingAt s hs until one.flow) (p.missing one) (q.missing one) (p.counted one i) (q.counted one (there one i))) in
    p.is ∙ ap (λ (ls : List (List ℕ)). answer ls) (lines ∙ ap (λ ts. told_lines network ts q.missing) told)
    ∙ sym q.is
  where
    answer : List (List ℕ) → Answer
    answer ls = record { status = Done; lines = ls }

-- for each network and its report there is one answer at most
pub flows_answer_one : IsOneFor IsFlowsAnswer
flows_answer_one network octets ns end a b rules r p q = answers_one p q

-- ---- the times of the deliveries of a report

pub split_at : (n : Note) (notes : List Note) → IsIn n notes → (before : List Note) × (rest : List Note) × (notes ≡ before ++ n ∷ rest)
split_at n [] i = absurd i
split_at n (m ∷ notes) (inl same) = ([], notes, ap (λ (x : Note). x ∷ notes) (sym same))
split_at n (m ∷ notes) (inr i) = let at = split_at n notes i in (m ∷ at.0, at.1, ap (λ (ns : List Note). m ∷ ns) at.2)

told_time : (time : ℕ) (body : NoteBody) (d : Delivery) → delivery_by time body ≡ Some d → d.time ≡ time
told_time time (notes.Delivered device link cause vl cycle) d e = cc
told_time time body d e = absurd cc

-- the deliveries come no later than 2^60
pub deliveries_soon : {network : Network} {octets : List ℕ} {ns : List Note} {end : Units}
    → IsReportOf network octets ns end → All (λ (d : Delivery). d.time ≤ 2 ^ 60) (deliveries_of ns)
deliveries_soon {network} {octets} {ns} {end} r =
    all_of (λ (d : Delivery). d.time ≤ 2 ^ 60) (deliveries_of ns) (λ d i.
    let by = given_of (λ (n : Note). delivery_by (amount n.time) n.body) ns d i in
    let at = split_at by.0 ns by.1 in
    let early = none_later network octets ns end r at.0 at.1 by.0 at.2 in
    let last = end_soon network octets ns end r in
    let same = told_time (amount by.0.time) by.0.body d by.2 in
    omega (arith, early, last, same))

-- ---- what is owed by events alone is owed, and due

each_is : (P : FlowTold → Type 0) (told : List FlowTold) (one : FlowTold) → All P told → IsIn one told → P one
each_is P [] one all i = absurd i
each_is P (t ∷ told) one all (inl same) = subst P (sym same) (All-head P t told all)
each_is P (t ∷ told) one all (inr i) = each_is P told one (All-tail P t told all) i

pub certain_are_owed : CertainAreOwed
certain_are_owed network ns end a answer one i =
    let s = scenario_under network (events_of ns) in
    let hs = happenings network ns in
    let until = amount end in
    let told = each_is (IsTold s hs until (deliveries_of ns)) answer.told one answer.all.each i in
    counts_within (IsCertainAt s hs until one.flow) (HasFateAt s hs until one.flow fates.Owed) one.certain one.fates.owed
    (λ t c. (c.cycle, c.begun, c.certain.owed)) told.certain (told.fates fates.Owed)

pub certain_are_due : CertainAreDue
certain_are_due s hs until flow t c =
    let o = c.certain.owed.owed in
    let on = c.certain.on in
    let at = c.certain.owed.begins in
    let long = on.long in
    let order = o.in_order in
    record {
      there = o.there;
      occurs = o.occurs;
      end_system = o.end_system;
      into = o.into;
      enters = o.enters;
      last = o.last;
      greatest = o.greatest;
      from = o.from;
      to = o.to;
      begins = o.begins;
      ends = o.ends;
      in_order = o.in_order;
      in_run = o.in_run;
      on_at = t - 3 * amount s.network.cycle;
      long = omega (arith, at, long);
      sender_on = on.sender;
      device_on = on.receiver;
      sender = o.sender;
      receiver = (o.receiver o.to (omega (arith, order)) (omega arith)).correct;
    }

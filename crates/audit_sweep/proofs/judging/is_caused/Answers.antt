use Rattle.audit_law.proofs.law_lemmas.Founded.{by_number}
use Rattle.audit_sweep.specs.Judging.{Befalls, StandsBehind}
use Rattle.run_law.specs.runs.DueRecords.{IsArrivedRecord}
use Rattle.{audit_law.specs.law.DueRecords.{ChangesState, IsCorrectedRecord}, audit_sweep.proofs.StandingBehind.{heard_behind, none_later_behind}}
use Rattle.audit_sweep.proofs.Words.{ArrivesAs, BecomesPermanent, Happening, IsBodyOf, IsCaused, IsHeardBefore, IsIn, NoneLater, refl, scenario_under}
use Rattle.{audit_sweep.proofs.Words.{subst, sym, true, ℕ}, run_law.specs.{control.{Emissions.Emits, Permanence.ripe_as}, timed.Dispatching.Sends}}
use Rattle.{audit_sweep.specs.declared.passage.Passage.Passage, run_law.specs.control.{Leaving.{Departs, leaves}, Losses.{IsDispatchedOn, IsDropped, IsLost}}}
use Rattle.{net_plan.specs.Belonging.HasLink, std.{proofs.Common.◌↔◌, specs.Prelude.IsTrue}}
use Rattle.audit_sweep.proofs.judging.is_caused.Goals as goal
use Rattle.run_law.specs.declared.steps.Arrival.TheVariants as arrivals

pub returns-in-Arrived : goal.returns-in-Arrived
returns-in-Arrived c befallen hs k founded behind befalls =
    let s = scenario_under c.args.network.now befallen in
    let v = c.in-Arrived in
    subst (λ b. IsTrue c.is_taken.result ↔ IsCaused s hs c.args.time b) (sym v.is)
    (subst (λ (p : Passage). IsTrue c.is_taken.result ↔ IsArrivedRecord s hs p.device p.time p.link p.cause v.clock) c.passage-passage.ensures
    (c.is_taken.ensures befallen hs k))

pub returns-in-Permanent : goal.returns-in-Permanent
returns-in-Permanent c befallen hs k founded behind befalls =
    let s = scenario_under c.args.network.now befallen in
    let v = c.in-Permanent in
    subst (λ b. IsTrue c.becomes_permanent.result ↔ IsCaused s hs c.args.time b) (sym v.is)
    (subst (λ (p : Passage). IsTrue c.becomes_permanent.result
    ↔ BecomesPermanent s hs p.device p.time p.link p.cause v.point (ripe_as v.verdict)) c.passage-passage-in-Permanent.ensures
    (c.becomes_permanent.ensures befallen hs k))

pub returns-in-Left : goal.returns-in-Left
returns-in-Left c befallen hs k founded behind befalls =
    let s = scenario_under c.args.network.now befallen in
    let v = c.in-Left in
    subst (λ b. IsTrue c.departs.result ↔ IsCaused s hs c.args.time b) (sym v.is)
    (subst (λ (p : Passage). IsTrue c.departs.result ↔ Departs s hs p.device p.time p.link p.cause (leaves v.clock)) c.passage-passage-in-Left.ensures
    (c.departs.ensures befallen hs k))

pub returns-in-Lost : goal.returns-in-Lost
returns-in-Lost c befallen hs k founded behind befalls =
    let s = scenario_under c.args.network.now befallen in
    let v = c.in-Lost in
    let passage = c.passage-passage-in-Lost.ensures in
    let there = (subst (λ b. IsBodyOf c.args.network.now b) v.is c.requires.judgeable.of_network).1 in
    let link = subst (λ (p : Passage). HasLink c.args.network.now p.link) (sym passage) there in
    let found = λ (h : Happening) (i : IsIn h hs). by_number s hs h founded i in
    subst (λ b. IsTrue c.is_lost.result ↔ IsCaused s hs c.args.time b) (sym v.is)
    (subst (λ (p : Passage). IsTrue c.is_lost.result ↔ IsLost s hs p.device p.time p.link p.cause) c.passage-passage-in-Lost.ensures
    (c.is_lost.ensures befallen hs k (c.is_dispatch_lost-dispatched.ensures befallen hs k link found)))

pub returns-in-TtSent : goal.returns-in-TtSent
returns-in-TtSent c befallen hs k founded behind befalls =
    let s = scenario_under c.args.network.now befallen in
    let v = c.in-TtSent in
    let passage = c.passage-passage-in-TtSent.ensures in
    let there = (subst (λ b. IsBodyOf c.args.network.now b) v.is c.requires.judgeable.of_network).1 in
    let link = subst (λ (p : Passage). HasLink c.args.network.now p.link) (sym passage) there in
    subst (λ b. IsTrue c.is_dispatched.result ↔ IsCaused s hs c.args.time b) (sym v.is)
    (subst (λ (p : Passage). IsTrue c.is_dispatched.result
    ↔ IsDispatchedOn s hs p.device p.time p.link p.cause v.vl v.cycle) c.passage-passage-in-TtSent.ensures
    (c.is_dispatched.ensures befallen hs k link))

pub returns-in-Accepted : goal.returns-in-Accepted
returns-in-Accepted c befallen hs k founded behind befalls =
    let s = scenario_under c.args.network.now befallen in
    let v = c.in-Accepted in
    subst (λ b. IsTrue c.arrives_as.result ↔ IsCaused s hs c.args.time b) (sym v.is)
    (subst (λ (p : Passage). IsTrue c.arrives_as.result ↔ ArrivesAs s hs p.device p.time p.link p.cause (arrivals.Accepted v.vl v.cycle))
    c.passage-passage-in-Accepted.ensures
    (subst (λ (n : ℕ). IsTrue c.arrives_as.result ↔ (let p = c.passage-passage-in-Accepted.result in
    ArrivesAs s hs p.device p.time p.link p.cause (arrivals.Accepted v.vl n))) c.from.ensures (c.arrives_as.ensures befallen hs k)))

pub returns-in-Delivered : goal.returns-in-Delivered
returns-in-Delivered c befallen hs k founded behind befalls =
    let s = scenario_under c.args.network.now befallen in
    let v = c.in-Delivered in
    subst (λ b. IsTrue c.arrives_as-in-Delivered.result ↔ IsCaused s hs c.args.time b) (sym v.is)
    (subst (λ (p : Passage). IsTrue c.arrives_as-in-Delivered.result
    ↔ ArrivesAs s hs p.device p.time p.link p.cause (arrivals.Delivered v.vl v.cycle)) c.passage-passage-in-Delivered.ensures
    (subst (λ (n : ℕ). IsTrue c.arrives_as-in-Delivered.result
    ↔ (let p = c.passage-passage-in-Delivered.result in ArrivesAs s hs p.device p.time p.link p.cause (arrivals.Delivered v.vl n)))
    c.from-in-Delivered.ensures (c.arrives_as-in-Delivered.ensures befallen hs k)))

pub returns-in-Dropped : goal.returns-in-Dropped
returns-in-Dropped c befallen hs k founded behind befalls =
    let s = scenario_under c.args.network.now befallen in
    let v = c.in-Dropped in
    subst (λ b. IsTrue c.is_dropped.result ↔ IsCaused s hs c.args.time b) (sym v.is)
    (subst (λ (p : Passage). IsTrue c.is_dropped.result ↔ IsDropped s hs p.device p.time p.link p.cause v.reason) c.passage-passage-in-Dropped.ensures
    (c.is_dropped.ensures befallen hs k))

pub returns-in-Sent : goal.returns-in-Sent
returns-in-Sent c befallen hs k founded behind befalls =
    let s = scenario_under c.args.network.now befallen in
    let v = c.in-Sent in
    let at = c.amount-at.ensures.value in
    subst (λ b. IsTrue c.is_sent.result ↔ IsCaused s hs c.args.time b) (sym v.is)
    (subst (λ t. IsTrue c.is_sent.result ↔ Sends s hs v.device t v.cycle) at
    (c.is_sent.ensures befallen hs k))

pub returns-in-Corrected : goal.returns-in-Corrected
returns-in-Corrected c befallen hs k founded behind befalls =
    let s = scenario_under c.args.network.now befallen in
    let v = c.in-Corrected in
    let at = c.amount-at.ensures.value in
    let late = subst (λ t. NoneLater t hs) (sym at) (none_later_behind behind) in
    subst (λ b. IsTrue c.is_corrected.result ↔ IsCaused s hs c.args.time b) (sym v.is)
    (subst (λ t. IsTrue c.is_corrected.result ↔ IsCorrectedRecord s hs v.device t v.cycle v.by v.adjustment) at
    (c.is_corrected.ensures befallen hs k founded late))

pub returns-in-State : goal.returns-in-State
returns-in-State c befallen hs k founded behind befalls =
    let s = scenario_under c.args.network.now befallen in
    let v = c.in-State in
    let at = c.amount-at.ensures.value in
    let late = subst (λ t. NoneLater t hs) (sym at) (none_later_behind behind) in
    subst (λ b. IsTrue c.is_changed.result ↔ IsCaused s hs c.args.time b) (sym v.is)
    (subst (λ t. IsTrue c.is_changed.result ↔ ChangesState s hs v.device t v.state v.cause v.why) at
    (c.is_changed.ensures befallen hs k founded late))

pub returns-in-Compressed : goal.returns-in-Compressed
returns-in-Compressed c befallen hs k founded behind befalls =
    let s = scenario_under c.args.network.now befallen in
    let v = c.in-Compressed in
    let at = c.amount-at.ensures.value in
    let standing = subst (λ b. StandsBehind hs c.args.time b) v.is behind in
    let heard = subst (λ t. IsHeardBefore t hs) (sym at)
    (heard_behind v.device v.opened v.sent_at v.cycle v.members v.verdict standing) in
    subst (λ b. IsTrue c.emits.result ↔ IsCaused s hs c.args.time b) (sym v.is)
    (subst (λ (t : ℕ). IsTrue c.emits.result ↔ Emits s hs v.device t (record { opened = v.opened; at = v.sent_at; cycle = v.cycle; members = v.members })
    v.verdict) at
    (c.emits.ensures befallen hs k heard))

pub returns-in-Clock : goal.returns-in-Clock
returns-in-Clock c befallen hs k founded behind befalls =
    let s = scenario_under c.args.network.now befallen in
    let v = c.in-Clock in
    subst (λ b. IsTrue c.is_end_clock.result ↔ IsCaused s hs c.args.time b) (sym v.is)
    (c.is_end_clock.ensures befallen hs k (none_later_behind behind))

pub returns-in-Event : goal.returns-in-Event
returns-in-Event c befallen hs k founded behind befalls =
    let v = c.in-Event in
    let is = subst (λ b. Befalls befallen c.args.time b) v.is befalls in
    subst (λ b. IsTrue true ↔ IsCaused (scenario_under c.args.network.now befallen) hs c.args.time b) (sym v.is) (λ held. is, λ y. refl)

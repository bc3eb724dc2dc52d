use Rattle.std.proofs.Common.{arith, refl, sym}
use Rattle.audit_law.proofs.events_lemmas.{Histories.{devices_ready, nothing_set}, Keeping.soon}
use Rattle.run_law.proofs.scenario.Devices.{slow_what}
use Rattle.net_plan.specs.declared.event.What.TheVariants as events
use Rattle.audit_law.proofs.events.history.EventHistory.keep.Goals as goal

pub set_rate-requires-clause-slow : goal.set_rate-requires-clause-slow
set_rate-requires-clause-slow c =
    let at = c.requires.within in
    let slow = slow_what at.0 at.1 c.args.event.now (events.Rate c.in-Rate.device c.in-Rate.rate) c.in-Rate.is at.3.within in
    let most = at.2.range.rho in
    omega arith

pub set_rate-requires-clause-limit : goal.set_rate-requires-clause-limit
set_rate-requires-clause-limit c =
    let at = c.requires.within in
    let early = soon at.1 c.args.event.now at.2.range at.3.within c.requires.begun in
    let same = c.amount-time.ensures.value in
    rw same early

pub set_rate-requires-clause-ready : goal.set_rate-requires-clause-ready
set_rate-requires-clause-ready c =
    let at = c.requires.within in
    rw c.amount-time.ensures.value (devices_ready at.2 at.3 c.requires.begun)

pub returns-in-Rate : goal.returns-in-Rate
returns-in-Rate c = c.set_rate.ensures c.args.event.now c.in-Rate.is (sym c.amount-time.ensures.value) c.requires.begun

pub returns-in-Wire : goal.returns-in-Wire
returns-in-Wire c =
    c.set_delay.ensures c.args.event.now c.in-Wire.delay c.in-Wire.is (sym c.magnitude.ensures) (sym c.amount-time.ensures.value) c.requires.begun

pub returns-in-Hold : goal.returns-in-Hold
returns-in-Hold c =
    c.set_hold.ensures c.args.event.now c.in-Hold.delay c.in-Hold.is (sym c.magnitude-in-Hold.ensures) (sym c.amount-time.ensures.value)
    c.requires.begun

pub returns-in-Cut : goal.returns-in-Cut
returns-in-Cut c = c.set_cut.ensures c.args.event.now c.in-Cut.is (sym c.amount-time.ensures.value) c.requires.begun

pub returns-in-Heal : goal.returns-in-Heal
returns-in-Heal c = c.set_cut-in-Heal.ensures c.args.event.now c.in-Heal.is (sym c.amount-time.ensures.value) c.requires.begun

pub returns-in-On : goal.returns-in-On
returns-in-On c = λ network all h may.
    c.turn_on.ensures network all c.args.event.now h may c.in-On.is (sym c.amount-time.ensures.value) c.requires.begun

pub returns-in-Break : goal.returns-in-Break
returns-in-Break c = λ network all h may.
    c.break_down.ensures network all c.args.event.now h may c.in-Break.is (sym c.amount-time.ensures.value) c.requires.begun

pub returns-in-Send : goal.returns-in-Send
returns-in-Send c = λ network all h may.
    nothing_set _ h may c.requires.begun c.in-Send.is (λ l w. refl) (λ l w. refl) (λ l w. refl) (λ d. refl)
    (λ d. refl) (λ d. refl)

pub returns-in-End : goal.returns-in-End
returns-in-End c = λ network all h may.
    nothing_set _ h may c.requires.begun c.in-End.is (λ l w. refl) (λ l w. refl) (λ l w. refl) (λ d. refl)
    (λ d. refl) (λ d. refl)

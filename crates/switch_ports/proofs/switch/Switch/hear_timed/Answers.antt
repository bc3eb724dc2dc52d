use Rattle.device_rules.{proofs.Takings.{dropped_by, heard_by}, specs.{Headings.heading_fault, Intakes.IsTakenSo}}
use Rattle.run_law.specs.device.States.{is_off}
use Rattle.std.proofs.Common.{Bool, not}
use Rattle.switch_ports.proofs.Words.{◌+ℤ◌, ◌∙◌, ◌≡◌, SyncPlan, ap, clock_of, its_amount, refl, standpoint_of, subst, sym, ℤ}
use Rattle.switch_ports.proofs.switch.Switch.hear_timed.Goals as goal

pub take-taken-requires-clause-length : goal.take-taken-requires-clause-length
take-taken-requires-clause-length c = c.requires.alive.site_in_range.cycle

pub returns-in-Some-clause-is : goal.returns-in-Some-clause-is
returns-in-Some-clause-is c octets same network device taken range site has link =
    let none = ap (λ m. heading_fault (not (is_off c.args.at.now.state)) c.args.at.now.state m c.args.heading.now) (sym site.marker)
    ∙ ap (λ (b : Bool). heading_fault (not b) c.args.at.now.state c.args.self.now.site.marker c.args.heading.now) (sym c.is_off.ensures)
    ∙ sym c.fault.ensures.is ∙ c.in-Some.is in (
      sym (dropped_by network device c.args.link (standpoint_of c.args.at.now) octets c.args.heading.now taken c.in-Some.reason
          same none),
      has,
    )

pub returns-in-Ok-clause-is : goal.returns-in-Ok-clause-is
returns-in-Ok-clause-is c octets same network device taken range site has link =
    let at = standpoint_of c.args.at.now in
    let clock : c.local-local.result.0 ≡ clock_of at = c.local-local.ensures
    ∙ ap (λ z. z +ℤ c.args.at.now.adjustment.0) (its_amount c.requires.alive.reading) in
    let none = ap (λ m. heading_fault (not (is_off c.args.at.now.state)) c.args.at.now.state m c.args.heading.now) (sym site.marker)
    ∙ ap (λ (b : Bool). heading_fault (not b) c.args.at.now.state c.args.self.now.site.marker c.args.heading.now) (sym c.is_off.ensures)
    ∙ sym c.fault.ensures.is ∙ c.in_default.is in
    let judged = subst (IsTakenSo network device c.args.link c.args.heading.now at taken c.take-taken.new.self) c.in-Ok.is
    (c.take-taken.ensures.is network device at taken has link (ap (λ (p : SyncPlan). p.cycle_length) site.plan) clock) in (
      sym (heard_by network device c.args.link at octets c.args.heading.now taken same none ∙ judged.0
          ∙ rw site.not_end refl),
      judged.1,
    )

pub returns-in-Err-clause-is : goal.returns-in-Err-clause-is
returns-in-Err-clause-is c octets same network device taken range site has link =
    let at = standpoint_of c.args.at.now in
    let clock : c.local-local.result.0 ≡ clock_of at = c.local-local.ensures
    ∙ ap (λ z. z +ℤ c.args.at.now.adjustment.0) (its_amount c.requires.alive.reading) in
    let none = ap (λ m. heading_fault (not (is_off c.args.at.now.state)) c.args.at.now.state m c.args.heading.now) (sym site.marker)
    ∙ ap (λ (b : Bool). heading_fault (not b) c.args.at.now.state c.args.self.now.site.marker c.args.heading.now) (sym c.is_off.ensures)
    ∙ sym c.fault.ensures.is ∙ c.in_default.is in
    let judged = subst (IsTakenSo network device c.args.link c.args.heading.now at taken c.take-taken.new.self) c.in-Err.is
    (c.take-taken.ensures.is network device at taken has link (ap (λ (p : SyncPlan). p.cycle_length) site.plan) clock) in (
      sym (heard_by network device c.args.link at octets c.args.heading.now taken same none ∙ judged.0),
      judged.1,
    )

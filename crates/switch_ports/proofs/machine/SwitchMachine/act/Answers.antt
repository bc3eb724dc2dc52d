use Rattle.{run_law.specs.records.Frames.integration_frame, std.proofs.lemmas.Option.none-some, sync_state.specs.Verdicts.HasVerdict}
use Rattle.switch_ports.proofs.Emissions.{first_emission, may_before, reached_by, sent_stands, with_sent}
use Rattle.switch_ports.proofs.{Pending.{EmitsNone, first_correction, its_next, value_reached}, Ranges.site_in_range}
use Rattle.switch_ports.proofs.{SwitchStates.{IsComing, corrects_stands, is_point}}
use Rattle.switch_ports.proofs.SwitchSteps
use SwitchSteps.{dispatch_acts, heard_so, heard_stands, is_near, next_inside, number_within, some_due, timed_next}
use Rattle.switch_ports.proofs.Words.{◌+ℤ◌, ◌<ℤ◌, ◌∙◌, ◌≡◌, ◌≤ℤ◌, A, B, Pcf, Some, StandsAs, acting, after_permanence, ap, called}
use Rattle.switch_ports.proofs.Words.{correction_value, emitting, heard_as, next_point, observation_window, plan_of, refl, ripe_as, subst, sym}
use Rattle.switch_ports.proofs.machine.SwitchMachine.act.Goals as goal

pub hear_frame-heard-requires-clause-site : goal.hear_frame-heard-requires-clause-site
hear_frame-heard-requires-clause-site c = let r = c.requires in site_in_range r.3.accepted.range r.3.site

pub correct-requires-clause-site : goal.correct-requires-clause-site
correct-requires-clause-site c = let r = c.requires in site_in_range r.3.accepted.range r.3.site

pub correct-requires-clause-number : goal.correct-requires-clause-number
correct-requires-clause-number c =
    let r = c.requires in number_within c.in-Some.cycle r.3 (sym c.next_correction.ensures ∙ c.in-Some.is)

pub correct-requires-clause-near_a : goal.correct-requires-clause-near_a
correct-requires-clause-near_a c =
    let r = c.requires in
    let o = some_due c.args.self.now.corrects_at _ (c.is_reached-2.ensures.reached c.if-not-is_reached.false) in
    is_near o.0 A r.3 o.1

pub correct-requires-clause-near_b : goal.correct-requires-clause-near_b
correct-requires-clause-near_b c =
    let r = c.requires in
    let o = some_due c.args.self.now.corrects_at _ (c.is_reached-2.ensures.reached c.if-not-is_reached.false) in
    is_near o.0 B r.3 o.1

pub returns-in-Some : goal.returns-in-Some
returns-in-Some c network device node st may due =
    let old = c.args.self.now in
    let cycle = c.in-Some.cycle in
    let o = some_due old.corrects_at c.args.moment.reading.0 (c.is_reached-2.ensures.reached c.if-not-is_reached.false) in
    let next : next_point node.standing ≡ Some cycle = ap next_point st.standing ∙ (sym c.next_correction.ensures ∙ c.in-Some.is) in
    let none : EmitsNone old c.args.moment.reading.0 c.due.result = record {
      none = c.due.ensures.none;
      least = c.due.ensures.least;
      later = c.is_reached.ensures.later c.if-is_reached.false;
    } in
    let first = first_correction old network device node cycle o.0 st none o.1 next o.2 in
    let t = timed_next node.standing.state node.standing.number cycle next in
    let ahead = subst (λ n. node.changed <ℤ correction_value network n) (sym t.1) first.pending.1.ahead in
    let reached = subst (λ n. correction_value network n ≤ℤ (c.args.moment.reading.0 +ℤ node.standing.adjustment.0)) (sym t.1)
    (value_reached (correction_value network cycle) node.standing.adjustment.0 c.args.moment.reading.0 first.due) in
    let is : HasVerdict node.standing old.heard c.correct.result = subst (λ x. HasVerdict x old.heard c.correct.result) (sym st.standing)
    c.correct.ensures.is in (
      _,
      (first, (old.heard, record { summary = st.heard; verdict_is = is }, refl)),
      corrects_stands old c.correct.new.self network device node c.args.moment cycle c.correct.result st may.later.reading t.0 (sym t.1) ahead reached
          c.correct.ensures,
    )

pub dispatch-requires-clause-place : goal.dispatch-requires-clause-place
dispatch-requires-clause-place c = let r = c.requires in next_inside c.args.self.now.departures.next r.3 refl

pub dispatch-requires-clause-ready : goal.dispatch-requires-clause-ready
dispatch-requires-clause-ready c = let r = c.requires in r.3.departs.ready

pub correct-requires-clause-ready : goal.correct-requires-clause-ready
correct-requires-clause-ready c = let r = c.requires in r.3.departs.ready

pub returns-then-not-is_reached : goal.returns-then-not-is_reached
returns-then-not-is_reached c network device node st may due =
    let old = c.args.self.now in
    let none : EmitsNone old c.args.moment.reading.0 c.due.result = record {
      none = c.due.ensures.none;
      least = c.due.ensures.least;
      later = c.is_reached.ensures.later c.if-is_reached.false;
    } in
    dispatch_acts old c.dispatch.new.self network device node c.args.moment c.dispatch.result old.departures.next st
    may none
    (c.is_reached-2.ensures.later c.if-not-is_reached.true) due refl c.dispatch.ensures

pub returns-in-None : goal.returns-in-None
returns-in-None c network device node st may due =
    let old = c.args.self.now in
    let o = some_due old.corrects_at c.args.moment.reading.0 (c.is_reached-2.ensures.reached c.if-not-is_reached.false) in
    let next = its_next old network device node o.0 st o.1 in
    absurd (none-some next.0 (sym (sym c.next_correction.ensures ∙ c.in-None.is) ∙ next.1))

pub hear_frame-heard-requires-clause-point : goal.hear_frame-heard-requires-clause-point
hear_frame-heard-requires-clause-point c =
    let r = c.requires in
    let st = r.3 in
    let old = c.args.self.now in
    let f = c.emit-sent.ensures.first in
    let due = reached_by c.due.result c.args.moment.reading.0
    (c.is_reached.ensures.reached c.if-is_reached.true) c.due.ensures.least c.emit-sent.ensures.due in
    let first = first_emission old r.0 r.1 r.2 c.emit-sent.result f.0 c.emit-sent.new.self.waiting c.args.moment.reading.0 st f.1 f.2 due in
    is_point {point = c.emit-sent.result.at} st r.4.call
    (record { reached = due; in_time = r.4.call.in_time (emitting c.emit-sent.result) first.pending })

pub returns-then-is_reached : goal.returns-then-is_reached
returns-then-is_reached c network device node st may has =
    let old = c.args.self.now in
    let sent = c.emit-sent.result in
    let f = c.emit-sent.ensures.first in
    let due = reached_by c.due.result c.args.moment.reading.0 (c.is_reached.ensures.reached c.if-is_reached.true)
    c.due.ensures.least c.emit-sent.ensures.due in
    let first = first_emission old network device node sent f.0 c.emit-sent.new.self.waiting c.args.moment.reading.0 st f.1 f.2 due in
    let mid = sent_stands sent st c.emit-sent.ensures.kept
    (c.emit-sent.ensures.stands node.points node.emitted st.collects.collected) in
    let frame = c.frame_of-frame.ensures
    ∙ ap (λ (p : Pcf). record p { cycle = sent.cycle; members = sent.members }) st.site.frame in
    let coming : IsComing network c.args.moment sent.at = record { reached = due; in_time = may.in_time (emitting sent) first.pending } in
    let new = heard_stands c.hear_frame-heard.new.self (Some old.site.channel) c.frame_of-frame.result
    c.hear_frame-heard.result mid
    (may_before network device node sent c.args.moment may) coming c.hear_frame-heard.ensures.is
    c.hear_frame-heard.ensures.hears in
    let heard = heard_so (record old { collector = c.emit-sent.new.self }) network device (with_sent node sent) sent.at.0 c.frame_of-frame.result.cycle
    c.frame_of-frame.result.members c.hear_frame-heard.result mid c.hear_frame-heard.ensures.is in (
      _,
      (
        first,
        heard ∙ ap (λ (p : Pcf). ripe_as (heard_as (plan_of network device) (observation_window network) node.standing.state node.standing.adjustment.0
            sent.at.0 p.cycle p.members)) frame,
        refl,
      ),
      subst (λ o. StandsAs c.hear_frame-heard.new.self network device
          (called c.args.moment acting (after_permanence (with_sent node sent) c.args.moment o (integration_frame network device sent.cycle sent.members)
          sent.at c.hear_frame-heard.result))) (sym st.site.channel)
          (subst (λ p. StandsAs c.hear_frame-heard.new.self network device
          (called c.args.moment acting (after_permanence (with_sent node sent) c.args.moment (Some old.site.channel) p sent.at c.hear_frame-heard.result)))
          frame new),
    )

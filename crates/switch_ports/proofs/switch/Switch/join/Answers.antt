use Rattle.switch_ports.proofs.Words.{◌∙◌, ◌≡◌, Option, Some, Standing, after, ap, correction_at, refl, sym}
use Rattle.sync_state.specs.{Calls.heard_frame, Integration.joined_by, declared.answers.Joined.Joined}
use Rattle.switch_ports.proofs.switch.Switch.join.Goals as goal

pub returns : goal.returns
returns c i =
    let old = c.args.self.now in
    let joined = c.in-Some.ensures.joined.1 in
    let sync : c.integrate.new.self ≡ after old.sync (heard_frame c.args.frame.now c.args.point (Some (joined_by old.sync.plan c.args.frame.now c.args.point)))
    =
    c.integrate.ensures.value ∙ ap (λ (o : Option Joined). after old.sync (heard_frame c.args.frame.now c.args.point o)) (c.in-Some.is ∙ ap Some joined) in
    let adjustment : c.in-Some.joined.adjustment ≡ c.integrate.new.self.adjustment =
    ap (λ (j : Joined). j.adjustment) joined ∙ sym (ap (λ (s : Standing). s.adjustment) sync) in
    record {
      site = refl;
      sync = sync;
      heard = c.clear.ensures.value;
      intake = refl;
      collector = c.clear-2.ensures.value;
      changed = rw (sym adjustment) c.local-self.ensures;
      corrects =
          rw (sym adjustment)
          (c.correction_at-self.ensures ∙ ap (λ (j : Joined). correction_at old.site j.cycle c.in-Some.joined.adjustment.0 c.local-self.result.0) joined);
      departures = c.stop.ensures;
    }

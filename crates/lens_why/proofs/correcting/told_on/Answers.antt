use Rattle.{lens_why.specs.Corrections.told_by, std.specs.Prelude.option_map}
use Rattle.{lens_why.specs.declared.ground.BestHeard.BestHeard, run_law.specs.records.Happenings.happenings, std.proofs.Common.{◌∙◌, Option, Some, ap, sym, ℕ}}
use Rattle.{sync_state.specs.declared.membership.frame.HeardFrame.HeardFrame, tte_units.specs.declared.frames.members.Members.Members}
use Rattle.lens_why.proofs.correcting.told_on.Goals as goal

abbrev told : ℕ → Members → BestHeard
told n members = record { number = n; members = members }

pub returns-in-Some : goal.returns-in-Some
returns-in-Some c ns end h of there =
    let network = c.args.network.now in
    ap (λ n. Some (told n c.in-Some.frame.members)) (c.last_before.ensures ns end h of there)
    ∙ sym (ap (λ (o : Option HeardFrame). option_map (told_by network (happenings network ns) h c.args.device c.args.channel) o)
    (sym c.best.ensures.value ∙ c.in-Some.is))

pub returns-in-None : goal.returns-in-None
returns-in-None c ns end h of there =
    let network = c.args.network.now in
    sym (ap (λ (o : Option HeardFrame). option_map (told_by network (happenings network ns) h c.args.device c.args.channel) o)
    (sym c.best.ensures.value ∙ c.in-None.is))

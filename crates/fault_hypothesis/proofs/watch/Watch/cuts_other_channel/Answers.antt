use Rattle.fault_hypothesis.proofs.Keeping.{cut_by}
use Rattle.{std.proofs.Common.{◌∙◌}}
use Rattle.fault_hypothesis.proofs.watch.Watch.cuts_other_channel.Goals as goal

pub returns-in-Cut : goal.returns-in-Cut
returns-in-Cut c = λ network admitted w.
    let on = rw (c.network.ensures.value ∙ w.over) at c.channel_of.ensures in
    let by = cut_by network admitted c.args.event.now c.in-Cut.link c.in-Cut.field-1 c.args.self.now.faulty c.channel_of.result w.faulty on c.in-Cut.is in
    (λ t. by.0 (c.differ.ensures.0 t), λ v. c.differ.ensures.1 (by.1 v))

use Rattle.std.{proofs.Common.{◌∙◌, ap}, specs.Prelude.drop}
use Rattle.audit_law.proofs.events_lemmas.Clocks.{later_found}
use Rattle.audit_law.proofs.events.settings.Settings.after.Goals as goal

pub returns : goal.returns
returns g c = λ order.
    let count = c.count_up_to-count.result in
    c.split_at.ensures.back ∙ ap (drop count) c.deref.ensures.value
    ∙ later_found c.args.self.now.changes.items c.args.time count (c.count_up_to-count.ensures.part order)

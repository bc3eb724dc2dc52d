use Rattle.lens_plan.{proofs.Plans.AreFirstIds, specs.text.Ids.taken_ids}
use Rattle.lens_plan.proofs.text.ids.ids_of.Given as goal

abbrev pub invariant-messages : goal.invariant-messages
invariant-messages l = AreFirstIds (taken_ids l.network l.messages) l.messages l.place l.ids.items l.taken.items

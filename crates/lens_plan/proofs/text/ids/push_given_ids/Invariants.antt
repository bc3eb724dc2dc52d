use Rattle.std.{proofs.Common.{◌++◌, ◌<◌, ◌≡◌, take}, specs.List.{All, filter_map}}
use Rattle.lens_plan.proofs.text.ids.push_given_ids.Given as goal

abbrev pub invariant-messages : goal.invariant-messages
invariant-messages l = record {
  ids : l.ids.items ≡ l.fn.ids.items ++ filter_map (λ m. m.id) (take l.message-index l.messages);
  small : All (λ id. id < 65536) l.ids.items;
}

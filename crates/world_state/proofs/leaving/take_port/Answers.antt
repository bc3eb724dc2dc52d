use Rattle.std.proofs.{Common.{◌∙◌, ap, inl, refl, sym}, lemmas.List.Sorted.IsPermutation-sym}
use Rattle.world_state.proofs.{Queues.{in_words, one_first}, queue_lemmas.Slots.in_permuted}
use Rattle.world_state.{specs.declared.queue.DueAt.DueAt}
use Rattle.world_state.proofs.leaving.take_port.Goals as goal

pub port_of-requires : goal.port_of-requires
port_of-requires c =
    let first = c.in-Some.first in
    let there = in_permuted _ _ first (IsPermutation-sym _ _ c.in-Some.ensures.entries) (inl refl) in
    let same = one_first c.in-Some.ensures.first c.requires.first in
    sym (c.requires.sound.1.kinds first there) ∙ ap DueAt.rank same ∙ c.requires.port

pub returns-clause-taken : goal.returns-clause-taken
returns-clause-taken c = in_words _ _ c.in-Some.first (one_first c.in-Some.ensures.first c.requires.first)
    c.port_of.ensures c.in-Some.ensures.entries

use Rattle.{std.proofs.{Common.{◌≡◌, ap, arith, length, refl, rules}, lemmas.Bool.both_ways}}
use Rattle.world_state.{specs.Giving.entry_at_port}
use Rattle.world_state.proofs.{Queues.{apart_from, given_by_ends, more_put, no_link, none_put, nothing_put, sound_with}}
use Rattle.world_state.proofs.{giving.put_ports.Goals.{else-is_given, then-is_given}}
use Rattle.world_state.proofs.giving.put_ports.Goals as goal

pub loop-index-preserved : goal.loop-index-preserved
loop-index-preserved c =
    let a = c.args in
    let i = c.loop-index.index in
    let old = a.under_way.now.entries in
    let mid = c.loop-index.under_way.entries in
    let room = c.loop-index.invariant.0 in
    let are = c.loop-index.invariant.1 in
    let sound = c.loop-index.invariant.2 in
    let link = c.index-links-index.result in
    let links = c.as_slice-links.ensures in
    let within = c.loop-index-test.true in
    let many : length c.as_slice-links.result.now ≡ length a.network.now.link = rw links in
    let here = given_by_ends a.network.now c.ends_of-ends.result a.giving.now.device i (omega arith)
    (rw links at c.index-links-index.is) in
    elim c.if-is_given.branch [
      | then-is_given w ↦
          let new = w.put_port.new.under_way.entries in
          let more = w.put_port.ensures.room in
          let then_room = ap (λ q. q.room) w.under_way-is in (
            omega arith,
            rw w.under_way-is (more_put are new
                ((c.ends_of-ends.ensures (record { 0 = i })).1 (here.1 (c.is_given.ensures.0 w.if-is_given.true))) w.put_port.ensures.entries),
            λ below was.
                rw w.under_way-is (sound_with a.network.now mid new
                (entry_at_port a.network.now a.ups.now a.downs.now a.giving.now (record { 0 = i }))
                (sound below was) w.put_port.ensures.entries refl c.requires.device (search rules)
                (apart_from are below)),
          )
      | else-is_given w ↦
          let then_room = ap (λ q. q.room) w.under_way-is in (
            omega arith,
            rw w.under_way-is (none_put are
                (λ given. both_ways _ w.if-is_given.false (c.is_given.ensures.1 (here.0 ((c.ends_of-ends.ensures (record { 0 = i })).0 given))))),
            λ below was. rw w.under_way-is (sound below was),
          )
    ]

pub returns-then-gives_none-clause-put : goal.returns-then-gives_none-clause-put
returns-then-gives_none-clause-put c =
    let a = c.args in
    let none = c.gives_none.ensures c.if-gives_none.true in
    nothing_put (length a.network.now.link) a.network.now a.ups.now a.downs.now a.body.now a.giving.now a.under_way.now.entries
    (λ link given. no_link a.network.now c.ends_of-ends.result a.giving.now.device link none.0 none.1 ((c.ends_of-ends.ensures link).0 given))

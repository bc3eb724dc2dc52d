use Rattle.{net_plan.specs.declared.{event.What.TheVariants.{Break, On}}, std.proofs.lemmas.Option.get_or_from_slice_get}
use Rattle.{world_state.specs.Keeping.keeps}
use Rattle.{std.proofs.Common.{◌∙◌, ap, sym}, world_state.proofs.Befalls.{break_other, on_other, one_befalls}}
use Rattle.world_state.proofs.applying.befall_machines.Goals as goal

pub returns-in-On-clause-each : goal.returns-in-On-clause-each
returns-in-On-clause-each g c = λ network device machine turned found broke.
    let is = c.in-On.is in
    let at = c.in-On.device in
    let stands = g.M.Machine.stands in
    one_befalls (keeps stands) c.args.what.now at c.args.machines.now.items c.turn_on.new.self (c.requires.turned_on at is)
    (rw is (on_other at))
    network device turned found
    (λ same node k off.
    let own = c.index_mut.ensures.value ∙ get_or_from_slice_get _ at.0 machine _
    (rw same at found) in
    rw (sym (ap On same ∙ sym is)) (c.turn_on.ensures network device node turned (rw (sym own) at k)
    (off (is ∙ ap On (sym same)))))

pub returns-in-Break-clause-each : goal.returns-in-Break-clause-each
returns-in-Break-clause-each g c = λ network device machine turned found broke.
    let is = c.in-Break.is in
    let at = c.in-Break.device in
    let stands = g.M.Machine.stands in
    one_befalls (keeps stands) c.args.what.now at c.args.machines.now.items c.break_down.new.self (c.requires.broken at is)
    (rw is (break_other at))
    network device turned found
    (λ same node k off.
    let own = c.index_mut-in-Break.ensures.value
    ∙ get_or_from_slice_get _ at.0 machine _ (rw same at found) in
    rw (broke (is
    ∙ ap Break (sym same))) (rw (sym (ap Break same ∙ sym is))
    (c.break_down.ensures network device node (rw (sym own) at k))))

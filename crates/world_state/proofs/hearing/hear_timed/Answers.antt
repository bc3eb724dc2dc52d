use Rattle.{world_state.specs.{Keeping.keeps}}
use Rattle.{device_rules.specs.Reading.AreHeaded, std.proofs.Common.{◌∙◌, refl, rules}}
use Rattle.world_state.proofs.WorldSteps.{made_are, made_heading, made_signal, may_hear, may_hear_some, sent_octets}
use Rattle.world_state.specs.{Views.octets_of, declared.contents.Timed.TheVariants.Made}
use Rattle.world_state.proofs.hearing.hear_timed.Goals as goal

pub hear_heading-requires : goal.hear_heading-requires
hear_heading-requires g c =
    let vl = c.in-Made.vl in
    let cycle = c.in-Made.cycle in
    may_hear_some (keeps g.M.Machine.stands) c.args.kept.now c.args.moment c.args.link (AreHeaded c.made.result)
    (rw c.in-Made.is at c.requires.may)
    (made_are vl cycle c.requires.range refl)
    (record {
      is = c.made.ensures cycle ∙ made_heading c.args.network.now vl cycle (search rules);
      plain = made_signal vl cycle c.requires.range;
    })

pub returns-then-vl-as_slice : goal.returns-then-vl-as_slice
returns-then-vl-as_slice g c =
    let network = c.args.network.now in
    let vl = c.in-Made.vl in
    let cycle = c.in-Made.cycle in
    let octets = octets_of network (Made vl cycle) in (
      octets,
      rw c.in-Made.is (made_are vl cycle c.requires.range refl),
      c.hear_heading.ensures octets (record {
        is = c.made.ensures cycle ∙ made_heading network vl cycle (search rules);
        plain = made_signal vl cycle c.requires.range;
      }),
    )

pub hear-requires : goal.hear-requires
hear-requires g c =
    may_hear (keeps g.M.Machine.stands) c.args.kept.now c.args.moment c.args.link
    (rw c.in-Made.is at c.requires.may)
    (made_are c.in-Made.vl c.in-Made.cycle c.requires.range (c.as_slice-in-Made.ensures.value ∙ c.write.ensures))

pub hear-requires-in-Sent : goal.hear-requires-in-Sent
hear-requires-in-Sent g c =
    may_hear (keeps g.M.Machine.stands) c.args.kept.now c.args.moment c.args.link
    (rw c.in-Sent.is at c.requires.may)
    (sent_octets
    (rw c.in-Sent.is at c.requires.as_sent) c.as_slice-in-Sent.ensures.value
    c.as_slice-in-Sent.ensures.least c.as_slice-in-Sent.ensures.most)

pub returns-else-vl-as_slice : goal.returns-else-vl-as_slice
returns-else-vl-as_slice g c = (
  c.as_slice-in-Made.result.now,
  rw c.in-Made.is (made_are c.in-Made.vl c.in-Made.cycle c.requires.range
      (c.as_slice-in-Made.ensures.value ∙ c.write.ensures)),
  c.hear.ensures,
)

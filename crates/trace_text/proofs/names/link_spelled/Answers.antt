use Rattle.std.{proofs.{Common.{◌∙◌, ap, refl, sym, ℕ}, lemmas.List.Elements.All-weaker}, specs.Option.option_map}
use Rattle.net_plan.specs.{Bearers.link_names, NameText.IsNameText, Ranges.IsLinkInRange, declared.{ids.LinkId.LinkId}}
use Rattle.trace_text.{proofs.WordsBack.{IsNamed, bears_utf8, named_place, named_within, place_absent}}
use Rattle.trace_text.{specs.Names.{link_id, link_spelled}}
use Rattle.trace_text.proofs.names.link_spelled.Goals as goal

abbrev number : LinkId → ℕ
number i = i.0

pub returns-in-Ok-clause-value : goal.returns-in-Ok-clause-value
unfolding link_spelled
returns-in-Ok-clause-value c =
    let names = link_names c.args.network.now.link in
    let same = c.in-Ok.ensures.cases.0 in
    let found : IsNamed number names c.in-Ok.name.now c.link_named.result = record { first = c.link_named.ensures.first; none = c.link_named.ensures.none } in
    named_place link_id number (λ i. refl) names c.in-Ok.name.now c.link_named.result found ∙ (rw same)

pub returns-in-Ok-clause-of_network : goal.returns-in-Ok-clause-of_network
returns-in-Ok-clause-of_network c =
    named_within number (λ x. x.name) c.args.network.now.link c.in-Ok.name.now c.link_named.result
    (record { first = c.link_named.ensures.first; none = c.link_named.ensures.none })

pub returns-in-Err-clause-value : goal.returns-in-Err-clause-value
unfolding link_spelled
returns-in-Err-clause-value c =
    let names = All-weaker (IsLinkInRange c.args.network.now) (λ x. IsNameText x.name) (λ x h. h.name)
    c.args.network.now.link c.requires.links in
    sym (ap (option_map link_id)
    (place_absent (link_names c.args.network.now.link) c.args.text.now
    (bears_utf8 (λ x. x.name) c.args.network.now.link c.args.text.now names c.in-Err.ensures.cases.0)))

use Rattle.net_plan.specs.{NameText.IsNameText, Ranges.IsLinkInRange, declared.{ids.LinkId.LinkId, tables.Link.Link}}
use Rattle.trace_text.proofs.WordsBack.{bears_utf8}
use Rattle.{std.proofs.lemmas.List.Elements.All-weaker, tte_audit.proofs.{Bearers.{Bears, first_bears, none_bears, not_missed}, Words.{◌∙◌, List, subst, ℕ}}}
use Rattle.std.specs.Prelude.{IfSome}
use Rattle.tte_audit.proofs.names.first_link_of_name.Goals as goal

abbrev number : LinkId → ℕ
number i = i.0

abbrev name : Link → List ℕ
name x = x.name

pub returns-in-Ok-clause-is : goal.returns-in-Ok-clause-is
returns-in-Ok-clause-is c i within e =
    not_missed number name c.args.network.now.link c.in-Ok.name.now c.link_named.result c.link_named.ensures.none i (within, c.in-Ok.ensures.cases.0 ∙ e)

pub returns-in-Ok-clause-found : goal.returns-in-Ok-clause-found
returns-in-Ok-clause-found c =
    let xs = c.args.network.now.link in
    subst (λ text. IfSome c.link_named.result (Bears number name xs text)) c.in-Ok.ensures.cases.0
    (first_bears number name xs c.in-Ok.name.now c.link_named.result c.link_named.ensures.first)

pub returns-in-Err-clause-is : goal.returns-in-Err-clause-is
returns-in-Err-clause-is c i within e none =
    let network = c.args.network.now in
    let names = All-weaker (IsLinkInRange network) (λ x. IsNameText (name x)) (λ x h. h.name) network.link c.requires.links in
    none_bears number name network.link c.args.word.now (bears_utf8 name network.link c.args.word.now names c.in-Err.ensures.cases.0) i (within, e)

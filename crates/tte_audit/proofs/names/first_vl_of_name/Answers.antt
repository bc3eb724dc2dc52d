use Rattle.{net_plan.specs.{NameText.IsNameText, Ranges.IsVlInRange}, std.specs.Prelude.IfSome}
use Rattle.{net_plan.specs.declared.{ids.VlId.VlId, tables.VirtualLink.VirtualLink}, tte_audit.proofs.Bearers.{Bears, first_bears, none_bears, not_missed}}
use Rattle.std.proofs.lemmas.List.Elements.{All-weaker}
use Rattle.trace_text.proofs.WordsBack.{bears_utf8}
use Rattle.tte_audit.proofs.Words.{◌∙◌, List, subst, ℕ}
use Rattle.tte_audit.proofs.names.first_vl_of_name.Goals as goal

abbrev number : VlId → ℕ
number i = i.0

abbrev name : VirtualLink → List ℕ
name x = x.name

pub returns-in-Ok-clause-is : goal.returns-in-Ok-clause-is
returns-in-Ok-clause-is c i within e =
    not_missed number name c.args.network.now.vl c.in-Ok.name.now c.vl_named.result c.vl_named.ensures.none i (within, c.in-Ok.ensures.cases.0 ∙ e)

pub returns-in-Ok-clause-found : goal.returns-in-Ok-clause-found
returns-in-Ok-clause-found c =
    let xs = c.args.network.now.vl in
    subst (λ text. IfSome c.vl_named.result (Bears number name xs text)) c.in-Ok.ensures.cases.0
    (first_bears number name xs c.in-Ok.name.now c.vl_named.result c.vl_named.ensures.first)

pub returns-in-Err-clause-is : goal.returns-in-Err-clause-is
returns-in-Err-clause-is c i within e none =
    let network = c.args.network.now in
    let names = All-weaker (IsVlInRange network) (λ x. IsNameText (name x)) (λ x h. h.name) network.vl c.requires.vls in
    none_bears number name network.vl c.args.word.now (bears_utf8 name network.vl c.args.word.now names c.in-Err.ensures.cases.0) i (within, e)

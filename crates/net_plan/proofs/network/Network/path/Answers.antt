use Rattle.std.proofs.lemmas.Grind.{common_steps}
use Rattle.net_plan.{proofs.Trees.{ended, followed}, specs.{Paths.IsUplink, Places.{IsSwitchOf, link_at}}}
use Rattle.{net_plan.specs.declared.{tables.Link.Link}, std.proofs.lemmas.Option.{slice_get-get_or, slice_get_within}}
use Rattle.std.proofs.Common.{◌++◌, ◌∙◌, ◌∷◌, ◌≡◌, Some, [], append-nil, append_assoc, arith, get_or, subst, sym}
use Rattle.tte_units.proofs.general_lemmas.Options.{opened}
use Rattle.net_plan.proofs.network.Network.path.Goals as goal

pub loop-link-preserved : goal.loop-link-preserved
loop-link-preserved c =
    let n = c.args.self.now in
    let ch = c.args.channel in
    let at = c.loop-link.at in
    let link = c.in-Some.link in
    let inv = c.loop-link.invariant in
    let leads : IsUplink n ch at link = c.in-Some.ensures.first.leads in
    let up = opened (λ (l : Link). (l.child ≡ at) × IsSwitchOf n ch l.parent) (link_at n link) leads in
    let found : link_at n link ≡ Some (get_or n.link link.0 c.index-as_slice-link.result) = slice_get-get_or n.link link.0 c.index-as_slice-link.result
    (slice_get_within n.link link.0 up.0 up.1) in
    let known = subst (λ xs. link_at n link ≡ Some (get_or xs link.0 c.index-as_slice-link.result))
    (sym c.as_slice.ensures) found in
    let f = followed {n = n} ch at link (get_or c.as_slice.result.now link.0 c.index-as_slice-link.result) inv.0
    c.requires.tree leads known inv.1 in
    let joined : c.push.new.self ++ f.0 ≡ c.loop-link.path ++ inv.0 = rw c.push.ensures
    (append_assoc c.loop-link.path (link ∷ []) f.0 ∙ (rw (sym f.1))) in (
      f.0,
      f.2,
      rw (sym joined) at inv.2,
      rw (sym joined) at inv.3,
    )

pub returns-clause-leads : goal.returns-clause-leads
returns-clause-leads c =
    grind (
      arith,
      common_steps,
      c.args.self.now,
      c.args.channel,
      c.loop-link.at,
      c.loop-link.invariant,
      ended,
      c.in_default.ensures.none,
      c.loop-link.path,
      append-nil,
      c.args.device,
    )

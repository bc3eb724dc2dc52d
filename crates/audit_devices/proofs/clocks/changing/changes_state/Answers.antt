use Rattle.{audit_devices.proofs.clocks_lemmas.Bringing.{corrected, turned_on}, sync_state.specs.declared.answers.Verdict.TheVariants.{AsyncClique, SyncClique}}
use Rattle.{audit_law.specs.law.DueRecords.ChangesState, std.proofs.lemmas.Bool.{not-true, not_from_false}}
use Rattle.std.proofs.Common.{◌∙◌, subst, sym}
use Rattle.audit_devices.proofs.clocks.changing.changes_state.Goals as goal

pub returns-then-is_brought : goal.returns-then-is_brought
returns-then-is_brought c s hs t stands hears is =
    let said = c.args.said in
    let device = c.args.device in
    let brought = c.is_brought.ensures.0 c.if-is_brought.true in (
      λ sound. subst (λ w. ChangesState s hs device t said.state said.cause w) (sym c.in-On.is)
          (brought.1, sym stands.befalls.broken ∙ not-true c.args.moment.broken sound, turned_on hs device t said.cause (sym is ∙ brought.0)),
      λ change.
          let on = subst (λ w. ChangesState s hs device t said.state said.cause w) c.in-On.is change in
          not_from_false c.args.moment.broken (stands.befalls.broken ∙ on.1),
    )

pub returns-then-is_brought-2 : goal.returns-then-is_brought-2
returns-then-is_brought-2 c s hs t stands hears is =
    let said = c.args.said in
    let device = c.args.device in
    let brought = c.is_brought-in-Correction.ensures.0 c.if-is_brought-2.true in
    let joins = c.is_joining.ensures s hs c.args.network.now device t stands in (
      λ told. subst (λ w. ChangesState s hs device t said.state said.cause w) (sym c.in-Correction.is)
          (brought.1, joins.0 told, corrected hs device t said.cause (sym is ∙ brought.0)),
      λ change.
          let by = subst (λ w. ChangesState s hs device t said.state said.cause w) c.in-Correction.is change in
          joins.1 by.1,
    )

pub returns-then-is_left : goal.returns-then-is_left
returns-then-is_left c s hs t stands hears is =
    let said = c.args.said in
    let device = c.args.device in
    let left = c.is_left.ensures.0 c.if-is_left.true in (
      λ told.
          let found = c.is_alone.ensures.0 told in
          subst (λ w. ChangesState s hs device t said.state said.cause w) (sym c.in-SyncClique.is)
          (left.0, left.1, (found.0, (c.coming_point.ensures s hs t found.0 SyncClique stands hears).0 found.1)),
      λ change.
          let by = subst (λ w. ChangesState s hs device t said.state said.cause w) c.in-SyncClique.is change in
          c.is_alone.ensures.1 (by.2.0, (c.coming_point.ensures s hs t by.2.0 SyncClique stands hears).1 by.2.1),
    )

pub returns-then-is_left-2 : goal.returns-then-is_left-2
returns-then-is_left-2 c s hs t stands hears is =
    let said = c.args.said in
    let device = c.args.device in
    let left = c.is_left-in-AsyncClique.ensures.0 c.if-is_left-2.true in (
      λ told.
          let found = c.is_outnumbered.ensures.0 told in
          subst (λ w. ChangesState s hs device t said.state said.cause w) (sym c.in-AsyncClique.is)
          (left.0, left.1, (found.0, (c.coming_point-then-is_left-2.ensures s hs t found.0 AsyncClique stands hears).0 found.1)),
      λ change.
          let by = subst (λ w. ChangesState s hs device t said.state said.cause w) c.in-AsyncClique.is change in
          c.is_outnumbered.ensures.1 (by.2.0, (c.coming_point-then-is_left-2.ensures s hs t by.2.0 AsyncClique stands hears).1 by.2.1),
    )

use Rattle.{std.proofs.Common.{◌∙◌, Some, ap, arith, inl, inr, length, sym}}
use Rattle.{std.{proofs.lemmas.Bool.cases_eq}}
use Rattle.{std.proofs.lemmas.Option.get_or_from_slice_get, tte_units.proofs.general_lemmas.Lists.set_same, world_state.proofs.Befalls.set_there}
use Rattle.world_state.proofs.applying.set_way.Goals as goal

pub index-was-requires : goal.index-was-requires
index-was-requires c = omega (arith, c.in-Some.ensures.there (length c.args.ways.now.items) c.requires)

pub index_mut-requires : goal.index_mut-requires
index_mut-requires c = omega (arith, c.in-Some.ensures.there (length c.args.ways.now.items) c.requires)

pub returns-in-Some-clause-each : goal.returns-in-Some-clause-each
returns-in-Some-clause-each c = λ link was found.
    let items = c.args.ways.now.items in
    let l = c.in-Some.link in
    elim (cases_eq link.0 l) [
      | inl same ↦
          let own = c.index-was.ensures ∙ get_or_from_slice_get items l was c.index-was.result.now
          (rw same at found) in
          rw same (set_same items l c.way_after.result (c.in-Some.ensures.there (length items) c.requires)
          ∙ ap Some (c.way_after.ensures ∙ (rw own)))
      | inr apart ↦ set_there items l link.0 c.way_after.result apart found ∙ ap Some (sym (c.in-Some.ensures.others link c.args.way was apart))
    ]

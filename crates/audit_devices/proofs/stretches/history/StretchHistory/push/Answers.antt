use Rattle.audit_devices.{proofs.{KeptAll.also_on_ok, stretches_lemmas.Stretches.{all_on, all_still, may_bring}}}
use Rattle.audit_devices.{specs.{Effects.carried_by, stretches.Changes.{change_by, collector_in}}}
use Rattle.run_law.specs.{records.Ranks.place_at, scenario.Devices.is_cm}
use Rattle.audit_devices.proofs.stretches.history.StretchHistory.push.Goals.{then-index-len-via-else-index-len+then-not-is_cm}
use Rattle.audit_devices.{proofs.stretches.history.StretchHistory.push.Goals.then-index-len-via-then-index-len, specs.stretches.Keeping.{Keeps, KeepsAll}}
use Rattle.{audit_devices.specs.declared.effect.Carried.Carried, net_plan.specs.declared.ids.DeviceId.DeviceId, tte_units.proofs.general_lemmas.Lists.got_at}
use Rattle.{run_law.specs.records.Happenings.time_of, std.proofs.Common.{◌++◌, ◌<◌, ◌∙◌, ◌∷◌, ◌≡◌, Some, [], ap, arith, false, length, rules, sym, true}}
use Rattle.std.specs.Prelude.{slice_set}
use Rattle.audit_devices.proofs.stretches.history.StretchHistory.push.Goals as goal

pub returns-in_default-clause-stands : goal.returns-in_default-clause-stands
returns-in_default-clause-stands c hs h is all may stands =
    all_still c.args.network.now hs h c.args.self.now.kept.items
    (λ d lt cm change e of. c.in_default.not-Some change (c.change_by.ensures ∙ ap change_by (sym is.body_is) ∙ e)) stands

pub returns-then-index-len-clause-stands : goal.returns-then-index-len-clause-stands
returns-then-index-len-clause-stands c hs h is all may stands =
    let network = c.args.network.now in
    let items = c.args.self.now.kept.items in
    let here = c.in-Some-collector_in.device in
    let long : c.len.result ≡ length items = search rules in
    all_still network hs h items
    (λ d lt cm change e of.
    let both : Some here ≡ Some d = sym c.in-Some-collector_in.is ∙ c.collector_in.ensures ∙ ap collector_in (sym is.body_is) ∙ of in
    let one : here ≡ d = cc in
    elim c.then-index-len.branch [
      | then-index-len-via-then-index-len w ↦ omega (arith, lt, long, w.if-index-len.true, ap (λ (x : DeviceId). x.0) one)
      | then-index-len-via-else-index-len+then-not-is_cm w ↦
          let not : false ≡ true = w.if-not-is_cm.ensures ∙ ap (is_cm network) one ∙ cm in
          absurd cc
    ]) stands

pub returns-clause-stands : goal.returns-clause-stands
returns-clause-stands c hs h is all may stands =
    let network = c.args.network.now in
    let items = c.args.self.now.kept.items in
    let here = c.in-Some-collector_in.device in
    let change = c.in-Some.change in
    let new = c.take.new.self in
    let long : c.len.result ≡ length items = search rules in
    let within : here.0 < length items = omega (arith, long, c.if-index-len.false) in
    let of : collector_in h.note.body ≡ Some here = ap collector_in is.body_is ∙ sym c.collector_in.ensures ∙ c.in-Some-collector_in.is in
    let changes : change_by h.note.body ≡ Some change = ap change_by is.body_is ∙ sym c.change_by.ensures ∙ c.in-Some.is in
    let cm : is_cm network here ≡ true = sym c.if-not-is_cm.ensures in
    let keeps = stands here c.index_mut.result.now (got_at items here.0 c.index_mut.result.now within c.index_mut.ensures.value) cm in
    let place = c.of.ensures ∙ ap (λ n. place_at n c.args.carried.members.0 c.args.body.now) is.time
    ∙ ap (λ (x : Carried). place_at (time_of h) x.members.0 c.args.body.now) is.frame
    ∙ ap (λ b. place_at (time_of h) (carried_by h).members.0 b) (sym is.body_is) in
    also_on_ok c.take.result (Keeps network (hs ++ h ∷ []) here new) (KeepsAll network (hs ++ h ∷ []) (slice_set items here.0 new))
    (λ kept. all_on hs h items of within kept stands)
    (c.take.ensures network hs h here of changes place is.frame all (may_bring hs h here change changes (may here of cm)) keeps)

use Rattle.audit_devices.proofs.Words.{◌++◌, ◌<◌, ◌∙◌, ◌∷◌, ◌≡◌, DeviceId, Keeps, Some, [], ap, arith, got_at, length, rules, slice_set, subject_of, sym}
use Rattle.audit_devices.{proofs.KeptAll.{all_on, all_still, also_on_ok}, specs.Keeping.KeepsAll}
use Rattle.audit_devices.proofs.standings.Standings.push.Goals as goal

pub returns-in_default-clause-stands : goal.returns-in_default-clause-stands
returns-in_default-clause-stands c s hs h is seen all stands =
    all_still s hs h c.args.body.now c.args.self.now.histories.items seen.body_is
    (λ d lt e. c.in_default.not-Some d (c.subject_of.ensures ∙ e)) stands

pub returns-then-index-len-clause-stands : goal.returns-then-index-len-clause-stands
returns-then-index-len-clause-stands c s hs h is seen all stands =
    let items = c.args.self.now.histories.items in
    let here = c.in-Some.device in
    let long : c.len.result ≡ length items = search rules in
    all_still s hs h c.args.body.now items seen.body_is
    (λ d lt e.
    let both : Some here ≡ Some d = c.in-Some.ensures ∙ e in
    let one : here ≡ d = cc in
    omega (arith, lt, long, c.if-index-len.true, ap (λ (x : DeviceId). x.0) one)) stands

pub returns-clause-stands : goal.returns-clause-stands
returns-clause-stands c s hs h is seen all stands =
    let items = c.args.self.now.histories.items in
    let here = c.in-Some.device in
    let new = c.take.new.self in
    let long : c.len.result ≡ length items = search rules in
    let within : here.0 < length items = omega (arith, long, c.if-index-len.false) in
    let subject : subject_of h.note.body ≡ Some here = ap subject_of seen.body_is ∙ sym c.in-Some.ensures in
    let keeps = stands here c.index_mut.result.now (got_at items here.0 c.index_mut.result.now within c.index_mut.ensures.value) in
    also_on_ok c.take.result (Keeps s (hs ++ h ∷ []) here new) (KeepsAll s (hs ++ h ∷ []) (slice_set items here.0 new))
    (λ kept. all_on hs h items subject within kept stands)
    (c.take.ensures s hs h is (seen.met here (sym c.in-Some.ensures)) all keeps)

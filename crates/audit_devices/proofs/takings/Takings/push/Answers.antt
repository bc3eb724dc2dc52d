use Rattle.std.specs.Vec.{with_item}
use Rattle.audit_devices.proofs.{KeptAll.{kept_on, nothing_taken, of_ok, on_ok, other_taken, taken_on, told_by}}
use Rattle.audit_devices.proofs.Words.{◌++◌, ◌<◌, ◌∙◌, ◌∷◌, ◌≡◌, None, Some, [], arith, got_at, length, refl, rules}
use Rattle.audit_devices.proofs.Words.{subst, sym, time_of}
use Rattle.audit_devices.specs.{Taking.taken_by, Takings.{HasTaken, TakesRightly, kept_of, taker_count}, declared.takings.Takings.Takings}
use Rattle.audit_devices.proofs.takings.Takings.push.Goals as goal

pub returns-in_default-clause-taken : goal.returns-in_default-clause-taken
returns-in_default-clause-taken c network hs h at number is right all has =
    let old = c.args.self.now in
    let none : taken_by (time_of h) h.note.number h.note.body ≡ None =
    told_by h c.args.time c.args.number c.args.body.now at number is ∙ sym c.taken_by.ensures ∙ c.in_default.is in
    taken_on h old refl (λ device vl lt. nothing_taken h device vl (kept_of old device vl) none)
    (subst (TakesRightly network) (sym is) right) all has

pub returns-then-index-len-clause-taken : goal.returns-then-index-len-clause-taken
returns-then-index-len-clause-taken c network hs h at number is right all has =
    let old = c.args.self.now in
    let t = c.in-Some.taken in
    let long : c.len.result ≡ length old.devices.items = search rules in
    let some : taken_by (time_of h) h.note.number h.note.body ≡ Some t =
    told_by h c.args.time c.args.number c.args.body.now at number is ∙ sym c.taken_by.ensures ∙ c.in-Some.is in
    taken_on h (record { devices = old.devices }) refl
    (λ device vl lt. other_taken h device vl t (kept_of old device vl) some (λ e. omega (arith, e, lt, long, c.if-index-len.true)))
    (subst (TakesRightly network) (sym is) right) all has

pub returns-clause-taken : goal.returns-clause-taken
returns-clause-taken c network hs h at number is right all has =
    let old = c.args.self.now in
    let items = old.devices.items in
    let t = c.in-Some.taken in
    let new : Takings = record { devices = with_item old.devices t.device.0 c.push.new.self } in
    let long : c.len.result ≡ length items = search rules in
    let within : t.device.0 < length items = omega (arith, long, c.if-index-len.false) in
    let there = got_at items t.device.0 c.index_mut.result.now within c.index_mut.ensures.value in
    let some : taken_by (time_of h) h.note.number h.note.body ≡ Some t =
    told_by h c.args.time c.args.number c.args.body.now at number is ∙ sym c.taken_by.ensures ∙ c.in-Some.is in
    let count : taker_count new ≡ taker_count old = search rules in
    on_ok c.push.result (HasTaken network (hs ++ h ∷ []) new)
    (λ ok. taken_on h new count
    (λ device vl lt. kept_on h items t c.index_mut.result.now c.push.new.self some within there (λ other.
    of_ok c.push.result _ ok (c.push.ensures other)) device vl)
    (subst (TakesRightly network) (sym is) right) all has)

use Rattle.{audit_devices.specs.{Keeping.time_at, stretches.Keeping.Stretches}, tte_units.proofs.general_lemmas.Lists.got_at}
use Rattle.{audit_devices.specs.declared.stretches.kept.Entry.Entry, std.proofs.Common.{◌<◌, ◌∙◌, ◌≡◌, Some, ap, arith, length, slice_get, sym}}
use Rattle.audit_devices.proofs.stretches.history.StretchHistory.changed.Goals as goal

pub index-entry-requires : goal.index-entry-requires
index-entry-requires c =
    let kept : Stretches = c.index-kept.result.now in
    let there = got_at c.args.self.now.kept.items c.args.device.0 kept c.requires.device c.index-kept.ensures in
    let within = c.requires.place kept there in
    let same = ap (λ (k : Stretches). length k.entries) c.kept.view_is in
    omega (arith, within, same)

pub returns : goal.returns
returns c kept e is there =
    let here : Stretches = c.index-kept.result.now in
    let at = got_at c.args.self.now.kept.items c.args.device.0 here c.requires.device c.index-kept.ensures in
    let one : here ≡ kept = some_is here kept (sym at ∙ is) in
    let whole = c.kept.view_is ∙ one in
    let lt : c.args.place < length c.kept.inside.entries.items =
    (let within = c.requires.place here at in let same = ap (λ (k : Stretches). length k.entries) c.kept.view_is in omega (arith, within, same)) in
    let found = got_at c.kept.inside.entries.items c.args.place c.index-entry.result.now lt c.index-entry.ensures in
    let entry : c.index-entry.result.now ≡ e =
    some_is c.index-entry.result.now e (sym found ∙ ap (λ (k : Stretches). slice_get k.entries c.args.place) whole ∙ there) in
    record {
      time_is = c.time.ensures ∙ ap (λ (x : Entry). time_at x.place) entry;
      collections_are = ap (λ (k : Stretches). k.collections) whole;
      gathering_is = ap (λ (x : Entry). x.gathering) entry;
    }
  where
    some_is : {X : Type 0} (x y : X) → Some x ≡ Some y → x ≡ y
    some_is x y e = cc

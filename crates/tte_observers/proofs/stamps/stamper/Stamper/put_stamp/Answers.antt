use Rattle.tte_observers.proofs.stamps_lemmas.Words.{◌++◌, ◌∙◌, ◌∷◌, ◌≡◌, Network, [], ap, device_name, length, stamp_line, stamp_of, subst, sym}
use Rattle.std.{proofs.{Common.{◌<◌, of_z, rules, to_z}, lemmas.Int.to_z-of_z}, specs.Int.{w128, w64}}
use Rattle.tte_observers.proofs.stamps_lemmas.LineStamps.{none_put, one_fails, one_put}
use Rattle.tte_observers.proofs.stamps.stamper.Stamper.put_stamp.Goals as goal

pub local_before-requires-clause-there : goal.local_before-requires-clause-there
local_before-requires-clause-there g c = subst (λ (n : Network). c.args.device.0 < length n.device) (sym c.requires.may.same) c.requires.there

pub returns-in-None-clause-stamps : goal.returns-in-None-clause-stamps
returns-in-None-clause-stamps g c = λ before event notes at.
    let n = c.args.network.now in
    none_put c.args.self.now.granule n c.args.world.now c.args.number before event notes c.args.device at g.K.Sink c.args.out.now
    (c.in-None.ensures.local n (before ++ event ∷ []) notes at.stands at.reached.early)

pub returns-in-Ok-clause-stamps : goal.returns-in-Ok-clause-stamps
returns-in-Ok-clause-stamps g c = λ before event notes at.
    let n = c.args.network.now in
    let granule = c.args.self.now.granule in
    let local = c.in-Some.local in
    let stamp = c.stamp_wide-stamp.result in
    let value : to_z w64 (of_z w64 stamp) ≡ stamp_of granule local =
    to_z-of_z w64 stamp (search rules) ∙ c.stamp_wide-stamp.ensures ∙ ap (stamp_of granule) (to_z-of_z w128 local (search rules)) in
    let text : c.as_slice.result.now ≡ stamp_line c.args.number (device_name n c.args.device) (stamp_of granule local) =
    c.as_slice.ensures ∙ c.make_stamp_line.ensures
    ∙ ap (λ name. stamp_line c.args.number name (to_z w64 (of_z w64 stamp))) c.device_name.ensures.text
    ∙ ap (stamp_line c.args.number (device_name n c.args.device)) value in
    one_put granule n c.args.world.now c.args.number before event notes c.args.device at g.K.Sink local c.as_slice.result.now c.args.out.now c.put.new.self
    (c.in-Some.ensures.local n (before ++ event ∷ []) notes at.stands at.reached.early) text c.in-Ok.ensures.all c.put.ensures.counted

pub returns-in-Err-clause-stamps : goal.returns-in-Err-clause-stamps
returns-in-Err-clause-stamps g c = λ before event notes at.
    let n = c.args.network.now in
    let granule = c.args.self.now.granule in
    let local = c.in-Some.local in
    let stamp = c.stamp_wide-stamp.result in
    let value : to_z w64 (of_z w64 stamp) ≡ stamp_of granule local =
    to_z-of_z w64 stamp (search rules) ∙ c.stamp_wide-stamp.ensures ∙ ap (stamp_of granule) (to_z-of_z w128 local (search rules)) in
    let text : c.as_slice.result.now ≡ stamp_line c.args.number (device_name n c.args.device) (stamp_of granule local) =
    c.as_slice.ensures ∙ c.make_stamp_line.ensures
    ∙ ap (λ name. stamp_line c.args.number name (to_z w64 (of_z w64 stamp))) c.device_name.ensures.text
    ∙ ap (stamp_line c.args.number (device_name n c.args.device)) value in
    one_fails granule n c.args.world.now c.args.number before event notes c.args.device at g.K.Sink local c.as_slice.result.now c.args.out.now c.put.new.self
    (c.in-Some.ensures.local n (before ++ event ∷ []) notes at.stands at.reached.early) text c.in-Err.ensures.front c.put.ensures.counted

pub returns-in-Ok-clause-further : goal.returns-in-Ok-clause-further
returns-in-Ok-clause-further g c =
    record { grew = (c.as_slice.result.now, c.in-Ok.ensures.all); quiet = c.in-Ok.ensures.ok_unchanged; cause = tt {0} }

pub returns-in-Err-clause-further : goal.returns-in-Err-clause-further
returns-in-Err-clause-further g c =
    let front = c.in-Err.ensures.front in record { grew = (front.0, front.3); quiet = tt {0}; cause = c.in-Err.ensures.failed_rose }

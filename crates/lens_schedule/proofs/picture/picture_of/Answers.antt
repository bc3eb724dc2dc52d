use Rattle.lens_schedule.specs.{Lanes.lanes_of, Picture.{IsPicture, parts_of}}
use Rattle.std.proofs.{Common.{◌∙◌, ap}, lemmas.Result.IfOk-weaker}
use Rattle.lens_schedule.proofs.picture.picture_of.Goals as goal

pub returns : goal.returns
returns c =
    let network = c.args.network.now in
    let entries = c.args.entries.now in
    let a = c.in_ok-a.a.items in
    let b = c.in_ok-b.b.items in
    let same =
    ap (λ ls. parts_of network entries ls c.as_slice-2.result.now c.as_slice-3.result.now)
    (c.as_slice.ensures.value ∙ c.in_ok-lanes.ensures.lanes)
    ∙ ap (λ ts. parts_of network entries (lanes_of network entries) ts c.as_slice-3.result.now) c.as_slice-2.ensures.value
    ∙ ap (λ ts. parts_of network entries (lanes_of network entries) a ts) c.as_slice-3.ensures.value in
    IfOk-weaker c.parts_of.result _ (λ parts. IsPicture network entries parts.items)
    (λ parts is. record { a = a; b = b; of_a = c.in_ok-a.ensures.twigs; of_b = c.in_ok-b.ensures.twigs; is = is ∙ same }) c.parts_of.ensures

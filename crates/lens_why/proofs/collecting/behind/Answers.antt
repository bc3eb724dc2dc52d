use Rattle.{compression.specs.Clusters.Cluster, std.specs.Prelude.option_map}
use Rattle.lens_why.{proofs.Permanents.{behind_given, behind_none}}
use Rattle.lens_why.{specs.Collections.{as_point, behind_point, last_collection, told_of}}
use Rattle.{run_law.specs.control.Collections.{ends_stretch, point_by}, std.proofs.Common.{◌∙◌, ◌≡◌, None, Option, Some, ap, false, pos, sym}}
use Rattle.lens_why.proofs.collecting.behind.Goals as goal

pub returns-in-Some : goal.returns-in-Some
returns-in-Some c hs h body carried last =
    let network = c.args.network.now in
    let d = c.args.device in
    let p = as_point c.in-Some.given in
    let on : ends_stretch d h.note.body ≡ false = ap (ends_stretch d) body ∙ sym c.ends_stretch.ensures ∙ c.if-ends_stretch.false in
    let point : point_by d h h.note.body ≡ Some p = ap (point_by d h) body ∙ sym (c.in-Some.ensures.is h carried) in
    c.behind_point.ensures (last_collection network d hs) last
    ∙ ap (λ w. option_map told_of (behind_point (pos w) (last_collection network d hs) p)) c.magnitude.ensures
    ∙ sym (ap (λ (o : Option Cluster). option_map told_of o) (behind_given network d hs h p on point))

pub returns-in-None : goal.returns-in-None
returns-in-None c hs h body carried last =
    let network = c.args.network.now in
    let d = c.args.device in
    let on : ends_stretch d h.note.body ≡ false = ap (ends_stretch d) body ∙ sym c.ends_stretch.ensures ∙ c.if-ends_stretch.false in
    let point : point_by d h h.note.body ≡ None = ap (point_by d h) body ∙ sym (c.in-None.ensures.is h carried) in
    last ∙ sym (ap (λ (o : Option Cluster). option_map told_of o) (behind_none network d hs h on point))

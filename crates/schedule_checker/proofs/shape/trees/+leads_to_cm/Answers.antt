use Rattle.std.proofs.{Common.{◌∙◌, get_or, sym}, lemmas.{Bool.false≢true, Option.slice_get-get_or}}
use Rattle.net_plan.specs.{Places.{IsCmOf}}
use Rattle.schedule_checker.proofs.ShapeRules.{leads_by, leads_nowhere, leads_on, uplink_within}
use Rattle.schedule_checker.proofs.shape.trees.+leads_to_cm.Goals as goal

pub returns-in-Some : goal.returns-in-Some
returns-in-Some t c =
    let n = c.args.network.now in
    let channel = c.args.channel in
    let device = c.args.device in
    let link = c.in-Some.link in
    let first = c.in-Some.ensures.first in
    let read = c.index-as_slice-link.result in
    let found = get_or c.as_slice.result.now link.0 read in
    let at = slice_get-get_or n.link link.0 read (uplink_within n channel device first)
    ∙ (rw (sym c.as_slice.ensures)) in
    let bare = λ (h : IsCmOf n channel device). false≢true (sym c.if-is_role_of.false ∙ c.is_role_of.ensures.1 h) in
    let some = c.if-most-eq0.false in
    let rest = c.leads_to_cm.ensures in (
      λ h. leads_by n channel device found c.args.most some first at (rest.0 h),
      λ h. rest.1 (leads_on n channel device found c.args.most bare first at h),
    )

pub returns-in-None : goal.returns-in-None
returns-in-None t c =
    let n = c.args.network.now in
    let bare = λ (h : IsCmOf n c.args.channel c.args.device). false≢true (sym c.if-is_role_of.false ∙ c.is_role_of.ensures.1 h) in
    (λ h. absurd (false≢true h), λ h. absurd (leads_nowhere n c.args.channel c.args.device c.args.most bare c.in-None.ensures.none h))

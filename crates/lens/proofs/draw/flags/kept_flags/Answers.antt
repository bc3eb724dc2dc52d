use Rattle.lens.{specs.draw.Keeping.{AreLanes, lanes_on, passed_on}}
use Rattle.lens.proofs.draw_lemmas.{Keeping.{IsSpread, spread_all, spread_first, spread_next}}
use Rattle.lens.proofs.draw_lemmas.{Naming.{lanes_first, lanes_next}}
use Rattle.{lens_svg.specs.Sketching.glance_of, net_plan.specs.declared.tables.Device.Device, std.proofs.lemmas.List.length-map}
use Rattle.std.{proofs.Common.{◌-◌, ◌≡◌, ◌≤◌, ◌∙◌, List, ap, arith, drop, false, length, map, subst, sym}, specs.Prelude.suc}
use Rattle.lens.proofs.draw.flags.kept_flags.Goals as goal

pub records-init : goal.records-init
records-init c subject octets notes end r own are =
    let network = c.args.network.now in
    let flags = c.args.own.items in
    let lanes = c.in_ok-lanes.lanes.items in
    let all : length notes ≡ length c.args.glances.now = sym (ap length are ∙ length-map notes (glance_of network)) in
    let none = c.in_ok-lanes.ensures ∙ ap (λ (ds : List Device). map (λ d. false) ds) c.as_slice.ensures in (
      subst (λ n. IsSpread network subject notes n flags) all (spread_first network subject octets notes end r flags own),
      subst (λ n. AreLanes network c.args.span flags (drop n notes) lanes) all (lanes_first network c.args.span flags notes lanes none),
    )

pub records-preserved : goal.records-preserved
records-preserved c subject octets notes end r own are =
    let network = c.args.network.now in
    let number = c.records.number in
    let flags = c.records.flags.records.items in
    let lanes = c.records.flags.lanes.items in
    let more = c.pass_on.new.flags.records.items in
    let was = c.records.invariant subject octets notes end r own are in
    let records = c.pass_on.ensures.records ∙ ap (λ gs. passed_on gs number flags) are in
    let places = c.pass_on.ensures.lanes ∙ ap (λ gs. lanes_on c.args.span gs number flags lanes) are in
    let glances = map (glance_of network) notes in
    let some : 1 ≤ number = omega (arith, c.records-test.true) in
    let next : number ≡ suc (number - 1) = omega (arith, some) in (
      subst (λ fs. IsSpread network subject notes (number - 1) fs) (sym records)
          (spread_next network subject octets notes end r number flags some was.0),
      subst (λ ls. AreLanes network c.args.span more (drop (number - 1) notes) ls) (sym places)
          (subst (λ fs. AreLanes network c.args.span fs (drop (number - 1) notes) (lanes_on c.args.span glances number flags lanes)) (sym records)
          (lanes_next network octets notes end r c.args.span (number - 1) number next flags lanes was.1)),
    )

pub returns : goal.returns
returns c subject octets notes end r own are =
    let network = c.args.network.now in
    let flags = c.records.flags.records.items in
    let lanes = c.records.flags.lanes.items in
    let none : c.records.number ≡ 0 = omega (arith, c.records-test.false) in
    let so = c.records.invariant subject octets notes end r own are in (
      spread_all network subject octets notes end r flags (subst (λ n. IsSpread network subject notes n flags) none so.0),
      subst (λ n. AreLanes network c.args.span flags (drop n notes) lanes) none so.1,
    )

use Rattle.std.{proofs.lemmas.Option.slice_get-get_or, specs.{List.slice_get, Option.option_and_then}}
use Rattle.std.proofs.Common.{◌<◌, ◌∙◌, ◌≡◌, List, Some, ap, get_or, length, sym, ℕ}
use Rattle.net_plan.specs.declared.{event.What.TheVariants.Send, ids.LinkId.LinkId, network.Network.Network, tables.Link.Link}
use Rattle.world_state.specs.{Befalling.{entry_of, sent_up}, Happenings.what_of, declared.contents.WayState.WayState}
use Rattle.world_state.proofs.befalling.entry_of.Goals as goal

found : (network : Network) (ups : List WayState) (time number : ℕ) (link : LinkId) (octets : List ℕ) {links : List Link} (l : Link) {way : WayState}
    → links ≡ network.link → link.0 < length links → l ≡ get_or links link.0 l → link.0 < length ups → way ≡ get_or ups link.0 way
    → sent_up network time number link octets l way ≡ entry_of network ups time number (Send link octets)
found network ups time number link octets {links} l {way} same within is there was =
    let sent = sent_up network time number link octets in
    sym (ap (λ ls. option_and_then (λ k. option_and_then (sent k) (slice_get ups link.0)) (slice_get ls link.0))
    (sym same)
    ∙ ap (option_and_then (λ k. option_and_then (sent k) (slice_get ups link.0))) (slice_get-get_or links link.0 l within ∙ ap Some (sym is))
    ∙ ap (option_and_then (sent l)) (slice_get-get_or ups link.0 way there ∙ ap Some (sym was)))

pub sent_up-requires : goal.sent_up-requires
sent_up-requires c =
    let way = c.in_ok-way-in-Send.ensures.lookup in
    record {
      time = c.requires.time;
      delay = rw way.1 (c.requires.delays c.in-Send.link.0 c.in_ok-way-in-Send.field-0.now way.3.0);
    }

pub returns-in_ok-way-in-Send : goal.returns-in_ok-way-in-Send
returns-in_ok-way-in-Send c =
    let network = c.args.network.now in
    let link = c.in-Send.link in
    let l = c.in_ok-found-in-Send.found.now in
    let at = c.in_ok-found-in-Send.ensures.lookup in
    let on = c.in_ok-way-in-Send.ensures.lookup in
    (rw c.in-Send.is at c.sent_up.ensures)
    ∙ found network c.args.ups.now c.args.time c.args.number link c.in-Send.given l c.as_slice.ensures at.3.0 at.1 on.3.0 on.1
    ∙ ap (entry_of network c.args.ups.now c.args.time c.args.number) (sym (ap what_of c.in-Send.is) ∙ c.what.view_is)

use Rattle.lens_latency.{proofs.Departures.followed_more}
use Rattle.lens_latency.specs.{Following.{IsFollowed, arrival_by, departure_by}}
use Rattle.lens_latency.specs.{declared.arrivals.FrameArrival.FrameArrival}
use Rattle.std.{proofs.Common.{◌++◌, ◌∙◌, ◌∷◌, ◌≡◌, Option, [], ap, subst, sym, ℕ}, specs.List.cons_option}
use Rattle.tte_units.specs.Amount.{amount}
use Rattle.lens_latency.proofs.arrivals.FollowedRecordTaker.take.Goals as goal

pub returns : goal.returns
returns c octets notes before begun next so =
    let network = c.args._network.now in
    let note = c.args.note.now in
    let kept = c.args.self.now.departures.items in
    let arrivals = c.args.self.now.arrivals.items in
    let departure : c.departure_by-departure.result ≡ departure_by kept (amount note.time) note.body =
    c.departure_by-departure.ensures ∙ ap (λ ds. departure_by ds (amount note.time) note.body) c.as_slice.ensures.value in
    let kept_more : c.push_departure.new.departures.items ≡ kept ++ departure_by kept (amount note.time) note.body ∷ [] =
    c.in_ok-push_departure.ensures ∙ ap (λ (d : Option ℕ). kept ++ d ∷ []) departure in
    let arrival : c.arrival_by.result ≡ arrival_by (departure_by kept (amount note.time) note.body) (amount note.time) note.body =
    c.arrival_by.ensures ∙ ap (λ d. arrival_by d (amount note.time) note.body) departure in
    let more : c.push_some.new.arrivals.items ≡ arrivals
    ++ cons_option (arrival_by (departure_by kept (amount note.time) note.body) (amount note.time) note.body) [] =
    c.in_ok-push_some.ensures ∙ ap (λ (a : Option FrameArrival). arrivals ++ cons_option a []) arrival in
    subst (λ ds. IsFollowed network notes (before ++ note ∷ []) ds c.push_some.new.arrivals.items) (sym kept_more)
    (subst (λ xs. IsFollowed network notes (before ++ note ∷ []) (kept ++ departure_by kept (amount note.time) note.body ∷ []) xs) (sym more)
    (followed_more network notes before octets note kept arrivals c.requires.named next so))

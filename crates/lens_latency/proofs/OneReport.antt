-- A report has one answer of `latency`.
use Rattle.lens_latency.proofs.{Departures.arrival_once, Givings.given_once, Latencies.comings_once}
use Rattle.lens_latency.proofs.{SeenTimes.seen_once}
use Rattle.lens_latency.specs.{Answer.{IsLatencyReport, told_answer}, Arrivals.IsArrivalBy, Seeing.{AreTold, IsTold, times_of}}
use Rattle.lens_latency.specs.declared.{arrivals.FrameArrival.FrameArrival, comings.Coming.Coming, seeing.{SeenFrames.SeenFrames, ReportedComing.ReportedComing}}
use Rattle.{net_plan.specs.declared.network.Network.Network, run_law.specs.{declared.note.Note.Note, records.Happenings.happenings}}
use Rattle.std.{proofs.{Common.{◌∙◌, ◌∷◌, ◌≡◌, List, Option, [], ap, map, refl, subst, sym}, lemmas.List.Elements.{All-head, All-tail}}, specs.List.All}
use Rattle.{tte_forms.specs.Answering.Answer, tte_reports.specs.Reports.IsOneFor, tte_units.specs.declared.units.Units.Units}

abbrev made : Coming → Option SeenFrames → ReportedComing
made c seen = record { coming = c; seen = seen }

-- each line shows one thing
each_once : (arrivals : List FrameArrival) (xs ys : List ReportedComing) → map (λ (t : ReportedComing). t.coming) xs ≡ map (λ (t : ReportedComing). t.coming) ys → All (IsTold arrivals) xs
    → All (IsTold arrivals) ys → xs ≡ ys
each_once arrivals [] [] same is its = refl
each_once arrivals [] (y ∷ ys) same is its = absurd cc
each_once arrivals (x ∷ xs) [] same is its = absurd cc
each_once arrivals (x ∷ xs) (y ∷ ys) same is its =
    let coming : x.coming ≡ y.coming = cc in
    let others : map (λ (t : ReportedComing). t.coming) xs ≡ map (λ (t : ReportedComing). t.coming) ys = cc in
    let there = subst (λ c. IsTold arrivals (made c y.seen)) (sym coming) (All-head (IsTold arrivals) y ys its) in
    let seen = seen_once (times_of x.coming arrivals) x.seen y.seen (All-head (IsTold arrivals) x xs is) there in
    ap (λ c. made c x.seen ∷ xs) coming ∙ ap (λ s. made y.coming s ∷ xs) seen
    ∙ ap (λ (ts : List ReportedComing). y ∷ ts)
    (each_once arrivals xs ys others (All-tail (IsTold arrivals) x xs is) (All-tail (IsTold arrivals) y ys its))

answers_once : {network : Network} {ns : List Note} {end : Units} {a b : Answer} → IsLatencyReport network ns end a
    → IsLatencyReport network ns end b → a ≡ b
answers_once {network} {ns} p q =
    let hs = happenings network ns in
    let comings = comings_once network p.comings q.comings p.are q.are in
    let arrivals = given_once (IsArrivalBy hs) (arrival_once hs) hs p.arrivals q.arrivals p.arrive q.arrive in
    let told = subst (λ xs. AreTold xs p.comings p.told) arrivals p.tell in
    p.is ∙ ap (told_answer network) (each_once q.arrivals p.told q.told (told.of ∙ comings ∙ sym q.tell.of) told.each q.tell.each) ∙ sym q.is

-- for each network and its report there is one answer at most
pub latency_report_one : IsOneFor IsLatencyReport
latency_report_one network octets ns end a b rules r p q = answers_once p q

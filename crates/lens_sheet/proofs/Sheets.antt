-- The sheet of a network: it is one, names what is the network's, and weighs the rules of times.
use Rattle.std.{specs.{List.All, Prelude.{◌≤ℤ◌, IfSome}}}
use Rattle.std.proofs.{lemmas.{Int.ints, List.Elements.{All-append, All-cons, All-map}}}
use Rattle.std.proofs.Common
use Common.{◌*◌, ◌++◌, ◌+◌, ◌-◌, ◌/◌, ◌<◌, ◌^◌, ◌∙◌, ◌∷◌, ◌≡◌, ◌≤◌, ◌⊎◌, List, Option, Some, ap, arith, inl, inr}
use Common.{length, map, pos, refl, subst, sym, ℕ}
use Rattle.lens_latency.proofs.Latencies.{all_in_parts, comings_by_once, part_names, parts_once}
use Rattle.lens_latency.{specs.declared.comings.Coming.Coming}
use Rattle.lens_sheet.{proofs.Loaded.loads_once}
use Rattle.lens_sheet.specs.{Answer.{IsSheetOf, sheet_answer}, Laws.{BetaIsTold, HasRoom, RoomIsLeft}, Lines.numbers}
use Rattle.lens_sheet.specs.{Loading.HasLink, Sheet.{AreLinesOf, AreVlLines, IsSheet, IsWritable}, Ways.ComesOver}
use Rattle.lens_sheet.specs.{Weights.{AreWeights, beta_of}}
use Rattle.lens_sheet.specs.declared.{loads.Load.Load, sheet.{Number.Number, SheetLine.SheetLine}}
use Rattle.lens_sheet.specs.declared.{weights.Weights.Weights}
use Rattle.lens_slack.{proofs.least_lemmas.Leasts.some_path, specs.least.Parts.{IsPortTimeOf, IsStartOf}}
use Rattle.net_plan.{proofs.Trees.greatest_is_unique}
use Rattle.net_plan.specs.{Bounds.{IsBeta, IsGreatest, IsOfPath, beta_at, jitter_on}, Ranges.IsInRange}
use Rattle.net_plan.specs.{declared.{ids.LinkId.LinkId, network.Network.Network, tables.{Device.Device, Link.Link}}}
use Rattle.schedule_tables.{proofs.Margins.some_link}
use Rattle.schedule_tables.specs.{Delays.{delay_on, pcf_port_time}, Rules.{KeepsBelow, KeepsRules}}
use Rattle.schedule_tables.specs.declared.rule.Rule.TheVariants
use TheVariants.{Correction, Delays, Masters, Precision, ScheduleStart, Settling}
use Rattle.tte_forms.specs.Answering.{Answer}
use Rattle.tte_units.{proofs.general_lemmas.Lists.in_all, specs.{Amount.{amount, units_of}, declared.units.Units.Units}}
use Rattle.lens_sheet.specs.declared.sheet.SheetLine.TheVariants as lines

-- ---- a network has one sheet

abbrev made : ℕ → ℕ → ℕ → ℕ → ℕ → Weights
made jitter links delay start control = record { jitter = jitter; links = links; delay = delay; start = start; control = control }

weights_once : {n : Network} {w v : Weights} → AreWeights n w → AreWeights n v → w ≡ v
weights_once {n} {w} {v} p q =
    let jitter = greatest_is_unique (IsOfPath n (jitter_on n)) p.jitter q.jitter in
    let links = greatest_is_unique (IsOfPath n (length {A = LinkId})) p.links q.links in
    let delay = greatest_is_unique (IsOfPath n (delay_on n)) p.delay q.delay in
    let start = greatest_is_unique (IsStartOf n) p.start q.start in
    let control = greatest_is_unique (IsPortTimeOf n) p.control q.control in
    ap (λ k. made k w.links w.delay w.start w.control) jitter ∙ ap (λ k. made v.jitter k w.delay w.start w.control) links
    ∙ ap (λ k. made v.jitter v.links k w.start w.control) delay ∙ ap (λ k. made v.jitter v.links v.delay k w.control) start
    ∙ ap (λ k. made v.jitter v.links v.delay v.start k) control

vl_once : (n : Network) (vl : ℕ) (ls ks : List SheetLine) → AreLinesOf n vl ls → AreLinesOf n vl ks → ls ≡ ks
vl_once n vl ls ks p q =
    let hops = greatest_is_unique (ComesOver n (record { 0 = vl })) p.are_hops q.are_hops in
    let comings = comings_by_once n vl p.comings q.comings p.come q.come in
    p.is ∙ ap (λ (k : ℕ). lines.Vl (record { 0 = vl }) k ∷ map (λ (c : Coming). lines.Coming c) p.comings) hops
    ∙ ap (λ (cs : List Coming). lines.Vl (record { 0 = vl }) q.hops ∷ map (λ (c : Coming). lines.Coming c) cs) comings ∙ sym q.is

sheet_lines_once : {n : Network} {ls ks : List SheetLine} → IsSheet n ls → IsSheet n ks → ls ≡ ks
sheet_lines_once {n} p q =
    let loads = loads_once p.loaded q.loaded in
    let vls = parts_once (AreLinesOf n) (vl_once n) 0 (length n.vl) p.vls q.vls p.linked q.linked in
    p.is ∙ ap (λ (xs : List Load). map (λ (k : Number). lines.Number k) numbers ++ (map (λ (l : Load). lines.Load l) xs ++ p.vls)) loads
    ∙ ap (λ (xs : List SheetLine). map (λ (k : Number). lines.Number k) numbers ++ (map (λ (l : Load). lines.Load l) q.loads ++ xs)) vls ∙ sym q.is

-- so there is one answer
pub sheet_one : (network : Network) (a b : Answer) → IsSheetOf network a → IsSheetOf network b → a ≡ b
sheet_one network a b p q =
    p.is ∙ ap (λ w. sheet_answer network w p.lines) (weights_once p.weigh q.weigh)
    ∙ ap (sheet_answer network q.weights) (sheet_lines_once p.sheet q.sheet) ∙ sym q.is

-- ---- the lines of a sheet name what is the network's

vl_names : {n : Network} {vl : ℕ} {ls : List SheetLine} → vl < length n.vl → AreLinesOf n vl ls
    → All (IsWritable n) ls
vl_names {n} {vl} few are =
    let comings = All-map (IsWritable n) (λ (c : Coming). lines.Coming c) are.comings (part_names n vl are.comings few are.come) in
    subst (All (IsWritable n)) (sym are.is)
    (All-cons (IsWritable n) (lines.Vl (record { 0 = vl }) are.hops) (map (λ (c : Coming). lines.Coming c) are.comings) few comings)

vls_names : (n : Network) (ls : List SheetLine) → AreVlLines n ls → All (IsWritable n) ls
vls_names n ls are =
    all_in_parts (AreLinesOf n) (IsWritable n) 0 (length n.vl) ls
    (λ vl ys few part. vl_names (omega (arith, few)) part) are

pub sheet_names : (n : Network) (loads : List Load) (vls : List SheetLine) → All (HasLink n) loads → AreVlLines n vls
    → All (IsWritable n) (map (λ (k : Number). lines.Number k) numbers ++ (map (λ (l : Load). lines.Load l) loads ++ vls))
sheet_names n loads vls links are =
    All-append (IsWritable n) (map (λ (k : Number). lines.Number k) numbers) (map (λ (l : Load). lines.Load l) loads ++ vls)
    (All-map (IsWritable n) (λ (k : Number). lines.Number k) numbers (λ k d within. tt))
    (All-append (IsWritable n) (map (λ (l : Load). lines.Load l) loads) vls (All-map (IsWritable n) (λ (l : Load). lines.Load l) loads links)
    (vls_names n vls are))

-- ---- what the rules of times weigh, and the room that an accepted network has for it

-- beta is that of the rules
pub beta_told : BetaIsTold
beta_told network w weigh =
    record { jitter = w.jitter; links = w.links; jitter_greatest = weigh.jitter; links_greatest = weigh.links; value = refl }

-- beta has these parts
abbrev IsBetaAt : Network → ℕ → ℕ → ℕ → Type 0
IsBetaAt n beta jitter links = pos beta ≡ pos (beta_at n jitter links)

-- what beta has beside the drift and the roundings is the greatest sum of jitters
pub jitter_left : {n : Network} {links : ℕ} (beta rest jitter : ℕ) → IsBeta n (pos beta)
    → IsGreatest (IsOfPath n (length {A = LinkId})) links
    → rest ≡ 4 * n.rho * amount n.dmax / 10 ^ 9 + 8 * amount n.grain * (links + 2) → jitter ≡ beta - rest
    → IsGreatest (IsOfPath n (jitter_on n)) jitter
jitter_left {n} {links} beta rest jitter is greatest sum left =
    let same = greatest_is_unique (IsOfPath n (length {A = LinkId})) is.links_greatest greatest in
    let value = is.value in
    let told : IsBetaAt n beta is.jitter links = subst (λ k. IsBetaAt n beta is.jitter k) same value in
    let here : is.jitter ≡ jitter = omega (arith, ints, told, sum, left) in
    subst (IsGreatest (IsOfPath n (jitter_on n))) here is.jitter_greatest

pub rest_most : {n : Network} {links : ℕ} (beta rest : ℕ) → IsBeta n (pos beta)
    → IsGreatest (IsOfPath n (length {A = LinkId})) links
    → rest ≡ 4 * n.rho * amount n.dmax / 10 ^ 9 + 8 * amount n.grain * (links + 2) → rest ≤ beta
rest_most {n} {links} beta rest is greatest sum =
    let same = greatest_is_unique (IsOfPath n (length {A = LinkId})) is.links_greatest greatest in
    let told : IsBetaAt n beta is.jitter links = subst (λ k. IsBetaAt n beta is.jitter k) same is.value in
    omega (arith, ints, told, sum)

start_known : (o : Option Units) (units settled : Units) → o ≡ Some units → IfSome o (λ s. s.0 ≤ℤ settled.0) → units.0 ≤ℤ settled.0
start_known o units settled is bound = subst (λ (p : Option Units). IfSome p (λ s. s.0 ≤ℤ settled.0)) is bound

module _ (n : Network) (w : Weights) (range : IsInRange n) (keeps : KeepsRules n) (weigh : AreWeights n w) where
  shape : KeepsBelow 8 n
  shape rule less = keeps rule

  room_of_path : (delay : ℕ) → (delay ≡ 0) ⊎ IsOfPath n (delay_on n) delay → delay + beta_of n w ≤ amount n.dmax
  room_of_path delay (inl none) =
      let (channel, (device, (links, member, path, is))) = some_path n shape (delay_on n) in
      let fits = keeps Delays device.0 (beta_of n w) channel links (beta_told n w weigh) member path in
      omega (arith, fits, none)
  room_of_path delay (inr (channel, (device, (links, member, path, is)))) =
      let fits = keeps Delays device.0 (beta_of n w) channel links (beta_told n w weigh) member path in
      omega (arith, fits, is)

  room_of_start : (start : ℕ) → (start ≡ 0) ⊎ IsStartOf n start → start ≤ amount n.settled
  room_of_start start (inl none) = omega (arith, none)
  room_of_start start (inr (place, device, at, is)) =
      let all = (keeps Masters 4).starts refl in
      let bound = in_all (λ (d : Device). IfSome d.start (λ s. s.0 ≤ℤ n.settled.0)) n.device place device all at in
      let most = start_known device.start (units_of start) n.settled is bound in
      let least = range.settled.least in
      omega (arith, ints, most, least)

  abbrev IsBegun : Link → Type 0
  IsBegun link = amount n.correction + amount n.dmax + 4 * amount n.precision + pcf_port_time link ≤ amount n.tt_start

  room_of_port : (control : ℕ) → (control ≡ 0) ⊎ IsPortTimeOf n control
      → amount n.correction + amount n.dmax + 4 * amount n.precision + control ≤ amount n.tt_start
  room_of_port control (inl none) =
      let (place, link, at) = some_link n shape in
      let fits = in_all IsBegun n.link place link (keeps ScheduleStart 0).begins at in
      omega (arith, fits, none)
  room_of_port control (inr (place, link, at, is)) =
      let fits = in_all IsBegun n.link place link (keeps ScheduleStart 0).begins at in
      omega (arith, fits, is)

  has_room : HasRoom n w
  has_room =
      let beta = beta_told n w weigh in
      let errors = (keeps Precision 0).errors (beta_of n w) beta in
      record {
        dmax = room_of_path w.delay weigh.delay.reached;
        settled = keeps Settling 0 (beta_of n w) beta;
        start = room_of_start w.start weigh.start.reached;
        precision = omega (arith, errors);
        calc = (keeps Precision 0).calc;
        correction = keeps Correction 0;
        tt_start = room_of_port w.control weigh.control.reached;
        schedule = (keeps ScheduleStart 0).ends;
      }

pub room_left : RoomIsLeft
room_left network w range keeps weigh = has_room network w range keeps weigh

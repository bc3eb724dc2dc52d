-- What a picture tells of its report: the lines of its records, and the clocks at the run's end.
use Rattle.std.proofs.{Math.Nat.{div-le_of_le-mul, mul-div_cancel, mul-le-mul_left, mul_comm}}
use Rattle.std.proofs.Common
use Common.{◌*◌, ◌++◌, ◌+◌, ◌/◌, ◌<◌, ◌∙◌, ◌∷◌, ◌≡◌, ◌≤◌, ◌⊎◌, Bool, List, None, Option, Some, [], ap, append_assoc}
use Common.{arith, drop, false, filter, fold, inl, inr, map, pos, refl, subst, suc, sym, take, true, zero, ℕ, ℤ}
use Rattle.std.proofs.lemmas.{Bool.Decides.nat_tests, Fmt.decimal_is_IsNumeral, Int.ints}
use Rattle.std.proofs.lemmas.List.{Elements.{All-cons, All-head, All-nil, All-tail, All-weaker, filter-append}}
use Rattle.std.proofs.lemmas.List.{Sums.fold-append}
use Rattle.std.specs.{Char.digit_value, List.{cons_option, list_any}, Option.option_map_or, Str.Parse.AllDigits}
use Rattle.std.specs.Prelude
use Prelude.{if◌then◌else◌, ◌+ℤ◌, ◌==◌, ◌||◌, All, bytes_eq, codes, decimal, flat_map, int_lt, length, nat_le, nat_lt}
use Rattle.lens.specs.declared.draw.{putting.Layer.Layer}
use Rattle.lens.specs.declared.draw.{signs.Sign.{Sign, TheVariants.{Arrows, Backdrop, MarkKey, Shapes, Style, WayKey}}}
use Rattle.lens.specs.draw.{ClockLaws.{IsShown, IsTrueBar, PicturesShowClocks, ShowsClock, ShowsClocks}}
use Rattle.lens.specs.draw.{Laws.HaveTitles, ReadingLaws.{PicturesAreOne, TitlesArePlain}}
use Rattle.lens.specs.draw.{Signs.{close_line, sign_line}}
use pictures.{back_lines, front_lines, layer_lines, lines_from, mark_lines, picture_lines, some_line, windows_of}
use Rattle.lens_svg.proofs.{NoteTexts.note_plain, Painting.taken_all}
use Rattle.tte_reports.{proofs.Reports.report_well, specs.Reports.IsReportOf}
use Rattle.lens_svg.specs.{Laws.{AreMarksOf, shown}, Layers.{lack_of, on_lane, on_mark, opening_of}, Layout.holds}
use Rattle.lens_svg.specs.{Marking.{IsPlain, head_text, is_plain, sign_text}, Plan.Plan}
use Rattle.lens_svg.specs.{Sketching.{begun, is_drawn, moment, plan_of}, Titles.{heading_line, title_line}, Views.View}
use Rattle.lens_svg.specs.{Windows.box_of}
use Rattle.lens_svg.specs.Clocks.{Clocks, apart_of, broken_by, clocks_in, clocks_with, ends_of, ends_with, gauge_of}
use Rattle.lens_svg.specs.Clocks.{is_among, local_of, no_clocks, share, spread_of, told_by, told_in, with_one}
use Rattle.lens_svg.specs.Elements
use Elements.{bar_line, caption_line, element_line, gauge_line, opening_line, rail_line, spread_bar, tick_line}
use Elements.{way_line, window_line}
use Rattle.lens_svg.specs.declared.{clock.{Ends.Ends, Told.Told}}
use Rattle.lens_svg.specs.declared.{element.Element.{Element, TheVariants.{Caption, Lack, Opening, Spread}}}
use Rattle.lens_svg.specs.declared.{layout.Span.Span, mark.Mark.Mark, window.Came.Came}
use Rattle.net_plan.specs.{Ranges.IsInRange}
use Rattle.net_plan.specs.{declared.{event.{Event.Event, What.What}, ids.DeviceId.DeviceId, network.Network.Network}}
use Rattle.report_text.{proofs.Splits.{NonePasses, split_once}}
use Rattle.report_text.{specs.{NoteLine.note_text, Ranges.{IsNoteInRange, IsNoteOf}}}
use Rattle.run_law.{proofs.runs.{NetworkRuns.same_notes, Places.{in_left, in_parts, in_right, parted}}}
use Rattle.run_law.specs.{declared.note.{Note.Note, NoteBody.NoteBody}, law.Safety.AreClose}
use Rattle.run_law.specs.{runs.DueRecords.{IsCaused, IsClockRecord}}
use Rattle.run_law.specs.{scenario.{Hypothesis.breaks_at, Scenarios.Scenario}}
use Rattle.run_law.specs.device.{LocalClocks.local}
use Rattle.run_law.specs.device.{States.{adjustment_after, adjustment_with, cycle_in, state_after, state_with}}
use Rattle.run_law.specs.records.{Happenings.{Happening, happenings, time_of, up_to}, Order.{IsBefore, IsIn}}
use Rattle.run_law.specs.records.{Ranks.{place_of, rank}}
use Rattle.schedule_tables.specs.Rules.{KeepsRules}
use Rattle.sync_state.specs.declared.state.State.{State, TheVariants.{Integrating, Joining, Off, Synchronised}}
use Rattle.tte_audit.{proofs.RightEvents.only_end, specs.Report.{event_by, events_of, scenario_of}}
use Rattle.tte_units.specs.{Amount.amount, declared.units.Units.Units}
use Rattle.lens.specs.declared.draw.putting.Layer.TheVariants as layers
use Rattle.lens.specs.draw.Picture as pictures
use Rattle.net_plan.specs.declared.event.What.TheVariants as events
use Rattle.run_law.specs.declared.note.NoteBody.TheVariants as notes

-- ---- the clocks of a picture are those of correct synchronised devices at the end of the run: what is told

with_more : {X : Type 0} (xs : List X) (o : Option X) (x : X) → IsIn x xs → IsIn x (with_one xs o)
with_more xs None x i = i
with_more xs (Some y) x i = in_left x xs (y ∷ []) i

with_last : {X : Type 0} (xs : List X) (o : Option X) (x : X) → o ≡ Some x → IsIn x (with_one xs o)
with_last xs None x e = absurd cc
with_last xs (Some y) x e = let same : x ≡ y = cc in in_right x xs (y ∷ []) (inl same)

only_one : {X : Type 0} (x y : X) → IsIn x (y ∷ []) → x ≡ y
only_one x y (inl e) = e
only_one x y (inr none) = absurd none

with_parts : {X : Type 0} (xs : List X) (o : Option X) (x : X) → IsIn x (with_one xs o) → IsIn x xs ⊎ (o ≡ Some x)
with_parts xs None x i = inl i
with_parts {X = X} xs (Some y) x i =
    elim (in_parts x xs (y ∷ []) i) [ inl there ↦ inl there | inr last ↦ inr (ap (λ (z : X). Some z) (sym (only_one x y last))) ]

told_held : (b : Bool) (o : Option Told) (t : Told) → (if b then o else None) ≡ Some t → o ≡ Some t
told_held true o t e = e
told_held false o t e = absurd cc

-- a record of these tells the clock
TellsOf : List Note → Told → Type 0
TellsOf ns t = (note : Note) × IsIn note ns × (told_by note.body ≡ Some t)

told_from : (span : Span) (ns : List Note) (clocks : Clocks) (t : Told) → IsIn t (fold (clocks_with span) clocks ns).told → IsIn t clocks.told ⊎ TellsOf ns t
unfolding TellsOf
told_from span [] clocks t i = inl i
told_from span (note ∷ ns) clocks t i = by (told_from span ns (clocks_with span clocks note) t i)
  where
    by : IsIn t (with_one clocks.told (told_in span note)) ⊎ TellsOf ns t → IsIn t clocks.told ⊎ TellsOf (note ∷ ns) t
    by (inl here) =
        elim (with_parts clocks.told (told_in span note) t here) [
          | inl there ↦ inl there
          | inr own ↦ inr (note, inl refl, told_held (holds span (moment note)) (told_by note.body) t own)
        ]
    by (inr h) = inr (h.0, inr h.1, h.2)

-- ---- what breaks

broken_kept : (span : Span) (ns : List Note) (clocks : Clocks) (d : DeviceId) → IsIn d clocks.broken → IsIn d (fold (clocks_with span) clocks ns).broken
broken_kept span [] clocks d i = i
broken_kept span (note ∷ ns) clocks d i = broken_kept span ns (clocks_with span clocks note) d (with_more clocks.broken (broken_by note.body) d i)

or_left : (a b : Bool) → (a || b) ≡ false → a ≡ false
or_left true b e = absurd cc
or_left false b e = refl

or_right : (a b : Bool) → (a || b) ≡ false → b ≡ false
or_right true b e = absurd cc
or_right false b e = e

among_false : (ds : List DeviceId) (d device : DeviceId) → IsIn d ds → is_among ds device ≡ false → (d.0 == device.0) ≡ false
among_false [] d device i none = absurd i
among_false (x ∷ ds) d device (inl e) none = ap (λ (y : DeviceId). y.0 == device.0) e ∙ or_left (x.0 == device.0) (is_among ds device) none
among_false (x ∷ ds) d device (inr i) none = among_false ds d device i (or_right (x.0 == device.0) (is_among ds device) none)

not_breaking : (what : What) (device : DeviceId) (ds : List DeviceId) → ((d : DeviceId) → what ≡ events.Break d → IsIn d ds) → is_among ds device ≡ false
    → breaks_at device.0 what ≡ false
not_breaking (events.Break d) device ds all none = among_false ds d device (all d refl) none
not_breaking what device ds all none = refl

breaks_told : (time : Units) (body : NoteBody) (e : Event) (d : DeviceId) → event_by time body ≡ Some e → e.what ≡ events.Break d → broken_by body ≡ Some d
breaks_told time (notes.Event line what) e d is breaks =
    let same : what ≡ e.what = ap (λ (o : Option Event). option_map_or (λ (x : Event). x.what) o what) is in
    ap (λ (w : What). broken_by (notes.Event line w)) (same ∙ breaks)
breaks_told time body e d is breaks = absurd cc

-- does it break the device?
abbrev breaks : DeviceId → Event → Bool
breaks device e = breaks_at device.0 e.what

abbrev up_to_time : ℕ → List Event → List Event
up_to_time t es = filter (λ e. nat_le (amount e.time) t) es

correct_all : (span : Span) (ns : List Note) (clocks : Clocks) (device : DeviceId) (t : ℕ)
    → is_among (fold (clocks_with span) clocks ns).broken device ≡ false → list_any (breaks device) (up_to_time t (events_of ns)) ≡ false
correct_all span [] clocks device t none = refl
correct_all span (note ∷ ns) clocks device t none =
    by (correct_all span ns (clocks_with span clocks note) device t none) (event_by note.time note.body) refl
  where
    first : (e : Event) → event_by note.time note.body ≡ Some e → breaks device e ≡ false
    first e is =
        not_breaking e.what device (fold (clocks_with span) (clocks_with span clocks note) ns).broken
        (λ d so. broken_kept span ns (clocks_with span clocks note) d
        (with_last clocks.broken (broken_by note.body) d (breaks_told note.time note.body e d is so))) none

    kept : list_any (breaks device) (up_to_time t (events_of ns)) ≡ false → (e : Event) (b : Bool) → breaks device e ≡ false
        → list_any (breaks device) (if b then e ∷ up_to_time t (events_of ns) else up_to_time t (events_of ns)) ≡ false
    kept rest e true so = ap (λ (x : Bool). x || list_any (breaks device) (up_to_time t (events_of ns))) so ∙ rest
    kept rest e false so = rest

    by : list_any (breaks device) (up_to_time t (events_of ns)) ≡ false → (o : Option Event) → event_by note.time note.body ≡ o
        → list_any (breaks device) (up_to_time t (cons_option o (events_of ns))) ≡ false
    by rest None is = rest
    by rest (Some e) is = kept rest e (nat_le (amount e.time) t) (first e is)

-- ---- the record of a clock

is_clock : (body : NoteBody) (t : Told) → told_by body ≡ Some t → body ≡ notes.Clock t.device t.reading t.adjustment Synchronised
is_clock (notes.Clock d r a Synchronised) t e =
    let own : Told = record { device = d; reading = r; adjustment = a } in
    let same : own ≡ t = ap (λ (o : Option Told). option_map_or (λ (x : Told). x) o own) e in
    ap (λ (x : Told). notes.Clock x.device x.reading x.adjustment Synchronised) same
is_clock (notes.Clock d r a Off) t e = absurd cc
is_clock (notes.Clock d r a Integrating) t e = absurd cc
is_clock (notes.Clock d r a Joining) t e = absurd cc
is_clock body t e = absurd cc

pub has_happening : (hs : List Happening) (note : Note) → IsIn note (map (λ h. h.note) hs) → (h : Happening) × IsIn h hs × (h.note ≡ note)
has_happening [] note i = absurd i
has_happening (h ∷ hs) note (inl e) = (h, inl refl, sym e)
has_happening (h ∷ hs) note (inr i) = let there = has_happening hs note i in (there.0, inr there.1, there.2)

-- what comes after a clock's record, at no later time, is one too
after_clock : (h x : Happening) → rank h.note.body ≡ 14 → IsBefore (place_of h) (place_of x) → time_of x ≤ time_of h → 14 ≤ rank x.note.body
after_clock h x own (inl less) most = absurd (omega (arith, less, most))
after_clock h x own (inr (same, inl less)) most = omega (arith, own, less)
after_clock h x own (inr (same, inr (equal, rest))) most = omega (arith, own, equal)

module _ (s : Scenario) (d : DeviceId) (cycle : ℕ) (state : State) (adjustment : Units) where
  -- it changes no state and no adjustment
  still : (body : NoteBody) → 14 ≤ rank body → (state_with d state body ≡ state)
      × (adjustment_with s d cycle adjustment body ≡ adjustment)
  still (notes.Clock e r a z) last = (refl, refl)
  still body last = absurd (omega (arith, last))

le_from : (a b : ℕ) → nat_le a b ≡ true → a ≤ b
le_from a b e = grind (arith, nat_tests, e)

-- those up to the time are records of clocks
abbrev AreLast : ℕ → List Happening → Type 0
AreLast t ys = (x : Happening) → IsIn x ys → time_of x ≤ t → 14 ≤ rank x.note.body

module _ (s : Scenario) (d : DeviceId) (t : ℕ) where
  abbrev next_state : State → Happening → State
  next_state state h = state_with d state h.note.body

  abbrev next_adjustment : Units → Happening → Units
  next_adjustment adjustment h = adjustment_with s d (cycle_in h) adjustment h.note.body

  state_still : (ys : List Happening) (z : State) → AreLast t ys → fold next_state z (up_to t ys) ≡ z
  state_still [] z last = refl
  state_still (y ∷ ys) z last = by (λ w. state_still ys w (λ x i. last x (inr i))) (nat_le (time_of y) t) refl
    where
      by : ((w : State) → fold next_state w (up_to t ys) ≡ w) → (b : Bool) → nat_le (time_of y) t ≡ b
          → fold next_state z (if b then y ∷ up_to t ys else up_to t ys) ≡ z
      by rest true e = rest (next_state z y) ∙ (still s d (cycle_in y) z (record { 0 = pos 0 }) y.note.body (last y (inl refl) (le_from (time_of y) t e))).0
      by rest false e = rest z

  adjustment_still : (ys : List Happening) (z : Units) → AreLast t ys → fold next_adjustment z (up_to t ys) ≡ z
  adjustment_still [] z last = refl
  adjustment_still (y ∷ ys) z last = by (λ w. adjustment_still ys w (λ x i. last x (inr i))) (nat_le (time_of y) t) refl
    where
      by : ((w : Units) → fold next_adjustment w (up_to t ys) ≡ w) → (b : Bool) → nat_le (time_of y) t ≡ b
          → fold next_adjustment z (if b then y ∷ up_to t ys else up_to t ys) ≡ z
      by rest true e = rest (next_adjustment z y) ∙ (still s d (cycle_in y) Off z y.note.body (last y (inl refl) (le_from (time_of y) t e))).1
      by rest false e = rest z

  same_state : (ps ys : List Happening) → AreLast t ys → state_after s (up_to t (ps ++ ys)) d ≡ state_after s (up_to t ps) d
  same_state ps ys last =
      ap (λ xs. state_after s xs d) (filter-append (λ h. nat_le (time_of h) t) ps ys)
      ∙ fold-append next_state (state_after s [] d) (up_to t ps) (up_to t ys)
      ∙ state_still ys (state_after s (up_to t ps) d) last

  same_adjustment : (ps ys : List Happening) → AreLast t ys → adjustment_after s (up_to t (ps ++ ys)) d ≡ adjustment_after s (up_to t ps) d
  same_adjustment ps ys last =
      ap (λ xs. adjustment_after s xs d) (filter-append (λ h. nat_le (time_of h) t) ps ys)
      ∙ fold-append next_adjustment (adjustment_after s [] d) (up_to t ps) (up_to t ys)
      ∙ adjustment_still ys (adjustment_after s (up_to t ps) d) last

-- ---- the least and the greatest

-- both are such clocks, if there are any
abbrev AreBoth : (Told → Type 0) → Option Ends → Type 0
AreBoth P None = Unit {0}
AreBoth P (Some ends) = P ends.least × P ends.greatest

chosen : (P : Told → Type 0) (b : Bool) (t u : Told) → P t → P u → P (if b then t else u)
chosen P true t u p q = p
chosen P false t u p q = q

both_with : (P : Told → Type 0) (o : Option Ends) (b : Bool) (t : Told) → AreBoth P o → (b ≡ false → P t) → AreBoth P (ends_with o b t)
both_with P None true t both own = tt
both_with P (Some ends) true t both own = both
both_with P None false t both own = (own refl, own refl)
both_with P (Some ends) false t both own = (
  chosen P (int_lt (local_of t) (local_of ends.least)) t ends.least (own refl) both.0,
  chosen P (int_lt (local_of ends.greatest) (local_of t)) t ends.greatest (own refl) both.1,
)

both_all : (P : Told → Type 0) (broken : List DeviceId) (ts : List Told) (o : Option Ends) → AreBoth P o
    → ((t : Told) → IsIn t ts → is_among broken t.device ≡ false → P t) → AreBoth P (fold (λ e t. ends_with e (is_among broken t.device) t) o ts)
both_all P broken [] o both all = both
both_all P broken (t ∷ ts) o both all =
    both_all P broken ts (ends_with o (is_among broken t.device) t) (both_with P o (is_among broken t.device) t both (all t (inl refl)))
    (λ u i. all u (inr i))

-- ---- the bar

pub share_is : (room part whole : ℕ) → 0 < whole → part ≤ whole → (share room part whole ≡ room * part / whole) × (share room part whole ≤ room)
share_is room part whole some most = by (nat_lt part whole) refl
  where
    fits : room * part / whole ≤ room
    fits = div-le_of_le-mul whole (let less = mul-le-mul_left room most in omega (arith, less, mul_comm whole room))

    by : (b : Bool) → nat_lt part whole ≡ b
        → ((if b then room * part / whole else room) ≡ room * part / whole) × ((if b then room * part / whole else room) ≤ room)
    by true e = (refl, fits)
    by false e =
        let same : part ≡ whole = grind (arith, nat_tests, e, most) in
        (sym (ap (λ (n : ℕ). room * n / whole) same ∙ mul-div_cancel room some), omega arith)

-- ---- the clocks of a report

module _ (network : Network) (octets : List ℕ) (ns : List Note) (end : Units) (of : IsReportOf network octets ns end) (span : Span) where
  abbrev scene : Scenario
  scene = scenario_of network ns

  abbrev hs : List Happening
  hs = happenings network ns

  abbrev told_here : Clocks
  told_here = clocks_in span ns

  -- what comes after the record of a clock
  last_after : (ps qs : List Happening) (h : Happening) → hs ≡ ps ++ h ∷ qs → rank h.note.body ≡ 14 → AreLast (time_of h) (h ∷ qs)
  last_after ps qs h whole own x (inl same) most = omega (arith, ap (λ (y : Happening). rank y.note.body) same, own)
  last_after ps qs h whole own x (inr there) most =
      let parts = parted x qs there in
      let all : hs ≡ (ps ++ h ∷ parts.0) ++ x ∷ parts.1 =
      whole ∙ ap (λ (rest : List Happening). ps ++ h ∷ rest) parts.2 ∙ sym (append_assoc ps (h ∷ parts.0) (x ∷ parts.1)) in
      let before = (of.run.founded (ps ++ h ∷ parts.0) parts.1 x all).0 h (in_right h ps (h ∷ parts.0) (inl refl)) in
      after_clock h x own before most

  shows_by : (t : Told) (h : Happening) (ps qs : List Happening) → hs ≡ ps ++ h ∷ qs
      → h.note.body ≡ notes.Clock t.device t.reading t.adjustment Synchronised → is_among told_here.broken t.device ≡ false → ShowsClock scene hs (amount end) t
  shows_by t h ps qs whole body correct =
      let due = (of.run.founded ps qs h whole).1 in
      let clock : IsClockRecord scene ps t.device h.note.time t.reading t.adjustment Synchronised =
      subst (λ b. IsCaused scene ps h.note.time b) body due.cause in
      let at : h.note.time ≡ end = (only_end network ns end of.events.right of.events.ends h.note.time).1 clock.ends in
      let time : time_of h ≡ amount end = ap amount at in
      let last : AreLast (time_of h) (h ∷ qs) = last_after ps qs h whole (ap rank body) in
      let state : state_after scene (up_to (time_of h) hs) t.device ≡ Synchronised =
      ap (λ xs. state_after scene (up_to (time_of h) xs) t.device) whole
      ∙ same_state scene t.device (time_of h) ps (h ∷ qs) last ∙ sym clock.in_state in
      let adjustment : adjustment_after scene (up_to (time_of h) hs) t.device ≡ t.adjustment =
      ap (λ xs. adjustment_after scene (up_to (time_of h) xs) t.device) whole
      ∙ same_adjustment scene t.device (time_of h) ps (h ∷ qs) last ∙ sym clock.adjusted in
      let shown : local_of t ≡ local scene hs t.device (time_of h) = ap (λ (u : Units). u.0 +ℤ t.adjustment.0) clock.reads
      ∙ ap (λ (u : Units). pos (scene.reading t.device (time_of h)) +ℤ u.0) (sym adjustment) in record {
        in_step = record {
          correct = correct_all span ns no_clocks t.device (amount end) correct;
          synchronised = ap (λ n. state_after scene (up_to n hs) t.device) (sym time) ∙ state;
        };
        shows = shown ∙ ap (λ n. local scene hs t.device n) time;
      }

  shows_told : (t : Told) → IsShown told_here t → ShowsClock scene hs (amount end) t
  unfolding TellsOf
  shows_told t is =
      elim (told_from span ns no_clocks t is.0) [
        | inl none ↦ absurd none
        | inr by ↦
            let there = has_happening hs by.0 (subst (λ ms. IsIn by.0 ms) (sym (same_notes network ns)) by.1) in
            let parts = parted there.0 hs there.1 in
            shows_by t there.0 parts.0 parts.1 parts.2 (ap (λ (n : Note). n.body) there.2 ∙ is_clock by.0.body t by.2) is.1
      ]

  close_by : (x y : ℤ) (t u : Told) → local_of t ≡ x → local_of u ≡ y → AreClose network x y → apart_of t u ≤ amount network.precision
  close_by x y t u a b close = let one = close.one in let other = close.other in omega (arith, ints, a, b, one, other)

  module _ (rules : KeepsRules network) where
    apart_told : (t u : Told) → IsShown told_here t → IsShown told_here u → apart_of t u ≤ amount network.precision
    apart_told t u a b =
        let one = shows_told t a in
        let other = shows_told u b in
        close_by (local scene hs t.device (amount end)) (local scene hs u.device (amount end)) t u one.shows other.shows
        ((report_well rules of).safe.precision.after (amount end) t.device u.device (omega arith) one.in_step other.in_step)

    least_and_greatest : (ends : Ends) → ends_of told_here ≡ Some ends → IsShown told_here ends.least × IsShown told_here ends.greatest
    least_and_greatest ends is =
        subst (AreBoth (IsShown told_here)) is
        (both_all (IsShown told_here) told_here.broken told_here.told None tt (λ t there correct. (there, correct)))

    bar_is : (ends : Ends) → ends_of told_here ≡ Some ends → IsTrueBar network ends
    bar_is ends is =
        let both = least_and_greatest ends is in
        let least = of.range.precision.least in
        share_is 120 (apart_of ends.greatest ends.least) (amount network.precision) (omega (arith, ints, least))
        (apart_told ends.greatest ends.least both.1 both.0)

    shows_clocks : ShowsClocks network span ns end
    shows_clocks = record { each = shows_told; apart = apart_told; bar = bar_is }

pub pictures_show_clocks : PicturesShowClocks
pictures_show_clocks network span octets ns end rules of = shows_clocks network octets ns end of span rules

-- ---- the titles of the marks are the lines of the records that are drawn

titles_of : (network : Network) (view : View) (marks : List Mark) (notes : List Note) → AreMarksOf network marks (shown view notes)
    → HaveTitles network (mark_lines network view marks notes) (shown view notes)
titles_of network view marks [] are = tt
titles_of network view marks (note ∷ notes) are = by (is_drawn view note) refl marks are (λ ms. titles_of network view ms notes)
  where
    by : (b : Bool) → is_drawn view note ≡ b → (ms : List Mark) → AreMarksOf network ms (shown view (note ∷ notes))
        → ((rest : List Mark) → AreMarksOf network rest (shown view notes) → HaveTitles network (mark_lines network view rest notes) (shown view notes))
        → HaveTitles network (mark_lines network view ms (note ∷ notes)) (shown view (note ∷ notes))
    by true h [] these each = absurd (subst (λ (b : Bool). AreMarksOf network [] (if b then note ∷ shown view notes else shown view notes)) h these)
    by true h (mark ∷ ms) these each =
        let are = subst (λ (b : Bool). AreMarksOf network (mark ∷ ms) (if b then note ∷ shown view notes else shown view notes)) h these in
        rw h ((sign_text network mark note.body, refl), each ms are.1)
    by false h ms these each =
        rw h (each ms (subst (λ (b : Bool). AreMarksOf network ms (if b then note ∷ shown view notes else shown view notes)) h these))

pub titles_are : (network : Network) (view : View) (notes : List Note)
    → HaveTitles network (mark_lines network view (plan_of network view notes).marks notes) (shown view notes)
titles_are network view notes =
    let taken = taken_all network (begun network view) notes in
    titles_of network view (plan_of network view notes).marks notes
    (subst (λ ms. AreMarksOf network ms (shown view notes)) (sym taken.whole) taken.marks)

-- ---- two reports with one picture have the same lines: which lines are marks

-- does the line begin as those of marks do?
abbrev is_mark : List ℕ → Bool
is_mark line = bytes_eq (take 6 line) (codes "<g id=")

-- no line does
abbrev NoneMarks : List (List ℕ) → Type 0
NoneMarks [] = Unit {0}
NoneMarks (line ∷ lines) = (is_mark line ≡ false) × NoneMarks lines

none_append : (xs ys : List (List ℕ)) → NoneMarks xs → NoneMarks ys → NoneMarks (xs ++ ys)
none_append [] ys p q = q
none_append (x ∷ xs) ys p q = (p.0, none_append xs ys p.1 q)

none_flat : {X : Type 0} (f : X → List (List ℕ)) → ((x : X) → NoneMarks (f x)) → (xs : List X) → NoneMarks (flat_map f xs)
none_flat f each [] = tt
none_flat f each (x ∷ xs) = none_append (f x) (flat_map f xs) (each x) (none_flat f each xs)

none_places : (f : ℕ → List (List ℕ)) → ((n : ℕ) → NoneMarks (f n)) → (i n : ℕ) → NoneMarks (lines_from f i n)
none_places f each i zero = tt
none_places f each i (suc n) = none_append (f i) (lines_from f (i + 1) n) (each i) (none_places f each (i + 1) n)

no_element : (network : Network) (e : Element) → is_mark (element_line network e) ≡ false
unfolding opening_line caption_line bar_line rail_line tick_line way_line gauge_line spread_bar window_line
no_element network (Opening a b) = refl
no_element network e = refl

no_sign : (sign : Sign) → is_mark (sign_line sign) ≡ false
unfolding sign_line
no_sign Style = refl
no_sign Arrows = refl
no_sign Shapes = refl
no_sign Backdrop = refl
no_sign MarkKey = refl
no_sign WayKey = refl

none_some : (network : Network) (o : Option Element) → NoneMarks (some_line network o)
none_some network None = tt
none_some network (Some e) = (no_element network e, tt)

no_title : (title : List ℕ) → is_mark (title_line title) ≡ false
unfolding title_line
no_title title = refl

no_heading : (title : List ℕ) → is_mark (heading_line title) ≡ false
unfolding heading_line
no_heading title = refl

module _ (network : Network) (plan : Plan) (windows : List Came) (clocks : Clocks) where
  none_layer : (layer : Layer) → NoneMarks (layer_lines network plan windows clocks layer)
  none_layer layers.Opening = (no_element network (opening_of network plan), tt)
  none_layer layers.Title = (no_title plan.view.title, tt)
  none_layer (layers.Shared sign) = (no_sign sign, tt)
  none_layer layers.Heading = (no_heading plan.view.title, tt)
  none_layer layers.Caption = (no_element network (Caption plan.view.span (length plan.marks)), tt)
  none_layer (layers.Lanes layer) =
      none_places (λ place. some_line network (on_lane layer network plan place))
      (λ place. none_some network (on_lane layer network plan place)) 0
      (length network.device)
  none_layer (layers.Marks layer) =
      none_flat (λ mark. some_line network (on_mark layer network plan mark))
      (λ mark. none_some network (on_mark layer network plan mark)) plan.marks
  none_layer layers.Windows =
      none_flat (λ came. some_line network (box_of came)) (λ came. none_some network (box_of came)) windows
  none_layer layers.Gauges =
      none_flat (λ told. some_line network (gauge_of network plan clocks told))
      (λ told. none_some network (gauge_of network plan clocks told))
      clocks.told
  none_layer layers.Spread = none_some network (spread_of network plan clocks)
  none_layer layers.Lack = none_some network (lack_of plan)

  none_front : NoneMarks (front_lines network plan windows clocks)
  none_front = none_flat (λ layer. layer_lines network plan windows clocks layer) (λ layer.
      none_layer layer) pictures.layers

-- those that do, of a list

without : (xs ys : List (List ℕ)) → NoneMarks xs → filter is_mark (xs ++ ys) ≡ filter is_mark ys
without [] ys none = refl
without (x ∷ xs) ys none = ap (λ (b : Bool). if b then x ∷ filter is_mark (xs ++ ys) else filter is_mark (xs ++ ys)) none.0 ∙ without xs ys none.1

is_titled : (network : Network) (note : Note) (rest : List ℕ) → is_mark (head_text network note ++ rest) ≡ true
unfolding head_text
is_titled network note rest = refl

only_marks : (network : Network) (lines : List (List ℕ)) (notes : List Note) → HaveTitles network lines notes
    → filter is_mark (lines ++ close_line ∷ []) ≡ lines
only_marks network [] [] titles = refl
only_marks network [] (n ∷ notes) titles = absurd titles
only_marks network (line ∷ lines) [] titles = absurd titles
only_marks network (line ∷ lines) (note ∷ notes) titles =
    let mark : is_mark line ≡ true = ap is_mark titles.0.1 ∙ is_titled network note titles.0.0 in
    let rest = only_marks network lines notes titles.1 in
    ap (λ (b : Bool). if b then line ∷ filter is_mark (lines ++ close_line ∷ []) else filter is_mark (lines ++ close_line ∷ [])) mark
    ∙ ap (λ (ls : List (List ℕ)). line ∷ ls) rest

marks_of_picture : (network : Network) (view : View) (notes : List Note)
    → filter is_mark (picture_lines network view notes) ≡ mark_lines network view (plan_of network view notes).marks notes
marks_of_picture network view notes =
    without (front_lines network (plan_of network view notes) (windows_of network view notes) (clocks_in view.span notes))
    (back_lines network view (plan_of network view notes).marks notes)
    (none_front network (plan_of network view notes) (windows_of network view notes) (clocks_in view.span notes))
    ∙ only_marks network (mark_lines network view (plan_of network view notes).marks notes) (shown view notes) (titles_are network view notes)

-- ---- which titles they have

digit_character : (c : ℕ) → digit_value c < 10 → (c == 34) ≡ false
digit_character c h = grind (arith, nat_tests)

no_quote : (text : List ℕ) → AllDigits 10 text → NonePasses (λ c. c == 34) text
no_quote [] h = All-nil (λ c. (c == 34) ≡ false)
no_quote (c ∷ cs) h = All-cons (λ c. (c == 34) ≡ false) c cs (digit_character c h.0) (no_quote cs h.1)

plain_character : (c : ℕ) → is_plain c ≡ true → (c == 60) ≡ false
plain_character c h = grind (arith, nat_tests)

no_element_in : (text : List ℕ) → IsPlain text → NonePasses (λ c. c == 60) text
no_element_in text h = All-weaker (λ c. is_plain c ≡ true) (λ c. (c == 60) ≡ false) plain_character text h

abbrev titled : List ℕ → List ℕ → List ℕ → List ℕ
titled number title rest = codes "<g id=\"r" ++ (number ++ (codes "\"><title>" ++ (title ++ (codes "</title>" ++ rest))))

head_parts : (number title rest : List ℕ) → (codes "<g id=\"r" ++ number ++ codes "\"><title>" ++ title ++ codes "</title>") ++ rest
    ≡ titled number title rest
head_parts number title rest = simp append_assoc refl

head_is : (network : Network) (note : Note) (rest : List ℕ) → head_text network note ++ rest ≡ titled (decimal note.number) (note_text network note) rest
unfolding head_text
head_is network note rest = head_parts (decimal note.number) (note_text network note) rest

same_title : (m n s t p q : List ℕ) → NonePasses (λ c. c == 34) m → NonePasses (λ c. c == 34) n → IsPlain s → IsPlain t → titled m s p ≡ titled n t q → s ≡ t
same_title m n s t p q dm dn ps pt same =
    let numbers = split_once (λ c. c == 34) 34 m (codes "><title>" ++ (s ++ (codes "</title>" ++ p))) n (codes "><title>" ++ (t ++ (codes "</title>" ++ q)))
    refl dm dn (ap (drop 8) same) in
    let titles = split_once (λ c. c == 60) 60 s (codes "/title>" ++ p) t (codes "/title>" ++ q) refl (no_element_in s ps) (no_element_in t pt)
    (ap (drop 8) numbers.backs) in
    titles.fronts

-- the records have lines, and these are plain
abbrev AreWritten : Network → List Note → Type 0
AreWritten network [] = Unit {0}
AreWritten network (note ∷ notes) = (NonePasses (λ c. c == 34) (decimal note.number) × IsPlain (note_text network note)) × AreWritten network notes

module _ (network : Network) where
  written : {note : Note} → IsInRange network → IsNoteOf network note → IsNoteInRange note
      → NonePasses (λ c. c == 34) (decimal note.number) × IsPlain (note_text network note)
  written {note} range of h =
      (no_quote (decimal note.number) ((decimal_is_IsNumeral note.number h.number).0).1, note_plain network note range of h)

  all_written : (view : View) (notes : List Note) → IsInRange network → All (IsNoteOf network) notes
      → All IsNoteInRange notes → AreWritten network (shown view notes)
  all_written view [] range of h = tt
  all_written view (note ∷ notes) range of h =
      by (all_written view notes range (All-tail (IsNoteOf network) note notes of)
      (All-tail IsNoteInRange note notes h)) (is_drawn view note)
    where
      by : AreWritten network (shown view notes) → (b : Bool) → AreWritten network
          (if b then note ∷ shown view notes else shown view notes)
      by rest true =
          (written range (All-head (IsNoteOf network) note notes of) (All-head IsNoteInRange note notes h), rest)
      by rest false = rest

  report_written : (view : View) {octets : List ℕ} {notes : List Note} {end : Units}
      → IsReportOf network octets notes end → AreWritten network (shown view notes)
  report_written view {notes} of =
      let records = of.events.text.records in
      all_written view notes of.range records.of_network records.in_range

  same_titles : (other : Network) (lines : List (List ℕ)) (notes more : List Note) → HaveTitles network lines notes
      → HaveTitles other lines more → AreWritten network notes → AreWritten other more
      → map (note_text network) notes ≡ map (note_text other) more
  same_titles other [] [] [] p q a b = refl
  same_titles other [] (n ∷ notes) more p q a b = absurd p
  same_titles other [] [] (m ∷ more) p q a b = absurd q
  same_titles other (line ∷ lines) [] more p q a b = absurd p
  same_titles other (line ∷ lines) (n ∷ notes) [] p q a b = absurd q
  same_titles other (line ∷ lines) (n ∷ notes) (m ∷ more) p q a b =
      let same = sym (head_is network n p.0.0) ∙ sym p.0.1 ∙ q.0.1 ∙ head_is other m q.0.0 in
      let title = same_title (decimal n.number) (decimal m.number) (note_text network n) (note_text other m) p.0.0
      q.0.0 a.0.0 b.0.0 a.0.1 b.0.1 same in
      ap (λ (t : List ℕ). t ∷ map (note_text network) notes) title
      ∙ ap (λ (ts : List (List ℕ)). note_text other m ∷ ts) (same_titles other lines notes more p.1 q.1 a.1 b.1)

pub pictures_are_one : PicturesAreOne
pictures_are_one network other view part octets report notes more end last of by same =
    let marks : mark_lines network view (plan_of network view notes).marks notes ≡ mark_lines other part (plan_of other part more).marks more =
    sym (marks_of_picture network view notes) ∙ ap (filter is_mark) same ∙ marks_of_picture other part more in
    same_titles network other (mark_lines other part (plan_of other part more).marks more) (shown view notes) (shown part more)
    (subst (λ ls. HaveTitles network ls (shown view notes)) marks (titles_are network view notes))
    (titles_are other part more) (report_written network view of) (report_written other part by)

all_plain : (network : Network) (notes : List Note) → AreWritten network notes → All (λ note. IsPlain (note_text network note)) notes
all_plain network [] a = All-nil (λ note. IsPlain (note_text network note))
all_plain network (n ∷ notes) a = All-cons (λ note. IsPlain (note_text network note)) n notes a.0.1 (all_plain network notes a.1)

pub titles_are_plain : TitlesArePlain
titles_are_plain network view octets notes end of =
    all_plain network (shown view notes) (report_written network view of)

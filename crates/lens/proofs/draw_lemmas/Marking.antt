-- The marks of a picture, and where in their windows the frames of a report came.
use Rattle.std.proofs.Common
use Common.{◌*◌, ◌++◌, ◌+◌, ◌-◌, ◌/◌, ◌<◌, ◌^◌, ◌∙◌, ◌∷◌, ◌≡◌, ◌≤ℤ◌, ◌≤◌, ◌⊎◌, Bool, List, None, Option, Some, [], ap}
use Common.{append_assoc, arith, drop, false, get_or, inl, inr, length, map, pos, refl, subst, suc, sym, take, take_all}
use Common.{true, zero, ℕ, ℤ}
use Rattle.std.proofs.lemmas.{Grind.flat_map-append, Int.ints}
use Rattle.std.proofs.lemmas.List.{Elements.{All-cons, All-nil, filter_map-append}, Sums.fold_push, append-nil}
use Rattle.std.proofs.lemmas.List.{at_drop_more, map-append, take-append-drop, take_more}
use Rattle.std.specs.{Io.KnownBytes.Appends, List.cons_option, declared.result.Result.Result}
use Rattle.std.specs.Prelude
use Prelude.{if◌then◌else◌, ◌+ℤ◌, ◌-ℤ◌, All, OnErr, OnOk, filter_map, flat_map, option_and_then, option_map, slice_get}
use Prelude.{unsigned_abs}
use Rattle.audit_law.proofs.law_lemmas.Founded.{in_time}
use Rattle.lens.{proofs.draw_lemmas.{Keeping.pictures_show_runs, Reading.{has_happening, share_is}}}
use Rattle.lens.specs.{declared.draw.{drawing.Draft.Draft, putting.Layer.Layer}}
use Rattle.lens.specs.draw.{Answer.{back_answer, draw_answer, fitting_answer}, Asking.IsAskable, Drafts.IsDraftOf}
use Rattle.lens.specs.draw.{LineLaws.{AreMarkLines, HasLineOf, MarksStandWhereTheirsDo, PicturesDrawPlans}}
use Rattle.lens.specs.draw.{Signs.close_line, WindowLaws.{PicturesShowWindows, ShowsWindow}}
use pictures.{back_lines, clocks_of, found_line, found_lines, front_lines, layer_lines, lines_from, mark_lines}
use pictures.{picture_lines, some_line, windows_of}
use Rattle.lens_svg.{proofs.{Painting.{taken_all, view_behind}, Windows.window_is}}
use Rattle.lens_svg.specs.{Bodies.{look_of, scene_of, struck_look}}
use Rattle.lens_svg.specs.{Clocks.{Clocks, clocks_in, clocks_with, gauge_of, no_clocks, share, spread_of}}
use Rattle.lens_svg.specs.{Elements.element_line, Laws.{AreMarksOf, IsMarkOf, shown}}
use Rattle.lens_svg.specs.{Layers.{lack_of, on_lane, on_mark}, Marking.mark_line, Plan.Plan}
use Rattle.lens_svg.specs.{Sketching.{begun, fits, glance_of, is_drawn, moment, plan_behind, plan_of, took}}
use Rattle.lens_svg.specs.{Titles.{heading_line, title_line}, Views.View}
use Rattle.lens_svg.specs.{Windows.{box_of, came_at, came_by, came_of, tick_in, window_at, window_by}}
use Rattle.lens_svg.specs.declared.{clock.Told.Told, element.Element.Element, glance.Glance.Glance, layout.Span.Span}
use Rattle.lens_svg.specs.declared.{mark.{Look.TheVariants.Taken, Mark.Mark}, window.Came.Came}
use Rattle.lens_svg.specs.declared.layer.{LaneLayer.{LaneLayer, TheVariants.{Grounds, Rails}}}
use Rattle.lens_svg.specs.declared.layer.{MarkLayer.{MarkLayer, TheVariants.{Ticks, Turns, Waits, Ways}}}
use Rattle.lens_why.{proofs.{Cutting.number_of, Frames.row_is_one, Telling.timely_in}, specs.Records.IsTimely}
use Rattle.net_plan.specs.{Belonging.HasDevice, Places.row_of, Ranges.IsInRange}
use Rattle.net_plan.specs.declared.{event.What.What, ids.{DeviceId.DeviceId, LinkId.LinkId, VlId.VlId}}
use Rattle.net_plan.specs.declared.{network.Network.Network}
use Rattle.precision_law.proofs.traffic_lemmas.delivery.{Faultless.{TakesIn, finds_none}, Taken.never_control}
use Rattle.report_text.specs.Ranges.{IsBodyOf, IsNoteInRange}
use Rattle.run_law.proofs.{law.FirstDeliveries.at_length, records.Members.in_flat}
use Rattle.run_law.proofs.{runs.{NetworkRuns.same_notes, Places.{in_left, in_right, parted}}}
use Rattle.run_law.specs.{control.Wires.{Signal, control, timed}}
use Rattle.run_law.specs.{declared.{note.{Note.Note, NoteBody.NoteBody}, steps.Arrival.Arrival}}
use Rattle.run_law.specs.{device.{Standpoints.{clock_of, offset_in_cycle, standpoint}, States.adjustment_after}}
use Rattle.run_law.specs.{records.{Happenings.{Happening, earlier, happenings, time_of}, Order.IsIn}}
use Rattle.run_law.specs.{runs.DueRecords.IsCaused, scenario.Scenarios.Scenario}
use Rattle.run_law.specs.{timed.Receptions.{ArrivesAs, arrival_of, last_taken}}
use Rattle.schedule_tables.specs.{Entries.IsEntry, Rules.KeepsRules}
use Rattle.schedule_tables.specs.{Windows.{arrival_of as arrival_place, tolerance, window_of}}
use Rattle.schedule_tables.specs.{declared.{entry.Entry.Entry, window.Window.Window}}
use Rattle.tte_audit.specs.Report.{scenario_of}
use Rattle.tte_forms.proofs.{frames.Frames.Gives-behind}
use Rattle.tte_forms.proofs.Puts.{Ends-gives, PutFails-behind, PutFails-more, PutsLines-append, PutsLines-none}
use Rattle.tte_forms.proofs.Puts.{puts_last}
use Rattle.tte_forms.specs.{Answering.{Answer, Ends, Gives, line_answer}, Putting.{PutFails, Puts, PutsLines, Shown}}
use Rattle.tte_forms.specs.{declared.status.Status.{Status, TheVariants.{Done, TooLong, WriteFault}}}
use Rattle.tte_forms.specs.{networks.Accepting.too_long_answer}
use Rattle.tte_io.specs.{Faults.next_count, Told.AppendsFront, declared.ends.SinkFailed.SinkFailed}
use Rattle.tte_reports.specs.{Places.note_at, Reports.IsReportOf}
use Rattle.tte_units.{proofs.general_lemmas.{Integers.not_below, Lists.in_all}}
use Rattle.tte_units.{specs.{Amount.amount, declared.units.Units.Units}}
use Rattle.world_law.proofs.runs.Worlds.{earlier_still}
use Rattle.lens.specs.declared.draw.putting.Layer.TheVariants as layers
use Rattle.lens.specs.draw.Picture as pictures
use Rattle.net_plan.specs.declared.event.What.TheVariants as events
use Rattle.run_law.specs.declared.note.NoteBody.TheVariants as notes

-- ---- of the marks of a report it can be asked where in their windows their frames came: one more frame

module _ {X Y : Type 0} (h : X → Option Y) (all listed : List X) (same : listed ≡ all) (i : ℕ) (d : X) (within : i < length listed) where
  one_more : filter_map h (take (i + 1) all) ≡ filter_map h (take i all) ++ cons_option (h (get_or listed i d)) []
  one_more =
      let inside = subst (λ xs. i < length xs) same within in
      ap (filter_map h) (take_more all i d inside) ∙ filter_map-append h (take i all) (get_or all i d ∷ [])
      ∙ ap (λ (xs : List X). filter_map h (take i all) ++ cons_option (h (get_or xs i d)) []) (sym same)

  pub with_next : (ys zs : List Y) (o : Option Y) → ys ≡ filter_map h (take i all) → o ≡ h (get_or listed i d) → zs ≡ ys ++ cons_option o []
      → zs ≡ filter_map h (take (i + 1) all)
  with_next ys zs o before own next =
      next ∙ ap (λ (ks : List Y). ks ++ cons_option o []) before ∙ ap (λ (p : Option Y). filter_map h (take i all) ++ cons_option p []) own ∙ sym one_more

-- ---- the marks of a report

pub struck_other : (what : What) (link : LinkId) (vl : VlId) → struck_look what ≡ Taken link vl → ⊥
struck_other (events.Break d) link vl e = cc
struck_other what link vl e = cc

module _ (network : Network) where
  taken_there : (body : NoteBody) (link : LinkId) (vl : VlId) → IsBodyOf network body → look_of body ≡ Taken link vl
      → HasDevice network (scene_of network body)
  taken_there (notes.Accepted d l cause v cycle) link vl of look = of.0
  taken_there (notes.Delivered d l cause v cycle) link vl of look = of.0
  taken_there (notes.Event line what) link vl of look = absurd (struck_other what link vl look)
  taken_there body link vl of look = absurd cc

  askable : {mark : Mark} {note : Note} → IsMarkOf network mark note → IsTimely network note → IsAskable network mark
  askable {note} is timely link vl look =
      let device = taken_there note.body link vl timely.of_network (sym is.look ∙ look) in
      let soon = timely.soon in (
        subst (HasDevice network) (sym is.device) device,
        subst (λ t. t ≤ 2 ^ 60) (sym is.time) soon,
      )

  all_askable : (marks : List Mark) (ns : List Note) → AreMarksOf network marks ns
      → ((n : Note) → IsIn n ns → IsTimely network n) → All (IsAskable network) marks
  all_askable [] [] are timely = All-nil (IsAskable network)
  all_askable [] (n ∷ ns) are timely = absurd are
  all_askable (m ∷ ms) [] are timely = absurd are
  all_askable (m ∷ ms) (n ∷ ns) are timely =
      All-cons (IsAskable network) m ms (askable are.0 (timely n (inl refl)))
      (all_askable ms ns are.1 (λ k i. timely k (inr i)))

pub in_shown : (view : View) (ns : List Note) (n : Note) → IsIn n (shown view ns) → IsIn n ns
in_shown view [] n i = absurd i
in_shown view (m ∷ ns) n i = by (in_shown view ns n) (is_drawn view m) i
  where
    by : (IsIn n (shown view ns) → IsIn n ns) → (b : Bool) → IsIn n (if b then m ∷ shown view ns else shown view ns) → IsIn n (m ∷ ns)
    by rest true (inl same) = inl same
    by rest true (inr there) = inr (rest there)
    by rest false there = inr (rest there)

pub report_askable : {network : Network} (view : View) {octets : List ℕ} {ns : List Note} {end : Units}
    → IsReportOf network octets ns end → All (IsAskable network) (plan_of network view ns).marks
report_askable {network} view {octets} {ns} {end} of =
    all_askable network (plan_of network view ns).marks (shown view ns) (pictures_show_runs network view octets ns end of).marks
    (λ n i. timely_in of n (in_shown view ns n i))

-- ---- the frames that a picture shows as taken came in their windows: the record of a mark

record IsShownBy (network : Network) (ns : List Note) (mark : Mark) : Type 0 where
  pub note : Note
  pub there : IsIn note ns
  pub is : IsMarkOf network mark note

shown_by : (network : Network) (marks : List Mark) (ns : List Note) (mark : Mark) → AreMarksOf network marks ns → IsIn mark marks → IsShownBy network ns mark
shown_by network [] ns mark are i = absurd i
shown_by network (m ∷ ms) [] mark are i = absurd are
shown_by network (m ∷ ms) (n ∷ ns) mark are (inl same) = record { note = n; there = inl refl; is = subst (λ x. IsMarkOf network x n) (sym same) are.0 }
shown_by network (m ∷ ms) (n ∷ ns) mark are (inr i) =
    let h = shown_by network ms ns mark are.1 i in record { note = h.note; there = inr h.there; is = h.is }

-- a record that shows a taken frame is that of its taking
record IsTakenBy (body : NoteBody) (device : DeviceId) (link : LinkId) (vl : VlId) : Type 0 where
  pub cause : ℕ
  pub cycle : ℕ
  pub says : (body ≡ notes.Accepted device link cause vl cycle) ⊎ (body ≡ notes.Delivered device link cause vl cycle)

taken_by : (network : Network) (body : NoteBody) (link : LinkId) (vl : VlId) → look_of body ≡ Taken link vl → IsTakenBy body (scene_of network body) link vl
taken_by network (notes.Accepted d l cause v cycle) link vl e =
    let a : l ≡ link = cc in
    let b : v ≡ vl = cc in
    record {
      cause = cause;
      cycle = cycle;
      says = inl (ap (λ (x : LinkId). notes.Accepted d x cause v cycle) a ∙ ap (λ (x : VlId). notes.Accepted d link cause x cycle) b);
    }
taken_by network (notes.Delivered d l cause v cycle) link vl e =
    let a : l ≡ link = cc in
    let b : v ≡ vl = cc in
    record {
      cause = cause;
      cycle = cycle;
      says = inr (ap (λ (x : LinkId). notes.Delivered d x cause v cycle) a ∙ ap (λ (x : VlId). notes.Delivered d link cause x cycle) b);
    }
taken_by network (notes.Event line what) link vl e = absurd (struck_other what link vl e)
taken_by network body link vl e = absurd cc

-- ---- what a device finds of a frame that it takes

record HasCome (network : Network) (link : LinkId) (vl : VlId) (clock : ℤ) : Type 0 where
  pub place : ℕ
  pub entry : Entry
  pub row : IsEntry network place entry
  pub by : entry.row.link ≡ link
  pub of_vl : entry.row.vl ≡ vl
  pub not_before : (window_of network entry).from.0 ≤ℤ offset_in_cycle network clock
  pub not_behind : offset_in_cycle network clock ≤ℤ (window_of network entry).to.0

module _ (s : Scenario) (ps : List Happening) (device : DeviceId) (t : ℕ) (link : LinkId) (cause : ℕ) (vl : VlId)
    (cycle : ℕ) where
  found : (signal : Signal) → TakesIn (arrival_of s ps device t link cause signal) vl cycle
      → HasCome s.network link vl (clock_of (standpoint s ps device t))
  found (control frame) takes =
      absurd (never_control s.network device link (standpoint s ps device t) frame vl cycle takes)
  found (timed octets) takes =
      let finds = finds_none s.network device link (standpoint s ps device t) octets
      (last_taken ps device t link cause) vl cycle takes in record {
        place = finds.enters.place;
        entry = finds.entry;
        row = finds.enters.row;
        by = finds.enters.by;
        of_vl = finds.of_vl;
        not_before = finds.fits.not_before;
        not_behind = finds.fits.not_behind;
      }

  come_as : {a : Arrival} → TakesIn a vl cycle → ArrivesAs s ps device t link cause a
      → HasCome s.network link vl (clock_of (standpoint s ps device t))
  come_as takes comes =
      found comes.signal (subst (λ x. TakesIn x vl cycle) comes.becomes takes)

come_by : (s : Scenario) (ps : List Happening) (time : Units) {body : NoteBody} {device : DeviceId} {link : LinkId}
    {vl : VlId} → IsTakenBy body device link vl → IsCaused s ps time body
    → HasCome s.network link vl (clock_of (standpoint s ps device (amount time)))
come_by s ps time {body} {device} {link} {vl} h caused = by h.says
  where
    by : (body ≡ notes.Accepted device link h.cause vl h.cycle) ⊎ (body ≡ notes.Delivered device link h.cause vl h.cycle)
        → HasCome s.network link vl (clock_of (standpoint s ps device (amount time)))
    by (inl e) =
        come_as s ps device (amount time) link h.cause vl h.cycle (inl refl) (subst (IsCaused s ps time) e caused)
    by (inr e) =
        come_as s ps device (amount time) link h.cause vl h.cycle (inr refl) (subst (IsCaused s ps time) e caused)

-- ---- the records before a time: the tick

tick_is : (window : Window) (at : ℤ) → 0 < unsigned_abs (window.to.0 -ℤ window.from.0) → window.from.0 ≤ℤ at → at ≤ℤ window.to.0
    → (tick_in window at ≡ 24 * unsigned_abs (at -ℤ window.from.0) / unsigned_abs (window.to.0 -ℤ window.from.0)) × (tick_in window at ≤ 24)
tick_is window at some least most =
    let part = unsigned_abs (at -ℤ window.from.0) in
    let whole = unsigned_abs (window.to.0 -ℤ window.from.0) in
    let is = share_is 24 part whole some (within window.from.0 window.to.0 at least most) in
    let test : tick_in window at ≡ share 24 part whole = ap (λ (b : Bool). if b then 0 else share 24 part whole) (not_below at window.from.0 least) in
    (test ∙ is.0, subst (λ n. n ≤ 24) (sym test) is.1)
  where
    within : (from to x : ℤ) → from ≤ℤ x → x ≤ℤ to → unsigned_abs (x -ℤ from) ≤ unsigned_abs (to -ℤ from)
    within from to x low high = omega (arith, ints, low, high)

-- a window has some length
some_length : {network : Network} (entry : Entry) → IsInRange network
    → 0 < unsigned_abs ((window_of network entry).to.0 -ℤ (window_of network entry).from.0)
some_length {network} entry range =
    let least = range.precision.least in
    long (arrival_place entry) (amount entry.link.jitter) (tolerance network) (omega (arith, ints, least))
  where
    long : (a j t : ℕ) → 1 ≤ t → 0 < unsigned_abs (pos (a + j + t) -ℤ (pos a -ℤ pos t))
    long a j t h = omega (arith, ints, h)

-- ---- the windows of a report

module _ (network : Network) (octets : List ℕ) (ns : List Note) (end : Units) (rules : KeepsRules network) (of : IsReportOf network octets ns end) where
  abbrev scene : Scenario
  scene = scenario_of network ns

  abbrev hs : List Happening
  hs = happenings network ns

  late : (ps qs : List Happening) (h : Happening) → hs ≡ ps ++ h ∷ qs → (x : Happening) → IsIn x (h ∷ qs) → time_of h ≤ time_of x
  late ps qs h whole x (inl same) = omega (arith, ap time_of same)
  late ps qs h whole x (inr there) =
      let parts = parted x qs there in
      let all : hs ≡ (ps ++ h ∷ parts.0) ++ x ∷ parts.1 =
      whole ∙ ap (λ (rest : List Happening). ps ++ h ∷ rest) parts.2 ∙ sym (append_assoc ps (h ∷ parts.0) (x ∷ parts.1)) in
      in_time h x ((of.run.founded (ps ++ h ∷ parts.0) parts.1 x all).0 h (in_right h ps (h ∷ parts.0) (inl refl)))

  same_clock : (ps qs : List Happening) (h : Happening) (device : DeviceId) → hs ≡ ps ++ h ∷ qs
      → clock_of (standpoint scene ps device (time_of h)) ≡ clocks_of network ns device (time_of h)
  same_clock ps qs h device whole =
      let earlier_all : earlier (time_of h) ps ≡ earlier (time_of h) hs =
      sym (ap (earlier (time_of h)) whole ∙ earlier_still (time_of h) ps (h ∷ qs) (late ps qs h whole)) in
      ap (λ xs. pos (scene.reading device (time_of h)) +ℤ (adjustment_after scene xs device).0) earlier_all

  come : (device : DeviceId) (link : LinkId) (vl : VlId) (note : Note) → IsIn note ns → IsTakenBy note.body device link vl
      → HasCome network link vl (clocks_of network ns device (moment note))
  come device link vl note there taken =
      let at = has_happening hs note (subst (λ ms. IsIn note ms) (sym (same_notes network ns)) there) in
      let h = at.0 in
      let parts = parted h hs at.1 in
      let due = (of.run.founded parts.0 parts.1 h parts.2).1 in
      let own : IsTakenBy h.note.body device link vl = subst (λ (n : Note). IsTakenBy n.body device link vl) (sym at.2) taken in
      let has = come_by scene parts.0 h.note.time own due.cause in
      subst (λ n. HasCome network link vl (clocks_of network ns device (moment n))) at.2
      (subst (HasCome network link vl) (same_clock parts.0 parts.1 h device parts.2) has)

  drawn : (mark : Mark) (link : LinkId) (vl : VlId) (clock : ℤ) → mark.look ≡ Taken link vl → HasCome network link vl clock
      → ShowsWindow network link vl clock (came_of network mark clock)
  drawn mark link vl clock look h =
      let window = window_of network h.entry in
      let row : row_of network vl link ≡ Some h.place =
      ap (λ v. row_of network v link) (sym h.of_vl) ∙ ap (λ l. row_of network h.entry.row.vl l) (sym h.by)
      ∙ row_is_one network h.place h.entry rules h.row in
      let is : window_by network vl link ≡ Some window = ap (option_and_then (window_at network)) row ∙ window_is network h.place h.entry h.row in
      let tick = tick_is window (offset_in_cycle network clock) (some_length h.entry of.range) h.not_before h.not_behind in record {
        window = window;
        is = is;
        not_before = h.not_before;
        not_behind = h.not_behind;
        came = came_at network mark clock window;
        drawn_as = ap (came_by network mark clock) look ∙ ap (option_map (came_at network mark clock)) is;
        tick = tick.0;
        inside = tick.1;
      }

  shows_window : (view : View) (mark : Mark) (link : LinkId) (vl : VlId) → IsIn mark (plan_of network view ns).marks → mark.look ≡ Taken link vl
      → ShowsWindow network link vl (clocks_of network ns mark.device mark.time) (came_of network mark (clocks_of network ns mark.device mark.time))
  shows_window view mark link vl there look =
      let by = shown_by network (plan_of network view ns).marks (shown view ns) mark (pictures_show_runs network view octets ns end of).marks there in
      let taken = taken_by network by.note.body link vl (sym by.is.look ∙ look) in
      let has = come (scene_of network by.note.body) link vl by.note (in_shown view ns by.note by.there) taken in
      drawn mark link vl (clocks_of network ns mark.device mark.time) look
      (subst (λ d. HasCome network link vl (clocks_of network ns d mark.time)) (sym by.is.device)
      (subst (λ t. HasCome network link vl (clocks_of network ns (scene_of network by.note.body) t)) (sym by.is.time) has))

pub pictures_show_windows : PicturesShowWindows
pictures_show_windows network view octets ns end rules of mark link vl there look = shows_window network octets ns end rules of view mark link vl there look

-- ---- a picture has the line of each thing that its plan draws: lists

in_at : {X : Type 0} (n : ℕ) (x : X) (xs : List X) → slice_get xs n ≡ Some x → IsIn x xs
in_at n x [] there = absurd cc
in_at zero x (y ∷ ys) there = let same : x ≡ y = cc in inl same
in_at (suc n) x (y ∷ ys) there = inr (in_at n x ys there)

in_places : (f : ℕ → List (List ℕ)) (i n m : ℕ) (a : List ℕ) → m < n → IsIn a (f (i + m)) → IsIn a (lines_from f i n)
in_places f i zero m a less j = absurd (omega (arith, less))
in_places f i (suc n) zero a less j =
    let here : i + 0 ≡ i = omega arith in
    in_left a (f i) (lines_from f (i + 1) n) (subst (λ (k : ℕ). IsIn a (f k)) here j)
in_places f i (suc n) (suc m) a less j =
    let there : i + suc m ≡ i + 1 + m = omega arith in
    in_right a (f i) (lines_from f (i + 1) n)
    (in_places f (i + 1) n m a (omega (arith, less)) (subst (λ (k : ℕ). IsIn a (f k)) there j))

-- ---- the lines

-- what is one of the lines of an element is one of the picture's
has_line : (network : Network) (lines : List (List ℕ)) (o : Option Element) → ((a : List ℕ) → IsIn a (some_line network o) → IsIn a lines)
    → HasLineOf network lines o
has_line network lines None each = tt
has_line network lines (Some element) each = each (element_line network element) (inl refl)

module _ (network : Network) (view : View) (notes : List Note) where
  abbrev plan : Plan
  plan = plan_of network view notes

  abbrev windows : List Came
  windows = windows_of network view notes

  abbrev lines : List (List ℕ)
  lines = picture_lines network view notes

  -- a layer's lines are the picture's
  in_layer : (layer : Layer) (n : ℕ) → slice_get pictures.layers n ≡ Some layer → (a : List ℕ)
      → IsIn a (layer_lines network plan windows (clocks_in view.span notes) layer) → IsIn a lines
  in_layer layer n there a i =
      in_left a (front_lines network plan windows (clocks_in view.span notes)) (back_lines network view plan.marks notes)
      (in_flat (λ l. layer_lines network plan windows (clocks_in view.span notes) l) pictures.layers layer a (in_at n layer pictures.layers there) i)

  lane_at : (layer : LaneLayer) (n : ℕ) → slice_get pictures.layers n ≡ Some (layers.Lanes layer) → (place : ℕ) → place < length network.device
      → HasLineOf network lines (on_lane layer network plan place)
  lane_at layer n there place within =
      let first : place ≡ 0 + place = omega arith in
      has_line network lines (on_lane layer network plan place) (λ a i. in_layer (layers.Lanes layer) n there a
      (in_places (λ p. some_line network (on_lane layer network plan p)) 0 (length network.device) place a within
      (subst (λ k. IsIn a (some_line network (on_lane layer network plan k))) first i)))

  lane_line : (layer : LaneLayer) (place : ℕ) → place < length network.device → HasLineOf network lines (on_lane layer network plan place)
  lane_line Grounds = lane_at Grounds 10 refl
  lane_line Rails = lane_at Rails 13 refl

  mark_at : (layer : MarkLayer) (n : ℕ) → slice_get pictures.layers n ≡ Some (layers.Marks layer) → (mark : Mark) → IsIn mark plan.marks
      → HasLineOf network lines (on_mark layer network plan mark)
  mark_at layer n there mark of = has_line network lines (on_mark layer network plan mark) (λ a i. in_layer (layers.Marks layer) n there a
      (in_flat (λ m. some_line network (on_mark layer network plan m)) plan.marks mark a of i))

  mark_element : (layer : MarkLayer) (mark : Mark) → IsIn mark plan.marks → HasLineOf network lines (on_mark layer network plan mark)
  mark_element Turns = mark_at Turns 11 refl
  mark_element Ticks = mark_at Ticks 12 refl
  mark_element Waits = mark_at Waits 14 refl
  mark_element Ways = mark_at Ways 15 refl

  window_line : (came : Came) → IsIn came windows → HasLineOf network lines (box_of came)
  window_line came of = has_line network lines (box_of came) (λ a i. in_layer layers.Windows 16 refl a
      (in_flat (λ c. some_line network (box_of c)) windows came a of i))

  gauge_line : (told : Told) → IsIn told (clocks_in view.span notes).told → HasLineOf network lines (gauge_of network plan (clocks_in view.span notes) told)
  gauge_line told of = has_line network lines (gauge_of network plan (clocks_in view.span notes) told) (λ a i. in_layer layers.Gauges 17 refl a
      (in_flat (λ t. some_line network (gauge_of network plan (clocks_in view.span notes) t)) (clocks_in view.span notes).told told a of i))

pub pictures_draw_plans : PicturesDrawPlans
pictures_draw_plans network view notes = record {
  lanes = lane_line network view notes;
  marks = mark_element network view notes;
  windows = window_line network view notes;
  gauges = gauge_line network view notes;
  spread = has_line network (picture_lines network view notes) (spread_of network (plan_of network view notes) (clocks_in view.span notes))
      (λ a i. in_layer network view notes layers.Spread 18 refl a i);
  title = subst (λ (v : View). IsIn (title_line v.title) (picture_lines network view notes)) (view_behind network (begun network view) notes)
      (in_layer network view notes layers.Title 1 refl (title_line (plan_of network view notes).view.title) (inl refl));
  heading = subst (λ (v : View). IsIn (heading_line v.title) (picture_lines network view notes)) (view_behind network (begun network view) notes)
      (in_layer network view notes layers.Heading 6 refl (heading_line (plan_of network view notes).view.title) (inl refl));
  lack = has_line network (picture_lines network view notes) (lack_of (plan_of network view notes))
      (λ a i. in_layer network view notes layers.Lack 19 refl a i);
}

-- ---- the marks

mark_lines_of : (network : Network) (view : View) (marks : List Mark) (notes : List Note) → AreMarksOf network marks (shown view notes)
    → AreMarkLines network (mark_lines network view marks notes) marks (shown view notes)
mark_lines_of network view [] [] are = tt
mark_lines_of network view (mark ∷ marks) [] are = absurd are
mark_lines_of network view marks (note ∷ notes) are = by (is_drawn view note) refl marks are (λ ms. mark_lines_of network view ms notes)
  where
    by : (b : Bool) → is_drawn view note ≡ b → (ms : List Mark) → AreMarksOf network ms (shown view (note ∷ notes))
        → ((rest : List Mark) → AreMarksOf network rest (shown view notes)
        → AreMarkLines network (mark_lines network view rest notes) rest (shown view notes))
        → AreMarkLines network (mark_lines network view ms (note ∷ notes)) ms (shown view (note ∷ notes))
    by true h [] these each = absurd (subst (λ (b : Bool). AreMarksOf network [] (if b then note ∷ shown view notes else shown view notes)) h these)
    by true h (mark ∷ ms) these each =
        let are = subst (λ (b : Bool). AreMarksOf network (mark ∷ ms) (if b then note ∷ shown view notes else shown view notes)) h these in
        rw h (refl, each ms are.1)
    by false h ms these each =
        rw h (each ms (subst (λ (b : Bool). AreMarksOf network ms (if b then note ∷ shown view notes else shown view notes)) h these))

pub marks_stand : MarksStandWhereTheirsDo
marks_stand network view notes =
    let taken = taken_all network (begun network view) notes in
    mark_lines_of network view (plan_of network view notes).marks notes
    (subst (λ ms. AreMarksOf network ms (shown view notes)) (sym taken.whole) taken.marks)

-- ---- the draft of a picture, and the marks of records put one after another: the draft

plan_more : (network : Network) (plan : Plan) (before : List Note) (note : Note)
    → plan_behind network plan (before ++ note ∷ []) ≡ took network (plan_behind network plan before) note
plan_more network plan [] note = refl
plan_more network plan (n ∷ before) note = plan_more network (took network plan n) before note

-- what is told of clocks by one more record
pub clocked_more : (span : Span) (before : List Note) (note : Note) {old new : Clocks} → old ≡ clocks_in span before → new ≡ clocks_with span old note
    → new ≡ clocks_in span (before ++ note ∷ [])
clocked_more span before note so next =
    next ∙ ap (λ k. clocks_with span k note) so ∙ sym (fold_push (clocks_with span) no_clocks before note)

-- what is taken of one more record
pub drafted_more : {network : Network} {begin : Plan} {before : List Note} {old : Draft} (new : Draft) (note : Note)
    → IsDraftOf network begin before old → new.sketch ≡ took network old.sketch note
    → new.clocks ≡ clocks_with new.sketch.view.span old.clocks note
    → IsDraftOf network begin (before ++ note ∷ []) new
drafted_more {network} {begin} {before} {old} new note so sketch clocks =
    let plan = sketch ∙ ap (λ p. took network p note) so.sketch ∙ sym (plan_more network begin before note) in
    let span = ap (λ (p : Plan). p.view.span) plan ∙ ap (λ (v : View). v.span) (view_behind network begin (before ++ note ∷ [])) in
    record {
      sketch = plan;
      clocks = clocked_more begin.view.span before note so.clocks (clocks ∙ ap (λ s. clocks_with s old.clocks note) span);
    }

pub glanced_more : (network : Network) (before : List Note) (note : Note) {old new : List Glance} → old ≡ map (glance_of network) before
    → new ≡ old ++ glance_of network note ∷ [] → new ≡ map (glance_of network) (before ++ note ∷ [])
glanced_more network before note so next =
    next ∙ ap (λ (gs : List Glance). gs ++ glance_of network note ∷ []) so ∙ sym (map-append (glance_of network) before (note ∷ []))

-- a draft whose sketch is the plan of the records in a view is of that view
pub draft_is : (network : Network) (view : View) (notes : List Note) (draft : Draft) → draft.sketch ≡ plan_of network view notes
    → draft.clocks ≡ clocks_in view.span notes
    → (draft.sketch.view ≡ view) × IsDraftOf network (begun network draft.sketch.view) notes draft
draft_is network view notes draft sketch clocks =
    let of_view = ap (λ (p : Plan). p.view) sketch ∙ view_behind network (begun network view) notes in (
      of_view,
      subst (λ v. IsDraftOf network (begun network v) notes draft) (sym of_view) (record { sketch = sketch; clocks = clocks }),
    )

-- ---- the marks

-- the records of these marks are found by their numbers
marks_found : (network : Network) (view : View) (all : List Note) (marks : List Mark) (notes : List Note)
    → AreMarksOf network marks (shown view notes) → ((n : Note) → IsIn n notes → note_at all n.number ≡ Some n)
    → mark_lines network view marks notes ≡ found_lines network all marks
marks_found network view all [] [] are at = refl
marks_found network view all (mark ∷ marks) [] are at = absurd are
marks_found network view all marks (note ∷ notes) are at =
    by (is_drawn view note) refl marks are (λ ms so. marks_found network view all ms notes so (λ n i. at n (inr i)))
  where
    by : (b : Bool) → is_drawn view note ≡ b → (ms : List Mark) → AreMarksOf network ms (shown view (note ∷ notes))
        → ((rest : List Mark) → AreMarksOf network rest (shown view notes) → mark_lines network view rest notes ≡ found_lines network all rest)
        → mark_lines network view ms (note ∷ notes) ≡ found_lines network all ms
    by true h [] these each = absurd (subst (λ (b : Bool). AreMarksOf network [] (if b then note ∷ shown view notes else shown view notes)) h these)
    by true h (mark ∷ ms) these each =
        let are = subst (λ (b : Bool). AreMarksOf network (mark ∷ ms) (if b then note ∷ shown view notes else shown view notes)) h these in
        let found : found_line network mark (note_at all mark.number) ≡ mark_line network mark note ∷ [] =
        ap (λ n. found_line network mark (note_at all n)) are.0.number ∙ ap (found_line network mark) (at note (inl refl)) in
        rw h (sym (ap (λ (ls : List (List ℕ)). ls ++ found_lines network all ms) found
        ∙ ap (λ (ls : List (List ℕ)). mark_line network mark note ∷ ls) (sym (each ms are.1))))
    by false h ms these each =
        rw h (each ms (subst (λ (b : Bool). AreMarksOf network ms (if b then note ∷ shown view notes else shown view notes)) h these))

-- these lines and the end, as an answer
abbrev back : List (List ℕ) → Answer
back lines = record { status = Done; lines = lines ++ close_line ∷ [] }

module _ {network : Network} {octets : List ℕ} {notes : List Note} {end : Units} (of : IsReportOf network octets notes end) where
  found_at : (note : Note) → IsIn note notes → note_at notes note.number ≡ Some note
  found_at note i =
      let at = parted note notes i in
      let there : slice_get notes (length at.0) ≡ Some note =
      subst (λ (ns : List Note). slice_get ns (length at.0) ≡ Some note) (sym at.2) (at_length at.0 at.1 note) in
      ap (note_at notes) (number_of of (suc (length at.0)) note there) ∙ there

  -- so the lines of the marks of a picture are those of the records that are drawn
  lines_found : (view : View) (plan : Plan) → plan ≡ plan_of network view notes
      → mark_lines network view plan.marks notes ≡ found_lines network notes plan.marks
  lines_found view plan same =
      let taken = taken_all network (begun network view) notes in
      subst (λ (p : Plan). mark_lines network view p.marks notes ≡ found_lines network notes p.marks) (sym same)
      (marks_found network view notes (plan_of network view notes).marks notes
      (subst (λ ms. AreMarksOf network ms (shown view notes)) (sym taken.whole) taken.marks) found_at)

  module _ (plan : Plan) (same : plan ≡ plan_of network plan.view notes) {old now : Shown} where
    -- these lines were put, and the end is put
    pub back_given : (status : Status) {new : Shown} → PutsLines (found_lines network notes plan.marks) old now
        → Gives (line_answer Done close_line) status now new → Gives (back_answer network plan.view plan.marks notes) status old new
    back_given status {new} puts gives =
        subst (λ (ls : List (List ℕ)). Gives (back ls) status old new) (sym (lines_found plan.view plan same))
        (Gives-behind (line_answer Done close_line) status puts gives)

    -- the put of one of them failed
    pub back_fails : PutFails (found_lines network notes plan.marks) old now → Gives (back_answer network plan.view plan.marks notes) WriteFault old now
    back_fails fails =
        subst (λ (ls : List (List ℕ)). Gives (back ls) WriteFault old now) (sym (lines_found plan.view plan same))
        (inr (inl (refl, inl (PutFails-more (close_line ∷ []) fails))))

-- a record that was found lies in its ranges
pub found_in_range : (notes : List Note) (n : ℕ) (note : Note) → All IsNoteInRange notes → note_at notes n ≡ Some note → IsNoteInRange note
found_in_range notes zero note all there = absurd cc
found_in_range notes (suc k) note all there = in_all IsNoteInRange notes k note all there

-- ---- the answer

-- the plan is that of the picture, so the answer is of it
pub wide_answer : (network : Network) (view : View) (notes : List Note) (plan : Plan) (status : Status) (old new : Shown) → plan ≡ plan_of network view notes
    → fits plan ≡ false → Ends TooLong status old new → Gives (draw_answer network view notes) status old new
wide_answer network view notes plan status old new same wide ends =
    let answer : draw_answer network view notes ≡ too_long_answer =
    ap (λ (b : Bool). if b then record { status = Done; lines = picture_lines network view notes } else too_long_answer) (ap fits (sym same) ∙ wide) in
    subst (λ a. Gives a status old new) (sym answer) (Ends-gives TooLong status new (PutsLines-none old) ends)

pub fit_answer : (network : Network) (view : View) (notes : List Note) (plan : Plan) (windows : List Came)
    (clocks : Clocks) (status : Status) {old new : Shown} → plan ≡ plan_of network view notes
    → windows ≡ windows_of network view notes → clocks ≡ clocks_in view.span notes → fits plan ≡ true
    → Gives (fitting_answer network plan windows clocks notes) status old new
    → Gives (draw_answer network view notes) status old new
fit_answer network view notes plan windows clocks status {old} {new} same came told fit gives =
    let of_view : plan.view ≡ view = ap (λ (p : Plan). p.view) same ∙ view_behind network (begun network view) notes in
    let whole = plan_of network view notes in
    let lines : front_lines network plan windows clocks ++ back_lines network plan.view plan.marks notes ≡ picture_lines network view notes =
    ap (λ v. front_lines network plan windows clocks ++ back_lines network v plan.marks notes) of_view
    ∙ ap (λ (p : Plan). front_lines network p windows clocks ++ back_lines network view p.marks notes) same
    ∙ ap (λ w. front_lines network whole w clocks ++ back_lines network view whole.marks notes) came
    ∙ ap (λ c. front_lines network whole (windows_of network view notes) c ++ back_lines network view whole.marks notes) told in
    let answer : draw_answer network view notes ≡ fitting_answer network plan windows clocks notes =
    ap (λ (b : Bool). if b then record { status = Done; lines = picture_lines network view notes } else too_long_answer) (ap fits (sym same) ∙ fit)
    ∙ ap (λ (ls : List (List ℕ)). let a : Answer = record { status = Done; lines = ls } in a) (sym lines) in
    subst (λ a. Gives a status old new) (sym answer) gives

module _ (network : Network) (plan : Plan) (windows : List Came) (clocks : Clocks) (notes : List Note) where
  -- the put of a line below the marks failed
  pub front_fails : {old new : Shown} → PutFails (front_lines network plan windows clocks) old new
      → Gives (fitting_answer network plan windows clocks notes) WriteFault old new
  front_fails fails =
      inr (inl (refl, inl (PutFails-more (back_lines network plan.view plan.marks notes) fails)))

  -- the lines below the marks were put, and then those from the marks on
  pub front_given : (status : Status) {old now new : Shown}
      → PutsLines (front_lines network plan windows clocks) old now
      → Gives (back_answer network plan.view plan.marks notes) status now new
      → Gives (fitting_answer network plan windows clocks notes) status old new
  front_given status {old} {now} {new} puts gives =
      Gives-behind (back_answer network plan.view plan.marks notes) status puts gives

-- ---- parts of a picture put one after another

-- one line, in one put
pub draws_one : (line : List ℕ) (result : Result (Unit {0}) SinkFailed) (old new : Shown) → OnOk result (Appends old.written new.written line)
    → OnErr result (AppendsFront old.written new.written line) → new.puts ≡ next_count old.puts → Puts (line ∷ []) result old new
draws_one line result old new all front counted = puts_last line result new (PutsLines-none old) all front counted

-- a put failed behind lines that were put, and others were to come
pub fails_between : {xs ys : List (List ℕ)} (zs : List (List ℕ)) {a b c : Shown} → PutsLines xs a b → PutFails ys b c
    → PutFails (xs ++ (ys ++ zs)) a c
fails_between {xs} {ys} zs {a} {b} {c} p q = PutFails-behind (ys ++ zs) c p (PutFails-more zs q)

-- ---- something of each of a list

module _ {X : Type 0} (f : X → List (List ℕ)) (all : List X) (n : ℕ) where
  pub flat_more : (d : X) (a b c : Shown) → n < length all → PutsLines (flat_map f (take n all)) a b → PutsLines (f (get_or all n d)) b c
      → PutsLines (flat_map f (take (n + 1) all)) a c
  flat_more d a b c within p q =
      let x = get_or all n d in
      let lines : flat_map f (take (n + 1) all) ≡ flat_map f (take n all) ++ f x =
      ap (λ (xs : List X). flat_map f xs) (take_more all n d within) ∙ flat_map-append f (take n all) (x ∷ [])
      ∙ ap (λ (ls : List (List ℕ)). flat_map f (take n all) ++ ls) (append-nil (f x)) in
      subst (λ ls. PutsLines ls a c) (sym lines) (PutsLines-append p q)

  pub flat_fails : (d : X) (a b c : Shown) → n < length all → PutsLines (flat_map f (take n all)) a b → PutFails (f (get_or all n d)) b c
      → PutFails (flat_map f all) a c
  flat_fails d a b c within p q =
      let x = get_or all n d in
      let rest = drop (n + 1) all in
      let split : all ≡ take n all ++ x ∷ rest = sym (take-append-drop n all) ∙ ap (λ (xs : List X). take n all ++ xs) (at_drop_more (λ (xs : List X). xs) all n d within) in
      let lines : flat_map f all ≡ flat_map f (take n all) ++ (f x ++ flat_map f rest) =
      ap (λ (xs : List X). flat_map f xs) split ∙ flat_map-append f (take n all) (x ∷ rest) in
      subst (λ ls. PutFails ls a c) (sym lines) (fails_between (flat_map f rest) p q)

  pub flat_all : (a b : Shown) → length all ≤ n → PutsLines (flat_map f (take n all)) a b → PutsLines (flat_map f all) a b
  flat_all a b end p = subst (λ (xs : List X). PutsLines (flat_map f xs) a b) (take_all n all end) p

-- the same, where the list is told by a call
module _ {X : Type 0} (f : X → List (List ℕ)) (all listed : List X) (same : listed ≡ all) (n : ℕ) (within : n < length listed) where
  pub listed_more : (d : X) (a b c : Shown) → PutsLines (flat_map f (take n all)) a b → PutsLines (f (get_or listed n d)) b c
      → PutsLines (flat_map f (take (n + 1) all)) a c
  listed_more d a b c p q =
      flat_more f all n d a b c (subst (λ xs. n < length xs) same within) p (subst (λ (xs : List X). PutsLines (f (get_or xs n d)) b c) same q)

  pub listed_fails : (d : X) (a b c : Shown) → PutsLines (flat_map f (take n all)) a b → PutFails (f (get_or listed n d)) b c → PutFails (flat_map f all) a c
  listed_fails d a b c p q =
      flat_fails f all n d a b c (subst (λ xs. n < length xs) same within) p (subst (λ (xs : List X). PutFails (f (get_or xs n d)) b c) same q)

-- ---- something of each place

pub lines_split : (f : ℕ → List (List ℕ)) (i n m : ℕ) → lines_from f i (n + m) ≡ lines_from f i n ++ lines_from f (i + n) m
lines_split f i zero m =
    let none : 0 + m ≡ m = omega arith in
    let here : i ≡ i + 0 = omega arith in
    ap (λ k. lines_from f i k) none ∙ ap (λ k. lines_from f k m) here
lines_split f i (suc n) m =
    let more : suc n + m ≡ suc (n + m) = omega arith in
    let here : i + 1 + n ≡ i + suc n = omega arith in
    ap (λ k. lines_from f i k) more ∙ ap (λ (ls : List (List ℕ)). f i ++ ls) (lines_split f (i + 1) n m)
    ∙ sym (append_assoc (f i) (lines_from f (i + 1) n) (lines_from f (i + 1 + n) m))
    ∙ ap (λ k. lines_from f i (suc n) ++ lines_from f k m) here

-- from the first place on
places_split : (f : ℕ → List (List ℕ)) (n m : ℕ) → lines_from f 0 (n + m) ≡ lines_from f 0 n ++ lines_from f n m
places_split f n m =
    let here : 0 + n ≡ n = omega arith in
    lines_split f 0 n m ∙ ap (λ k. lines_from f 0 n ++ lines_from f k m) here

pub places_more : (f : ℕ → List (List ℕ)) (n : ℕ) {a b c : Shown} → PutsLines (lines_from f 0 n) a b
    → PutsLines (f n) b c → PutsLines (lines_from f 0 (n + 1)) a c
places_more f n {a} {b} {c} p q =
    let lines : lines_from f 0 (n + 1) ≡ lines_from f 0 n ++ f n =
    places_split f n 1 ∙ ap (λ (ls : List (List ℕ)). lines_from f 0 n ++ ls) (append-nil (f n)) in
    subst (λ ls. PutsLines ls a c) (sym lines) (PutsLines-append p q)

pub places_fail : (f : ℕ → List (List ℕ)) (n count : ℕ) {a b c : Shown} → n < count
    → PutsLines (lines_from f 0 n) a b → PutFails (f n) b c → PutFails (lines_from f 0 count) a c
places_fail f n count {a} {c} within p q =
    let more : count ≡ n + suc (count - (n + 1)) = omega (arith, within) in
    let lines : lines_from f 0 count ≡ lines_from f 0 n ++ (f n ++ lines_from f (n + 1) (count - (n + 1))) =
    ap (λ k. lines_from f 0 k) more ∙ places_split f n (suc (count - (n + 1))) in
    subst (λ ls. PutFails ls a c) (sym lines)
    (fails_between (lines_from f (n + 1) (count - (n + 1))) p q)

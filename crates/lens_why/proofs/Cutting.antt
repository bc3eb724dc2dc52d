-- The record, by its number, that cut a way, also that of a frame that is lost.
use Rattle.std.proofs.Common
use Common.{if◌then◌else◌, ◌++◌, ◌+◌, ◌-◌, ◌<◌, ◌==◌, ◌∙◌, ◌∷◌, ◌≡◌, ◌≢◌, ◌≤◌, ◌⊎◌, Bool, List, None, Option, Some, []}
use Common.{ap, append_assoc, arith, false, filter, fold, inl, inr, map, refl, subst, suc, sym, true, zero, ℕ}
use Rattle.std.proofs.lemmas.{Bool.{cases_Bool, eqb-true, le-leb, leb-true}, Option.{same_Some, slice_get-map}}
use Rattle.std.proofs.lemmas.List.{Elements.{All-append, All-cons, All-nil, filter-append, filter_map-append}}
use Rattle.std.proofs.lemmas.List.{Sums.fold_push, append-nil}
use Rattle.std.specs.{List.{cons_option, last_or}}
use Rattle.std.specs.{Prelude.{All, filter_map, nat_le, option_map, slice_get, take, unwrap_or}}
use Rattle.audit_devices.specs.Keeping.{records_before}
use Rattle.audit_sweep.proofs.records_lemmas.Numbered.{from_none}
use Rattle.lens_why.{proofs.LastRecords.{before_number, own_at, parted_there}}
use Rattle.lens_why.specs.{Decisions.{IsCutBefore, is_cut_after}, Records.IsThere, Seeking.{cut_by, cut_told, cut_with}}
use Rattle.lens_why.specs.{declared.ground.Ground.TheVariants.CutBy}
use Rattle.net_plan.specs.declared.{event.Event.Event, ids.LinkId.LinkId, network.Network.Network, tables.Way.Way}
use Rattle.report_text.specs.Ranges.{IsNoteOf}
use Rattle.run_law.proofs.{law.FirstDeliveries.{founded_at, front_founded, in_at, in_filter, number_is}}
use Rattle.run_law.proofs.records.Order.{all_kept, has_passed, makes_none, time_before}
use Rattle.run_law.proofs.{runs.{Lacking.behind_first, NetworkRuns.same_notes}}
use Rattle.run_law.specs.{declared.note.{Note.Note, NoteBody.NoteBody}, runs.{DueRecords.IsDue, Runs.IsFounded}}
use Rattle.run_law.specs.{scenario.{Scenarios.Scenario, Ways.{cut_set, is_cut}}}
use Rattle.run_law.specs.records.{Happenings.{Happening, happenings, numbered, time_of}, Order.{IsBefore, IsIn}}
use Rattle.run_law.specs.records.{Ranks.{key, members_in, place_of, rank}}
use Rattle.tte_audit.specs.Report.{event_by, events_of, scenario_of}
use Rattle.tte_reports.specs.{Places.note_at, Reports.IsReportOf}
use Rattle.tte_units.{proofs.general_lemmas.{Bools.not_both, Lists.{in_all, last_pushed}, Options.mapped}}
use Rattle.tte_units.{specs.{Amount.amount, declared.units.Units.Units}}
use Rattle.run_law.specs.declared.note.NoteBody.TheVariants as notes

-- ---- the record that cut a way

module _ (link : LinkId) (way : Way) where
  abbrev told : Happening → Option Bool
  told h = cut_told link way h.note.body

  -- these records leave the way cut by one of them, of this number
  pub record IsCutBy (hs : List Happening) (since : ℕ) : Type 0 where
    pub front : List Happening
    pub cutting : Happening
    pub between : List Happening
    pub parts : hs ≡ front ++ cutting ∷ between
    pub some : 1 ≤ cutting.note.number
    pub number : since ≡ cutting.note.number
    pub whole : is_cut_after link way front ≡ false
    pub cuts : told cutting ≡ Some true
    pub unhealed : All (λ g. told g ≢ Some false) between

  -- or whole
  abbrev Leaves : List Happening → ℕ → Type 0
  Leaves hs since = ((since ≡ 0) × (is_cut_after link way hs ≡ false)) ⊎ (IsCutBy hs since × (is_cut_after link way hs ≡ true))

  after_one : (hs : List Happening) (g : Happening) (o : Option Bool) → told g ≡ o
      → is_cut_after link way (hs ++ g ∷ []) ≡ unwrap_or (last_or None (filter_map told hs ++ cons_option o [])) false
  after_one hs g o e =
      ap (λ (bs : List Bool). unwrap_or (last_or None bs) false)
      (filter_map-append told hs (g ∷ []) ∙ ap (λ (o : Option Bool). filter_map told hs ++ cons_option o []) e)

  -- one more record that does not heal it leaves it cut so
  grown : (hs : List Happening) (since : ℕ) (g : Happening) → (told g ≡ Some false → ⊥) → IsCutBy hs since → IsCutBy (hs ++ g ∷ []) since
  grown hs since g heals cut = record {
    front = cut.front;
    cutting = cut.cutting;
    between = cut.between ++ g ∷ [];
    parts = ap (λ (gs : List Happening). gs ++ g ∷ []) cut.parts ∙ append_assoc cut.front (cut.cutting ∷ cut.between) (g ∷ []);
    some = cut.some;
    number = cut.number;
    whole = cut.whole;
    cuts = cut.cuts;
    unhealed = All-append (λ x. told x ≢ Some false) cut.between (g ∷ []) cut.unhealed
        (All-cons (λ x. told x ≢ Some false) g [] heals (All-nil (λ x. told x ≢ Some false)));
  }

  stays : (since n : ℕ) → 1 ≤ since → since ≡ (if since == 0 then n else since)
  stays since n some =
      elim (cases_Bool (since == 0)) [
        | inl zero_is ↦ let none = eqb-true since 0 zero_is in absurd (omega (arith, some, none))
        | inr not ↦ sym (ap (λ (b : Bool). if b then n else since) not)
      ]

  -- what a record that says nothing, heals or cuts does
  no_heal : Some true ≡ Some false → ⊥
  no_heal e = cc

  none_heals : None ≡ Some false → ⊥
  none_heals e = cc

  step : (hs : List Happening) (since : ℕ) (g : Happening) (o : Option Bool) → 1 ≤ g.note.number → told g ≡ o → Leaves hs since
      → Leaves (hs ++ g ∷ []) (cut_with since g.note.number o)
  step hs since g None some e so =
      let same : is_cut_after link way (hs ++ g ∷ []) ≡ is_cut_after link way hs = after_one hs g None e
      ∙ ap (λ (bs : List Bool). unwrap_or (last_or None bs) false) (append-nil (filter_map told hs)) in
      elim so [
        | inl whole ↦ inl (whole.0, same ∙ whole.1)
        | inr cut ↦ inr (grown hs since g (λ f. none_heals (sym e ∙ f)) cut.0, same ∙ cut.1)
      ]
  step hs since g (Some false) some e so =
      inl (refl, after_one hs g (Some false) e ∙ ap (λ (o : Option Bool). unwrap_or o false) (last_pushed None (filter_map told hs) false))
  step hs since g (Some true) some e so =
      let cut : is_cut_after link way (hs ++ g ∷ []) ≡ true = after_one hs g (Some true) e
      ∙ ap (λ (o : Option Bool). unwrap_or o false) (last_pushed None (filter_map told hs) true) in
      elim so [
        | inl whole ↦ inr (
          record {
            front = hs;
            cutting = g;
            between = [];
            parts = refl;
            some = some;
            number = ap (λ (n : ℕ). if n == 0 then g.note.number else n) whole.0;
            whole = whole.1;
            cuts = e;
            unhealed = All-nil (λ g. told g ≢ Some false);
          },
          cut,
        )
        | inr was ↦ inr (
          subst (IsCutBy (hs ++ g ∷ [])) (stays since g.note.number (subst (λ n. 1 ≤ n) (sym was.0.number) was.0.some))
              (grown hs since g (λ f. no_heal (sym e ∙ f)) was.0),
          cut,
        )
      ]

  -- so it is behind all
  leaves : (before rest : List Happening) (since : ℕ) → ((g : Happening) → IsIn g rest → 1 ≤ g.note.number) → Leaves before since
      → Leaves (before ++ rest) (fold (λ n g. cut_with n g.note.number (told g)) since rest)
  leaves before [] since some so = subst (λ gs. Leaves gs since) (sym (append-nil before)) so
  leaves before (g ∷ rest) since some so =
      subst (λ (gs : List Happening). Leaves gs (fold (λ n g. cut_with n g.note.number (told g)) (cut_with since g.note.number (told g)) rest))
      (append_assoc before (g ∷ []) rest)
      (leaves (before ++ g ∷ []) rest (cut_with since g.note.number (told g)) (λ x i. some x (inr i))
      (step before since g (told g) (some g (inl refl)) refl so))

  pub cut_or_whole : (before : List Happening) → ((g : Happening) → IsIn g before → 1 ≤ g.note.number) → Leaves before (cut_by link way before)
  cut_or_whole before some = leaves [] before 0 some (inl (refl, refl))

  -- where the way is cut behind them, by one of them
  pub cut_found : (before : List Happening) → ((g : Happening) → IsIn g before → 1 ≤ g.note.number) → is_cut_after link way before ≡ true
      → IsCutBy before (cut_by link way before)
  cut_found before some cut =
      elim (cut_or_whole before some) [ inl whole ↦ absurd (not_both (is_cut_after link way before) cut whole.1) | inr found ↦ found.0 ]

-- ---- the records of a report

-- behind the records of lower numbers than this, the way is cut by this one
pub record IsCutUpTo (link : LinkId) (way : Way) (hs : List Happening) (number at since : ℕ) : Type 0 where
  pub within : at ≤ number
  pub is : since ≡ cut_by link way (take (at - 1) hs)

module _ (network : Network) (octets : List ℕ) (ns : List Note) (end : Units) (of : IsReportOf network octets ns end) (link : LinkId) (way : Way)
    (number : ℕ) (h : Happening) (there : IsThere network ns number h) where
  pub cut_none : IsCutUpTo link way (happenings network ns) number 1 0
  cut_none = record { within = (before_number network octets ns end of number h there).some; is = refl }

  pub cut_more : (at since more : ℕ) → 1 ≤ at → at < number → IsCutUpTo link way (happenings network ns) number at since
      → ((g : Happening) → IsThere network ns at g → more ≡ cut_with since at (cut_told link way g.note.body))
      → IsCutUpTo link way (happenings network ns) number (at + 1) more
  cut_more at since more some less so is =
      let within = (before_number network octets ns end of number h there).within in
      let o = own_at network octets ns end of at some (omega (arith, less, within)) in
      let next : at + 1 - 1 ≡ at = omega arith in
      let front = take (at - 1) (happenings network ns) in
      record {
        within = omega (arith, less);
        is = is o.own o.there
            ∙ ap (λ n. cut_with since n (cut_told link way o.own.note.body)) (sym o.there.own)
            ∙ ap (λ n. cut_with n o.own.note.number (cut_told link way o.own.note.body)) so.is
            ∙ sym (fold_push (λ (n : ℕ) (g : Happening). cut_with n g.note.number (cut_told link way g.note.body)) 0 front o.own)
            ∙ ap (cut_by link way) (sym o.taken)
            ∙ ap (λ (n : ℕ). cut_by link way (take n (happenings network ns))) (sym next);
      }

  pub cut_all : (at since : ℕ) → number ≤ at → IsCutUpTo link way (happenings network ns) number at since
      → since ≡ cut_by link way (records_before (place_of h) (happenings network ns))
  cut_all at since past so =
      let within = so.within in
      let b = before_number network octets ns end of number h there in
      let reached : at ≡ number = omega (arith, past, within) in
      so.is ∙ ap (λ n. cut_by link way (take (n - 1) (happenings network ns))) reached ∙ ap (cut_by link way) (sym b.are)

-- ---- the way of a frame that is lost was cut by a record before it

module _ (link : LinkId) (way : Way) (t : ℕ) where
  abbrev told_losing : Happening → Option Bool
  told_losing h = cut_told link way h.note.body

  abbrev said : Event → Option Bool
  said e = cut_set link way e.what

  abbrev soon : Event → Bool
  soon e = nat_le (amount e.time) t

  -- what the events up to the time say of the way, their records say
  one : (time : Units) (body : NoteBody) (es : List Event) → filter_map said (filter soon (cons_option (event_by time body) es))
      ≡ cons_option (if nat_le (amount time) t then cut_told link way body else None) (filter_map said (filter soon es))
  one time (notes.Event line what) es = by (nat_le (amount time) t) refl
    where
      by : (b : Bool) → nat_le (amount time) t ≡ b → filter_map said (filter soon (record { time = time; what = what } ∷ es))
          ≡ cons_option (if nat_le (amount time) t then cut_set link way what else None) (filter_map said (filter soon es))
      by true e = rw e refl
      by false e = rw e refl
  one time other es = by (nat_le (amount time) t)
    where
      by : (b : Bool) → filter_map said (filter soon es) ≡ cons_option (if b then None else None) (filter_map said (filter soon es))
      by true = refl
      by false = refl

  same_told : (hs : List Happening) → filter_map said (filter soon (events_of (map (λ h. h.note) hs))) ≡ filter_map told_losing (filter (λ h. nat_le (time_of h) t) hs)
  same_told [] = refl
  same_told (h ∷ hs) =
      one h.note.time h.note.body (events_of (map (λ (x : Happening). x.note) hs))
      ∙ ap (cons_option (if nat_le (time_of h) t then told_losing h else None)) (same_told hs)
      ∙ by (nat_le (time_of h) t) refl
    where
      by : (b : Bool) → nat_le (time_of h) t ≡ b → cons_option (if nat_le (time_of h) t then told_losing h else None) (filter_map told_losing (filter (λ x. nat_le
          (time_of x) t) hs))
          ≡ filter_map told_losing (filter (λ x. nat_le (time_of x) t) (h ∷ hs))
      by true e = rw e refl
      by false e = rw e refl

-- a record of another kind says nothing of a way
says_none : (link : LinkId) (way : Way) (body : NoteBody) → (rank body ≡ 1 → ⊥) → cut_told link way body ≡ None
says_none link way (notes.Event line what) other = absurd (other refl)
says_none link way body other = refl

-- the records before one have numbers
pub some_number : {network : Network} {octets : List ℕ} {ns : List Note} {end : Units}
    (of : IsReportOf network octets ns end) (number : ℕ) (h : Happening)
    (there : numbered (happenings network ns) number ≡ Some h) (g : Happening)
    → IsIn g (parted_there of number h there).before → 1 ≤ g.note.number
some_number {network} {ns} of number h there g i =
    let p = parted_there of number h there in
    let founded = subst (IsFounded place_of (IsDue (scenario_of network ns))) p.parts of.run.founded in
    let at = founded_at (scenario_of network ns) p.before g (front_founded place_of (IsDue (scenario_of network ns)) p.before (h ∷ p.later) founded) i in
    omega (arith, at.due.number)

module _ (network : Network) (octets : List ℕ) (ns : List Note) (end : Units) (of : IsReportOf network octets ns end) (number : ℕ) (h : Happening)
    (there : numbered (happenings network ns) number ≡ Some h) (link : LinkId) (way : Way) (late : 1 < rank h.note.body) where
  abbrev own : Scenario
  own = scenario_of network ns

  abbrev all : List Happening
  all = happenings network ns

  abbrev before : List Happening
  before = (parted_there of number h there).before

  abbrev later : List Happening
  later = (parted_there of number h there).later

  parts : all ≡ before ++ h ∷ later
  parts = (parted_there of number h there).parts

  none_later : (g : Happening) → IsIn g before → nat_le (time_of g) (time_of h) ≡ true
  none_later g i =
      le-leb (time_of g) (time_of h)
      (time_before (time_of g) (time_of h) (rank g.note.body ∷ key (members_in g) g.note.body) (rank h.note.body ∷ key (members_in h) h.note.body)
      ((of.run.founded before later h parts).0 g i))

  -- at one time what stands behind is of no lower rank
  ranked : (g : Happening) → IsBefore (place_of h) (place_of g) → time_of g ≤ time_of h → rank h.note.body ≤ rank g.note.body
  ranked g (inl lt) le = absurd (omega (arith, lt, le))
  ranked g (inr both) le =
      time_before (rank h.note.body) (rank g.note.body) (key (members_in h) h.note.body) (key (members_in g) g.note.body) both.1

  quiet : (g : Happening) → IsIn g (filter (λ x. nat_le (time_of x) (time_of h)) (h ∷ later)) → cut_told link way g.note.body ≡ None
  quiet g i =
      let soon = leb-true (time_of g) (time_of h) (has_passed (λ x. nat_le (time_of x) (time_of h)) (h ∷ later) g i) in
      by (in_filter (λ x. nat_le (time_of x) (time_of h)) (h ∷ later) g i) soon
    where
      by : IsIn g (h ∷ later) → time_of g ≤ time_of h → cut_told link way g.note.body ≡ None
      by (inl same) le =
          says_none link way g.note.body (λ e. let one = ap (λ (x : Happening). rank x.note.body) same in omega (arith, e, one, late))
      by (inr more) le =
          let ahead = behind_first place_of (IsDue own) before later h g (subst (IsFounded place_of (IsDue own)) parts of.run.founded) more in
          let low = ranked g ahead le in
          says_none link way g.note.body (λ e. omega (arith, e, low, late))

  -- the way is cut where the records before say so last
  pub cut_is : is_cut own link way (time_of h) ≡ is_cut_after link way before
  cut_is =
      let t = time_of h in
      let test : Happening → Bool = λ x. nat_le (time_of x) t in
      let told_losing : Happening → Option Bool = λ x. cut_told link way x.note.body in
      ap (λ (bs : List Bool). unwrap_or (last_or None bs) false)
      (ap (λ (xs : List Note). filter_map (λ e. cut_set link way e.what) (filter (λ e. nat_le (amount e.time) t) (events_of xs))) (sym (same_notes network ns))
      ∙ same_told link way t all
      ∙ ap (λ hs. filter_map told_losing (filter test hs)) parts
      ∙ ap (filter_map told_losing) (filter-append test before (h ∷ later))
      ∙ filter_map-append told_losing (filter test before) (filter test (h ∷ later))
      ∙ ap (λ (bs : List Bool). filter_map told_losing (filter test before) ++ bs) (makes_none told_losing (filter test (h ∷ later)) quiet)
      ∙ append-nil (filter_map told_losing (filter test before))
      ∙ ap (filter_map told_losing) (all_kept test before none_later))

  -- and so one of them cut it, where it is cut
  pub cut_before : is_cut own link way (time_of h) ≡ true → IsCutBefore all h link way (CutBy (cut_by link way (records_before (place_of h) all)))
  cut_before cut =
      let found = cut_found link way before (some_number of number h there) (sym cut_is ∙ cut) in
      let are = (parted_there of number h there).are in
      record {
        cutting = found.cutting;
        before = found.front;
        between = found.between;
        later = later;
        parts = parts ∙ ap (λ (hs : List Happening). hs ++ h ∷ later) found.parts ∙ append_assoc found.front (found.cutting ∷ found.between) (h ∷ later);
        is = ap (λ hs. CutBy (cut_by link way hs)) are ∙ ap CutBy found.number;
        whole = found.whole;
        cuts = found.cuts;
        unhealed = found.unhealed;
      }

-- ---- records of a report by their numbers

-- a record of a number with its frame is that record
pub note_numbered : (network : Network) (notes : List Note) (n : ℕ)
    → option_map (λ (h : Happening). h.note) (numbered (happenings network notes) n) ≡ note_at notes n
note_numbered network notes zero = refl
note_numbered network notes (suc k) =
    sym (slice_get-map (λ (h : Happening). h.note) (happenings network notes) k) ∙ ap (λ (ns : List Note). slice_get ns k) (same_notes network notes)

-- the record with its frame
pub happening_at : (network : Network) (notes : List Note) (n : ℕ) (note : Note) → note_at notes n ≡ Some note
    → (h : Happening) × (numbered (happenings network notes) n ≡ Some h) × (h.note ≡ note)
happening_at network notes n note there = mapped (λ (h : Happening). h.note) (numbered (happenings network notes) n) note (note_numbered network notes n
    ∙ there)

-- it is one of them
pub note_in : (notes : List Note) (n : ℕ) (note : Note) → note_at notes n ≡ Some note → IsIn note notes
note_in notes zero note there = absurd cc
note_in notes (suc k) note there = in_at notes k note there

-- where there is no record there is none with its frame
pub none_there : (network : Network) (notes : List Note) (n : ℕ) → note_at notes n ≡ None → numbered (happenings network notes) n ≡ None
none_there network notes n none = from_none (λ (h : Happening). h.note) (numbered (happenings network notes) n) (note_numbered network notes n ∙ none)

module _ {network : Network} {octets : List ℕ} {notes : List Note} {end : Units}
    (of : IsReportOf network octets notes end) where
  -- each record of a report is due given those before it
  pub founded_of : IsFounded place_of (IsDue (scenario_of network notes)) (happenings network notes)
  founded_of = of.run.founded

  -- a record of a report has its number
  pub number_of : (n : ℕ) (note : Note) → note_at notes n ≡ Some note → note.number ≡ n
  number_of n note there =
      let h = happening_at network notes n note there in
      ap (λ (x : Note). x.number) (sym h.2)
      ∙ number_is (scenario_of network notes) (happenings network notes) n h.0 (founded_of) h.1

  -- and is one of the network
  pub note_of : (n : ℕ) (note : Note) → note_at notes n ≡ Some note → IsNoteOf network note
  note_of zero note there = absurd cc
  note_of (suc k) note there = in_all (IsNoteOf network) notes k note of.events.text.records.of_network there

-- what was read by the number of a record is that record
pub note_there : (network : Network) (notes : List Note) (n : ℕ) (note : Note) (h : Happening) → Some note ≡ note_at notes n
    → numbered (happenings network notes) n ≡ Some h → h.note ≡ note
note_there network notes n note h is there =
    let same : Some h.note ≡ Some note =
    sym (ap (option_map (λ (g : Happening). g.note)) there) ∙ note_numbered network notes n ∙ sym is in
    same_Some h.note note same

-- and something was read
pub never_none : (network : Network) (notes : List Note) (n : ℕ) (h : Happening) → None ≡ note_at notes n → numbered (happenings network notes) n ≡ Some h → ⊥
never_none network notes n h none there = let nothing = none_there network notes n (sym none) in absurd cc

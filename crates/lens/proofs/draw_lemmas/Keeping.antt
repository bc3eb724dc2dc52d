-- Which records of a report, in order of time, a picture of one thing or of one part keeps.
use Rattle.std.proofs.Common
use Common.{if◌then◌else◌, ◌++◌, ◌+◌, ◌-◌, ◌<◌, ◌==◌, ◌∙◌, ◌∷◌, ◌≡◌, ◌≤◌, ◌⊎◌, Bool, List, Option, Some, [], ap}
use Common.{append_assoc, arith, false, inl, inr, length, length-append, refl, subst, suc, sym, true, zero, ℕ}
use Rattle.std.proofs.lemmas.{Bool.{Decides.nat_tests, eq-eqb, eqb-true, false≢true}}
use Rattle.std.proofs.lemmas.{List.{get_or-set_other, get_or-set_same, length-set}}
use Rattle.std.proofs.lemmas.{Option.{slice_get-map, unwrap_or-slice_get}}
use Rattle.std.specs.{Option.option_map_or}
use Rattle.std.specs.{Prelude.{◌||◌, fold, map, nat_lt, option_map, slice_get, slice_set, take, unwrap_or}}
use Rattle.audit_law.{proofs.law_lemmas.Founded.in_time, specs.law.Linked.HasCause}
use Rattle.run_law.proofs.records.Order.{as_many, none_numbered}
use Rattle.lens.{proofs.draw_lemmas.Reading.titles_are}
use Rattle.lens.specs.{declared.draw.subject.Subject.{Subject, TheVariants.{Frames, Lane}}}
use Rattle.lens.specs.draw.{Laws.{PicturesShowRuns, ShowsRun}}
use Rattle.lens.specs.draw.Keeping
use Keeping.{AreFlags, AreOwn, HasSending, IsKept, IsOf, IsSending, Tells, cause_at, glance_at, is_sending, own_flag}
use Keeping.{passed_on, with_flag}
use Rattle.lens_latency.proofs.Departures.{report_linked}
use Rattle.lens_svg.{proofs.{Hues.marks_have_hues, Order.keeps_order, Painting.{arrows_are_causes, lanes_are_states}}}
use Rattle.lens_svg.specs.{Bodies.seat_of, Laws.{NeverFall, NumbersFollow, grounds_after, painted_with, shown, told}}
use Rattle.lens_svg.specs.{Sketching.{glance_of, is_drawn, plan_of, with_at}, Views.{View, flag_at}}
use Rattle.lens_svg.specs.{declared.glance.Glance.Glance}
use Rattle.lens_why.proofs.{Comings.comes_from_earlier, Cutting.{founded_of, note_numbered}}
use Rattle.net_plan.specs.declared.{ids.VlId.VlId, network.Network.Network}
use Rattle.run_law.proofs.{law.FirstDeliveries.{by_number, number_is, numbered_front, numbered_in, numbered_within}}
use Rattle.run_law.proofs.{runs.{NetworkRuns.{one_more, same_notes}, Places.in_right}}
use Rattle.run_law.specs.{declared.note.{Note.Note, NoteBody.NoteBody}, runs.{DueRecords.IsDue, Runs.IsFounded}}
use Rattle.run_law.specs.{scenario.Scenarios.Scenario}
use Rattle.run_law.specs.records.{Causes.{IsChain, cause_of, last_from}}
use Rattle.run_law.specs.records.{Happenings.{Happening, happening, happenings, numbered, time_of}, Order.IsIn}
use Rattle.run_law.specs.records.{Ranks.place_of}
use Rattle.tte_audit.{proofs.ReportText.happening_there, specs.{Named.IsNamed, Report.{AreNumbered, scenario_of}}}
use Rattle.tte_reports.specs.{Folding.IsNextOf, Places.note_at, Reports.IsReportOf}
use Rattle.tte_units.{proofs.general_lemmas.Options.some_same, specs.declared.units.Units.Units}
use Rattle.run_law.specs.declared.note.NoteBody.TheVariants as notes

-- ---- the times of the records of a report never fall

-- the time is that of a record among these, or the first one
abbrev IsTimeOf : ℕ → List Happening → Type 0
IsTimeOf time hs = (time ≡ 0) ⊎ ((h : Happening) × IsIn h hs × (time_of h ≡ time))

module _ (s : Scenario) (all : List Happening) (founded : IsFounded place_of (IsDue s) all) where
  least : (front rest : List Happening) (x : Happening) (time : ℕ) → all ≡ front ++ x ∷ rest → IsTimeOf time front → time ≤ time_of x
  least front rest x time whole (inl none) = omega (arith, none)
  least front rest x time whole (inr of) =
      let before = in_time of.0 x ((founded front rest x whole).0 of.0 of.1) in
      let same = of.2 in
      omega (arith, before, same)

  falls_from : (front rest : List Happening) (time : ℕ) → all ≡ front ++ rest → IsTimeOf time front → NeverFall time (map (λ h. h.note) rest)
  falls_from front [] time whole of = tt
  falls_from front (x ∷ rest) time whole of = (
    least front rest x time whole of,
    falls_from (front ++ x ∷ []) rest (time_of x) (whole ∙ sym (append_assoc front (x ∷ []) rest))
        (inr (x, in_right x front (x ∷ []) (inl refl), refl)),
  )

pub never_fall : {network : Network} {octets : List ℕ} {notes : List Note} {end : Units}
    → IsReportOf network octets notes end → NeverFall 0 notes
never_fall {network} {notes} of =
    subst (NeverFall 0) (same_notes network notes)
    (falls_from (scenario_of network notes) (happenings network notes) of.run.founded [] (happenings network notes) 0 refl (inl refl))

-- ---- which records a picture of one thing keeps: where a frame is sent

sends_by : (vl : VlId) (body : NoteBody) → is_sending vl body ≡ true → IsSending vl body
sends_by vl (notes.TtSent device link cause of cycle) e = eqb-true of.0 vl.0 e
sends_by vl other e = absurd (false≢true e)

sends_told : (vl : VlId) (body : NoteBody) → IsSending vl body → is_sending vl body ≡ true
sends_told vl (notes.TtSent device link cause of cycle) is = eq-eqb of.0 vl.0 is
sends_told vl other is = absurd is

none_at_zero : (hs : List Happening) (n : ℕ) (h : Happening) → n ≡ 0 → numbered hs n ≡ Some h → ⊥
none_at_zero hs zero h e there = cc
none_at_zero hs (suc n) h e there = cc

module _ (hs : List Happening) (vl : VlId) where
  -- what sends no frame of it goes back to where one is sent by its cause
  by_cause : (h first : Happening) (causes : List Happening) → (IsSending vl h.note.body → ⊥) → IsChain hs h causes → first ≡ last_from h causes
      → IsSending vl first.note.body → (g : Happening) × (numbered hs (cause_of h.note.body) ≡ Some g) × HasSending hs g vl
  by_cause h first [] not chain begins sends = absurd (not (subst (λ (x : Happening). IsSending vl x.note.body) begins sends))
  by_cause h first (g ∷ causes) not chain begins sends =
      (g, chain.0, record { first = first; back = record { causes = causes; chain = chain.1; begins = begins }; sends = sends })

  has_none : (h : Happening) → (IsSending vl h.note.body → ⊥) → cause_of h.note.body ≡ 0 → HasSending hs h vl → ⊥
  has_none h not none has =
      let by = by_cause h has.first has.back.causes not has.back.chain has.back.begins has.sends in
      none_at_zero hs (cause_of h.note.body) by.0 none by.1

  has_by : (h g : Happening) → (IsSending vl h.note.body → ⊥) → numbered hs (cause_of h.note.body) ≡ Some g → HasSending hs h vl → HasSending hs g vl
  has_by h g not there has =
      let by = by_cause h has.first has.back.causes not has.back.chain has.back.begins has.sends in
      let same : by.0 ≡ g = some_same by.0 g (numbered hs (cause_of h.note.body)) by.1 there in
      subst (λ x. HasSending hs x vl) same by.2

  has_back : (h g : Happening) → numbered hs (cause_of h.note.body) ≡ Some g → HasSending hs g vl → HasSending hs h vl
  has_back h g there has = record {
    first = has.first;
    back = record { causes = g ∷ has.back.causes; chain = (there, has.back.chain); begins = has.back.begins };
    sends = has.sends;
  }

  has_here : (h : Happening) → IsSending vl h.note.body → HasSending hs h vl
  has_here h sends = record { first = h; back = record { causes = []; chain = tt; begins = refl }; sends = sends }

-- ---- the flags of those of the thing

-- what a flag tells of the records so far, one tells of the next one too
at_more : (P : Happening → Bool → Type 0) (hs : List Happening) (flags : List Bool) (h : Happening) (flag : Bool) → length flags ≡ length hs
    → ((i : ℕ) (g : Happening) → slice_get hs i ≡ Some g → P g (unwrap_or (slice_get flags i) false)) → P h flag
    → (i : ℕ) (g : Happening) → slice_get (hs ++ h ∷ []) i ≡ Some g → P g (unwrap_or (slice_get (flags ++ flag ∷ []) i) false)
at_more P [] [] h flag count all is zero g e = let same : h ≡ g = cc in subst (λ (x : Happening). P x flag) same is
at_more P [] [] h flag count all is (suc i) g e = absurd cc
at_more P [] (k ∷ flags) h flag count all is i g e = absurd (omega (arith, count))
at_more P (x ∷ hs) [] h flag count all is i g e = absurd (omega (arith, count))
at_more P (x ∷ hs) (k ∷ flags) h flag count all is zero g e = all zero g e
at_more P (x ∷ hs) (k ∷ flags) h flag count all is (suc i) g e =
    at_more P hs flags h flag (omega (arith, count)) (λ j f there. all (suc j) f there) is i g e

flag_more : (P : Happening → Bool → Type 0) (hs : List Happening) (flags : List Bool) (h : Happening) (flag : Bool) → length flags ≡ length hs
    → ((n : ℕ) (g : Happening) → numbered hs n ≡ Some g → P g (flag_at flags n)) → P h flag
    → (n : ℕ) (g : Happening) → numbered (hs ++ h ∷ []) n ≡ Some g → P g (flag_at (flags ++ flag ∷ []) n)
flag_more P hs flags h flag count all is zero g e = absurd cc
flag_more P hs flags h flag count all is (suc i) g e = at_more P hs flags h flag count (λ j f there. all (suc j) f there) is i g e

-- the flag of the next record, by those of the ones before it
module _ (network : Network) (hs earlier gs : List Happening) (h : Happening) (flags : List Bool) (whole : hs ≡ earlier ++ h ∷ gs) where
  abbrev cause : ℕ
  cause = cause_of h.note.body

  given_there : (g : Happening) → numbered earlier cause ≡ Some g → numbered hs cause ≡ Some g
  given_there g there = subst (λ xs. numbered xs cause ≡ Some g) (sym whole) (numbered_front earlier (h ∷ gs) cause g there)

  next_sent : (vl : VlId) → HasCause earlier h
      → ((n : ℕ) (g : Happening) → numbered earlier n ≡ Some g → Tells (flag_at flags n) (HasSending hs g vl)) → (b : Bool)
      → is_sending vl h.note.body ≡ b → Tells (is_sending vl h.note.body || flag_at flags cause) (HasSending hs h vl)
  next_sent vl caused all true e = record {
    holds = λ flag. has_here hs vl h (sends_by vl h.note.body e);
    told = λ has. ap (λ (b : Bool). b || flag_at flags cause) e;
  }
  next_sent vl caused all false e =
      let same : (is_sending vl h.note.body || flag_at flags cause) ≡ flag_at flags cause = ap (λ (b : Bool). b || flag_at flags cause) e in
      let not : IsSending vl h.note.body → ⊥ = λ sends. false≢true (sym e ∙ sends_told vl h.note.body sends) in
      elim caused [
        | inl none ↦ record {
          holds = λ flag. absurd (false≢true (sym (same ∙ ap (flag_at flags) none) ∙ flag));
          told = λ has. absurd (has_none hs vl h not none has);
        }
        | inr given ↦
            let there = given_there given.0 given.1 in
            let tells = all cause given.0 given.1 in record {
              holds = λ flag. has_back hs vl h given.0 there (tells.holds (sym same ∙ flag));
              told = λ has. same ∙ tells.told (has_by hs vl h given.0 not there has);
            }
      ]

  next_own : (subject : Subject) → HasCause earlier h
      → ((n : ℕ) (g : Happening) → numbered earlier n ≡ Some g → Tells (flag_at flags n) (IsOf network subject hs g))
      → Tells (own_flag network subject flags h.note.body) (IsOf network subject hs h)
  next_own (Frames vl) caused all = next_sent vl caused all (is_sending vl h.note.body) refl
  next_own (Lane device) caused all = record {
    holds = λ flag. eqb-true (seat_of network h.note.body) (device.0 + 1) flag;
    told = λ is. eq-eqb (seat_of network h.note.body) (device.0 + 1) is;
  }

pub own_none : (network : Network) (subject : Subject) (ns : List Note) (flags : List Bool) → flags ≡ [] → AreOwn network subject ns [] flags
own_none network subject ns flags none = record { count = ap length none; each = λ n h there. absurd (none_numbered n h there) }

pub own_more : {network : Network} {subject : Subject} {octets : List ℕ} {ns before : List Note} {note : Note}
    {flags : List Bool} → IsNamed network → IsNextOf network octets ns before note
    → AreOwn network subject ns before flags → AreOwn network subject ns (before ++ note ∷ [])
    (flags ++ own_flag network subject flags note.body ∷ [])
own_more {network} {subject} {octets} {ns} {before} {note} {flags} named next so =
    let hs = happenings network ns in
    let earlier = happenings network before in
    let h = happening network earlier note in
    let flag = own_flag network subject flags note.body in
    let whole = happening_there network ns before next.rest note next.parts in
    let linked = report_linked named next.report earlier whole.0 h whole.1 in
    let tells = next_own network hs earlier whole.0 h flags whole.1 subject linked so.each in
    let many = as_many network before in
    let so_many = so.count in
    let count = length-append flags (flag ∷ []) in
    let longer = length-append before (note ∷ []) in
    record {
      count = omega (arith, so_many, count, longer);
      each = subst (λ xs. (n : ℕ) (g : Happening) → numbered xs n ≡ Some g
          → Tells (flag_at (flags ++ flag ∷ []) n) (IsOf network subject hs g)) (sym (one_more network before note))
          (flag_more (λ g b. Tells b (IsOf network subject hs g)) earlier flags h flag (omega (arith, many, so_many)) so.each tells);
    }

-- ---- one more flag

pub with_long : (flags : List Bool) (number : ℕ) → length (with_flag flags number) ≡ length flags
with_long flags zero = refl
with_long flags (suc i) = by (nat_lt i (length flags)) refl
  where
    by : (b : Bool) → nat_lt i (length flags) ≡ b → length (with_at flags i true) ≡ length flags
    by true e = ap (λ (c : Bool). length (if c then slice_set flags i true else flags)) e ∙ length-set flags i true
    by false e = ap (λ (c : Bool). length (if c then slice_set flags i true else flags)) e

pub with_same : (flags : List Bool) (i : ℕ) → i < length flags → unwrap_or (slice_get (with_at flags i true) i) false ≡ true
with_same flags i within =
    let test : nat_lt i (length flags) ≡ true = grind (arith, nat_tests, within) in
    ap (λ (b : Bool). unwrap_or (slice_get (if b then slice_set flags i true else flags) i) false) test
    ∙ unwrap_or-slice_get (slice_set flags i true) i false
    ∙ get_or-set_same flags i true false within

pub with_other : (flags : List Bool) (i k : ℕ) → (k ≡ i → ⊥)
    → unwrap_or (slice_get (with_at flags i true) k) false ≡ unwrap_or (slice_get flags k) false
with_other flags i k apart = by (nat_lt i (length flags)) refl
  where
    by : (b : Bool) → nat_lt i (length flags) ≡ b → unwrap_or (slice_get (with_at flags i true) k) false ≡ unwrap_or (slice_get flags k) false
    by true e =
        ap (λ (c : Bool). unwrap_or (slice_get (if c then slice_set flags i true else flags) k) false) e
        ∙ unwrap_or-slice_get (slice_set flags i true) k false
        ∙ get_or-set_other flags i k true false apart
        ∙ sym (unwrap_or-slice_get flags k false)
    by false e = ap (λ (c : Bool). unwrap_or (slice_get (if c then slice_set flags i true else flags) k) false) e

-- another record's flag is what it was
pub flag_other : (flags : List Bool) (number k : ℕ) → (k ≡ number → ⊥) → flag_at (with_flag flags number) k ≡ flag_at flags k
flag_other flags number zero apart = refl
flag_other flags zero (suc j) apart = refl
flag_other flags (suc i) (suc j) apart = with_other flags i j (λ same. apart (ap suc same))

-- the flag that is set is
set_here : (flags : List Bool) (number : ℕ) → 1 ≤ number → number ≤ length flags → flag_at (with_flag flags number) number ≡ true
set_here flags zero some within = absurd (omega (arith, some))
set_here flags (suc i) some within = with_same flags i (omega (arith, within))

-- those that were set stay
pub set_still : (flags : List Bool) (number k : ℕ) → flag_at flags k ≡ true → flag_at (with_flag flags number) k ≡ true
set_still flags number zero set = absurd (false≢true set)
set_still flags zero (suc j) set = set
set_still flags (suc i) (suc j) set = by (j == i) refl
  where
    short : (xs : List Bool) (n : ℕ) → unwrap_or (slice_get xs n) false ≡ true → n < length xs
    short [] n e = absurd (false≢true e)
    short (x ∷ xs) zero e = omega arith
    short (x ∷ xs) (suc n) e = let rest = short xs n e in omega (arith, rest)

    by : (b : Bool) → (j == i) ≡ b → unwrap_or (slice_get (with_at flags i true) j) false ≡ true
    by true e =
        let same : j ≡ i = eqb-true j i e in
        subst (λ (n : ℕ). unwrap_or (slice_get (with_at flags i true) n) false ≡ true) (sym same)
        (with_same flags i (subst (λ n. n < length flags) same (short flags j set)))
    by false e = with_other flags i j (λ same. let test = eq-eqb j i same in absurd cc) ∙ set

-- and no others
set_only : (flags : List Bool) (number k : ℕ) → flag_at (with_flag flags number) k ≡ true → (flag_at flags k ≡ true) ⊎ (k ≡ number)
set_only flags number zero set = absurd (false≢true set)
set_only flags zero (suc j) set = inl set
set_only flags (suc i) (suc j) set = by (j == i) refl
  where
    by : (b : Bool) → (j == i) ≡ b → (flag_at flags (suc j) ≡ true) ⊎ (suc j ≡ suc i)
    by true e = inr (ap suc (eqb-true j i e))
    by false e = inl (sym (with_other flags i j (λ same. let test = eq-eqb j i same in absurd cc)) ∙ set)

-- a record that has a flag is there
there_by : (hs : List Happening) (flags : List Bool) (number : ℕ) → length flags ≡ length hs → flag_at flags number ≡ true
    → (h : Happening) × (numbered hs number ≡ Some h)
there_by hs flags zero count set = absurd (false≢true set)
there_by hs flags (suc i) count set = at hs flags i count set
  where
    at : (xs : List Happening) (bs : List Bool) (n : ℕ) → length bs ≡ length xs → unwrap_or (slice_get bs n) false ≡ true
        → (h : Happening) × (slice_get xs n ≡ Some h)
    at xs [] n same e = absurd (false≢true e)
    at [] (b ∷ bs) n same e = absurd (omega (arith, same))
    at (x ∷ xs) (b ∷ bs) zero same e = (x, refl)
    at (x ∷ xs) (b ∷ bs) (suc n) same e = at xs bs n (omega (arith, same)) e

-- ---- from the last record to the first

-- what was taken of a record, by its number
pub seen_at : (network : Network) (ns : List Note) (n : ℕ) → glance_at (map (glance_of network) ns) n ≡ option_map (glance_of network) (note_at ns n)
seen_at network ns zero = refl
seen_at network ns (suc k) = slice_get-map (glance_of network) ns k

-- the flags of those of the thing, and of the causes of those behind this number
pub record IsSpread (network : Network) (subject : Subject) (ns : List Note) (number : ℕ) (flags : List Bool) : Type 0 where
  pub count : length flags ≡ length (happenings network ns)
  pub own : (n : ℕ) (h : Happening) → numbered (happenings network ns) n ≡ Some h → IsOf network subject (happenings network ns) h
      → flag_at flags n ≡ true
  pub kept : (n : ℕ) (h : Happening) → numbered (happenings network ns) n ≡ Some h → flag_at flags n ≡ true
      → IsKept network subject (happenings network ns) h
  pub closed : (n : ℕ) (h g : Happening) → number < n → numbered (happenings network ns) n ≡ Some h → flag_at flags n ≡ true
      → numbered (happenings network ns) (cause_of h.note.body) ≡ Some g → flag_at flags (cause_of h.note.body) ≡ true

-- the causes of what is kept are kept
chain_more : (hs : List Happening) (h g : Happening) (causes : List Happening) → IsChain hs h causes
    → numbered hs (cause_of (last_from h causes).note.body) ≡ Some g → IsChain hs h (causes ++ g ∷ [])
chain_more hs h g [] chain there = (there, tt)
chain_more hs h g (c ∷ causes) chain there = (chain.0, chain_more hs c g causes chain.1 there)

last_more : (h g : Happening) (causes : List Happening) → g ≡ last_from h (causes ++ g ∷ [])
last_more h g [] = refl
last_more h g (c ∷ causes) = last_more c g causes

kept_back : {network : Network} {subject : Subject} {hs : List Happening} {h : Happening} (g : Happening)
    → IsKept network subject hs h → numbered hs (cause_of h.note.body) ≡ Some g → IsKept network subject hs g
kept_back {hs} g kept there =
    let at : numbered hs (cause_of (last_from kept.later kept.back.causes).note.body) ≡ Some g =
    subst (λ (x : Happening). numbered hs (cause_of x.note.body) ≡ Some g) kept.back.begins there in record {
      later = kept.later;
      there = kept.there;
      of = kept.of;
      back = record {
        causes = kept.back.causes ++ g ∷ [];
        chain = chain_more hs kept.later g kept.back.causes kept.back.chain at;
        begins = last_more kept.later g kept.back.causes;
      };
    }

module _ (network : Network) (subject : Subject) (octets : List ℕ) (ns : List Note) (end : Units) (of : IsReportOf network octets ns end) where
  abbrev hs : List Happening
  hs = happenings network ns

  founded : IsFounded place_of (IsDue (scenario_of network ns)) hs
  founded = founded_of of

  pub spread_first : (flags : List Bool) → AreOwn network subject ns ns flags → IsSpread network subject ns (length ns) flags
  spread_first flags so =
      let many = as_many network ns in
      let so_many = so.count in record {
        count = omega (arith, many, so_many);
        own = λ n h there is. (so.each n h there).told is;
        kept = λ n h there set. record {
          later = h;
          there = numbered_in hs n h there;
          of = (so.each n h there).holds set;
          back = record { causes = []; chain = tt; begins = refl };
        };
        closed = λ n h g past there set given. let within = numbered_within hs n h there in absurd (omega (arith, past, within, many));
      }

  module _ (number : ℕ) (flags : List Bool) (some : 1 ≤ number) (h : IsSpread network subject ns number flags) where
    -- nothing is passed on
    closed_still : flag_at flags number ≡ false → (n : ℕ) (k g : Happening) → number - 1 < n → numbered hs n ≡ Some k → flag_at flags n ≡ true
        → numbered hs (cause_of k.note.body) ≡ Some g → flag_at flags (cause_of k.note.body) ≡ true
    closed_still unset n k g past there set given = by (n == number) refl
      where
        by : (b : Bool) → (n == number) ≡ b → flag_at flags (cause_of k.note.body) ≡ true
        by true e = absurd (false≢true (sym unset ∙ ap (flag_at flags) (sym (eqb-true n number e)) ∙ set))
        by false e = h.closed n k g (grind (arith, nat_tests, e, past, some)) there set given

    -- the cause is passed on of the record that has this number
    module _ (set : flag_at flags number ≡ true) (giving : Happening) (at : numbered hs number ≡ Some giving) where
      abbrev its_cause : ℕ
      its_cause = cause_of giving.note.body

      abbrev more : List Bool
      more = with_flag flags its_cause

      kept_more : (n : ℕ) (k : Happening) → numbered hs n ≡ Some k → flag_at more n ≡ true → IsKept network subject hs k
      kept_more n k there now = by (set_only flags its_cause n now)
        where
          by : (flag_at flags n ≡ true) ⊎ (n ≡ its_cause) → IsKept network subject hs k
          by (inl was) = h.kept n k there was
          by (inr same) =
              kept_back k (h.kept number giving at set) (subst (λ m. numbered hs m ≡ Some k) same there)

      closed_more : (n : ℕ) (k g : Happening) → number - 1 < n → numbered hs n ≡ Some k → flag_at more n ≡ true
          → numbered hs (cause_of k.note.body) ≡ Some g → flag_at more (cause_of k.note.body) ≡ true
      closed_more n k g past there now given = by (n == number) refl
        where
          -- a cause is before what it causes
          before : (n ≡ its_cause) → number < n → ⊥
          before same later =
              elim (comes_from_earlier (scenario_of network ns) hs founded number giving at) [
                | inl none ↦ none_at_zero hs n k (same ∙ none) there
                | inr earlier ↦ let less = earlier.2 in omega (arith, less, same, later)
              ]

          here : (m : ℕ) → numbered hs m ≡ Some g → m ≡ its_cause → flag_at more m ≡ true
          here m found same =
              let within = numbered_within hs m g found in
              let many = h.count in
              subst (λ i. flag_at more i ≡ true) (sym same) (set_here flags its_cause (positive its_cause (subst (λ i. numbered hs i ≡ Some g) same found))
              (omega (arith, within, many, same)))
            where
              positive : (i : ℕ) → numbered hs i ≡ Some g → 1 ≤ i
              positive zero e = absurd cc
              positive (suc i) e = omega arith

          by : (b : Bool) → (n == number) ≡ b → flag_at more (cause_of k.note.body) ≡ true
          by true e =
              let same : n ≡ number = eqb-true n number e in
              let one : k ≡ giving = some_same k giving (numbered hs number) (subst (λ m. numbered hs m ≡ Some k) same there) at in
              here (cause_of k.note.body) given (ap (λ (x : Happening). cause_of x.note.body) one)
          by false e = behind (grind (arith, nat_tests, e, past, some)) (set_only flags its_cause n now)
            where
              behind : number < n → (flag_at flags n ≡ true) ⊎ (n ≡ its_cause) → flag_at more (cause_of k.note.body) ≡ true
              behind later (inl was) = set_still flags its_cause (cause_of k.note.body) (h.closed n k g later there was given)
              behind later (inr same) = absurd (before same later)

      spread_set : IsSpread network subject ns (number - 1) more
      spread_set =
          let long = with_long flags its_cause in
          let many = h.count in record {
            count = omega (arith, long, many);
            own = λ n k there is. set_still flags its_cause n (h.own n k there is);
            kept = kept_more;
            closed = closed_more;
          }

    spread_by : (b : Bool) → flag_at flags number ≡ b
        → IsSpread network subject ns (number - 1) (if b then with_flag flags (cause_at (map (glance_of network) ns) number) else flags)
    spread_by false e = record { count = h.count; own = h.own; kept = h.kept; closed = closed_still e }
    spread_by true e =
        let at = there_by hs flags number h.count e in
        let cause : cause_at (map (glance_of network) ns) number ≡ cause_of at.0.note.body =
        ap (λ (o : Option Glance). option_map_or (λ (glance : Glance). glance.cause) o 0)
        (seen_at network ns number ∙ ap (option_map (glance_of network)) (sym (note_numbered network ns number) ∙ ap (option_map (λ (k : Happening). k.note)) at.1)) in
        subst (λ n. IsSpread network subject ns (number - 1) (with_flag flags n)) (sym cause) (spread_set e at.0 at.1)

    pub spread_next : IsSpread network subject ns (number - 1) (passed_on (map (glance_of network) ns) number flags)
    spread_next = spread_by (flag_at flags number) refl

  module _ (flags : List Bool) (h : IsSpread network subject ns 0 flags) where
    -- each cause of a record that has a flag has one
    along : (later : Happening) (m : ℕ) (causes : List Happening) (n : ℕ) (k : Happening) → numbered hs m ≡ Some later → flag_at flags m ≡ true
        → IsChain hs later causes → k ≡ last_from later causes → numbered hs n ≡ Some k → flag_at flags n ≡ true
    along later m [] n k at set chain last there =
        let s = scenario_of network ns in
        let same : n ≡ m = sym (number_is s hs n k founded there) ∙ ap (λ (x : Happening). x.note.number) last ∙ number_is s hs m later founded at in
        ap (flag_at flags) same ∙ set
    along later zero (g ∷ causes) n k at set chain last there = absurd cc
    along later (suc m) (g ∷ causes) n k at set chain last there =
        along g (cause_of later.note.body) causes n k chain.0 (h.closed (suc m) later g (omega arith) at set chain.0) chain.1 last there

    pub spread_all : AreFlags network subject hs flags
    spread_all = record {
      count = h.count;
      each = λ n k there. record {
        holds = h.kept n k there;
        told = λ is. let later = by_number (scenario_of network ns) hs is.later founded is.there in
            along is.later is.later.note.number is.back.causes n k later (h.own is.later.note.number is.later later is.of) is.back.chain is.back.begins there;
      };
    }

-- ---- the picture of a part of the run of a report shows it: the numbers follow each other

numbers_from : (notes front rest : List Note) → notes ≡ front ++ rest → AreNumbered notes → NumbersFollow (length front + 1) rest
numbers_from notes front [] whole numbered = tt
numbers_from notes front (note ∷ rest) whole numbered =
    let next = length-append front (note ∷ []) in (
      numbered front rest note whole,
      subst (λ n. NumbersFollow (n + 1) rest) next
          (numbers_from notes (front ++ note ∷ []) rest (whole ∙ sym (append_assoc front (note ∷ []) rest)) numbered),
    )

module _ (network : Network) (octets : List ℕ) (notes : List Note) (end : Units) (of : IsReportOf network octets notes end) where
  numbers : NumbersFollow 1 notes
  numbers = numbers_from notes [] notes refl of.events.text.numbers

  falls : NeverFall 0 notes
  falls = never_fall of

  lanes : (view : View) (front rest : List Note) (note : Note) → notes ≡ front ++ note ∷ rest → is_drawn view note ≡ true
      → fold painted_with (plan_of network view notes).grounds (take (length (shown view (front ++ note ∷ []))) (plan_of network view notes).marks)
      ≡ grounds_after network (told view (front ++ note ∷ []))
  lanes view front rest note whole held =
      subst (λ ns. fold painted_with (plan_of network view ns).grounds
      (take (length (shown view (front ++ note ∷ []))) (plan_of network view ns).marks) ≡ grounds_after network (told view (front ++ note ∷ []))) (sym whole)
      (lanes_are_states network view front rest note (subst (NeverFall 0) whole falls) held)

  shows : (view : View) → ShowsRun network view notes
  shows view =
      let arrows = arrows_are_causes network view notes numbers falls in record {
        titles = titles_are network view notes;
        order = keeps_order network view notes of.events.text.records.of_network falls;
        marks = arrows.0;
        hues = marks_have_hues network view notes numbers falls;
        arrows = arrows.1;
        lanes = lanes view;
      }

pub pictures_show_runs : PicturesShowRuns
pictures_show_runs network view octets notes end of = shows network octets notes end of view

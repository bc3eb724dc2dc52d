-- What may be found wrong with a list of records, and that a sound one whose debts are paid lacks nothing.
use Rattle.std.proofs.Common.{◌↔◌, append_assoc}
use Rattle.audit_law.{specs.law.{Debts.{AreDebts, IsOfTime, IsPartOf}, Findings.{IsGap, IsLacking, IsUnfoundedAt}}}
use Rattle.audit_law.proofs.law_lemmas.Words
use Words.{◌++◌, ◌∙◌, ◌∷◌, ◌≡◌, ◌⊎◌, AllBefore, AreSound, IsBefore, IsDueIn, IsFounded, IsIn, IsPaid, IsRun}
use Words.{LacksNothing, List, NoneBefore, [], ap, arith, behind_first, chain, in_parts, in_right, inl, inr, length}
use Words.{never_self, parted, refl, subst, sym, ℕ}
use Rattle.run_law.{proofs.runs.{Grow.grow, Places.{before_behind, behind, either_way}}}
use Rattle.run_law.{specs.runs.Runs.{IsDetermined, IsNextOf}}

-- ---- what may be found wrong with a list of records, of any kinds

-- ---- sound lists

module _ {N : Type 0} (place : N → List ℕ) where
  pub founded_of_sound : (IsDue : List N → N → Type 0) (mark : List ℕ) (ns : List N) → AreSound place IsDue mark ns
      → IsFounded place IsDue ns
  founded_of_sound IsDue mark ns sound ps qs x e = let h = sound ps qs x e in (h.behind_all, h.due)

  pub within_of_sound : (IsDue : List N → N → Type 0) (mark : List ℕ) (ns : List N) → AreSound place IsDue mark ns
      → AllBefore place ns mark
  within_of_sound IsDue mark ns sound n i = let at = parted n ns i in (sound at.0 at.1 n at.2).within

  pub sound_of_run : (IsDue : List N → N → Type 0) {mark : List ℕ} {ns : List N} → IsRun place IsDue mark ns
      → AreSound place IsDue mark ns
  sound_of_run IsDue run ps qs x e =
      let h = run.founded ps qs x e in
      record { behind_all = h.0; due = h.1; within = run.within x (rw e (in_right x ps (x ∷ qs) (inl refl))) }

  -- ---- what a list lacks

  pub full_of_run : (IsDue : List N → N → Type 0) {mark : List ℕ} {ns : List N} → IsRun place IsDue mark ns
      → LacksNothing place IsDue mark ns
  full_of_run IsDue run x lack here =
      let there = run.full lack.before lack.behind x lack.parts lack.all_before lack.none_before lack.due here in
      lack.absent there.0 there.1 there.2

  -- is a record of the list at the place?
  pub at_place : (ns : List N) (p : List ℕ) → ((m : N) × IsIn m ns × (place m ≡ p))
      ⊎ ((m : N) → IsIn m ns → place m ≡ p → ⊥)
  at_place [] p = inr (λ m i e. absurd i)
  at_place (n ∷ ns) p =
      elim (at_place ns p) [
        | inl found ↦ inl (found.0, inr found.1, found.2)
        | inr none ↦
            elim (either_way (place n) p) [
              | inr (inl e) ↦ inl (n, inl refl, e)
              | inl lt ↦ inr (λ m i e. elim i [
                | inl same ↦ never_self p (rw (ap place (sym same) ∙ e) at lt)
                | inr later ↦ none m later e
              ])
              | inr (inr gt) ↦ inr (λ m i e. elim i [
                | inl same ↦ never_self p (rw (ap place (sym same) ∙ e) at gt)
                | inr later ↦ none m later e
              ])
            ]
      ]

  run_of_sound : (IsDue : List N → N → Type 0) (mark : List ℕ) (ns : List N) → AreSound place IsDue mark ns
      → LacksNothing place IsDue mark ns → IsRun place IsDue mark ns
  run_of_sound IsDue mark ns sound nothing = record {
    founded = founded_of_sound IsDue mark ns sound;
    full = λ ps qs x e before none due here.
        elim (at_place ns (place x)) [
          | inl there ↦ there
          | inr absent ↦ absurd (nothing x (record {
            before = ps;
            behind = qs;
            parts = e;
            all_before = before;
            none_before = none;
            due = due;
            absent = absent;
          }) here)
        ];
    within = within_of_sound IsDue mark ns sound;
  }

  pub run_exactly : (IsDue : List N → N → Type 0) (mark : List ℕ) (ns : List N)
      → IsRun place IsDue mark ns ↔ (AreSound place IsDue mark ns × LacksNothing place IsDue mark ns)
  run_exactly IsDue mark ns =
      (λ run. (sound_of_run IsDue run, full_of_run IsDue run), λ h. run_of_sound IsDue mark ns h.0 h.1)

  -- ---- the first unsound record

  pub none_unsound : (IsDue : List N → N → Type 0) (mark : List ℕ) (ns : List N) (n : ℕ)
      → AreSound place IsDue mark ns → IsUnfoundedAt place IsDue mark ns n → ⊥
  none_unsound IsDue mark ns n sound found =
      found.unsound (sound found.before found.behind found.record_there found.parts)

-- of two such parts of one list, the shorter front is a front of the other, unless they are one
pub record IsAhead {N : Type 0} (x : N) (longer shorter : List N) : Type 0 where
  pub rest : List N
  pub is : longer ≡ shorter ++ x ∷ rest

pub fronts : {N : Type 0} (ls bs cs ds : List N) (x y : N) → ls ++ x ∷ bs ≡ cs ++ y ∷ ds → ((length ls ≡ length cs) ⊎ (IsAhead x cs ls ⊎ IsAhead y ls cs))
fronts [] bs [] ds x y e = inl refl
fronts [] bs (c ∷ cs) ds x y e = let head : x ≡ c = cc in inr (inl (record { rest = cs; is = rw (sym head) }))
fronts (a ∷ ls) bs [] ds x y e = let head : y ≡ a = cc in inr (inr (record { rest = ls; is = rw (sym head) }))
fronts (a ∷ ls) bs (c ∷ cs) ds x y e =
    let head : a ≡ c = cc in
    elim (fronts ls bs cs ds x y cc) [
      | inl same ↦ inl (omega arith)
      | inr (inl h) ↦ inr (inl (record { rest = h.rest; is = rw (sym head) (ap (λ t. a ∷ t) h.is) }))
      | inr (inr h) ↦ inr (inr (record { rest = h.rest; is = rw head (ap (λ t. c ∷ t) h.is) }))
    ]

pub one_unsound : {N : Type 0} (place : N → List ℕ) (IsDue : List N → N → Type 0) (mark : List ℕ) (ns : List N) (n m : ℕ) → IsUnfoundedAt place IsDue mark ns n
    → IsUnfoundedAt place IsDue mark ns m → n ≡ m
one_unsound place IsDue mark ns n m a b =
    elim (fronts a.before a.behind b.before b.behind a.record_there b.record_there (sym a.parts ∙ b.parts)) [
      | inl same ↦ omega (arith, a.number, b.number)
      | inr (inl h) ↦ absurd (a.unsound (b.sound_before a.before h.rest a.record_there h.is))
      | inr (inr h) ↦ absurd (b.unsound (a.sound_before b.before h.rest b.record_there h.is))
    ]

-- ---- gaps

-- what a front of a founded list has not reached is behind it
gap_of_lack : {N : Type 0} {place : N → List ℕ} (IsDue : List N → N → Type 0) {ns : List N} {x : N}
    (h : IsLacking place IsDue ns x) → IsGap place IsDue h.before h.behind x
gap_of_lack IsDue h = grind (arith, either_way, in_right)

lack_of_gap : {N : Type 0} {place : N → List ℕ} (IsDue : List N → N → Type 0) (ns : List N) {before rest : List N}
    {x : N} → ns ≡ before ++ rest → IsGap place IsDue before rest x → IsLacking place IsDue ns x
lack_of_gap {place} IsDue ns {before} {rest} {x} parts gap = record {
  before = before;
  behind = rest;
  parts = parts;
  all_before = gap.all_before;
  none_before = λ m i sooner. never_self (place x) (chain (place x) (place m) (place x) (gap.first m i) sooner);
  due = gap.due;
  absent = λ m i same.
      elim (in_parts m before rest (rw parts at i)) [
        | inl l ↦ never_self (place x) (rw same at (gap.all_before m l))
        | inr r ↦ never_self (place x) (rw same at (gap.first m r))
      ];
}

pub record HasGapIn {N : Type 0} (place : N → List ℕ) (IsDue : List N → N → Type 0) (ns : List N) (x : N) : Type 0 where
  pub before : List N
  pub rest : List N
  pub parts : ns ≡ before ++ rest
  pub gap : IsGap place IsDue before rest x

pub lacks_in_gaps : {N : Type 0} (place : N → List ℕ) (IsDue : List N → N → Type 0) (ns : List N) (x : N)
    → IsLacking place IsDue ns x ↔ HasGapIn place IsDue ns x
lacks_in_gaps place IsDue ns x = (
  λ h. record { before = h.before; rest = h.behind; parts = h.parts; gap = gap_of_lack IsDue h },
  λ g. lack_of_gap IsDue ns g.parts g.gap,
)

-- ---- the next record of a run

next_of_grown : {N : Type 0} {place : N → List ℕ} (IsDue : List N → N → Type 0) {mark : List ℕ} {ns : List N} (x : N)
    → IsRun place IsDue mark ns → IsRun place IsDue (behind (place x)) (ns ++ x ∷ []) → IsNextOf place IsDue mark ns x
next_of_grown {N} {place} IsDue {mark} {ns} x run grown =
    let here = grown.founded ns [] x refl in
    record {
      behind_all = here.0;
      due = here.1;
      first = record {
        gap = λ ps qs y e before none due sooner.
            let parts : ns ++ x ∷ [] ≡ ps ++ (qs ++ x ∷ []) = rw e (append_assoc ps qs (x ∷ [])) in
            let not_x : NoneBefore place (qs ++ x ∷ []) (place y) = λ m i lt.
            elim (in_parts m qs (x ∷ []) i) [
              | inl l ↦ none m l lt
              | inr (inl same) ↦ never_self (place x) (chain (place x) (place y) (place x) (rw same at lt) sooner)
              | inr (inr none_left) ↦ absurd none_left
            ] in
            let there = grown.full ps (qs ++ x ∷ []) y parts before not_x due (chain (place y) (place x) (behind (place x)) sooner (before_behind (place x))) in
            elim (in_parts there.0 ns (x ∷ []) there.1) [
              | inl l ↦ rw there.2 at (run.within there.0 l)
              | inr (inl same) ↦ absurd (never_self (place x) (rw (sym there.2 ∙ ap place same) at sooner))
              | inr (inr none_left) ↦ absurd none_left
            ];
      };
    }

pub next_exactly : {N : Type 0} {place : N → List ℕ} (IsDue : List N → N → Type 0) {mark : List ℕ} {ns : List N}
    (x : N) → IsRun place IsDue mark ns → IsRun place IsDue (behind (place x)) (ns ++ x ∷ [])
    ↔ IsNextOf place IsDue mark ns x
next_exactly IsDue x run =
    (λ grown. next_of_grown IsDue x run grown, λ next. grow IsDue x run next.behind_all next.due next.first)

-- ---- a sound list lacks nothing that is due so exactly where its debts are paid

module _ {N : Type 0} (place : N → List ℕ) where
  -- a place parts a list in one way
  one_split : (p : List ℕ) (ps qs ls rs : List N) → ps ++ qs ≡ ls ++ rs → AllBefore place ps p
      → NoneBefore place qs p → AllBefore place ls p → NoneBefore place rs p → ps ≡ ls
  one_split p [] qs [] rs e a n b m = refl
  one_split p [] qs (l ∷ ls) rs e a n b m =
      absurd (n l (rw e (inl refl)) (b l (inl refl)))
  one_split p (x ∷ ps) qs [] rs e a n b m =
      absurd (m x (rw (sym e) (inl refl)) (a x (inl refl)))
  one_split p (x ∷ ps) qs (l ∷ ls) rs e a n b m =
      let head : x ≡ l = cc in
      let tail : ps ++ qs ≡ ls ++ rs = cc in
      ap (λ t. t ∷ ps) head ∙ ap (λ (t : List N). l ∷ t)
      (one_split p ps qs ls rs tail (λ y i. a y (inr i)) n (λ y i. b y (inr i)) m)

  -- each record of a founded list is due in it
  pub due_in : (IsDue : List N → N → Type 0) (ns : List N) (m : N) → IsFounded place IsDue ns → IsIn m ns
      → IsDueIn place IsDue ns m
  due_in IsDue ns m founded i =
      let at = parted m ns i in
      let here = founded at.0 at.1 m at.2 in
      let whole = subst (IsFounded place IsDue) at.2 founded in
      record {
        before = at.0;
        behind = m ∷ at.1;
        parts = at.2;
        all_before = here.0;
        none_before = λ n j sooner. elim j [
          | inl same ↦ never_self (place m) (rw same at sooner)
          | inr later ↦ never_self (place m) (chain (place m) (place n) (place m)
              (behind_first place IsDue at.0 at.1 m n whole later) sooner)
        ];
        due = here.1;
      }

  -- two records that are due in a list at one place are one
  pub one_due : (IsDue : List N → N → Type 0) {ns : List N} {x y : N} → IsDetermined place IsDue
      → IsDueIn place IsDue ns x → IsDueIn place IsDue ns y → place x ≡ place y → x ≡ y
  one_due IsDue {x} {y} one a b same =
      let fronts =
      one_split (place x) a.before a.behind b.before b.behind (sym a.parts ∙ b.parts) a.all_before a.none_before
      (rw same b.all_before)
      (rw same b.none_before) in
      one a.before x y a.due (rw fronts b.due) same

  lacking_of : (IsDue : List N → N → Type 0) {ns : List N} {x : N} → IsDueIn place IsDue ns x
      → ((m : N) → IsIn m ns → place m ≡ place x → ⊥) → IsLacking place IsDue ns x
  lacking_of IsDue h absent =
      record { before = h.before; behind = h.behind; parts = h.parts; all_before = h.all_before; none_before = h.none_before; due = h.due; absent = absent }

  due_of_lack : (IsDue : List N → N → Type 0) {ns : List N} {x : N} → IsLacking place IsDue ns x
      → IsDueIn place IsDue ns x
  due_of_lack IsDue h =
      record { before = h.before; behind = h.behind; parts = h.parts; all_before = h.all_before; none_before = h.none_before; due = h.due }

  -- what is due so in a list is due in it
  pub due_by_part : (IsDue IsDueSo : List N → N → Type 0) {ns : List N} {x : N} → IsPartOf IsDueSo IsDue
      → IsDueIn place IsDueSo ns x → IsDueIn place IsDue ns x
  due_by_part IsDue IsDueSo {x} part h =
      record { before = h.before; behind = h.behind; parts = h.parts; all_before = h.all_before; none_before = h.none_before; due = part h.before x h.due }

-- what is lacking before the mark owes a debt that nothing pays
pub unpaid_of_lack : {N O : Type 0} {place : N → List ℕ} (IsDue IsDueSo : List N → N → Type 0) {mark : List ℕ}
    {ns : List N} (IsOwed : O → Type 0) {falls : (o : O) → IsOwed o → ℕ} (Pays : N → O → Type 0)
    → IsPartOf IsDueSo IsDue → AreDebts place IsDue IsDueSo mark ns IsOwed falls Pays → AreSound place IsDue mark ns
    → {x : N} → IsLacking place IsDueSo ns x → IsBefore (place x) mark
    → (o : O) × (owed : IsOwed o) × Pays x o × IsOfTime (falls o owed) (place x) × (IsPaid ns Pays o → ⊥)
unpaid_of_lack {place} IsDue IsDueSo {mark} {ns} IsOwed Pays part debts sound {x} lack here =
    let so = due_of_lack place IsDueSo lack in
    let o = debts.each x so here in (
      o.0,
      o.1,
      o.2,
      o.3,
      λ paid.
          lack.absent paid.0 paid.1
          (debts.one o.0 paid.0 x o.1 (due_in place IsDue ns paid.0 (founded_of_sound place IsDue mark ns sound) paid.1)
          (due_by_part place IsDue IsDueSo part so) paid.2 o.2),
    )

-- a debt that nothing pays is lacking its record
pub lack_of_unpaid : {N O : Type 0} {place : N → List ℕ} (IsDue IsDueSo : List N → N → Type 0) {mark : List ℕ}
    {ns : List N} (IsOwed : O → Type 0) {falls : (o : O) → IsOwed o → ℕ} (Pays : N → O → Type 0)
    → IsDetermined place IsDue → IsPartOf IsDueSo IsDue → AreDebts place IsDue IsDueSo mark ns IsOwed falls Pays
    → AreSound place IsDue mark ns → (o : O) (owed : IsOwed o) → (IsPaid ns Pays o → ⊥)
    → (x : N) × IsLacking place IsDueSo ns x × IsBefore (place x) mark × Pays x o × IsOfTime (falls o owed) (place x)
lack_of_unpaid {N} {place} IsDue IsDueSo {mark} {ns} IsOwed Pays one part debts sound o owed unpaid =
    let x = debts.some o owed in (
      x.0,
      lacking_of place IsDueSo x.1 (λ m i same.
          unpaid (
            m,
            i,
            rw (one_due place IsDue one
                (due_in place IsDue ns m (founded_of_sound place IsDue mark ns sound) i)
                (due_by_part place IsDue IsDueSo part x.1) same) x.3,
          )),
      x.2,
      x.3,
      x.4,
    )

-- the list lacks nothing that is due so where each debt is paid
pub lacks_nothing : {N O : Type 0} {place : N → List ℕ} (IsDue IsDueSo : List N → N → Type 0) {mark : List ℕ}
    {ns : List N} (IsOwed : O → Type 0) {falls : (o : O) → IsOwed o → ℕ} (Pays : N → O → Type 0)
    → IsPartOf IsDueSo IsDue → AreDebts place IsDue IsDueSo mark ns IsOwed falls Pays → AreSound place IsDue mark ns
    → ((o : O) → IsOwed o → IsPaid ns Pays o) → LacksNothing place IsDueSo mark ns
lacks_nothing IsDue IsDueSo IsOwed Pays part debts sound all x lack here =
    let h = unpaid_of_lack IsDue IsDueSo IsOwed Pays part debts sound lack here in
    h.4 (all h.0 h.1)

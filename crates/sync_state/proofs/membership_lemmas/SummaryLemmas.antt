-- What is kept of the frames that were heard, and what it is after one more frame.
use Rattle.std.proofs.Common
use Common.{◌++◌, ◌+◌, ◌-◌, ◌<ℤ◌, ◌<◌, ◌↔◌, ◌∙◌, ◌∷◌, ◌≡◌, ◌⊎◌, All, Any, Bool, IsNone, List, None, Option, Some, []}
use Common.{ap, append_assoc, arith, false, get_or, inl, inr, length, refl, subst, suc, sym, true, ℕ, ℤ}
use Rattle.std.proofs.lemmas.{Bool.{both_ways, cases_order, true≢false}, Int.{by_lt_z, ints}}
use Rattle.std.proofs.lemmas.List.{Elements.{All-append, All-cons, All-nil, All-push, All-weaker}, Quantifiers.Any-push}
use Rattle.std.proofs.lemmas.List.{get_or-append-add, get_or_append_left, get_or_at, length-append}
use Rattle.sync_state.{proofs.membership_lemmas.SetLemmas.{none-members, same_members, union-members}}
use Rattle.sync_state.specs.{declared.membership.frame.HeardFrame.HeardFrame}
use Rattle.sync_state.specs.membership.{BestFrame.{IsBehind, IsBest, IsBestOf, IsBetterOf, IsLevel, NoneWithin}}
use Rattle.sync_state.specs.membership.{Hearing.{Hearing, IsOutside, IsWithinOn, within_on}}
use Rattle.sync_state.specs.membership.{Members.{IsMember, count_of, union}}
use Rattle.sync_state.specs.membership.{Summary.{AreOutside, Summarizes, Summary, best_on, silence}}
use Rattle.tte_units.{proofs.general_lemmas.Lists.any_parts}
use Rattle.tte_units.{specs.declared.frames.{channel.Channel.{Channel, TheVariants.{A, B}}, members.Members.Members}}

-- ---- the best frame of a channel after one more frame

-- behind it or level with it
abbrev pub IsNoBetter : HeardFrame → HeardFrame → Type 0
IsNoBetter x y = IsBehind x y ⊎ IsLevel x y

-- by the counts and the points alone
behind_or_not : (m n : ℕ) (p q : ℤ) → (((n < m) ⊎ ((n ≡ m) × (q <ℤ p))) → ⊥) → ((m < n) ⊎ ((m ≡ n) × (p <ℤ q))) ⊎ ((m ≡ n) × (p ≡ q))
behind_or_not m n p q not = grind (arith, cases_order, by_lt_z, ints)

pub no_better : (x y : HeardFrame) → (IsBehind y x → ⊥) → IsNoBetter x y
no_better x y not = behind_or_not (count_of x.members) (count_of y.members) x.point.0 y.point.0 not

no_better_chain : (m n k : ℕ) (p q r : ℤ) → ((m < n) ⊎ ((m ≡ n) × (p <ℤ q))) ⊎ ((m ≡ n) × (p ≡ q)) → ((n < k) ⊎ ((n ≡ k) × (q <ℤ r))) ⊎ ((n ≡ k) × (q ≡ r))
    → ((m < k) ⊎ ((m ≡ k) × (p <ℤ r))) ⊎ ((m ≡ k) × (p ≡ r))
no_better_chain m n k p q r (inl (inl a)) (inl (inl b)) = inl (inl (omega arith))
no_better_chain m n k p q r (inl (inl a)) (inl (inr b)) = inl (inl (omega (arith, b.0)))
no_better_chain m n k p q r (inl (inl a)) (inr b) = inl (inl (omega (arith, b.0)))
no_better_chain m n k p q r (inl (inr a)) (inl (inl b)) = inl (inl (omega (arith, a.0)))
no_better_chain m n k p q r (inl (inr a)) (inl (inr b)) = inl (inr (a.0 ∙ b.0, omega (arith, ints, a.1, b.1)))
no_better_chain m n k p q r (inl (inr a)) (inr b) = inl (inr (a.0 ∙ b.0, omega (arith, ints, a.1, b.1)))
no_better_chain m n k p q r (inr a) (inl (inl b)) = inl (inl (omega (arith, a.0)))
no_better_chain m n k p q r (inr a) (inl (inr b)) = inl (inr (a.0 ∙ b.0, omega (arith, ints, a.1, b.1)))
no_better_chain m n k p q r (inr a) (inr b) = inr (a.0 ∙ b.0, a.1 ∙ b.1)

pub no_better_trans : (x y z : HeardFrame) → IsNoBetter x y → IsNoBetter y z → IsNoBetter x z
no_better_trans x y z a b = no_better_chain (count_of x.members) (count_of y.members) (count_of z.members) x.point.0 y.point.0 z.point.0 a b

-- a frame that did not come within on the channel leaves its best
best_stays : (heard : List Hearing) (channel : Channel) (best : Option HeardFrame) (h : Hearing) → (IsWithinOn channel h → ⊥) → IsBestOf heard channel best
    → IsBestOf (heard ++ h ∷ []) channel best
best_stays heard channel None h other is = All-push (λ x. IsWithinOn channel x → ⊥) heard h is other
best_stays heard channel (Some best) h other is = record {
  before = is.before;
  after = is.after ++ h ∷ [];
  is_heard =
      rw is.is_heard (append_assoc is.before ((within_on channel best) ∷ is.after) (h ∷ []));
  earlier = is.earlier;
  later = All-push (λ x. IsWithinOn channel x → IsBehind x.frame best) is.after h is.later (λ w. absurd (other w));
}

-- all that was heard within is no better than the frame that takes the place of the best
all_no_better : (heard : List Hearing) (channel : Channel) (best later : HeardFrame) → IsBest heard channel best → IsNoBetter best later
    → All (λ h. IsWithinOn channel h → IsNoBetter h.frame later) heard
all_no_better heard channel best later is step =
    let P : Hearing → Type 0 = λ h. IsWithinOn channel h → IsNoBetter h.frame later in
    let it = within_on channel best in
    let before = All-weaker (λ h. IsWithinOn channel h → IsNoBetter h.frame best) P
    (λ h f w. no_better_trans h.frame best later (f w) step)
    is.before is.earlier in
    let after = All-weaker (λ h. IsWithinOn channel h → IsBehind h.frame best) P
    (λ h f w. no_better_trans h.frame best later (inl (f w)) step)
    is.after is.later in
    subst (All P) (sym is.is_heard) (All-append P is.before (it ∷ is.after) before (All-cons P it is.after (λ w. step) after))

-- a frame within on the channel: the better of both is the best
best_after : (heard : List Hearing) (channel : Channel) (best : Option HeardFrame) (later frame : HeardFrame) → IsBetterOf best later frame
    → IsBestOf heard channel best → IsBest (heard ++ within_on channel later ∷ []) channel frame
best_after heard channel None later frame same is = grind (arith, All-weaker, All-nil)
best_after heard channel (Some best) later frame (inl (behind, same)) is =
    let h = within_on channel later in
    subst (IsBest (heard ++ h ∷ []) channel) (sym same) (record {
      before = is.before;
      after = is.after ++ h ∷ [];
      is_heard = rw is.is_heard (append_assoc is.before ((within_on channel best) ∷ is.after) (h ∷ []));
      earlier = is.earlier;
      later = All-push (λ x. IsWithinOn channel x → IsBehind x.frame best) is.after h is.later (λ w. behind);
    })
best_after heard channel (Some best) later frame (inr (not_behind, same)) is = grind (arith, all_no_better, no_better, All-nil)

-- ---- the members of the frames outside after one more frame

pub Any-append_left : {X : Type 0} (P : X → Type 0) (xs ys : List X) → Any P xs → Any P (xs ++ ys)
Any-append_left P xs ys any = grind (arith, length-append, get_or_append_left)

-- it came outside its time, and the master is a member of it
abbrev pub HasOutside : ℕ → Hearing → Type 0
HasOutside i h = IsOutside h × IsMember i h.frame.members

-- a frame within leaves them
outside_stays : (heard : List Hearing) (members : Members) (h : Hearing) → h.within ≡ true → AreOutside heard members → AreOutside (heard ++ h ∷ []) members
outside_stays heard members h within is i = (forth, back) where
  forth : IsMember i members → Any (HasOutside i) (heard ++ h ∷ [])
  forth m = Any-append_left (HasOutside i) heard (h ∷ []) ((is i).0 m)

  back : Any (HasOutside i) (heard ++ h ∷ []) → IsMember i members
  back any = elim (any_parts (HasOutside i) heard h any) [
    | inl earlier ↦ (is i).1 earlier
    | inr here ↦ absurd (both_ways h.within here.0 within)
  ]

-- a frame outside adds its members
outside_after : (heard : List Hearing) (members : Members) (h : Hearing) → h.within ≡ false → AreOutside heard members
    → AreOutside (heard ++ h ∷ []) (union members h.frame.members)
outside_after heard members h outside is i = (forth, back) where
  forth : IsMember i (union members h.frame.members) → Any (HasOutside i) (heard ++ h ∷ [])
  forth m = elim ((union-members members h.frame.members i).0 m) [
    | inl before ↦ Any-append_left (HasOutside i) heard (h ∷ []) ((is i).0 before)
    | inr here ↦ Any-push (HasOutside i) heard h (outside, here)
  ]

  back : Any (HasOutside i) (heard ++ h ∷ []) → IsMember i (union members h.frame.members)
  back any = elim (any_parts (HasOutside i) heard h any) [
    | inl earlier ↦ (union-members members h.frame.members i).1 (inl ((is i).1 earlier))
    | inr here ↦ (union-members members h.frame.members i).1 (inr here.1)
  ]

-- ---- what is kept after one more frame

pub silence_summarizes : Summarizes silence []
silence_summarizes = grind (arith, All-nil, none-members)

pub hears_outside : (s : Summary) (heard : List Hearing) (h : Hearing) → h.within ≡ false → Summarizes s heard
    → Summarizes (record { best_a = s.best_a; best_b = s.best_b; outside = union s.outside h.frame.members }) (heard ++ h ∷ [])
hears_outside s heard h outside is = record { best = best; outside = outside_after heard s.outside h outside is.outside } where
  other : (channel : Channel) → IsWithinOn channel h → ⊥
  other channel w = both_ways h.within outside w.within_is

  best : (channel : Channel)
      → IsBestOf (heard ++ h ∷ []) channel (best_on channel (record { best_a = s.best_a; best_b = s.best_b; outside = union s.outside h.frame.members }))
  best A = best_stays heard A s.best_a h (other A) (is.best A)
  best B = best_stays heard B s.best_b h (other B) (is.best B)

pub hears_on_a : (s : Summary) (heard : List Hearing) (later frame : HeardFrame) → IsBetterOf s.best_a later frame → Summarizes s heard
    → Summarizes (record { best_a = Some frame; best_b = s.best_b; outside = s.outside }) (heard ++ within_on A later ∷ [])
hears_on_a s heard later frame better is = record { best = best; outside = outside_stays heard s.outside (within_on A later) refl is.outside } where
  other : IsWithinOn B (within_on A later) → ⊥
  other w = cc (w.channel_is)

  best : (channel : Channel) → IsBestOf (heard ++ within_on A later ∷ []) channel
      (best_on channel (record { best_a = Some frame; best_b = s.best_b; outside = s.outside }))
  best A = best_after heard A s.best_a later frame better (is.best A)
  best B = best_stays heard B s.best_b (within_on A later) other (is.best B)

pub hears_on_b : (s : Summary) (heard : List Hearing) (later frame : HeardFrame) → IsBetterOf s.best_b later frame → Summarizes s heard
    → Summarizes (record { best_a = s.best_a; best_b = Some frame; outside = s.outside }) (heard ++ within_on B later ∷ [])
hears_on_b s heard later frame better is = record { best = best; outside = outside_stays heard s.outside (within_on B later) refl is.outside } where
  other : IsWithinOn A (within_on B later) → ⊥
  other w = cc (w.channel_is)

  best : (channel : Channel) → IsBestOf (heard ++ within_on B later ∷ []) channel
      (best_on channel (record { best_a = s.best_a; best_b = Some frame; outside = s.outside }))
  best A = best_stays heard A s.best_a (within_on B later) other (is.best A)
  best B = best_after heard B s.best_b later frame better (is.best B)

-- there is no best frame exactly where none came within on the channel
none_exactly : (heard : List Hearing) (channel : Channel) (best : Option HeardFrame) → IsBestOf heard channel best → IsNone best ↔ NoneWithin heard channel
none_exactly heard channel None is = (λ _. is, λ _. refl)
none_exactly heard channel (Some best) is = (λ e. cc, λ all. absurd (never all)) where
  never : All (λ h. IsWithinOn channel h → ⊥) heard → ⊥
  never all =
      let it = within_on channel best in
      let P : Hearing → Type 0 = λ h. IsWithinOn channel h → ⊥ in
      let split : All P (is.before ++ it ∷ is.after) = subst (All P) is.is_heard all in
      let here : P it = subst P (get_or_at is.before it is.after it (length is.before) refl)
      (split (length is.before) it (omega (arith, length-append is.before (it ∷ is.after)))) in
      here (record { channel_is = refl; within_is = refl })

-- what a read of the channel's best frame says of the frames heard
pub read_best : (s : Summary) (channel : Channel) (best : Option HeardFrame) → best ≡ best_on channel s → (heard : List Hearing) → Summarizes s heard
    → IsBestOf heard channel best
read_best s channel best same heard is = subst (IsBestOf heard channel) (sym same) (is.best channel)

pub read_none : (s : Summary) (channel : Channel) (best : Option HeardFrame) → best ≡ best_on channel s → (heard : List Hearing) → Summarizes s heard
    → IsNone best ↔ NoneWithin heard channel
read_none s channel best same heard is = none_exactly heard channel best (read_best s channel best same heard is)

pub reads_a : (s t : Summary) (channel : Channel) → s ≡ t → channel ≡ A → s.best_a ≡ best_on channel t
reads_a s t channel same at = rw same (ap (λ ch. best_on ch t) (sym at))

pub reads_b : (s t : Summary) (channel : Channel) → s ≡ t → channel ≡ B → s.best_b ≡ best_on channel t
reads_b s t channel same at = rw same (ap (λ ch. best_on ch t) (sym at))

pub same_hearing : (channel at : Channel) (frame : HeardFrame) (within : Bool) → channel ≡ at → within ≡ true
    → within_on at frame ≡ record { channel = channel; frame = frame; within = within }
same_hearing channel at frame within on in_time =
    rw (sym on) (rw (sym in_time))

-- ---- what is kept of a list of frames is one

never_both : (m n : ℕ) (p q : ℤ) → ((m < n) ⊎ ((m ≡ n) × (p <ℤ q))) → (((n < m) ⊎ ((n ≡ m) × (q <ℤ p))) ⊎ ((n ≡ m) × (q ≡ p))) → ⊥
never_both m n p q (inl a) (inl (inl b)) = absurd (omega arith)
never_both m n p q (inl a) (inl (inr b)) = absurd (omega (arith, b.0))
never_both m n p q (inl a) (inr b) = absurd (omega (arith, b.0))
never_both m n p q (inr a) (inl (inl b)) = absurd (omega (arith, a.0))
never_both m n p q (inr a) (inl (inr b)) = absurd (omega (arith, ints, a.1, b.1))
never_both m n p q (inr a) (inr b) = absurd (omega (arith, ints, a.1, b.1))

-- the best of one split stands among the earlier ones of the other
before_other : (heard : List Hearing) (channel : Channel) (x y : HeardFrame) (a : IsBest heard channel x) (b : IsBest heard channel y)
    → length a.before < length b.before → ⊥
before_other heard channel x y a b lt =
    let hx = within_on channel x in
    let hy = within_on channel y in
    let same = sym a.is_heard ∙ b.is_heard in
    let lengths =
    sym (length-append a.before (hx ∷ a.after)) ∙ ap length same ∙ length-append b.before (hy ∷ b.after) in
    let at_x = sym (get_or_append_left b.before (hy ∷ b.after) hx (length a.before) lt)
    ∙ ap (λ t. get_or t (length a.before) hx) (sym same)
    ∙ get_or_at a.before hx a.after hx (length a.before) refl in
    let j = length b.before - length a.before - 1 in
    let at_y = sym (get_or-append-add a.before (hx ∷ a.after) (suc j) hy)
    ∙ ap (λ t. get_or t (length a.before + suc j) hy) same
    ∙ get_or_at b.before hy b.after hy (length a.before + suc j) (omega arith) in
    let on : (ch : Channel) (f : HeardFrame) → IsWithinOn ch (within_on ch f) = λ ch f. record { channel_is = refl; within_is = refl } in
    let x_first : IsNoBetter x y = (rw at_x at (b.earlier (length a.before) hx lt)) (on channel x)
    in
    let y_behind : IsBehind y x = (rw at_y at (a.later j hy (omega arith))) (on channel y)
    in
    never_both (count_of y.members) (count_of x.members) y.point.0 x.point.0 y_behind x_first

pub one_best : (heard : List Hearing) (channel : Channel) (x y : HeardFrame) → IsBest heard channel x → IsBest heard channel y → x ≡ y
one_best heard channel x y a b =
    elim (cases_order (length a.before) (length b.before)) [
      | inl same ↦
          let hx = within_on channel x in
          let split = sym a.is_heard ∙ b.is_heard in
          ap (λ h. h.frame) (sym (get_or_at a.before hx a.after hx (length a.before) refl)
          ∙ ap (λ t. get_or t (length a.before) hx) split
          ∙ get_or_at b.before (within_on channel y) b.after hx (length a.before) (sym same))
      | inr (inl lt) ↦ absurd (before_other heard channel x y a b lt)
      | inr (inr gt) ↦ absurd (before_other heard channel y x b a gt)
    ]

one_best_of : (heard : List Hearing) (channel : Channel) (x y : Option HeardFrame) → IsBestOf heard channel x → IsBestOf heard channel y → x ≡ y
one_best_of heard channel None None a b = refl
one_best_of heard channel None (Some y) a b = absurd (true≢false ((none_exactly heard channel (Some y) b).1 a))
one_best_of heard channel (Some x) None a b = absurd (true≢false ((none_exactly heard channel (Some x) a).1 b))
one_best_of heard channel (Some x) (Some y) a b = ap Some (one_best heard channel x y a b)

pub one_summary : (heard : List Hearing) (s t : Summary) → Summarizes s heard → Summarizes t heard → s ≡ t
one_summary heard s t a b =
    let same_a = one_best_of heard A s.best_a t.best_a (a.best A) (b.best A) in
    let same_b = one_best_of heard B s.best_b t.best_b (a.best B) (b.best B) in
    let each : (i : ℕ) → IsMember i s.outside ↔ IsMember i t.outside =
    λ i. (λ m. (b.outside i).1 ((a.outside i).0 m), λ m. (a.outside i).1 ((b.outside i).0 m)) in
    let made : Option HeardFrame → Option HeardFrame → Members → Summary = λ x y m. record { best_a = x; best_b = y; outside = m } in
    rw same_a
    (rw same_b
    ((rw (same_members s.outside t.outside each))))

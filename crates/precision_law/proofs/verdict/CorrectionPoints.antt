-- What old devices have heard at their correction points, and that they correct their clocks there.
use Rattle.precision_law.proofs.{block.Corrections.{IsByFrame, heard_late, is_by_frame, shared_by, turned}}
use Rattle.precision_law.proofs.{trips.SoundChannel.sound_is_whole}
use Rattle.precision_law.proofs.hearing.GoodFrames.{IsAtPoint, IsSentInTime, cm_of_channel, firm_member, heard_within}
use Rattle.precision_law.proofs.hearing.GoodFrames.{heard_within_by, is_since, not_integrating, receives, same_sent}
use Rattle.precision_law.proofs.hearing.GoodFrames.{sent_in_time, sooner, went_so}
use Rattle.precision_law.proofs.words.{Clocks.{HearsThis, any_is, hearing_of, hears_by, one_bad, sets_within}}
use Rattle.precision_law.proofs.words.Blocks
use Blocks.{FramesGoSo, IsBadPoint, IsGoodHearing, IsGoodPoint, IsSentOn, good_hearing, late_from, made_of}
use Blocks.{member_of_point, members_are_masters, members_by, point_is, point_of_member}
use Rattle.precision_law.proofs.words.Laws
use Laws.{AreBad, AreBeforeCorrections, AreGood, BlocksGoSo, FirmDevicesCorrect, HasGood, HearsBy, Hull, IsBadMember}
use Laws.{IsEmission, IsFirm, IsGoodEnd, IsInBlock, IsSharedCorrection, IsView, IsWholeFrom, SendsOn, SendsSo}
use Laws.{SoundMasterSends, View, base_of, hull_of}
use Rattle.precision_law.proofs.words.Plans
use Plans.{A, AreOutside, AsyncClique, B, Channel, Cleared, Corrected, DeviceId, HasVerdict, HeardFrame, Hearing}
use Plans.{IsBehind, IsBestOf, IsDeviceOf, IsLevel, IsMember, IsOutside, IsWithinOn, Masters, Members, SomeQualifies}
use Plans.{Standing, Summarizes, Summary, SyncClique, Units, Verdict, best_on, correction_of, count_of, deviation_by}
use Plans.{deviation_on, none, within_on}
use Rattle.precision_law.proofs.words.Runs
use Runs.{Happening, IsIn, Within, cycle_in, founded_at, heard_by, heard_since, in_left, in_parts, member_of, same_some}
use Runs.{standing_before, time_of}
use Rattle.precision_law.proofs.words.Std
use Std.{if◌then◌else◌, ◌+◌, ◌<◌, ◌∙◌, ◌∷◌, ◌≡◌, ◌≤◌, ◌⊎◌, All, All-head, All-tail, Bool, List, None, Option, Some, []}
use Std.{ap, arith, bit_at, both_ways, cases_lt, false, inl, inr, le-leb, nat_le, ones_le_self, option_and_then, refl}
use Std.{subst, suc, sym, true, ℕ}

-- ---- what an old device hears outside at its correction point: two masters at most: lists

-- of the elements of a list one is of the first kind, or all are of the second
one_or_all : {X : Type 0} (P Q : X → Type 0) (xs : List X) → ((x : X) → IsIn x xs → P x ⊎ Q x) → ((x : X) × IsIn x xs × P x) ⊎ ((x : X) → IsIn x xs → Q x)
one_or_all P Q [] each = inr (λ x i. absurd i)
one_or_all {X} P Q (x ∷ xs) each = by (each x (inl refl)) (one_or_all P Q xs (λ y i. each y (inr i)))
  where
    by : P x ⊎ Q x → ((y : X) × IsIn y xs × P y) ⊎ ((y : X) → IsIn y xs → Q y) → ((y : X) × IsIn y (x ∷ xs) × P y) ⊎ ((y : X) → IsIn y (x ∷ xs) → Q y)
    by (inl p) more = inl (x, inl refl, p)
    by (inr q) (inl found) = inl (found.0, inr found.1, found.2)
    by (inr q) (inr all) = inr (λ y i. elim i as (λ _. Q y) [ inl same ↦ subst Q (sym same) q | inr later ↦ all y later ])

-- ---- members

-- the members of what is sent are good, or a broken one is among them
good_or_bad : {v : View} {h : Happening} {cm : DeviceId} {cycle : ℕ} {members : Members} → IsView v
    → IsEmission v h cm cycle members → ((b : ℕ) × IsMember b members × IsBadMember v b) ⊎ AreGood v members
good_or_bad {v} {h} {cm} is e =
    let m = made_of is e in
    let at = founded_at v.scenario v.records h is.run.founded e.there in
    let points = m.first ∷ m.more in
    elim (one_or_all (IsBadPoint v) (IsGoodPoint v cm (time_of h)) points (λ q i.
    elim (point_is cm q is at m.is_cm_one (m.each q i).there) [ inl good ↦ inr good | inr bad ↦ inl bad ])) [
      | inl bad ↦ inl (
        bad.0.master,
        rw m.members_are (member_of_point points bad.0 bad.1),
        (bad.2.master, bad.2.is_member, bad.2.bad),
      )
      | inr all ↦ inr (λ i set.
          let p = point_of_member points i (rw (sym m.members_are) set) in
          let g = all p.0 p.1 in
          (g.master, g.is_member ∙ ap (λ x. Some x) p.2, g.dispatch.good))
    ]

-- the other channel
abbrev other_channel : Channel → Channel
other_channel A = B
other_channel B = A

-- a channel is this one or the other
either_channel : (c d : Channel) → (d ≡ c) ⊎ (d ≡ other_channel c)
either_channel A B = inr refl
either_channel B A = inr refl
either_channel c d = inl refl

-- ---- what is heard outside

-- a frame of three members or more was sent on the sound channel
pub record SoundIsSent (v : View) (n t : ℕ) (first : Happening) (members : Members) : Type 0 where
  pub sent : IsSentOn v n v.channel members first
  pub before : time_of first < t
  pub three : 3 ≤ count_of members

-- the members are a broken master alone
record IsLone (v : View) (members : Members) : Type 0 where
  pub bad : AreBad v members
  pub one : count_of members ≡ 1
  pub member : ℕ
  pub is_member : IsMember member members

-- they are two at most, a broken one among them, and those of a frame of the other channel with a good member
record IsPair (v : View) (n t : ℕ) (members : Members) : Type 0 where
  pub emission : Happening
  pub sent : IsSentOn v n (other_channel v.channel) members emission
  pub before : time_of emission < t
  pub two : count_of members ≤ 2
  pub member : ℕ
  pub is_member : IsMember member members
  pub bad : IsBadMember v member

-- what is heard outside is a broken master alone, if it is heard so
abbrev IsLoneIfOutside : View → Hearing → Type 0
IsLoneIfOutside v h = (IsOutside h × IsLone v h.frame.members) ⊎ (IsOutside h → ⊥)

-- or such a pair
abbrev IsOfKind : View → ℕ → ℕ → Hearing → Type 0
IsOfKind v n t h = (IsOutside h × IsPair v n t h.frame.members) ⊎ IsLoneIfOutside v h

-- a hearing with its record
record HearsSo (v : View) (n t : ℕ) (block : IsInBlock v n t) (device : DeviceId) (hearing : Hearing) : Type 0 where
  pub h : Happening
  pub this : HearsThis v device h hearing
  pub emission : Happening
  pub cm : DeviceId
  pub is_emission : IsEmission v emission cm (cycle_in h) (members_by h)
  pub good : HasGood v (members_by h) → IsGoodHearing v n block.before device hearing.channel hearing.frame.point.0 h

module _ (laws : FramesGoSo) (goes : BlocksGoSo) (v : View) (n t : ℕ) (block : IsInBlock v n t) (is : IsView v) (device : DeviceId)
    (at : IsAtPoint v n t block device) (first : Happening) (members : Members) (sound : SoundIsSent v n t first members) (front : List Happening)
    (split : AreBeforeCorrections v t front) where
  hears_so : (hearing : Hearing) → IsIn hearing (heard_since v.scenario front device t) → HearsSo v n t block device hearing
  hears_so hearing i =
      let heard = hearing_of device hearing is split i in
      let h = heard.h in
      let in_all : IsIn h v.records = subst (IsIn h) (sym split.whole) (in_left h front split.rest heard.there) in
      let this = hears_by v device h hearing h.note.body in_all refl heard.shows in
      let sent = laws.hearings v device hearing.channel hearing.frame.point.0 this.judgement h is this.judges.hearer this.hears in
      record {
        h = h;
        this = this;
        emission = sent.0;
        cm = sent.1.cm;
        is_emission = sent.1.emission;
        good = λ good. good_hearing laws v n t block.before is (went_so goes v n t block is) device hearing.channel hearing.frame.point.0 h
            (split.only h heard.there) this.judgement this.judges.hearer this.hears (heard_late n block is at.has at.old split heard)
            (λ e c f. good);
      }

  -- a frame with a good member that is heard outside is a pair of the other channel
  is_pair : (hearing : Hearing) → (hears : HearsSo v n t block device hearing) → HasGood v (members_by hears.h) → IsOutside hearing
      → IsPair v n t (members_by hears.h)
  is_pair hearing hears good outside =
      let own = members_by hears.h in
      let g = hears.good good in
      let this = hears.this in
      let lt = sooner (time_of hears.h) at g.not_late in
      let never : (3 ≤ count_of own) ⊎ AreGood v own → ⊥ = λ enough.
      this.judges.outside outside (heard_within goes v n t block is laws device hearing.channel hearing.frame.point.0 this.judgement hears.h at lt
      this.judges.hearer this.hears g enough) in
      let two : count_of own ≤ 2 = elim (cases_lt 2 (count_of own)) [
        | inl many ↦
            absurd (never (inl (omega arith)))
        | inr few ↦ few
      ] in
      let before : time_of g.emission < t = omega (arith, g.in_order) in
      let other : hearing.channel ≡ other_channel v.channel = elim (either_channel v.channel hearing.channel) [
        | inr yes_other ↦ yes_other
        | inl same ↦
            let both = same_sent goes v n t block is _ _ _ _ own sound.sent
            (rw same at g.sent) sound.before before in
            absurd (omega (arith, ap (λ m. count_of m) both.1, sound.three))
      ] in
      elim (good_or_bad is hears.is_emission) [
        | inr all ↦ absurd (never (inr all))
        | inl bad ↦ record {
          emission = g.emission;
          sent = rw other at g.sent;
          before = before;
          two = two;
          member = bad.0;
          is_member = bad.1;
          bad = bad.2;
        }
      ]

  -- what is heard outside is such a pair or a broken master alone
  kinds : (hearing : Hearing) → IsIn hearing (heard_since v.scenario front device t) → IsOfKind v n t hearing
  kinds hearing i = by hearing.within refl
    where
      by : (b : Bool) → hearing.within ≡ b → IsOfKind v n t hearing
      by true e = inr (inr (λ out. both_ways hearing.within out e))
      by false out =
          let hears = hears_so hearing i in
          let own = members_by hears.h in
          let same : own ≡ hearing.frame.members = rw hears.this.members in
          elim (members_are_masters v hears.emission hears.cm (cycle_in hears.h) own is hears.is_emission).1 [
            | inl good ↦ inl (out, subst (IsPair v n t) same (is_pair hearing hears good out))
            | inr bad ↦
                let m = made_of is hears.is_emission in
                let first_is = ap (λ x. bit_at x m.first.master) m.members_are ∙ member_of_point (m.first ∷ m.more)
                m.first (inl refl) in
                inr (inl (out, subst (IsLone v) same (record { bad = bad.0; one = bad.1; member = m.first.master; is_member = first_is })))
          ]

  -- so two masters at most were heard outside
  pub few_heard_outside : (outside : Members) → AreOutside (heard_since v.scenario front device t) outside → count_of outside ≤ 2
  few_heard_outside outside are =
      elim (one_or_all (λ h. IsOutside h × IsPair v n t h.frame.members) (IsLoneIfOutside v) heard kinds) [
        | inl pair ↦ omega (arith, within pair.0.frame.members (λ h j out i set. in_pair pair.0.frame.members pair.2.1 h i out set (kinds h j)), pair.2.1.two)
        | inr rest ↦ elim (one_or_all (λ h. IsOutside h × IsLone v h.frame.members) (λ h. IsOutside h → ⊥) heard rest) [
          | inl lone ↦
              let l = lone.2.1 in
              let few = within lone.0.frame.members (λ h j out i set.
              alike l.member i lone.0.frame.members l.is_member (l.bad l.member l.is_member) (lone_bad h i out set (rest h j))) in
              omega (arith, l.one)
          | inr all ↦ omega (arith, within none (λ h j out i set. absurd (all h j out)), ones_le_self 0)
        ]
      ]
    where
      heard : List Hearing
      heard = heard_since v.scenario front device t

      within : (members : Members) → ((h : Hearing) → IsIn h heard → IsOutside h → (i : ℕ) → IsMember i h.frame.members → IsMember i members)
          → count_of outside ≤ count_of members
      within members each =
          sets_within outside members (λ i set.
          (let found = any_is (λ h. IsOutside h × IsMember i h.frame.members) heard ((are i).0 set) in each found.0 found.1 found.2.0 i found.2.1))

      alike : (i j : ℕ) (members : Members) → IsMember i members → IsBadMember v i → IsBadMember v j → IsMember j members
      alike i j members set a b =
          rw (same_some (Some j) i j (sym b.1 ∙ ap (member_of v.scenario.network) (one_bad v a.0 b.0 is a.2 b.2) ∙ a.1)
          refl) at set

      lone_bad : (h : Hearing) (i : ℕ) → IsOutside h → IsMember i h.frame.members → IsLoneIfOutside v h → IsBadMember v i
      lone_bad h i out set (inl lone) = lone.1.bad i set
      lone_bad h i out set (inr not_out) = absurd (not_out out)

      in_pair : (members : Members) → IsPair v n t members → (h : Hearing) (i : ℕ) → IsOutside h → IsMember i h.frame.members → IsOfKind v n t h
          → IsMember i members
      in_pair members p h i out set (inl both) =
          subst (IsMember i) (same_sent goes v n t block is _ _ _ _ members both.1.sent p.sent both.1.before p.before).1 set
      in_pair members p h i out set (inr rest) = alike p.member i members p.is_member p.bad (lone_bad h i out set rest)

-- ---- the correction points of the devices that are to keep the time correct their clocks, and share one frame

-- ---- the best frame

all_is : {X : Type 0} (P : X → Type 0) (xs : List X) (x : X) → All P xs → IsIn x xs → P x
all_is P [] x all i = absurd i
all_is {X} P (y ∷ xs) x all (inl same) = subst P (sym same) (All-head P y xs all)
all_is {X} P (y ∷ xs) x all (inr more) = all_is P xs x (All-tail P y xs all) more

not_more : (frame other : HeardFrame) → IsBehind frame other ⊎ IsLevel frame other → count_of frame.members ≤ count_of other.members
not_more frame other (inl (inl lt)) = omega arith
not_more frame other (inl (inr both)) = omega (arith, both.0)
not_more frame other (inr level) = omega (arith, level.0)

-- where a frame was heard within by the channel, its best frame has no fewer members
pub best_has : (heard : List Hearing) (channel : Channel) (frame : HeardFrame) (o : Option HeardFrame) → IsBestOf heard channel o
    → IsIn (within_on channel frame) heard → (best : HeardFrame) × (o ≡ Some best) × (count_of frame.members ≤ count_of best.members)
best_has heard channel frame None none i =
    absurd (all_is (λ h. IsWithinOn channel h → ⊥) heard (within_on channel frame) none i (record { channel_is = refl; within_is = refl }))
best_has heard channel frame (Some best) is i =
    (best, refl, by (in_parts (within_on channel frame) is.before (within_on channel best ∷ is.after) (subst (IsIn (within_on channel frame)) is.is_heard i)))
  where
    own : IsWithinOn channel (within_on channel frame)
    own = record { channel_is = refl; within_is = refl }

    by : IsIn (within_on channel frame) is.before ⊎ IsIn (within_on channel frame) (within_on channel best ∷ is.after)
        → count_of frame.members ≤ count_of best.members
    by (inl before) =
        not_more frame best (all_is (λ h. IsWithinOn channel h → IsBehind h.frame best ⊎ IsLevel h.frame best) is.before (within_on channel frame) is.earlier
        before own)
    by (inr (inl same)) = (let counts = ap (λ h. count_of h.frame.members) same in omega arith)
    by (inr (inr after)) =
        not_more frame best
        (inl (all_is (λ h. IsWithinOn channel h → IsBehind h.frame best) is.after (within_on channel frame) is.later after own))

-- ---- the verdict

-- the best frame of the channel has enough members, and more than were heard outside
pub record HasBest (standing : Standing) (summary : Summary) (channel : Channel) : Type 0 where
  pub best : HeardFrame
  pub is : best_on channel summary ≡ Some best
  pub enough : standing.plan.threshold ≤ count_of best.members
  pub more : count_of summary.outside < count_of best.members

some_qualifies : {standing : Standing} {summary : Summary} (channel : Channel) → HasBest standing summary channel
    → SomeQualifies standing summary
some_qualifies A b = inl (rw b.is b.enough)
some_qualifies B b = inr (rw b.is b.enough)

module _ (laws : FramesGoSo) (goes : BlocksGoSo) (v : View) (n t : ℕ) (block : IsInBlock v n t) (is : IsView v) (device : DeviceId)
    (at : IsAtPoint v n t block device) (hull : Hull) (is_hull : hull_of v (suc n) ≡ Some hull) (sound_sends : SendsSo v n hull) (channel : Channel)
    (member : IsDeviceOf v.scenario.network channel device) (sends : SendsOn v channel n hull) (intact : IsWholeFrom v channel (time_of sends.first))
    (front : List Happening) (split : AreBeforeCorrections v t front) (summary : Summary)
    (sums : Summarizes summary (heard_since v.scenario front device t)) where
  abbrev on_standing : Standing
  on_standing = standing_before v.scenario front device t

  many_of : (c : Channel) (s : SendsOn v c n hull) → 3 ≤ count_of s.members
  many_of c s = (let enough = s.enough in omega (arith, (is.lawful.rules Masters 2).threshold_least refl))

  in_time : (c : Channel) (s : SendsOn v c n hull) → IsSentInTime v n block.before s.first
  in_time c s = sent_in_time block.before s.first is is_hull s.near

  sent_sound : SoundIsSent v n t sound_sends.first sound_sends.members
  sent_sound = record {
    sent = record {
      cm = sound_sends.cm;
      emission = sound_sends.emission;
      of_channel = cm_of_channel v v.channel sound_sends.cm sound_sends.is_cm;
      good = laws.three v sound_sends.first sound_sends.cm (suc n) sound_sends.members is sound_sends.emission (many_of v.channel sound_sends);
    };
    before = (let soon = (in_time v.channel sound_sends).soon in
        let lt = sooner (time_of sound_sends.first + v.sizes.dmax + v.sizes.path) at soon in omega arith);
    three = many_of v.channel sound_sends;
  }

  -- the frame of the channel was heard within
  heard_on : (frame : HeardFrame) × IsIn (within_on channel frame) (heard_since v.scenario front device t)
      × (count_of sends.members ≤ count_of frame.members)
  heard_on =
      let r = receives v channel n t block is device sends.cm member at sends.is_cm sends.first sends.members sends.emission (in_time channel sends) goes intact in
      let h = r.h in
      let same : count_of (members_by h) ≡ count_of sends.members = rw r.members_are in
      let many : 3 ≤ count_of (members_by h) = omega (arith, many_of channel sends) in
      let lt = sooner (time_of h) at r.late in
      let g = good_hearing laws v n t block.before is (went_so goes v n t block is) device channel r.point h
      (omega arith) r.judgement r.hearer r.hears
      (late_from n (time_of h) block.before is r.from) (λ e cm f. laws.three v e cm _ (members_by h) is f many) in
      let within = heard_within goes v n t block is laws device channel r.point r.judgement h at lt r.hearer r.hears g (inl many) in
      let hears : HearsBy v device channel r.point Within h = rw within at r.hears in
      let shown = heard_within_by hears in
      let hearing = heard_by channel h shown.0 true in (
        hearing.frame,
        is_since v n t block is device at front split h hearing hears.there r.from lt shown.1,
        omega
            arith,
      )

  -- so the channel has a best frame of enough members, and more than were heard outside
  pub best_is_enough : HasBest (standing_before v.scenario front device t) summary channel
  best_is_enough =
      let b = best_has (heard_since v.scenario front device t) channel heard_on.0 (best_on channel summary) (sums.best channel) heard_on.1 in
      let few = few_heard_outside laws goes v n t block is device at sound_sends.first sound_sends.members sent_sound front split summary.outside sums.outside in
      record {
        best = b.0;
        is = b.1;
        enough = omega (arith, sends.enough, heard_on.2, b.2);
        more = omega (arith, many_of channel sends, heard_on.2, b.2);
      }

  -- and the point is not one of the cliques
  pub corrects_on : (verdict : Verdict) → HasVerdict (standing_before v.scenario front device t) summary verdict → (by : Units) × (verdict ≡ Corrected by)
  corrects_on Cleared has = absurd (not_integrating v n t block is device at front split has)
  corrects_on SyncClique has = absurd (has.1 (some_qualifies channel best_is_enough))
  corrects_on AsyncClique has =
      let best = best_is_enough in
      let few = rw best.is at (has.2 channel) in
      absurd (omega (arith, best.more))
  corrects_on (Corrected by) has = (by, refl)

module _ (laws : FramesGoSo) (goes : BlocksGoSo) (v : View) (n t : ℕ) (block : IsInBlock v n t) (is : IsView v) (device : DeviceId) (firm : IsFirm v device)
    (at : IsAtPoint v n t block device) (hull : Hull) (is_hull : hull_of v (suc n) ≡ Some hull) (sends : SendsSo v n hull) (front : List Happening)
    (split : AreBeforeCorrections v t front) (summary : Summary) (sums : Summarizes summary (heard_since v.scenario front device t)) where
  abbrev standing : Standing
  standing = standing_before v.scenario front device t

  abbrev deviation : Channel → Option Units
  deviation channel = deviation_on standing summary channel

  sound : SoundIsSent v n t sends.first sends.members
  sound = sent_sound laws goes v n t block is device at hull is_hull sends v.channel (firm_member firm) sends
      (sound_is_whole (time_of sends.first) is) front split summary sums

  has_best : HasBest standing summary v.channel
  has_best = best_is_enough laws goes v n t block is device at hull is_hull sends v.channel (firm_member firm) sends
      (sound_is_whole (time_of sends.first) is) front split summary sums

  -- the deviation of a channel is by a frame
  by_frame : (channel : Channel) (dev : Units) → deviation channel ≡ Some dev → IsByFrame v n t block.before device channel dev
  by_frame channel dev e = is_by_frame laws block is (went_so goes v n t block is) at.has at.old split sums channel dev
      (best_on channel summary) refl e

  -- that of the sound channel is by the frame that all share
  shared : (by : Units) → correction_of (deviation A) (deviation B) ≡ Some by → IsSharedCorrection v n t hull (base_of v.sizes (time_of sends.first)) device by
  shared by e =
      let dev = deviation_by standing has_best.best in
      let is_dev = ap (λ o. option_and_then (λ frame. if nat_le standing.plan.threshold (count_of frame.members)
      then Some (deviation_by standing frame) else None) o) has_best.is
      ∙ ap (λ t. if t then Some dev else None) (le-leb standing.plan.threshold (count_of has_best.best.members)
      has_best.enough) in
      let f = by_frame v.channel dev is_dev in
      let o = opposite v.channel in
      let in_order = f.heard.in_order in
      let lt = sooner (time_of f.h) at f.heard.not_late in
      let same = same_sent goes v n t block is v.channel f.heard.emission sends.first (members_by f.h) sends.members f.heard.sent sound.sent
      (omega arith) sound.before in
      rw (same_some _ _ _ f.heard.is_hull is_hull) at (rw same.0 at (shared_by v n t block.before is device v.channel
      o.0 dev by (deviation o.0) f (by_frame o.0)
      (rw (sym is_dev) o.1)))
    where
      opposite : (channel : Channel) → (other : Channel) × (correction_of (deviation channel) (deviation other) ≡ Some by)
      opposite A = (B, e)
      opposite B = (A, turned (deviation B) (deviation A) ∙ e)

  corrects_so : (verdict : Verdict) → HasVerdict standing summary verdict → (by : Units) × (verdict ≡ Corrected by)
  corrects_so = corrects_on laws goes v n t block is device at hull is_hull sends v.channel (firm_member firm) sends
      (sound_is_whole (time_of sends.first) is) front split summary sums

  -- the point comes to a correction
  corrects : (verdict : Verdict) → HasVerdict standing summary verdict
      → (by : Units) × (verdict ≡ Corrected by) × (IsGoodEnd v device → IsSharedCorrection v n t hull (base_of v.sizes (time_of sends.first)) device by)
  corrects Cleared has = (let wrong = (corrects_so Cleared has).1 in absurd cc)
  corrects SyncClique has = (let wrong = (corrects_so SyncClique has).1 in absurd cc)
  corrects AsyncClique has = (let wrong = (corrects_so AsyncClique has).1 in absurd cc)
  corrects (Corrected by) has = (by, refl, λ end. shared by has.3)

-- ---- the law

pub firm_devices_correct : FramesGoSo → SoundMasterSends → BlocksGoSo → FirmDevicesCorrect
firm_devices_correct laws sent goes v n t block is late =
    let s = sent v n t block is late in
    let sends = s.2 in (
      s.0,
      s.1,
      record {
        shared = base_of v.sizes (time_of sends.first);
        near = sends.near;
        each = λ u own device cycle verdict firm has old comes.
            (let point = (goes v n u own is).points device cycle verdict has old comes in
            let at : IsAtPoint v n u own device = record { has = has; old = old; late = point.not_early } in
            corrects laws goes v n u own is device firm at s.0 s.1 sends comes.front comes.split comes.point.summary comes.point.heard verdict
            comes.point.comes);
      },
    )

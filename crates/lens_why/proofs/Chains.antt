-- Chains of causes: there is one and only one, each record is so by its ground, and they are whole.
use Rattle.std.{specs.{Option.option_map_or, Prelude.{All, IfSome, nat_lt}}}
use Rattle.std.proofs.{lemmas.{Bool.eqb-true, List.Elements.recursion_from_All}}
use Rattle.std.proofs.Common
use Common.{if◌then◌else◌, ◌++◌, ◌<◌, ◌==◌, ◌∙◌, ◌∷◌, ◌≡◌, ◌≤ℤ◌, Bool, List, None, Option, Some, [], ap, append_assoc}
use Common.{arith, false, inl, inr, length, refl, subst, suc, sym, true, zero, ℕ}
use Rattle.audit_devices.{proofs.stretches_lemmas.Stretches.rising_law}
use Rattle.audit_devices.{specs.stretches.{Changes.{change_by, collector_in}, Points.MayBring}}
use Rattle.audit_law.proofs.collections_lemmas.Clusters.{AreBefore}
use Rattle.compression.specs.Clusters.{Point, point_at}
use Rattle.lens_why.proofs.{Comings.{IsNoneOrThere, comes_from_earlier, since_so}, Cutting.{cut_before, founded_of}}
use Rattle.lens_why.proofs.{Deciding.{clique_by, corrected_by, early_so, gate_so, late_so, left_by, outnumbered_by}}
use Rattle.lens_why.proofs.{LastRecords.parted_there}
use Rattle.lens_why.proofs.{Permanents.{ComeInOrder, joined_so, opened_so, outside_so, repeat_so, within_so}}
use Rattle.lens_why.specs.{Answer.{IsWhyAnswer, chain_answer, number_refused_answer}, Chain.IsWholeChain}
use Rattle.lens_why.specs.{Decisions.{GroundsDecide, IsCutBefore, IsDecidedBy}, Grounds.{ground_by, lost_ground}}
use Rattle.lens_why.specs.{Laws.{HasWhy, WhyLaw}}
use Rattle.net_plan.specs.{Places.link_at}
use Rattle.net_plan.specs.declared.{event.What.TheVariants.Send, ids.{DeviceId.DeviceId, LinkId.LinkId, VlId.VlId}}
use Rattle.net_plan.specs.declared.{network.Network.Network, tables.{Link.Link, Way.TheVariants.{Down, Up}}}
use Rattle.precision_law.proofs.trips.Legs.{no_loop}
use Rattle.run_law.{proofs.law.FirstDeliveries.{deliveries_begin, front_founded, number_is, numbered_in}}
use Rattle.run_law.specs.{declared.{judgement.Judgement.Judgement, note.{Note.Note, NoteBody.NoteBody}}}
use Rattle.run_law.specs.{device.States.cycle_in, law.FirstLaws.IsBeginning}
use Rattle.run_law.specs.{runs.{DueRecords.{IsCaused, IsDue}, Runs.IsFounded}}
use Rattle.run_law.specs.{scenario.{Devices.is_cm, Scenarios.Scenario, Ways.{is_cut, way_from}}}
use Rattle.run_law.specs.control.{Collections.{ends_stretch, master_of, point_by, points_of}}
use Rattle.run_law.specs.control.{Leaving.{clock_at_leaving, leaves, on_cut_way, too_old}, Losses.IsLost}
use Rattle.run_law.specs.records.{Causes.{IsChain, cause_of, last_from}}
use Rattle.run_law.specs.records.{Happenings.{Happening, happenings, numbered, time_of}}
use Rattle.run_law.specs.records.{Ranks.{members_in, place_of, rank}}
use Rattle.schedule_tables.specs.Rules.{KeepsRules}
use Rattle.tte_audit.{proofs.{ReportRuns.audit_run, RightEvents.clocked}, specs.Report.{behind_time, scenario_of}}
use Rattle.tte_forms.specs.Answering.{Answer}
use Rattle.tte_reports.{proofs.Answers.kept_apart, specs.Reports.{IsOneFor, IsReportOf}}
use Rattle.tte_units.{proofs.general_lemmas.Options.{some_or_none, some_same}}
use Rattle.tte_units.{specs.{Amount.amount, declared.units.Units.Units}}
use Rattle.audit_law.specs.law.DueRecords as audits
use Rattle.run_law.specs.declared.judgement.Judgement.TheVariants as judgements
use Rattle.run_law.specs.declared.judgement.Reason.TheVariants as reasons
use Rattle.run_law.specs.declared.judgement.Why.TheVariants as whys
use Rattle.run_law.specs.declared.note.NoteBody.TheVariants as notes

-- ---- chains of causes: that there is one, and only one, and that it goes back

-- from the number the causes go by these records to a number
abbrev pub Along : List Happening → ℕ → List Happening → ℕ → Type 0
Along hs n [] m = n ≡ m
Along hs n (g ∷ gs) m = (numbered hs n ≡ Some g) × Along hs (cause_of g.note.body) gs m

module _ (hs : List Happening) where
  -- 0 is the number of none
  pub none_at_zero : (n : ℕ) (h : Happening) → n ≡ 0 → numbered hs n ≡ Some h → ⊥
  none_at_zero zero h e there = cc
  none_at_zero (suc n) h e there = cc

  -- one more record
  pub along_more : (n : ℕ) (xs : List Happening) (m : ℕ) (g : Happening) → Along hs n xs m → numbered hs m ≡ Some g
      → Along hs n (xs ++ g ∷ []) (cause_of g.note.body)
  along_more n [] m g a there = (subst (λ k. numbered hs k ≡ Some g) (sym a) there, refl)
  along_more n (x ∷ xs) m g a there = (a.0, along_more (cause_of x.note.body) xs m g a.1 there)

  -- some records and then others
  pub along_both : (n : ℕ) (xs : List Happening) (m : ℕ) (ys : List Happening) (k : ℕ) → Along hs n xs m
      → Along hs m ys k → Along hs n (xs ++ ys) k
  along_both n [] m ys k a b = subst (λ i. Along hs i ys k) (sym a) b
  along_both n (x ∷ xs) m ys k a b = (a.0, along_both (cause_of x.note.body) xs m ys k a.1 b)

  -- there is one way to a record without a cause
  pub one_along : (n : ℕ) (xs ys : List Happening) → Along hs n xs 0 → Along hs n ys 0 → xs ≡ ys
  one_along n [] [] a b = refl
  one_along n [] (y ∷ ys) a b = absurd (none_at_zero n y a b.0)
  one_along n (x ∷ xs) [] a b = absurd (none_at_zero n x b a.0)
  one_along n (x ∷ xs) (y ∷ ys) a b =
      let same : x ≡ y = some_same x y (numbered hs n) a.0 b.0 in
      let rest : xs ≡ ys = one_along (cause_of y.note.body) xs ys
      (subst (λ (h : Happening). Along hs (cause_of h.note.body) xs 0) same a.1) b.1 in
      ap (λ (h : Happening). h ∷ xs) same ∙ ap (λ (hs : List Happening). y ∷ hs) rest

  -- what is behind a record of the way
  pub along_behind : (n : ℕ) (front : List Happening) (h : Happening) (rest : List Happening)
      → Along hs n (front ++ h ∷ rest) 0 → (m : ℕ) × (numbered hs m ≡ Some h) × Along hs (cause_of h.note.body) rest 0
  along_behind n [] h rest a = (n, a.0, a.1)
  along_behind n (x ∷ front) h rest a = along_behind (cause_of x.note.body) front h rest a.1

  -- ---- as a chain

  pub chain_of : (h : Happening) (gs : List Happening) → Along hs (cause_of h.note.body) gs 0
      → IsChain hs h gs × (cause_of (last_from h gs).note.body ≡ 0)
  chain_of h [] a = (tt, a)
  chain_of h (g ∷ gs) a = let r = chain_of g gs a.1 in ((a.0, r.0), r.1)

  pub along_of : (h : Happening) (gs : List Happening) → IsChain hs h gs → cause_of (last_from h gs).note.body ≡ 0
      → Along hs (cause_of h.note.body) gs 0
  along_of h [] c e = e
  along_of h (g ∷ gs) c e = (c.0, along_of g gs c.1 e)

  pub whole_of : (n : ℕ) (h : Happening) (gs : List Happening) → Along hs n (h ∷ gs) 0 → IsWholeChain hs n h gs
  whole_of n h gs a = let r = chain_of h gs a.1 in record { there = a.0; chain = r.0; ends = r.1 }

  pub along_whole : {n : ℕ} {h : Happening} {gs : List Happening} → IsWholeChain hs n h gs → Along hs n (h ∷ gs) 0
  along_whole {h} {gs} w = (w.there, along_of h gs w.chain w.ends)

-- ---- in a run

module _ (s : Scenario) (hs : List Happening) (founded : IsFounded place_of (IsDue s) hs) where
  -- there is a way from each number of a record, and from none
  along_below : (k n : ℕ) → n < k → IsNoneOrThere hs n → (chain : List Happening) × Along hs n chain 0
  along_below zero n small c = absurd (omega (arith, small))
  along_below (suc k) n small (inl none) = ([], none)
  along_below (suc k) n small (inr h) =
      elim (comes_from_earlier s hs founded n h.0 h.1) [
        | inl none ↦ (h.0 ∷ [], (h.1, none))
        | inr g ↦ let rest = along_below k (cause_of h.0.note.body) (omega (arith, small, g.2)) (inr (g.0, g.1)) in (h.0 ∷ rest.0, (h.1, rest.1))
      ]

  pub along_there : (n : ℕ) → IsNoneOrThere hs n → (chain : List Happening) × Along hs n chain 0
  along_there n c = along_below (suc n) n (omega arith) c

  -- it goes back
  pub goes_back : (n : ℕ) (front rest : List Happening) (h g : Happening) → Along hs n (front ++ h ∷ (g ∷ rest)) 0 → g.note.number < h.note.number
  goes_back n front rest h g a =
      let b = along_behind hs n front h (g ∷ rest) a in
      let there = b.2.0 in
      let of_h = number_is s hs b.0 h founded b.1 in
      let of_g = number_is s hs (cause_of h.note.body) g founded there in
      elim (comes_from_earlier s hs founded b.0 h b.1) [
        | inl none ↦ absurd (none_at_zero hs (cause_of h.note.body) g none there)
        | inr e ↦ omega (arith, e.2, of_h, of_g)
      ]

-- ---- the law: the chains that are told are whole

-- a beginning has no cause
begins_alone : (body : NoteBody) → IsBeginning body → cause_of body ≡ 0
begins_alone (notes.TtSent device link cause vl cycle) begins = begins
begins_alone (notes.Event line (Send link octets)) begins = refl
begins_alone other begins = absurd begins

pub never_none : (hs : List Happening) (n : ℕ) (h : Happening) → numbered hs n ≡ None → numbered hs n ≡ Some h → ⊥
never_none hs n h none some = cc

same_rest : (x y : Happening) (xs ys : List Happening) → x ∷ xs ≡ y ∷ ys → xs ≡ ys
same_rest x y xs ys e = cc

module _ (network : Network) (octets : List ℕ) (ns : List Note) (end : Units) (of : IsReportOf network octets ns end) where
  abbrev all : List Happening
  all = happenings network ns

  -- the whole chain of a record is one
  one_chain : (number : ℕ) (first other : Happening) (causes others : List Happening) → IsWholeChain all number first causes
      → IsWholeChain all number other others → first ∷ causes ≡ other ∷ others
  one_chain number first other causes others a b =
      one_along all number (first ∷ causes) (other ∷ others) (along_whole all a) (along_whole all b)

  there_is : (number : ℕ) → (a : Answer) × IsWhyAnswer number network ns end a
  there_is number =
      elim (some_or_none (numbered all number)) [
        | inl h ↦
            let chain = along_there (scenario_of network ns) all (founded_of of) number (inr h) in
            as_answer chain.0 chain.1 h.0 h.1
        | inr none ↦ (number_refused_answer number (length ns), inl (none, refl))
      ]
    where
      as_answer : (chain : List Happening) → Along all number chain 0 → (h : Happening) → numbered all number ≡ Some h
          → (a : Answer) × IsWhyAnswer number network ns end a
      as_answer [] along h there = absurd (none_at_zero all number h along there)
      as_answer (g ∷ gs) along h there = (chain_answer network ns (g ∷ gs), inr (g, gs, whole_of all number g gs along, refl))

  is_one : (number : ℕ) (a b : Answer) → IsWhyAnswer number network ns end a → IsWhyAnswer number network ns end b → a ≡ b
  is_one number a b (inl p) (inl q) = p.1 ∙ sym q.1
  is_one number a b (inl p) (inr q) = absurd (never_none all number q.0 p.0 q.2.there)
  is_one number a b (inr p) (inl q) = absurd (never_none all number p.0 q.0 p.2.there)
  is_one number a b (inr p) (inr q) = p.3 ∙ ap (chain_answer network ns) (one_chain number p.0 q.0 p.1 q.1 p.2 q.2) ∙ sym q.3

  begins : (number : ℕ) (first : Happening) (causes : List Happening) (device : DeviceId) (link : LinkId) (cause : ℕ) (vl : VlId) (cycle : ℕ)
      → IsWholeChain all number first causes → first.note.body ≡ notes.Delivered device link cause vl cycle → IsBeginning (last_from first causes).note.body
  begins number first causes device link cause vl cycle whole is =
      let back = deliveries_begin (scenario_of network ns) (behind_time end) ns first device link cause vl cycle of.run
      (numbered_in all number first whole.there) is in
      let to = back.1 in
      let last : cause_of (last_from first to.causes).note.body ≡ 0 =
      subst (λ (h : Happening). cause_of h.note.body ≡ 0) to.begins (begins_alone back.0.note.body back.2) in
      let other : IsWholeChain all number first to.causes = record { there = whole.there; chain = to.chain; ends = last } in
      let same : to.causes ≡ causes = same_rest first first to.causes causes (one_chain number first first to.causes causes other whole) in
      subst (λ gs. IsBeginning (last_from first gs).note.body) same
      (subst (λ (h : Happening). IsBeginning h.note.body) to.begins back.2)

  pub has_why : HasWhy network ns end
  has_why = record {
    answer = there_is;
    one = is_one;
    goes_back = λ number first causes whole front rest h g parts.
        goes_back (scenario_of network ns) all (founded_of of) number front rest h g
        (subst (λ chain. Along all number chain 0) parts (along_whole all whole));
    delivered = begins;
  }

pub why_law : WhyLaw
why_law network octets ns end of = has_why network octets ns end of

-- a report has one answer
pub why_answer_one : (number : ℕ) → IsOneFor (IsWhyAnswer number)
why_answer_one number network octets ns end a b rules of p q = (has_why network octets ns end of).one number a b p q

-- ---- each record of a report is so by its ground

true_is_false : true ≡ false → ⊥
true_is_false e = cc

-- ---- points

by_verdict : (d other : DeviceId) (link : LinkId) (cause : ℕ) (point : Units) (points : List Point) (verdict : Judgement)
    → ends_stretch d (notes.Permanent other link cause point verdict) ≡ false → (d.0 == other.0) ≡ true
    → IfSome (change_by (notes.Permanent other link cause point verdict)) (MayBring points) → All (λ q. q.reading ≤ℤ point.0) points
by_verdict d other link cause point points judgements.Integrates on e may = absurd (true_is_false (sym e ∙ on))
by_verdict d other link cause point points verdict on e may = may

-- a point that a record gives comes behind these, where it may
points_given : (d : DeviceId) (x : Happening) (points : List Point) (body : NoteBody) (p : Point) → ends_stretch d body ≡ false → point_by d x body ≡ Some p
    → (collector_in body ≡ Some d → IfSome (change_by body) (MayBring points)) → AreBefore points p.reading
points_given d x points (notes.Permanent other link cause point verdict) p on given may = by (d.0 == other.0) refl given
  where
    by : (b : Bool) → (d.0 == other.0) ≡ b → (if b then Some (point_at point.0 (master_of (members_in x)) (cycle_in x)) else None) ≡ Some p
        → AreBefore points p.reading
    by false e g = absurd cc
    by true e g =
        let mk : ℕ → DeviceId = λ n. record { 0 = n } in
        let same : other ≡ d = ap mk (sym (eqb-true d.0 other.0 e)) in
        let is : point_at point.0 (master_of (members_in x)) (cycle_in x) ≡ p = cc in
        subst (λ (q : Point). AreBefore points q.reading) is
        (recursion_from_All (λ (q : Point). q.reading ≤ℤ point.0) points (by_verdict d other link cause point points verdict on e (may (ap Some same))))
points_given d x points body p on given may = absurd cc

-- ---- ways

-- what meets a cut way finds it cut
cut_away : (old cut : Bool) (n : ℕ) → on_cut_way ≡ (if old then too_old else (if cut then on_cut_way else leaves n)) → cut ≡ true
cut_away true cut n e = absurd cc
cut_away false true n e = refl
cut_away false false n e = absurd cc

-- the child of a link sends up
goes_up : (n : Network) → KeepsRules n → (device : DeviceId) (link : LinkId) (l : Link) → link_at n link ≡ Some l → device ≡ l.child
    → way_from n device link ≡ Up
goes_up n rules device link l at is = by (l.parent.0 == device.0) refl
  where
    by : (b : Bool) → (l.parent.0 == device.0) ≡ b → way_from n device link ≡ Up
    by true e =
        let mk : ℕ → DeviceId = λ k. record { 0 = k } in
        let loop : l.child ≡ l.parent = sym is ∙ ap mk (sym (eqb-true l.parent.0 device.0 e)) in
        absurd (no_loop n rules link l at loop)
    by false e =
        ap (λ (b : Bool). if b then Down else Up) (ap (λ (o : Option Link). option_map_or (λ (k : Link). k.parent.0 == device.0) o false) at ∙ e)

-- ---- all_decided

module _ (network : Network) (octets : List ℕ) (ns : List Note) (end : Units) (rules : KeepsRules network) (of : IsReportOf network octets ns end)
    (number : ℕ) (h : Happening) (there : numbered (happenings network ns) number ≡ Some h) where
  abbrev own : Scenario
  own = scenario_of network ns

  abbrev all_decided : List Happening
  all_decided = happenings network ns

  abbrev before : List Happening
  before = (parted_there of number h there).before

  -- the points of a compression master come in order
  rises : (device : DeviceId) → is_cm network device ≡ true → ComeInOrder device before
  rises device cm ps qs x p parts on given =
      let named = kept_apart network rules of.range in
      let founded = (audit_run ns end named of.events.right of.run).founded in
      let at = parted_there of number h there in
      let whole : all_decided ≡ ps ++ x ∷ (qs ++ h ∷ at.later) = at.parts ∙ ap (λ (hs : List Happening). hs ++ h ∷ at.later) parts
      ∙ append_assoc ps (x ∷ qs) (h ∷ at.later) in
      let here = founded ps (qs ++ h ∷ at.later) x whole in
      let front = front_founded place_of (audits.IsDue own) ps (x ∷ (qs ++ h ∷ at.later)) (subst (IsFounded place_of (audits.IsDue own)) whole founded) in
      let order = rising_law own ps x of.range (λ d. ((clocked ns named of.events.right).clocks d).never_falls) front here.0 here.1 in
      points_given device x (points_of ps device) x.note.body p on given (λ of_device. order.stands device of_device cm)

  -- where a frame is lost its way is cut
  way_is_cut : (device : DeviceId) (link : LinkId) (cause : ℕ) → IsLost own before device (time_of h) link cause
      → is_cut own link (way_from network device link) (time_of h) ≡ true
  way_is_cut device link cause (inl departs) =
      cut_away (nat_lt (amount network.dmax) (clock_at_leaving own device departs.frame (time_of departs.giving) (time_of h)))
      (is_cut own link (way_from network device link) (time_of h)) (clock_at_leaving own device departs.frame (time_of departs.giving)
      (time_of h)) departs.becomes
  way_is_cut device link cause (inr (inl dispatch)) = dispatch.3
  way_is_cut device link cause (inr (inr sent)) =
      ap (λ w. is_cut own link w (time_of h)) (goes_up network rules device link sent.way sent.there sent.by) ∙ sent.cut

  lost_by : (device : DeviceId) (link : LinkId) (cause : ℕ) → h.note.body ≡ notes.Lost device link cause
      → IsCutBefore all_decided h link (way_from network device link) (lost_ground network all_decided h device link)
  lost_by device link cause is =
      let p = parted_there of number h there in
      let nine : rank h.note.body ≡ 9 = ap rank is in
      let lost : IsLost own before device (time_of h) link cause = subst (λ b. IsCaused own before h.note.time b) is
      (of.run.founded p.before p.later h p.parts).1.cause in
      cut_before network octets ns end of number h there link (way_from network device link) (omega (arith, nine)) (way_is_cut device link cause lost)

  by_body : (body : NoteBody) → h.note.body ≡ body → IsDecidedBy own all_decided h body (ground_by own all_decided h body)
  by_body (notes.Left device link cause clock) is = left_by of number h there device link cause clock is
  by_body (notes.Corrected device cycle by adjustment) is = corrected_by network octets ns end rules of number h there device cycle by adjustment is
  by_body (notes.State device state cause whys.SyncClique) is = clique_by network octets ns end rules of number h there device state cause is
  by_body (notes.State device state cause whys.AsyncClique) is = outnumbered_by network octets ns end rules of number h there device state cause is
  by_body (notes.State device state cause why) is = tt
  by_body (notes.Permanent device link cause point judgements.Within) is =
      within_so network octets ns end of number h there device link cause point judgements.Within is refl
  by_body (notes.Permanent device link cause point judgements.Outside) is =
      outside_so network octets ns end of number h there device link cause point judgements.Outside is refl
  by_body (notes.Permanent device link cause point judgements.Opened) is =
      opened_so network octets ns end of number h there device link cause point judgements.Opened is (rises device) refl
  by_body (notes.Permanent device link cause point judgements.Joined) is =
      joined_so network octets ns end of number h there device link cause point judgements.Joined is (rises device) refl
  by_body (notes.Permanent device link cause point judgements.Repeat) is =
      repeat_so network octets ns end of number h there device link cause point judgements.Repeat is (rises device) refl
  by_body (notes.Permanent device link cause point verdict) is = tt
  by_body (notes.Lost device link cause) is = lost_by device link cause is
  by_body (notes.Dropped device link cause reasons.Early) is = early_so network octets ns end of number h there device link cause reasons.Early is refl
  by_body (notes.Dropped device link cause reasons.Late) is = late_so network octets ns end of number h there device link cause reasons.Late is refl
  by_body (notes.Dropped device link cause reasons.Gate) is = gate_so network octets ns end of number h there device link cause reasons.Gate is refl
  by_body (notes.Dropped device link cause reasons.Unsynchronised) is = since_so network octets ns end of number h there device
  by_body (notes.Dropped device link cause reason) is = tt
  by_body other is = tt

pub grounds_decide : GroundsDecide
grounds_decide network octets ns end number h rules of there = by_body network octets ns end rules of number h there h.note.body refl

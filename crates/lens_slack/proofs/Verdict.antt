-- The answer of `slack`: done exactly where all rules are kept, else the first finding that is short.
use Rattle.std.{specs.{List.All, Prelude.{if◌then◌else◌, ◌/◌, ◌==◌, cond}}}
use Rattle.std.proofs.Common
use Common.{◌*◌, ◌++◌, ◌+◌, ◌<◌, ◌∙◌, ◌∷◌, ◌≡◌, ◌≤◌, ◌⊎◌, Bool, Err, List, None, Ok, Option, Some, [], ap, arith, false}
use Common.{inl, inr, refl, subst, suc, sym, true, zero, ℕ}
use Rattle.std.proofs.lemmas.{Bool.{cases_lt, eq-eqb, eqb-true, le-ltb, lt-ltb}}
use Rattle.std.proofs.lemmas.List.{Elements.{All-append, All-cons, All-nil}, Sums.{sum_by-append, sum_by-cons}}
use Rattle.std.proofs.lemmas.List.{append_assoc}
use Rattle.lens_slack.proofs.{Taken.bounds_decide}
use Rattle.lens_slack.proofs.Spots.{bound_spot, bounds_met, channel_number, has_number, number_spot, one_at, one_of}
use Rattle.lens_slack.proofs.Spots.{path_number, spot_met}
use Rattle.schedule_checker.proofs.ShapeRules.{refusal_is_one, same_rule, tree_of}
use Rattle.lens_slack.specs.{Answer.{IsFileAnswer, IsSlackOf, ending_status, found_answer}}
use Rattle.lens_slack.specs.{Finds.{AreFound, AreOf, IsFoundIn, shorts_of, some_found}, Inequalities.IsInequality}
use Rattle.lens_slack.specs.{Laws.{IsFirstShort, KeepsOthers, SlackAccepts, SlackRefuses}}
use Rattle.lens_slack.specs.{Lines.{spot_index, spot_rule}, Spots.{IsSpotAt, IsTightestOf, rule_of, spot_at, spots_of}}
use Rattle.lens_slack.specs.{Steps.{all_steps, rule_steps}, Tightest.{IsEnough, IsTightestAt, is_short}}
use Rattle.lens_slack.specs.declared.{measuring.Ending.{Ending, TheVariants.{Broken, Whole}}}
use Rattle.lens_slack.specs.declared.{spot.{BoundedNumber.BoundedNumber, Finding.Finding, Measure.Measure}}
use Rattle.lens_slack.specs.declared.{step.Step.{Step, TheVariants.{Judged, Listed, Measured}}}
use Rattle.net_file.specs.{Schema.network_read, declared.refusal.FileRefusal.FileRefusal}
use Rattle.net_plan.{proofs.Trees.rules_give_trees, specs.{Paths.IsTree, declared.network.Network.Network}}
use Rattle.schedule_checker.specs.{Judging.{BreaksAt, plan_rule}}
use Rattle.schedule_checker.specs.{declared.{parts.PlanRule.PlanRule, refusal.RuleBroken.RuleBroken}}
use Rattle.schedule_tables.specs.{Numbers.number_of, Rules.{IsFirstBroken, IsKept, IsKeptAt, KeepsBelow, KeepsRules}}
use Rattle.schedule_tables.specs.declared.rule.Rule.{Rule}
use rules.{BothChannels, CompressionMasters, Connections, Correction, Delays, DevicesDiffer, Forwarding, Joints}
use rules.{Limits, LinksDiffer, LinksOnce, Masters, Periods, Precision, RowsOfDevice, ScheduleStart, Senders}
use rules.{Settling, Sources, Spacing, Targets, VlIdsDiffer, VlNamesDiffer, WindowEnds}
use Rattle.tte_forms.specs.{Answering.Answer, declared.status.Status.TheVariants.{Done, NetworkRefused}}
use Rattle.tte_forms.specs.{networks.{Accepting.refused_answer, NetworkLine.file_reason}}
use Rattle.tte_units.specs.declared.frames.channel.Channel.TheVariants.{A, B}
use Rattle.lens_slack.specs.declared.spot.Measure.TheVariants as measures
use Rattle.schedule_tables.specs.declared.rule.Rule.TheVariants as rules

-- ---- `slack` is done exactly where all rules are kept: counting what is short

-- the finding, if there is one, is enough
abbrev pub IsMet : Option Finding → Type 0
IsMet None = Unit {0}
IsMet (Some f) = IsEnough f

count_short : (f : Finding) (fs : List Finding) → f.has < f.wants → shorts_of (f ∷ fs) ≡ 1 + shorts_of fs
count_short f fs less = sum_by-cons (λ x. cond (is_short x) 1 0) f fs ∙ ap (λ (b : Bool). cond b 1 0 + shorts_of fs) (lt-ltb f.has f.wants less)

count_enough : (f : Finding) (fs : List Finding) → IsEnough f → shorts_of (f ∷ fs) ≡ 0 + shorts_of fs
count_enough f fs enough = sum_by-cons (λ x. cond (is_short x) 1 0) f fs ∙ ap (λ (b : Bool). cond b 1 0 + shorts_of fs) (le-ltb f.has f.wants enough)

count_both : (fs gs : List Finding) → shorts_of (fs ++ gs) ≡ shorts_of fs + shorts_of gs
count_both fs gs = sum_by-append (λ x. cond (is_short x) 1 0) fs gs

-- none of these is short, so the first is met
first_met : (o : Option Finding) (others : List Finding) → shorts_of (some_found o ++ others) ≡ 0 → IsMet o × (shorts_of others ≡ 0)
first_met None others none = (tt, none)
first_met (Some f) others none = grind (arith, cases_lt, count_short, count_enough)

none_short : (o : Option Finding) (others : List Finding) → IsMet o → shorts_of others ≡ 0 → shorts_of (some_found o ++ others) ≡ 0
none_short None others met none = none
none_short (Some f) others met none = let same = count_enough f others met in omega (arith, same, none)

-- ---- what steps without a short finding and without a broken rule say

abbrev pub Holds : Network → Step → Type 0
Holds network (Judged rule) = IsKept (plan_rule rule) network
Holds network (Measured measure) = (f : Finding) → IsTightestOf network measure (Some f) → IsEnough f
Holds network (Listed measure) = Unit {0}

abbrev pub AllHold : Network → List Step → Type 0
AllHold network [] = Unit {0}
AllHold network (step ∷ steps) = Holds network step × AllHold network steps

module _ (network : Network) (tree : IsTree network) where
  pub measure_holds : (measure : Measure) (o : Option Finding) → IsTightestOf network measure o → IsMet o → Holds network (Measured measure)
  measure_holds measure o is met f tightest = subst IsMet (one_of network tree measure o (Some f) is tightest) met

  steps_hold : (steps : List Step) (fs : List Finding) → AreOf network steps fs Whole → shorts_of fs ≡ 0 → AllHold network steps
  steps_hold [] fs are none = tt
  steps_hold (Judged rule ∷ steps) fs (inl (kept, rest)) none = (kept, steps_hold steps fs rest none)
  steps_hold (Judged rule ∷ steps) fs (inr (place, breaks, empty, broken)) none = absurd cc
  steps_hold (Measured measure ∷ steps) fs (o, others, tightest, rest, same) none =
      let met = first_met o others (ap shorts_of (sym same) ∙ none) in
      (measure_holds measure o tightest met.0, steps_hold steps others rest met.1)
  steps_hold (Listed measure ∷ steps) fs (found, others, are, rest, same) none =
      let both = count_both found others in
      let whole : shorts_of (found ++ others) ≡ 0 = ap shorts_of (sym same) ∙ none in
      (tt, steps_hold steps others rest (omega (arith, both, whole)))

  -- a rule is kept where the tightest of each of its measures is enough
  pub met_kept : (rule : Rule) (place : ℕ) → IsInequality rule
      → ((measure : Measure) → rule_of measure ≡ rule → (f : Finding) → IsTightestOf network measure (Some f) → IsEnough f) → IsKeptAt rule network place
  met_kept rule place is met =
      (bounds_decide network rule place is).1
      (λ spot n f at bound.
      let has = has_number network rule place spot n f at bound in
      bounds_met network tree has.measure (met has.measure has.of_rule) has.number spot has.numbered n f bound)

all_met : (network : Network) → AllHold network all_steps → (measure : Measure) → Holds network (Measured measure)
all_met network h measures.Paths = h.0
all_met network h measures.Settled = h.1.0
all_met network h measures.Precision = h.1.1.0
all_met network h measures.Correction = h.1.1.1.0
all_met network h measures.Begin = h.1.1.1.1.0
all_met network h measures.End = h.1.1.1.1.1.0
all_met network h measures.Windows = h.1.1.1.1.1.1.1.1.1.1.1.1.1.0
all_met network h measures.Gaps = h.1.1.1.1.1.1.1.1.1.1.1.1.1.1.0
all_met network h measures.Comings = h.1.1.1.1.1.1.1.1.1.1.1.1.1.1.1.0

module _ (network : Network) (shape : KeepsBelow 8 network) (h : AllHold network all_steps)
    (met : ((rule : Rule) → IsInequality rule → IsKept rule network)) where
  -- by its kind
  each : (rule : Rule) → IsKept rule network
  each Limits = shape Limits (omega arith)
  each DevicesDiffer = shape DevicesDiffer (omega arith)
  each LinksDiffer = shape LinksDiffer (omega arith)
  each CompressionMasters = shape CompressionMasters (omega arith)
  each Joints = shape Joints (omega arith)
  each Connections = shape Connections (omega arith)
  each Masters = shape Masters (omega arith)
  each Delays = met Delays tt
  each Settling = met Settling tt
  each Precision = met Precision tt
  each Correction = met Correction tt
  each ScheduleStart = met ScheduleStart tt
  each WindowEnds = met WindowEnds tt
  each VlNamesDiffer = h.1.1.1.1.1.1.0
  each VlIdsDiffer = h.1.1.1.1.1.1.1.0
  each Periods = h.1.1.1.1.1.1.1.1.0
  each Senders = h.1.1.1.1.1.1.1.1.1.0
  each LinksOnce = h.1.1.1.1.1.1.1.1.1.1.0
  each Sources = h.1.1.1.1.1.1.1.1.1.1.1.0
  each Targets = h.1.1.1.1.1.1.1.1.1.1.1.1.0
  each Spacing = met Spacing tt
  each BothChannels = h.1.1.1.1.1.1.1.1.1.1.1.1.1.1.1.1.0
  each Forwarding = met Forwarding tt
  each RowsOfDevice = h.1.1.1.1.1.1.1.1.1.1.1.1.1.1.1.1.1.0

-- all rules are kept where those of the shape are, and all steps hold
pub rules_kept : (network : Network) → KeepsBelow 8 network → AllHold network all_steps → KeepsRules network
rules_kept network shape h =
    let tree = tree_of rules_give_trees network shape in
    let met : (rule : Rule) → IsInequality rule → IsKept rule network =
    λ rule is place. met_kept network tree rule place is (λ measure same. all_met network h measure) in
    λ rule. each network shape h met rule

-- ---- what is found where all rules are kept

pub rule_inequality : (measure : Measure) → IsInequality (rule_of measure)
rule_inequality measures.Paths = tt
rule_inequality measure = tt

-- a bound of a measure's spot is enough where its rule is kept there
pub kept_enough : (network : Network) (measure : Measure) (n : ℕ) (f : Finding) → IsKeptAt (rule_of measure) network (spot_index (spot_at measure n))
    → IsTightestAt network (spot_at measure n) (Some f) → IsEnough f
kept_enough network measure n f kept tightest =
    let spot = spot_at measure n in
    (bounds_decide network (rule_of measure) (spot_index spot) (rule_inequality measure)).0 kept spot tightest.0 f (number_spot network measure n) tightest.1

pub tightest_enough : (network : Network) (measure : Measure) (f : Finding) → IsKept (rule_of measure) network → IsTightestOf network measure (Some f)
    → IsEnough f
tightest_enough network measure f kept (n, is, first) = kept_enough network measure n f (kept (spot_index (spot_at measure n))) is.1

module _ (network : Network) (keeps : KeepsRules network) where
  met_at : (measure : Measure) (n : ℕ) (o : Option Finding) → IsTightestAt network (spot_at measure n) o → IsMet o
  met_at measure n None none = tt
  met_at measure n (Some f) tightest = kept_enough network measure n f (keeps (rule_of measure) (spot_index (spot_at measure n))) tightest

  met_of : (measure : Measure) (o : Option Finding) → IsTightestOf network measure o → IsMet o
  met_of measure None none = tt
  met_of measure (Some f) tightest = tightest_enough network measure f (keeps (rule_of measure)) tightest

  found_enough : (measure : Measure) (first n : ℕ) (fs : List Finding) → AreFound network measure first n fs → shorts_of fs ≡ 0
  found_enough measure first zero fs none = ap shorts_of none
  found_enough measure first (suc n) fs (o, others, tightest, rest, same) =
      ap shorts_of same ∙ none_short o others (met_at measure first o tightest) (found_enough measure (first + 1) n others rest)

  steps_done : (steps : List Step) (fs : List Finding) (end : Ending) → AreOf network steps fs end → (end ≡ Whole) × (shorts_of fs ≡ 0)
  steps_done [] fs end are = (are.1, ap shorts_of are.0)
  steps_done (Judged rule ∷ steps) fs end (inl (kept, rest)) = steps_done steps fs end rest
  steps_done (Judged rule ∷ steps) fs end (inr (place, breaks, empty, broken)) = absurd (breaks.broken (keeps (plan_rule rule) place))
  steps_done (Measured measure ∷ steps) fs end (o, others, tightest, rest, same) =
      let done = steps_done steps others end rest in
      (done.0, ap shorts_of same ∙ none_short o others (met_of measure o tightest) done.1)
  steps_done (Listed measure ∷ steps) fs end (found, others, are, rest, same) =
      let done = steps_done steps others end rest in
      let none = found_enough measure 0 (spots_of measure network) found are in
      let both = count_both found others in
      let last = done.1 in
      let all : shorts_of (found ++ others) ≡ 0 = omega (arith, both, none, last) in
      (done.0, ap shorts_of same ∙ all)

-- ---- the status

done_if : (b : Bool) → (if b then Done else NetworkRefused) ≡ Done → b ≡ true
done_if true done = refl
done_if false done = absurd cc

done_whole : (fs : List Finding) (end : Ending) → ending_status fs end ≡ Done → (end ≡ Whole) × (shorts_of fs ≡ 0)
done_whole fs Whole done = (refl, eqb-true (shorts_of fs) 0 (done_if (shorts_of fs == 0) done))
done_whole fs (Broken rule place) done = absurd cc

pub whole_done : (fs : List Finding) (end : Ending) → end ≡ Whole → shorts_of fs ≡ 0 → ending_status fs end ≡ Done
whole_done fs end whole none = ap (ending_status fs) whole ∙ ap (λ (b : Bool). if b then Done else NetworkRefused) (eq-eqb (shorts_of fs) 0 none)

pub accepts : SlackAccepts
accepts network a range is =
    let status : a.status ≡ ending_status is.findings is.ending = ap (λ x. x.status) is.is in (
      λ done. elim is.are [
        | inl broken ↦
            let whole = (done_whole is.findings is.ending (sym status ∙ done)).0 in
            let end = broken.5 in
            absurd cc
        | inr found ↦
            let whole = done_whole is.findings is.ending (sym status ∙ done) in
            let are = subst (λ end. AreOf network all_steps is.findings end) whole.0 found.1 in
            rules_kept network found.0 (steps_hold network (tree_of rules_give_trees network found.0) all_steps is.findings are whole.1)
      ],
      λ keeps. elim is.are [
        | inl broken ↦ absurd (broken.3.broken (keeps broken.0 broken.1))
        | inr found ↦
            let done = steps_done network keeps all_steps is.findings is.ending found.1 in
            status ∙ whole_done is.findings is.ending done.0 done.1
      ],
    )

-- ---- the first finding that is short, wherever one is: where the first short finding of several stands

-- in front, where the first is short
first_here : (f : Finding) (fs gs : List Finding) → f.has < f.wants → fs ≡ f ∷ gs → IsFirstShort fs f
first_here f fs gs short same = record { front = []; behind = gs; is = same; enough = All-nil IsEnough; short = short }

-- behind findings that are enough
first_behind : (found : List Finding) {others : List Finding} (fs : List Finding) {f : Finding} → All IsEnough found
    → IsFirstShort others f → fs ≡ found ++ others → IsFirstShort fs f
first_behind found fs {f} enough first same = record {
  front = found ++ first.front;
  behind = first.behind;
  is = same ∙ ap (λ (xs : List Finding). found ++ xs) first.is ∙ sym (append_assoc found first.front (f ∷ first.behind));
  enough = All-append IsEnough found first.front enough first.enough;
  short = first.short;
}

-- before others
first_within : {found : List Finding} (others fs : List Finding) {f : Finding} → IsFirstShort found f
    → fs ≡ found ++ others → IsFirstShort fs f
first_within others fs first same = grind (arith, append_assoc)

-- the finding, if there is one, is short or enough
pub met_or : (o : Option Finding) → ((f : Finding) × (o ≡ Some f) × (f.has < f.wants)) ⊎ IsMet o
met_or None = inr tt
met_or (Some f) = elim (cases_lt f.has f.wants) [ inl short ↦ inl (f, refl, short) | inr enough ↦ inr enough ]

some_enough : (o : Option Finding) → IsMet o → All IsEnough (some_found o)
some_enough None met = All-nil IsEnough
some_enough (Some f) met = All-cons IsEnough f [] met (All-nil IsEnough)

-- ---- by all steps: the measure that is short, where those of the rules before it are not

-- the measure is one of the steps
abbrev pub IsIn : Measure → List Step → Type 0
IsIn measure [] = ⊥
IsIn measure (Judged rule ∷ steps) = IsIn measure steps
IsIn measure (Measured other ∷ steps) = (measure ≡ other) ⊎ IsIn measure steps
IsIn measure (Listed other ∷ steps) = IsIn measure steps

-- the rule that is judged is no inequality
abbrev IsOther : PlanRule → Type 0
IsOther rule = IsInequality (plan_rule rule) → ⊥

-- the rules of the measures do not fall, those that are judged are no inequalities, and nothing is listed
abbrev Rises : ℕ → List Step → Type 0
Rises n [] = Unit {0}
Rises n (Judged rule ∷ steps) = IsOther rule × Rises n steps
Rises n (Measured measure ∷ steps) = (n ≤ number_of (rule_of measure)) × Rises (number_of (rule_of measure)) steps
Rises n (Listed measure ∷ steps) = ⊥

at_least : (n : ℕ) (steps : List Step) (measure : Measure) → Rises n steps → IsIn measure steps → n ≤ number_of (rule_of measure)
at_least n [] measure rises is = absurd is
at_least n (Judged rule ∷ steps) measure rises is = at_least n steps measure rises.1 is
at_least n (Measured other ∷ steps) measure rises (inl same) = subst (λ m. n ≤ number_of (rule_of m)) (sym same) rises.0
at_least n (Measured other ∷ steps) measure rises (inr is) = grind (arith, (at_least (number_of (rule_of other)) steps measure rises.1 is))
at_least n (Listed other ∷ steps) measure rises is = absurd rises

pub record ShortMeasure (network : Network) (steps : List Step) (fs : List Finding) : Type 0 where
  pub measure : Measure
  pub f : Finding
  pub first : IsFirstShort fs f
  pub tightest : IsTightestOf network measure (Some f)
  pub before : (earlier : Measure) → IsIn earlier steps → number_of (rule_of earlier) < number_of (rule_of measure)
      → (g : Finding) → IsTightestOf network earlier (Some g) → IsEnough g

module _ (network : Network) (tree : IsTree network) (others : KeepsOthers network) where
  later_measure : (measure : Measure) (steps : List Step) (o : Option Finding) (fs gs : List Finding) → IsTightestOf network measure o → IsMet o
      → fs ≡ some_found o ++ gs → ShortMeasure network steps gs → ShortMeasure network (Measured measure ∷ steps) fs
  later_measure measure steps o fs gs tightest met same short = record {
    measure = short.measure;
    f = short.f;
    first = first_behind (some_found o) fs (some_enough o met) short.first same;
    tightest = short.tightest;
    before = λ earlier is less g its. elim is [
      | inl here ↦ measure_holds network tree measure o tightest met g (subst (λ m. IsTightestOf network m (Some g)) here its)
      | inr there ↦ short.before earlier there less g its
    ];
  }

  this_measure : (n : ℕ) (measure : Measure) (steps : List Step) (o : Option Finding) (f : Finding) (fs gs : List Finding)
      → Rises n (Measured measure ∷ steps) → IsTightestOf network measure o → o ≡ Some f → f.has < f.wants → fs ≡ some_found o ++ gs
      → ShortMeasure network (Measured measure ∷ steps) fs
  this_measure n measure steps o f fs gs rises tightest is short same = record {
    measure = measure;
    f = f;
    first = first_here f fs gs short (same ∙ ap (λ x. some_found x ++ gs) is);
    tightest = subst (IsTightestOf network measure) is tightest;
    before = λ earlier within less g its. elim within [
      | inl here ↦
          let self : number_of (rule_of measure) < number_of (rule_of measure) =
          subst (λ m. number_of (rule_of m) < number_of (rule_of measure)) here less in
          absurd (omega (arith, self))
      | inr there ↦
          let most = at_least (number_of (rule_of measure)) steps earlier rises.1 there in
          absurd (omega (arith, most, less))
    ];
  }

  judged_first : (rule : PlanRule) (steps : List Step) (fs : List Finding) → ShortMeasure network steps fs → ShortMeasure network (Judged rule ∷ steps) fs
  judged_first rule steps fs short = record {
    measure = short.measure;
    f = short.f;
    first = short.first;
    tightest = short.tightest;
    before = short.before;
  }

  -- a measure is short, or all steps hold
  pub short_or : (n : ℕ) (steps : List Step) (fs : List Finding) (end : Ending) → Rises n steps → AreOf network steps fs end
      → ShortMeasure network steps fs ⊎ AllHold network steps
  short_or n [] fs end rises are = inr tt
  short_or n (Judged rule ∷ steps) fs end rises (inl (kept, rest)) = elim (short_or n steps fs end rises.1 rest) [
    | inl short ↦ inl (judged_first rule steps fs short)
    | inr hold ↦ inr (kept, hold)
  ]
  short_or n (Judged rule ∷ steps) fs end rises (inr (place, breaks, empty, broken)) = absurd (breaks.broken (others (plan_rule rule) rises.0 place))
  short_or n (Measured measure ∷ steps) fs end rises (o, gs, tightest, rest, same) = elim (met_or o) [
    | inl (f, is, short) ↦ inl (this_measure n measure steps o f fs gs rises tightest is short same)
    | inr met ↦ elim (short_or (number_of (rule_of measure)) steps gs end rises.1 rest) [
      | inl short ↦ inl (later_measure measure steps o fs gs tightest met same short)
      | inr hold ↦ inr (measure_holds network tree measure o tightest met, hold)
    ]
  ]
  short_or n (Listed measure ∷ steps) fs end rises are = absurd rises

pub all_in : (measure : Measure) → IsIn measure all_steps
all_in measures.Paths = inl refl
all_in measures.Settled = inr (inl refl)
all_in measures.Precision = inr (inr (inl refl))
all_in measures.Correction = inr (inr (inr (inl refl)))
all_in measures.Begin = inr (inr (inr (inr (inl refl))))
all_in measures.End = inr (inr (inr (inr (inr (inl refl)))))
all_in measures.Windows = inr (inr (inr (inr (inr (inr (inl refl))))))
all_in measures.Gaps = inr (inr (inr (inr (inr (inr (inr (inl refl)))))))
all_in measures.Comings = inr (inr (inr (inr (inr (inr (inr (inr (inl refl))))))))

-- that a rule is no inequality, which its name tells
no : ⊥ → ⊥
no is = is

pub all_rise : Rises 0 all_steps
all_rise = grind (arith, no)

-- ---- by each place of a rule: the spot that is short, where those before it are not

-- the spots of the measure from the first number on, and before this one, are enough
abbrev pub AreMet : Network → Measure → ℕ → ℕ → Type 0
AreMet network measure first number = (n : ℕ) (g : Finding) → first ≤ n → n < number → IsTightestAt network (spot_at measure n) (Some g) → IsEnough g

-- the finding is of a spot of the measure, and those before it are enough
pub record ShortSpot (network : Network) (measure : Measure) (first : ℕ) (f : Finding) : Type 0 where
  pub number : ℕ
  pub tightest : IsTightestAt network (spot_at measure number) (Some f)
  pub before : AreMet network measure first number

-- the first short finding, of which this is known
pub record FoundShort (P : Finding → Type 0) (fs : List Finding) : Type 0 where
  pub f : Finding
  pub first : IsFirstShort fs f
  pub is : P f

-- the steps list each place of the measure
abbrev pub IsListedIn : Measure → List Step → Type 0
IsListedIn measure [] = ⊥
IsListedIn measure (Judged rule ∷ steps) = IsListedIn measure steps
IsListedIn measure (Measured other ∷ steps) = IsListedIn measure steps
IsListedIn measure (Listed other ∷ steps) = (measure ≡ other) ⊎ IsListedIn measure steps

-- of no measure the tightest is told alone, and the rules that are judged are no inequalities
abbrev pub NoneMeasured : List Step → Type 0
NoneMeasured [] = Unit {0}
NoneMeasured (Judged rule ∷ steps) = IsOther rule × NoneMeasured steps
NoneMeasured (Measured measure ∷ steps) = ⊥
NoneMeasured (Listed measure ∷ steps) = NoneMeasured steps

-- the finding is of a spot of a measure that the steps list
pub record ShortListed (network : Network) (steps : List Step) (f : Finding) : Type 0 where
  pub measure : Measure
  pub listed : IsListedIn measure steps
  pub spot : ShortSpot network measure 0 f

module _ (network : Network) (tree : IsTree network) where
  more_met : (measure : Measure) (first number : ℕ) → ((g : Finding) → IsTightestAt network (spot_at measure first) (Some g) → IsEnough g)
      → AreMet network measure (first + 1) number → AreMet network measure first number
  more_met measure first number here met n g least less its = elim (cases_lt first n) [
    | inl later ↦ met n g (omega (arith, later)) less its
    | inr most ↦
        let same : n ≡ first = omega (arith, least, most) in
        here g (subst (λ k. IsTightestAt network (spot_at measure k) (Some g)) same its)
  ]

  this_spot : (measure : Measure) (first : ℕ) (o : Option Finding) (f : Finding) (fs gs : List Finding)
      → IsTightestAt network (spot_at measure first) o → o ≡ Some f → f.has < f.wants → fs ≡ some_found o ++ gs
      → FoundShort (ShortSpot network measure first) fs
  this_spot measure first o f fs gs tightest is short same = record {
    f = f;
    first = first_here f fs gs short (same ∙ ap (λ x. some_found x ++ gs) is);
    is = record {
      number = first;
      tightest = subst (IsTightestAt network (spot_at measure first)) is tightest;
      before = λ n g least less its. absurd (omega (arith, least, less));
    };
  }

  -- a spot from the first number on is short, or all are enough
  spot_or : (measure : Measure) (first n : ℕ) (fs : List Finding) → AreFound network measure first n fs
      → FoundShort (ShortSpot network measure first) fs ⊎ (AreMet network measure first (first + n) × All IsEnough fs)
  spot_or measure first zero fs none = inr (λ n g least less its. absurd (omega (arith, least, less)), subst (All IsEnough) (sym none) (All-nil IsEnough))
  spot_or measure first (suc n) fs (o, gs, tightest, rest, same) = elim (met_or o) [
    | inl (f, is, short) ↦ inl (this_spot measure first o f fs gs tightest is short same)
    | inr met ↦
        let here : (g : Finding) → IsTightestAt network (spot_at measure first) (Some g) → IsEnough g =
        λ g its. subst IsMet (one_at network tree (spot_at measure first) o (Some g) tightest its) met in
        elim (spot_or measure (first + 1) n gs rest) [
          | inl short ↦ inl (record {
            f = short.f;
            first = first_behind (some_found o) fs (some_enough o met) short.first same;
            is = record { number = short.is.number; tightest = short.is.tightest; before = more_met measure first short.is.number here short.is.before };
          })
          | inr (all, enough) ↦ inr (
            λ k g least less its. more_met measure first (first + 1 + n) here all k g least (omega (arith, less)) its,
            subst (All IsEnough) (sym same) (All-append IsEnough (some_found o) gs (some_enough o met) enough),
          )
        ]
  ]

  later_listed : (measure : Measure) (steps : List Step) (f : Finding) → ShortListed network steps f → ShortListed network (Listed measure ∷ steps) f
  later_listed measure steps f short = record { measure = short.measure; listed = inr short.listed; spot = short.spot }

  -- a spot of what the steps list is short, or all are enough
  pub listed_or : (steps : List Step) (fs : List Finding) (end : Ending) → KeepsOthers network → NoneMeasured steps → AreOf network steps fs end
      → FoundShort (ShortListed network steps) fs
      ⊎ ((measure : Measure) → IsListedIn measure steps → AreMet network measure 0 (spots_of measure network))
  listed_or [] fs end others none are = inr (λ measure is. absurd is)
  listed_or (Judged rule ∷ steps) fs end others none (inl (kept, rest)) = elim (listed_or steps fs end others none.1 rest) [
    | inl short ↦ inl (record {
      f = short.f;
      first = short.first;
      is = record { measure = short.is.measure; listed = short.is.listed; spot = short.is.spot };
    })
    | inr met ↦ inr met
  ]
  listed_or (Judged rule ∷ steps) fs end others none (inr (place, breaks, empty, broken)) = absurd (breaks.broken (others (plan_rule rule) none.0 place))
  listed_or (Measured measure ∷ steps) fs end others none are = absurd none
  listed_or (Listed measure ∷ steps) fs end others none (found, gs, are, rest, same) =
      elim (spot_or measure 0 (spots_of measure network) found are) [
        | inl short ↦ inl (record {
          f = short.f;
          first = first_within gs fs short.first same;
          is = record { measure = measure; listed = inl refl; spot = short.is };
        })
        | inr (all, enough) ↦ elim (listed_or steps gs end others none rest) [
          | inl short ↦ inl (record {
            f = short.f;
            first = first_behind found fs enough short.first same;
            is = later_listed measure steps short.f short.is;
          })
          | inr met ↦ inr (λ m is. elim is [
            | inl here ↦
                let whole : AreMet network measure 0 (spots_of measure network) = λ n g least less. all n g least (omega (arith, less)) in
                subst (λ k. AreMet network k 0 (spots_of k network)) (sym here) whole
            | inr there ↦ met m there
          ])
        ]
      ]

-- a rule's steps list each of its measures
pub lists_own : (measure : Measure) → IsListedIn measure (rule_steps (rule_of measure))
lists_own measures.End = inr (inl refl)
lists_own measure = inl refl

-- and no other
pub lists_only : (rule : Rule) (measure : Measure) → IsInequality rule → IsListedIn measure (rule_steps rule) → rule_of measure ≡ rule
lists_only Delays measure is (inl same) = ap rule_of same
lists_only Settling measure is (inl same) = ap rule_of same
lists_only rules.Precision measure is (inl same) = ap rule_of same
lists_only rules.Correction measure is (inl same) = ap rule_of same
lists_only ScheduleStart measure is (inl same) = ap rule_of same
lists_only ScheduleStart measure is (inr (inl same)) = ap rule_of same
lists_only WindowEnds measure is (inl same) = ap rule_of same
lists_only Spacing measure is (inl same) = ap rule_of same
lists_only Forwarding measure is (inl same) = ap rule_of same
lists_only Delays measure is (inr none) = absurd none
lists_only Settling measure is (inr none) = absurd none
lists_only rules.Precision measure is (inr none) = absurd none
lists_only rules.Correction measure is (inr none) = absurd none
lists_only ScheduleStart measure is (inr (inr none)) = absurd none
lists_only WindowEnds measure is (inr none) = absurd none
lists_only Spacing measure is (inr none) = absurd none
lists_only Forwarding measure is (inr none) = absurd none
lists_only other measure is listed = absurd is

pub none_measured : (rule : Rule) → IsInequality rule → NoneMeasured (rule_steps rule)
none_measured Delays is = tt
none_measured Settling is = tt
none_measured rules.Precision is = tt
none_measured rules.Correction is = tt
none_measured ScheduleStart is = tt
none_measured WindowEnds is = (no, (no, (no, (no, (no, (no, (no, tt)))))))
none_measured Spacing is = (no, (no, (no, (no, (no, (no, (no, tt)))))))
none_measured Forwarding is = (no, (no, (no, (no, (no, (no, (no, tt)))))))
none_measured other is = absurd is

-- ---- the first measure that is short is of the rule that `check` refuses, and its first spot is at the place that is told

inequality_or : (rule : Rule) → IsInequality rule ⊎ (IsInequality rule → ⊥)
inequality_or Delays = inl tt
inequality_or Settling = inl tt
inequality_or Precision = inl tt
inequality_or Correction = inl tt
inequality_or ScheduleStart = inl tt
inequality_or WindowEnds = inl tt
inequality_or Spacing = inl tt
inequality_or Forwarding = inl tt
inequality_or rule = inr (λ is. is)

-- it comes behind the rules of the shape
inequality_high : (rule : Rule) → IsInequality rule → 8 ≤ number_of rule
inequality_high Delays is = omega arith
inequality_high Settling is = omega arith
inequality_high Precision is = omega arith
inequality_high Correction is = omega arith
inequality_high ScheduleStart is = omega arith
inequality_high WindowEnds is = omega arith
inequality_high Spacing is = omega arith
inequality_high Forwarding is = omega arith
inequality_high other is = absurd is

module _ (network : Network) (rule : Rule) (place : ℕ) where
  -- the rule that is broken first, where the others are kept
  inequality_broken : KeepsOthers network → IsFirstBroken network rule place → IsInequality rule
  inequality_broken others first = grind (arith, inequality_or)

  tree_by : IsFirstBroken network rule place → IsInequality rule → IsTree network
  tree_by first is =
      let high = inequality_high rule is in
      let shape : KeepsBelow 8 network = λ r less. first.rules r (omega (arith, less, high)) in
      tree_of rules_give_trees network shape

  -- so no rule of the shape is
  shape_kept : KeepsOthers network → number_of rule < 8 → IsFirstBroken network rule place → ⊥
  shape_kept others low first =
      let high = inequality_high rule (inequality_broken others first) in
      omega (arith, low, high)

-- what is found at a spot names it
named : (network : Network) (measure : Measure) (n : ℕ) (f : Finding) → IsTightestAt network (spot_at measure n) (Some f) → f.spot ≡ spot_at measure n
named network measure n f tightest = bound_spot network (spot_at measure n) tightest.0 f tightest.1

spot_of_rule : (measure : Measure) (n : ℕ) → spot_rule (spot_at measure n) ≡ rule_of measure
spot_of_rule measures.Paths n = refl
spot_of_rule measure n = refl

module _ (network : Network) (rule : Rule) (place : ℕ) (fs : List Finding) where
  -- the measure that is short is of the rule that is broken first
  measure_told : KeepsOthers network → IsFirstBroken network rule place → (short : ShortMeasure network all_steps fs)
      → rule_of short.measure ≡ rule
  measure_told others first short =
      let is = inequality_broken network rule place others first in
      let tree = tree_by network rule place first is in
      let measure = short.measure in
      elim (cases_lt (number_of (rule_of measure)) (number_of rule)) [
        | inl less ↦
            let enough = tightest_enough network measure short.f (first.rules (rule_of measure) less) short.tightest in
            let wants = short.first.short in
            absurd (omega (arith, enough, wants))
        | inr most ↦ elim (cases_lt (number_of rule) (number_of (rule_of measure))) [
          | inl more ↦
              absurd (first.broken (met_kept network tree rule place is
              (λ earlier same g tightest.
              short.before earlier (all_in earlier) (subst (λ r. number_of r < number_of (rule_of measure))
              (sym same) more) g tightest)))
          | inr least ↦ same_rule (rule_of measure) rule (omega (arith, most, least))
        ]
      ]

  refuses_rule : (end : Ending) → KeepsOthers network → IsFirstBroken network rule place
      → IsFoundIn network all_steps fs end → (f : Finding) × IsFirstShort fs f × (spot_rule f.spot ≡ rule)
  refuses_rule end others first (inl broken) = absurd (shape_kept network broken.0 broken.1 others broken.2 broken.3)
  refuses_rule end others first (inr (shape, are)) =
      elim (short_or network (tree_of rules_give_trees network shape) others 0 all_steps fs end all_rise are) [
        | inl short ↦
            let at = short.tightest.0 in (
              short.f,
              short.first,
              ap spot_rule (named network short.measure at short.f short.tightest.1.1) ∙ spot_of_rule short.measure at
                  ∙ measure_told others first short,
            )
        | inr hold ↦ absurd (first.broken (rules_kept network shape hold rule place))
      ]

-- ---- the place

-- a spot of an earlier place has an earlier number
pub record IsBefore (measure : Measure) (number : ℕ) (spot : BoundedNumber) : Type 0 where
  pub n : ℕ
  pub less : n < number
  pub is : spot_at measure n ≡ spot

before : (measure : Measure) (place number : ℕ) (spot : BoundedNumber) → place < spot_index (spot_at measure number) → IsSpotAt (rule_of measure) place spot
    → IsBefore measure number spot
before measures.Paths place number spot more (A, same) = record {
  n = 2 * place + channel_number A;
  less = let half : place < number / 2 = more in omega (arith, half);
  is = path_number place A ∙ sym same;
}
before measures.Paths place number spot more (B, same) = record {
  n = 2 * place + channel_number B;
  less = let half : place < number / 2 = more in omega (arith, half);
  is = path_number place B ∙ sym same;
}
before measures.Windows place number spot more at = record { n = place; less = more; is = sym at }
before measures.Gaps place number spot more at = record { n = place; less = more; is = sym at }
before measures.Comings place number spot more at = record { n = place; less = more; is = sym at }
before measure place number spot more at = absurd (omega (arith, more))

before_kept : {network : Network} (tree : IsTree network) (measure : Measure) (place number : ℕ)
    → place < spot_index (spot_at measure number) → ((n : ℕ) (g : Finding) → n < number
    → IsTightestAt network (spot_at measure n) (Some g) → IsEnough g) → IsKeptAt (rule_of measure) network place
before_kept {network} tree measure place number more enough =
    (bounds_decide network (rule_of measure) place (rule_inequality measure)).1
    (λ spot n g at bound.
    let its = before measure place number spot more at in
    spot_met network tree spot
    (λ f tightest. enough its.n f its.less (subst (λ s. IsTightestAt network s (Some f)) (sym its.is) tightest)) n g bound)

spot_told : {network : Network} {rule : Rule} {place : ℕ} {measure : Measure} {f : Finding} → KeepsOthers network
    → IsFirstBroken network rule place → rule_of measure ≡ rule → f.has < f.wants → ShortSpot network measure 0 f
    → spot_index f.spot ≡ place
spot_told {network} {rule} {place} {measure} {f} others first same wants short =
    let tree = tree_by network rule place first (inequality_broken network rule place others first) in
    let spot = spot_at measure short.number in
    let is : spot_index f.spot ≡ spot_index spot = ap spot_index (named network measure short.number f short.tightest) in
    let kept_at : ℕ → Rule → Type 0 = λ k r. IsKeptAt r network k in
    elim (cases_lt (spot_index spot) place) [
      | inl less ↦
          let kept = subst (kept_at (spot_index spot)) (sym same) (first.places (spot_index spot) less) in
          let enough = kept_enough network measure short.number f kept short.tightest in
          absurd (omega (arith, enough, wants))
      | inr most ↦ elim (cases_lt place (spot_index spot)) [
        | inl more ↦
            absurd (first.broken (subst (kept_at place) same
            (before_kept tree measure place short.number more
            (λ n g less its. short.before n g (omega arith) less its))))
        | inr least ↦ omega (arith, is, most, least)
      ]
    ]

-- a rule is kept where all spots of its measures are enough
spots_kept : {network : Network} (tree : IsTree network) (rule : Rule) (place : ℕ) → IsInequality rule
    → ((measure : Measure) → IsListedIn measure (rule_steps rule)
    → AreMet network measure 0 (spots_of measure network)) → IsKeptAt rule network place
spots_kept {network} tree rule place is met =
    (bounds_decide network rule place is).1
    (λ spot n g at bound.
    let has = has_number network rule place spot n g at bound in
    let listed = subst (λ r. IsListedIn has.measure (rule_steps r)) has.of_rule (lists_own has.measure) in
    spot_met network tree spot
    (λ f tightest.
    met has.measure listed has.number f (omega arith) has.numbered.within
    (subst (λ s. IsTightestAt network s (Some f)) (sym has.numbered.is) tightest)) n g bound)

refuses_place : (network : Network) (rule : Rule) (place : ℕ) (fs : List Finding) (end : Ending) → KeepsOthers network → IsFirstBroken network rule place
    → IsFoundIn network (rule_steps rule) fs end → (f : Finding) × IsFirstShort fs f × (spot_rule f.spot ≡ rule) × (spot_index f.spot ≡ place)
refuses_place network rule place fs end others first (inl broken) = absurd (shape_kept network broken.0 broken.1 others broken.2 broken.3)
refuses_place network rule place fs end others first (inr (shape, are)) =
    let is = inequality_broken network rule place others first in
    let tree = tree_of rules_give_trees network shape in
    elim (listed_or network tree (rule_steps rule) fs end others (none_measured rule is) are) [
      | inl short ↦
          let measure = short.is.measure in
          let spot = short.is.spot in
          let same = lists_only rule measure is short.is.listed in (
            short.f,
            short.first,
            ap spot_rule (named network measure spot.number short.f spot.tightest) ∙ spot_of_rule measure spot.number ∙ same,
            spot_told others first same short.first.short spot,
          )
      | inr met ↦ absurd (first.broken (spots_kept tree rule place is met))
    ]

pub refuses : SlackRefuses
refuses = record { rule = refuses_rule; place = refuses_place }

-- ---- a network has one answer of `slack`

-- the same was found, and it ends so
abbrev AreSame : List Finding → List Finding → Ending → Ending → Type 0
AreSame fs gs end other = (fs ≡ gs) × (end ≡ other)

-- ---- one place at which a rule breaks

breaks_once : {network : Network} {rule : Rule} {place other : ℕ} → BreaksAt network rule place
    → BreaksAt network rule other → place ≡ other
breaks_once a b = grind (arith, cases_lt)

pub first_once : {network : Network} {rule other : Rule} {place there : ℕ} → IsFirstBroken network rule place
    → IsFirstBroken network other there → Broken rule place ≡ Broken other there
first_once {network} {rule} {other} {place} {there} a b =
    let told : RuleBroken = record { number = number_of rule; index = place } in
    let again : RuleBroken = record { number = number_of other; index = there } in
    let same : told ≡ again =
    refusal_is_one network told again (record { rule = rule; number = refl; first = a }) (record { rule = other; number = refl; first = b }) in
    let rules = same_rule rule other (ap (λ (t : RuleBroken). t.number) same) in
    ap (λ (r : Rule). Broken r place) rules ∙ ap (λ (k : ℕ). Broken other k) (ap (λ (t : RuleBroken). t.index) same)

-- ---- one list of findings

both_same : (f g : Option Finding) (fs gs hs ks : List Finding) → f ≡ g → fs ≡ gs → hs ≡ some_found f ++ fs → ks ≡ some_found g ++ gs → hs ≡ ks
both_same f g fs gs hs ks first rest here there =
    here ∙ ap (λ o. some_found o ++ fs) first ∙ ap (λ (xs : List Finding). some_found g ++ xs) rest ∙ sym there

module _ (network : Network) (tree : IsTree network) where
  found_once : (measure : Measure) (first n : ℕ) (fs gs : List Finding) → AreFound network measure first n fs → AreFound network measure first n gs → fs ≡ gs
  found_once measure first zero fs gs none empty = none ∙ sym empty
  found_once measure first (suc n) fs gs (f, others, is, rest, same) (g, more, its, left, there) =
      both_same f g others more fs gs (one_at network tree (spot_at measure first) f g is its) (found_once measure (first + 1) n others more rest left) same
      there

  are_once : (steps : List Step) (fs gs : List Finding) (end other : Ending) → AreOf network steps fs end → AreOf network steps gs other
      → AreSame fs gs end other
  are_once [] fs gs end other are again = (are.0 ∙ sym again.0, are.1 ∙ sym again.1)
  are_once (Judged rule ∷ steps) fs gs end other (inl (kept, rest)) (inl (keeps, left)) = are_once steps fs gs end other rest left
  are_once (Judged rule ∷ steps) fs gs end other (inl (kept, rest)) (inr (place, breaks, none, broken)) = absurd (breaks.broken (kept place))
  are_once (Judged rule ∷ steps) fs gs end other (inr (place, breaks, none, broken)) (inl (kept, rest)) = absurd (breaks.broken (kept place))
  are_once (Judged rule ∷ steps) fs gs end other (inr (place, breaks, none, broken)) (inr (there, again, empty, ending)) =
      let same = breaks_once breaks again in
      (none ∙ sym empty, broken ∙ ap (λ (k : ℕ). Broken (plan_rule rule) k) same ∙ sym ending)
  are_once (Measured measure ∷ steps) fs gs end other (f, others, is, rest, same) (g, more, its, left, there) =
      let later = are_once steps others more end other rest left in
      (both_same f g others more fs gs (one_of network tree measure f g is its) later.0 same there, later.1)
  are_once (Listed measure ∷ steps) fs gs end other (found, others, is, rest, same) (again, more, its, left, there) =
      let later = are_once steps others more end other rest left in
      let first = found_once measure 0 (spots_of measure network) found again is its in (
        same ∙ ap (λ (xs : List Finding). xs ++ others) first ∙ ap (λ (xs : List Finding). again ++ xs) later.0 ∙ sym there,
        later.1,
      )

found_in_once : (network : Network) (steps : List Step) (fs gs : List Finding) (end other : Ending) → IsFoundIn network steps fs end
    → IsFoundIn network steps gs other → AreSame fs gs end other
found_in_once network steps fs gs end other (inl (rule, place, shape, first, none, broken)) (inl (one, there, early, again, empty, ending)) =
    (none ∙ sym empty, broken ∙ first_once first again ∙ sym ending)
found_in_once network steps fs gs end other (inl (rule, place, shape, first, none, broken)) (inr (keeps, are)) = absurd (first.broken (keeps rule shape place))
found_in_once network steps fs gs end other (inr (keeps, are)) (inl (rule, place, shape, first, none, broken)) = absurd (first.broken (keeps rule shape place))
found_in_once network steps fs gs end other (inr (keeps, are)) (inr (kept, again)) =
    are_once network (tree_of rules_give_trees network keeps) steps fs gs end other are again

-- so there is one answer
pub slack_one : (steps : List Step) (network : Network) (a b : Answer) → IsSlackOf steps network a → IsSlackOf steps network b → a ≡ b
slack_one steps network a b is its =
    let same = found_in_once network steps is.findings its.findings is.ending its.ending is.are its.are in
    is.is ∙ ap (λ fs. found_answer network fs is.ending) same.0 ∙ ap (found_answer network its.findings) same.1 ∙ sym its.is

-- ---- for the octets of a file

same_network : (octets : List ℕ) (n m : Network) → network_read octets ≡ Ok n → network_read octets ≡ Ok m → n ≡ m
same_network octets n m p q = cc

same_refusal : (octets : List ℕ) (d e : FileRefusal) → network_read octets ≡ Err d → network_read octets ≡ Err e → d ≡ e
same_refusal octets d e p q = cc

no_both : (octets : List ℕ) (n : Network) (e : FileRefusal) → network_read octets ≡ Ok n → network_read octets ≡ Err e → ⊥
no_both octets n e p q = cc

-- the octets of a network file have one answer
pub octets_one : (Is : Network → Answer → Type 0) → ((network : Network) (a b : Answer) → Is network a → Is network b
    → a ≡ b) → {octets : List ℕ} (a b : Answer) → IsFileAnswer Is octets a → IsFileAnswer Is octets b → a ≡ b
octets_one Is one a b (inl p) (inl q) = p.1 ∙ sym q.1
octets_one Is one a b (inl p) (inr (inl q)) =
    let long = p.0 in let fits = q.1.fits in absurd (omega (arith, long, fits))
octets_one Is one a b (inl p) (inr (inr q)) =
    let long = p.0 in let fits = q.1.fits in absurd (omega (arith, long, fits))
octets_one Is one a b (inr (inl p)) (inl q) =
    let long = q.0 in let fits = p.1.fits in absurd (omega (arith, long, fits))
octets_one Is one {octets} a b (inr (inl p)) (inr (inl q)) =
    p.2 ∙ ap (λ e. refused_answer (file_reason e)) (same_refusal octets p.0 q.0 p.1.read q.1.read) ∙ sym q.2
octets_one Is one {octets} a b (inr (inl p)) (inr (inr q)) = absurd (no_both octets q.0 p.0 q.1.read p.1.read)
octets_one Is one a b (inr (inr p)) (inl q) =
    let long = q.0 in let fits = p.1.fits in absurd (omega (arith, long, fits))
octets_one Is one {octets} a b (inr (inr p)) (inr (inl q)) = absurd (no_both octets p.0 q.0 p.1.read q.1.read)
octets_one Is one {octets} a b (inr (inr p)) (inr (inr q)) =
    one q.0 a b (subst (λ (n : Network). Is n a) (same_network octets p.0 q.0 p.1.read q.1.read) p.2) q.2

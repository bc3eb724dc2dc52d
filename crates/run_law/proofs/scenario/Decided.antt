-- The hypothesis judges an event in one way.
use Rattle.run_law.proofs.Words.{◌*◌, ◌<◌, ◌==◌, ◌^◌, ◌∙◌, ◌≡◌, ◌⊎◌, Event, IsWithinHypothesis, List, Network, amount, ap, arith, cases_lt, if◌then◌else◌, inl}
use Rattle.run_law.proofs.{Words.{inr, pos, refl, subst, suc, sym, zero, ℕ}}
use Rattle.run_law.proofs.scenario.Decisions.{IsDecided, decided_less_int, decided_same, fast_rate, long_hold}
use Rattle.run_law.proofs.scenario.Decisions.{no_master, other_channel, other_wire, second_break, sends_unbroken}
use Rattle.run_law.proofs.scenario.Decisions.{too_early, too_few, turns_on_again}
use Rattle.run_law.specs.{declared.outside.Outside.Outside}
use Rattle.run_law.specs.{scenario.Hypothesis.{IsOutsideBy, Violates, condition_number}}
use Rattle.run_law.specs.declared.outside.Outside.TheVariants.{Channel, Hold, Late, NotBroken, NotMaster, NotOff, Order, Rate, SecondBreak, TooFewMasters, Wire}
use Rattle.{run_law.specs.law.Laws.HypothesisIsDecided, std.proofs.lemmas.Bool.cases_order}

-- the condition of this number
condition_of : ℕ → Outside
condition_of n =
    if n == 1 then Order
    else if n == 2 then Late
    else if n == 3 then Rate
    else if n == 4 then Wire
    else if n == 5 then Hold
    else if n == 6 then Channel
    else if n == 7 then NotMaster
    else if n == 8 then SecondBreak
    else if n == 9 then TooFewMasters
    else if n == 10 then NotBroken
    else NotOff

numbered : (c : Outside) → condition_of (condition_number c) ≡ c
unfolding condition_of
numbered Order = refl
numbered other = refl

-- conditions of one number are one
same_condition : (c d : Outside) → condition_number c ≡ condition_number d → c ≡ d
same_condition c d same = sym (numbered c) ∙ ap condition_of same ∙ numbered d

module _ (network : Network) (before : List Event) (event : Event) where
  -- an event is outside by one condition
  one_condition : (c d : Outside) → IsOutsideBy network before event c → IsOutsideBy network before event d → c ≡ d
  one_condition c d a b = grind (arith, cases_order, same_condition)

  -- each condition is broken or not
  violates : (condition : Outside) → IsDecided (Violates network before event condition)
  violates Order = too_early before event
  violates Late = decided_less_int (pos (2 ^ 20 * amount network.cycle)) event.time.0
  violates Rate = fast_rate network event
  violates Wire = other_wire network event
  violates Hold = long_hold network event
  violates Channel = other_channel network before event
  violates NotMaster = no_master network event
  violates SecondBreak = second_break before event
  violates TooFewMasters = too_few network before event
  violates NotBroken = sends_unbroken network before event
  violates NotOff = turns_on_again network before event

-- no condition of a number below this is broken
abbrev KeepsBelow : Network → List Event → Event → ℕ → Type 0
KeepsBelow network before event n = (c : Outside) → condition_number c < n → Violates network before event c → ⊥

module _ (network : Network) (before : List Event) (event : Event) where
  -- where none below a number is broken, nor that of the number, none below the next is
  keeps_next : (n : ℕ) → KeepsBelow network before event n
      → (condition_number (condition_of n) ≡ n → Violates network before event (condition_of n) → ⊥)
      → KeepsBelow network before event (suc n)
  keeps_next n keeps here c small broken =
      elim (cases_lt (condition_number c) n) [
        | inl lt ↦ keeps c lt broken
        | inr ge ↦
            let number : condition_number c ≡ n = omega arith in
            let same : condition_of n ≡ c = ap condition_of (sym number) ∙ numbered c in
            here (ap condition_number same ∙ number) (subst (Violates network before event) (sym same) broken)
      ]

  -- none of the conditions below a number is broken, or the event is outside by one
  judged : (n : ℕ) → KeepsBelow network before event n ⊎ ((c : Outside) × IsOutsideBy network before event c)
  judged zero = inl (λ c small. absurd (omega arith))
  judged (suc n) =
      elim (judged n) [
        | inr outside ↦ inr outside
        | inl keeps ↦
            elim (decided_same (condition_number (condition_of n)) n) [
              | inr other ↦ inl (keeps_next n keeps (λ same broken. other same))
              | inl same ↦
                  elim (violates network before event (condition_of n)) [
                    | inl broken ↦ inr
                        (condition_of n, record { violates = broken; first = λ c lower. keeps c (rw same at lower) })
                    | inr kept ↦ inl (keeps_next n keeps (λ same broken. kept broken))
                  ]
            ]
      ]

at_most_eleven : (c : Outside) → condition_number c < 12
at_most_eleven Order = omega arith
at_most_eleven other = omega arith

-- an event is within the hypothesis, or outside by a condition
some_judgement : (network : Network) (before : List Event) (event : Event) → IsWithinHypothesis network before event
    ⊎ ((c : Outside) × IsOutsideBy network before event c)
some_judgement network before event =
    elim (judged network before event 12) [ inl keeps ↦ inl (λ c broken. keeps c (at_most_eleven c) broken) | inr outside ↦ inr outside ]

pub hypothesis_is_decided : HypothesisIsDecided
hypothesis_is_decided network before event = record {
  some = some_judgement network before event;
  not_both = λ c within outside. within c outside.violates;
  one = one_condition network before event;
}

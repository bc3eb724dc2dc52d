-- A trace is admitted line by line, up to its end or to a fault.
use Rattle.std.proofs.lemmas.Bool.{cases_lt}
use Rattle.precision_law.proofs.traffic_lemmas.existence_lemmas.decisions.Changes.{is_end}
use Rattle.run_law.proofs.scenario.{Decided.hypothesis_is_decided, Decisions.{IsDecided, decided_any}}
use Rattle.tte_io.specs.Line.{line_limit}
use Rattle.tte_traces.{specs.Lines.{HasEvent, IsOpen}}
use Rattle.tte_traces.proofs.{Admitted.{admitted_none, more_admitted}}
use Rattle.tte_traces.proofs.{Words.{length, length-append, refl, suc, zero, ℕ}}
use Rattle.tte_traces.proofs.Words.{◌++◌, ◌+◌, ◌^◌, ◌∷◌, ◌≡◌, ◌≢◌, ◌≤◌, ◌⊎◌, After, AreAdmitted, End, Err, Event, HaveEnded, IsAdmitted, IsFault, Line, List}
use Rattle.tte_traces.proofs.Words.{Long, Missing, Network, Ok, Outlaw, Read, TooMany, TraceFault, [], arith, behind_lines, event_read, first_line, inl, inr}

-- ---- the next line

-- what is left of a trace behind its admitted events: nothing, and they have an end; or a fault
abbrev pub Stops : Network → List Event → List ℕ → Type 0
Stops network before rest = (HaveEnded before × (rest ≡ [])) ⊎ ((fault : TraceFault) × IsFault network before rest fault)

-- or a line that is admitted
abbrev GoesOn : Network → List Event → List ℕ → Type 0
GoesOn network before rest = Stops network before rest ⊎ ((event : Event) × IsAdmitted network before rest event)

have_ended : (events : List Event) → IsDecided (HaveEnded events)
have_ended events = decided_any (λ e. e.what ≡ End) (λ e. is_end e.what) events

there_are : (octet : ℕ) (octets : List ℕ) → octet ∷ octets ≢ []
there_are octet octets e = cc

module _ (network : Network) {before : List Event} {rest : List ℕ} (is : IsOpen before rest) where
  -- a line that is not too long has an event, which is within the hypothesis or not, or it has none
  line_read : length (first_line rest) ≤ line_limit → (read : Read Event)
      → event_read network (first_line rest) ≡ read → GoesOn network before rest
  line_read short (Err refusal) read = inl (inr (Line refusal, (is, short, read)))
  line_read short (Ok event) read =
      let has : HasEvent network before rest event = record { is_open = is; short = short; read = read } in
      elim ((hypothesis_is_decided network before event).some) [
        | inl within ↦ inr (event, record { has = has; within = within })
        | inr outside ↦ inl (inr (Outlaw outside.0, (event, has, outside.1)))
      ]

  line_judged : GoesOn network before rest
  line_judged =
      elim (cases_lt line_limit (length (first_line rest))) [
        | inl long ↦ inl (inr (Long, (is, long)))
        | inr short ↦ line_read short (event_read network (first_line rest)) refl
      ]

-- it is decided how a trace goes on
judged : (network : Network) (before : List Event) (rest : List ℕ) → length before + 1 ≤ 2 ^ 32 → GoesOn network before rest
judged network before [] number =
    elim (have_ended before) [
      | inl ended ↦ inl (inl (ended, refl))
      | inr unended ↦ inl (inr (Missing, (refl, unended)))
    ]
judged network before (octet ∷ octets) number =
    elim (cases_lt (length before + 1) (2 ^ 32)) [
      | inl few ↦
          elim (have_ended before) [
            | inl ended ↦ inl (inr (After, (there_are octet octets, few, ended)))
            | inr unended ↦
                line_judged network {before = before} {rest = octet ∷ octets}
                (record { some = there_are octet octets; number = few; unended = unended })
          ]
      | inr many ↦ inl (inr (TooMany, (there_are octet octets, omega (arith, number, many))))
    ]

-- ---- the whole trace

-- the events of the octets that are admitted, and why there are no more
pub record IsSplit (network : Network) (octets : List ℕ) : Type 0 where
  pub events : List Event
  pub admitted : AreAdmitted network octets events
  pub stops : Stops network events (behind_lines (length events) octets)

module _ (network : Network) (octets : List ℕ) where
  -- behind these events, if what comes behind one more is known
  split_behind : (before : List Event) → length before + 1 ≤ 2 ^ 32 → AreAdmitted network octets before
      → ((event : Event) → IsAdmitted network before (behind_lines (length before) octets) event
      → IsSplit network octets) → IsSplit network octets
  split_behind before number all further =
      elim (judged network before (behind_lines (length before) octets) number) [
        | inl stops ↦ record { events = before; admitted = all; stops = stops }
        | inr next ↦ further next.0 next.1
      ]

  -- behind these events, where so many more lines may have one
  split_from : (more : ℕ) (before : List Event) → length before + more + 1 ≡ 2 ^ 32
      → AreAdmitted network octets before → IsSplit network octets
  split_from zero before number all =
      split_behind before (omega (arith, number)) all
      (λ event next. let few = next.has.is_open.number in absurd (omega (arith, number, few)))
  split_from (suc more) before number all =
      split_behind before (omega (arith, number)) all
      (λ event next. split_from more (before ++ event ∷ [])
      (omega (arith, number, length-append before (event ∷ []))) (more_admitted octets all next))

  pub split : IsSplit network octets
  split = split_from 4294967295 [] (omega arith) (admitted_none network octets)

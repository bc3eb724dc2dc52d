-- The laws of the runs of a network.
use Rattle.run_law.proofs.Words.{◌++◌, ◌∙◌, ◌∷◌, ◌≡◌, Happening, IsDue, IsRun, List, Network, Note, Scenario, [], ap, append-nil, append_assoc, happening}
use Rattle.run_law.{proofs.Words.{happenings, place_of, refl, subst, sym}, specs.law.Laws.{EarlierRunIsFront, RunGoesOn, RunIsOne}}
use Rattle.{run_law.proofs.runs.{Determined.due_is_determined, FrontOfRun.front_of_run, Grow.grow, OneRun.one_run}, std.proofs.Common.{arith, fold, map}}

-- ---- records and happenings

abbrev notes_of : List Happening → List Note
notes_of hs = map (λ h. h.note) hs

abbrev with_next : Network → List Happening → Note → List Happening
with_next network before note = before ++ happening network before note ∷ []

notes_of_parts : (hs gs : List Happening) → notes_of (hs ++ gs) ≡ notes_of hs ++ notes_of gs
notes_of_parts [] gs = refl
notes_of_parts (h ∷ hs) gs = rw (notes_of_parts hs gs)

module _ (network : Network) where
  notes_from : (before : List Happening) (ns : List Note)
      → notes_of (fold (with_next network) before ns) ≡ notes_of before ++ ns
  notes_from before [] = sym (append-nil (notes_of before))
  notes_from before (n ∷ ns) =
      grind (arith, notes_of_parts, happening, append_assoc, (notes_from (with_next network before n) ns))

  -- the records of the happenings of records are these
  pub same_notes : (ns : List Note) → notes_of (happenings network ns) ≡ ns
  same_notes ns = notes_from [] ns

  fold_parts : (before : List Happening) (ns ms : List Note)
      → fold (with_next network) before (ns ++ ms) ≡ fold (with_next network) (fold (with_next network) before ns) ms
  fold_parts before [] ms = refl
  fold_parts before (n ∷ ns) ms = fold_parts (with_next network before n) ns ms

  -- one more record is one more happening
  pub one_more : (ns : List Note) (n : Note) → happenings network (ns ++ n ∷ []) ≡ happenings network ns
      ++ happening network (happenings network ns) n ∷ []
  one_more ns n = fold_parts [] ns (n ∷ [])

-- ---- the laws

pub run_is_one : RunIsOne
run_is_one network reading events mark notes others a b =
    let s : Scenario = record { network = network; reading = reading; events = events } in
    sym (same_notes network notes) ∙ ap notes_of (one_run (IsDue s) (due_is_determined s) a b)
    ∙ same_notes network others

pub earlier_run_is_front : EarlierRunIsFront
earlier_run_is_front network reading events mark later notes more earlier a b =
    let s : Scenario = record { network = network; reading = reading; events = events } in
    let front = front_of_run (IsDue s) (due_is_determined s) earlier a b in (
      notes_of front.0,
      sym (same_notes network more)
          ∙ ap notes_of front.1
          ∙ notes_of_parts (happenings network notes) front.0
          ∙ (rw (same_notes network notes)),
    )

pub run_goes_on : RunGoesOn
run_goes_on s mark notes note next run is more =
    let grown = grow (IsDue s) next run more.behind_all more.due more.first in
    subst (IsRun place_of (IsDue s) _) (rw is (sym (one_more s.network notes note))) grown

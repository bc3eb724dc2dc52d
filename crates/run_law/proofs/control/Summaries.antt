-- What was heard has a summary, and a summary has a verdict.
use Rattle.run_law.proofs.Words.{◌++◌, ◌∷◌, ◌≡◌, ◌⊎◌, A, B, Bool, List, None, Option, Some, Summary, Units, [], append-nil, append_assoc, false, inl, inr, refl}
use Rattle.{run_law.proofs.Words.{subst, sym, true}, sync_state.specs.membership.{BestFrame.IsBetterOf, Hearing.Hearing}}
use Rattle.run_law.proofs.scenario.Decisions.{decided_and, decided_less, decided_less_int, decided_or, decided_same}
use Rattle.run_law.proofs.scenario.Decisions.{outnumbered, qualifies}
use Rattle.sync_state.proofs.VerdictLemmas.{deviates}
use Rattle.sync_state.proofs.membership_lemmas.SummaryLemmas.{hears_on_a, hears_on_b, hears_outside, same_hearing}
use Rattle.sync_state.proofs.membership_lemmas.SummaryLemmas.{silence_summarizes}
use Rattle.sync_state.specs.{Standing.{IsAtIntegration, Standing}, Verdicts.{HasVerdict, deviation_on}, correction.Correction.correction_of}
use Rattle.sync_state.specs.declared.{answers.Verdict.TheVariants.{AsyncClique, Corrected, SyncClique}, membership.frame.HeardFrame.HeardFrame}
use Rattle.{sync_state.specs.membership.{Members.{count_of, union}, Summary.{Summarizes, silence}}, tte_units.specs.declared.frames.channel.Channel.Channel}

pub better : (o : Option HeardFrame) (later : HeardFrame) → (frame : HeardFrame) × IsBetterOf o later frame
better None later = (later, refl)
better (Some best) later =
    elim (decided_or (decided_less (count_of later.members) (count_of best.members))
    (decided_and (decided_same (count_of later.members) (count_of best.members)) (decided_less_int later.point.0 best.point.0))) as
    (λ _. (frame : HeardFrame) × IsBetterOf (Some best) later frame) [ inl behind ↦ (best, inl (behind, refl)) | inr other ↦ (later, inr (other, refl)) ]

pub one_more : {s : Summary} {acc : List Hearing} (h : Hearing) → Summarizes s acc
    → (t : Summary) × Summarizes t (acc ++ h ∷ [])
one_more {s} {acc} h is = by h.within refl h.channel refl
  where
    by : (b : Bool) → h.within ≡ b → (c : Channel) → h.channel ≡ c → (t : Summary) × Summarizes t (acc ++ h ∷ [])
    by false e c f = (record { best_a = s.best_a; best_b = s.best_b; outside = union s.outside h.frame.members }, hears_outside s acc h e is)
    by true e A f =
        let b = better s.best_a h.frame in
        let t : Summary = record { best_a = Some b.0; best_b = s.best_b; outside = s.outside } in
        (t, rw (same_hearing h.channel A h.frame h.within f e) at (hears_on_a s acc h.frame b.0 b.1 is))
    by true e B f =
        let b = better s.best_b h.frame in
        let t : Summary = record { best_a = s.best_a; best_b = Some b.0; outside = s.outside } in
        (t, rw (same_hearing h.channel B h.frame h.within f e) at (hears_on_b s acc h.frame b.0 b.1 is))

pub corrects_some : (a b : Option Units) (d : Units) → (a ≡ Some d) ⊎ (b ≡ Some d) → (by : Units) × (correction_of a b ≡ Some by)
corrects_some None None d e = absurd (elim e [ inl x ↦ cc | inr x ↦ cc ])
corrects_some None (Some b) d e = (b, refl)
corrects_some (Some a) None d e = (a, refl)
corrects_some (Some a) (Some b) d e = (_, refl)

-- a point that is not the one at which a joiner clears comes to a correction or to a clique
pub verdict_of : (s : Standing) (heard : Summary) → (IsAtIntegration s → ⊥) → ((by : Units) × HasVerdict s heard (Corrected by))
    ⊎ (HasVerdict s heard SyncClique ⊎ HasVerdict s heard AsyncClique)
verdict_of s heard not_at = elim (decided_or (qualifies s.plan.threshold heard.best_a) (qualifies s.plan.threshold heard.best_b)) [
  | inr none ↦ inr (inl (not_at, none))
  | inl some ↦ elim (outnumbered heard) [
    | inl out ↦ inr (inr (not_at, some, out))
    | inr enough ↦
        let by = elim some as (λ _. (by : Units) × (correction_of (deviation_on s heard A) (deviation_on s heard B) ≡ Some by)) [
          | inl a ↦ (let d = deviates s heard.best_a a in corrects_some (deviation_on s heard A) (deviation_on s heard B) d.0 (inl d.1))
          | inr b ↦ (let d = deviates s heard.best_b b in corrects_some (deviation_on s heard A) (deviation_on s heard B) d.0 (inr d.1))
        ] in
        inl (by.0, (not_at, some, enough, by.1))
  ]
]

pub summary_from : (rest acc : List Hearing) (s : Summary) → Summarizes s acc → (t : Summary) × Summarizes t (acc ++ rest)
summary_from [] acc s is = (s, subst (Summarizes s) (sym (append-nil acc)) is)
summary_from (h ∷ rest) acc s is =
    let more = one_more h is in
    let all = summary_from rest (acc ++ h ∷ []) more.0 more.1 in
    (all.0, subst (Summarizes all.0) (append_assoc acc (h ∷ []) rest) all.1)

-- what was heard has a summary
pub summary_of : (heard : List Hearing) → (s : Summary) × Summarizes s heard
summary_of heard = summary_from heard [] silence silence_summarizes

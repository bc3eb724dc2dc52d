-- The answer for the octets of a network file.
use Rattle.{net_file.specs.Schema.network_read, schedule_checker.specs.{Refusals.{RefusalIsOne}, declared.refusal.RuleBroken.RuleBroken}}
use Rattle.net_file.specs.declared.refusal.FileRefusal.{FileRefusal}
use Rattle.tte_forms.proofs.{Octets.{for_all, for_more}, Puts.{answer_widened, unput_answer}}
use Rattle.{net_plan.specs.{Bounds.{BetaIsUnique, IsBeta, gamma_of}, declared.network.Network.Network}, tte_forms.specs.declared.accepting.NoNetwork.NoNetwork}
use Rattle.std.proofs.{Common.{◌∙◌, ◌∷◌, ◌≡◌, ◌⊎◌, Err, List, Ok, Option, [], arith, inl, inr, pos, refl, sym, ℕ}, lemmas.Int.ints}
use Rattle.tte_forms.specs.{Answering.{Answer, AnswersOne, ForOctets, Gives, GivesAnswer}, declared.status.Status.{Status, TheVariants.{Done, WriteFault}}}
use Rattle.tte_forms.specs.{Putting.{PutsNone, Shown}, networks.{Accepting.too_long_answer, Checking.IsAcceptance}}
use Rattle.tte_forms.specs.networks.Accepting.{IsAnswerBy, IsNetworkAnswer, IsTooLong, MeansAccepted, MeansNoNetwork, MeansUnfit, refusal_lines, refused_by}
use Rattle.tte_forms.specs.networks.{NetworkLine.{acceptance_line, file_reason, rule_reason}, NoNetworks.{IsNoNetwork, answer_by, no_network_answer}}
use Rattle.tte_forms.specs.declared.accepting.NoNetwork.TheVariants as causes

same_network : (octets : List ℕ) (n m : Network) → network_read octets ≡ Ok n → network_read octets ≡ Ok m → n ≡ m
same_network octets n m p q = cc

no_both : (octets : List ℕ) (n : Network) (e : FileRefusal) → network_read octets ≡ Ok n → network_read octets ≡ Err e → ⊥
no_both octets n e p q = cc

same_refusal : (octets : List ℕ) (d e : FileRefusal) → network_read octets ≡ Err d → network_read octets ≡ Err e → d ≡ e
same_refusal octets d e p q = cc

-- a network that is accepted breaks no rule
no_unfit : (octets : List ℕ) (n : Network) (told : RuleBroken) → MeansAccepted octets n → MeansUnfit octets told → ⊥
no_unfit octets n told m u =
    let first = rw (same_network octets u.network n u.read m.read) at u.first in
    first.first.broken (m.rules first.rule told.index)

-- ---- where the lines about a network that is refused are given

module _ (lines : List ℕ → List (List ℕ)) (Then : Network → Answer → Type 0) (octets : List ℕ) where
  -- a file that is too long has that answer alone
  too_long_one : IsTooLong octets → (b : Answer) → IsAnswerBy lines Then octets b → b ≡ too_long_answer
  too_long_one long b (inl h) = h.1
  too_long_one long b (inr (inl h)) = absurd (omega (arith, h.1.fits))
  too_long_one long b (inr (inr (inl h))) = absurd (omega (arith, h.1.fits))
  too_long_one long b (inr (inr (inr h))) = absurd (omega (arith, h.1.fits))

  -- a text that is no network has the answer for its fault alone
  file_one : (e : FileRefusal) → MeansNoNetwork octets e → (b : Answer) → IsAnswerBy lines Then octets b → b ≡ refused_by lines (file_reason e)
  file_one e m b (inl h) = absurd (omega (arith, h.0, m.fits))
  file_one e m b (inr (inl h)) = h.2 ∙ (rw (same_refusal octets h.0 e h.1.read m.read))
  file_one e m b (inr (inr (inl h))) = absurd (no_both octets h.1.network e h.1.read m.read)
  file_one e m b (inr (inr (inr h))) = absurd (no_both octets h.0 e h.1.read m.read)

  -- a network that breaks a rule has the answer for the first alone
  rule_one : RefusalIsOne → (told : RuleBroken) → MeansUnfit octets told → (b : Answer) → IsAnswerBy lines Then octets b
      → b ≡ refused_by lines (rule_reason told)
  rule_one one told m b (inl h) = absurd (omega (arith, h.0, m.fits))
  rule_one one told m b (inr (inl h)) = absurd (no_both octets m.network h.0 m.read h.1.read)
  rule_one one told m b (inr (inr (inl h))) =
      let same = same_network octets h.1.network m.network h.1.read m.read in
      h.2 ∙ (rw (one m.network h.0 told (rw same at h.1.first) m.first))
  rule_one one told m b (inr (inr (inr h))) = absurd (no_unfit octets h.0 told h.1 m)

  -- an accepted network has the answers for it alone
  pub alone_by : (n : Network) → MeansAccepted octets n → (b : Answer) → IsAnswerBy lines Then octets b → Then n b
  alone_by n m b (inl h) = absurd (omega (arith, h.0, m.fits))
  alone_by n m b (inr (inl h)) = absurd (no_both octets n h.0 m.read h.1.read)
  alone_by n m b (inr (inr (inl h))) = absurd (no_unfit octets n h.0 m h.1)
  alone_by n m b (inr (inr (inr h))) = rw (same_network octets h.0 n h.1.read m.read) at h.2

  -- the octets have one answer, where an accepted network has
  pub one_by : RefusalIsOne → ((n : Network) → MeansAccepted octets n → (a b : Answer) → Then n a → Then n b → a ≡ b) → (a b : Answer)
      → IsAnswerBy lines Then octets a → IsAnswerBy lines Then octets b → a ≡ b
  one_by one then_one a b (inl p) q = p.1 ∙ sym (too_long_one p.0 b q)
  one_by one then_one a b (inr (inl p)) q = p.2 ∙ sym (file_one p.0 p.1 b q)
  one_by one then_one a b (inr (inr (inl p))) q = p.2 ∙ sym (rule_one one p.0 p.1 b q)
  one_by one then_one a b (inr (inr (inr p))) q = then_one p.0 p.1 a b p.2 (alone_by p.0 p.1 b q)

  module _ (status : Status) (old new : Shown) where
    -- an answer was given where there is no accepted network
    none_given : (cause : NoNetwork) → IsNoNetwork octets cause → Gives (answer_by lines cause) status old new
        → ((cause ≡ causes.ReadFault) ⊎ (cause ≡ causes.OutOfMemory) → (status ≡ WriteFault → ⊥) × PutsNone old new)
        → GivesAnswer (IsAnswerBy lines Then octets) status old new
    none_given causes.ReadFault h g unput =
        unput_answer (IsAnswerBy lines Then octets) (answer_by lines causes.ReadFault) status old new (inl refl) (unput (inl refl)) g
    none_given causes.OutOfMemory h g unput =
        unput_answer (IsAnswerBy lines Then octets) (answer_by lines causes.OutOfMemory) status old new (inr refl) (unput (inr refl)) g
    none_given causes.TooLong h g unput = inl (too_long_answer, inl (h, refl), g)
    none_given (causes.File e) h g unput = inl (refused_by lines (file_reason e), inr (inl (e, h, refl)), g)
    none_given (causes.Rule told) h g unput = inl (refused_by lines (rule_reason told), inr (inr (inl (told, h, refl))), g)

    -- and for an accepted one
    accepted_given : (n : Network) → MeansAccepted octets n → GivesAnswer (Then n) status old new → GivesAnswer (IsAnswerBy lines Then octets) status old new
    accepted_given n m g = answer_widened (Then n) (IsAnswerBy lines Then octets) status old new (λ a h. inr (inr (inr (n, m, h)))) g

-- ---- where a refusal is told by its line

pub accepted_alone : (Then : Network → Answer → Type 0) (octets : List ℕ) (n : Network) → MeansAccepted octets n → (b : Answer) → IsNetworkAnswer Then octets b
    → Then n b
accepted_alone Then octets n m b is = alone_by refusal_lines Then octets n m b is

pub network_answer_one : RefusalIsOne → (Then : Network → Answer → Type 0) (octets : List ℕ)
    → ((n : Network) → MeansAccepted octets n → (a b : Answer) → Then n a → Then n b → a ≡ b)
    → (a b : Answer) → IsNetworkAnswer Then octets a → IsNetworkAnswer Then octets b → a ≡ b
network_answer_one one Then octets then_one a b p q = one_by refusal_lines Then octets one then_one a b p q

-- ---- what `check` answers

-- an accepted network's beta is told
pub acceptance : (n : Network) (beta : ℕ) (status : Status) (old new : Shown) → IsBeta n (pos beta)
    → Gives (record { status = Done; lines = acceptance_line beta (gamma_of n) ∷ [] }) status old new → GivesAnswer (IsAcceptance n) status old new
acceptance n beta status old new is g =
    inl (record { status = Done; lines = acceptance_line beta (gamma_of n) ∷ [] }, record { beta = beta; is = is; answer = refl }, g)

-- an accepted network has one answer of `check`
pub acceptance_one : BetaIsUnique → (n : Network) (a b : Answer) → IsAcceptance n a → IsAcceptance n b → a ≡ b
acceptance_one unique n a b p q =
    let same : p.beta ≡ q.beta = omega (arith, ints, unique n (pos p.beta) (pos q.beta) p.is q.is) in
    p.answer ∙ (rw same (sym q.answer))

-- ---- the answer for a source

pub answered_none : (Then : Network → Answer → Type 0) (left : Option (List ℕ)) (cause : NoNetwork) (status : Status) (old new : Shown)
    → ForOctets left (λ octets. IsNoNetwork octets cause) → Gives (no_network_answer cause) status old new
    → ((cause ≡ causes.ReadFault) ⊎ (cause ≡ causes.OutOfMemory) → (status ≡ WriteFault → ⊥) × PutsNone old new)
    → AnswersOne (IsNetworkAnswer Then) left status old new
answered_none Then left cause status old new h g unput =
    for_more left (λ octets. IsNoNetwork octets cause) (λ octets. GivesAnswer (IsNetworkAnswer Then octets) status old new)
    (λ octets none. none_given refusal_lines Then octets status old new cause none g unput) h

pub answered_accepted : (Then : Network → Answer → Type 0) (left : Option (List ℕ)) (n : Network) (status : Status) (old new : Shown)
    → ForOctets left (λ octets. MeansAccepted octets n) → GivesAnswer (Then n) status old new → AnswersOne (IsNetworkAnswer Then) left status old new
answered_accepted Then left n status old new h g =
    for_more left (λ octets. MeansAccepted octets n) (λ octets. GivesAnswer (IsNetworkAnswer Then octets) status old new)
    (λ octets m. accepted_given refusal_lines Then octets status old new n m g) h

-- ---- for two sources: a network file, and another for which the answer for an accepted network is given

module _ (lines : List ℕ → List (List ℕ)) (IsFor : List ℕ → Network → Answer → Type 0) (first second : Option (List ℕ)) where
  pub files_accepted : (network : Network) (status : Status) (old new : Shown) → ForOctets first (λ octets. MeansAccepted octets network)
      → ForOctets second (λ other. GivesAnswer (IsFor other network) status old new)
      → ForOctets first (λ octets. ForOctets second (λ other. GivesAnswer (IsAnswerBy lines (IsFor other) octets) status old new))
  files_accepted network status old new means g =
      for_more first (λ octets. MeansAccepted octets network)
      (λ octets. ForOctets second (λ other. GivesAnswer (IsAnswerBy lines (IsFor other) octets) status old new))
      (λ octets m. for_more second (λ other. GivesAnswer (IsFor other network) status old new)
      (λ other. GivesAnswer (IsAnswerBy lines (IsFor other) octets) status old new)
      (λ other h. accepted_given lines (IsFor other) octets status old new network m h) g) means

  pub files_refused : (cause : NoNetwork) (status : Status) (old new : Shown) → ForOctets first (λ octets. IsNoNetwork octets cause)
      → Gives (answer_by lines cause) status old new
      → ((cause ≡ causes.ReadFault) ⊎ (cause ≡ causes.OutOfMemory) → (status ≡ WriteFault → ⊥) × PutsNone old new)
      → ForOctets first (λ octets. ForOctets second (λ other. GivesAnswer (IsAnswerBy lines (IsFor other) octets) status old new))
  files_refused cause status old new none g unput =
      for_more first (λ octets. IsNoNetwork octets cause)
      (λ octets. ForOctets second (λ other. GivesAnswer (IsAnswerBy lines (IsFor other) octets) status old new))
      (λ octets h. for_all second (λ other. GivesAnswer (IsAnswerBy lines (IsFor other) octets) status old new)
      (λ other. none_given lines (IsFor other) octets status old new cause h g unput)) none

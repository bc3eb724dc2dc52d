-- A network has one answer of `least`.
use Rattle.lens_slack.{proofs.Verdict.first_once, specs.declared.least.times.Times.Times}
use Rattle.net_plan.specs.declared.network.Network.{Network}
use Rattle.{lens_slack.specs.{Answer.ending_answer, least.Least.AreLeast}, tte_forms.specs.Answering.Answer}
use Rattle.{lens_slack.specs.least.{Answer.{IsLeastOf, times_answer}, Times.AreAtMost}, std.proofs.Common.{◌∙◌, ◌≡◌, ◌≤◌, [], ap, arith, inl, inr, sym, ℕ}}

abbrev made : ℕ → ℕ → ℕ → ℕ → ℕ → Times
made d s p c e = record { dmax = d; settled = s; precision = p; correction = c; tt_start = e }

both_at_most : (d e : ℕ) → d ≤ e → e ≤ d → d ≡ e
both_at_most d e most least = omega (arith, most, least)

same_times : {t u : Times} → AreAtMost t u → AreAtMost u t → t ≡ u
same_times a b = grind (arith, both_at_most)

times_once : {n : Network} {t u : Times} → AreLeast n t → AreLeast n u → t ≡ u
times_once {t} {u} a b = same_times (a.least u b.suffice) (b.least t a.suffice)

pub least_one : {n : Network} (a b : Answer) → IsLeastOf n a → IsLeastOf n b → a ≡ b
least_one {n} a b (inl (rule, place, shape, first, is)) (inl (other, there, less, again, its)) =
    is ∙ ap (ending_answer n []) (first_once first again) ∙ sym its
least_one a b (inl (rule, place, shape, first, is)) (inr (keeps, rest)) = absurd (first.broken (keeps rule shape place))
least_one a b (inr (keeps, rest)) (inl (rule, place, shape, first, is)) = absurd (first.broken (keeps rule shape place))
least_one {n} a b (inr (keeps, (t, least, is))) (inr (kept, (u, again, its))) =
    is ∙ ap (times_answer n) (times_once least again) ∙ sym its

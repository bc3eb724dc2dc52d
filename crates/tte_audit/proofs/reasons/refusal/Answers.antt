use Rattle.tte_audit.proofs.Telling.{of_type}
use Rattle.tte_audit.proofs.{Words.{◌∙◌, ◌∷◌, ◌≡◌, List, Words, ap, codes, reason_words, rules, sym, ℕ}}
use Rattle.tte_audit.proofs.reasons.refusal.Goals as goal

pub returns-then-eq-4-clause-is : goal.returns-then-eq-4-clause-is
returns-then-eq-4-clause-is c r range e none =
    let rest = c.next.new.self in
    let second : c.in_ok-kind.kind.now ≡ codes "type" = search rules in
    let parts : c.args.words.now ≡ c.in_ok-kind.kind.now ∷ rest = search rules in
    let whole : codes "refused" ∷ codes "type" ∷ rest ≡ reason_words r = ap (λ (w : List ℕ). codes "refused" ∷ w ∷ rest) (sym second)
    ∙ ap (λ (ws : Words). codes "refused" ∷ ws) (sym parts)
    ∙ e in
    let h = of_type r rest range whole in
    c.bad_kind.ensures.is h.octet h.range h.digits none

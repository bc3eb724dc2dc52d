use Rattle.std.{proofs.{Common.{◌∙◌, ◌≡◌, FitsSigned, IsTrue, Some, false, rules, sym, w64}, lemmas.Int.to_z-of_z}, specs.Prelude.All}
use Rattle.audit_law.{proofs.collections_lemmas.Clusters.{none_is, sends-found, sends-from, some_is}}
use Rattle.audit_law.{specs.collections.Kept.{as_emitted, emissions_in}}
use Rattle.audit_law.proofs.collections.history.CollectionHistory.sends.Goals as goal

pub returns-in-Some : goal.returns-in-Some
returns-in-Some c =
    let h = c.args.self.now in
    let g = c.args.gathering.now in
    let sent = c.args.sent.now in
    let fits : FitsSigned w64 sent.opened.0 = search rules in
    let each : All (λ e. e.opened ≡ sent.opened.0 → c.opened_at.result ≡ Some e) (emissions_in h g) =
    rw (to_z-of_z w64 sent.opened.0 fits) at c.opened_at.ensures.each in (
      λ true_is. sends-from h g sent c.in-Some.emitted c.in-Some.ensures.found.0 (c.is.ensures.0 true_is),
      λ sends. c.is.ensures.1 (some_is c.in-Some.emitted (as_emitted sent) (sym c.in-Some.is ∙ sends-found h g sent c.opened_at.result each sends)),
    )

pub returns-in-None : goal.returns-in-None
returns-in-None c =
    let h = c.args.self.now in
    let g = c.args.gathering.now in
    let sent = c.args.sent.now in
    let fits : FitsSigned w64 sent.opened.0 = search rules in
    let each : All (λ e. e.opened ≡ sent.opened.0 → c.opened_at.result ≡ Some e) (emissions_in h g) =
    rw (to_z-of_z w64 sent.opened.0 fits) at c.opened_at.ensures.each in (
      λ never. absurd (true_not never),
      λ sends. absurd (none_is (as_emitted sent) (sym c.in-None.is ∙ sends-found h g sent c.opened_at.result each sends)),
    )
  where
    true_not : IsTrue false → ⊥
    true_not e = cc

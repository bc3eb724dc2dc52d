use Rattle.{run_law.proofs.plain_lemmas.Same.{itself, neither, not_true}, std.proofs.Common.{◌∙◌, ap, not, sym}}
use Rattle.run_law.proofs.plain.places.place.Place.is_same.Goals as goal

pub returns-then-not-is_before : goal.returns-then-not-is_before
returns-then-not-is_before c =
    let first = c.is_before in
    let second = c.is_before-then-not-is_before in (
      λ is.
          neither c.args.self.now c.args.other.now (sym first.ensures ∙ c.if-not-is_before.true) (sym second.ensures ∙ not_true second.result is),
      λ same. ap not (second.ensures ∙ itself c.args.other.now c.args.self.now (sym same)),
    )

pub returns-else-not-is_before : goal.returns-else-not-is_before
returns-else-not-is_before c = (
  λ is. absurd (cc (is, c.if-not-is_before.false)),
  λ same. ap not (c.is_before.ensures ∙ itself c.args.self.now c.args.other.now same),
)

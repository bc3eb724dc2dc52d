use Rattle.audit_law.proofs.collections_lemmas.Clusters.{opened-by, push-same, shift}
use Rattle.{std.proofs.lemmas.{Int.{ints, to_z-of_z}, List.length-append}}
use Rattle.std.proofs.Common.{◌++◌, ◌+◌, ◌∙◌, ◌∷◌, ◌≡◌, FitsSigned, [], ap, arith, length, refl, rules, sym, w64}
use Rattle.audit_law.proofs.collections.history.CollectionHistory.open.Goals as goal

pub returns-clause-opened : goal.returns-clause-opened
returns-clause-opened c =
    let h = c.args.self.now in
    let closes = c.in_ok-from.ensures.closes in
    let fits : FitsSigned w64 c.args.reading = search rules in
    let counted : c.self.inside.counted.items ≡ h.counted = ap (λ v. v.counted) c.self.view_is ∙
    c.in_ok-from.ensures.counted in
    let push = c.in_ok-push.ensures.items
    ∙ (rw (to_z-of_z w64 c.args.reading fits)
    (ap (λ ps. ps ++ c.args.reading ∷ []) counted)) in
    let len : length c.push.new.self.items ≡ length h.counted + 1 = ap length push ∙ length-append h.counted (c.args.reading ∷ []) in
    let before : c.len.result ≡ length c.self.inside.counted.items = search rules in
    let start = before ∙ ap length counted in
    let closed : c.self.inside.closed.items ≡ c.close.new.self.closed = ap (λ v. v.closed) c.self.view_is in
    let ow : c.self.inside.ow.0 ≡ h.ow = ap (λ v. v.ow) c.self.view_is ∙ c.in_ok-from.ensures.grown.ow in
    record {
      row = _;
      is = refl;
      ends = record { closed = closes.ends ∙ ap length (sym closed); some = omega arith; counted = omega arith };
      kept = push-same (rw closed closes.kept) _;
      cluster =
          opened-by h.counted c.push.new.self.items h.ow c.args.reading c.args.master c.args.cycle _ _ _ _ push start (to_z-of_z w64 c.args.reading fits)
          (omega (arith, ints)) (shift c.args.master c.requires.master);
    }

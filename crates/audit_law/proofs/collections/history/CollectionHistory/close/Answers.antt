use Rattle.std.proofs.{Common.{◌++◌, ◌∙◌, ◌∷◌, [], ap, sym}, lemmas.List.append-nil}
use Rattle.audit_law.proofs.collections_lemmas.Clusters.{grows-none}
use Rattle.audit_law.proofs.collections.history.CollectionHistory.close.Goals as goal

pub returns-in_default-clause-grown : goal.returns-in_default-clause-grown
returns-in_default-clause-grown c = grows-none c.args.self.now

pub returns-in_err-push-clause-grown : goal.returns-in_err-push-clause-grown
returns-in_err-push-clause-grown c = record {
  ow = ap (λ v. v.ow) c.self.view_is;
  calc = ap (λ v. v.calc) c.self.view_is;
  later_points = [];
  counted = ap (λ v. v.counted) c.self.view_is ∙ sym (append-nil c.args.self.now.counted);
  later = [];
  closed = c.in_err-push.ensures.items ∙ (ap (λ v. v.closed) c.self.view_is ∙ sym (append-nil c.args.self.now.closed));
}

pub returns-clause-grown : goal.returns-clause-grown
returns-clause-grown c = record {
  ow = ap (λ v. v.ow) c.self.view_is;
  calc = ap (λ v. v.calc) c.self.view_is;
  later_points = [];
  counted = ap (λ v. v.counted) c.self.view_is ∙ sym (append-nil c.args.self.now.counted);
  later = c.in-Some.row.last ∷ [];
  closed = c.in_ok-push.ensures.items ∙ ap (λ v. v.closed ++ c.in-Some.row.last ∷ []) c.self.view_is;
}

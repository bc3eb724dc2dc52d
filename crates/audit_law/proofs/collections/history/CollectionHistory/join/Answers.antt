use Rattle.audit_law.{proofs.collections_lemmas.Clusters.{grows-none, joined-by, kept_with, shift}}
use Rattle.audit_law.{specs.declared.collections.gathering.Gathering.Gathering}
use Rattle.{audit_law.specs.collections.Gathered.EndsWith, std.proofs.{Common.{sym, take, to_z, w64}, lemmas.List.{append-nil, length-append}}}
use Rattle.audit_law.specs.{collections.{Kept.{History, cluster_kept}, Steps.Joins}, declared.collections.{gathering.Row.Row}}
use Rattle.{compression.specs.Collection.joined_end, std.{proofs.lemmas.Int.to_z-of_z, specs.{Int.w128, Prelude.{bit_or}}}}
use Rattle.std.proofs.Common.{◌%◌, ◌*◌, ◌++◌, ◌+◌, ◌-◌, ◌^◌, ◌∙◌, ◌∷◌, ◌≡◌, FitsSigned, Some, [], ap, arith, drop, length, of_z, refl, rules}
use Rattle.audit_law.proofs.collections.history.CollectionHistory.join.Goals as goal

pub returns-in_default-clause-grown : goal.returns-in_default-clause-grown
returns-in_default-clause-grown c = grows-none c.args.self.now

pub returns-in_err-push-clause-grown : goal.returns-in_err-push-clause-grown
returns-in_err-push-clause-grown c = record {
  ow = ap (λ v. v.ow) c.self.view_is;
  calc = ap (λ v. v.calc) c.self.view_is;
  later_points = [];
  counted = c.in_err-push.ensures.items ∙ (ap (λ v. v.counted) c.self.view_is ∙ sym
      (append-nil c.args.self.now.counted));
  later = [];
  closed = ap (λ v. v.closed) c.self.view_is ∙ sym (append-nil c.args.self.now.closed);
}

pub returns-clause-joined : goal.returns-clause-joined
returns-clause-joined c =
    let h = c.args.self.now in
    let row = c.in-Some.row in
    let k = row.last in
    let latest : EndsWith h row = rw c.in-Some.is at c.requires.latest in
    let fits : FitsSigned w64 c.args.reading = search rules in
    let push = c.in_ok-push.ensures.items
    ∙ (rw (to_z-of_z w64 c.args.reading fits)
    (ap (λ v. v.counted ++ c.args.reading ∷ []) c.self.view_is)) in
    let len : length c.push.new.self.items ≡ length h.counted + 1 = ap length push ∙ length-append h.counted (c.args.reading ∷ []) in
    let more : c.len.result ≡ length c.push.new.self.items = search rules in
    let closed : c.self.inside.closed.items ≡ h.closed = ap (λ v. v.closed) c.self.view_is in
    let ow : c.self.inside.ow.0 ≡ h.ow = ap (λ v. v.ow) c.self.view_is in
    let fit_ow : FitsSigned w64 c.self.inside.ow.0 = search rules in
    let window = to_z-of_z w64 c.self.inside.ow.0 fit_ow ∙ ow in
    let fit : FitsSigned w64 k.opened = search rules in
    let wide : FitsSigned w128 c.end_with.result = search rules in
    let last = kept_with (to_z w64 (of_z w64 k.opened)) (to_z w128 (of_z w128 c.end_with.result)) k.cycle
    (bit_or k.members (1 * 2 ^ c.args.master % 18446744073709551616)) k.from (c.len.result - k.from) in
    let more_row : Row = record { from = row.from; count = row.count; last = last } in
    let new : History = record { ow = c.self.inside.ow.0; calc = c.self.inside.calc.0; counted = c.push.new.self.items; closed = c.self.inside.closed.items } in
    let result : Gathering = record { row = Some more_row } in
    let joins : Joins h new row c.args.reading c.args.master result = record {
      row = more_row;
      is = refl;
      ends = record {
        closed = latest.closed ∙ ap length (sym closed);
        some = omega (arith, latest.counted);
        counted = omega (arith, latest.counted);
      };
      front = take row.count (drop row.from h.closed);
      were = refl;
      are = rw closed;
      cluster =
          joined-by h.counted c.push.new.self.items k h.ow c.args.reading c.args.master _ _ _ _ push latest.counted (to_z-of_z w64 k.opened fit)
          (to_z-of_z w128 c.end_with.result wide ∙ (c.end_with.ensures h.counted
          ∙ (rw window
          (ap (joined_end h.ow (cluster_kept h.counted k)) (to_z-of_z w64 c.args.reading fits)))))
          (ap (bit_or k.members) (shift c.args.master c.requires.master))
          (omega (arith, latest.counted));
    } in
    rw c.in-Some.is joins

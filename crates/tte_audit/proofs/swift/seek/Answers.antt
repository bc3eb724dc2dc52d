use Rattle.tte_audit.proofs.Words.{◌++◌, ◌∙◌, List, [], ap, append_assoc, arith, refl, subst, sym, ℕ}
use Rattle.tte_audit.{proofs.ReportText.few_events, specs.Swift.{IsSought, IsSoughtOn}}
use Rattle.tte_audit.proofs.swift.seek.Goals as goal

pub lines-init : goal.lines-init
lines-init c = record { begun = ([], refl); told = ([], c.in-Some.ensures c.args.report.now, omega arith) }

pub look-requires-clause-few : goal.look-requires-clause-few
look-requires-clause-few c =
    let told = c.lines.invariant.told in
    let few = told.2 in
    omega (arith, told.1.follows.counted, few_events told.0, few, c.requires)

pub look-requires-clause-sought : goal.look-requires-clause-sought
look-requires-clause-sought c =
    let report = c.args.report.now in
    let told = c.lines.invariant.told in
    (report, told.0, subst (λ n. IsSought n report told.0 c.lines.sought) (sym c.named_network-network.ensures.value) told.1)

pub lines-smaller : goal.lines-smaller
lines-smaller c = let fewer = c.in-Some-first_line.ensures.fewer in omega (arith, fewer)

pub lines-preserved : goal.lines-preserved
lines-preserved c =
    let report = c.args.report.now in
    let behind = c.in-Some-first_line.ensures in
    let begun = c.lines.invariant.begun in
    let told = c.lines.invariant.told in
    let own = subst (λ n. IsSought n report told.0 c.lines.sought) (sym c.named_network-network.ensures.value) told.1 in
    let on = subst (λ n. IsSoughtOn n report told.0 c.look.new.self) c.named_network-network.ensures.value
    (c.in-Some-look.ensures report begun.0 told.0 begun.1 own) in
    record {
      begun = (
        begun.0 ++ behind.front,
        begun.1 ∙ ap (λ (os : List ℕ). begun.0 ++ os) behind.parts
            ∙ sym (append_assoc begun.0 behind.front c.in-Some-first_line.line.behind.now),
      );
      told = (on.more, on.is, let few = told.2 in let fewer = behind.fewer in omega (arith, on.few, few, fewer));
    }

pub returns : goal.returns
returns c = let told = c.lines.invariant.told in (told.0, told.1)

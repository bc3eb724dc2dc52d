use Rattle.tte_audit.proofs.Words.{◌++◌, ◌∙◌, List, ap, append_assoc, arith, sym, ℕ}
use Rattle.tte_audit.proofs.swift.first_line.Goals as goal

pub returns : goal.returns
returns c =
    let text = c.split_at.result.0.now in
    let end = c.split_at-2.result.0.now in
    let behind = c.split_at-2.result.1.now in
    record {
      front = text ++ end;
      parts = c.split_at.ensures.by_index.0 ∙ ap (λ (os : List ℕ). text ++ os) c.split_at-2.ensures.by_index.0 ∙ sym (append_assoc text end behind);
      fewer = omega (arith, c.split_at.ensures.back_len, c.split_at-2.ensures.back_len);
    }

use Rattle.std.proofs.Common.{◌++◌, ◌∙◌, ◌≡◌, List, ap, arith, decimal, length, take, ℕ}
use Rattle.std.proofs.{Math.Seq.{drop-append_seam, take-append_seam}, lemmas.Fmt.{decimal_nonempty, length-decimal-le}}
use Rattle.report_text.proofs.numbers.NumberText.spell_in.Goals as goal

-- a text that is put before what is behind it
put_before : (xs ys rest : List ℕ) → ys ≡ xs → take (length xs) (ys ++ rest) ≡ xs
put_before xs ys rest same = rw same (take-append_seam xs rest)

pub invariant_of-self : goal.invariant_of-self
invariant_of-self c =
    let line = c.args.line.now in
    let n = c.args.number in
    let spelled = c.split_at.ensures.back
    ∙ (rw (c.as_slice.ensures ∙ c.push_decimal.ensures.text)
    ((rw c.as_slice-from.ensures
    (drop-append_seam line (decimal n)))))
    in
    let size = ap length spelled in (
      put_before c.split_at.result.1.now c.copy_from_slice.new.self _ c.copy_from_slice.ensures.after ∙ spelled,
      omega (arith, decimal_nonempty n c.ranges.number.fits),
      omega (arith, length-decimal-le 20 n (omega arith) (omega (arith, c.ranges.number.fits)) c.ranges.number.fits),
    )

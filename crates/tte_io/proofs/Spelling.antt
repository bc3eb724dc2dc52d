-- Texts that are spelled into the room of a line.
use Rattle.std.proofs.{Common.{◌++◌, ◌+◌, ◌∙◌, ◌≡◌, ◌≤◌, List, ap, drop, length, length-take-le, sym, take, ℕ}, Math.Seq.{take-add, take-append-add, take-append_seam}}
use Rattle.std.proofs.lemmas.List.{take-append-le}

-- a word at this place of a list whose front stays
pub spelled_at : (old new word rest : List ℕ) (at : ℕ) → take at new ≡ take at old → drop at new ≡ word ++ rest
    → take (at + length word) new ≡ take at old ++ word
spelled_at old new word rest at front back =
    take-add at (length word) new ∙ (rw front
    ((rw back ((rw (take-append_seam word rest))))))

-- of what is put behind a front, so much is taken
pub put_behind : (xs ys rest zs : List ℕ) (len count : ℕ) → len ≤ length xs → count ≤ length ys → ys ≡ zs
    → take (len + count) (take len xs ++ (ys ++ rest)) ≡ take len xs ++ take count zs
put_behind xs ys rest zs len count inside within is =
    ap (λ k. take (k + count) (take len xs ++ (ys ++ rest))) (sym (length-take-le len xs inside))
    ∙ take-append-add (take len xs) (ys ++ rest) count
    ∙ (rw (take-append-le count ys rest within ∙ ap (take count) is))

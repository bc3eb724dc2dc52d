-- The decimal of the next number.
use Rattle.std.proofs.Common.{◌%◌, ◌++◌, ◌+◌, ◌-◌, ◌/◌, ◌<◌, ◌^◌, ◌∙◌, ◌∷◌, ◌≡◌, ◌≤◌, List, [], ap, arith, decimal, inl, inr, length, length-append, length-take-le}
use Rattle.std.{proofs.{Common.{slice_index_or, slice_set, sym, take, ℕ}, lemmas.{Bool.cases_lt, Fmt.{decimal_digit, decimal_step}}}}
use Rattle.std.proofs.{Math.Seq.{get_or-append_seam, set-append_seam, take-set-lt}, lemmas.List.get_or-take}

-- the digits but the last, where the last grows by one to the next number
pub record IsBehind (n : ℕ) : Type 0 where
  pub front : List ℕ
  pub this : decimal n ≡ front ++ (48 + n % 10) ∷ []
  pub next : n % 10 < 9 → decimal (n + 1) ≡ front ++ (48 + n % 10 + 1) ∷ []

pub behind : (n : ℕ) → n + 1 < 2 ^ 64 → IsBehind n
behind n small = elim (cases_lt n 10) [
  | inl lt ↦ record {
    front = [];
    this = decimal_digit n lt ∙ ap (λ k. (48 + k) ∷ []) (omega (arith, lt));
    next = λ less. decimal_digit (n + 1) (omega (arith, less, lt)) ∙ ap (λ k. k ∷ []) (omega (arith, less, lt));
  }
  | inr ge ↦ record {
    front = decimal (n / 10);
    this = decimal_step n ge (omega arith);
    next = λ less.
        let tens : (n + 1) / 10 ≡ n / 10 = omega arith in
        let last : 48 + (n + 1) % 10 ≡ 48 + n % 10 + 1 = omega arith in
        decimal_step (n + 1) (omega arith) small
        ∙ ap (λ k. decimal k ++ (48 + (n + 1) % 10) ∷ []) tens
        ∙ ap (λ k. decimal (n / 10) ++ k ∷ []) last;
  }
]

-- the last digit of its text
module _ (text : List ℕ) (len n d : ℕ) (bound : len ≤ length text) (is : take len text ≡ decimal n) (small : n + 1 < 2 ^ 64) where
  b : IsBehind n
  b = behind n small

  size : length b.front + 1 ≡ len
  size = omega (arith, ap length (is ∙ b.this), length-append b.front ((48 + n % 10) ∷ []), length-take-le len text bound)

  pub some_digit : 1 ≤ len
  some_digit = omega (arith, size)

  place : len - 1 ≡ length b.front
  place = omega (arith, size)

  here : slice_index_or text (len - 1) d ≡ 48 + n % 10
  here =
      sym (get_or-take len text (len - 1) d (omega (arith, size)))
      ∙ (rw (is ∙ b.this)
      ((rw place
      (get_or-append_seam b.front (48 + n % 10) [] d))))

  pub digit_most : slice_index_or text (len - 1) d ≤ 57
  digit_most = omega (arith, here)

  -- where it is not 9, the text is that of the next number when it grows by one
  pub counted_up : (slice_index_or text (len - 1) d ≡ 57 → ⊥)
      → take len (slice_set text (len - 1) (slice_index_or text (len - 1) d + 1)) ≡ decimal (n + 1)
  counted_up no_nine =
      let v = slice_index_or text (len - 1) d + 1 in
      let less : n % 10 < 9 = elim (cases_lt (n % 10) 9) [
        | inl lt ↦ lt
        | inr ge ↦ absurd (no_nine (here ∙ omega arith))
      ] in
      take-set-lt len text (len - 1) v (omega (arith, size))
      ∙ (rw (is ∙ b.this)
      (ap (λ k. slice_set (b.front ++ (48 + n % 10) ∷ []) k v) place
      ∙ set-append_seam b.front (48 + n % 10) [] v
      ∙ (rw here
      (sym (b.next less)))))

-- What is no UTF-8 is no decimal.
use Rattle.std.proofs.{Common.{◌<◌, ◌^◌, ◌≡◌, IsAscii, IsUtf8, List, None, arith, subst, sym, ℕ}, lemmas.{Fmt.IsAscii-decimal, Str.IsUtf8-from_ascii}}
use Rattle.trace_text.specs.Numbers.{number_up_to}
use Rattle.tte_forms.proofs.FormLemmas.{none_spelled as no_decimal}

pub none_spelled : (most : ℕ) (text : List ℕ) → most < 2 ^ 64 → (IsUtf8 text → ⊥) → number_up_to most text ≡ None
none_spelled most text few not =
    sym (no_decimal most text (λ n within is. not (IsUtf8-from_ascii text (subst IsAscii (sym is) (IsAscii-decimal n (omega (arith, within, few)))))))

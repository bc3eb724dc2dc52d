use Rattle.std.{proofs.Common.{◌≡◌, ◌≤◌, take}, specs.Str.Parse.{AllDigits, digits_value}}
use Rattle.trace_text.proofs.numbers.value_up_to.Given as goal

abbrev pub invariant-digits : goal.invariant-digits
invariant-digits l = record {
  digits : AllDigits 10 (take l.digit-index l.text);
  value : l.number ≡ digits_value 10 (take l.digit-index l.text);
  within : l.number ≤ l.most;
}

use Rattle.tte_audit.proofs.Words.{◌≡◌, ◌≤◌, AllDigits, digits_value, take}
use Rattle.tte_audit.proofs.numbers.digits_of.Given as goal

abbrev pub invariant-digits : goal.invariant-digits
invariant-digits l = record {
  here : l.count ≡ l.octet-index;
  short : l.count ≤ 19;
  digits : AllDigits 10 (take l.octet-index l.text);
  value : l.number ≡ digits_value 10 (take l.octet-index l.text);
}

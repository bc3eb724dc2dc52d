-- The rules that bound a number.
use Rattle.{schedule_tables.specs.declared.rule.Rule.{Rule, TheVariants.{Correction, Delays, Forwarding, Precision}}}
use Rattle.schedule_tables.specs.declared.rule.Rule.TheVariants.{ScheduleStart, Settling, Spacing, WindowEnds}

-- the rule says that one number is at most another
abbrev pub IsInequality : Rule → Type 0
IsInequality Delays = Unit {0}
IsInequality Settling = Unit {0}
IsInequality Precision = Unit {0}
IsInequality Correction = Unit {0}
IsInequality ScheduleStart = Unit {0}
IsInequality WindowEnds = Unit {0}
IsInequality Spacing = Unit {0}
IsInequality Forwarding = Unit {0}
IsInequality other = ⊥

use Rattle.std.proofs.Common.{inl, inr, refl}
use Rattle.tte_forms.{proofs.Puts.Ends-gives, specs.{Putting.shown_by, declared.status.Status.TheVariants.Done}}
use Rattle.tte_forms.proofs.each_line.put_lines.Goals as goal

pub returns-in-Ok-clause-gives : goal.returns-in-Ok-clause-gives
returns-in-Ok-clause-gives g c =
    Ends-gives Done c.end_with.result (shown_by g.K.Sink c.end_with.new.out) c.in-Ok.ensures.puts c.end_with.ensures.ends

pub returns-in-Err-clause-gives : goal.returns-in-Err-clause-gives
returns-in-Err-clause-gives g c = inr (inl (refl, inl c.in-Err.ensures.puts))

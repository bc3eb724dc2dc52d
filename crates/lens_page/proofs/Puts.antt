-- A text that is put before others.
use Rattle.std.specs.Io.KnownBytes.{Appends}
use Rattle.tte_forms.proofs.{Puts.{PutsLines-fails, PutsLines-more, PutsLines-none}, frames.Frames.Gives-behind}
use Rattle.std.proofs.Common.{◌≡◌, List, inl, inr, refl, ℕ}
use Rattle.tte_forms.specs.{Answering.{Answer, Gives, with_line}, Putting.Shown, declared.status.Status.{Status, TheVariants.WriteFault}}
use Rattle.tte_io.specs.{Faults.next_count, Told.AppendsFront}

-- it was put, and then the others
pub gives_then : (line : List ℕ) (a : Answer) (status : Status) (old : Shown) {now new : Shown}
    → Appends old.written now.written line → now.puts ≡ next_count old.puts → Gives a status now new
    → Gives (with_line line a) status old new
gives_then line a status old {now} {new} whole counted gives =
    Gives-behind a status (PutsLines-more line now (PutsLines-none old) whole counted) gives

-- it was not
pub gives_no_more : (line : List ℕ) (a : Answer) (old now : Shown) → AppendsFront old.written now.written line → now.puts ≡ next_count old.puts
    → Gives (with_line line a) WriteFault old now
gives_no_more line a old now front counted =
    inr (inl (refl, inl (PutsLines-fails line a.lines now (PutsLines-none old) front counted)))

-- A page.
use Rattle.std.specs.Prelude.{◌∷◌, List, [], ℕ}
use Rattle.lens_page.specs.{Closing.page_closing, Opening.page_opening}
use Rattle.tte_forms.specs.{Answering.Answer, declared.status.Status.TheVariants.Done}

-- the page with these two texts, that of a network and a report: they stand between two that are the same for all
abbrev pub page_with : List ℕ → List ℕ → Answer
page_with text report = record { status = Done; lines = page_opening ∷ text ∷ report ∷ page_closing ∷ [] }

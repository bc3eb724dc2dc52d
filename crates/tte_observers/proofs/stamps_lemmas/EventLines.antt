-- What an observer knows at an event.
use Rattle.{net_plan.specs.declared.event.What.What, world_drive.specs.{Observing.Befell, exact.Worlds.StandsExact}}
use Rattle.{run_law.specs.declared.note.NoteBody.{NoteBody, TheVariants.{Event as Befalls}}, tte_observers.specs.stamps.Stamping.MayStamp}
use Rattle.tte_observers.proofs.stamps_lemmas.Words.{◌++◌, ◌+◌, ◌∙◌, ◌∷◌, ◌≡◌, Event, ExactWorld, IsAtLine, List, Network, Note, [], ap, length, subst, sym, ℕ}

same_line : (a b : ℕ) (what other : What) → ◌≡◌ {A = NoteBody} (Befalls a what) (Befalls b other) → a ≡ b
same_line a b what other e = cc

module _ (network : Network) (world : ExactWorld) (events : List Event) (notes : List Note) (event : Event) (note : Note)
    (befell : Befell network world events notes event note) where
  -- the world shows the clocks before the records of the event's time
  pub may_stamp : MayStamp network world
  may_stamp =
      let same = befell.stands.is.same in
      record {
        same = same;
        before = record {
          events = events ++ event ∷ [];
          notes = notes ++ note ∷ [];
          is = subst (λ n. StandsExact n world (events ++ event ∷ []) (notes ++ note ∷ [])) (sym same) befell.stands;
          early = befell.reached.early;
        };
      }

  -- the record tells the line
  pub at_line : (line : ℕ) (what : What) → note.body ≡ Befalls line what → IsAtLine network world line events event (notes ++ note ∷ [])
  at_line line what body = record {
    stands = befell.stands;
    reached = befell.reached;
    counted = same_line line (length events + 1) what event.what (sym body ∙ ap (λ (n : Note). n.body) befell.is);
  }

-- What switches hold, once one more record is given.
use Rattle.{std.proofs.Common.arith, world_law.proofs.Words.{filter-append, if◌then◌else◌, inl, inr, is_accepted, last_or, refl, sym, true, ℕ}}
use Rattle.{tte_units.proofs.general_lemmas.Lists.last_more, world_law.specs.world.{Moves.AreTaken, World.{AreStored, IsStored, Stored, last_taking}}}
use Rattle.world_law.proofs.Words.{◌++◌, ◌∙◌, ◌∷◌, ◌≡◌, Bool, DeviceId, Happening, IsIn, List, Option, Some, VlId, [], cases_Bool, false, filter}

last_one : {X : Type 0} (b : Bool) (o : Option X) (x : X) → last_or o (if b then x ∷ [] else []) ≡ (if b then Some x else o)
last_one true o x = refl
last_one false o x = refl

-- one more record is the last taking, where it is one
pub last_then : (hs : List Happening) (h : Happening) (device : DeviceId) (vl : VlId) {b : Bool} → is_accepted device vl
    h.note.body ≡ b
    → last_taking (hs ++ h ∷ []) device vl ≡ (if b then Some h else last_taking hs device vl)
last_then hs h device vl is = grind (arith, is_accepted, last_or, filter-append, last_more, filter, last_one)

-- a record by which no frame is taken
pub stored_still : {hs : List Happening} (h : Happening) {stored : List Stored}
    → ((device : DeviceId) (vl : VlId) → is_accepted device vl h.note.body ≡ false) → AreStored hs stored
    → AreStored (hs ++ h ∷ []) stored
stored_still {hs} h none m = record {
  real = λ e i.
      let o = m.real e i in
      record {
        taking = o.taking;
        last = last_then hs h e.device e.vl (none e.device e.vl) ∙ o.last;
        number =
            o.number;
        octets = o.octets;
      };
  all = λ device vl taking last. m.all device vl taking (sym (last_then hs h device vl (none device vl)) ∙ last);
}

-- a record that is given
pub stored_then : {hs : List Happening} {h : Happening} {number : ℕ} {stored new : List Stored}
    → number ≡ h.note.number → AreStored hs stored → AreTaken h number stored new → AreStored (hs ++ h ∷ []) new
stored_then {hs} {h} {number} {new} is m t = record { real = real; all = all }
  where
    real : (e : Stored) → IsIn e new → IsStored (hs ++ h ∷ []) e
    real e i = elim (t.real e i) [
      | inl o ↦
          let it = m.real e o.0 in
          record {
            taking = it.taking;
            last = last_then hs h e.device e.vl o.1 ∙ it.last;
            number = it.number;
            octets =
                it.octets;
          }
      | inr n ↦ record { taking = h; last = last_then hs h e.device e.vl n.0; number = n.1 ∙ is; octets = n.2 }
    ]

    all : (device : DeviceId) (vl : VlId) (taking : Happening) → last_taking (hs ++ h ∷ []) device vl ≡ Some taking
        → (e : Stored) × IsIn e new × (e.device ≡ device) × (e.vl ≡ vl)
    all device vl taking last = elim (cases_Bool (is_accepted device vl h.note.body)) [
      | inl taken ↦ t.all device vl taken
      | inr not ↦
          let it = m.all device vl taking (sym (last_then hs h device vl not) ∙ last) in
          let kept : is_accepted it.0.device it.0.vl h.note.body ≡ false =
          rw it.2 (rw it.3 not) in
          (it.0, t.kept it.0 it.1 kept, it.2, it.3)
    ]

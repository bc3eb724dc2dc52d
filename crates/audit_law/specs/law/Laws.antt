-- What holds of lists of records that are judged one by one.
use Rattle.std.specs.Prelude.{◌++◌, ◌↔◌, ◌∷◌, ◌≡◌, List, [], ℕ}
use Rattle.audit_law.specs.law.{DueRecords.IsDue, Findings.{AreSound, IsGap, IsLacking, IsUnfoundedAt, LacksNothing}}
use Rattle.{audit_law.specs.law.Linked.AreLinked, run_law.specs.records.{Order.behind, Ranks.place_of}}
use Rattle.run_law.specs.{records.Happenings.Happening, runs.Runs.{IsNextOf, IsRun}, scenario.Scenarios.Scenario}

-- a list of records is the run exactly where it is sound and lacks nothing; and one unsound record is the first
pub record HasOneFinding (s : Scenario) (mark : List ℕ) (hs : List Happening) : Type 0 where
  pub run : IsRun place_of (IsDue s) mark hs ↔
      (AreSound place_of (IsDue s) mark hs × LacksNothing place_of (IsDue s) mark hs)
  pub sound : (n : ℕ) → AreSound place_of (IsDue s) mark hs → IsUnfoundedAt place_of (IsDue s) mark hs n → ⊥
  pub one : (n m : ℕ) → IsUnfoundedAt place_of (IsDue s) mark hs n → IsUnfoundedAt place_of (IsDue s) mark hs m → n ≡ m

-- so it is of every list, under every scenario and up to every mark
abbrev pub AuditLaws : Type 0
AuditLaws = (s : Scenario) (mark : List ℕ) (hs : List Happening) → HasOneFinding s mark hs

-- some front of the list has the record as a gap behind it
pub record HasGap (s : Scenario) (hs : List Happening) (x : Happening) : Type 0 where
  pub before : List Happening
  pub behind : List Happening
  pub parts : hs ≡ before ++ behind
  pub gap : IsGap place_of (IsDue s) before behind x

-- a sound list lacks exactly what is due in its gaps, so that a sweep from its front finds it; and its records are
-- linked
pub record HasGapsOnly (s : Scenario) (hs : List Happening) : Type 0 where
  pub lacks : (x : Happening) → IsLacking place_of (IsDue s) hs x ↔ HasGap s hs x
  pub linked : AreLinked hs

-- so it is of every list whose records are all sound
abbrev pub GapLaw : Type 0
GapLaw = (s : Scenario) (mark : List ℕ) (hs : List Happening) → AreSound place_of (IsDue s) mark hs → HasGapsOnly s hs

-- a run goes on by a record exactly where it is due behind it, and no other is due before that
abbrev pub NextLaw : Type 0
NextLaw =
    (s : Scenario) (mark : List ℕ) (hs : List Happening) (x : Happening)
    → IsRun place_of (IsDue s) mark hs
    → IsRun place_of (IsDue s) (behind (place_of x)) (hs ++ x ∷ []) ↔ IsNextOf place_of (IsDue s) mark hs x

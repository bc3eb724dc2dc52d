use Rattle.{std.proofs.{Common.{◌∙◌, arith, refl}, lemmas.Result.err_from_is_err_and}}
use Rattle.tte_io.proofs.LineReading
use LineReading.{found_too_long, kept_after_failure, making_advanced, making_filled, outcome_told, taken_at_end}
use LineReading.{taken_at_lf}
use Rattle.tte_io.proofs.taking.take_line.Goals as goal

pub returns-in_err-fill-clause-next : goal.returns-in_err-fill-clause-next
returns-in_err-fill-clause-next g c =
    let failure = err_from_is_err_and c.from_residual.result c.from_residual.ensures.1 in
    let making = making_filled _ _ _ _ _ c.reads.invariant.making c.in_err-fill.ensures.fills in
    rw failure.1 (kept_after_failure _ _ _ refl c.reads.invariant.unended making c.in_err-fill.ensures.failed)

pub returns-then-is_empty-clause-next : goal.returns-then-is_empty-clause-next
returns-then-is_empty-clause-next g c =
    let making = making_filled _ _ _ _ _ c.reads.invariant.making c.in_ok-fill.ensures.fills in
    let none = c.if-is_empty.ensures.0 refl in
    taken_at_end _ _ refl making none (c.in_ok-fill.ensures.end none) c.at_end.ensures

pub returns-in-Ended-clause-next : goal.returns-in-Ended-clause-next
returns-in-Ended-clause-next g c =
    let making = making_filled _ _ _ _ _ c.reads.invariant.making c.in_ok-fill.ensures.fills in
    taken_at_lf _ _ _ _ _ _ _ _ _ refl c.reads.invariant.unended making c.in-Ended.ensures.advances

pub returns-in-TooLong-clause-next : goal.returns-in-TooLong-clause-next
returns-in-TooLong-clause-next g c =
    let making = making_filled _ _ _ _ _ c.reads.invariant.making c.in_ok-fill.ensures.fills in
    found_too_long _ _ _ _ _ _ _ _ _ refl c.reads.invariant.unended making c.in-TooLong.ensures.advances

pub reads-preserved : goal.reads-preserved
reads-preserved g c = record {
  making =
      let making = making_filled _ _ _ _ _ c.reads.invariant.making c.in_ok-fill.ensures.fills in
      making_advanced _ _ _ _ _ _ _ making c.in-Unfinished.ensures.advances;
  bound = omega (arith, c.in-Unfinished.ensures.shorter);
  unended = c.reads.invariant.unended;
  unchanged = c.in_ok-fill.ensures.ok_unchanged ∙ c.reads.invariant.unchanged;
}

pub returns-in_err-fill-clause-told : goal.returns-in_err-fill-clause-told
returns-in_err-fill-clause-told g c = outcome_told _ _ _ (returns-in_err-fill-clause-next g c)

pub returns-then-is_empty-clause-told : goal.returns-then-is_empty-clause-told
returns-then-is_empty-clause-told g c = outcome_told _ _ _ (returns-then-is_empty-clause-next g c)

pub returns-in-Ended-clause-told : goal.returns-in-Ended-clause-told
returns-in-Ended-clause-told g c = outcome_told _ _ _ (returns-in-Ended-clause-next g c)

pub returns-in-TooLong-clause-told : goal.returns-in-TooLong-clause-told
returns-in-TooLong-clause-told g c = outcome_told _ _ _ (returns-in-TooLong-clause-next g c)

pub returns-in_err-fill-clause-ok_unchanged : goal.returns-in_err-fill-clause-ok_unchanged
returns-in_err-fill-clause-ok_unchanged g c = rw ((err_from_is_err_and c.from_residual.result c.from_residual.ensures.1).1) tt

pub returns-in_err-fill-clause-failed_rose : goal.returns-in_err-fill-clause-failed_rose
returns-in_err-fill-clause-failed_rose g c =
    let failure = err_from_is_err_and c.from_residual.result c.from_residual.ensures.1 in
    rw failure.1 (rw c.reads.invariant.unchanged at c.in_err-fill.ensures.failed_rose)

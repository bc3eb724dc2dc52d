use Rattle.lens_sheet.specs.Ways.{IsWay}
use Rattle.schedule_tables.specs.Entries.{source_of}
use Rattle.std.proofs.{Common.{◌∷◌, [], arith, subst, sym}, lemmas.Int.ints}
use Rattle.lens_sheet.proofs.ways.rows_to.Goals as goal

pub rows-init : goal.rows-init
rows-init c =
    let offset = c.requires.row_range.row.offset in
    record {
      row = c.requires.row;
      range = c.requires.row_range;
      way = λ before way. (before, way, omega arith);
      bound = omega (arith, ints, offset.least, offset.most);
    }

pub rows-preserved : goal.rows-preserved
rows-preserved c =
    let n = c.args.network.now in
    let so_far = c.rows.invariant in
    let before = c.in-Some.before in
    let is = c.in-Some.ensures.before in
    let earlier = is.earlier in
    let bound = so_far.bound in
    record {
      row = is.row;
      range = c.in-Some.ensures.range;
      way = λ rest way.
          let own = is.enters.own in
          let more = so_far.way (before ∷ rest)
          (is.row.0, is.row.1, own, is.enters.target, subst (λ v. IsWay n v (source_of before) rest) own way) in
          let count = more.2 in
          (more.0, more.1, omega (arith, count));
      bound = omega (arith, bound, earlier);
    }

pub returns : goal.returns
returns c =
    let so_far = c.rows.invariant in
    let none = c.in_default.ensures.none in
    let whole = so_far.way [] (c.rows.at.vl, so_far.row.1.vl, sym none) in
    let count = whole.2 in
    (whole.0, whole.1, omega (arith, count))

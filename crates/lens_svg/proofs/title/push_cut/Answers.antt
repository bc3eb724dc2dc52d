use Rattle.std.{proofs.{Common.{arith, sym}, lemmas.List.length-take-le}}
use Rattle.lens_svg.proofs.title.push_cut.Goals as goal

pub slice_bounds-push_octets-end : goal.slice_bounds-push_octets-end
slice_bounds-push_octets-end c =
    let longer = c.if-octets-le-MOST_OCTETS.false in
    sym (length-take-le 60 c.args.octets.now (omega (arith, longer)))

pub push_octets-requires-else-octets-le-MOST_OCTETS-clause-few : goal.push_octets-requires-else-octets-le-MOST_OCTETS-clause-few
push_octets-requires-else-octets-le-MOST_OCTETS-clause-few c =
    let longer = c.if-octets-le-MOST_OCTETS.false in
    let shown = length-take-le 60 c.args.octets.now (omega (arith, longer)) in
    omega (arith, shown)

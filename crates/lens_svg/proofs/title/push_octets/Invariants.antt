use Rattle.{lens_svg.specs.Titles.octet_text, std.{proofs.Common.{◌*◌, ◌++◌, ◌+◌, ◌≡◌, ◌≤◌, length, take}, specs.Prelude.flat_map}}
use Rattle.lens_svg.proofs.title.push_octets.Given as goal

abbrev pub invariant-octets : goal.invariant-octets
invariant-octets l = record {
  text : l.text ≡ l.fn.text ++ flat_map octet_text (take l.octet-index l.octets);
  grows : length l.text ≤ length l.fn.text + 5 * l.octet-index;
}

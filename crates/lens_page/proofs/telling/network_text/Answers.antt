use Rattle.lens_page.{proofs.Pushes.joined, specs.Lines.{device_line, link_line, number_line, vl_line}}
use Rattle.std.proofs.Common.{map}
use Rattle.std.specs.Prelude.{codes}
use Rattle.lens_page.proofs.telling.network_text.Goals as goal

pub returns : goal.returns
returns c =
    let n = c.args.network.now in
    joined (number_line (codes "cycle") n.cycle) (number_line (codes "precision") n.precision) (map device_line n.device) (map (link_line n) n.link)
    (map (vl_line n) n.vl) c.new-text.result.items c.push_number.new.text.items c.push_number-2.new.text.items c.push_devices.new.text.items
    c.push_links.new.text.items c.push_vls.new.text.items c.new-text.ensures.items c.in_ok-push_number.ensures c.in_ok-push_number-2.ensures
    c.in_ok-push_devices.ensures c.in_ok-push_links.ensures c.in_ok-push_vls.ensures

use Rattle.switch_ports.{proofs.{Dispatching.parent_same, Words.{◌∙◌, Port, ap}}, specs.Sites.is_below}
use Rattle.switch_ports.proofs.site.Site.is_parent_of.Goals as goal

pub returns : goal.returns
returns c network device site =
    c.is_below.ensures ∙ ap (λ (p : Port). is_below p.peer) c.port.ensures ∙ parent_same network device c.args.link site

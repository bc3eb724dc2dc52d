use Rattle.switch_ports.{proofs.{Dispatching.member_same, Words.{◌∙◌, Port, ap}}, specs.Sites.is_other_member}
use Rattle.switch_ports.proofs.site.Site.is_of_other_member.Goals as goal

pub returns : goal.returns
returns c network device site =
    c.is_other_member.ensures ∙ ap (λ (p : Port). is_other_member p.peer c.args.members) c.port.ensures ∙ member_same
    c.args.link
    c.args.members site

use Rattle.end_system.proofs.{Corrections.not_fallen}
use Rattle.end_system.proofs.Ripe.{does_tell, joined_number, joined_small_by, joined_value, joins, point_high}
use Rattle.end_system.proofs.Ripe.{point_low, wide_range}
use Rattle.end_system.proofs.end_system.EndSystem.join.Goals as goal

pub integrate-joined-requires : goal.integrate-joined-requires
integrate-joined-requires c =
    let node = c.requires.2 in
    let stands = c.requires.3 in
    let told = c.requires.4.1 in
    let low = point_low stands.own stands.begun told.call told.ripens in
    let high = point_high told.call told.ripens in
    let wide = wide_range c.args.point.0 low high in
    record { low = wide.0; high = wide.1 }

pub agenda_anew-self-requires : goal.agenda_anew-self-requires
agenda_anew-self-requires c =
    let node = c.requires.2 in
    let stands = c.requires.3 in
    let told = c.requires.4.1 in
    let does = does_tell stands told in
    let value = joined_value c.integrate-joined.new.self c.args.point c.integrate-joined.result
    c.integrate-joined.ensures.joined does c.integrate-joined.ensures.value in
    record {
      range = stands.own.range;
      rows = (c.requires.0, c.requires.1, stands.own.in_range, stands.rows);
      number = joined_number c.integrate-joined.new.self c.args.point value does;
      small =
          joined_small_by c.integrate-joined.new.self stands told value;
      begun = not_fallen node.last.reading.0 c.args.moment.reading.0 stands.begun told.call.later.reading;
      low = told.call.later.low_enough;
    }

pub returns : goal.returns
returns c = λ network device node link stands told.
    let does = does_tell stands told in
    let value = joined_value c.integrate-joined.new.self c.args.point c.integrate-joined.result
    c.integrate-joined.ensures.joined does c.integrate-joined.ensures.value in
    joins c.integrate-joined.new.self c.agenda_anew-self.result stands told value c.clear.ensures.value
    c.clear.ensures.heard c.agenda_anew-self.ensures.slot c.agenda_anew-self.ensures.agenda

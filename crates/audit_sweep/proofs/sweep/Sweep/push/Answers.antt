use Rattle.audit_sweep.proofs.{Lacks.{knows_of_some, named_more, range_of_some, same_end, sound_more}}
use Rattle.audit_sweep.proofs.Words.{◌∙◌, IsDue, founded_of_sound, happening, place_of, refl, scenario_under, subst}
use Rattle.audit_sweep.proofs.Words.{sym}
use Rattle.run_law.specs.records.Order.{AllBefore}
use Rattle.audit_sweep.proofs.sweep.Sweep.push.Goals as goal

pub push-requires : goal.push-requires
push-requires c = record {
  range = range_of_some c.requires.swept;
  known = knows_of_some c.requires.swept;
  judgeable = c.requires.judgeable;
}

pub returns : goal.returns
returns c befallen end hs w at =
    let network = c.args.self.now.network.now in
    let s = scenario_under network befallen in
    let h = happening network hs c.args.note.now in
    let known = c.in_ok-push.ensures.known befallen hs w.known (founded_of_sound place_of (IsDue s) _ hs w.sound) at.sound.behind_all at.sound.due in
    record {
      of_network = refl;
      ends = same_end w.known known ∙ w.ends;
      range = w.range;
      timely = w.timely;
      known = known;
      sound = sound_more (IsDue s) w.sound at.sound;
      places = c.in_ok-push-3.ensures.added hs h w.places (sym at.is) (subst (AllBefore place_of hs) (sym at.is) at.sound.behind_all);
      paid = c.in_ok-push-2.ensures hs h w.paid refl at.sound.due.number;
      devices = named_more network hs h c.requires.judgeable.of_network w.devices;
    }

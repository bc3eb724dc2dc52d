use Rattle.tte_observers.proofs.stamps_lemmas.LineStamps.{devices_fail, one_more_device}
use Rattle.world_drive.proofs.Drives.{puts_cut, puts_more, puts_none, puts_well}
use Rattle.tte_observers.proofs.stamps_lemmas.Words.{◌∙◌, ◌≡◌, PutsLines, PutsLines-none, ap, arith, length, line_at, lines_by_first, refl, shown_as, subst}
use Rattle.tte_observers.proofs.stamps_lemmas.Words.{told_by}
use Rattle.tte_observers.proofs.stamps.stamper.Stamper.put_stamps.Goals as goal

pub devices-init : goal.devices-init
devices-init g c = record {
  stamps = λ before event notes at. PutsLines-none (shown_as (told_by g.K.Sink c.args.out.now));
  puts = puts_none g.K.Sink c.args.out.now;
  granule = refl;
}

pub devices-preserved : goal.devices-preserved
devices-preserved g c = record {
  stamps = λ before event notes at.
      one_more_device g.K.Sink c.args.network.now (line_at c.args.network.now before event notes) c.devices.place c.args.self.now.granule
      c.devices.self.granule c.args.out.now c.devices.out c.put_stamp.new.out c.devices.invariant.granule
      (c.devices.invariant.stamps before event notes at) (c.in-Ok.ensures.stamps before event notes at);
  puts = puts_more (tt {0}) c.devices.invariant.puts c.in-Ok.ensures.further;
  granule = c.put_stamp.ensures.granule ∙ c.devices.invariant.granule;
}

pub returns-in-Err-clause-stamps : goal.returns-in-Err-clause-stamps
returns-in-Err-clause-stamps g c = λ before event notes at.
    let more = c.devices-test.true in
    let len = ap length c.as_slice-place-end.ensures in
    devices_fail g.K.Sink c.args.network.now (line_at c.args.network.now before event notes) c.devices.place (length c.args.network.now.device)
    c.args.self.now.granule c.devices.self.granule c.args.out.now c.devices.out c.put_stamp.new.out c.devices.invariant.granule (omega (arith, more, len))
    (c.devices.invariant.stamps before event notes at) (c.in-Err.ensures.stamps before event notes at)

pub returns-in-Err-clause-further : goal.returns-in-Err-clause-further
returns-in-Err-clause-further g c =
    puts_cut c.in-Err.cut c.devices.invariant.puts c.in-Err.ensures.further

pub returns-clause-stamps : goal.returns-clause-stamps
returns-clause-stamps g c = λ before event notes at.
    let done = c.devices-test.false in
    let upper = c.devices.auto.place-end in
    let len = ap length c.as_slice-place-end.ensures in
    let all : c.devices.place ≡ length c.args.network.now.device = omega (arith, done, upper, len) in
    subst (λ k. PutsLines (lines_by_first c.args.self.now.granule c.args.network.now (line_at c.args.network.now before event notes) k)
    (shown_as (told_by g.K.Sink c.args.out.now)) (shown_as (told_by g.K.Sink c.devices.out))) all
    (c.devices.invariant.stamps before event notes at)

pub returns-clause-further : goal.returns-clause-further
returns-clause-further g c = puts_well (tt {0}) c.devices.invariant.puts

pub returns-clause-granule : goal.returns-clause-granule
returns-clause-granule g c = c.devices.invariant.granule

use Rattle.audit_devices.proofs.clocks.moment.DeviceMoment.of.Goals as goal

pub returns : goal.returns
returns c network befallen remembers has =
    let on = c.reading_law.ensures network befallen c.args.device remembers.range remembers.within remembers.begun in
    record {
      reading = c.readings_at.ensures network befallen remembers has;
      turned_on = c.is_turned_on_at.ensures network befallen remembers has;
      broken = c.is_broken.ensures network befallen remembers has;
      steady = record { begins = on.begins; never_falls = on.never_falls };
    }

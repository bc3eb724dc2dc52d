-- Each run is safe, by what the precision says of blocks.
use Rattle.precision_law.{specs.traffic.Ports.{OwedFramesCome, PortsStayApart, RunsAreSafe}}
use Rattle.precision_law.proofs.{law.Whole.{blocks_known, clocks_agree, ends_come_in}}
use Rattle.precision_law.proofs.faults.{Masters.{good_is_correct, one_channel_is_sound, switches_are_good}}
use Rattle.precision_law.proofs.faults.{Sound.{sound_switches_begin_on, sound_ways_are_whole}}
use Rattle.precision_law.proofs.traffic_lemmas.{Words.{BringsBlocks, BringsChannels}}
use Rattle.precision_law.proofs.traffic_lemmas.{delivery.{Delivering.owed_frames_come, Forwarding.Brings}}
use Rattle.precision_law.proofs.traffic_lemmas.{ports.Gates.{givings_keep_away, ports_stay_apart}}
use Rattle.precision_law.proofs.traffic_lemmas.faults.GoodDevices
use GoodDevices.{senders_are_broken, sound_switches_keep_time, timed_are_not_turned_on}
use Rattle.precision_law.{proofs.traffic_lemmas.delivery.Owing.due_frames_are_owed, specs.traffic.Owing.{DueFramesAreOwed, DueFramesCome}}
use Rattle.precision_law.proofs.traffic_lemmas.delivery.Latency.{deliveries_keep_pace, deliveries_take_their_time}
use Rattle.precision_law.specs.traffic.Latency.{DeliveriesKeepPace, DeliveriesTakeTheirTime}

-- what the fault hypothesis leaves
channels : BringsChannels
channels = record {
  correct = good_is_correct;
  sound = one_channel_is_sound;
  whole = sound_ways_are_whole;
  switches = switches_are_good;
  begin = sound_switches_begin_on;
}

-- what is known of blocks
blocks : BringsBlocks
blocks = record { cover = blocks_known.cover; goes = blocks_known.goes; come = blocks_known.come }

-- all that the traffic stands on
brings : Brings
brings = record {
  blocks = blocks;
  channels = channels;
  senders = senders_are_broken;
  not_on = timed_are_not_turned_on;
  switches = sound_switches_keep_time channels timed_are_not_turned_on;
}

pub ports_are_apart : PortsStayApart
ports_are_apart = ports_stay_apart blocks channels (givings_keep_away blocks timed_are_not_turned_on)

pub frames_are_delivered : OwedFramesCome
frames_are_delivered = owed_frames_come brings

pub due_are_owed : DueFramesAreOwed
due_are_owed = due_frames_are_owed brings ends_come_in

pub due_are_delivered : DueFramesCome
due_are_delivered s mark ns until run vl of_vl cycle device due =
    frames_are_delivered s mark ns until run vl of_vl cycle device (due_are_owed s mark ns until run.up vl of_vl cycle device due)

pub times_are_taken : DeliveriesTakeTheirTime
times_are_taken = deliveries_take_their_time brings

pub paces_are_kept : DeliveriesKeepPace
paces_are_kept = deliveries_keep_pace brings

pub all_are_safe : RunsAreSafe
all_are_safe s mark ns until run = record {
  precision = clocks_agree s mark ns until run.up;
  ports = ports_are_apart s mark ns until run;
  delivery = frames_are_delivered s mark ns until run;
}

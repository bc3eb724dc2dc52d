-- The laws, from what each instant of a block brings.
use Rattle.precision_law.{specs.Mending.{MendedChannelsComeIn, MendedRelaysComeIn}}
use Rattle.precision_law.proofs.progress_lemmas.Arriving.{AreBlocksKnown, end_systems_come_in, end_systems_come_in_soon}
use Rattle.precision_law.proofs.progress_lemmas.Arriving.{mended_channels_come_in, mended_relays_come_in}
use Rattle.precision_law.{specs.WorldTime.ClocksKeepWorldTime}
use Rattle.precision_law.proofs.{block.{Corrections.blocks_go_so, Onward.{points_have_come, stands_on}}}
use Rattle.precision_law.proofs.{emission.SoundMaster.sound_master_sends, hearing.InBlocks.heard_in_their_blocks}
use Rattle.precision_law.proofs.{records.RunViews.points_are_recorded, verdict.CorrectionPoints.firm_devices_correct}
use Rattle.precision_law.proofs.law.{Spreading.{dispatches_halve, dispatches_stay_near}}
use Rattle.precision_law.proofs.law.OnTime.{clocks_keep_the_span, clocks_keep_their_cycles, clocks_keep_world_time}
use Rattle.precision_law.proofs.law.OnTime.{values_are_reached_on_time}
use Rattle.precision_law.proofs.words.{Blocks.{none_turns_on, stands_at_start, three_have_good, time_is_kept}}
use Rattle.precision_law.proofs.words.{Clocks.{hearings_are_of_frames, one_channel_is_sound, switches_are_good}}
use Rattle.precision_law.proofs.words.Blocks.{FramesGoSo, bases_are_in_hulls, bases_are_near_hulls, blocks_cover, clocks_agree_in_blocks, clocks_stay_together}
use Rattle.precision_law.proofs.words.Blocks.{emissions_are_of_dispatches, emissions_are_sharp, heard_frames_are_timely, hulls_are_narrow, joiners_come_in}
use Rattle.precision_law.proofs.words.Laws.{BlocksGoSo, ClocksKeepTheSpan, ClocksKeepTheirCycles, ClocksStayTogether, DispatchesHalve}
use Rattle.precision_law.proofs.words.Laws.{DispatchesStayNear, FirmDevicesCorrect, JoinersComeIn, PointsHaveCome, SoundMasterSends, StandsOn, TimeIsKept, ValuesAreReachedOnTime}
use Rattle.precision_law.specs.Progress.{EndSystemsComeIn, EndSystemsComeInSoon}

-- ---- what is known

-- the frames that are heard are as they should be
pub frames_known : FramesGoSo
frames_known = record {
  hearings = hearings_are_of_frames;
  timely = heard_frames_are_timely emissions_are_sharp;
  three = three_have_good;
  dispatched = emissions_are_of_dispatches;
  bases = bases_are_in_hulls;
  in_blocks = heard_in_their_blocks (heard_frames_are_timely emissions_are_sharp) emissions_are_of_dispatches bases_are_near_hulls;
}

-- so are the instants of a block
pub goes_known : BlocksGoSo
goes_known = blocks_go_so frames_known

-- once the correction points of a block may come, the compression master of the sound channel has sent its frame
sends_known : SoundMasterSends
sends_known = sound_master_sends goes_known

-- and firm devices are corrected
correct_known : FirmDevicesCorrect
correct_known = firm_devices_correct frames_known sends_known goes_known

-- the correction points of a block come
come_known : PointsHaveCome
come_known = points_have_come (points_are_recorded none_turns_on)

-- and the network stands as it should when a block is over
on_known : StandsOn
on_known = stands_on goes_known come_known correct_known switches_are_good

pub blocks_known : AreBlocksKnown
blocks_known = record {
  goes = goes_known;
  come = come_known;
  correct = correct_known;
  cover = blocks_cover stands_at_start on_known;
  sends = sends_known;
  on = on_known;
}

-- ---- the laws

pub clocks_agree : ClocksStayTogether
clocks_agree = clocks_stay_together one_channel_is_sound blocks_known.cover (clocks_agree_in_blocks blocks_known.goes (hulls_are_narrow blocks_known.goes))

pub time_kept : TimeIsKept
time_kept = time_is_kept one_channel_is_sound blocks_known.cover blocks_known.goes blocks_known.correct

pub cycles_kept : ClocksKeepTheirCycles
cycles_kept = clocks_keep_their_cycles one_channel_is_sound blocks_known.cover blocks_known.goes

pub span_kept : ClocksKeepTheSpan
span_kept = clocks_keep_the_span one_channel_is_sound blocks_known.cover blocks_known.goes

pub on_time : ValuesAreReachedOnTime
on_time = values_are_reached_on_time one_channel_is_sound blocks_known.cover blocks_known.goes

pub near : DispatchesStayNear
near = dispatches_stay_near one_channel_is_sound blocks_known.cover blocks_known.goes

pub halve : DispatchesHalve
halve = dispatches_halve one_channel_is_sound blocks_known.cover blocks_known.goes

pub joiners : JoinersComeIn
joiners = joiners_come_in clocks_agree near

pub ends_come_in_soon : EndSystemsComeInSoon
ends_come_in_soon = end_systems_come_in_soon one_channel_is_sound blocks_known

pub ends_come_in : EndSystemsComeIn
ends_come_in = end_systems_come_in ends_come_in_soon

pub world_time_kept : ClocksKeepWorldTime
world_time_kept = clocks_keep_world_time one_channel_is_sound blocks_known.cover blocks_known.goes

pub mended_come_in : MendedChannelsComeIn
mended_come_in = mended_channels_come_in one_channel_is_sound frames_known blocks_known

pub mended_relays : MendedRelaysComeIn
mended_relays = mended_relays_come_in one_channel_is_sound frames_known blocks_known

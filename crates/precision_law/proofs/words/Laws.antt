-- What the proofs name of the words of the laws, passed on from one place. Declares nothing.
pub use Rattle.precision_law.specs.Anchors.{IsAnchored, IsAnchoredIn, high_of, low_of}
pub use Rattle.precision_law.specs.Bases.{AreBad, AreGood, HasGood, IsBadMember, IsBaseIn, IsEmission, IsFromAfar, IsGoodMember, IsHeard, base_of}
pub use Rattle.precision_law.specs.BlockLaws.{AreBeforeCorrections, BlockGoesSo, BlockIsOver, BlocksCover, BlocksGoSo, ClocksAgreeInBlocks, ComesTo, CorrectsSo}
pub use Rattle.precision_law.specs.BlockLaws.{DispatchesSo, FirmDevicesCorrect, HullsAreNarrow, IsPointOf, IsPointRecord, IsSharedCorrection, JoinsSo}
pub use Rattle.precision_law.specs.BlockLaws.{MastersDispatch, NoneTurnsOn, PointsAreRecorded, PointsHaveCome, PointsShare, StandsAtStart, StandsOn}
pub use Rattle.precision_law.specs.Blocks.{AreNarrow, AreShared, HadPoint, HasTimeAt, IsClique, IsInBlock, IsOldAt, IsSetFor, IsSharedBy, NoneLost, Stands}
pub use Rattle.precision_law.specs.Blocks.{adjustment_left, state_left}
pub use Rattle.precision_law.specs.CompressionLaws.{BasesAreInHulls, BasesAreNearHulls, EmissionIsOne, EmissionsAreOfDispatches, EmissionsAreSharp}
pub use Rattle.precision_law.specs.CompressionLaws.{HeardInTheirBlocks, HearingsAreOfFrames, HearsBy, IsNarrowIfThere, IsOfHearer, MembersAreMasters}
pub use Rattle.precision_law.specs.CompressionLaws.{ThreeHaveGood}
pub use Rattle.precision_law.specs.Dispatches.{AreFromTo, DispatchesHalve, DispatchesStayNear, IsDispatchOf, IsDispatchedBy, LieFromTo}
pub use Rattle.precision_law.specs.EpochLaws.{AdjustmentIsLast, ClocksHaveReached, ClocksReachSharply, NextCycleIsOfLast, SettingsStay, TimeStays, next_of}
pub use Rattle.precision_law.specs.{EpochLaws.set_adjustment, Epochs.{cycle_set, epoch_cycle, epoch_time, has_time, is_corrected, is_correction, last_setting}}
pub use Rattle.precision_law.specs.Hulls.{Hull, IsInHull, IsNarrow, IsOverBefore, IsTidyBefore, first_correction, first_dispatch, hull_of, hull_over}
pub use Rattle.precision_law.specs.Hulls.{is_dispatch, last_correction, last_dispatch, start_hull, widened}
pub use Rattle.precision_law.specs.IdealClocks.{ClocksKeepTheSpan, ClocksKeepTheirCycles, IsBehindCorrections, IsBetweenIdeals, KeepsCycle}
pub use Rattle.precision_law.specs.IdealClocks.{ValuesAreReachedOnTime}
pub use Rattle.precision_law.specs.Instants.{CorrectionsComeFirst, CyclesAreFew, DispatchesComeLater, FramesComeFirst, HullsGoOn, InstantsAreInOrder}
pub use Rattle.precision_law.specs.Instants.{IsNotBefore, SetClocksShowCorrection, SetClocksStayAtCorrection}
pub use Rattle.precision_law.specs.Joined.{IsFirstCorrection, IsFixedByPoints, JoinersComeIn}
pub use Rattle.precision_law.specs.Masters.{EnoughMasters, GoodIsCorrect, IsFirstMaster, OneChannelIsSound, OneMasterBreaks, SoundSwitchesBeginOn}
pub use Rattle.precision_law.specs.{Masters.{SoundWaysAreWhole, SwitchesAreGood}, Precision.{ClocksStayTogether, IsRunUpTo, TimeIsKept}}
pub use Rattle.precision_law.specs.Readings.{ClocksAreSteady, IsRipe, IsSteady, PermanenceIsSharp, ReachIsSharp, ReachIsThere, RipeInOrder, ShortByReading}
pub use Rattle.precision_law.specs.{Sizes.{HaveRoom, Sizes, expectation, sizes_of}, SoundEmissions.{SendsOn, SendsSo, SoundMasterSends}}
pub use Rattle.precision_law.specs.Standings.{AnchoredClocksReach, AnchoredClocksShow, AnchorsWiden, AreNear, ClocksOfOneCycle, ClocksOfTwoCycles, Follows}
pub use Rattle.precision_law.specs.Standings.{IsNearHull, IsReachedNear, IsTimely, OneFrameAnchors, OneFrameSets, SetClocksHaveReached, SetClocksReach}
pub use Rattle.precision_law.specs.Standings.{SetClocksShow, SharedClocksHalve, ShowsIn, StartsAreSet, StartsStayTogether, TwoFramesAnchor, TwoFramesSet}
pub use Rattle.precision_law.specs.Standings.{setting}
pub use Rattle.precision_law.specs.Trips.{AreOpenFrom, AreOpenOn, FramesGoDown, FramesGoUp, IsWholeFrom, FramesDownAreOfCms, FramesUpAreOfMasters, HeardFramesAreTimely, IsBrought, IsInTime, IsLeg, IsOfBad}
pub use Rattle.precision_law.specs.Trips.{IsOfCm, IsOfGood, IsOpen, IsPermanentAt, IsTrip, Leg, SoundFramesGoDown, SoundFramesGoUp, TripsDownTakeDmax}
pub use Rattle.precision_law.specs.Trips.{TripsUpTakeDmax, clock_in, links_back, links_of}
pub use Rattle.precision_law.specs.Views.{Covers, IsBad, IsDispatch, IsFirm, IsGood, IsGoodEnd, IsSound, IsSoundSwitch, IsView, View}

-- So each firm device is corrected at its correction point, by a frame that all share.
pub mod CorrectionPoints

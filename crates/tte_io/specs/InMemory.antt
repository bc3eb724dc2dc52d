-- The ends in memory, as callers see them, and what a call changes.
use Rattle.std.specs.Prelude.{◌++◌, ◌+◌, List, [], drop, ℕ}
use Rattle.tte_io.specs.Faults.{next_count}

-- a source in memory
pub record SourceState : Type 0 where
  -- the octets that are left
  pub left : List ℕ
  -- how many octets a read gives at most
  pub piece : ℕ
  -- the numbers of the calls that fail, from 1
  pub failing : List ℕ
  -- the count of the calls, which stands still at 2^64 - 1
  pub calls : ℕ
  -- the count of the calls that failed
  pub faults : ℕ

-- a new source of these octets
abbrev pub fresh_source : List ℕ → ℕ → List ℕ → SourceState
fresh_source octets piece failing = record { left = octets; piece = piece; failing = failing; calls = 0; faults = 0 }

-- the source after a call that gave n octets
abbrev pub after_giving : ℕ → SourceState → SourceState
after_giving n s = record s { left = drop n s.left; calls = next_count s.calls }

-- the source after a call that failed
abbrev pub after_failed_read : SourceState → SourceState
after_failed_read s = record s { calls = next_count s.calls; faults = s.faults + 1 }

-- a sink in memory
pub record SinkState : Type 0 where
  -- the octets that were put
  pub written : List ℕ
  -- those of them that were passed on
  pub passed : List ℕ
  -- how many octets it takes at most
  pub room : ℕ
  -- the numbers of the puts that fail, from 1
  pub failing : List ℕ
  -- the count of the puts, which stands still at 2^64 - 1
  pub calls : ℕ
  -- the numbers of the calls that fail to pass on, from 1
  pub failing_passes : List ℕ
  -- the count of the calls to pass on, which stands still at 2^64 - 1
  pub passes : ℕ
  -- the count of the calls that failed, which stands still at 2^64 - 1
  pub faults : ℕ

-- a new sink with this room, whose calls of these numbers fail
abbrev pub fresh_sink : ℕ → List ℕ → List ℕ → SinkState
fresh_sink room failing failing_passes = record {
  written = [];
  passed = [];
  room = room;
  failing = failing;
  calls = 0;
  failing_passes = failing_passes;
  passes = 0;
  faults = 0;
}

-- the sink after a put of these octets
abbrev pub after_writing : List ℕ → SinkState → SinkState
after_writing octets s = record s { written = s.written ++ octets; calls = next_count s.calls }

-- the sink after a put that failed
abbrev pub after_failed_put : SinkState → SinkState
after_failed_put s = record s { calls = next_count s.calls; faults = next_count s.faults }

-- the sink after all was passed on
abbrev pub after_passing : SinkState → SinkState
after_passing s = record s { passed = s.written; passes = next_count s.passes }

-- the sink after a call that failed to pass on
abbrev pub after_failed_pass : SinkState → SinkState
after_failed_pass s = record s { passes = next_count s.passes; faults = next_count s.faults }

-- The span of a cycle: from behind the last correction of one to the first of the next, clocks show that cycle.
pub mod Spans

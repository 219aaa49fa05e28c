-- What a traced walk comes to. Assumes nothing.
--
--   trace_end s n   how many events of the walk's end s a log of n entries holds, and the value that ended the walk
use Rattle.std.specs.Prelude.{ℕ, min, length}
use Rattle.walk.specs.Walk.{State}
use Rattle.trace.specs.declared.options.TraceEnd.{TraceEnd}
use Rattle.trace.specs.Trace.{Orders, events}

abbrev pub trace_end : State Orders ℕ → ℕ → TraceEnd
trace_end s n = record { events = min n (length (events s.log)); stop = s.stop }

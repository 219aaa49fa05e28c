-- What the recorder's memory means. Assumes nothing.
--
--   orders_of r   the orders that the recorder r follows
--   ordered o     the orders that the options o give
--   written r e   r after it wrote e down, which there is room for
--   passed r      r after an event that there is no room for
--   noted r e     r after it heard e
--   recording     the recorder as a visitor
use Rattle.std.specs.Prelude.{ℕ, ◌+◌, ◌-◌, cond, length, nat_lt, slice_set}
use Rattle.std.specs.Option.{option_map}
use Rattle.walk.specs.declared.event.DfsEvent.{DfsEvent}
use Rattle.walk.specs.Walk.{Visitor}
use Rattle.trace.specs.declared.options.TraceOptions.{TraceOptions}
use Rattle.trace.specs.declared.recorder.Recorder.{Recorder}
use Rattle.trace.specs.Trace.{Orders, reply_to}

abbrev pub orders_of : Recorder → Orders
orders_of r = record { at = r.options.prune_at.now; into = r.options.prune_into.now; break_at = r.options.break_after; until = r.until }

abbrev pub ordered : TraceOptions → Orders
ordered o = record { at = o.prune_at.now; into = o.prune_into.now; break_at = o.break_after; until = o.break_after }

abbrev pub written : Recorder → DfsEvent → Recorder
written r e = record {
  options = r.options;
  until = option_map (λ k. k - 1) r.until;
  log = record { ref_ptr = r.log.ref_ptr; ghost_name = r.log.ghost_name; now = slice_set r.log.now r.used e };
  used = r.used + 1;
}

abbrev pub passed : Recorder → Recorder
passed r = record { options = r.options; until = option_map (λ k. k - 1) r.until; log = r.log; used = r.used }

abbrev pub noted : Recorder → DfsEvent → Recorder
noted r e = cond (nat_lt r.used (length r.log.now)) (written r e) (passed r)

abbrev pub recording : Visitor Recorder ℕ
recording = record { reply = λ r e. reply_to (orders_of r) e; next = noted }

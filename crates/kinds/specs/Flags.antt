-- The flags of contexts. Assumes nothing.
--
--   no_flags   the flags of which none is set
use Rattle.std.specs.Prelude.{false}
use Rattle.kinds.specs.declared.context.CtxFlags.{CtxFlags}

abbrev pub no_flags : CtxFlags
no_flags = record { function = false; breaks = false; continues = false }

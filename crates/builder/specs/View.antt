-- What a builder stands for. Assumes nothing.
--
--   book_of b   its book: the text, the blocks, the open contexts and the counts
use Rattle.block_builder.specs.View.{state_of}
use Rattle.book.specs.Book.{Book}
use Rattle.builder.specs.declared.builder.ControlFlowGraphBuilder.{ControlFlowGraphBuilder}
use Rattle.contexts.specs.View.{contexts_of}

abbrev pub book_of : ControlFlowGraphBuilder → Book
book_of b = record {
  text = b.contexts.text.now;
  blocks = state_of b.blocks;
  contexts = contexts_of b.contexts;
  given = b.given;
  unfiled = b.unfiled;
  drawn = b.drawn;
  untargeted = b.untargeted;
}

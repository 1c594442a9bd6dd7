-- `span::root::stored_root` meets its contract: 0 stands for no root.
use Rattle.span.proofs.BlockLaws.{no_root}
use Rattle.span.proofs.root.stored_root.Goals as goal

pub returns-in-None : goal.returns-in-None
returns-in-None c = no_root _

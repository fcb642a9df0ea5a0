-- Blocks that a text is put into.
use Rattle.std.specs.Prelude.{◌≡◌, ◌≤◌, [], length}
use Rattle.wac_lexer.specs.Blocks.{Holding}

-- They hold nothing yet.
abbrev pub Fresh : Holding → Type 0
Fresh b = (b.held ≡ []) × (b.before ≡ length b.sunk)

-- The sink below has no fewer bytes than before.
abbrev pub Grown : Holding → Type 0
Grown b = b.before ≤ length b.sunk

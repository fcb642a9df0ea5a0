-- The trees of productions with a part that may be left out.
use Rattle.std.proofs.Common.{◌≡◌, refl, inl, inr, ◌⊎◌}
use Rattle.wac_lexer.specs.Item.{Item}
use Rattle.wac_ast_grammar.specs.Grammar.{TreeOf, build, directive, package_name, package_path}
use Rattle.wac_ast_base.specs.Pieces.{after_word}

pub directive_built : (word : Item) (name : TreeOf package_name) (p : (Item × TreeOf package_path) ⊎ Unit {0}) (close : Item) → build directive (word, (name, (p, close))) ≡ record { package_name = name; targets = after_word p }
directive_built word name (inl p) close = refl
directive_built word name (inr u) close = refl

-- Whether a document mentions foreign packages.
use Rattle.std.specs.Prelude.{Bool, true, false, List, [], ◌∷◌}
use Rattle.wac_ast_grammar.specs.Tree.{Document}
use Rattle.wac_resolution_rules.specs.Mentions.{Mention, mentions}

-- whether there is a mention among these
abbrev pub is_any : List Mention → Bool
is_any [] = false
is_any (m ∷ ms) = true

abbrev pub mentions_foreign : Document → Bool
mentions_foreign document = is_any (mentions document)

-- The first mentions of packages.
use Rattle.std.specs.Prelude.{◌≡◌, List, [], ◌∷◌, Some, None, codes, filter, not, refl}
use Rattle.wac_lexer.specs.Span.{span}
use Rattle.wac_graph.specs.Package.{Key, same_key}
use Rattle.wac_resolution_rules.specs.Mentions.{Mention}

-- of each key its first mention, in order: the first of all, and after it the first ones of the other keys
abbrev pub first_mentions : List Mention → List Mention
first_mentions [] = []
first_mentions (m ∷ ms) = m ∷ filter (λ (n : Mention). not (same_key m.0 n.0)) (first_mentions ms)

-- ---- a row

abbrev plain_key : Key
plain_key = (codes "c:d", None)

abbrev versioned_key : Key
versioned_key = (codes "c:d", Some (codes "1.0.0"))

each_key_once : first_mentions
    ((plain_key, span 1 3) ∷ (versioned_key, span 5 9) ∷ (plain_key, span 20 3) ∷ []) ≡ (plain_key, span 1 3)
    ∷ (versioned_key, span 5 9) ∷ []
each_key_once = refl

-- Keys of packages as texts.
use Rattle.std.specs.Prelude.{◌≡◌, ℕ, List, ◌++◌, Option, Some, None, codes, refl}
use Rattle.wac_graph.specs.Package.{Key}
use Rattle.wac_ast_grammar.specs.Version.{unversioned, version_text}

-- NAME or NAME@VERSION
abbrev pub key_text : Key → List ℕ
key_text (name, None) = name
key_text (name, Some version) = name ++ (codes "@" ++ version)

-- the key that a text names
abbrev pub named_key : List ℕ → Key
named_key text = (unversioned text, version_text text)

a_version_is_written : key_text (codes "c:d", Some (codes "1.0.0")) ≡ codes "c:d@1.0.0"
a_version_is_written = refl

a_version_is_read : named_key (codes "c:d@1.0.0") ≡ (codes "c:d", Some (codes "1.0.0"))
a_version_is_read = refl

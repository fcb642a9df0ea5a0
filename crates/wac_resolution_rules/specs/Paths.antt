-- What paths and identifiers name.
use Rattle.std.specs.Prelude.{◌≡◌, ℕ, List, [], ◌∷◌, Option, Some, option_map, Bool, true, false}
use Rattle.std.specs.List.{slice_split}
use Rattle.std.specs.Str.{bytes_eq}
use Rattle.wac_graph_types.specs.Meaning.{Meaning}
use Rattle.wac_graph_types.specs.Scope.{Scope, StandsFor}
use Rattle.wac_graph_types.specs.Steps.{Steps}
use Rattle.wac_graph_types.specs.Shape.{export_of}
use Rattle.wac_graph.specs.Package.{Key}
use Rattle.wac_graph.specs.Origin.{Numbering}
use Rattle.wac_graph.specs.Packages.{Packages, Contents, package_of}
use Rattle.wac_ast_grammar.specs.Tree.{PackagePath, UsePath, WorldRef}
use Rattle.wac_ast_grammar.specs.Version.{is_slash, version_text}

-- what a document is resolved in: numbers for origins, the document's own package, and the given packages
pub record Context : Type 0 where
  pub numbering : Numbering
  pub own : List ℕ
  pub version : Option (List ℕ)
  pub packages : Packages

-- the segments of a path
abbrev pub segments_of : PackagePath → List (List ℕ)
segments_of p = slice_split is_slash p.segments

-- the key of the package that a path names
abbrev pub key_of_path : PackagePath → Key
key_of_path p = (p.name, version_text p.string)

abbrev pub beginning_of : Bool → Scope → Packages → Key → Option Scope
beginning_of true root packages key = Some root
beginning_of false root packages key = option_map (λ (c : Contents). c.definitions) (package_of key packages)

abbrev pub is_own : Context → PackagePath → Bool
is_own context p = bytes_eq p.name context.own

-- where the first segment is looked up: a path of the document's own package begins in its root scope, whatever the
-- version; another among what that package defines, if it is given
abbrev pub beginning : Context → Scope → PackagePath → Option Scope
beginning context root p = beginning_of (is_own context p) root context.packages (key_of_path p)

-- a later segment is an export of what the one before it denotes
abbrev pub IsMember : Meaning → List ℕ → Meaning → Type 0
IsMember k segment m = export_of k segment ≡ Some m

-- in a scope, segments resolve to a kind
abbrev pub LeadsFrom : Scope → List (List ℕ) → Meaning → Type 0
LeadsFrom scope [] m = ⊥
LeadsFrom scope (first ∷ rest) m = (k : Meaning) × StandsFor scope first k × Steps IsMember k rest m

-- a path resolves to a kind
abbrev pub LeadsTo : Context → Scope → PackagePath → Meaning → Type 0
LeadsTo context root p m = (from : Scope) × (beginning context root p ≡ Some from) × LeadsFrom from (segments_of p) m

-- what an identifier or path names: an identifier is looked up at root
abbrev pub UseNames : Context → Scope → UsePath → Meaning → Type 0
UseNames context root (UsePath.path p) m = LeadsTo context root p m
UseNames context root (UsePath.ident x) m = StandsFor root x.string m

abbrev pub WorldNames : Context → Scope → WorldRef → Meaning → Type 0
WorldNames context root (WorldRef.path p) m = LeadsTo context root p m
WorldNames context root (WorldRef.ident x) m = StandsFor root x.string m

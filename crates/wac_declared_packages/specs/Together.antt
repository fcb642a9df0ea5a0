-- The packages that many documents declare, resolved after one another.
use Rattle.std.specs.Prelude.{◌≡◌, ℕ, List, Option, Some, length, map, option_map, string_bytes, slice_get, String, cond, is_some, true}
use Rattle.std.specs.Map.{lookup}
use Rattle.std.specs.declared.alloc.Global.{Global}
use denote.Bor.{Bor}
use Rattle.wac_ast_grammar.specs.TextTree.{IsTreeOf}
use Rattle.wac_ast_grammar.specs.Tree.{Document}
use Rattle.wac_graph_types.specs.Package.{PackageParts}
use Rattle.wac_graph.specs.declared.package_key.PackageKey.{PackageKey}
use Rattle.wac_graph.specs.Package.{Key, key_of, same_key}
use Rattle.wac_declared_packages.specs.Packages.{IsCopy}
use Rattle.wac_resolution_rules.specs.Given.{key_named}
use Rattle.wac_declared_packages.specs.Declaring.{IsDeclaredBy}
use Rattle.wac_declared_packages.specs.Refusing.{IsDeclaration}
use Rattle.wac_declared_packages.specs.declared.sources.Sources.{Sources}

-- the texts that a slice of references has
abbrev pub now_of : List (Bor (List ℕ)) → List (List ℕ)
now_of texts = map (λ t. t.now) texts

abbrev pub IsOneOf : List (List ℕ) → List ℕ → Type 0
IsOneOf texts text = (i : ℕ) × (slice_get texts i ≡ Some text)

-- what a map has under a key
abbrev pub under : {X : Type 0} → Key → List (PackageKey × X) → Option X
under key es = lookup (λ k. same_key key k) (map (λ e. (key_of e.0, e.1)) es)

abbrev pub found : {X : Type 0} → PackageKey → List (PackageKey × X) → Option X
found key es = under (key_of key) es

-- the world that is chosen for a package
abbrev pub world_chosen : Key → List (PackageKey × String Global) → Option (List ℕ)
world_chosen key worlds = option_map string_bytes (under key worlds)

-- the key that a document declares
abbrev pub declared_key : Document → Key
declared_key d = key_named d.directive.package_name

-- what the texts declare: the package of the document of one of them, which is resolved with what the texts declare,
-- and copies of it
pub data IsDeclared (texts : List (List ℕ)) (worlds : List (PackageKey × String Global)) : Key → PackageParts
    → Type 0 where
  by_text : (text : List ℕ) (document : Document) (supplied : List (PackageKey × PackageParts)) (parts : PackageParts)
      → IsOneOf texts text → IsTreeOf text document → IsDeclaration document
      → ((key : PackageKey) (other : PackageParts) → found key supplied ≡ Some other
      → IsDeclared texts worlds (key_of key) other)
      → IsDeclaredBy supplied document (world_chosen (declared_key document) worlds) parts
      → IsDeclared texts worlds (declared_key document) parts
  by_copy : (key : Key) (parts copy : PackageParts) → IsDeclared texts worlds key parts → IsCopy parts copy
      → IsDeclared texts worlds key copy

-- each of these packages is what the texts declare under its key
abbrev pub AreDeclared : List (List ℕ) → List (PackageKey × String Global) → List (PackageKey × PackageParts) → Type 0
AreDeclared texts worlds packages = (key : PackageKey) (parts : PackageParts) → found key packages ≡ Some parts
    → IsDeclared texts worlds (key_of key) parts

abbrev pub IsFrom : Sources → Key → PackageParts → Type 0
IsFrom s key parts = IsDeclared (now_of s.texts.now) s.worlds.now.entries key parts

abbrev pub AreFrom : Sources → List (PackageKey × PackageParts) → Type 0
AreFrom s packages = AreDeclared (now_of s.texts.now) s.worlds.now.entries packages

-- ---- copies

-- the new map has the package under the key, and under the other keys what the old one has
abbrev pub Puts : Key → PackageParts → List (PackageKey × PackageParts) → List (PackageKey × PackageParts) → Type 0
Puts key parts old new = (q : PackageKey) → found q new ≡ cond (same_key key (key_of q)) (Some parts) (found q old)

-- each of the second packages is a copy of the first one under its key
abbrev pub AreCopiesOf : List (PackageKey × PackageParts) → List (PackageKey × PackageParts) → Type 0
AreCopiesOf packages copies = (key : PackageKey) (copy : PackageParts) → found key copies ≡ Some copy
    → (parts : PackageParts) × (found key packages ≡ Some parts) × IsCopy parts copy

-- there is one under the key
abbrev pub IsThere : {X : Type 0} → PackageKey → List (PackageKey × X) → Type 0
IsThere key es = is_some (found key es) ≡ true

-- the new copies have what the old ones have, and the package of the key, if there is one
abbrev pub Supplies : PackageKey → List (PackageKey × PackageParts) → List (PackageKey × PackageParts)
    → List (PackageKey × PackageParts) → Type 0
Supplies key packages old new = (q : PackageKey)
    → (IsThere q old → IsThere q new) × (key_of key ≡ key_of q → IsThere q packages → IsThere q new)

-- each package that is mentioned and there has a copy
abbrev pub HasMentioned : {X : Type 0} → List (PackageKey × X) → List (PackageKey × PackageParts)
    → List (PackageKey × PackageParts) → Type 0
HasMentioned mentioned packages copies = (key : PackageKey) → IsThere key mentioned → IsThere key packages
    → IsThere key copies

-- ---- texts, one by one

-- the package that the text declares is there
abbrev pub HasPackage : List (PackageKey × PackageParts) → List ℕ → Type 0
HasPackage packages text = (document : Document) × IsTreeOf text document
    × (is_some (under (declared_key document) packages) ≡ true)

abbrev pub EachHasPackage : List (List ℕ) → List (PackageKey × PackageParts) → Type 0
EachHasPackage texts packages = (text : List ℕ) → IsOneOf texts text → HasPackage packages text

-- there is a package for each text, and no other
pub record IsWhole (texts : List (List ℕ)) (packages : List (PackageKey × PackageParts)) : Type 0 where
  pub each : EachHasPackage texts packages
  pub count : length packages ≡ length texts

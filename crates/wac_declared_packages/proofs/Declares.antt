-- What texts declare, as their packages are made one after another.
use Rattle.wac_declared_packages.proofs.Common.{◌≡◌, ◌∙◌, ℕ, zero, suc, List, [], ◌∷◌, Option, Some, None, Bool, true, false, cond, refl, sym, ap, subst, Result, Ok, Err, IfOk, OnOk, String, slice_get, option_map, IsTreeOf, PackageParts, Key, key_of, same_key, PackageKey, keys_same}
use Rattle.std.specs.declared.alloc.Global.{Global}
use denote.Bor.{Bor}
use Rattle.wac_ast_grammar.specs.Tree.{Document}
use Rattle.wac_graph.specs.Graph.{Parts}
use Rattle.wac_declared_packages.specs.Definitions.{AreExported, HasWorld}
use Rattle.wac_graph_types.specs.Growth.{KeepsMeanings}
use Rattle.wac_declared_packages.specs.Declaring.{IsDeclaredBy, IsGraphOf}
use Rattle.wac_declared_packages.specs.Refusing.{IsDeclaration}
use Rattle.wac_declared_packages.specs.Together.{AreCopiesOf, AreDeclared, IsDeclared, IsOneOf, Puts, by_copy, by_text, declared_key, found, now_of, world_chosen}

text_at : (texts : List (Bor (List ℕ))) (i : ℕ) → slice_get (now_of texts) i ≡ option_map (λ t. t.now) (slice_get texts i)
text_at [] i = refl
text_at (t ∷ texts) zero = refl
text_at (t ∷ texts) (suc i) = text_at texts i

-- a text by its number
pub text_found : (texts : List (Bor (List ℕ))) (i : ℕ) (text : Bor (List ℕ)) → Some text ≡ slice_get texts i → Some text.now ≡ slice_get (now_of texts) i
text_found texts i text at = ap (option_map (λ t. t.now)) at ∙ sym (text_at texts i)

pub text_missing : (texts : List (Bor (List ℕ))) (i : ℕ) → None ≡ slice_get texts i → None ≡ slice_get (now_of texts) i
text_missing texts i at = ap (option_map (λ t. t.now)) at ∙ sym (text_at texts i)

-- it is one of the texts
pub one_at : (texts : List (List ℕ)) (i : ℕ) (text : List ℕ) → Some text ≡ slice_get texts i → IsOneOf texts text
one_at texts i text at = (i, sym at)

-- what a document of one of them declares
pub declared_here : {E : Type 0} (texts : List (List ℕ)) (worlds : List (PackageKey × String Global)) (text : List ℕ) (document : Document) (supplied : List (PackageKey × PackageParts))
    (key : Key) (world : Option (List ℕ)) (r : Result (PackageKey × PackageParts) E) → IsOneOf texts text → IsTreeOf text document → AreDeclared texts worlds supplied
    → key ≡ declared_key document → world ≡ world_chosen key worlds
    → IfOk r (λ p. key_of p.0 ≡ declared_key document) → IfOk r (λ p. IsDeclaredBy supplied document world p.1) → IfOk r (λ _. IsDeclaration document)
    → IfOk r (λ p. IsDeclared texts worlds (key_of p.0) p.1)
declared_here texts worlds text document supplied key world (Ok p) one tree all names chosen keyed is fits =
    let here : world ≡ world_chosen (declared_key document) worlds = chosen ∙ ap (λ (k : Key). world_chosen k worlds) names in
    subst (λ (k : Key). IsDeclared texts worlds k p.1) (sym keyed)
    (by_text text document supplied p.1 one tree fits all (subst (λ (w : Option (List ℕ)). IsDeclaredBy supplied document w p.1) here is))
declared_here texts worlds text document supplied key world (Err e) one tree all names chosen keyed is fits = tt

-- it is declared by its parts
pub declared_with : {E : Type 0} (packages : List (PackageKey × PackageParts)) (document : Document) (world : Option (List ℕ)) (graph : Parts) (r : Result (PackageKey × PackageParts) E)
    → IsGraphOf packages document graph → IfOk r (λ p. AreExported graph p.1.definitions) → IfOk r (λ p. KeepsMeanings graph.types p.1.types) → IfOk r (λ p. HasWorld world p.1)
    → IfOk r (λ p. IsDeclaredBy packages document world p.1)
declared_with packages document world graph (Ok p) of_document definitions means has_world =
    record { graph = graph; of_document = of_document; definitions = definitions; means = means; has_world = has_world }
declared_with packages document world graph (Err e) of_document definitions means has_world = tt

-- the key is that of another name
pub keyed_as : {E : Type 0} (r : Result (PackageKey × PackageParts) E) (key other : Key) → IfOk r (λ p. key_of p.0 ≡ key) → key ≡ other → IfOk r (λ p. key_of p.0 ≡ other)
keyed_as (Ok p) key other keyed same = keyed ∙ same
keyed_as (Err e) key other keyed same = tt

-- what holds anyway holds of the outcome
pub holds_anyway : {X E : Type 0} (r : Result X E) (P : Type 0) → P → IfOk r (λ _. P)
holds_anyway (Ok x) P holds = holds
holds_anyway (Err e) P holds = tt

-- copies of what is declared are declared
pub copies_declared : (texts : List (List ℕ)) (worlds : List (PackageKey × String Global)) (packages copies : List (PackageKey × PackageParts))
    → AreDeclared texts worlds packages → AreCopiesOf packages copies → AreDeclared texts worlds copies
copies_declared texts worlds packages copies all copied = λ key copy there.
    let from = copied key copy there in
    by_copy (key_of key) from.0 copy (all key from.0 from.1) from.2

pub none_declared : (texts : List (List ℕ)) (worlds : List (PackageKey × String Global)) (packages : List (PackageKey × PackageParts)) → packages ≡ [] → AreDeclared texts worlds packages
none_declared texts worlds packages is = subst (AreDeclared texts worlds) (sym is) (λ key parts there. absurd (cc))

declared_at : (texts : List (List ℕ)) (worlds : List (PackageKey × String Global)) (old : List (PackageKey × PackageParts)) (key : Key) (parts : PackageParts) (q : PackageKey) (other : PackageParts)
    (b : Bool) → same_key key (key_of q) ≡ b → AreDeclared texts worlds old → IsDeclared texts worlds key parts → cond b (Some parts) (found q old) ≡ Some other
    → IsDeclared texts worlds (key_of q) other
declared_at texts worlds old key parts q other true same all one is =
    let names : key ≡ key_of q = keys_same key (key_of q) same in
    let these : parts ≡ other = cc in
    subst (λ (p : PackageParts). IsDeclared texts worlds (key_of q) p) these (subst (λ (k : Key). IsDeclared texts worlds k parts) names one)
declared_at texts worlds old key parts q other false same all one is = all q other is

-- one package more
pub put_declared : {X E : Type 0} (texts : List (List ℕ)) (worlds : List (PackageKey × String Global)) (old new : List (PackageKey × PackageParts)) (key : Key) (parts : PackageParts) (r : Result X E)
    → AreDeclared texts worlds old → IsDeclared texts worlds key parts → OnOk r (Puts key parts old new) → OnOk r (AreDeclared texts worlds new)
put_declared texts worlds old new key parts (Ok x) all one puts = λ q other is. declared_at texts worlds old key parts q other (same_key key (key_of q)) refl all one (sym (puts q) ∙ is)
put_declared texts worlds old new key parts (Err e) all one puts = tt

-- what is declared stays so, whatever the outcome
pub unchanged : {X E : Type 0} (texts : List (List ℕ)) (worlds : List (PackageKey × String Global)) (packages : List (PackageKey × PackageParts)) (r : Result X E) → AreDeclared texts worlds packages
    → OnOk r (AreDeclared texts worlds packages)
unchanged texts worlds packages (Ok x) all = all
unchanged texts worlds packages (Err e) all = tt

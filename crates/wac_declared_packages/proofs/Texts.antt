-- Texts, one by one: whether the package of each is there.
use Rattle.wac_declared_packages.proofs.Common.{◌≡◌, ◌∙◌, ◌<◌, ◌≤◌, ◌+◌, ℕ, zero, suc, List, [], ◌∷◌, Option, Some, None, Bool, true, false, is_some, length, ltb, refl, sym, ap, subst, arith, Result, Ok, Err, IfOk, slice_get, IsTreeOf, PackageParts, Key, PackageKey}
use Rattle.std.proofs.lemmas.Bool.{ltb-false, ltb-true}
use denote.Bor.{Bor}
use Rattle.wac_ast_grammar.specs.Tree.{Document}
use Rattle.wac_declared_packages.specs.Together.{EachHasPackage, HasPackage, IsWhole, declared_key, now_of, under}

-- what is found under a key that the document declares
pub there_is : (d : Document) (key : Key) (packages : List (PackageKey × PackageParts)) (there : Bool) → key ≡ declared_key d → there ≡ is_some (under key packages)
    → there ≡ is_some (under (declared_key d) packages)
there_is d key packages there names is = is ∙ ap (λ (k : Key). is_some (under k packages)) names

-- the package of a text's document is there
pub package_there : {E : Type 0} (text : List ℕ) (d : Document) (packages : List (PackageKey × PackageParts)) (r : Result Bool E) → IsTreeOf text d
    → IfOk r (λ there. there ≡ is_some (under (declared_key d) packages)) → IfOk r (λ made. made ≡ true → HasPackage packages text)
package_there text d packages (Ok there) tree is = λ is_there. (d, tree, sym is ∙ is_there)
package_there text d packages (Err e) tree is = tt

-- the packages of the texts before a place are there
abbrev pub ThereBefore : ℕ → List (List ℕ) → List (PackageKey × PackageParts) → Type 0
ThereBefore n texts packages = (i : ℕ) (text : List ℕ) → i < n → slice_get texts i ≡ Some text → HasPackage packages text

pub there_first : (texts : List (List ℕ)) (packages : List (PackageKey × PackageParts)) → ThereBefore 0 texts packages
there_first texts packages = λ i text below at. absurd (omega (arith, below))

next_at : (n : ℕ) (texts : List (List ℕ)) (packages : List (PackageKey × PackageParts)) (text : List ℕ) → Some text ≡ slice_get texts n → HasPackage packages text
    → (i : ℕ) (other : List ℕ) → i ≡ n → slice_get texts i ≡ Some other → HasPackage packages other
next_at n texts packages text at there i other here other_at =
    let same : Some text ≡ Some other = at ∙ ap (slice_get texts) (sym here) ∙ other_at in
    let texts_same : text ≡ other = cc in
    subst (HasPackage packages) texts_same there

-- one text more
pub there_next : (n : ℕ) (texts : List (List ℕ)) (packages : List (PackageKey × PackageParts)) (text : List ℕ) → Some text ≡ slice_get texts n → HasPackage packages text
    → ThereBefore n texts packages → ThereBefore (n + 1) texts packages
there_next n texts packages text at there before = λ i other below other_at. go i other below other_at (ltb i n) refl
  where
    go : (i : ℕ) (other : List ℕ) → i < n + 1 → slice_get texts i ≡ Some other → (b : Bool) → ltb i n ≡ b → HasPackage packages other
    go i other below other_at true less = before i other (ltb-true i n less) other_at
    go i other below other_at false not_less = (let here : i ≡ n = omega (arith, below, ltb-false i n not_less) in next_at n texts packages text at there i other here other_at)

below_length : (texts : List (List ℕ)) (i : ℕ) (text : List ℕ) → slice_get texts i ≡ Some text → i < length texts
below_length [] i text at = absurd (cc)
below_length (t ∷ texts) zero text at = omega arith
below_length (t ∷ texts) (suc i) text at = (let rest = below_length texts i text at in omega (arith, rest))

now_length : (texts : List (Bor (List ℕ))) → length (now_of texts) ≡ length texts
now_length [] = refl
now_length (t ∷ texts) = ap suc (now_length texts)

-- all of them are there
pub there_all : (n : ℕ) (texts : List (Bor (List ℕ))) (packages : List (PackageKey × PackageParts)) → length texts ≤ n → ThereBefore n (now_of texts) packages
    → EachHasPackage (now_of texts) packages
there_all n texts packages len before = λ text one.
    let within : one.0 < length (now_of texts) = below_length (now_of texts) one.0 text one.1 in
    let below : one.0 < n = omega (arith, within, now_length texts, len) in
    before one.0 text below one.1

pub whole : (texts : List (Bor (List ℕ))) (packages : List (PackageKey × PackageParts)) → EachHasPackage (now_of texts) packages → length packages ≡ length texts → IsWhole (now_of texts) packages
whole texts packages each count = record { each = each; count = count ∙ sym (now_length texts) }

-- so are they where none was found unmade
pub whole_where : {E : Type 0} (texts : List (Bor (List ℕ))) (packages : List (PackageKey × PackageParts)) (r : Result (Option ℕ) E) → IfOk r (λ unmade. unmade ≡ None → EachHasPackage (now_of texts) packages)
    → length packages ≡ length texts → IfOk r (λ lacking. lacking ≡ None → IsWhole (now_of texts) packages)
whole_where texts packages (Ok unmade) each count = λ none. whole texts packages (each none) count
whole_where texts packages (Err e) each count = tt

-- Packages that are found by key.
use Rattle.wac_graph.proofs.Common.{◌≡◌, ◌∙◌, ℕ, suc, ◌+◌, List, [], ◌∷◌, ◌++◌, length, Option, Some, None, Bool, true, false, cond, ◌&&◌, refl, ap, slice_get, string_bytes, String, option_map, nat_lt, not, position, position_or_len, bytes_eq}
use Rattle.std.specs.declared.alloc.Global.{Global}
use Rattle.std.specs.Map.{keys_of}
use Rattle.std.specs.Option.{option_eq}
use Rattle.std.specs.String.{string_eq}
use Rattle.indexmap.specs.IndexMap.{insert_entry}
use Rattle.wac_graph.specs.Package.{HeldPackage, key_of, same_key, same_version, package_keyed}
use Rattle.wac_graph.specs.PackageCopies.{held_under, held_in}
use Rattle.wac_graph.specs.declared.package_key.PackageKey.{PackageKey}
use Rattle.wac_graph.specs.declared.packages.PackageCopy.{PackageCopy}
use Rattle.wac_graph.specs.contracts.package_key.PackageKeyPartialEq.TheImpl as keys
use Rattle.wac_graph.proofs.Lists.{none_at}

-- ---- `==` of keys

versions_eq : (v w : Option (String Global)) → option_eq string_eq v w ≡ same_version (option_map string_bytes v) (option_map string_bytes w)
versions_eq None None = refl
versions_eq None (Some w) = refl
versions_eq (Some v) None = refl
versions_eq (Some v) (Some w) = refl

key_eq : (a b : PackageKey) → (keys.eq-value).it a b ≡ same_key (key_of a) (key_of b)
key_eq a b = ap (λ (x : Bool). bytes_eq (string_bytes a.name) (string_bytes b.name) && x) (versions_eq a.version b.version)

-- ---- a map of packages

held_length : (es : List (PackageKey × PackageCopy)) → length (keys_of es) ≡ length (held_in es)
held_length [] = refl
held_length (e ∷ es) = ap suc (held_length es)

place_or_end : (key : PackageKey) (es : List (PackageKey × PackageCopy)) → position_or_len ((keys.eq-value).it key) (keys_of es) ≡ position_or_len (λ (p : HeldPackage). same_key (key_of key) p.key) (held_in es)
place_or_end key [] = refl
place_or_end key (e ∷ es) = (λ i. cond (not (key_eq key e.0 i)) (1 + place_or_end key es i) 0)

-- the place of a key among the keys is that of its package
pub keyed_place : (key : PackageKey) (es : List (PackageKey × PackageCopy)) → position ((keys.eq-value).it key) (keys_of es) ≡ package_keyed (key_of key) (held_in es)
keyed_place key es = (λ i. cond (nat_lt (place_or_end key es i) (held_length es i)) (Some (place_or_end key es i)) None)

-- a package of a new key goes last
pub keyed_last : (key : PackageKey) (copy : PackageCopy) (es : List (PackageKey × PackageCopy)) → package_keyed (key_of key) (held_in es) ≡ None
    → held_in (insert_entry (keys.eq-value).it es key copy) ≡ held_in es ++ held_under (key_of key) copy ∷ []
keyed_last key copy es none = after es (λ i p at. none_at (λ (q : HeldPackage). same_key (key_of key) q.key) (held_in es) i p none at)
  where
    after : (xs : List (PackageKey × PackageCopy)) → ((i : ℕ) (p : HeldPackage) → slice_get (held_in xs) i ≡ Some p → same_key (key_of key) p.key ≡ false)
        → held_in (insert_entry (keys.eq-value).it xs key copy) ≡ held_in xs ++ held_under (key_of key) copy ∷ []
    after [] other = refl
    after (x ∷ xs) other = go ((keys.eq-value).it key x.0) (key_eq key x.0 ∙ other 0 (held_under (key_of x.0) x.1) refl) (after xs (λ i p at. other (suc i) p at))
      where
        go : (b : Bool) → b ≡ false → held_in (insert_entry (keys.eq-value).it xs key copy) ≡ held_in xs ++ held_under (key_of key) copy ∷ []
            → held_in (cond b ((x.0, copy) ∷ xs) (x ∷ insert_entry (keys.eq-value).it xs key copy)) ≡ held_in (x ∷ xs) ++ held_under (key_of key) copy ∷ []
        go true not_here later = absurd (cc)
        go false not_here later = ap (λ (l : List HeldPackage). held_under (key_of x.0) x.1 ∷ l) later

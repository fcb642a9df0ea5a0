-- Keys, and what is found under them.
use Rattle.wac_resolution_state.proofs.Common.{◌≡◌, ◌∙◌, List, [], ◌∷◌, Option, Some, None, Bool, true, false, cond, ◌&&◌, refl, sym, ap, map, string_bytes, String, option_map, Global, lookup, bytes_eq, PackageParts, Numbering, Key, key_of, same_key, same_version, contents_of, supplied_packages, package_of, keys_same}
use Rattle.std.specs.Option.{option_eq}
use Rattle.std.specs.String.{string_eq}
use Rattle.wac_graph.specs.declared.package_key.PackageKey.{PackageKey}
use Rattle.wac_graph.specs.contracts.package_key.PackageKeyPartialEq.TheImpl as keys

versions_eq : (v w : Option (String Global)) → option_eq string_eq v w ≡ same_version (option_map string_bytes v) (option_map string_bytes w)
versions_eq None None = refl
versions_eq None (Some w) = refl
versions_eq (Some v) None = refl
versions_eq (Some v) (Some w) = refl

key_eq : (a b : PackageKey) → (keys.eq-value).it a b ≡ same_key (key_of a) (key_of b)
key_eq a b = ap (λ (x : Bool). bytes_eq (string_bytes a.name) (string_bytes b.name) && x) (versions_eq a.version b.version)

-- what a map has under a key
pub keyed_found : {X : Type 0} (key : PackageKey) (es : List (PackageKey × X)) → lookup (λ k. (keys.eq-value).it key k) es ≡ lookup (λ k. same_key (key_of key) k) (map (λ e. (key_of e.0, e.1)) es)
keyed_found key [] = refl
keyed_found {X} key (e ∷ es) = (λ i. cond (key_eq key e.0 i) (Some e.1) (keyed_found key es i))

-- the contents of the package that was supplied under a key
pub contents_found : (numbering : Numbering) (key : Key) (packages : List (Key × PackageParts)) (p : PackageParts) → lookup (λ k. same_key key k) packages ≡ Some p → package_of key (supplied_packages numbering packages) ≡ Some (contents_of numbering key p)
contents_found numbering key [] p h = absurd (cc)
contents_found numbering key (e ∷ es) p h = go (same_key key e.0) refl h (contents_found numbering key es p)
  where
    go : (b : Bool) → same_key key e.0 ≡ b → cond b (Some e.1) (lookup (λ k. same_key key k) es) ≡ Some p
        → (lookup (λ k. same_key key k) es ≡ Some p → package_of key (supplied_packages numbering es) ≡ Some (contents_of numbering key p))
        → cond b (Some (contents_of numbering e.0 e.1)) (package_of key (supplied_packages numbering es)) ≡ Some (contents_of numbering key p)
    go true same h later =
        let keys : key ≡ e.0 = keys_same key e.0 same in
        let parts : e.1 ≡ p = cc in
        ap (λ (k : Key). Some (contents_of numbering k e.1)) (sym keys) ∙ ap (λ (q : PackageParts). Some (contents_of numbering key q)) parts
    go false same h later = later h

-- nothing was supplied under it
pub none_found : (numbering : Numbering) (key : Key) (packages : List (Key × PackageParts)) → lookup (λ k. same_key key k) packages ≡ None → package_of key (supplied_packages numbering packages) ≡ None
none_found numbering key [] h = refl
none_found numbering key (e ∷ es) h = go (same_key key e.0) h (none_found numbering key es)
  where
    go : (b : Bool) → cond b (Some e.1) (lookup (λ k. same_key key k) es) ≡ None → (lookup (λ k. same_key key k) es ≡ None → package_of key (supplied_packages numbering es) ≡ None)
        → cond b (Some (contents_of numbering e.0 e.1)) (package_of key (supplied_packages numbering es)) ≡ None
    go true h later = absurd (cc)
    go false h later = later h

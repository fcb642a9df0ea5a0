-- Packages that a graph gets, or has.
use Rattle.wac_resolution_state.proofs.Common.{◌≡◌, ◌∙◌, ◌<◌, ℕ, List, [], ◌∷◌, ◌++◌, Some, None, zero, suc, length, refl, sym, ap, subst, slice_get, option_map, AllByRecursion, lookup, slice_get-get_or, slice_get_within, KeepsNames, PackageParts, Parts, KeepsKinds, Numbering, Key, HeldPackage, IsHeld, same_key, package_keyed, moved_package, supplied_packages, package_of, contents_in, keys_same, get_kept, get_last, all_more, all_implies}
use Rattle.std.proofs.lemmas.List.Quantifiers.{position-Some}
use Rattle.wac_graph.specs.Adds.{AddsPackage}
use Rattle.wac_resolution_state.specs.Expands.{Expands, IsSuppliedAs, AllSupplied, Loads, IsNotSupplied}
use Rattle.wac_resolution_state.proofs.Expanding.{expands_self, supplied_expanded}
use Rattle.wac_resolution_state.proofs.Keys.{contents_found, none_found}

keyed_at : (key : Key) (ps : List HeldPackage) (i : ℕ) → package_keyed key ps ≡ Some i → option_map (λ p. p.key) (slice_get ps i) ≡ Some key
keyed_at key [] i h = absurd (cc)
keyed_at key (p ∷ ps) i h =
    let found = position-Some (λ (q : HeldPackage). same_key key q.key) (p ∷ ps) i p h in
    ap (option_map (λ (q : HeldPackage). q.key)) (slice_get-get_or (p ∷ ps) i p found.0) ∙ ap Some (sym (keys_same key _ found.1))

keyed_within : (key : Key) (ps : List HeldPackage) (i : ℕ) → package_keyed key ps ≡ Some i → i < length ps
keyed_within key [] i h = absurd (cc)
keyed_within key (p ∷ ps) i h = (position-Some (λ (q : HeldPackage). same_key key q.key) (p ∷ ps) i p h).0

-- the graph holds the package already
pub loads_held : (packages : List (Key × PackageParts)) (g : Parts) (key : Key) (id : ℕ) → AllSupplied packages g → package_keyed key g.packages ≡ Some id → Loads packages g g key id
loads_held packages g key id h is = record { grows = expands_self g; supplied = h; count = refl; there = keyed_within key g.packages id is; keyed = keyed_at key g.packages id is }

module _ (packages : List (Key × PackageParts)) (old new : Parts) (key : Key) (p : PackageParts) (id : ℕ)
    (adds : AddsPackage old new key p id) (kinds : KeepsKinds old new) (names : KeepsNames old.types new.types) where
  appended : new.packages ≡ old.packages ++ moved_package (length old.types) key p ∷ []
  appended = ap (λ (g : Parts). g.packages) adds.is

  last : slice_get new.packages id ≡ Some (moved_package (length old.types) key p)
  last = subst (λ (ps : List HeldPackage). slice_get ps id ≡ Some (moved_package (length old.types) key p)) (sym appended)
      (subst (λ (n : ℕ). slice_get (old.packages ++ moved_package (length old.types) key p ∷ []) n ≡ Some (moved_package (length old.types) key p)) (sym adds.number) (get_last old.packages (moved_package (length old.types) key p)))

  pub adding_expands : Expands old new
  adding_expands = record {
    same = adds.is ∙ ap (λ (ps : List HeldPackage). record old { types = new.types; packages = ps }) (sym appended);
    held = λ i h is. subst (λ (ps : List HeldPackage). slice_get ps i ≡ Some h) (sym appended) (get_kept old.packages (moved_package (length old.types) key p ∷ []) i h is);
    named = names;
    kinds = λ numbering k h. kinds numbering k h.0;
  }

  -- a supplied package was added
  pub loads_added : (held : HeldPackage) → lookup (λ k. same_key key k) packages ≡ Some p → AllSupplied packages old → slice_get new.packages id ≡ Some held → IsHeld new.types held → Loads packages old new key id
  loads_added held found h is there =
      let both : Some held ≡ Some (moved_package (length old.types) key p) = sym is ∙ last in
      let same : held ≡ moved_package (length old.types) key p = cc in
      let one : IsSuppliedAs packages new (moved_package (length old.types) key p) = record {
        there = subst (λ (x : HeldPackage). IsHeld new.types x) same there;
        contents = λ numbering. contents_found numbering key packages p found ∙ ap Some (sym (adds.contents numbering));
      } in
      let others = all_implies (IsSuppliedAs packages old) (IsSuppliedAs packages new) (supplied_expanded packages old new adding_expands) old.packages h in
      record {
        grows = adding_expands;
        supplied = subst (AllByRecursion (IsSuppliedAs packages new)) (sym appended) (all_more (IsSuppliedAs packages new) old.packages (moved_package (length old.types) key p) others one);
        count = adds.count;
        there = slice_get_within new.packages id (moved_package (length old.types) key p) last;
        keyed = ap (option_map (λ (x : HeldPackage). x.key)) last;
      }

-- no package was supplied
pub not_supplied : (packages : List (Key × PackageParts)) (key : Key) → lookup (λ k. same_key key k) packages ≡ None → IsNotSupplied packages key
not_supplied packages key h = record { is = λ numbering. none_found numbering key packages h }

supplied_at : (packages : List (Key × PackageParts)) (g : Parts) (ps : List HeldPackage) (i : ℕ) (p : HeldPackage) → AllByRecursion (IsSuppliedAs packages g) ps → slice_get ps i ≡ Some p → IsSuppliedAs packages g p
supplied_at packages g [] i p h is = absurd (cc)
supplied_at packages g (q ∷ ps) zero p h is = let same : q ≡ p = cc in subst (IsSuppliedAs packages g) same h.0
supplied_at packages g (q ∷ ps) (suc i) p h is = supplied_at packages g ps i p h.1 is

-- the package that a graph holds under a number has the contents that were supplied under its key
pub loaded_contents : (packages : List (Key × PackageParts)) (old new : Parts) (key : Key) (id : ℕ) (p : HeldPackage) → Loads packages old new key id → slice_get new.packages id ≡ Some p
    → (numbering : Numbering) → package_of key (supplied_packages numbering packages) ≡ Some (contents_in numbering new p)
loaded_contents packages old new key id p l is numbering =
    let keys : Some p.key ≡ Some key = sym (ap (option_map (λ (x : HeldPackage). x.key)) is) ∙ l.keyed in
    let same : p.key ≡ key = cc in
    subst (λ (k : Key). package_of k (supplied_packages numbering packages) ≡ Some (contents_in numbering new p)) same ((supplied_at packages new new.packages id p l.supplied is).contents numbering)

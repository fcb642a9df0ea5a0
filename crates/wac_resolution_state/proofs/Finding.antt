-- What a path, or an identifier, resolves to.
use Rattle.wac_resolution_state.proofs.Common.{◌≡◌, ◌∙◌, inl, inr, ℕ, List, [], Some, None, Bool, true, false, refl, sym, ap, subst, slice_get, option_map, Result, IfOk, IfErr, bytes_eq, IfOk-weaker, IfErr-weaker, ItemKind, PackageParts, Named, StandsFor, ItemsNamed, package_name_span, Ident, PackagePath, Parts, Numbering, Key, HeldPackage, Contents, supplied_packages, package_of, contents_in, Error, unknown_package, error_model, OwnPathBroken, ForeignPathBroken, path_broken, PathBroken, IsUndefined, key_of_path, segments_of, beginning_of, LeadsTo}
use Rattle.wac_resolution_state.specs.Named.{scope_of, KindIs}
use Rattle.wac_resolution_errors.specs.declared.error.Error.{Error as CodeError}
use Rattle.wac_resolution_state.specs.declared.context.Context.{Context}
use Rattle.wac_resolution_state.specs.Expands.{AllSupplied, Found, Loads, IsNotSupplied}
use Rattle.wac_resolution_state.specs.Segments.{SegmentsLead, LeadsAs}
use Rattle.wac_resolution_state.specs.Context.{packages_in, context_of}
use Rattle.wac_resolution_state.proofs.Expanding.{expands_self}
use Rattle.wac_resolution_state.proofs.Loading.{loaded_contents}

-- ---- the document's own package

module _ (s : Context) (g : Parts) (ks : Named ItemKind) (p : PackagePath) (r : Result ItemKind CodeError) (own : bytes_eq p.name s.own.now ≡ true) where
  own_kind : AllSupplied (packages_in s) g → (k : ItemKind) → SegmentsLead g ks p k → Found (packages_in s) g g (λ numbering m. LeadsTo (context_of numbering s) (scope_of numbering g ks) p m) k
  own_kind h k lead = record {
    grows = expands_self g;
    supplied = h;
    count = refl;
    named = lead.named;
    is = λ numbering. (scope_of numbering g ks, ap (λ (b : Bool). beginning_of b (scope_of numbering g ks) (supplied_packages numbering (packages_in s)) (key_of_path p)) own, lead.is numbering);
  }

  pub own_found : AllSupplied (packages_in s) g → IfOk r (λ k. SegmentsLead g ks p k) → IfOk r (λ k. Found (packages_in s) g g (λ numbering m. LeadsTo (context_of numbering s) (scope_of numbering g ks) p m) k)
  own_found h ok = IfOk-weaker r (λ k. SegmentsLead g ks p k) (λ k. Found (packages_in s) g g (λ numbering m. LeadsTo (context_of numbering s) (scope_of numbering g ks) p m) k) (own_kind h) ok

  pub own_broken : IfErr r (λ e. (numbering : Numbering) → OwnPathBroken (scope_of numbering g ks) p (segments_of p) (error_model e)) → IfErr r (λ e. (numbering : Numbering) → PathBroken (context_of numbering s) (scope_of numbering g ks) p (error_model e))
  own_broken err = IfErr-weaker r (λ e. (numbering : Numbering) → OwnPathBroken (scope_of numbering g ks) p (segments_of p) (error_model e)) (λ e. (numbering : Numbering) → PathBroken (context_of numbering s) (scope_of numbering g ks) p (error_model e))
      (λ e b numbering. subst (λ (x : Bool). path_broken x (context_of numbering s) (scope_of numbering g ks) p (error_model e)) (sym own) (b numbering)) err

-- ---- another package

module _ (s : Context) (old new : Parts) (ks : Named ItemKind) (p : PackagePath) (r : Result ItemKind CodeError) (other : bytes_eq p.name s.own.now ≡ false) where
  other_kind : (k : ItemKind) → Found (packages_in s) old new (λ numbering m. LeadsAs false (context_of numbering s) [] p m) k → Found (packages_in s) old new (λ numbering m. LeadsTo (context_of numbering s) (scope_of numbering old ks) p m) k
  other_kind k f = record {
    grows = f.grows;
    supplied = f.supplied;
    count = f.count;
    named = f.named;
    is = λ numbering.
        let x = f.is numbering in
        (x.0, ap (λ (b : Bool). beginning_of b (scope_of numbering old ks) (supplied_packages numbering (packages_in s)) (key_of_path p)) other ∙ x.1, x.2);
  }

  pub other_found : IfOk r (λ k. Found (packages_in s) old new (λ numbering m. LeadsAs false (context_of numbering s) [] p m) k) → IfOk r (λ k. Found (packages_in s) old new (λ numbering m. LeadsTo (context_of numbering s) (scope_of numbering old ks) p m) k)
  other_found ok = IfOk-weaker r (λ k. Found (packages_in s) old new (λ numbering m. LeadsAs false (context_of numbering s) [] p m) k) (λ k. Found (packages_in s) old new (λ numbering m. LeadsTo (context_of numbering s) (scope_of numbering old ks) p m) k) other_kind ok

  pub other_broken : IfErr r (λ e. (numbering : Numbering) → path_broken false (context_of numbering s) [] p (error_model e)) → IfErr r (λ e. (numbering : Numbering) → PathBroken (context_of numbering s) (scope_of numbering old ks) p (error_model e))
  other_broken err = IfErr-weaker r (λ e. (numbering : Numbering) → path_broken false (context_of numbering s) [] p (error_model e)) (λ e. (numbering : Numbering) → PathBroken (context_of numbering s) (scope_of numbering old ks) p (error_model e))
      (λ e b numbering. subst (λ (x : Bool). path_broken x (context_of numbering s) (scope_of numbering old ks) p (error_model e)) (sym other) (b numbering)) err

module _ (s : Context) (old new : Parts) (p : PackagePath) (held : HeldPackage) (id : ℕ) (key : Key) (r : Result ItemKind CodeError)
    (keys : key ≡ key_of_path p) (l : Loads (packages_in s) old new key id) (at : slice_get new.packages id ≡ Some held) where
  held_contents : (numbering : Numbering) → package_of (key_of_path p) (supplied_packages numbering (packages_in s)) ≡ Some (contents_in numbering new held)
  held_contents numbering = subst (λ (k : Key). package_of k (supplied_packages numbering (packages_in s)) ≡ Some (contents_in numbering new held)) keys (loaded_contents (packages_in s) old new key id held l at numbering)

  foreign_kind : (k : ItemKind) → SegmentsLead new held.definitions p k → Found (packages_in s) old new (λ numbering m. LeadsAs false (context_of numbering s) [] p m) k
  foreign_kind k lead = record {
    grows = l.grows;
    supplied = l.supplied;
    count = l.count;
    named = lead.named;
    is = λ numbering. (scope_of numbering new held.definitions, ap (option_map (λ (c : Contents). c.definitions)) (held_contents numbering), lead.is numbering);
  }

  pub foreign_found : IfOk r (λ k. SegmentsLead new held.definitions p k) → IfOk r (λ k. Found (packages_in s) old new (λ numbering m. LeadsAs false (context_of numbering s) [] p m) k)
  foreign_found ok = IfOk-weaker r (λ k. SegmentsLead new held.definitions p k) (λ k. Found (packages_in s) old new (λ numbering m. LeadsAs false (context_of numbering s) [] p m) k) foreign_kind ok

  pub foreign_broken : IfErr r (λ e. (numbering : Numbering) → ForeignPathBroken (scope_of numbering new held.definitions) p (segments_of p) (error_model e)) → IfErr r (λ e. (numbering : Numbering) → path_broken false (context_of numbering s) [] p (error_model e))
  foreign_broken err = IfErr-weaker r (λ e. (numbering : Numbering) → ForeignPathBroken (scope_of numbering new held.definitions) p (segments_of p) (error_model e)) (λ e. (numbering : Numbering) → path_broken false (context_of numbering s) [] p (error_model e))
      (λ e b numbering. inr (contents_in numbering new held, held_contents numbering, b numbering)) err

pub foreign_unknown : (s : Context) (p : PackagePath) (key : Key) (e : Error) → key ≡ key_of_path p → IsNotSupplied (packages_in s) key → e ≡ unknown_package p.name (package_name_span p) → (numbering : Numbering) → path_broken false (context_of numbering s) [] p e
foreign_unknown s p key e keys h is numbering = inl (subst (λ (k : Key). package_of k (supplied_packages numbering (packages_in s)) ≡ None) keys (h.is numbering), is)

-- ---- an identifier

pub ident_found : (packages : List (Key × PackageParts)) (g : Parts) (ks : Named ItemKind) (x : Ident) (r : Result ItemKind CodeError) → ItemsNamed g.types ks → AllSupplied packages g
    → IfOk r (λ k. KindIs ks x k) → IfOk r (λ k. Found packages g g (λ numbering m. StandsFor (scope_of numbering g ks) x.string m) k)
ident_found packages g ks x r named h ok = IfOk-weaker r (λ k. KindIs ks x k) (λ k. Found packages g g (λ numbering m. StandsFor (scope_of numbering g ks) x.string m) k)
    (λ k is. record { grows = expands_self g; supplied = h; count = refl; named = is.named g.types named; is = λ numbering. is.is numbering g }) ok

pub ident_broken : (g : Parts) (ks : Named ItemKind) (x : Ident) (r : Result ItemKind CodeError) → IfErr r (λ e. (numbering : Numbering) (h : Parts) → IsUndefined (scope_of numbering h ks) x (error_model e)) → IfErr r (λ e. (numbering : Numbering) → IsUndefined (scope_of numbering g ks) x (error_model e))
ident_broken g ks x r err = IfErr-weaker r (λ e. (numbering : Numbering) (h : Parts) → IsUndefined (scope_of numbering h ks) x (error_model e)) (λ e. (numbering : Numbering) → IsUndefined (scope_of numbering g ks) x (error_model e)) (λ e b numbering. b numbering g) err

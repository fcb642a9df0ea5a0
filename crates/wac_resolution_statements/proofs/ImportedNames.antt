-- The imports of a composition have the names of those of its graph.
use Rattle.wac_resolution_statements.proofs.Common.{◌≡◌, ◌∙◌, ℕ, suc, List, [], ◌∷◌, Option, Some, None, refl, sym, ap, map, slice_get, filter_map, option_map, cons_option, Span, Meaning, Named, with_named, cons_named, Parts, means, Numbering, HeldPackage, IsSound, imports_from, names_of, imports, import_name, import_of, more_at, instance_form, form_in, node_of, composition_of}
use Rattle.wac_graph.specs.Node.{Node as GraphNode, Form, import, definition as defined, alias, instantiation, import_in}

each_name : (numbering : Numbering) (g : Parts) (n : ℕ) (ns : List GraphNode) → names_of (filter_map import_of (map (node_of numbering g) ns)) ≡ names_of (imports_from n ns)
each_name numbering g n [] = refl
each_name numbering g n (x ∷ ns) = go x.form (filter_map import_of (map (node_of numbering g) ns)) (imports_from (suc n) ns) (each_name numbering g (suc n) ns)
  where
    instance : (o : Option HeldPackage) (l : Named Meaning) → names_of (cons_option (option_map (λ name. (name, means numbering g x.kind)) (import_name (instance_form o))) l) ≡ names_of l
    instance None l = refl
    instance (Some p) l = refl

    go : (f : Form) (l : Named Meaning) (m : Named ℕ) → names_of l ≡ names_of m → names_of (cons_option (option_map (λ name. (name, means numbering g x.kind)) (import_name (form_in g.packages f))) l) ≡ names_of (cons_named (import_in f) n m)
    go (import name) l m later = ap (λ (k : List (List ℕ)). name ∷ k) later
    go defined l m later = later
    go (alias node export) l m later = later
    go (instantiation p arguments) l m later = instance (slice_get g.packages p) l ∙ later

pub imported_names : (numbering : Numbering) (g : Parts) (declared : Named ℕ) → IsSound g → names_of (imports (composition_of numbering g declared)) ≡ names_of g.imports
imported_names numbering g declared h = each_name numbering g 0 g.nodes ∙ ap (λ (l : Named ℕ). names_of l) (sym h.imports)

-- where a graph gets no import, the composition gets none
pub imported_same : (numbering : Numbering) (old new : Parts) (before after : Named ℕ) → IsSound old → IsSound new → new.imports ≡ old.imports → names_of (imports (composition_of numbering new after)) ≡ names_of (imports (composition_of numbering old before))
imported_same numbering old new before after p q same = imported_names numbering new after q ∙ ap (λ (l : Named ℕ). names_of l) same ∙ sym (imported_names numbering old before p)

-- ---- the names that a list has more

pub none_more : {X : Type 0} (span : Span) (old new : Named X) → names_of new ≡ names_of old → more_at span old new ≡ []
none_more span [] [] is = refl
none_more span [] (y ∷ new) is = absurd (cc is)
none_more span (x ∷ old) [] is = refl
none_more span (x ∷ old) (y ∷ new) is = none_more span old new (cc is)

pub one_more : {X : Type 0} (span : Span) (old : Named X) (name : List ℕ) (x : X) → more_at span old (with_named old name x) ≡ (name, span) ∷ []
one_more span [] name x = refl
one_more span (y ∷ old) name x = one_more span old name x

-- A whole composition that was tested.
use Rattle.wac_resolution_statements.proofs.Common.{◌≡◌, ◌∙◌, inl, inr, ℕ, suc, List, [], ◌∷◌, ◌++◌, Option, Some, None, Bool, true, false, cond, refl, sym, ap, subst, map, length, filter_map, filter, flat_map, option_and_then, slice_get, is_none, AllByRecursion, map-append, Span, ItemKind, Meaning, world_exports, world_imports, Named, look_up, exports_of, items_mean, Names, world_exports_mean, world_imports_mean, Parts, means, entry_means, origin_at, EntriesMean, numbers, Numbering, IsOneToOne, HeldPackage, IsHeld, IsSound, imports_from, Error, composition_of, node_of, instance_form, placed_imports, TargetWorldBroken, Composition, kind_at, Given, Rules, open_imports, all_imports, ImportAllowed, ExportMet, IsAllowed}
use Rattle.std.proofs.lemmas.List.{append_assoc}
use Rattle.wac_graph_types.specs.declared.kind.ItemKind.TheVariants as kinds
use Rattle.wac_graph.specs.Node.{Node as GraphNode, Form, import, definition as defined, alias, instantiation, package_in, arguments_in}
use Rattle.wac_graph.specs.Packages.{Contents, package_of as supplied_as, contents_in}
use Rattle.wac_resolution_rules.specs.BrokenExpressions.{ReachedAt}
use Rattle.wac_resolution_rules.specs.Nodes.{import_of, imports}
use Rattle.wac_resolution_rules.specs.Paths.{Context}
use Rattle.wac_resolution_rules.specs.Places.{Places}
use Rattle.wac_resolution_statements.specs.declared.target.Target.{Target}
use Rattle.wac_resolution_statements.specs.Imported.{of_node, of_kind, left_open, package_imports, open_at}
use Rattle.wac_resolution_statements.specs.Testing.{Testing, testing, given_in, world_in, Allowed, IsDenied, Met, IsUnmet, AllAllowed, SomeDenied, nowhere, AllMet, SomeUnmet}
use Rattle.wac_resolution_statements.proofs.Firsts.{all_append}

-- ---- lists

all_mapped : {X Y : Type 0} (h : X → Y) (Q : X → Type 0) (P : Y → Type 0) → ((x : X) → Q x → P (h x)) → (xs : List X) → AllByRecursion Q xs → AllByRecursion P (map h xs)
all_mapped h Q P to [] k = tt
all_mapped h Q P to (x ∷ xs) k = (to x k.0, all_mapped h Q P to xs k.1)

reached_mapped : {X Y : Type 0} (h : X → Y) (Q : X → Type 0) (P : Y → Type 0) → ((x : X) → Q x → P (h x)) → (xs : List X) (x : X) → ReachedAt Q xs x → ReachedAt P (map h xs) (h x)
reached_mapped h Q P to xs x r = (map h r.0, map h r.1, ap (map h) r.2 ∙ map-append h r.0 (x ∷ r.1), all_mapped h Q P to r.0 r.3)

reached_left : {X : Type 0} (P : X → Type 0) (xs ys : List X) (x : X) → ReachedAt P xs x → ReachedAt P (xs ++ ys) x
reached_left P xs ys x r = (r.0, r.1 ++ ys, ap (λ l. l ++ ys) r.2 ∙ append_assoc r.0 (x ∷ r.1) ys, r.3)

reached_right : {X : Type 0} (P : X → Type 0) (xs ys : List X) (x : X) → AllByRecursion P xs → ReachedAt P ys x → ReachedAt P (xs ++ ys) x
reached_right P xs ys x all r = (xs ++ r.0, r.1, ap (λ l. xs ++ l) r.2 ∙ sym (append_assoc xs r.0 (x ∷ r.1)), all_append P xs r.0 all r.3)

map_twice : {X Y Z : Type 0} (h : Y → Z) (k : X → Y) (xs : List X) → map h (map k xs) ≡ map (λ x. h (k x)) xs
map_twice h k [] = refl
map_twice {Z = Z} h k (x ∷ xs) = ap (λ (l : List Z). h (k x) ∷ l) (map_twice h k xs)

at_length : {X : Type 0} (xs ys : List X) (x : X) → slice_get (xs ++ x ∷ ys) (length xs) ≡ Some x
at_length [] ys x = refl
at_length (z ∷ xs) ys x = at_length xs ys x

length_more : {X : Type 0} (xs : List X) (x : X) → length (xs ++ x ∷ []) ≡ suc (length xs)
length_more [] x = refl
length_more (z ∷ xs) x = ap suc (length_more xs x)

-- ---- import nodes

module _ (g : Parts) (numbering : Numbering) where
  abbrev node_meant : List GraphNode → List ℕ × ℕ → List ℕ × Meaning
  node_meant ns e = (e.0, kind_at (map (node_of numbering g) ns) e.1)

  kind_last : (before after : List GraphNode) (n : GraphNode) → kind_at (map (node_of numbering g) (before ++ n ∷ after)) (length before) ≡ means numbering g n.kind
  kind_last [] after n = refl
  kind_last (m ∷ before) after n = kind_last before after n

  imported_from : (before ns : List GraphNode) → filter_map import_of (map (node_of numbering g) ns) ≡ map (node_meant (before ++ ns)) (imports_from (length before) ns)
  imported_from before [] = refl
  imported_from before (n ∷ ns) = go n.form (later (imported_from (before ++ n ∷ []) ns))
    where
      later : filter_map import_of (map (node_of numbering g) ns) ≡ map (node_meant ((before ++ n ∷ []) ++ ns)) (imports_from (length (before ++ n ∷ [])) ns) → filter_map import_of (map (node_of numbering g) ns) ≡ map (node_meant (before ++ n ∷ ns)) (imports_from (suc (length before)) ns)
      later h =
          h
          ∙ ap (λ (i : ℕ). map (node_meant ((before ++ n ∷ []) ++ ns)) (imports_from i ns)) (length_more before n)
          ∙ ap (λ (l : List GraphNode). map (node_meant l) (imports_from (suc (length before)) ns)) (append_assoc before (n ∷ []) ns)

      rest : List (List ℕ × Meaning)
      rest = filter_map import_of (map (node_of numbering g) ns)

      go : (f : Form) → rest ≡ map (node_meant (before ++ n ∷ ns)) (imports_from (suc (length before)) ns)
          → filter_map import_of (node_of numbering g (record { form = f; kind = n.kind; name = n.name }) ∷ map (node_of numbering g) ns)
          ≡ map (node_meant (before ++ n ∷ ns)) (imports_from (length before) (record { form = f; kind = n.kind; name = n.name } ∷ ns))
      go (import x) h = ap (λ (m : Meaning). (x, m) ∷ rest) (sym (kind_last before ns n)) ∙ ap (λ (l : List (List ℕ × Meaning)). (x, kind_at (map (node_of numbering g) (before ++ n ∷ ns)) (length before)) ∷ l) h
      go defined h = h
      go (alias m e) h = h
      go (instantiation p arguments) h = packaged (slice_get g.packages p)
        where
          packaged : (o : Option HeldPackage) → filter_map import_of (record { form = instance_form o; kind = means numbering g n.kind; name = n.name; arguments = arguments } ∷ map (node_of numbering g) ns)
              ≡ map (node_meant (before ++ n ∷ ns)) (imports_from (suc (length before)) ns)
          packaged None = h
          packaged (Some y) = h

  pub imports_are : (declared : Named ℕ) → IsSound g → imports (composition_of numbering g declared) ≡ map (λ x. of_node g x numbering) g.imports
  imports_are declared sound = imported_from [] g.nodes ∙ ap (map (node_meant g.nodes)) (sym sound.imports)

  -- ---- what instances leave open

  left_meant : (arguments : Named ℕ) (ks : Named ItemKind) → filter (λ x. is_none (look_up x.0 arguments)) (items_mean (entry_means numbering g) ks) ≡ map (λ x. of_kind g x numbering) (left_open arguments ks)
  left_meant arguments [] = refl
  left_meant arguments (k ∷ ks) = go (is_none (look_up k.0 arguments)) (left_meant arguments ks)
    where
      go : (b : Bool) → filter (λ x. is_none (look_up x.0 arguments)) (items_mean (entry_means numbering g) ks) ≡ map (λ x. of_kind g x numbering) (left_open arguments ks)
          → cond b ((k.0, means numbering g k.1) ∷ filter (λ x. is_none (look_up x.0 arguments)) (items_mean (entry_means numbering g) ks)) (filter (λ x. is_none (look_up x.0 arguments)) (items_mean (entry_means numbering g) ks))
          ≡ map (λ x. of_kind g x numbering) (cond b (k ∷ left_open arguments ks) (left_open arguments ks))
      go true later = ap (λ (l : Named Meaning). (k.0, means numbering g k.1) ∷ l) later
      go false later = later

  -- the supplied packages have the contents that the graph holds
  abbrev pub Holds : Context → Type 0
  Holds context = (i : ℕ) (h : HeldPackage) → slice_get g.packages i ≡ Some h → supplied_as h.key context.packages ≡ Some (contents_in numbering g h)

  module _ (s : Given) (law : EntriesMean g) (holds : Holds s.context) (held : (i : ℕ) (h : HeldPackage) → slice_get g.packages i ≡ Some h → IsHeld g.types h) where
    abbrev open_of : Option GraphNode → Named ItemKind
    open_of o = elim (option_and_then (λ (n : GraphNode). package_in n.form) o) [ None ↦ [] | Some p ↦ left_open (elim o [ None ↦ [] | Some n ↦ arguments_in n.form ]) (package_imports g p) ]

    node_open : (n : GraphNode) → open_imports s (node_of numbering g n) ≡ map (λ x. of_kind g x numbering) (open_of (Some n))
    node_open n = go n.form
      where
        go : (f : Form) → open_imports s (node_of numbering g (record { form = f; kind = n.kind; name = n.name })) ≡ map (λ x. of_kind g x numbering) (open_of (Some (record { form = f; kind = n.kind; name = n.name })))
        go (import x) = refl
        go defined = refl
        go (alias m e) = refl
        go (instantiation p arguments) = packaged (slice_get g.packages p) refl
          where
            packaged : (o : Option HeldPackage) → slice_get g.packages p ≡ o → open_imports s (record { form = instance_form o; kind = means numbering g n.kind; name = n.name; arguments = arguments })
                ≡ map (λ x. of_kind g x numbering) (left_open arguments (elim o [ None ↦ [] | Some h ↦ world_imports g.types h.world.0 ]))
            packaged None is = refl
            packaged (Some h) is =
                ap (λ (o : Option Contents). elim o as (λ _. Named Meaning) [ None ↦ [] | Some c ↦ Rattle.wac_resolution_rules.specs.Expressions.left_out (Rattle.wac_resolution_rules.specs.Given.imports_in c) arguments ]) (holds p h is)
                ∙ ap (λ (l : Named Meaning). filter (λ x. is_none (look_up x.0 arguments)) l) (world_imports_mean (λ i. numbering (origin_at g i)) g.types (entry_means numbering g) (law numbering) h.world.0 (held p h is).of_world.1)
                ∙ left_meant arguments (world_imports g.types h.world.0)

    opens_from : (before ns : List GraphNode) → flat_map (open_imports s) (map (node_of numbering g) ns) ≡ map (λ x. of_kind g x numbering) (flat_map (λ i. open_of (slice_get (before ++ ns) i)) (numbers (length before) (length ns)))
    opens_from before [] = refl
    opens_from before (n ∷ ns) =
        ap (λ (l : Named Meaning). l ++ flat_map (open_imports s) (map (node_of numbering g) ns)) (node_open n ∙ ap (λ (o : Option GraphNode). map (λ x. of_kind g x numbering) (open_of o)) (sym (at_length before ns n)))
        ∙ ap (λ (l : Named Meaning). map (λ x. of_kind g x numbering) (open_of (slice_get (before ++ n ∷ ns) (length before))) ++ l) (later (opens_from (before ++ n ∷ []) ns))
        ∙ sym (map-append (λ x. of_kind g x numbering) (open_of (slice_get (before ++ n ∷ ns) (length before))) (flat_map (λ i. open_of (slice_get (before ++ n ∷ ns) i)) (numbers (suc (length before)) (length ns))))
      where
        later : flat_map (open_imports s) (map (node_of numbering g) ns) ≡ map (λ x. of_kind g x numbering) (flat_map (λ i. open_of (slice_get ((before ++ n ∷ []) ++ ns) i)) (numbers (length (before ++ n ∷ [])) (length ns)))
            → flat_map (open_imports s) (map (node_of numbering g) ns) ≡ map (λ x. of_kind g x numbering) (flat_map (λ i. open_of (slice_get (before ++ n ∷ ns) i)) (numbers (suc (length before)) (length ns)))
        later h =
            h
            ∙ ap (λ (i : ℕ). map (λ x. of_kind g x numbering) (flat_map (λ j. open_of (slice_get ((before ++ n ∷ []) ++ ns) j)) (numbers i (length ns)))) (length_more before n)
            ∙ ap (λ (l : List GraphNode). map (λ x. of_kind g x numbering) (flat_map (λ j. open_of (slice_get l j)) (numbers (suc (length before)) (length ns)))) (append_assoc before (n ∷ []) ns)

    pub opens_are : flat_map (open_imports s) (map (node_of numbering g) g.nodes) ≡ map (λ x. of_kind g x numbering) (flat_map (open_at g) (numbers 0 (length g.nodes)))
    opens_are = opens_from [] g.nodes

-- ---- the whole

module _ (g : Parts) (rules : Rules) (target : Target) (numbering : Numbering) (one : IsOneToOne numbering) (context : Context) (declared : Named ℕ)
    (sound : IsSound g) (law : EntriesMean g) (holds : Holds g numbering context) (there : Names g.types (kinds.Component target.world)) where
  abbrev t : Testing
  t = testing g rules target

  abbrev s : Given
  s = given_in t context

  abbrev c : Composition
  c = composition_of numbering g declared

  abbrev w : Meaning
  w = world_in t numbering

  abbrev opens : Named ItemKind
  opens = flat_map (open_at g) (numbers 0 (length g.nodes))

  opens_meant : flat_map (open_imports s) c.nodes ≡ map (λ x. of_kind g x numbering) opens
  opens_meant = opens_are g numbering s law holds sound.packages

  exports_meant : exports_of w ≡ map (λ x. of_kind g x numbering) (world_exports g.types target.world.0)
  exports_meant = world_exports_mean (λ i. numbering (origin_at g i)) g.types (entry_means numbering g) (law numbering) target.world.0 there.1

  abbrev IsIn : List ℕ × Meaning → Type 0
  IsIn x = ImportAllowed s w x

  nodes_in : AllAllowed t (of_node g) g.imports → AllByRecursion IsIn (imports c)
  nodes_in h = subst (AllByRecursion IsIn) (sym (imports_are g numbering declared sound)) (all_mapped (λ x. of_node g x numbering) (λ x. Allowed t (of_node g x)) IsIn (λ x a. a numbering context one) g.imports h)

  opens_in : AllAllowed t (of_kind g) opens → AllByRecursion IsIn (flat_map (open_imports s) c.nodes)
  opens_in h = subst (AllByRecursion IsIn) (sym opens_meant) (all_mapped (λ x. of_kind g x numbering) (λ x. Allowed t (of_kind g x)) IsIn (λ x a. a numbering context one) opens h)

  all_in : AllAllowed t (of_node g) g.imports → AllAllowed t (of_kind g) opens → AllByRecursion IsIn (all_imports s c)
  all_in h k = all_append IsIn (imports c) (flat_map (open_imports s) c.nodes) (nodes_in h) (opens_in k)

  pub whole_allowed : AllAllowed t (of_node g) g.imports → AllAllowed t (of_kind g) opens → AllMet t (of_kind g) (world_exports g.types target.world.0) → IsAllowed s c w
  whole_allowed h k m = (
    all_in h k,
    subst (AllByRecursion (ExportMet s c)) (sym exports_meant) (all_mapped (λ x. of_kind g x numbering) (λ x. Met t (of_kind g x)) (ExportMet s c) (λ x a. a numbering context declared one) (world_exports g.types target.world.0) m),
  )

  -- ---- what is not

  module _ (p : Places) (e : Error) where
    abbrev at_root : List ℕ × ℕ → (List ℕ × Meaning) × Option Span
    at_root x = (of_node g x numbering, look_up x.0 p.imported)

    abbrev at_none : List ℕ × ItemKind → (List ℕ × Meaning) × Option Span
    at_none x = (of_kind g x numbering, None)

    abbrev IsPlacedIn : (List ℕ × Meaning) × Option Span → Type 0
    IsPlacedIn y = IsIn y.0

    placed_are : placed_imports s c p ≡ map at_root g.imports ++ map at_none opens
    placed_are =
        ap (λ (l : Named Meaning). map (λ (x : List ℕ × Meaning). (x, look_up x.0 p.imported)) l ++ map (λ (x : List ℕ × Meaning). (x, None)) (flat_map (open_imports s) c.nodes)) (imports_are g numbering declared sound)
        ∙ ap (λ (l : List ((List ℕ × Meaning) × Option Span)). l ++ map (λ (x : List ℕ × Meaning). (x, None)) (flat_map (open_imports s) c.nodes)) (map_twice (λ (x : List ℕ × Meaning). (x, look_up x.0 p.imported)) (λ x. of_node g x numbering) g.imports)
        ∙ ap (λ (l : Named Meaning). map at_root g.imports ++ map (λ (x : List ℕ × Meaning). (x, None)) l) opens_meant
        ∙ ap (λ (l : List ((List ℕ × Meaning) × Option Span)). map at_root g.imports ++ l) (map_twice (λ (x : List ℕ × Meaning). (x, None)) (λ x. of_kind g x numbering) opens)

    from_denied : (x : (List ℕ × Meaning) × Option Span) → ReachedAt IsPlacedIn (map at_root g.imports ++ map at_none opens) x → IsDenied s t.path w x e → TargetWorldBroken s c p e t.path w
    from_denied x r (inl d) = inl (record {
      imported = x;
      reached = subst (λ l. ReachedAt IsPlacedIn l x) (sym placed_are) r;
      absent = d.0;
      error = d.1;
    })
    from_denied x r (inr d) = inr (inl (record {
      imported = x;
      kind = d.0;
      reason = d.1;
      reached = subst (λ l. ReachedAt IsPlacedIn l x) (sym placed_are) r;
      there = d.2;
      fails = d.3;
      error = d.4;
    }))

    pub import_denied : SomeDenied t (of_node g) (λ x. look_up x.0 p.imported) g.imports e → TargetWorldBroken s c p e t.path w
    import_denied (x, r, d) =
        from_denied (at_root x) (reached_left IsPlacedIn (map at_root g.imports) (map at_none opens) (at_root x) (reached_mapped at_root (λ y. Allowed t (of_node g y)) IsPlacedIn (λ y a. a numbering context one) g.imports x r)) (d numbering context one)

    pub open_denied : AllAllowed t (of_node g) g.imports → SomeDenied t (of_kind g) nowhere opens e → TargetWorldBroken s c p e t.path w
    open_denied all (x, r, d) =
        from_denied (at_none x)
        (reached_right IsPlacedIn (map at_root g.imports) (map at_none opens) (at_none x) (all_mapped at_root (λ y. Allowed t (of_node g y)) IsPlacedIn (λ y a. a numbering context one) g.imports all)
        (reached_mapped at_none (λ y. Allowed t (of_kind g y)) IsPlacedIn (λ y a. a numbering context one) opens x r)) (d numbering context one)

    pub export_unmet : AllAllowed t (of_node g) g.imports → AllAllowed t (of_kind g) opens → SomeUnmet t p.exported (of_kind g) (world_exports g.types target.world.0) e → TargetWorldBroken s c p e t.path w
    export_unmet h k (x, r, d) = go (d numbering context declared one)
      where
        reached : ReachedAt (ExportMet s c) (exports_of w) (of_kind g x numbering)
        reached = subst (λ l. ReachedAt (ExportMet s c) l (of_kind g x numbering)) (sym exports_meant) (reached_mapped (λ y. of_kind g y numbering) (λ y. Met t (of_kind g y)) (ExportMet s c) (λ y a. a numbering context declared one) (world_exports g.types target.world.0) x r)

        go : IsUnmet s c p.exported t.path (of_kind g x numbering) e → TargetWorldBroken s c p e t.path w
        go (inl u) = inr (inr (inl (record {
          wanted = of_kind g x numbering;
          fit = all_in h k;
          reached = reached;
          fresh = u.0;
          error = u.1;
        })))
        go (inr u) = inr (inr (inr (record {
          wanted = of_kind g x numbering;
          node = u.0;
          reason = u.1;
          span = u.2;
          fit = all_in h k;
          reached = reached;
          exported = u.3;
          fails = u.4;
          place = u.5;
          error = u.6;
        })))

-- What a name finds among the entries of a `with` clause.
use Rattle.wac_resolution_worlds.proofs.Common.{◌≡◌, ◌∙◌, ℕ, List, [], ◌∷◌, Option, Some, None, Bool, true, false, cond, refl, sym, ap, Bor, option_map, unwrap_or, string_bytes, String, slice_get, bytes_eq, Span, WorldInclude, WorldIncludeItem, by_name, Named, look_up, without_first, world_include_item_of, missing_world_include, error_model, name_taken, entry_named, span_of_entry, span_taken, IsLeftOver, world_ref_name, world_ref_span}
use Rattle.std.specs.declared.alloc.Global.{Global}
use Rattle.std.specs.Map.{remove_entry}
use Rattle.std.proofs.lemmas.Slice.Eq.{bytes_eq-Decides}
use Rattle.wac_ast_uses.specs.declared.includes.WorldIncludeItem.{WorldIncludeItem as CodeWorldIncludeItem}
use Rattle.wac_resolution_errors.specs.declared.error.Error.TheVariants as errors
use Rattle.wac_resolution_state.proofs.Bound.{read_found}
use Rattle.wac_resolution_worlds.specs.Entries.{Renamings, entries_of, AreOf}

-- the name that an entry gives
abbrev pub new_name : Bor CodeWorldIncludeItem → List ℕ
new_name x = x.now.to.string.now

pub entry_found : (name : List ℕ) (all : Renamings) → look_up name (entries_of all) ≡ option_map new_name (look_up name all)
entry_found name all = read_found new_name name all

-- ---- the name that a name gets

pub name_renamed : (name : List ℕ) (all : Renamings) (x : Bor CodeWorldIncludeItem) → look_up name all ≡ Some x → new_name x ≡ name_taken (entries_of all) name
name_renamed name all x is = sym (ap (λ (o : Option (List ℕ)). unwrap_or o name) (entry_found name all ∙ ap (option_map new_name) is))

pub name_kept : (name : List ℕ) (all : Renamings) → look_up name all ≡ None → name ≡ name_taken (entries_of all) name
name_kept name all is = sym (ap (λ (o : Option (List ℕ)). unwrap_or o name) (entry_found name all ∙ ap (option_map new_name) is))

pub ruleset name_found = (name_renamed, name_kept)

-- ---- what a name finds is in the clause

pub found_of : (items : List WorldIncludeItem) (name : List ℕ) (all : Renamings) (x : Bor CodeWorldIncludeItem) → AreOf items all → look_up name all ≡ Some x → entry_named name items ≡ Some (world_include_item_of x.now)
found_of items name [] x of is = absurd (cc)
found_of items name (e ∷ all) x of is = go (found_of items name all x of.1) (bytes_eq name e.0) refl is
  where
    go : (look_up name all ≡ Some x → entry_named name items ≡ Some (world_include_item_of x.now)) → (b : Bool) → bytes_eq name e.0 ≡ b → cond b (Some e.1) (look_up name all) ≡ Some x → entry_named name items ≡ Some (world_include_item_of x.now)
    go later true eq found =
        let same : name ≡ e.0 = (bytes_eq-Decides name e.0).0 eq in
        let here : e.1 ≡ x = cc in
        ap (λ (n : List ℕ). entry_named n items) same ∙ of.0 ∙ ap (λ (y : Bor CodeWorldIncludeItem). Some (world_include_item_of y.now)) here
    go later false eq found = later found

-- where a name comes from, by what it finds
span_by : WorldInclude → List ℕ → Option (List ℕ) → Span
span_by x name o = elim o [ None ↦ world_ref_span x.world | Some to ↦ span_of_entry (entry_named name x.items) (world_ref_span x.world) ]

pub span_renamed : (i : WorldInclude) (name : List ℕ) (all : Renamings) (x : Bor CodeWorldIncludeItem) → AreOf i.items all → look_up name all ≡ Some x → x.now.to.span ≡ span_taken i (entries_of all) name
unfolding span_by
span_renamed i name all x of is =
    sym (ap (span_by i name) (entry_found name all ∙ ap (option_map new_name) is) ∙ ap (λ (o : Option WorldIncludeItem). span_of_entry o (world_ref_span i.world)) (found_of i.items name all x of is))

pub span_kept : (i : WorldInclude) (name : List ℕ) (all : Renamings) → look_up name all ≡ None → world_ref_span i.world ≡ span_taken i (entries_of all) name
unfolding span_by
span_kept i name all is = sym (ap (span_by i name) (entry_found name all ∙ ap (option_map new_name) is))

pub ruleset span_found = (span_renamed, span_kept)

-- ---- an entry that is used up

pub removed : {X : Type 0} (name : List ℕ) (es : List (String Global × X)) → by_name (remove_entry (λ k. bytes_eq name (string_bytes k)) es) ≡ without_first name (by_name es)
removed name [] = refl
removed {X} name (e ∷ es) = go (removed name es) (bytes_eq name (string_bytes e.0))
  where
    go : by_name (remove_entry (λ k. bytes_eq name (string_bytes k)) es) ≡ without_first name (by_name es) → (b : Bool)
        → by_name (cond b es (e ∷ remove_entry (λ k. bytes_eq name (string_bytes k)) es)) ≡ cond b (by_name es) ((string_bytes e.0, e.1) ∷ without_first name (by_name es))
    go later true = refl
    go later false = ap (λ (l : Named X). (string_bytes e.0, e.1) ∷ l) later

-- what is left means what is left of the meaning
pub left_read : (name : List ℕ) (all : Renamings) → entries_of (without_first name all) ≡ without_first name (entries_of all)
left_read name [] = refl
left_read name (e ∷ all) = go (left_read name all) (bytes_eq name e.0)
  where
    go : entries_of (without_first name all) ≡ without_first name (entries_of all) → (b : Bool) → entries_of (cond b all (e ∷ without_first name all)) ≡ cond b (entries_of all) ((e.0, new_name e.1) ∷ without_first name (entries_of all))
    go later true = refl
    go later false = ap (λ l. (e.0, new_name e.1) ∷ l) later

pub left_of : (items : List WorldIncludeItem) (name : List ℕ) (all : Renamings) → AreOf items all → AreOf items (without_first name all)
left_of items name [] of = tt
left_of items name (e ∷ all) of = go (left_of items name all of.1) (bytes_eq name e.0)
  where
    go : AreOf items (without_first name all) → (b : Bool) → AreOf items (cond b all (e ∷ without_first name all))
    go later true = of.1
    go later false = (of.0, later)

-- ---- an entry that is left over

pub left_over : (x : WorldInclude) (es : List (String Global × Bor CodeWorldIncludeItem)) (name : String Global) (item : Bor CodeWorldIncludeItem) (world text : List ℕ) → Some (name, item) ≡ slice_get es 0 → AreOf x.items (by_name es)
    → world ≡ world_ref_name x.world → text ≡ string_bytes name → IsLeftOver x (entries_of (by_name es)) (missing_world_include world text item.now.from.span)
left_over x [] name item world text is of named text_is = absurd (cc)
left_over x (e ∷ es) name item world text is of named text_is =
    let first : e ≡ (name, item) = cc in
    let at : item.now.from.span ≡ e.1.now.from.span = sym (ap (λ (d : String Global × Bor CodeWorldIncludeItem). d.1.now.from.span) first) in
    let here : text ≡ string_bytes e.0 = text_is ∙ sym (ap (λ (d : String Global × Bor CodeWorldIncludeItem). string_bytes d.0) first) in
    (world_include_item_of e.1.now, of.0, cc)

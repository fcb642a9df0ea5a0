-- The mentions of a tree are in the order of the items that the tree derives from.
use Rattle.std.proofs.Common.{◌≡◌, ◌≤◌, ◌+◌, ℕ, zero, suc, List, [], ◌∷◌, ◌++◌, flat_map, inl, inr, refl, sym as back, ap, subst, arith, append-nil}
use Rattle.wac_resolution.proofs.Common.{bytes_eq, bytes_eq-Decides, end_of, Document, arguments_from, Mention, path_mentions, name_mentions, use_path_mentions, interface_item_mentions, interface_mentions, extern_type_mentions, extern_mentions, world_ref_mentions, world_item_mentions, type_mentions, expr_mentions, primary_mentions, arguments_mentions, argument_mentions, import_type_mentions, statement_mentions, target_mentions, mentions}
use Rattle.wac_lexer.specs.declared.token.Token.{Token}
use Rattle.wac_lexer.specs.declared.token.Token.TheVariants as t
use Rattle.wac_lexer.specs.Item.{Item}
use Rattle.wac_lexer.specs.Items.{items}
use Rattle.wac_lexer.specs.Order.{InOrder}
use Rattle.wac_ast_grammar.specs.Grammar.{Sym, document, directive, statements, statement, import_statement, import_type, let_statement, export_statement, expr, primary_expr, new_expr, arguments, argument, nested_expr, type_statement, interface_decl, inline_interface, interface_items, interface_item, use_statement, use_path, world_decl, world_items, world_item, world_import, world_export, world_item_path, extern_type, world_include, world_ref, package_name, package_path, rule, build, TreeOf, Parts, Grammar, token, sym, then, either, nothing, to_end, docs, not_empty, more, or_told, DerivesIn, DerivesBy, list_items, more_items}
use Rattle.wac_ast_grammar.specs.Segments.{package_name_span}
use Rattle.wac_ast_grammar.specs.TextTree.{IsTreeOf}
use Rattle.wac_ast_grammar.specs.Tree.{InstantiationArgument}
use Rattle.wac_ast_grammar.proofs.Complete.{Family}
use Rattle.wac_resolution_rules.specs.Given.{key_named}
use Rattle.wac_resolution_rules.specs.Paths.{key_of_path}
use Rattle.wac_resolution.specs.Ascending.{Ascend}
use Rattle.wac_resolution.proofs.Between.{Between, lower, after, left_out, perhaps_one, ascending}

-- ---- what trees and parts mention

-- what the tree of a symbol mentions, the name of the document's package among it
abbrev said : List ℕ → (s : Sym) → TreeOf s → List Mention
said own document x = (name_mentions own x.directive.package_name ++ target_mentions own x.directive.targets) ++ flat_map (statement_mentions own) x.statements
said own directive x = name_mentions own x.package_name ++ target_mentions own x.targets
said own statements x = flat_map (statement_mentions own) x
said own statement x = statement_mentions own x
said own import_statement x = import_type_mentions own x.ty
said own import_type x = import_type_mentions own x
said own let_statement x = expr_mentions own x.expr
said own export_statement x = expr_mentions own x.expr
said own expr x = expr_mentions own x
said own primary_expr x = primary_mentions own x
said own new_expr x = primary_mentions own x
said own (list_items arguments) x = flat_map (argument_mentions own) x.0
said own (more_items arguments) x = flat_map (argument_mentions own) x.0
said own argument x = argument_mentions own x
said own nested_expr x = primary_mentions own x
said own type_statement x = type_mentions own x
said own interface_decl x = interface_mentions own x.items
said own inline_interface x = interface_mentions own x.items
said own interface_items x = interface_mentions own x.0
said own interface_item x = interface_item_mentions own x
said own use_statement x = use_path_mentions own x.path
said own use_path x = use_path_mentions own x
said own world_decl x = flat_map (world_item_mentions own) x.items
said own world_items x = flat_map (world_item_mentions own) x.0
said own world_item x = world_item_mentions own x
said own world_import x = extern_mentions own x.path
said own world_export x = extern_mentions own x.path
said own world_item_path x = extern_mentions own x
said own extern_type x = extern_type_mentions own x
said own world_include x = world_ref_mentions own x.world
said own world_ref x = world_ref_mentions own x
said own package_name x = name_mentions own x
said own package_path x = path_mentions own x
said own _ x = []

-- what an item mentions
abbrev item_said : List ℕ → Token → Item → List Mention
item_said own t.PackageName x = name_mentions own (build package_name x)
item_said own t.PackagePath x = path_mentions own (build package_path x)
item_said own _ x = []

abbrev parts_said : List ℕ → (g : Grammar) → Parts g → List Mention
parts_said own (token k) x = item_said own k x
parts_said own (sym s) x = said own s x
parts_said own (then g h) p = parts_said own g p.0 ++ parts_said own h p.1
parts_said own (either loud g h) (inl p) = parts_said own g p
parts_said own (either loud g h) (inr p) = parts_said own h p
parts_said own (nothing b) p = []
parts_said own (to_end g) (inl p) = []
parts_said own (to_end g) (inr p) = parts_said own g p
parts_said own (docs g) p = parts_said own g p.1
parts_said own (not_empty e k g) p = parts_said own g p
parts_said own (more k s g) p = parts_said own g p
parts_said own (or_told g k h) (inl p) = parts_said own g p
parts_said own (or_told g k h) (inr p) = parts_said own h p.1

-- ---- what a tree mentions its parts do

-- nothing more after it
alone : (ms : List Mention) (low high : ℕ) → Between low (ms ++ []) high → Between low ms high
alone ms low high h = subst (λ l. Between low l high) (append-nil ms) h

in_a_row : (own : List ℕ) (xs : List InstantiationArgument) → flat_map (argument_mentions own) xs ≡ arguments_mentions own (arguments_from xs)
in_a_row own [] = refl
in_a_row own (x ∷ xs) = ap (λ l. argument_mentions own x ++ l) (in_a_row own xs)

build_between : (own : List ℕ) (s : Sym) (p : Parts (rule s)) (low high : ℕ) → low ≤ high → Between low (parts_said own (rule s) p) high → Between low (said own s (build s p)) high
build_between own document (ds, (d, xs)) low high l h = h
build_between own directive (_, (name, (inl (_, path), _))) low high l h = subst (λ ms. Between low (name_mentions own name ++ ms) high) (append-nil (path_mentions own path)) h
build_between own directive (_, (name, (inr _, _))) low high l h = h
build_between own statements (inl _) low high l h = h
build_between own statements (inr (x, xs)) low high l h = h
build_between own statement (inl x) low high l h = h
build_between own statement (inr (inl x)) low high l h = h
build_between own statement (inr (inr (inl x))) low high l h = h
build_between own statement (inr (inr (inr x))) low high l h = h
build_between own import_statement (ds, (_, (id, (inl (_, name), (_, (kind, _)))))) low high l h = alone (import_type_mentions own kind) low high h
build_between own import_statement (ds, (_, (id, (inr _, (_, (kind, _)))))) low high l h = alone (import_type_mentions own kind) low high h
build_between own import_type (inl x) low high l h = h
build_between own import_type (inr (inl x)) low high l h = h
build_between own import_type (inr (inr (inl x))) low high l h = h
build_between own import_type (inr (inr (inr x))) low high l h = h
build_between own let_statement (ds, (_, (id, (_, (value, _))))) low high l h = alone (expr_mentions own value) low high h
build_between own export_statement (ds, (_, (value, (options, _)))) low high l h = alone (expr_mentions own value) low high h
build_between own expr (first, others) low high l h = alone (primary_mentions own first) low high h
build_between own primary_expr (inl x) low high l h = h
build_between own primary_expr (inr (inl x)) low high l h = h
build_between own primary_expr (inr (inr x)) low high l h = h
build_between own new_expr (first, (name, (_, (xs, last)))) low high l h = subst (λ ms. Between low (name_mentions own name ++ ms) high) (in_a_row own xs) h
build_between own (list_items arguments) (inl last) low high l h = h
build_between own (list_items arguments) (inr (x, others)) low high l h = h
build_between own (more_items arguments) (inl last) low high l h = h
build_between own (more_items arguments) (inr (_, others)) low high l h = h
build_between own argument (inl (dots, inl id)) low high l h = h
build_between own argument (inl (dots, inr _)) low high l h = h
build_between own argument (inr (inl (id, inl (_, value)))) low high l h = h
build_between own argument (inr (inl (id, inr _))) low high l h = h
build_between own argument (inr (inr (x, (_, value)))) low high l h = h
build_between own nested_expr (first, (inner, last)) low high l h = alone (expr_mentions own inner) low high h
build_between own type_statement (inl x) low high l h = h
build_between own type_statement (inr (inl x)) low high l h = h
build_between own type_statement (inr (inr x)) low high l h = h
build_between own interface_decl (ds, (_, (id, (_, xs)))) low high l h = h
build_between own inline_interface (_, (_, xs)) low high l h = h
build_between own interface_items (inl last) low high l h = h
build_between own interface_items (inr (x, others)) low high l h = h
build_between own interface_item (inl x) low high l h = h
build_between own interface_item (inr (inl x)) low high l h = h
build_between own interface_item (inr (inr x)) low high l h = h
build_between own use_statement (ds, (_, (path, (_, (_, (xs, _)))))) low high l h = alone (use_path_mentions own path) low high h
build_between own use_path (inl x) low high l h = h
build_between own use_path (inr x) low high l h = h
build_between own world_decl (ds, (_, (id, (_, xs)))) low high l h = h
build_between own world_items (inl last) low high l h = h
build_between own world_items (inr (x, others)) low high l h = h
build_between own world_item (inl x) low high l h = h
build_between own world_item (inr (inl x)) low high l h = h
build_between own world_item (inr (inr (inl x))) low high l h = h
build_between own world_item (inr (inr (inr (inl x)))) low high l h = h
build_between own world_item (inr (inr (inr (inr x)))) low high l h = h
build_between own world_import (ds, (_, (path, _))) low high l h = alone (extern_mentions own path) low high h
build_between own world_export (ds, (_, (path, _))) low high l h = alone (extern_mentions own path) low high h
build_between own world_item_path (inl x) low high l h = h
build_between own world_item_path (inr (id, inl (_, value))) low high l h = h
build_between own world_item_path (inr (id, inr _)) low high l h = h
build_between own extern_type (inl x) low high l h = h
build_between own extern_type (inr (inl x)) low high l h = h
build_between own extern_type (inr (inr x)) low high l h = h
build_between own world_include (ds, (_, (world, (inl (_, (_, xs)), _)))) low high l h = alone (world_ref_mentions own world) low high h
build_between own world_include (ds, (_, (world, (inr _, _)))) low high l h = alone (world_ref_mentions own world) low high h
build_between own world_ref (inl x) low high l h = h
build_between own world_ref (inr x) low high l h = h
build_between own package_name x low high l h = h
build_between own package_path x low high l h = h
build_between own _ p low high l h = l

-- ---- items in order

-- the end of items from a place on
abbrev ends : ℕ → List Item → ℕ
ends place [] = place
ends place (x ∷ xs) = ends (end_of x.span) xs

ends_after : (place : ℕ) (a b : List Item) → ends place (a ++ b) ≡ ends (ends place a) b
ends_after place [] b = refl
ends_after place (x ∷ a) b = ends_after (end_of x.span) a b

reach : (source : List ℕ) (place : ℕ) (xs : List Item) → InOrder source place xs → place ≤ ends place xs
reach source place [] o = omega arith
reach source place (x ∷ xs) o = let rest = reach source (end_of x.span) xs o.4 in omega (arith, o.0, rest)

in_front : (source : List ℕ) (place : ℕ) (a b : List Item) → InOrder source place (a ++ b) → InOrder source place a
in_front source place [] b o = tt
in_front source place (x ∷ a) b o = (o.0, o.1, o.2, o.3, in_front source (end_of x.span) a b o.4)

in_back : (source : List ℕ) (place : ℕ) (a b : List Item) → InOrder source place (a ++ b) → InOrder source (ends place a) b
in_back source place [] b o = o
in_back source place (x ∷ a) b o = in_back source (end_of x.span) a b o.4

-- ---- the mentions of a tree lie between where its items begin and end

item_between : (own source : List ℕ) (k : Token) (x : Item) (low : ℕ) → InOrder source low (x ∷ []) → Between low (item_said own k x) (end_of x.span)
item_between own source t.PackageName x low o = let name = build package_name x in perhaps_one (bytes_eq name.name own) (key_named name, x.span) low (end_of x.span) o.0 (omega (arith, o.1))
item_between own source t.PackagePath x low o =
    let path = build package_path x in let m : Mention = (key_of_path path, package_name_span path) in perhaps_one (bytes_eq path.name own) m low (end_of x.span) o.0 (omega (arith, o.1))
item_between own source _ x low o = omega (arith, o.0)

module _ (own source : List ℕ) where
  module _ (F : Family) (each : (s : Sym) (xs : List Item) (x : TreeOf s) (low : ℕ) → InOrder source low xs → F s xs x → Between low (said own s x) (ends low xs)) where
    parts_between : (g : Grammar) (xs : List Item) (p : Parts g) (low : ℕ) → InOrder source low xs → DerivesIn F g xs p → Between low (parts_said own g p) (ends low xs)
    parts_between (token k) xs x low o d = subst (λ l. Between low (item_said own k x) (ends low l)) (back d.0) (item_between own source k x low (subst (InOrder source low) d.0 o))
    parts_between (sym s) xs x low o d = each s xs x low o d
    parts_between (then g k) xs p low o d =
        let all = subst (InOrder source low) d.2 o in
        let front = parts_between g d.0 p.0 low (in_front source low d.0 d.1 all) d.3 in
        let rest = parts_between k d.1 p.1 (ends low d.0) (in_back source low d.0 d.1 all) d.4 in
        subst (λ l. Between low (parts_said own (then g k) p) (ends low l)) (back d.2)
        (subst (Between low (parts_said own (then g k) p)) (back (ends_after low d.0 d.1)) (after (parts_said own g p.0) (parts_said own k p.1) low (ends low d.0) (ends (ends low d.0) d.1) front rest))
    parts_between (either loud g k) xs (inl p) low o d = parts_between g xs p low o d
    parts_between (either loud g k) xs (inr p) low o d = parts_between k xs p low o d
    parts_between (nothing b) xs p low o d = reach source low xs o
    parts_between (to_end g) xs (inl p) low o d = reach source low xs o
    parts_between (to_end g) xs (inr p) low o d = parts_between g xs p low o d
    parts_between (docs g) xs p low o d = parts_between g xs p.1 low o d.1
    parts_between (not_empty e k g) xs p low o d = parts_between g xs p low o d
    parts_between (more k s g) xs p low o d = parts_between g xs p low o d
    parts_between (or_told g k l) xs (inl p) low o d = parts_between g xs p low o d
    parts_between (or_told g k l) xs (inr p) low o d =
        let all = subst (InOrder source low) d.1 o in
        let rest = parts_between l d.0 p.1 (end_of p.0.span) all.4 d.4 in
        subst (λ i. Between low (parts_said own l p.1) (ends low i)) (back d.1) (lower low (end_of p.0.span) (parts_said own l p.1) (ends (end_of p.0.span) d.0) (omega (arith, all.0)) rest)

  between_by : (n : ℕ) (s : Sym) (xs : List Item) (x : TreeOf s) (low : ℕ) → InOrder source low xs → DerivesBy n s xs x → Between low (said own s x) (ends low xs)
  between_by zero s xs x low o d = absurd d
  between_by (suc n) s xs x low o d =
      subst (λ tree. Between low (said own s tree) (ends low xs)) d.2 (build_between own s d.0 low (ends low xs) (reach source low xs o) (parts_between (DerivesBy n) (between_by n) (rule s) xs d.0 low o d.1))

-- the document's own package is not mentioned
not_own : (doc : Document) → name_mentions doc.directive.package_name.name doc.directive.package_name ≡ []
not_own doc = let x = doc.directive.package_name in left_out (bytes_eq x.name x.name) (key_named x, x.span) ((bytes_eq-Decides x.name x.name).1 refl)

pub mentions_ascend : (source : List ℕ) (doc : Document) → InOrder source 0 (items source) → IsTreeOf source doc → Ascend (mentions doc)
mentions_ascend source doc order is =
    let own = doc.directive.package_name.name in
    let rest = flat_map (statement_mentions own) doc.statements in
    let all : Between 0 (said own document doc) (ends 0 (items source)) = between_by own source is.derives.0 document (items source) doc 0 order is.derives.1 in
    ascending (mentions doc) 0 (ends 0 (items source)) (subst (λ ms. Between 0 ((ms ++ target_mentions own doc.directive.targets) ++ rest) (ends 0 (items source))) (not_own doc) all)

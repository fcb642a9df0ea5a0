-- Documents that break a rule of statements, expressions or targets: at the last statement, or at the target.
use Rattle.wac_resolution_rules.proofs.Common.{◌-◌, ℕ, List, [], ◌∷◌, refl, Option, Some, None, false, codes, inl, inr, span, Reason, a_resource, an_interface, a_world, func, instance, Meaning, Row, done, more, Named, kind_of, entry_of, row_of, alias_type, primitive_value, func_entry, interface_entry, world_entry, Numbering, resource_entry, Contents, PackageName, PackagePath, Ty, TypeAliasKind, TypeDecl, TypeStatement, PostfixExpr, InstantiationArgumentName, InstantiationArgument, Arguments, PrimaryExpr, Expr, ExternName, ImportType, ExportOptions, Statement, Operation, undefined_name, duplicate_name, invalid_alias_type, unknown_package, package_missing_export, package_path_missing_export, missing_component_import, duplicate_instantiation_arg, not_an_instance, missing_instance_export, export_requires_as, export_conflict, duplicate_extern_name, invalid_extern_name, spread_instantiation_no_match, spread_export_no_effect, not_world, import_not_in_target, target_mismatch}
use Rattle.wac_graph_types.specs.declared.kind.ExternKind.TheVariants as externs
use Rattle.wac_graph_types.specs.declared.kind.PrimitiveType.TheVariants as primitives
use Rattle.wac_resolution_rules.specs.Given.{Given}
use Rattle.wac_resolution_rules.specs.Composition.{Composition, Node, imported, definition, aliased, start}
use Rattle.wac_resolution_rules.specs.Expressions.{at, Giving}
use Rattle.wac_resolution_rules.specs.Places.{Places}
use Rattle.wac_resolution_rules.specs.BrokenStatements.{StatementBroken, TargetBroken}
use Rattle.wac_resolution_rules.proofs.StatementRows.{ident, no_params, function, given_in, package_cd, key_cd, name_cd, none_pass, node_i, with_cd}

-- ---- compositions and statements

-- an import of this kind
abbrev import_of : List ℕ → Meaning → Node
import_of name k = record { form = imported name; kind = k; name = Some name; arguments = [] }

-- import f: func();
abbrev with_f : Composition
with_f = record { nodes = import_of (codes "f") function ∷ []; exports = []; declared = (codes "f", 0) ∷ []; resources = 0 }

-- import x: interface { NAME: func(); };
abbrev instance_of_one : List ℕ → Meaning
instance_of_one name = kind_of instance (interface_entry None [] ((name, function) ∷ []))

abbrev with_x : Named Meaning → Composition
with_x exports = record { nodes = import_of (codes "x") (kind_of instance (interface_entry None [] exports)) ∷ []; exports = []; declared = (codes "x", 0) ∷ []; resources = 0 }

-- a definition
abbrev defined : List ℕ → Meaning → Composition
defined name k = record { nodes = record { form = definition; kind = k; name = Some name; arguments = [] } ∷ []; exports = (name, 0) ∷ []; declared = (name, 0) ∷ []; resources = 0 }

abbrev plain_ident : List ℕ → ℕ → Expr
plain_ident name offset = Expr.expr (span offset 1) (PrimaryExpr.ident (ident name offset 1)) []

abbrev let_at : List ℕ → ℕ → Expr → Statement
let_at name offset x = Statement.let_statement (record { docs = []; id = ident name offset 1; expr = x })

abbrev export_at : Expr → ExportOptions → Statement
export_at x options = Statement.export_statement (record { docs = []; expr = x; options = options })

-- import x: PATH; at 20
abbrev import_path : List ℕ → List ℕ → List ℕ → ℕ → ℕ → Statement
import_path text name segments offset len =
    Statement.import_statement (record { docs = []; id = ident (codes "x") (offset - 3) 1; name = None; ty = ImportType.path (record { span = span offset len; string = text; name = name; segments = segments; version = None }) })

-- new c:d { .. }
abbrev new_at : ℕ → ℕ → PackageName → Arguments → Expr
new_at offset len name args = Expr.expr (span offset len) (PrimaryExpr.new (span offset len) name args) []

abbrev and_fill : ℕ → Arguments
and_fill offset = Arguments.more (InstantiationArgument.fill (span offset 3)) Arguments.none

-- the package defines the interface j
abbrev package_with_j : Contents
package_with_j = record { world = package_cd.world; instance = package_cd.instance; definitions = (codes "j", kind_of an_interface (interface_entry (Some (codes "c:d/j")) [] [])) ∷ [] }

abbrev with_j : Numbering → Given
with_j numbering = given_in numbering ((key_cd, package_with_j) ∷ [])

-- ---- names

-- package a:b; let x = y;
undefined : (numbering : Numbering) (p : Places) → StatementBroken (given_in numbering []) start p (undefined_name (codes "y") (span 21 1)) (let_at (codes "x") 17 (plain_ident (codes "y") 21))
undefined numbering p = inl (inl (refl, refl))

abbrev with_f_g : Composition
with_f_g = record { nodes = import_of (codes "f") function ∷ import_of (codes "g") function ∷ []; exports = []; declared = (codes "f", 0) ∷ (codes "g", 1) ∷ []; resources = 0 }

abbrev places_f_g : Places
places_f_g = record { bound = (codes "f", span 20 1) ∷ (codes "g", span 38 1) ∷ []; imported = (codes "f", span 20 1) ∷ (codes "g", span 38 1) ∷ []; exported = [] }

-- package a:b; import f: func(); import g: func(); let f = g;
bound_twice : (numbering : Numbering) → StatementBroken (given_in numbering []) with_f_g places_f_g (duplicate_name (codes "f") (span 53 1) (span 20 1)) (let_at (codes "f") 53 (plain_ident (codes "g") 57))
bound_twice numbering = inr (at with_f_g 1, (at with_f_g 1, (1, refl, refl), refl), (0, span 20 1, refl, refl, refl))

-- package a:b; import x: interface { resource r; }; let r = x.r; type t = r;
abbrev resource_r : Numbering → Meaning
resource_r numbering = kind_of a_resource (resource_entry numbering 0 (codes "r"))

abbrev with_r : Numbering → Composition
with_r numbering = record {
  nodes = import_of (codes "x") (kind_of instance (interface_entry None [] ((codes "r", resource_r numbering) ∷ []))) ∷ record { form = aliased 0 (codes "r"); kind = resource_r numbering; name = Some (codes "r"); arguments = [] } ∷ [];
  exports = [];
  declared = (codes "x", 0) ∷ (codes "r", 1) ∷ [];
  resources = 1;
}

no_alias_of_a_resource : (numbering : Numbering) (p : Places) → StatementBroken (given_in numbering []) (with_r numbering) p (invalid_alias_type (codes "r") (codes "resource") (span 72 1))
    (Statement.type_statement (TypeStatement.ty (TypeDecl.alias (record { docs = []; id = ident (codes "t") 68 1; kind = TypeAliasKind.ty (Ty.ident (ident (codes "r") 72 1)) }))))
no_alias_of_a_resource numbering p = inl (inr (resource_r numbering, refl, refl, refl))

-- ---- paths

-- package a:b; import x: c:e/i;
unknown_in_a_path : (numbering : Numbering) (p : Places) → StatementBroken (with_j numbering) start p (unknown_package (codes "c:e") (span 23 3)) (import_path (codes "c:e/i") (codes "c:e") (codes "i") 23 5)
unknown_in_a_path numbering p = inl (inl (refl, refl))

abbrev interface_i : Meaning
interface_i = kind_of an_interface (interface_entry (Some (codes "a:b/i")) [] [])

-- package a:b; interface i { } import x: a:b/j;
undefined_segment : (numbering : Numbering) (p : Places) → StatementBroken (given_in numbering []) (defined (codes "i") interface_i) p (undefined_name (codes "j") (span 43 1)) (import_path (codes "a:b/j") (codes "a:b") (codes "j") 39 5)
undefined_segment numbering p = inl (inl (span 43 1, refl, refl, refl))

-- package a:b; interface i { } import x: a:b/i/q;
no_export_of_a_segment : (numbering : Numbering) (p : Places) → StatementBroken (given_in numbering []) (defined (codes "i") interface_i) p (package_path_missing_export (codes "i") (codes "interface") (codes "q") (span 45 1)) (import_path (codes "a:b/i/q") (codes "a:b") (codes "i/q") 39 7)
no_export_of_a_segment numbering p =
    inl (inr (interface_i, refl, record { before = []; failing = codes "q"; after = []; split = refl; reached = interface_i; leads = refl; breaks = (span 45 1, refl, refl, refl) }))

-- package a:b; import x: c:d/q;
no_definition : (numbering : Numbering) (p : Places) → StatementBroken (with_j numbering) start p (package_missing_export None [] (codes "c:d") (codes "q") (span 27 1)) (import_path (codes "c:d/q") (codes "c:d") (codes "q") 23 5)
no_definition numbering p = inl (inr (package_with_j, refl, inl (span 27 1, refl, refl, refl)))

-- package a:b; import x: c:d/j/q;
no_export_in_a_package : (numbering : Numbering) (p : Places) → StatementBroken (with_j numbering) start p (package_missing_export (Some (codes "interface")) (codes "j") (codes "c:d") (codes "q") (span 29 1)) (import_path (codes "c:d/j/q") (codes "c:d") (codes "j/q") 23 7)
no_export_in_a_package numbering p =
    inl (inr (package_with_j, refl, inr (kind_of an_interface (interface_entry (Some (codes "c:d/j")) [] []), refl, record { before = []; failing = codes "q"; after = []; split = refl; reached = _; leads = refl; breaks = (span 29 1, refl, refl, refl) })))

-- ---- imports

abbrev with_g : Composition
with_g = record { nodes = import_of (codes "g") function ∷ []; exports = []; declared = (codes "g", 0) ∷ []; resources = 0 }

abbrev places_g : Places
places_g = record { bound = (codes "g", span 20 1) ∷ []; imported = (codes "g", span 20 1) ∷ []; exported = [] }

-- package a:b; import g: func(); import k as g: func();
imported_twice : (numbering : Numbering) → StatementBroken (given_in numbering []) with_g places_g (duplicate_extern_name externs.Import (codes "g") (span 43 1) (span 20 1) None)
    (Statement.import_statement (record { docs = []; id = ident (codes "k") 38 1; name = Some (ExternName.ident (ident (codes "g") 43 1)); ty = ImportType.func no_params }))
imported_twice numbering = inr (function, 0, (func_entry false [] [], ([], [], refl, refl, refl), refl, refl), inl (function, span 20 1, refl, refl, refl))

-- rules that reject every name
abbrev no_names : Numbering → Reason → Given
no_names numbering r = record { context = (given_in numbering []).context; rules = record { passes = λ a b. None; named = λ text. Some r } }

-- package a:b; import f: func();
invalid_name : (numbering : Numbering) (p : Places) (r : Reason) → StatementBroken (no_names numbering r) start p (invalid_extern_name (codes "f") externs.Import r (span 20 1))
    (Statement.import_statement (record { docs = []; id = ident (codes "f") 20 1; name = None; ty = ImportType.func no_params }))
invalid_name numbering p r = inr (function, 0, (func_entry false [] [], ([], [], refl, refl, refl), refl, refl), inr (refl, inl (r, refl, refl)))

-- ---- instances

-- package a:b; let x = new a:b {};
own_package : (numbering : Numbering) (p : Places)
    → StatementBroken (with_j numbering) start p (unknown_package (codes "a:b") (span 25 3)) (let_at (codes "x") 17 (new_at 21 10 (record { string = codes "a:b"; name = codes "a:b"; version = None; span = span 25 3 }) Arguments.none))
own_package numbering p = inl (inl (inl (refl, refl)))

abbrev with_log : Composition
with_log = record { nodes = import_of (codes "log") function ∷ []; exports = []; declared = (codes "log", 0) ∷ []; resources = 0 }

abbrev given_log : Giving
given_log = record { composition = with_log; arguments = (codes "log", 0) ∷ [] }

-- package a:b; import log: func(); let i = new c:d { log, log: log, ... };
given_twice : (numbering : Numbering) (p : Places) → StatementBroken (with_cd numbering) with_log p (duplicate_instantiation_arg (codes "log") (span 56 3))
    (let_at (codes "i") 37 (new_at 41 31 name_cd (Arguments.more (InstantiationArgument.inferred (ident (codes "log") 51 3)) (Arguments.more (InstantiationArgument.named (InstantiationArgumentName.ident (ident (codes "log") 56 3)) (Expr.expr (span 61 3) (PrimaryExpr.ident (ident (codes "log") 61 3)) [])) (and_fill 66)))))
given_twice numbering p =
    inl (inl (inr (inl (package_cd, refl, inr (given_log, (0, import_of (codes "log") function, refl, refl, refl, refl), inl (inr (at with_log 0, (at with_log 0, (0, refl, refl), refl), (0, refl, refl))))))))

abbrev nothing_yet : Composition → Giving
nothing_yet c = record { composition = c; arguments = [] }

-- package a:b; import f: func(); let i = new c:d { ...f, ... };
spread_of_a_function : (numbering : Numbering) (p : Places) → StatementBroken (with_cd numbering) with_f p (not_an_instance (codes "function") Operation.spread (span 52 1))
    (let_at (codes "i") 35 (new_at 39 21 name_cd (Arguments.more (InstantiationArgument.spread (ident (codes "f") 52 1)) (and_fill 55))))
spread_of_a_function numbering p =
    inl (inl (inr (inr (inl (
      package_cd,
      nothing_yet with_f,
      refl,
      (nothing_yet with_f, refl, (nothing_yet with_f, (tt, refl), refl)),
      record { before = []; failing = ident (codes "f") 52 1; after = []; split = refl; reached = nothing_yet with_f; leads = refl; breaks = inr (0, refl, inl (refl, refl)) },
    )))))

-- package a:b; import x: interface { q: func(); }; let i = new c:d { ...x, ... };
spread_gives_nothing : (numbering : Numbering) (p : Places) → StatementBroken (with_cd numbering) (with_x ((codes "q", function) ∷ [])) p (spread_instantiation_no_match (span 70 1))
    (let_at (codes "i") 53 (new_at 57 21 name_cd (Arguments.more (InstantiationArgument.spread (ident (codes "x") 70 1)) (and_fill 73))))
spread_gives_nothing numbering p =
    let g = nothing_yet (with_x ((codes "q", function) ∷ [])) in
    inl (inl (inr (inr (inl (
      package_cd,
      g,
      refl,
      (g, refl, (g, (tt, refl), refl)),
      record { before = []; failing = ident (codes "x") 70 1; after = []; split = refl; reached = g; leads = refl; breaks = inr (0, refl, inr (record { instance = interface_entry None [] ((codes "q", function) ∷ []); there = refl; unchanged = refl; error = refl })) },
    )))))

abbrev given_g : Giving
given_g = record { composition = with_f; arguments = (codes "g", 0) ∷ [] }

-- package a:b; import f: func(); let i = new c:d { g: f, ... };
no_such_import : (numbering : Numbering) (p : Places) → StatementBroken (with_cd numbering) with_f p (missing_component_import (codes "c:d") (codes "g") (span 49 1))
    (let_at (codes "i") 35 (new_at 39 21 name_cd (Arguments.more (InstantiationArgument.named (InstantiationArgumentName.ident (ident (codes "g") 49 1)) (plain_ident (codes "f") 52)) (and_fill 55))))
no_such_import numbering p =
    inl (inl (inr (inr (inr (
      package_cd,
      given_g,
      given_g,
      refl,
      (given_g, (at with_f 0, (at with_f 0, (0, refl, refl), refl), refl, refl), (given_g, (tt, refl), refl)),
      refl,
      inl (record { argument = (codes "g", 0); span = span 49 1; reached = ([], [], refl, tt); place = refl; fresh = refl; error = refl }),
    )))))

-- ---- accesses

-- package a:b; import f: func(); let x = f.g;
access_of_a_function : (numbering : Numbering) (p : Places) → StatementBroken (given_in numbering []) with_f p (not_an_instance (codes "function") Operation.access (span 39 1))
    (let_at (codes "x") 35 (Expr.expr (span 39 3) (PrimaryExpr.ident (ident (codes "f") 39 1)) (PostfixExpr.access (record { span = span 40 2; id = ident (codes "g") 41 1 }) ∷ [])))
access_of_a_function numbering p = inl (inr (at with_f 0, (0, refl, refl), record { before = []; failing = _; after = []; split = refl; reached = at with_f 0; leads = refl; breaks = inl (refl, refl) }))

-- package a:b; import x: interface { f: func(); }; let y = x.g;
access_of_no_export : (numbering : Numbering) (p : Places) → StatementBroken (given_in numbering []) (with_x ((codes "f", function) ∷ [])) p (missing_instance_export (codes "g") (span 58 2))
    (let_at (codes "y") 53 (Expr.expr (span 57 3) (PrimaryExpr.ident (ident (codes "x") 57 1)) (PostfixExpr.access (record { span = span 58 2; id = ident (codes "g") 59 1 }) ∷ [])))
access_of_no_export numbering p =
    let a = at (with_x ((codes "f", function) ∷ [])) 0 in
    inl (inr (a, (0, refl, refl), record { before = []; failing = _; after = []; split = refl; reached = a; leads = refl; breaks = inr (record { instance = interface_entry None [] ((codes "f", function) ∷ []); there = refl; fresh = refl; error = refl }) }))

-- ---- exports

abbrev with_only_i : Composition
with_only_i = record { nodes = record (node_i (Some (codes "i"))) { arguments = [] } ∷ []; exports = []; declared = (codes "i", 0) ∷ []; resources = 0 }

-- package a:b; let i = new c:d { ... }; export i;
export_without_a_name : (numbering : Numbering) (p : Places) → StatementBroken (with_cd numbering) with_only_i p (export_requires_as (span 45 1)) (export_at (plain_ident (codes "i") 45) ExportOptions.none)
export_without_a_name numbering p = inr (at with_only_i 0, (at with_only_i 0, (0, refl, refl), refl), inl (record { node = _; there = refl; unnamed = refl; error = refl }))

abbrev with_t_f : Composition
with_t_f = record {
  nodes = record { form = definition; kind = alias_type (primitive_value primitives.U8); name = Some (codes "t"); arguments = [] } ∷ import_of (codes "f") function ∷ [];
  exports = (codes "t", 0) ∷ [];
  declared = (codes "t", 0) ∷ (codes "f", 1) ∷ [];
  resources = 0;
}

abbrev places_t_f : Places
places_t_f = record { bound = (codes "t", span 18 1) ∷ (codes "f", span 33 1) ∷ []; imported = (codes "f", span 33 1) ∷ []; exported = (codes "t", span 18 1) ∷ [] }

-- package a:b; type t = u8; import f: func(); export f as t;
export_of_a_definition : (numbering : Numbering) → StatementBroken (given_in numbering []) with_t_f places_t_f (export_conflict (codes "t") (codes "value type") (span 56 1) (span 18 1) None)
    (export_at (plain_ident (codes "f") 51) (ExportOptions.rename (ExternName.ident (ident (codes "t") 56 1))))
export_of_a_definition numbering = inr (at with_t_f 1, (at with_t_f 1, (1, refl, refl), refl), inl (record { kind = alias_type (primitive_value primitives.U8); definition = span 18 1; bound = refl; place = refl; error = refl }))

-- package a:b; import f: func(); export f...;
exports_of_a_function : (numbering : Numbering) (p : Places) → StatementBroken (given_in numbering []) with_f p (not_an_instance (codes "function") Operation.spread (span 38 1)) (export_at (plain_ident (codes "f") 38) (ExportOptions.spread (span 39 3)))
exports_of_a_function numbering p = inr (at with_f 0, (at with_f 0, (0, refl, refl), refl), inl (refl, refl))

-- package a:b; import x: interface { }; export x...;
no_exports : (numbering : Numbering) (p : Places) → StatementBroken (given_in numbering []) (with_x []) p (spread_export_no_effect (span 45 1)) (export_at (plain_ident (codes "x") 45) (ExportOptions.spread (span 46 3)))
no_exports numbering p = inr (at (with_x []) 0, (at (with_x []) 0, (0, refl, refl), refl), inr (inl (record { instance = interface_entry None [] []; there = refl; none = refl; error = refl })))

-- ---- targets

abbrev target_at : List ℕ → List ℕ → PackagePath
target_at text segments = record { span = span 20 5; string = text; name = codes "a:b"; segments = segments; version = None }

-- package a:b targets a:b/i; interface i { }
target_is_no_world : (numbering : Numbering) (p : Places) → TargetBroken (given_in numbering []) (defined (codes "i") interface_i) p (not_world (codes "a:b/i") (codes "interface") (span 20 5)) (target_at (codes "a:b/i") (codes "i"))
target_is_no_world numbering p = inr (interface_i, (_, refl, (interface_i, refl, refl)), inl (refl, refl))

-- func(x: u8), as a kind
abbrev other : Meaning
other = kind_of func (func_entry false [] ((codes "x", primitive_value primitives.U8) ∷ []))

-- a world w, then an import of a function, exported under these names
abbrev under_w : Meaning → List ℕ → Meaning → Named ℕ → Composition
under_w world name k exports = record {
  nodes = record { form = definition; kind = kind_of a_world world; name = Some (codes "w"); arguments = [] } ∷ import_of name k ∷ [];
  exports = (codes "w", 0) ∷ exports;
  declared = (codes "w", 0) ∷ (name, 1) ∷ [];
  resources = 0;
}

abbrev placed_at : List ℕ → ℕ → Places
placed_at name offset = record { bound = (codes "w", span 33 1) ∷ (name, span offset 1) ∷ []; imported = (name, span offset 1) ∷ []; exported = (codes "w", span 33 1) ∷ (codes "f", span 115 1) ∷ [] }

abbrev empty_world : Meaning
empty_world = world_entry (Some (codes "a:b/w")) [] [] []

-- package a:b targets a:b/w; world w { } import f: func();
not_in_target : (numbering : Numbering) → TargetBroken (given_in numbering []) (under_w empty_world (codes "f") function []) (placed_at (codes "f") 46) (import_not_in_target (codes "f") (codes "a:b/w") (Some (span 46 1))) (target_at (codes "a:b/w") (codes "w"))
not_in_target numbering = inr (kind_of a_world empty_world, (_, refl, (_, refl, refl)), inr (empty_world, refl, inl (record { imported = ((codes "f", function), Some (span 46 1)); reached = ([], [], refl, tt); absent = refl; error = refl })))

abbrev world_with_f : Meaning
world_with_f = world_entry (Some (codes "a:b/w")) [] ((codes "f", function) ∷ []) []

-- package a:b targets a:b/w; world w { import f: func(); } import f: func(x: u8);
import_of_another_kind : (numbering : Numbering) (r : Reason) → TargetBroken (none_pass numbering r) (under_w world_with_f (codes "f") other []) (placed_at (codes "f") 64) (target_mismatch externs.Import (codes "f") (codes "a:b/w") r (Some (span 64 1))) (target_at (codes "a:b/w") (codes "w"))
import_of_another_kind numbering r = inr (kind_of a_world world_with_f, (_, refl, (_, refl, refl)), inr (world_with_f, refl, inr (inl (record { imported = ((codes "f", other), Some (span 64 1)); kind = function; reason = r; reached = ([], [], refl, tt); there = refl; fails = refl; error = refl }))))

-- rules that require a parameter
abbrev asks_for_params : Reason → Row → Option Reason
asks_for_params r done = Some r
asks_for_params r (more s m rest) = None

abbrev with_params : Numbering → Reason → Given
with_params numbering r = record { context = (given_in numbering []).context; rules = record { passes = λ a b. asks_for_params r (row_of (entry_of b)); named = λ text. None } }

abbrev world_with_g_f : Meaning
world_with_g_f = world_entry (Some (codes "a:b/w")) [] ((codes "g", other) ∷ []) ((codes "f", function) ∷ [])

-- package a:b targets a:b/w; world w { import g: func(x: u8); export f: func(); } import g: func(x: u8); export g as f;
export_of_another_kind : (numbering : Numbering) (r : Reason)
    → TargetBroken (with_params numbering r) (under_w world_with_g_f (codes "g") other ((codes "f", 1) ∷ [])) (placed_at (codes "g") 87) (target_mismatch externs.Export (codes "f") (codes "a:b/w") r (Some (span 115 1))) (target_at (codes "a:b/w") (codes "w"))
export_of_another_kind numbering r =
    inr (
      kind_of a_world world_with_g_f,
      (_, refl, (_, refl, refl)),
      inr (
        world_with_g_f,
        refl,
        inr (inr (inr (record {
          wanted = (codes "f", function);
          node = 1;
          reason = r;
          span = span 115 1;
          fit = ((other, refl, refl), tt);
          reached = ([], [], refl, tt);
          exported = refl;
          fails = refl;
          place = refl;
          error = refl;
        }))),
      ),
    )

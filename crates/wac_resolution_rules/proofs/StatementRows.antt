-- Documents that are worked out: what they compose, or which rule they break.
use Rattle.wac_resolution_rules.proofs.Common.{◌≡◌, ℕ, List, [], ◌∷◌, refl, Option, Some, None, false, codes, inl, inr, span, Reason, func, instance, component, a_world, Meaning, Named, look_up, kind_of, func_entry, interface_entry, world_entry, Key, Numbering, Contents, Ident, PackageName, PackagePath, FuncType, InterfaceItem, Expr, Arguments, Statement, ExportOptions, ExternName, ExternType, FuncTypeRef, ImportType, InstantiationArgument, PostfixExpr, PrimaryExpr, ResultList, TypeStatement, WorldItem, WorldItemPath, duplicate_extern_name, fill_argument_not_last, import_not_in_target, mismatched_instantiation_arg, missing_instantiation_arg, missing_target_export, unknown_package}
use Rattle.wac_graph_types.specs.declared.kind.ExternKind.TheVariants as externs
use Rattle.wac_resolution_rules.specs.Given.{Given, Rules, imports_in}
use Rattle.wac_resolution_rules.specs.Bodies.{Body}
use Rattle.wac_resolution_rules.specs.Composition.{Composition, Node, imported, definition, aliased, instantiated, root_scope, start}
use Rattle.wac_resolution_rules.specs.Find.{find_name}
use Rattle.wac_resolution_rules.specs.Expressions.{Giving, name_inferred}
use Rattle.wac_resolution_rules.specs.Statements.{StatementStep, Composes, unnamed_export}
use Rattle.wac_resolution_rules.specs.Target.{IsAllowed}
use Rattle.wac_resolution_rules.specs.BrokenStatements.{StatementBroken, TargetWorldBroken, TargetBroken}
use Rattle.wac_resolution_rules.specs.Places.{Places}

abbrev pub ident : List ℕ → ℕ → ℕ → Ident
ident text offset len = record { string = text; span = span offset len }

-- func()
abbrev pub no_params : FuncType
no_params = record { is_async = false; params = []; results = ResultList.empty }

-- what it means as a kind
abbrev pub function : Meaning
function = kind_of func (func_entry false [] [])

-- rules that pass all
abbrev pub all_pass : Rules
all_pass = record { passes = λ a b. None; named = λ text. None }

abbrev pub given_in : Numbering → List (Key × Contents) → Given
given_in numbering packages = record { context = record { numbering = numbering; own = codes "a:b"; version = None; packages = packages }; rules = all_pass }

-- ---- package a:b; import x: interface { f: func(); }; export x.f;

abbrev exports_f : InterfaceItem
exports_f = InterfaceItem.interface_export (record { docs = []; id = ident (codes "f") 35 1; ty = FuncTypeRef.func no_params })

abbrev import_x : Statement
import_x = Statement.import_statement (record { docs = []; id = ident (codes "x") 20 1; name = None; ty = ImportType.interface (record { items = exports_f ∷ [] }) })

abbrev export_x_f : Statement
export_x_f = Statement.export_statement (record { docs = []; expr = Expr.expr (span 56 3) (PrimaryExpr.ident (ident (codes "x") 56 1)) (PostfixExpr.access (record { span = span 57 2; id = ident (codes "f") 58 1 }) ∷ []); options = ExportOptions.none })

abbrev instance_x : Meaning
instance_x = kind_of instance (interface_entry None [] ((codes "f", function) ∷ []))

abbrev node_x : Node
node_x = record { form = imported (codes "x"); kind = instance_x; name = Some (codes "x"); arguments = [] }

abbrev with_x : Composition
with_x = record { nodes = node_x ∷ []; exports = []; declared = (codes "x", 0) ∷ []; resources = 0 }

-- 0 import x: instance [x]; 1 alias 0 f: function; export f = 1
abbrev whole_x : Composition
whole_x = record { nodes = node_x ∷ record { form = aliased 0 (codes "f"); kind = function; name = None; arguments = [] } ∷ []; exports = (codes "f", 1) ∷ []; declared = (codes "x", 0) ∷ []; resources = 0 }

abbrev body_f : Body
body_f = record { scope = []; uses = []; imports = []; exports = (codes "f", function) ∷ []; resources = 0 }

imports_x : (numbering : Numbering) → StatementStep (given_in numbering []) start import_x with_x
imports_x numbering = (instance_x, 0, (interface_entry None [] ((codes "f", function) ∷ []), (body_f, (body_f, (func_entry false [] [], ([], [], refl, refl, refl), refl, refl), refl), refl, refl), refl), refl, refl, refl, refl)

exports_x_f : (numbering : Numbering) → StatementStep (given_in numbering []) with_x export_x_f whole_x
exports_x_f numbering = (
  record { composition = record { nodes = whole_x.nodes; exports = []; declared = (codes "x", 0) ∷ []; resources = 0 }; node = 1 },
  (
    record { composition = with_x; node = 0 },
    (0, refl, refl),
    (
      record { composition = record { nodes = whole_x.nodes; exports = []; declared = (codes "x", 0) ∷ []; resources = 0 }; node = 1 },
      (interface_entry None [] ((codes "f", function) ∷ []), function, refl, refl, refl),
      refl,
    ),
  ),
  (record { form = aliased 0 (codes "f"); kind = function; name = None; arguments = [] }, codes "f", refl, refl, (refl, refl, refl, refl)),
)

pub access_composes : (numbering : Numbering) → Composes (given_in numbering []) start (import_x ∷ export_x_f ∷ []) whole_x
access_composes numbering = (with_x, imports_x numbering, (whole_x, exports_x_f numbering, refl))

-- ---- package a:b; import log: func(); let i = new c:d { log, ... }; export i.run;

abbrev pub instance_z : Meaning
instance_z = kind_of instance (interface_entry (Some (codes "x:y/z")) [] [])

-- imports log, a function, and x:y/z, an instance; exports run
abbrev pub package_cd : Contents
package_cd = record {
  world = kind_of component (world_entry None [] ((codes "log", function) ∷ (codes "x:y/z", instance_z) ∷ []) ((codes "run", function) ∷ []));
  instance = kind_of instance (interface_entry None [] ((codes "run", function) ∷ []));
  definitions = [];
}

abbrev pub key_cd : Key
key_cd = (codes "c:d", None)

abbrev pub name_cd : PackageName
name_cd = record { string = codes "c:d"; name = codes "c:d"; version = None; span = span 45 3 }

abbrev pub with_cd : Numbering → Given
with_cd numbering = given_in numbering ((key_cd, package_cd) ∷ [])

abbrev import_log : Statement
import_log = Statement.import_statement (record { docs = []; id = ident (codes "log") 20 3; name = None; ty = ImportType.func no_params })

abbrev let_i : Arguments → Statement
let_i args = Statement.let_statement (record { docs = []; id = ident (codes "i") 37 1; expr = Expr.expr (span 41 18) (PrimaryExpr.new (span 41 18) name_cd args) [] })

abbrev log_alone : Arguments
log_alone = Arguments.more (InstantiationArgument.inferred (ident (codes "log") 51 3)) Arguments.none

abbrev log_and_fill : Arguments
log_and_fill = Arguments.more (InstantiationArgument.inferred (ident (codes "log") 51 3)) (Arguments.more (InstantiationArgument.fill (span 56 3)) Arguments.none)

abbrev export_i_run : Statement
export_i_run = Statement.export_statement (record { docs = []; expr = Expr.expr (span 70 5) (PrimaryExpr.ident (ident (codes "i") 70 1)) (PostfixExpr.access (record { span = span 71 4; id = ident (codes "run") 72 3 }) ∷ []); options = ExportOptions.none })

abbrev node_log : Node
node_log = record { form = imported (codes "log"); kind = function; name = Some (codes "log"); arguments = [] }

abbrev pub node_i : Option (List ℕ) → Node
node_i name = record { form = instantiated key_cd; kind = package_cd.instance; name = name; arguments = (codes "log", 0) ∷ [] }

abbrev node_run : Node
node_run = record { form = aliased 1 (codes "run"); kind = function; name = None; arguments = [] }

abbrev with_log : Composition
with_log = record { nodes = node_log ∷ []; exports = []; declared = (codes "log", 0) ∷ []; resources = 0 }

abbrev made_i : Composition
made_i = record { nodes = node_log ∷ node_i None ∷ []; exports = []; declared = (codes "log", 0) ∷ []; resources = 0 }

abbrev with_i : Composition
with_i = record { nodes = node_log ∷ node_i (Some (codes "i")) ∷ []; exports = []; declared = (codes "log", 0) ∷ (codes "i", 1) ∷ []; resources = 0 }

-- node 0 import, node 1 instantiation with log from 0, node 2 alias of 1 run, export run = 2
abbrev whole_i : Composition
whole_i = record { nodes = node_log ∷ node_i (Some (codes "i")) ∷ node_run ∷ []; exports = (codes "run", 2) ∷ []; declared = (codes "log", 0) ∷ (codes "i", 1) ∷ []; resources = 0 }

imports_log : (numbering : Numbering) → StatementStep (with_cd numbering) start import_log with_log
imports_log numbering = (function, 0, (func_entry false [] [], ([], [], refl, refl, refl), refl, refl), refl, refl, refl, refl)

abbrev given_log : Giving
given_log = record { composition = with_log; arguments = (codes "log", 0) ∷ [] }

lets_i : (numbering : Numbering) → StatementStep (with_cd numbering) with_log (let_i log_and_fill) with_i
lets_i numbering = (
  record { composition = made_i; node = 1 },
  (
    record { composition = made_i; node = 1 },
    (
      package_cd,
      given_log,
      given_log,
      refl,
      (given_log, (0, node_log, refl, refl, refl, refl), (given_log, (tt, refl), refl)),
      refl,
      record { fit = ((function, refl, refl), tt); complete = inl refl; made = refl },
    ),
    refl,
  ),
  refl,
  refl,
)

exports_i_run : (numbering : Numbering) → StatementStep (with_cd numbering) with_i export_i_run whole_i
exports_i_run numbering = (
  record { composition = record { nodes = whole_i.nodes; exports = []; declared = whole_i.declared; resources = 0 }; node = 2 },
  (
    record { composition = with_i; node = 1 },
    (1, refl, refl),
    (
      record { composition = record { nodes = whole_i.nodes; exports = []; declared = whole_i.declared; resources = 0 }; node = 2 },
      (interface_entry None [] ((codes "run", function) ∷ []), function, refl, refl, refl),
      refl,
    ),
  ),
  (node_run, codes "run", refl, refl, (refl, refl, refl, refl)),
)

pub instance_composes : (numbering : Numbering) → Composes (with_cd numbering) start (import_log ∷ let_i log_and_fill ∷ export_i_run ∷ []) whole_i
instance_composes numbering = (with_log, imports_log numbering, (with_i, lets_i numbering, (whole_i, exports_i_run numbering, refl)))

-- with { log } instead: 45+3, missing instantiation argument x:y/z for package c:d
pub argument_is_missing : (numbering : Numbering) (p : Places) → StatementBroken (with_cd numbering) with_log p (missing_instantiation_arg (codes "x:y/z") (codes "c:d") (span 45 3)) (let_i log_alone)
argument_is_missing numbering p = inl (inl (inr (inr (inr (
  package_cd,
  given_log,
  given_log,
  refl,
  (given_log, (0, node_log, refl, refl, refl, refl), refl),
  refl,
  inr (inr (record { wanted = (codes "x:y/z", instance_z); others = []; fit = ((function, refl, refl), tt); unfilled = refl; left = refl; error = refl })),
)))))

-- with { log, ..., } and a package that isn't given, 45+3: unknown package c:d
pub package_is_unknown : (numbering : Numbering) (p : Places) (args : Arguments) → StatementBroken (given_in numbering []) with_log p (unknown_package (codes "c:d") (span 45 3)) (let_i args)
package_is_unknown numbering p args = inl (inl (inl (refl, refl)))

-- ---- package a:b; let x = new c:d { ..., y };

abbrev fill_first : Arguments
fill_first = Arguments.more (InstantiationArgument.fill (span 31 3)) (Arguments.more (InstantiationArgument.inferred (ident (codes "y") 36 1)) Arguments.none)

-- 31+3: the fill must be the last argument
pub fill_is_not_last : (numbering : Numbering) (p : Places) → StatementBroken (with_cd numbering) start p (fill_argument_not_last (span 31 3)) (let_i fill_first)
fill_is_not_last numbering p = inl (inl (inr (inl (package_cd, refl, inl (λ h. h, refl)))))

-- ---- package a:b; import x: interface { log: func(); }; let i = new c:d { ...x, ... };

abbrev instance_log : Meaning
instance_log = kind_of instance (interface_entry None [] ((codes "log", function) ∷ []))

abbrev node_of_log : Node
node_of_log = record { form = imported (codes "x"); kind = instance_log; name = Some (codes "x"); arguments = [] }

abbrev with_x_log : Composition
with_x_log = record { nodes = node_of_log ∷ []; exports = []; declared = (codes "x", 0) ∷ []; resources = 0 }

abbrev spread_and_fill : Arguments
spread_and_fill = Arguments.more (InstantiationArgument.spread (ident (codes "x") 72 1)) (Arguments.more (InstantiationArgument.fill (span 75 3)) Arguments.none)

abbrev node_alias : Node
node_alias = record { form = aliased 0 (codes "log"); kind = function; name = None; arguments = [] }

abbrev spread_log : Giving
spread_log = record { composition = record { nodes = node_of_log ∷ node_alias ∷ []; exports = []; declared = (codes "x", 0) ∷ []; resources = 0 }; arguments = (codes "log", 1) ∷ [] }

-- node 0 import, node 1 alias of 0 log, node 2 instantiation with log from 1, named i
abbrev whole_spread : Composition
whole_spread = record {
  nodes = node_of_log ∷ node_alias ∷ record { form = instantiated key_cd; kind = package_cd.instance; name = Some (codes "i"); arguments = (codes "log", 1) ∷ [] } ∷ [];
  exports = [];
  declared = (codes "x", 0) ∷ (codes "i", 2) ∷ [];
  resources = 0;
}

abbrev made_spread : Composition
made_spread = record {
  nodes = node_of_log ∷ node_alias ∷ record { form = instantiated key_cd; kind = package_cd.instance; name = None; arguments = (codes "log", 1) ∷ [] } ∷ [];
  exports = [];
  declared = (codes "x", 0) ∷ [];
  resources = 0;
}

pub spread_composes : (numbering : Numbering) → StatementStep (with_cd numbering) with_x_log (let_i spread_and_fill) whole_spread
spread_composes numbering = (
  record { composition = made_spread; node = 2 },
  (
    record { composition = made_spread; node = 2 },
    (
      package_cd,
      record { composition = with_x_log; arguments = [] },
      spread_log,
      refl,
      (record { composition = with_x_log; arguments = [] }, refl, (record { composition = with_x_log; arguments = [] }, (tt, refl), refl)),
      (spread_log, (0, interface_entry None [] ((codes "log", function) ∷ []), refl, refl, refl, λ h. cc h), refl),
      record { fit = ((function, refl, refl), tt); complete = inl refl; made = refl },
    ),
    refl,
  ),
  refl,
  refl,
)

-- rules that pass nothing, for one reason
abbrev pub none_pass : Numbering → Reason → Given
none_pass numbering r = record { context = (with_cd numbering).context; rules = record { passes = λ a b. Some r; named = λ text. None } }

-- then 72+1: mismatched instantiation argument log, for that reason
pub argument_mismatches : (numbering : Numbering) (p : Places) (r : Reason) → StatementBroken (none_pass numbering r) with_x_log p (mismatched_instantiation_arg (codes "log") r (span 72 1)) (let_i spread_and_fill)
argument_mismatches numbering p r = inl (inl (inr (inr (inr (
  package_cd,
  record { composition = with_x_log; arguments = [] },
  spread_log,
  refl,
  (record { composition = with_x_log; arguments = [] }, refl, (record { composition = with_x_log; arguments = [] }, (tt, refl), refl)),
  (spread_log, (0, interface_entry None [] ((codes "log", function) ∷ []), refl, refl, refl, λ h. cc h), refl),
  inr (inl (record { argument = (codes "log", 1); span = span 72 1; wanted = function; reason = r; reached = ([], [], refl, tt); place = refl; imported = refl; fails = refl; error = refl })),
)))))

-- ---- package a:b; import g: func(); import k: func(); export g as f; export g as h; export k as f;

abbrev with_f_h : Composition
with_f_h = record {
  nodes = record { form = imported (codes "g"); kind = function; name = Some (codes "g"); arguments = [] } ∷ record { form = imported (codes "k"); kind = function; name = Some (codes "k"); arguments = [] } ∷ [];
  exports = (codes "f", 0) ∷ (codes "h", 0) ∷ [];
  declared = (codes "g", 0) ∷ (codes "k", 1) ∷ [];
  resources = 0;
}

abbrev places_f_h : Places
places_f_h = record { bound = (codes "g", span 20 1) ∷ (codes "k", span 38 1) ∷ []; imported = (codes "g", span 20 1) ∷ (codes "k", span 38 1) ∷ []; exported = (codes "f", span 61 1) ∷ (codes "h", span 76 1) ∷ [] }

abbrev export_k_as_f : Statement
export_k_as_f = Statement.export_statement (record { docs = []; expr = Expr.expr (span 86 1) (PrimaryExpr.ident (ident (codes "k") 86 1)) []; options = ExportOptions.rename (ExternName.ident (ident (codes "f") 91 1)) })

-- 91+1, previous 61+1: duplicate export f
pub export_is_repeated : (numbering : Numbering) → StatementBroken (given_in numbering []) with_f_h places_f_h (duplicate_extern_name externs.Export (codes "f") (span 91 1) (span 61 1) None) export_k_as_f
export_is_repeated numbering = inr (record { composition = with_f_h; node = 1 }, (record { composition = with_f_h; node = 1 }, (1, refl, refl), refl), inr (refl, inl (0, span 61 1, refl, refl, refl)))

-- ---- package a:b targets a:b/w; world w { export run: func(); }

abbrev target_w : PackagePath
target_w = record { span = span 20 5; string = codes "a:b/w"; name = codes "a:b"; segments = codes "w"; version = None }

abbrev world_w : Statement
world_w = Statement.type_statement (TypeStatement.world (record {
  docs = [];
  id = ident (codes "w") 33 1;
  items = WorldItem.world_export (record { docs = []; path = WorldItemPath.named (record { id = ident (codes "run") 44 3; ty = ExternType.func no_params }) }) ∷ [];
}))

abbrev entry_w : Meaning
entry_w = world_entry (Some (codes "a:b/w")) [] [] ((codes "run", function) ∷ [])

abbrev with_w : Composition
with_w = record { nodes = record { form = definition; kind = kind_of a_world entry_w; name = Some (codes "w"); arguments = [] } ∷ []; exports = (codes "w", 0) ∷ []; declared = (codes "w", 0) ∷ []; resources = 0 }

abbrev body_run : Body
body_run = record { scope = []; uses = []; imports = []; exports = (codes "run", function) ∷ []; resources = 0 }

pub world_composes : (numbering : Numbering) → Composes (given_in numbering []) start (world_w ∷ []) with_w
world_composes numbering = (
  with_w,
  (
    kind_of a_world entry_w,
    0,
    (entry_w, (body_run, body_run, (body_run, (refl, (function, 0, (func_entry false [] [], ([], [], refl, refl, refl), refl, refl), refl)), refl), refl, refl, refl), refl),
    (refl, refl, refl),
  ),
  refl,
)

-- 20+5: target world a:b/w requires an export named run
pub export_is_missing : (numbering : Numbering) (p : Places) → TargetBroken (given_in numbering []) with_w p (missing_target_export (codes "run") (codes "a:b/w") (codes "function") (span 20 5)) target_w
export_is_missing numbering p = inr (kind_of a_world entry_w, (root_scope with_w, refl, (kind_of a_world entry_w, refl, refl)), inr (entry_w, refl, inr (inr (inl (record { wanted = (codes "run", function); fit = tt; reached = ([], [], refl, tt); fresh = refl; error = refl })))))

-- ---- the composition of log, i and i.run under targets

-- what i leaves open isn't allowed by a world that imports log alone; it has no place
pub open_not_in_target : (numbering : Numbering) (p : Places)
    → TargetWorldBroken (with_cd numbering) whole_i p (import_not_in_target (codes "x:y/z") (codes "a:b/w") None) target_w (world_entry (Some (codes "a:b/w")) [] ((codes "log", function) ∷ []) [])
open_not_in_target numbering p = inl (record {
  imported = ((codes "x:y/z", instance_z), None);
  reached = (((codes "log", function), look_up (codes "log") p.imported) ∷ [], [], refl, ((function, refl, refl), tt));
  absent = refl;
  error = refl;
})

-- a world that uses a type of x:y/z allows it
pub used_is_allowed : (numbering : Numbering)
    → IsAllowed (with_cd numbering) whole_i (world_entry (Some (codes "a:b/w")) (((codes "t", None), instance_z) ∷ []) ((codes "log", function) ∷ []) ((codes "run", function) ∷ []))
used_is_allowed numbering = (((function, refl, refl), ((instance_z, refl, refl), tt)), ((2, refl, refl), tt))

-- ---- short names

abbrev externs_of : List (List ℕ) → Named ℕ
externs_of [] = []
externs_of (name ∷ names) = (name, 0) ∷ externs_of names

-- a name among the externs denotes itself, also where it is short for another
find_itself : find_name (codes "log") (externs_of (codes "x:y/log" ∷ codes "log" ∷ [])) ≡ codes "log"
find_itself = refl

-- the only extern that it is short for, without the version
find_only : find_name (codes "log") (externs_of (codes "a:b/c" ∷ codes "x:y/z/log@1.0.0" ∷ [])) ≡ codes "x:y/z/log@1.0.0"
find_only = refl

-- where it is short for two it denotes neither
find_two : find_name (codes "log") (externs_of (codes "x:y/log@1.0.0" ∷ codes "x:y/log@2.0.0" ∷ [])) ≡ codes "log"
find_two = refl

-- without '/' nothing is cut
find_plain : find_name (codes "log") (externs_of (codes "log@1.0.0" ∷ [])) ≡ codes "log"
find_plain = refl

-- an instance with an id is exported under it, before its import name; without an id under that
export_by_id : unnamed_export (record { form = imported (codes "q"); kind = instance_z; name = None; arguments = [] }) ≡ Some (codes "x:y/z")
export_by_id = refl

export_by_import : unnamed_export node_x ≡ Some (codes "x")
export_by_import = refl

export_by_alias : unnamed_export node_run ≡ Some (codes "run")
export_by_alias = refl

-- export (new c:d { ... }); has no name of its own
export_by_none : unnamed_export (node_i None) ≡ None
export_by_none = refl

-- an identifier's node is given for its instance's id, else for its import name, else by find
infer_id : name_inferred (imports_in package_cd) (codes "q") (record { form = imported (codes "q"); kind = instance_z; name = None; arguments = [] }) ≡ codes "x:y/z"
infer_id = refl

infer_import : name_inferred (imports_in package_cd) (codes "q") node_log ≡ codes "log"
infer_import = refl

infer_find : name_inferred (imports_in package_cd) (codes "z") node_x ≡ codes "x:y/z"
infer_find = refl

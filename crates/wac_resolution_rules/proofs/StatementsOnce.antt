-- A statement yields one composition.
use Rattle.wac_resolution_rules.proofs.Common.{◌≡◌, ℕ, List, [], sym, ◌∙◌, ap, subst, Some, None, func, instance, Meaning, Named, look_up, kind_of, exports_of, promoted, Steps, ImportType, ImportStatement, LetStatement, ExportOptions, ExportStatement, Statement}
use Rattle.wac_resolution_rules.specs.Given.{Given}
use Rattle.wac_resolution_rules.specs.Composition.{Composition, Node, imported, root_scope, with_node, with_export, with_resources, binding}
use Rattle.wac_resolution_rules.specs.Nodes.{node_at, instance_at, next_of}
use Rattle.wac_resolution_rules.specs.Expressions.{At}
use Rattle.wac_resolution_rules.specs.Statements.{ImportsKind, name_imported, Imports, Lets, unnamed_export, unexported, ExportsOne, ExportsBy, Exports, StatementStep, Composes}
use Rattle.wac_resolution_rules.proofs.StepLaws.{IsOnce, steps_once}
use Rattle.wac_resolution_rules.proofs.TypesOnce.{func_once}
use Rattle.wac_resolution_rules.proofs.BodiesOnce.{leads_once}
use Rattle.wac_resolution_rules.proofs.WorldsOnce.{interface_once, declares_once}
use Rattle.wac_resolution_rules.proofs.ExpressionsOnce.{expr_once}
use Rattle.wac_resolution_rules.proofs.Options.{some_once}

pub kind_once : (s : Given) (old : Composition) (x : ImportType) (k l : Meaning) (n m : ℕ) → ImportsKind s old x k n → ImportsKind s old x l m → (k ≡ l) × (n ≡ m)
kind_once s old (ImportType.func x) k l n m p q = (p.2 ∙ ap (kind_of func) (func_once (root_scope old) [] x p.0 q.0 p.1 q.1) ∙ sym q.2, p.3 ∙ sym q.3)
kind_once s old (ImportType.interface x) k l n m p q =
    let e = interface_once s.context (root_scope old) old.resources None x.items p.0 q.0 n m p.1 q.1 in
    (p.2 ∙ ap (kind_of instance) e.0 ∙ sym q.2, e.1)
kind_once s old (ImportType.path x) k l n m p q = (leads_once s.context (root_scope old) x k l p.0 q.0, p.1 ∙ sym q.1)
kind_once s old (ImportType.ident x) k l n m p q = (some_once (look_up x.string (root_scope old)) k l p.0 q.0, p.1 ∙ sym q.1)

abbrev imports_to : Composition → ImportStatement → Meaning → ℕ → Composition
imports_to old x k n = binding (with_node (with_resources old n) (imported (name_imported x k)) (promoted k)) x.id.string (next_of old)

imports_once : (s : Given) (old : Composition) (x : ImportStatement) (a b : Composition) → Imports s old x a → Imports s old x b → a ≡ b
imports_once s old x a b p q =
    let e = kind_once s old x.ty p.0 q.0 p.1 q.1 p.2 q.2 in
    p.6 ∙ ap (λ (k : Meaning). imports_to old x k p.1) e.0 ∙ ap (λ (n : ℕ). imports_to old x q.0 n) e.1 ∙ sym q.6

lets_once : (s : Given) (old : Composition) (x : LetStatement) (a b : Composition) → Lets s old x a → Lets s old x b → a ≡ b
lets_once s old x a b p q =
    let e : p.0 ≡ q.0 = expr_once s old x.expr p.0 q.0 p.1 q.1 in
    p.3 ∙ ap (λ (m : At). binding m.composition x.id.string m.node) e ∙ sym q.3

pub exports_one_once : (s : Given) (node : ℕ) → IsOnce (ExportsOne s node)
exports_one_once s node old x a b p q = p.3 ∙ sym q.3

abbrev list_from : At → Meaning → Named Meaning
list_from a i = unexported a.composition.exports (exports_of i)

exports_by_once : (s : Given) (at_node : At) (x : ExportOptions) (a b : Composition) → ExportsBy s at_node x a → ExportsBy s at_node x b → a ≡ b
exports_by_once s n (ExportOptions.spread span) a b p q =
    let i : p.0 ≡ q.0 = some_once (instance_at n.composition n.node) p.0 q.0 p.1 q.1 in
    steps_once (ExportsOne s n.node) (exports_one_once s n.node) n.composition (list_from n q.0) a b
    (subst (λ (m : Meaning). Steps (ExportsOne s n.node) n.composition (list_from n m) a) i p.3) q.3
exports_by_once s n (ExportOptions.rename name) a b p q = p.3 ∙ sym q.3
exports_by_once s n ExportOptions.none a b p q =
    let i : p.0 ≡ q.0 = some_once (node_at n.composition n.node) p.0 q.0 p.2 q.2 in
    let f : unnamed_export q.0 ≡ Some p.1 = subst (λ (m : Node). unnamed_export m ≡ Some p.1) i p.3 in
    let e : p.1 ≡ q.1 = some_once (unnamed_export q.0) p.1 q.1 f q.3 in
    p.4.3 ∙ ap (λ (m : List ℕ). with_export n.composition m n.node) e ∙ sym q.4.3

pub exports_once : (s : Given) (old : Composition) (x : ExportStatement) (a b : Composition) → Exports s old x a → Exports s old x b → a ≡ b
exports_once s old x a b p q =
    let e : p.0 ≡ q.0 = expr_once s old x.expr p.0 q.0 p.1 q.1 in
    exports_by_once s q.0 x.options a b (subst (λ (m : At). ExportsBy s m x.options a) e p.2) q.2

-- a statement yields one composition
pub goes_once : (s : Given) → IsOnce (StatementStep s)
goes_once s old (Statement.import_statement x) a b p q = imports_once s old x a b p q
goes_once s old (Statement.let_statement x) a b p q = lets_once s old x a b p q
goes_once s old (Statement.export_statement x) a b p q = exports_once s old x a b p q
goes_once s old (Statement.type_statement x) a b p q = declares_once s.context old x a b p q

-- from one composition statements yield one
pub composes_once : (s : Given) (old : Composition) (xs : List Statement) (a b : Composition) → Composes s old xs a → Composes s old xs b → a ≡ b
composes_once s old xs a b p q = steps_once (StatementStep s) (goes_once s) old xs a b p q

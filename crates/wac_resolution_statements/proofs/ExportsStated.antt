-- Export statements that are executed.
use Rattle.wac_resolution_statements.proofs.Common.{◌≡◌, ◌∙◌, ℕ, ◌++◌, inl, inr, refl, sym, ap, append-nil, Span, Named, Expr, ExportStatement, Statement, Parts, Numbering, IsSound, Error, ExportOptionsBroken, at, Rules, imports, more_at, places_after, expr_span, export_span, ExportsBy, Root, numbers_of, composed, places, Agrees, Context, packages_in, given_in, ExprStep, ExprBreaks}
use Rattle.wac_resolution_statements.specs.declared.externs.Externs.{Externs}
use Rattle.wac_resolution_statements.specs.Externs.{imported_in, exported_in, places_in, ArePlaced, Under}
use Rattle.wac_resolution_statements.specs.Exports.{Exported}
use Rattle.wac_resolution_statements.specs.Statements.{StatementRun, Breaks}
use Rattle.wac_resolution_statements.proofs.Grown.{agrees_still, agrees_extends, placed_still, supplied_still}
use Rattle.wac_resolution_statements.proofs.ImportedNames.{imported_same, none_more}

-- what is exported of a node of the graph of an expression
abbrev pub ExportsOf : Rules → Parts → Parts → Root → Externs → Externs → ExportStatement → ℕ → Type 0
ExportsOf rules mid new root x y s node = Exported (export_span s) mid new root x y (λ numbering c d. Under rules.named (λ t. ExportsBy t (at c node) s.options d))

export_places : (numbering : Numbering) (rules : Rules) (old mid new : Parts) (root : Root) (x y : Externs) (s : ExportStatement) (node : ℕ) → IsSound old → IsSound new → new.imports ≡ old.imports → mid.exports ≡ old.exports → ExportsOf rules mid new root x y s node
    → places_in root y ≡ places_after (composed numbering old root) (places_in root x) (Statement.export_statement s) (composed numbering new root)
export_places numbering rules old mid new root x y s node p q imports_same exports_same e =
    let bound : places root ≡ places root ++ more_at (export_span s) (numbers_of root.nodes) (numbers_of root.nodes) =
    sym (ap (λ (l : Named Span). places root ++ l) (none_more (export_span s) (numbers_of root.nodes) (numbers_of root.nodes) refl) ∙ append-nil (places root)) in
    let imported : imported_in y ≡ imported_in x ++ more_at (export_span s) (imports (composed numbering old root)) (imports (composed numbering new root)) =
    e.imported ∙ sym (ap (λ (l : Named Span). imported_in x ++ l) (none_more (export_span s) (imports (composed numbering old root)) (imports (composed numbering new root)) (imported_same numbering old new (numbers_of root.nodes) (numbers_of root.nodes) p q imports_same)) ∙ append-nil (imported_in x)) in
    let exported : exported_in y ≡ exported_in x ++ more_at (export_span s) old.exports new.exports =
    e.exported ∙ ap (λ (l : Named ℕ). exported_in x ++ more_at (export_span s) l new.exports) exports_same in
    λ i. record { bound = bound i; imported = imported i; exported = exported i }

pub export_went : (context : Context) (rules : Rules) (old mid new : Parts) (root : Root) (x y : Externs) (s : ExportStatement) (node : ℕ) → IsSound old → IsSound new → Agrees old root → ExprStep context rules old mid (numbers_of root.nodes) s.expr node
    → ExportsOf rules mid new root x y s node → StatementRun context rules old new root root x y (Statement.export_statement s)
export_went context rules old mid new root x y s node p q agrees g e =
    let imports_same : new.imports ≡ old.imports = ap (λ (p : Parts). p.imports) e.grows.same ∙ ap (λ (p : Parts). p.imports) g.extends.same in
    let exports_same : mid.exports ≡ old.exports = ap (λ (p : Parts). p.exports) g.extends.same in
    record {
      stand = record {
        agrees = agrees_still mid new root e.grows.stand e.grows.kinds (agrees_extends (packages_in context) old mid root g.extends agrees);
        placed = e.placed;
        supplied = supplied_still (packages_in context) mid new e.grows.same g.extends.supplied;
      };
      leads = λ numbering one. (
        (at (composed numbering mid root) node, g.stands numbering one, e.goes numbering (given_in numbering context rules) refl),
        export_places numbering rules old mid new root x y s node p q imports_same exports_same e,
      );
    }

-- the graph of an expression has the imports and exports that have places
pub export_placed : (context : Context) (rules : Rules) (old mid : Parts) (declared : Named ℕ) (x : Externs) (t : Expr) (node : ℕ) → ExprStep context rules old mid declared t node → ArePlaced old x → ArePlaced mid x
export_placed context rules old mid declared x t node g h = placed_still old mid x (ap (λ (p : Parts). p.imports) g.extends.same) (ap (λ (p : Parts). p.exports) g.extends.same) h

pub export_expr_breaks : (context : Context) (rules : Rules) (g : Parts) (root : Root) (x : Externs) (s : ExportStatement) (e : Error) → ExprBreaks context rules g (numbers_of root.nodes) s.expr e → Breaks context rules g root x (Statement.export_statement s) e
export_expr_breaks context rules g root x s e broken numbering one = inl (broken numbering one)

pub export_breaks : (context : Context) (rules : Rules) (old mid : Parts) (root : Root) (x : Externs) (s : ExportStatement) (node : ℕ) (e : Error) → ExprStep context rules old mid (numbers_of root.nodes) s.expr node
    → ((numbering : Numbering) (t : Expr) → expr_span t ≡ expr_span s.expr → Under rules.named (λ r. ExportOptionsBroken r (at (composed numbering mid root) node) (places_in root x) e t s.options)) → Breaks context rules old root x (Statement.export_statement s) e
export_breaks context rules old mid root x s node e g broken numbering one = inr (at (composed numbering mid root) node, g.stands numbering one, broken numbering s.expr refl (given_in numbering context rules) refl)

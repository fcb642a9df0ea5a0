-- `let` statements that are executed.
use Rattle.wac_resolution_statements.proofs.Common.{◌≡◌, ◌∙◌, ℕ, ◌++◌, inl, inr, refl, sym, ap, append-nil, Span, Named, with_named, LetStatement, Statement, Parts, Numbering, IsSound, Error, IsBound, Composition, at, names_of, Rules, imports, Places, more_at, places_after, Root, numbers_of, composed, places, Binds, Context, packages_in, ExprStep, ExprBreaks}
use Rattle.wac_resolution_statements.specs.declared.externs.Externs.{Externs}
use Rattle.wac_resolution_statements.specs.Externs.{imported_in, exported_in, places_in, ArePlaced}
use Rattle.wac_resolution_statements.specs.Statements.{StatementRun, Breaks}
use Rattle.wac_resolution_statements.proofs.Grown.{placed_still, supplied_still}
use Rattle.wac_resolution_statements.proofs.ImportedNames.{imported_same, none_more, one_more}

-- what is imported and exported is as before
same_imports : (context : Context) (rules : Rules) (old mid new : Parts) (before after : Root) (s : LetStatement) (node : ℕ) → ExprStep context rules old mid (numbers_of before.nodes) s.expr node → Binds mid new before after s.id node → new.imports ≡ old.imports
same_imports context rules old mid new before after s node g b = ap (λ (p : Parts). p.imports) b.grows.same ∙ ap (λ (p : Parts). p.imports) g.extends.same

same_exports : (context : Context) (rules : Rules) (old mid new : Parts) (before after : Root) (s : LetStatement) (node : ℕ) → ExprStep context rules old mid (numbers_of before.nodes) s.expr node → Binds mid new before after s.id node → new.exports ≡ old.exports
same_exports context rules old mid new before after s node g b = ap (λ (p : Parts). p.exports) b.grows.same ∙ ap (λ (p : Parts). p.exports) g.extends.same

let_places : (numbering : Numbering) (old mid new : Parts) (before after : Root) (x : Externs) (s : LetStatement) (node : ℕ) → IsSound old → IsSound new → new.imports ≡ old.imports → new.exports ≡ old.exports → Binds mid new before after s.id node
    → places_in after x ≡ places_after (composed numbering old before) (places_in before x) (Statement.let_statement s) (composed numbering new after)
let_places numbering old mid new before after x s node p q imported exported b =
    let declared : numbers_of after.nodes ≡ with_named (numbers_of before.nodes) s.id.string node = ap (λ (c : Composition). c.declared) (b.is numbering) in
    let bound : places after ≡ places before ++ more_at s.id.span (numbers_of before.nodes) (numbers_of after.nodes) =
    b.places ∙ ap (λ (l : Named Span). places before ++ l) (sym (ap (more_at s.id.span (numbers_of before.nodes)) declared ∙ one_more s.id.span (numbers_of before.nodes) s.id.string node)) in
    let none_imported : imported_in x ≡ imported_in x ++ more_at s.id.span (imports (composed numbering old before)) (imports (composed numbering new after)) =
    sym (ap (λ (l : Named Span). imported_in x ++ l) (none_more s.id.span (imports (composed numbering old before)) (imports (composed numbering new after)) (imported_same numbering old new (numbers_of before.nodes) (numbers_of after.nodes) p q imported)) ∙ append-nil (imported_in x)) in
    let none_exported : exported_in x ≡ exported_in x ++ more_at s.id.span old.exports new.exports =
    sym (ap (λ (l : Named Span). exported_in x ++ l) (none_more s.id.span old.exports new.exports (ap (λ (l : Named ℕ). names_of l) exported)) ∙ append-nil (exported_in x)) in
    λ i. record { bound = bound i; imported = none_imported i; exported = none_exported i }

pub let_went : (context : Context) (rules : Rules) (old mid new : Parts) (before after : Root) (s : LetStatement) (node : ℕ) → IsSound old → IsSound new → ExprStep context rules old mid (numbers_of before.nodes) s.expr node
    → Binds mid new before after s.id node → (x : Externs) → ArePlaced old x → StatementRun context rules old new before after x x (Statement.let_statement s)
let_went context rules old mid new before after s node p q g b x placed =
    let imported : new.imports ≡ old.imports = same_imports context rules old mid new before after s node g b in
    let exported : new.exports ≡ old.exports = same_exports context rules old mid new before after s node g b in
    let exports : new.exports ≡ mid.exports = ap (λ (p : Parts). p.exports) b.grows.same in
    record {
      stand = record {
        agrees = b.agrees;
        placed = placed_still old new x imported exported placed;
        supplied = supplied_still (packages_in context) mid new (b.grows.same ∙ ap (λ (l : Named ℕ). record mid { nodes = new.nodes; exports = l }) (sym exports)) g.extends.supplied;
      };
      leads = λ numbering one. ((at (composed numbering mid before) node, g.stands numbering one, b.fresh, b.is numbering), let_places numbering old mid new before after x s node p q imported exported b);
    }

pub let_expr_breaks : (context : Context) (rules : Rules) (g : Parts) (root : Root) (s : LetStatement) (e : Error) → ExprBreaks context rules g (numbers_of root.nodes) s.expr e → (x : Externs) → Breaks context rules g root x (Statement.let_statement s) e
let_expr_breaks context rules g root s e broken x numbering one = inl (broken numbering one)

pub let_bound : (context : Context) (rules : Rules) (old mid : Parts) (root : Root) (s : LetStatement) (node : ℕ) (e : Error) → ExprStep context rules old mid (numbers_of root.nodes) s.expr node
    → ((numbering : Numbering) (all : Places) → all.bound ≡ places root → IsBound (composed numbering mid root) all s.id e) → (x : Externs) → Breaks context rules old root x (Statement.let_statement s) e
let_bound context rules old mid root s node e g bound x numbering one = inr (at (composed numbering mid root) node, g.stands numbering one, bound numbering (places_in root x) refl)

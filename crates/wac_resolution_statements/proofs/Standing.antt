-- What is kept beside a graph still agrees with it as the graph gets types and packages.
use Rattle.wac_resolution_statements.proofs.Common.{◌≡◌, ◌∙◌, sym, ap, Parts, declared_count, Numbering, root_scope, with_resources, names_of, Root, numbers_of, composed, Agrees, composition_expands, Context, Expands, AllSupplied, packages_in}
use Rattle.wac_resolution_statements.specs.declared.externs.Externs.{Externs}
use Rattle.wac_resolution_statements.specs.Externs.{ArePlaced}
use Rattle.wac_resolution_state.proofs.Roots.{agrees_expands}
use Rattle.wac_resolution_statements.specs.Statements.{Stand}

-- the names at root still denote nodes and their kinds
pub agrees_kept : (old new : Parts) (root : Root) → Expands old new → Agrees old root → Agrees new root
agrees_kept old new root e h = agrees_expands old new root e.same e.held e.named h

-- the places are still those of the imports and exports
pub placed_kept : (old new : Parts) (x : Externs) → Expands old new → ArePlaced old x → ArePlaced new x
placed_kept old new x e h = record {
  imported = h.imported ∙ sym (ap (λ (g : Parts). names_of g.imports) e.same);
  exported = h.exported ∙ sym (ap (λ (g : Parts). names_of g.exports) e.same);
}

pub stand_kept : (context : Context) (old new : Parts) (root : Root) (x : Externs) → Stand context old root x → Expands old new → AllSupplied (packages_in context) new → Stand context new root x
stand_kept context old new root x h e supplied = record { agrees = agrees_kept old new root e h.agrees; placed = placed_kept old new x e h.placed; supplied = supplied }

-- the composition has at most more resources
pub composed_kept : (old new : Parts) (root : Root) (numbering : Numbering) → Expands old new → Agrees old root → composed numbering new root ≡ with_resources (composed numbering old root) (declared_count new)
composed_kept old new root numbering e h = composition_expands old new (numbers_of root.nodes) numbering e.same e.held (e.kinds numbering) h.nodes

-- the names at root still mean the same
pub scope_kept : (old new : Parts) (root : Root) (numbering : Numbering) → Expands old new → Agrees old root → root_scope (composed numbering new root) ≡ root_scope (composed numbering old root)
scope_kept old new root numbering e h = ap root_scope (composed_kept old new root numbering e h)

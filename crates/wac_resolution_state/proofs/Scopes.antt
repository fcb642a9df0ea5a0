-- What an identifier denotes among kinds is what it denotes among their meanings.
use Rattle.wac_resolution_state.proofs.Common.{◌≡◌, ◌∙◌, ℕ, List, Some, None, refl, ap, option_map, alloc_error, ItemKind, ResourceId, Named, look_up, IsFresh, Parts, means, entry_means, Numbering}
use Rattle.wac_lexer.specs.Span.{Span}
use Rattle.wac_ast_grammar.specs.Tree.{Ident, Ty}
use Rattle.wac_graph_types.specs.declared.kind.ItemKind.TheVariants as kinds
use Rattle.wac_graph_types.specs.declared.kind.«Type».TheVariants as types
use Rattle.wac_graph_types.specs.declared.kind.ValueType.{ValueType}
use Rattle.wac_graph_types.specs.declared.kind.ValueType.TheVariants as values
use Rattle.wac_graph_types.proofs.Shapes.{items_found}
use Rattle.wac_graph_types.proofs.Found.{found_named}
use Rattle.wac_resolution_errors.specs.Error.{memory}
use Rattle.wac_resolution_errors.specs.ErrorModel.{error_model}
use Rattle.wac_resolution_errors.specs.declared.error.Error.{Error as CodeError}
use Rattle.wac_resolution_errors.specs.declared.error.Error.TheVariants as errors
use Rattle.wac_resolution_state.specs.Named.{scope_of, KindIs, ValueIs}

-- an error that says that memory ran out
pub memory_model : (e : CodeError) → e ≡ errors.Memory alloc_error → error_model e ≡ memory
memory_model e is = ap error_model is

pub kind_fresh : (numbering : Numbering) (g : Parts) (ks : Named ItemKind) (name : List ℕ) → look_up name ks ≡ None → IsFresh name (scope_of numbering g ks)
kind_fresh numbering g ks name is = items_found (entry_means numbering g) ks name ∙ ap (option_map (means numbering g)) is

pub kind_is : (ks : Named ItemKind) (x : Ident) (k : ItemKind) → look_up x.string ks ≡ Some k → KindIs ks x k
kind_is ks x k is = record {
  is = λ numbering g. items_found (entry_means numbering g) ks x.string ∙ ap (option_map (means numbering g)) is;
  named = λ es h. found_named es x.string ks k h is;
}

pub ruleset kinds_found = (kind_is, kind_fresh, memory_model)

-- an identifier of a resource type denotes an owned resource
pub own_is : (ks : Named ItemKind) (x : Ident) (r : ResourceId) → KindIs ks x (kinds.Ty (types.Resource r)) → ValueIs ks (Ty.ident x) (values.Own r)
own_is ks x r h = record { is = λ numbering g. (means numbering g (kinds.Ty (types.Resource r)), h.is numbering g, refl, refl); named = h.named }

-- an identifier of a type of values denotes that type
pub value_is : (ks : Named ItemKind) (x : Ident) (v : ValueType) → KindIs ks x (kinds.Ty (types.Value v)) → ValueIs ks (Ty.ident x) v
value_is ks x v h = record { is = λ numbering g. (means numbering g (kinds.Ty (types.Value v)), h.is numbering g, refl, refl); named = h.named }

pub borrow_is : (ks : Named ItemKind) (x : Ident) (s : Span) (r : ResourceId) → KindIs ks x (kinds.Ty (types.Resource r)) → ValueIs ks (Ty.borrow x s) (values.Borrow r)
borrow_is ks x s r h = record { is = λ numbering g. (means numbering g (kinds.Ty (types.Resource r)), h.is numbering g, refl, refl); named = h.named }

pub ruleset values_found = (own_is, value_is, borrow_is, memory_model)

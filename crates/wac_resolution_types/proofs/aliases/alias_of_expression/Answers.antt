use Rattle.wac_resolution_types.proofs.Common.{◌≡◌, refl, Meaning, alias_type, ty_of, means, HasType, values_of, scope_of}
use Rattle.wac_graph_types.specs.declared.kind.ItemKind.TheVariants as kinds
use Rattle.wac_graph_types.specs.declared.entry.DefinedType.TheVariants as types
use Rattle.wac_resolution_types.proofs.DeclarationParts.{value_added}
use Rattle.wac_resolution_types.proofs.aliases.alias_of_expression.Goals as goal

pub returns-clause-ok : goal.returns-clause-ok
returns-clause-ok c =
    value_added c.args.state.now.graph c.value_type.new.state.graph c.add_defined.new.self.graph (types.Alias c.in_ok-value.value) (λ numbering m. (inner : Meaning) × HasType (scope_of numbering c.args.state.now.graph (values_of c.args.names.now)) (ty_of c.args.ty.now) inner × (m ≡ alias_type inner)) c.in_ok-add_defined.field-0
    c.in_ok-value.ensures.ok.grows c.in_ok-add_defined.ensures (λ numbering. (means numbering c.value_type.new.state.graph (kinds.Value c.in_ok-value.value), c.in_ok-value.ensures.ok.is numbering, refl))

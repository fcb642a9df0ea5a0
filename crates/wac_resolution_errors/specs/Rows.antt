-- Messages, written out.
use Rattle.std.specs.Prelude.{◌≡◌, None, Some, codes, refl}
use Rattle.wac_lexer.specs.Span.{Span}
use Rattle.wac_graph_types.specs.declared.kind.ExternKind.TheVariants.{Import}
use Rattle.wac_graph_types.specs.declared.kind.FuncKind.TheVariants.{Static}
use Rattle.wac_resolution_errors.specs.Error as rules
use Rattle.wac_resolution_errors.specs.Messages.{text_of}
use Rattle.wac_resolution_errors.specs.Shapes.{quoted, pair, kinded, kinded_within, part_of_function, missing_export, world_item, include_conflict, export_conflict, use_conflict}

one_name : (at previous : Span) → text_of (rules.duplicate_name (codes "x") at previous) ≡ codes "`x` is already defined"
unfolding quoted
one_name at previous = refl

two_names : (at : Span) → text_of (rules.duplicate_record_field (codes "x") (codes "r") at) ≡ codes "duplicate field `x` for record type `r`"
unfolding pair
two_names at = refl

no_interface : (at : Span) → text_of (rules.duplicate_interface_export (codes "x") None at) ≡ codes "duplicate interface export `x`"
unfolding quoted
no_interface at = refl

unfit : (at : Span) → text_of (rules.not_world (codes "x") (codes "instance") at) ≡ codes "`x` (instance) is not a world"
unfolding kinded
unfit at = refl

unfit_within : (at : Span) → text_of (rules.package_path_missing_export (codes "x") (codes "world") (codes "y") at) ≡ codes "`x` (world) has no export named `y`"
unfolding kinded_within
unfit_within at = refl

twice_in_a_function : (at : Span) → text_of (rules.duplicate_parameter Static (codes "x") at) ≡ codes "duplicate static method parameter `x`"
unfolding part_of_function
twice_in_a_function at = refl

deep_in_a_package : (at : Span) → text_of (rules.package_missing_export (Some (codes "instance")) (codes "a/b") (codes "p") (codes "x") at) ≡ codes "instance `a/b` in package `p` has no export named `x`"
unfolding missing_export
deep_in_a_package at = refl

twice_in_a_world : (at : Span) → text_of (rules.duplicate_world_item Import (codes "x") (codes "w") at) ≡ codes "import `x` conflicts with existing import of the same name in world `w`"
unfolding world_item
twice_in_a_world at = refl

included : (at : Span) → text_of (rules.world_include_conflict Import (codes "x") (codes "v") (codes "w") at None) ≡ codes "import `x` from world `v` conflicts with import of the same name in world `w`"
unfolding include_conflict
included at = refl

declared_and_exported : (at definition : Span) → text_of (rules.export_conflict (codes "x") (codes "world") at definition None) ≡ codes "export `x` conflicts with world definition"
unfolding export_conflict
declared_and_exported at definition = refl

used : (at : Span) → text_of (rules.use_conflict Import (codes "x") at None) ≡ codes "use of type `x` conflicts with an import of the same name"
unfolding use_conflict
used at = refl

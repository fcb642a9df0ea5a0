use Rattle.wac_resolution_expressions.proofs.Common.{by_name}
use Rattle.wac_resolution_expressions.specs.Arguments.{given_nodes}
use Rattle.wac_resolution_expressions.proofs.Imports.{Skipping}
use Rattle.wac_resolution_expressions.proofs.missing.missing_import.Given as goal

abbrev pub invariant-loop-name : goal.invariant-loop-name
invariant-loop-name l = Skipping (given_nodes (by_name l.given.entries)) (by_name l.imports.entries) (by_name l.name-iterator)

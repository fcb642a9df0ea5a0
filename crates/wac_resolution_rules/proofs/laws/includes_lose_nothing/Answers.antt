use Rattle.wac_resolution_rules.proofs.Includes.{include_keeps_imports, include_keeps_exports, imports_colons, exports_colons}
use Rattle.wac_resolution_rules.proofs.laws.includes_lose_nothing.Goals as goal

pub returns-clause-imports : goal.returns-clause-imports
returns-clause-imports c = include_keeps_imports

pub returns-clause-exports : goal.returns-clause-exports
returns-clause-exports c = include_keeps_exports

pub returns-clause-taken_imports : goal.returns-clause-taken_imports
returns-clause-taken_imports c = imports_colons

pub returns-clause-taken_exports : goal.returns-clause-taken_exports
returns-clause-taken_exports c = exports_colons

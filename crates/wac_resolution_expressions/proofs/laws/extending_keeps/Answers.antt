use Rattle.wac_resolution_expressions.proofs.Extending.{agrees_extended, given_extended, imports_extended, contents_extended, composition_same}
use Rattle.wac_resolution_expressions.proofs.laws.extending_keeps.Goals as goal

pub returns-clause-agrees : goal.returns-clause-agrees
returns-clause-agrees c = agrees_extended

pub returns-clause-given : goal.returns-clause-given
returns-clause-given c = given_extended

pub returns-clause-imports : goal.returns-clause-imports
returns-clause-imports c = imports_extended

pub returns-clause-contents : goal.returns-clause-contents
returns-clause-contents c = contents_extended

pub returns-clause-composition : goal.returns-clause-composition
returns-clause-composition c = composition_same

use Rattle.wac_resolution_rules.specs.Nodes.{imports}
use Rattle.wac_resolution_rules.proofs.FirstFailing.{leads_composes}
use Rattle.wac_resolution_rules.proofs.Places.{statements_have_places, has_place}
use Rattle.wac_resolution_rules.proofs.laws.names_have_places.Goals as goal

pub returns-clause-places : goal.returns-clause-places
returns-clause-places c = statements_have_places

pub returns-clause-bound : goal.returns-clause-bound
returns-clause-bound c = λ c p name n have stands. has_place name p.bound c.declared n have.bound stands

pub returns-clause-imported : goal.returns-clause-imported
returns-clause-imported c = λ c p name k have stands. has_place name p.imported (imports c) k have.imported stands

pub returns-clause-exported : goal.returns-clause-exported
returns-clause-exported c = λ c p name n have stands. has_place name p.exported c.exports n have.exported stands

pub returns-clause-composes : goal.returns-clause-composes
returns-clause-composes c = leads_composes

use Rattle.wac_resolution_rules.proofs.TypesOnce.{type_once, func_once}
use Rattle.wac_resolution_rules.proofs.DeclarationsOnce.{decl_once}
use Rattle.wac_resolution_rules.proofs.BodiesOnce.{leads_once}
use Rattle.wac_resolution_rules.proofs.WorldsOnce.{interface_once, world_once}
use Rattle.wac_resolution_rules.proofs.ExpressionsOnce.{expr_once}
use Rattle.wac_resolution_rules.proofs.StatementsOnce.{goes_once}
use Rattle.wac_resolution_rules.proofs.FirstFailing.{describes_once}
use Rattle.wac_resolution_rules.proofs.laws.judgements_have_one_result.Goals as goal

pub returns-clause-types : goal.returns-clause-types
returns-clause-types c = type_once

pub returns-clause-functions : goal.returns-clause-functions
returns-clause-functions c = func_once

pub returns-clause-declarations : goal.returns-clause-declarations
returns-clause-declarations c = decl_once

pub returns-clause-paths : goal.returns-clause-paths
returns-clause-paths c = leads_once

pub returns-clause-interfaces : goal.returns-clause-interfaces
returns-clause-interfaces c = interface_once

pub returns-clause-worlds : goal.returns-clause-worlds
returns-clause-worlds c = world_once

pub returns-clause-expressions : goal.returns-clause-expressions
returns-clause-expressions c = expr_once

pub returns-clause-statements : goal.returns-clause-statements
returns-clause-statements c = goes_once

pub returns-clause-documents : goal.returns-clause-documents
returns-clause-documents c = describes_once

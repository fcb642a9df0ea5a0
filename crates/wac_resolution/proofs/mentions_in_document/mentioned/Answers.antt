use Rattle.wac_resolution.proofs.Common.{◌∙◌, flat_map, map, option_map, statement_of, package_path_of, statement_mentions, target_mentions}
use Rattle.wac_resolution.proofs.Noting.{in_all}
use Rattle.wac_resolution.proofs.mentions_in_document.mentioned.Goals as goal

pub returns : goal.returns
returns c =
    c.into_first.ensures
    ∙ in_all c.args.directive.now.«package».name.now (λ own. target_mentions own (option_map package_path_of c.args.directive.now.targets)) (λ own. flat_map (statement_mentions own) (map statement_of c.args.statements))
    c.new-mentions.result c.target.new.mentions c.all_statements.new.mentions c.new-mentions.ensures.own c.new-mentions.ensures.none c.in_ok-target.ensures c.in_ok-all_statements.ensures

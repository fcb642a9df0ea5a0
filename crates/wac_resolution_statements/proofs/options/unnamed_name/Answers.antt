use Rattle.wac_resolution_statements.proofs.Common.{◌≡◌, ◌∙◌, Some, sym, ap, rules, inr, string_bytes}
use Rattle.wac_resolution_statements.proofs.Unnamed.{is_unnamed}
use Rattle.wac_resolution_statements.proofs.options.unnamed_name.Goals as goal

pub returns-in_ok-from_str-in-Some-clause-ok : goal.returns-in_ok-from_str-in-Some-clause-ok
returns-in_ok-from_str-in-Some-clause-ok c numbering declared =
    let copied : string_bytes c.in_ok-from_str-in-Some.field-0 ≡ c.in-Some.name.now = search rules in
    c.in-Some.ensures numbering declared ∙ ap Some (sym copied)

pub returns-in-None-clause-err : goal.returns-in-None-clause-err
returns-in-None-clause-err c = inr (is_unnamed c.args.state.now.graph c.args.node.0 c.args.span c.requires c.in-None.ensures)

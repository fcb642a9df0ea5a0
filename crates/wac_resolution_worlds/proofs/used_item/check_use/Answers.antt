use Rattle.wac_resolution_worlds.proofs.Common.{sym, rules, inr, option_map, ident_of, use_item_of, means, lists_of, body_of}
use Rattle.wac_resolution_worlds.proofs.UsedItems.{use_stands, use_conflicts}
use Rattle.wac_resolution_worlds.proofs.used_item.check_use.Goals as goal

pub returns-in_ok-from_str-in-Some-clause-err : goal.returns-in_ok-from_str-in-Some-clause-err
returns-in_ok-from_str-in-Some-clause-err c = inr (λ numbering g.
    use_conflicts c.args.side (body_of numbering g c.args.body.now) (use_item_of c.args.item.now) (ident_of c.used_as-id.result.now) (option_map (λ t. t.now) c.help_of_use.result) (means numbering g c.in-Some.field-0) _
    c.used_as-id.ensures c.help_of_use.ensures (use_stands numbering g c.args.side (lists_of c.args.body.now) (use_item_of c.args.item.now) (ident_of c.used_as-id.result.now) c.in-Some.field-0 c.used_as-id.ensures (sym c.in-Some.ensures)) (search rules))

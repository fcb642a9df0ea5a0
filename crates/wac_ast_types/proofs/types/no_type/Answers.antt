use Rattle.wac_ast_types.proofs.Common.{refl, left, looks, looks_on, looks_fail, none_found}
use Rattle.wac_ast_types.proofs.TypeParts.{no_type_reads}
use Rattle.wac_ast_types.proofs.types.no_type.Goals as goal

pub returns : goal.returns
returns c =
    let l = c.args.lexer.now in
    let begun = looks l _ c.new-lookahead.ensures in
    let tried = looks_on l _ _ _ _ c.peek.result begun c.peek.ensures (none_found l _ _ _ _ c.peek.result begun c.peek.ensures c.requires) in
    looks_fail l _ _ _ _ c.error.result _ tried c.error.ensures refl (no_type_reads (left l) c.requires)

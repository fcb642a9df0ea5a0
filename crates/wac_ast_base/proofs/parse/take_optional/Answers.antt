use Rattle.wac_ast_base.proofs.Common.{inr, ◌∙◌, err_from_is_err_and}
use Rattle.std.proofs.Common.{sym}
use Rattle.wac_ast_base.specs.Error.{told_by}
use Rattle.wac_ast_base.proofs.Taken.{fault_refused}
use Rattle.wac_ast_base.proofs.parse.take_optional.Goals as goal

pub returns-in_err-refuse_fault-clause-takes : goal.returns-in_err-refuse_fault-clause-takes
returns-in_err-refuse_fault-clause-takes c =
    let p = err_from_is_err_and c.from_residual-in_err-refuse_fault.result c.from_residual-in_err-refuse_fault.ensures.1 in
    let fault = fault_refused c.args.lexer.now c.args.expected (told_by c.in_err-refuse_fault.field-0.0) c.in_err-refuse_fault.ensures in
    rw (p.1, p.2) (inr (sym c.at.ensures ∙ c.if-at.false, fault.0, fault.1))

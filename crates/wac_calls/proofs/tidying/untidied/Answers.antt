use Rattle.std.proofs.Common.{subst}
use Rattle.wac_ast_base.specs.Error.{told_by}
use Rattle.wac_comments.specs.Errors.{IsErrorOf}
use Rattle.wac_calls.proofs.Faults.{tidy_fault, tidy_not_kept}
use Rattle.wac_calls.proofs.tidying.untidied.Goals as goal

pub returns-in-Parse : goal.returns-in-Parse
returns-in-Parse c = λ source is.
    tidy_fault source (told_by c.in-Parse.error) c.unparsed.result (subst (λ e. IsErrorOf source e) c.in-Parse.is is) c.unparsed.ensures

pub returns-in-NestedTooDeep : goal.returns-in-NestedTooDeep
returns-in-NestedTooDeep c = λ source is. subst (λ e. IsErrorOf source e) c.in-NestedTooDeep.is is

pub returns-in-NotKept : goal.returns-in-NotKept
returns-in-NotKept c = λ source _. tidy_not_kept source c.not_kept.result c.not_kept.ensures

use Rattle.wac_ast_base.proofs.Common.{ap, ◌∙◌, Ok, err_from_is_err_and, left, reads_version, unversioned, version_of}
use Rattle.std.proofs.Common.{sym}
use Rattle.wac_ast_base.specs.Answer.{first_item, end_of_input}
use Rattle.wac_ast_base.proofs.Taken.{token_fails, version_fails, package_taken, span_of}
use Rattle.wac_ast_base.proofs.version.take_package.Goals as goal

pub returns-in_err-span-clause-takes : goal.returns-in_err-span-clause-takes
returns-in_err-span-clause-takes c =
    let p = err_from_is_err_and c.from_residual.result c.from_residual.ensures.1 in
    rw (p.1, p.2) (token_fails c.in_err-span.field-0.0 c.args.lexer.now c.args.expected c.in_err-span.ensures.refused.0 c.in_err-span.ensures.refused.1)

pub returns-in_err-name-clause-takes : goal.returns-in_err-name-clause-takes
returns-in_err-name-clause-takes c =
    let p = err_from_is_err_and c.from_residual-in_err-name.result c.from_residual-in_err-name.ensures.1 in
    let text = c.in_ok-span.ensures.text ∙ sym c.source-text.ensures in
    rw (p.1, p.2) (version_fails c.in_err-name.field-0.0 (end_of_input c.args.lexer.now) c.args.expected (left c.args.lexer.now) c.in_ok-span.span c.requires c.in_ok-span.ensures.ok (rw text c.in_err-name.ensures.refused))

pub returns-clause-takes : goal.returns-clause-takes
returns-clause-takes c =
    let text = c.in_ok-span.ensures.text ∙ sym c.source-text.ensures in
    let here = c.in_ok-span.ensures.ok in (
      package_taken c.args.expected (left c.args.lexer.now) c.in_ok-span.span c.requires here (ap reads_version text ∙ c.in_ok-name.ensures.reads) ∙ ap (λ l. Ok (first_item (left c.args.lexer.now), l)) (sym c.in_ok-span.ensures.rest),
      span_of c.args.expected (left c.args.lexer.now) c.in_ok-span.span here,
      sym text,
      c.in_ok-name.ensures.name ∙ ap unversioned (sym text),
      c.in_ok-name.ensures.version ∙ ap version_of (sym text),
      c.in_ok-span.ensures.end,
    )

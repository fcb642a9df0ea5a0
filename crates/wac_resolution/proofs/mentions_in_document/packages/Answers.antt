use Rattle.wac_resolution.proofs.Common.{◌≡◌, ◌∙◌, List, ap, map, subst, document_of, statement_of}
use Rattle.std.proofs.Common.{sym}
use Rattle.std.proofs.lemmas.Result.{IfOk-weaker}
use Rattle.wac_ast_statements.specs.Statements.{directive_of}
use Rattle.wac_ast.specs.declared.statement.Statement.{Statement}
use Rattle.wac_resolution.specs.Ascending.{AscendInTexts}
use Rattle.wac_resolution.specs.FirstMentions.{first_mentions}
use Rattle.wac_resolution.specs.Noted.{mentioned_by, mentions_in}
use Rattle.wac_resolution.specs.Packages.{OnlyTheseMatter}
use Rattle.wac_resolution.proofs.mentions_in_document.packages.Goals as goal

pub returns-clause-matter : goal.returns-clause-matter
returns-clause-matter c =
    let whole = c.args.document.now in
    let directive = directive_of whole.directive in
    let law = c.only_first_mentions_matter.ensures.matter (document_of whole) in
    let lent = ap (λ (l : List Statement). first_mentions (mentioned_by directive (map statement_of l))) c.deref.ensures.value in
    IfOk-weaker c.mentioned.result (λ m. mentions_in m.entries ≡ first_mentions (mentioned_by directive (map statement_of c.deref.result.now))) (λ m. OnlyTheseMatter (document_of whole) (mentions_in m.entries))
    (λ m is. subst (OnlyTheseMatter (document_of whole)) (sym (is ∙ lent)) law) c.mentioned.ensures

pub returns-clause-order : goal.returns-clause-order
returns-clause-order c =
    let whole = c.args.document.now in
    let directive = directive_of whole.directive in
    let lent = ap (λ (l : List Statement). first_mentions (mentioned_by directive (map statement_of l))) c.deref.ensures.value in
    IfOk-weaker c.mentioned.result (λ m. mentions_in m.entries ≡ first_mentions (mentioned_by directive (map statement_of c.deref.result.now))) (λ m. AscendInTexts (document_of whole) (mentions_in m.entries))
    (λ m is. subst (AscendInTexts (document_of whole)) (sym (is ∙ lent)) (c.mentions_stand_in_order.ensures.first (document_of whole))) c.mentioned.ensures

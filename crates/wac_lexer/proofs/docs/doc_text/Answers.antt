use Rattle.wac_lexer.proofs.Common.{◌≡◌, ◌++◌, ◌-◌, take, drop, length, codes, sym, ap, ◌∙◌, subst, Some, trim}
use Rattle.wac_lexer.proofs.Trimmed.{block_text, block_none}
use Rattle.wac_lexer.proofs.docs.doc_text.Goals as goal

pub returns-in_err-text : goal.returns-in_err-text
returns-in_err-text c =
    let comment = c.args.comment.now in
    let block = c.in_ok-block.ensures.cases in
    let three : block.0 ≡ 3 = block.1.0 in
    let begins : comment ≡ codes "/**" ++ drop 3 comment = subst (λ n. comment ≡ codes "/**" ++ drop n comment) three block.1.1 in
    let is : c.in_ok-block.block.now ≡ drop 3 comment = block.2 ∙ ap (λ n. drop n comment) three in
    rw c.from_residual-in_err-text.ensures
    (block_none comment c.in_default.ensures.cases begins (λ front e. c.in_err-text.ensures.cases front (is ∙ e)))

pub returns : goal.returns
returns c =
    let comment = c.args.comment.now in
    let block = c.in_ok-block.ensures.cases in
    let three : block.0 ≡ 3 = block.1.0 in
    let begins : comment ≡ codes "/**" ++ drop 3 comment = subst (λ n. comment ≡ codes "/**" ++ drop n comment) three block.1.1 in
    let is : c.in_ok-block.block.now ≡ drop 3 comment = block.2 ∙ ap (λ n. drop n comment) three in
    let text = c.in_ok-text.ensures.cases in
    let two : text.0 ≡ 2 = text.1.0 in
    let inner : c.in_ok-text.text.now ≡ take (length (drop 3 comment) - 2) (drop 3 comment) =
    text.2 ∙ ap (λ n. take (length c.in_ok-block.block.now - n) c.in_ok-block.block.now) two ∙ ap (λ t. take (length t - 2) t) is in
    block_text comment c.in_default.ensures.cases begins (take (length c.in_ok-block.block.now - text.0) c.in_ok-block.block.now) (sym is ∙ text.1.1)
    ∙ ap (λ t. Some (trim t)) (sym inner) ∙ ap Some (sym c.trim-2.ensures.trim)

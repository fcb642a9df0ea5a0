use Rattle.wac_ast_base.proofs.Common.{◌<◌, ◌∷◌, [], ℕ, ap, subst, ◌∙◌, left}
use Rattle.std.proofs.Common.{sym}
use Rattle.wac_ast_base.specs.Lookahead.{told_of}
use Rattle.wac_ast_base.proofs.Lookaheads.{looks, looks_on, peeks_one, none_found, one_test, counted}
use Rattle.wac_ast_base.proofs.delimited.no_item.Goals as goal

pub error-requires : goal.error-requires
error-requires g c =
    let l = c.args.lexer.now in
    let begun = looks l _ c.new-lookahead.ensures in
    let first = peeks_one c.args.close c.peek.result _ _ c.peek.ensures.found c.peek.ensures.kept in
    let closed = none_found l [] (c.args.close ∷ []) _ _ c.peek.result begun first (one_test c.args.close (left l) _ c.requires.open) in
    let more = looks_on l [] (c.args.close ∷ []) _ _ c.peek.result begun first closed in
    let none = none_found l (c.args.close ∷ []) g.T.Peek.firsts _ _ c.peek-2.result more c.peek-2.ensures c.requires.none in
    let all = looks_on l (c.args.close ∷ []) g.T.Peek.firsts _ _ c.peek-2.result more c.peek-2.ensures none in
    subst (λ (n : ℕ). 0 < n) (sym (ap (λ a. a.count) all.is)) (counted c.args.close g.T.Peek.firsts l)

pub returns : goal.returns
returns g c =
    let l = c.args.lexer.now in
    let begun = looks l _ c.new-lookahead.ensures in
    let first = peeks_one c.args.close c.peek.result _ _ c.peek.ensures.found c.peek.ensures.kept in
    let closed = none_found l [] (c.args.close ∷ []) _ _ c.peek.result begun first (one_test c.args.close (left l) _ c.requires.open) in
    let more = looks_on l [] (c.args.close ∷ []) _ _ c.peek.result begun first closed in
    let none = none_found l (c.args.close ∷ []) g.T.Peek.firsts _ _ c.peek-2.result more c.peek-2.ensures c.requires.none in
    let all = looks_on l (c.args.close ∷ []) g.T.Peek.firsts _ _ c.peek-2.result more c.peek-2.ensures none in
    c.error.ensures ∙ ap told_of all.is

use Rattle.std.proofs.Common.{◌≡◌, sym, ◌∙◌, subst, ℕ, ◌+◌, List, length, true, false, None}
use Rattle.wac_lexer.specs.Characters.{refused}
use Rattle.wac_lexer.specs.Items.{items}
use Rattle.wac_ast_grammar.specs.Arguments.{EndsArgued}
use Rattle.wac_ast_grammar.specs.Grammar.{document}
use Rattle.wac_ast_grammar.specs.Viable.{Viable}
use Rattle.wac_completion.specs.Standing.{Reads, tried}
use Rattle.wac_completion.proofs.Ends.{decided, yes}
use Rattle.wac_completion.proofs.begun.is_begun.Goals as goal

pub returns : goal.returns
returns c =
    let all = c.as_str.result.now in
    let is : all ≡ tried c.args.text.now c.args.kind c.args.next = c.as_str.ensures.value ∙ c.in_ok-all.ensures in
    let reads = yes (Reads all (length c.args.text.now + 1) c.args.kind c.args.next) c.reads-is_read.result c.reads-is_read.ensures c.if-not-is_read.false in
    let again : c.as_str-2.result.now ≡ all = c.as_str-2.ensures.value ∙ sym c.as_str.ensures.value in
    decided c.args.text.now all c.args.kind c.args.next is c.in_ok-found.found reads c.requires
    (subst (λ (a : List ℕ). c.in_ok-found.found ≡ true → Viable document (items a)) again c.in_ok-found.ensures.yes)
    (subst (λ (a : List ℕ). c.in_ok-found.found ≡ false → refused a ≡ None → Viable document (items a) → EndsArgued document (items a)) again c.in_ok-found.ensures.no)

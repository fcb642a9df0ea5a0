-- The last parts of productions, and what they give.
use Rattle.std.specs.Prelude.{List, [], Option, Some, None}
use Rattle.std.proofs.Common.{inl, inr}
use Rattle.wac_lexer.specs.declared.token.Token.TheVariants as t
use Rattle.wac_ast_grammar.specs.Tree.{ResourceMethod, Ty}
use Rattle.wac_ast_grammar.specs.Grammar.{Grammar, Parts, token, sym, optional, methods, ty, ◌▸◌, ◌¦◌}

-- the methods of a resource, or a semicolon
abbrev pub resource_tail : Grammar
resource_tail = token t.Semicolon ¦ token t.OpenBrace ▸ sym methods

abbrev pub tail_methods : Parts resource_tail → List ResourceMethod
tail_methods (inl semicolon) = []
tail_methods (inr p) = p.1.0

-- what a case holds
abbrev pub case_tail : Grammar
case_tail = optional (token t.OpenParen ▸ sym ty ▸ token t.CloseParen)

abbrev pub held_type : Parts case_tail → Option Ty
held_type (inl p) = Some p.1.0
held_type (inr none) = None

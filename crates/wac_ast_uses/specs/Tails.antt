-- Parts of productions, and what they give.
use Rattle.std.specs.Prelude.{List, []}
use Rattle.std.proofs.Common.{inl, inr}
use Rattle.wac_lexer.specs.declared.token.Token.TheVariants as t
use Rattle.wac_ast_grammar.specs.Tree.{UseItem, WorldIncludeItem}
use Rattle.wac_ast_grammar.specs.Grammar.{use_items, include_items, Grammar, Parts, token, sym, optional, ◌▸◌, list_items}

-- the items of a use, and the semicolon
abbrev pub use_tail : Grammar
use_tail = token t.OpenBrace ▸ sym (list_items use_items) ▸ token t.Semicolon

abbrev pub tail_items : Parts use_tail → List UseItem
tail_items p = p.1.0.0

-- the new names of an inclusion
abbrev pub with_part : Grammar
with_part = optional (token t.WithKeyword ▸ token t.OpenBrace ▸ sym (list_items include_items))

abbrev pub with_items : Parts with_part → List WorldIncludeItem
with_items (inl p) = p.1.1.0
with_items (inr none) = []

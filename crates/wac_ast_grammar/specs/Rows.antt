-- Some texts' items, by computation: the tree that is read of them, or what a rejection names.
use Rattle.std.specs.Prelude.{◌≡◌, ℕ, List, [], ◌∷◌, map, length, Option, Some, None, Result, Ok, Err, codes, refl}
use Rattle.wac_lexer.specs.Span.{span}
use Rattle.wac_lexer.specs.Item.{Item}
use Rattle.wac_lexer.specs.declared.token.Token.{Token}
use Rattle.wac_lexer.specs.declared.token.Token.TheVariants as t
use Rattle.wac_ast_grammar.specs.Tree.{Statement, Expr, PrimaryExpr, PostfixExpr}
use Rattle.wac_ast_grammar.specs.Grammar.{document, variant_body, TreeOf}
use Rattle.wac_ast_grammar.specs.Reading.{Tried, can, closes, follows, Stop, Why, empty_body, told, read}

abbrev item : Token → List ℕ → ℕ → Item
item k text offset = record { token = Ok k; text = text; span = span offset (length text); docs = [] }

-- `package a:b;`
abbrev package_a_b : List Item → List Item
package_a_b others = item t.PackageKeyword (codes "package") 0 ∷ item t.PackageName (codes "a:b") 8 ∷ item t.Semicolon (codes ";") 11 ∷ others

abbrev statements_of : Result (TreeOf document × List Item) Stop → List Statement
statements_of (Ok x) = x.0.statements
statements_of (Err s) = []

abbrev names : Result (TreeOf document × List Item) Stop → List Tried
names (Ok x) = []
names (Err s) = s.expected

abbrev why : Result (TreeOf document × List Item) Stop → Option Why
why (Ok x) = None
why (Err s) = Some s.why

-- `let x = y.z;`
let_is_read : statements_of (read document (package_a_b (item t.LetKeyword (codes "let") 13 ∷ item t.Ident (codes "x") 17 ∷ item t.Equals (codes "=") 19 ∷ item t.Ident (codes "y") 21 ∷ item t.Dot (codes ".") 22 ∷ item t.Ident (codes "z") 23 ∷ item t.Semicolon (codes ";") 24 ∷ [])))
    ≡ Statement.let_statement (record {
      docs = [];
      id = record { string = codes "x"; span = span 17 1 };
      expr = Expr.expr (span 21 3) (PrimaryExpr.ident (record { string = codes "y"; span = span 21 1 })) (PostfixExpr.access (record { span = span 22 2; id = record { string = codes "z"; span = span 23 1 } }) ∷ []);
    })
    ∷ []
unfolding read
let_is_read = refl

-- the empty text
empty_text : names (read document []) ≡ can t.PackageKeyword ∷ []
unfolding read
empty_text = refl

-- `record r { x:u32 }`, where `x:u32` is a package name
package_in_record : names (read document (package_a_b (item t.RecordKeyword (codes "record") 13 ∷ item t.Ident (codes "r") 20 ∷ item t.OpenBrace (codes "{") 22 ∷ item t.PackageName (codes "x:u32") 24 ∷ []))) ≡ closes t.CloseBrace ∷ can t.Ident ∷ []
unfolding read
package_in_record = refl

-- `record r { x: u32`, and the end
open_record : names (read document (package_a_b (item t.RecordKeyword (codes "record") 13 ∷ item t.Ident (codes "r") 20 ∷ item t.OpenBrace (codes "{") 22 ∷ item t.Ident (codes "x") 24 ∷ item t.Colon (codes ":") 25 ∷ item t.U32Keyword (codes "u32") 27 ∷ []))) ≡ can t.CloseBrace ∷ follows t.Ident ∷ []
unfolding read
open_record = refl

-- `variant v {}`
empty_variant : why (read document (package_a_b (item t.VariantKeyword (codes "variant") 13 ∷ item t.Ident (codes "v") 21 ∷ item t.OpenBrace (codes "{") 23 ∷ item t.CloseBrace (codes "}") 24 ∷ []))) ≡ Some (empty_body variant_body)
unfolding read
empty_variant = refl

-- `let x = new c:d { "e" };`
string_alone : why (read document (package_a_b (item t.LetKeyword (codes "let") 13 ∷ item t.Ident (codes "x") 17 ∷ item t.Equals (codes "=") 19 ∷ item t.NewKeyword (codes "new") 21 ∷ item t.PackageName (codes "c:d") 25 ∷ item t.OpenBrace (codes "{") 29 ∷ item t.String (codes "\"e\"") 31 ∷ item t.CloseBrace (codes "}") 35 ∷ item t.Semicolon (codes ";") 36 ∷ [])))
    ≡ Some (told (item t.String (codes "\"e\"") 31))
unfolding read
string_alone = refl

-- `;` after a directive
no_statement : names (read document (package_a_b (item t.Semicolon (codes ";") 12 ∷ []))) ≡ map can (t.ImportKeyword ∷ t.LetKeyword ∷ t.ExportKeyword ∷ t.InterfaceKeyword ∷ t.WorldKeyword ∷ t.VariantKeyword ∷ t.RecordKeyword ∷ t.FlagsKeyword ∷ t.EnumKeyword ∷ t.TypeKeyword ∷ [])
unfolding read
no_statement = refl

-- `world w { ;`
no_world_item : names (read document (package_a_b (item t.WorldKeyword (codes "world") 13 ∷ item t.Ident (codes "w") 19 ∷ item t.OpenBrace (codes "{") 21 ∷ item t.Semicolon (codes ";") 23 ∷ [])))
    ≡ map can (t.CloseBrace ∷ t.UseKeyword ∷ t.ImportKeyword ∷ t.ExportKeyword ∷ t.IncludeKeyword ∷ t.ResourceKeyword ∷ t.VariantKeyword ∷ t.RecordKeyword ∷ t.FlagsKeyword ∷ t.EnumKeyword ∷ t.TypeKeyword ∷ [])
unfolding read
no_world_item = refl

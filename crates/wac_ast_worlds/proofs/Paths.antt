-- A path of a world's item, by what follows its identifier.
use Rattle.wac_ast_worlds.proofs.Common.{◌≡◌, List, [], ◌∷◌, Bool, true, false, cond, refl, Reading, left, Looked, Peeks, Looks, looks_on, tests, Item, after_first_item, Ident, NamedWorldItem, WorldItemPath, identifier, world_item_path, named_world_item, mapped, read, begins, at_one_of}
use Rattle.wac_lexer.specs.declared.token.Token.{Token}
use Rattle.wac_lexer.specs.declared.token.Token.TheVariants as t
use Rattle.wac_ast_grammar.specs.Tokens.{at, is_token}
use Rattle.wac_ast_grammar.proofs.Bodies.{is_ok_token}
use Rattle.wac_ast_grammar.proofs.Ahead.{path_named, path_ident}

one : (b : Bool) → cond b true false ≡ true → b ≡ true
one true h = refl
one false h = absurd cc

-- an identifier and a colon
pub path_with_type : (xs : List Item) → at_one_of (begins identifier) xs ≡ true → at t.Colon (after_first_item xs) ≡ true → read world_item_path xs ≡ mapped {A = NamedWorldItem} {B = WorldItemPath} WorldItemPath.named (read named_world_item xs)
path_with_type [] h k = absurd cc
path_with_type (x ∷ []) h k = absurd cc
path_with_type (x ∷ y ∷ xs) h k = path_named x y xs (is_ok_token t.Ident x.token (one (is_token t.Ident x.token) h)) (is_ok_token t.Colon y.token k)

-- an identifier alone
pub path_without_type : (xs : List Item) → at_one_of (begins identifier) xs ≡ true → at t.Colon (after_first_item xs) ≡ false → read world_item_path xs ≡ mapped {A = Ident} {B = WorldItemPath} WorldItemPath.ident (read identifier xs)
path_without_type [] h k = absurd cc
path_without_type (x ∷ xs) h k = path_ident x xs (is_ok_token t.Ident x.token (one (is_token t.Ident x.token) h)) k

-- the second of two looks finds its tokens
pub at_name : {l : Reading} {js ks : List Token} {look new newer : Looked} {found met : Bool} → Looks l [] look → Peeks js found look new → found ≡ false → Peeks ks met new newer → met ≡ true → at_one_of ks (left l) ≡ true
at_name looks first missed second is = tests _ _ _ _ _ _ _ (looks_on _ _ _ _ _ _ looks first missed) second is

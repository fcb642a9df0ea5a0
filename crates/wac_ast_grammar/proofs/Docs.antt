-- The docs before a production are those of its first item.
use Rattle.wac_ast_grammar.proofs.Common.{◌≡◌, ◌<◌, arith, length, false, List, [], ◌∷◌, Ok, Token, Item, Doc, OnFirst}
use Rattle.wac_ast_grammar.specs.Grammar.{Sym, TreeOf, docs_of}
use Rattle.wac_ast_grammar.specs.Reading.{read_token, read, empty}
use Rattle.wac_ast_grammar.proofs.Fixed.{takes_some}

pub docs_of_token : (xs : List Item) (ds : List Doc) (k : Token) (x : Item) (rest : List Item) → OnFirst xs (λ x. x.docs ≡ ds) → read_token [] k xs ≡ Ok (x, rest) → docs_of xs ≡ ds
docs_of_token [] ds k x rest first h = absurd cc
docs_of_token (y ∷ ys) ds k x rest first h = first

pub docs_of_sym : (s : Sym) (xs : List Item) (ds : List Doc) (t : TreeOf s) (rest : List Item) → OnFirst xs (λ x. x.docs ≡ ds) → read s xs ≡ Ok (t, rest) → empty s ≡ false → docs_of xs ≡ ds
docs_of_sym s [] ds t rest first h e = absurd (let k : length rest < length {A = Item} [] = takes_some s [] t rest h e in omega arith)
docs_of_sym s (y ∷ ys) ds t rest first h e = first

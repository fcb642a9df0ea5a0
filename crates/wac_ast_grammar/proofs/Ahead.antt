-- Parts that are told apart by the item after the next.
use Rattle.std.proofs.Common.{◌≡◌, List, [], ◌∷◌, Result, Ok, Err, false, refl, sym as back, ap, ◌∙◌, ◌⊎◌, inl, inr}
use Rattle.wac_lexer.specs.declared.token.Token.TheVariants as t
use Rattle.wac_ast_grammar.proofs.Common.{Item}
use Rattle.wac_ast_grammar.specs.Tokens.{at}
use Rattle.wac_ast_grammar.specs.Tree.{Ident, Expr, InstantiationArgument, InstantiationArgumentName, NamedInstantiationArgument, ExternType, WorldItemPath}
use Rattle.wac_ast_grammar.specs.Grammar.{Parts, build, rule, argument, named_argument, argument_name, identifier, string, expr, string_of, world_item_path, named_world_item, extern_type}
use Rattle.wac_ast_grammar.specs.Reading.{Stop, can, told, mapped, pair_with, read}
use Rattle.wac_ast_grammar.proofs.Fixed.{read_is}

abbrev pub ReadOf : Type 0 → Type 0
ReadOf A = Result (A × List Item) Stop

abbrev pub named : NamedInstantiationArgument → InstantiationArgument
named x = InstantiationArgument.named x.name x.expr

abbrev ident_of : Item → Ident
ident_of x = build identifier x

abbrev of_ident : Item → Item → ReadOf Expr → ReadOf (Parts (rule argument))
of_ident x y m = mapped {B = Parts (rule argument)} inr (mapped {A = Ident × ((Item × Expr) ⊎ Unit {0})} {B = (Ident × ((Item × Expr) ⊎ Unit {0})) ⊎ (Item × (Item × Expr))} inl (pair_with (ident_of x) (mapped {A = Item × Expr} {B = (Item × Expr) ⊎ Unit {0}} inl (pair_with y m))))

-- an identifier and a colon
pub argument_named : (x y : Item) (xs : List Item) → x.token ≡ Ok t.Ident → y.token ≡ Ok t.Colon → read argument (x ∷ y ∷ xs) ≡ mapped named (read named_argument (x ∷ y ∷ xs))
argument_named x y xs h k =
    let one : read argument (x ∷ y ∷ xs) ≡ mapped (build argument) (of_ident x y (read expr xs)) = read_is argument (x ∷ y ∷ xs) ∙ rw (h, read_is identifier, k) refl in
    let two : read named_argument (x ∷ y ∷ xs) ≡ mapped (build named_argument) (pair_with (InstantiationArgumentName.ident (ident_of x)) (pair_with y (read expr xs))) = read_is named_argument (x ∷ y ∷ xs) ∙ rw (read_is argument_name, h, read_is identifier, k) refl in
    one ∙ go (read expr xs) ∙ ap (mapped named) (back two)
  where
    go : (m : ReadOf Expr) → mapped (build argument) (of_ident x y m) ≡ mapped named (mapped (build named_argument) (pair_with (InstantiationArgumentName.ident (ident_of x)) (pair_with y m)))
    go (Ok e) = refl
    go (Err s) = refl

abbrev of_string : Item → Item → ReadOf Expr → ReadOf (Parts (rule argument))
of_string x y m = mapped {B = Parts (rule argument)} inr (mapped {A = Item × (Item × Expr)} {B = (Ident × ((Item × Expr) ⊎ Unit {0})) ⊎ (Item × (Item × Expr))} inr (pair_with x (pair_with y m)))

-- a string and a colon
pub argument_of_string : (x y : Item) (xs : List Item) → x.token ≡ Ok t.String → y.token ≡ Ok t.Colon → read argument (x ∷ y ∷ xs) ≡ mapped named (read named_argument (x ∷ y ∷ xs))
argument_of_string x y xs h k =
    let one : read argument (x ∷ y ∷ xs) ≡ mapped (build argument) (of_string x y (read expr xs)) = read_is argument (x ∷ y ∷ xs) ∙ rw (h, k) refl in
    let two : read named_argument (x ∷ y ∷ xs) ≡ mapped (build named_argument) (pair_with (InstantiationArgumentName.string (string_of x)) (pair_with y (read expr xs))) = read_is named_argument (x ∷ y ∷ xs) ∙ rw (read_is argument_name, h, read_is string, k) refl in
    one ∙ go (read expr xs) ∙ ap (mapped named) (back two)
  where
    go : (m : ReadOf Expr) → mapped (build argument) (of_string x y m) ≡ mapped named (mapped (build named_argument) (pair_with (InstantiationArgumentName.string (string_of x)) (pair_with y m)))
    go (Ok e) = refl
    go (Err s) = refl

-- an identifier alone
pub argument_inferred : (x : Item) (xs : List Item) → x.token ≡ Ok t.Ident → at t.Colon xs ≡ false → read argument (x ∷ xs) ≡ mapped InstantiationArgument.inferred (read identifier (x ∷ xs))
argument_inferred x xs h k = read_is argument (x ∷ xs) ∙ rw (h, read_is identifier, k) refl

-- a string alone is reported
pub argument_told : (x : Item) (xs : List Item) → x.token ≡ Ok t.String → at t.Colon xs ≡ false → read argument (x ∷ xs) ≡ Err (record { left = xs; expected = can t.Ident ∷ []; why = told x })
argument_told x xs h k = read_is argument (x ∷ xs) ∙ rw (h, k) refl

abbrev of_path : Item → Item → ReadOf ExternType → ReadOf (Parts (rule world_item_path))
of_path x y m = mapped {B = Parts (rule world_item_path)} inr (pair_with (ident_of x) (mapped {A = Item × ExternType} {B = (Item × ExternType) ⊎ Unit {0}} inl (pair_with y m)))

-- a path of a world's item: an identifier and a colon
pub path_named : (x y : Item) (xs : List Item) → x.token ≡ Ok t.Ident → y.token ≡ Ok t.Colon → read world_item_path (x ∷ y ∷ xs) ≡ mapped WorldItemPath.named (read named_world_item (x ∷ y ∷ xs))
path_named x y xs h k =
    let one : read world_item_path (x ∷ y ∷ xs) ≡ mapped (build world_item_path) (of_path x y (read extern_type xs)) = read_is world_item_path (x ∷ y ∷ xs) ∙ rw (h, read_is identifier, k) refl in
    let two : read named_world_item (x ∷ y ∷ xs) ≡ mapped (build named_world_item) (pair_with (ident_of x) (pair_with y (read extern_type xs))) = read_is named_world_item (x ∷ y ∷ xs) ∙ rw (read_is identifier, h, k) refl in
    one ∙ go (read extern_type xs) ∙ ap (mapped WorldItemPath.named) (back two)
  where
    go : (m : ReadOf ExternType) → mapped (build world_item_path) (of_path x y m) ≡ mapped WorldItemPath.named (mapped (build named_world_item) (pair_with (ident_of x) (pair_with y m)))
    go (Ok e) = refl
    go (Err s) = refl

-- an identifier alone
pub path_ident : (x : Item) (xs : List Item) → x.token ≡ Ok t.Ident → at t.Colon xs ≡ false → read world_item_path (x ∷ xs) ≡ mapped WorldItemPath.ident (read identifier (x ∷ xs))
path_ident x xs h k = read_is world_item_path (x ∷ xs) ∙ rw (h, read_is identifier, k) refl

-- Lists of trees of values, printed from the values.
use Rattle.wac_ast_grammar.specs.Walk.{walk_world_include_item}
use Rattle.wac_printer.proofs.Common.{◌≡◌, ℕ, List, [], ◌∷◌, ◌++◌, map, refl, ap, ◌∙◌, suc, subst, arith, ◌<◌, length, codes, flat_map, All, Piece, deeper, token, between, open_body, close_body, doc_layout, space, newline, doc_comment_of, DocComment, world_include_item_of, with_layout, world_include_item_layout, doc_line, flat_map-of, flat_map-append}
use Rattle.wac_printer_layout.specs.Bare.{doc_lines, bare}
use Rattle.wac_printer_layout.specs.Parts.{joined, spaced, body, rows, docs_layout}
use Rattle.std.specs.Str.Lines.{lines}
use Rattle.wac_lexer.specs.Item.{Doc}
use Rattle.wac_ast_uses.specs.declared.includes.WorldIncludeItem.{WorldIncludeItem}

between-of : {X Y : Type 0} (s : List Piece) (f : Y → List Piece) (g : X → Y) (xs : List X) → between s f (map g xs) ≡ between s (λ x. f (g x)) xs
between-of s f g [] = refl
between-of s f g (x ∷ xs) = ap (λ r. f (g x) ++ r) (flat_map-of g (λ y. s ++ f y) xs)

pub joined-of : {X Y : Type 0} (f : Y → List Piece) (g : X → Y) (xs : List X) → joined f (map g xs) ≡ joined (λ x. f (g x)) xs
unfolding joined
joined-of f g xs = between-of (token (codes ",") ∷ space ∷ []) f g xs

pub spaced-of : {X Y : Type 0} (f : Y → List Piece) (g : X → Y) (xs : List X) → spaced f (map g xs) ≡ spaced (λ x. f (g x)) xs
unfolding spaced
spaced-of f g xs = between-of (newline ∷ []) (λ y. f y ++ newline ∷ []) g xs

pub body-of : {X Y : Type 0} (f : ℕ → Y → List Piece) (g : X → Y) (depth : ℕ) (xs : List X) → body f depth (map g xs) ≡ body (λ d x. f d (g x)) depth xs
unfolding body
body-of f g depth xs = ap (λ r. open_body ++ (r ++ close_body depth)) (spaced-of (f (deeper depth)) g xs)

pub rows-of : {X Y : Type 0} (f : ℕ → Y → List Piece) (g : X → Y) (depth : ℕ) (xs : List X) → rows f depth (map g xs) ≡ rows (λ d x. f d (g x)) depth xs
unfolding rows
rows-of f g depth xs = ap (λ r. open_body ++ (r ++ close_body depth)) (flat_map-of g (λ y. f (deeper depth) y ++ token (codes ",") ∷ newline ∷ []) xs)

pub ruleset parts_of = (joined-of, spaced-of, body-of, rows-of, flat_map-of)

pub body-is : {X : Type 0} (f : ℕ → X → List Piece) (depth : ℕ) (xs : List X) → body f depth xs ≡ open_body ++ (spaced (f (deeper depth)) xs ++ close_body depth)
unfolding body
body-is f depth xs = refl

pub rows-is : {X : Type 0} (f : ℕ → X → List Piece) (depth : ℕ) (xs : List X) → rows f depth xs ≡ open_body ++ (flat_map (λ x. f (deeper depth) x ++ token (codes ",") ∷ newline ∷ []) xs ++ close_body depth)
unfolding rows
rows-is f depth xs = refl

pub joined-none : {X : Type 0} (f : X → List Piece) (xs : List X) → xs ≡ [] → joined f xs ≡ []
unfolding joined
joined-none f xs e = ap (between (token (codes ",") ∷ space ∷ []) f) e

pub joined-some : {X : Type 0} (f : X → List Piece) (xs : List X) (x : X) (rest : List X) → xs ≡ x ∷ rest → joined f xs ≡ f x ++ flat_map (λ y. (token (codes ",") ∷ space ∷ []) ++ f y) rest
unfolding joined
joined-some f xs x rest e = ap (between (token (codes ",") ∷ space ∷ []) f) e

pub spaced-none : {X : Type 0} (f : X → List Piece) (xs : List X) → xs ≡ [] → spaced f xs ≡ []
unfolding spaced
spaced-none f xs e = ap (between (newline ∷ []) (λ x. f x ++ newline ∷ [])) e

pub spaced-some : {X : Type 0} (f : X → List Piece) (xs : List X) (x : X) (rest : List X) → xs ≡ x ∷ rest → spaced f xs ≡ (f x ++ newline ∷ []) ++ flat_map (λ y. newline ∷ (f y ++ newline ∷ [])) rest
unfolding spaced
spaced-some f xs x rest e = ap (between (newline ∷ []) (λ x. f x ++ newline ∷ [])) e

pub All-rest : {X : Type 0} (P : X → Type 0) (xs : List X) (x : X) (rest : List X) → xs ≡ x ∷ rest → All P xs → All P rest
All-rest P xs x rest e h i d k = subst (All P) e h (suc i) d (omega arith)

pub All-first : {X : Type 0} (P : X → Type 0) (xs : List X) (x : X) (rest : List X) → xs ≡ x ∷ rest → All P xs → P x
All-first P xs x rest e h = subst (All P) e h 0 x (omega arith)

pub no_items : {X : Type 0} (xs : List X) → length xs ≡ 0 → xs ≡ []
no_items [] e = refl
no_items (x ∷ xs) e = absurd (omega arith)

flat_map-flat_map : {X Y : Type 0} (f : Y → List Piece) (g : X → List Y) (xs : List X) → flat_map f (flat_map g xs) ≡ flat_map (λ x. flat_map f (g x)) xs
flat_map-flat_map f g [] = refl
flat_map-flat_map f g (x ∷ xs) = flat_map-append f (g x) (flat_map g xs) ∙ ap (λ r. flat_map f (g x) ++ r) (flat_map-flat_map f g xs)

-- the docs of values
pub docs-of : (depth : ℕ) (docs : List DocComment) → docs_layout depth (doc_lines (map doc_comment_of docs)) ≡ flat_map (λ x. docs_layout depth (map doc_line (lines x.comment.now))) docs
unfolding docs_layout doc_lines
docs-of depth docs =
    flat_map-flat_map (doc_layout depth) (λ (d : Doc). map doc_line (lines d.comment)) (map doc_comment_of docs)
    ∙ flat_map-of doc_comment_of (λ (d : Doc). docs_layout depth (map doc_line (lines d.comment))) docs

-- the renamed items of an include
pub with-none : (depth : ℕ) (source : List ℕ) (xs : List WorldIncludeItem) → length xs ≡ 0 → with_layout depth (map (walk_world_include_item (bare source)) (map world_include_item_of xs)) ≡ []
with-none depth source [] h = refl
with-none depth source (x ∷ xs) h = absurd (omega arith)

pub with-some : (depth : ℕ) (source : List ℕ) (xs : List WorldIncludeItem) → 0 < length xs → with_layout depth (map (walk_world_include_item (bare source)) (map world_include_item_of xs))
    ≡ space ∷ token (codes "with") ∷ rows world_include_item_layout depth (map (walk_world_include_item (bare source)) (map world_include_item_of xs))
with-some depth source [] h = absurd (omega arith)
with-some depth source (x ∷ xs) h = refl

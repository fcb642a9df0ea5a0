-- The joints of printed text: what each sort of piece may precede.
use Rattle.wac_printer_layout.proofs.Common.{◌≡◌, ℕ, Bool, true, List, [], ◌∷◌, ◌++◌, refl, ap, ◌∙◌, append_assoc, Some, codes, AllByRecursion, flat_map, follows, token_of, Doc}
use Rattle.wac_lexer.specs.declared.token.Token.TheVariants as kinds
use Rattle.wac_lexer.proofs.Followed.{dot_before_word}
use Rattle.wac_printer_layout.specs.Printed.{Piece, token, text, fresh_after_token, deeper}
use Rattle.wac_printer_layout.specs.Joins.{Stands, JoinsBefore}
use Rattle.wac_printer_layout.specs.Parts.{space, newline, joined, spaced, body, rows, close_body, docs_layout}
use Rattle.wac_printer_layout.specs.Texts.{Spelled, DocsHave}
use Rattle.wac_printer_layout.specs.Accepted.{IsAccepted}
use Rattle.wac_printer_layout.proofs.Plain.{is_plain, plain, plain_accepted}
use Rattle.wac_printer_layout.proofs.Joining.{join, stands, stands_before, stands_so}

-- a token whose text is written out
pub known : (t : List ℕ) → is_plain t ≡ true → (rest : List ℕ) → stands_before rest t ≡ true → Stands t rest
known t e rest is = stands_so t rest (plain t e) is

-- a symbol but a dot may precede anything
symbol : (rest : List ℕ) → follows kinds.OpenParen rest ≡ true
symbol [] = refl
symbol (b ∷ rest) = refl

pub semicolon : (rest : List ℕ) → Stands (codes ";") rest
semicolon rest = known (codes ";") refl rest (symbol rest)

pub open_brace : (rest : List ℕ) → Stands (codes "{") rest
open_brace rest = known (codes "{") refl rest (symbol rest)

pub close_brace : (rest : List ℕ) → Stands (codes "}") rest
close_brace rest = known (codes "}") refl rest (symbol rest)

pub colon : (rest : List ℕ) → Stands (codes ":") rest
colon rest = known (codes ":") refl rest (symbol rest)

pub equals : (rest : List ℕ) → Stands (codes "=") rest
equals rest = known (codes "=") refl rest (symbol rest)

pub open_paren : (rest : List ℕ) → Stands (codes "(") rest
open_paren rest = known (codes "(") refl rest (symbol rest)

pub close_paren : (rest : List ℕ) → Stands (codes ")") rest
close_paren rest = known (codes ")") refl rest (symbol rest)

pub arrow : (rest : List ℕ) → Stands (codes "->") rest
arrow rest = known (codes "->") refl rest (symbol rest)

pub open_angle : (rest : List ℕ) → Stands (codes "<") rest
open_angle rest = known (codes "<") refl rest (symbol rest)

pub close_angle : (rest : List ℕ) → Stands (codes ">") rest
close_angle rest = known (codes ">") refl rest (symbol rest)

pub underscore : (rest : List ℕ) → Stands (codes "_") rest
underscore rest = known (codes "_") refl rest (symbol rest)

pub open_bracket : (rest : List ℕ) → Stands (codes "[") rest
open_bracket rest = known (codes "[") refl rest (symbol rest)

pub close_bracket : (rest : List ℕ) → Stands (codes "]") rest
close_bracket rest = known (codes "]") refl rest (symbol rest)

pub ellipsis : (rest : List ℕ) → Stands (codes "...") rest
ellipsis rest = known (codes "...") refl rest (symbol rest)

pub comma : (rest : List ℕ) → Stands (codes ",") rest
comma rest = known (codes ",") refl rest (symbol rest)

-- a string may precede anything
pub quoted : (rest : List ℕ) → follows kinds.String rest ≡ true
quoted [] = refl
quoted (b ∷ rest) = refl

pub word : (t rest : List ℕ) → token_of t ≡ Some kinds.Ident → follows kinds.Ident rest ≡ true → Stands t rest
word t rest is follow = stands t rest kinds.Ident (plain_accepted t kinds.Ident is refl) is follow

pub string : (t rest : List ℕ) → (token_of t ≡ Some kinds.String) × IsAccepted t → Stands t rest
string t rest is = stands t rest kinds.String is.1 is.0 (quoted rest)

pub name : (t rest : List ℕ) → token_of t ≡ Some kinds.PackageName → follows kinds.PackageName rest ≡ true → Stands t rest
name t rest is follow = stands t rest kinds.PackageName (plain_accepted t kinds.PackageName is refl) is follow

pub path : (t rest : List ℕ) → token_of t ≡ Some kinds.PackagePath → follows kinds.PackagePath rest ≡ true → Stands t rest
path t rest is follow = stands t rest kinds.PackagePath (plain_accepted t kinds.PackagePath is refl) is follow

-- a dot before a word
pub dot : (t more rest : List ℕ) → token_of t ≡ Some kinds.Ident → follows kinds.Dot ((t ++ more) ++ rest) ≡ true
dot t more rest is = ap (follows kinds.Dot) (append_assoc t more rest) ∙ dot_before_word t (more ++ rest) is

module _ (gap : List ℕ) where
  -- the condition, with the indentation left out
  abbrev pub J : List ℕ → Bool → List Piece → Type 0
  J rest fresh ps = JoinsBefore rest gap fresh ps

  -- two lists of pieces, concatenated
  pub also : (rest : List ℕ) (fresh : Bool) (ps qs : List Piece) → J (text gap (fresh_after_token gap fresh ps) qs ++ rest) fresh ps → J rest (fresh_after_token gap fresh ps) qs → J rest fresh (ps ++ qs)
  also rest fresh ps qs first second = join rest gap fresh ps qs first second

  -- docs, before anything
  pub docs_join : (depth : ℕ) (docs : List Doc) (rest : List ℕ) (fresh : Bool) → DocsHave Spelled docs → J rest fresh (docs_layout depth docs)
  unfolding docs_layout
  docs_join depth [] rest fresh h = tt
  docs_join depth (d ∷ docs) rest fresh h = (tt, ((h.0, refl), ((refl, tt), docs_join depth docs rest _ h.1)))

  -- lists of parts, each of which may precede what a word may precede
  module _ {X : Type 0} (f : X → List Piece) (P : X → Type 0) (each : (x : X) (rest : List ℕ) (fresh : Bool) → P x → follows kinds.Ident rest ≡ true → J rest fresh (f x)) where
    abbrev further : List X → List Piece
    further xs = flat_map (λ y. (token (codes ",") ∷ space ∷ []) ++ f y) xs

    further_follows : (xs : List X) (rest : List ℕ) (fresh : Bool) → follows kinds.Ident rest ≡ true → follows kinds.Ident (text gap fresh (further xs) ++ rest) ≡ true
    further_follows [] rest fresh h = h
    further_follows (x ∷ xs) rest fresh h = refl

    further_join : (xs : List X) (rest : List ℕ) (fresh : Bool) → AllByRecursion P xs → follows kinds.Ident rest ≡ true → J rest fresh (further xs)
    further_join [] rest fresh is h = tt
    further_join (x ∷ xs) rest fresh is h = (comma _, ((refl, tt), also _ _ (f x) (further xs) (each x _ _ is.0 (further_follows xs rest _ h)) (further_join xs rest _ is.1 h)))

    pub joined_join : (xs : List X) (rest : List ℕ) (fresh : Bool) → AllByRecursion P xs → follows kinds.Ident rest ≡ true → J rest fresh (joined f xs)
    unfolding joined
    joined_join [] rest fresh is h = tt
    joined_join (x ∷ xs) rest fresh is h = also _ _ (f x) (further xs) (each x _ _ is.0 (further_follows xs rest _ h)) (further_join xs rest _ is.1 h)

  -- documented
  pub documented : (depth : ℕ) (docs : List Doc) (qs : List Piece) (rest : List ℕ) (fresh : Bool) → DocsHave Spelled docs → ((later : Bool) → J rest later qs) → J rest fresh (docs_layout depth docs ++ qs)
  documented depth docs qs rest fresh is others = also rest fresh (docs_layout depth docs) qs (docs_join depth docs _ _ is) (others _)

  -- a word may precede a body and rows
  pub rows_follow : {X : Type 0} (f : ℕ → X → List Piece) (depth : ℕ) (xs : List X) (rest : List ℕ) (fresh : Bool) → follows kinds.Ident (text gap fresh (rows f depth xs) ++ rest) ≡ true
  unfolding rows
  rows_follow f depth xs rest fresh = refl

  pub body_follow : {X : Type 0} (f : ℕ → X → List Piece) (depth : ℕ) (xs : List X) (rest : List ℕ) (fresh : Bool) → follows kinds.Ident (text gap fresh (body f depth xs) ++ rest) ≡ true
  unfolding body
  body_follow f depth xs rest fresh = refl

  -- rows, each before a comma
  module _ {X : Type 0} (f : ℕ → X → List Piece) (P : X → Type 0) (each : (depth : ℕ) (x : X) (rest : List ℕ) (fresh : Bool) → P x → follows kinds.Ident rest ≡ true → J rest fresh (f depth x)) where
    abbrev row : ℕ → X → List Piece
    row depth x = f depth x ++ token (codes ",") ∷ newline ∷ []

    rows_of : (depth : ℕ) (xs : List X) (rest : List ℕ) (fresh : Bool) → AllByRecursion P xs → J rest fresh (flat_map (row depth) xs)
    rows_of depth [] rest fresh is = tt
    rows_of depth (x ∷ xs) rest fresh is =
        also _ _ (row depth x) _ (also _ _ (f depth x) _ (each depth x _ _ is.0 refl) (comma _, ((refl, tt), tt))) (rows_of depth xs rest _ is.1)

    pub rows_join : (depth : ℕ) (xs : List X) (rest : List ℕ) (fresh : Bool) → AllByRecursion P xs → J rest fresh (rows f depth xs)
    unfolding rows
    rows_join depth xs rest fresh is =
        ((refl, tt), (open_brace _, ((refl, tt), also _ _ (flat_map (row (deeper depth)) xs) (close_body depth) (rows_of (deeper depth) xs _ _ is) (tt, (close_brace _, tt)))))

  -- items on lines of their own, each of which may precede anything
  module _ {X : Type 0} (f : X → List Piece) (P : X → Type 0) (each : (x : X) (rest : List ℕ) (fresh : Bool) → P x → J rest fresh (f x)) where
    abbrev lined : X → List Piece
    lined x = f x ++ newline ∷ []

    one_line : (x : X) (rest : List ℕ) (fresh : Bool) → P x → J rest fresh (lined x)
    one_line x rest fresh is = also _ _ (f x) _ (each x _ _ is) ((refl, tt), tt)

    further_lines : (xs : List X) (rest : List ℕ) (fresh : Bool) → AllByRecursion P xs → J rest fresh (flat_map (λ y. (newline ∷ []) ++ lined y) xs)
    further_lines [] rest fresh is = tt
    further_lines (x ∷ xs) rest fresh is = ((refl, tt), also _ _ (lined x) _ (one_line x _ _ is.0) (further_lines xs rest _ is.1))

    pub spaced_join : (xs : List X) (rest : List ℕ) (fresh : Bool) → AllByRecursion P xs → J rest fresh (spaced f xs)
    unfolding spaced
    spaced_join [] rest fresh is = tt
    spaced_join (x ∷ xs) rest fresh is = also _ _ (lined x) _ (one_line x _ _ is.0) (further_lines xs rest _ is.1)

  module _ {X : Type 0} (f : ℕ → X → List Piece) (P : X → Type 0) (each : (depth : ℕ) (x : X) (rest : List ℕ) (fresh : Bool) → P x → J rest fresh (f depth x)) where
    pub body_join : (depth : ℕ) (xs : List X) (rest : List ℕ) (fresh : Bool) → AllByRecursion P xs → J rest fresh (body f depth xs)
    unfolding body
    body_join depth xs rest fresh is =
        ((refl, tt), (open_brace _, ((refl, tt), also _ _ (spaced (f (deeper depth)) xs) (close_body depth) (spaced_join (f (deeper depth)) P (each (deeper depth)) xs _ _ is) (tt, (close_brace _, tt)))))

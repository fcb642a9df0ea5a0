-- What a walk over a tree is used for: to change its leaves, to ask something of each, and to list them.
use Rattle.std.specs.Prelude.{◌≡◌, List, [], ◌∷◌, ◌++◌, map, Option, Some, None, Bool, true}
use Rattle.std.specs.List.{AllByRecursion, flat_map}
use Rattle.std.specs.Option.{option_map}
use Rattle.wac_lexer.specs.Span.{Span}
use Rattle.wac_lexer.specs.Item.{Doc}
use Rattle.wac_ast_grammar.specs.Tree.{Ident, String, PackageName, PackagePath, Document}
use Rattle.wac_ast_grammar.specs.Walk.{Walk, walk_document}

-- what becomes of each leaf
pub record Change : Type 0 where
  pub ident : Ident → Ident
  pub string : String → String
  pub name : PackageName → PackageName
  pub path : PackagePath → PackagePath
  pub span : Span → Span

-- the tree with changed leaves
abbrev pub changed : Change → Walk {0}
changed f =
    record {
      Of = λ A. A;
      ident = f.ident;
      string = f.string;
      name = f.name;
      path = f.path;
      each = λ w xs. map w xs;
      perhaps = λ w x. option_map w x;
      filled = λ b a. a;
      spanned = λ m s. m (f.span s);
      none = λ x. x;
      one = λ m a. m a;
      two = λ m a b. m a b;
      three = λ m a b c. m a b c;
      four = λ m a b c d. m a b c d;
    }

abbrev pub IfThere : {A : Type 0} → (A → Type 0) → Option A → Type 0
IfThere P None = Unit {0}
IfThere P (Some x) = P x

-- what is asked of each leaf, and of whether there is an item where the grammar wants one
pub record Asked : Type 1 where
  pub ident : Ident → Type 0
  pub string : String → Type 0
  pub name : PackageName → Type 0
  pub path : PackagePath → Type 0
  pub filled : Bool → Type 0

-- all leaves of the tree are as asked
abbrev pub holds : Asked → Walk {1}
holds P =
    record {
      Of = λ A. Type 0;
      ident = P.ident;
      string = P.string;
      name = P.name;
      path = P.path;
      each = λ w xs. AllByRecursion w xs;
      perhaps = λ w x. IfThere w x;
      filled = λ b a. a × P.filled b;
      spanned = λ p s. p;
      none = λ x. Unit {0};
      one = λ m a. a;
      two = λ m a b. a × b;
      three = λ m a b c. a × b × c;
      four = λ m a b c d. a × b × c × d;
    }

-- the same, and each span is as asked
abbrev pub holds_with_spans : Asked → (Span → Type 0) → Walk {1}
holds_with_spans P S = record (holds P) { spanned = λ p s. p × S s }

pub data Leaf : Type 0 where
  ident : Ident → Leaf
  string : String → Leaf
  name : PackageName → Leaf
  path : PackagePath → Leaf
  span : Span → Leaf
  docs : List Doc → Leaf

abbrev pub of_option : {A : Type 0} → (A → List Leaf) → Option A → List Leaf
of_option w None = []
of_option w (Some x) = w x

-- docs among leaves
abbrev pub docs_leaf : List Doc → List Leaf
docs_leaf x = Leaf.docs x ∷ []

-- the leaves, in the order of the tree's fields
abbrev pub leaves : Walk {0}
leaves =
    record {
      Of = λ A. List Leaf;
      ident = λ x. Leaf.ident x ∷ [];
      string = λ x. Leaf.string x ∷ [];
      name = λ x. Leaf.name x ∷ [];
      path = λ x. Leaf.path x ∷ [];
      each = λ w xs. flat_map w xs;
      perhaps = λ w x. of_option w x;
      filled = λ b a. a;
      spanned = λ ls s. ls ++ (Leaf.span s ∷ []);
      none = λ x. [];
      one = λ m a. a;
      two = λ m a b. a ++ b;
      three = λ m a b c. a ++ (b ++ c);
      four = λ m a b c d. a ++ (b ++ (c ++ d));
    }

-- the same asked of leaves of each sort
abbrev pub of_leaves : (Leaf → Type 0) → Asked
of_leaves Q =
    record {
      ident = λ x. Q (Leaf.ident x);
      string = λ x. Q (Leaf.string x);
      name = λ x. Q (Leaf.name x);
      path = λ x. Q (Leaf.path x);
      filled = λ b. Unit {0};
    }

-- a test passes at the tree: at all its names, strings, paths, docs and spans
abbrev pub DocumentPasses : (Leaf → Bool) → Document → Type 0
DocumentPasses test x = walk_document (holds_with_spans (of_leaves (λ leaf. test leaf ≡ true)) (λ s. test (Leaf.span s) ≡ true)) (λ ds. test (Leaf.docs ds) ≡ true) x

-- the test passes at each of the tree's leaves
abbrev pub LeavesPass : (Leaf → Bool) → Document → Type 0
LeavesPass test x = AllByRecursion (λ leaf. test leaf ≡ true) (walk_document leaves docs_leaf x)

-- one change after another
abbrev pub after : Change → Change → Change
after f g =
    record {
      ident = λ x. f.ident (g.ident x);
      string = λ x. f.string (g.string x);
      name = λ x. f.name (g.name x);
      path = λ x. f.path (g.path x);
      span = λ x. f.span (g.span x);
    }

abbrev pub unchanged : Change
unchanged = record { ident = λ x. x; string = λ x. x; name = λ x. x; path = λ x. x; span = λ x. x }

-- what is asked of the leaves before a change
abbrev pub asked_after : Asked → Change → Asked
asked_after P f =
    record {
      ident = λ x. P.ident (f.ident x);
      string = λ x. P.string (f.string x);
      name = λ x. P.name (f.name x);
      path = λ x. P.path (f.path x);
      filled = P.filled;
    }

-- Equal bare trees with equal lines of docs give equal texts; and the lines of what is printed.
use Rattle.wac_printer_layout.proofs.Common.{◌≡◌, ◌↔◌, ℕ, Bool, true, false, cond, List, [], ◌∷◌, ◌++◌, map, length, refl, sym, ap, ◌∙◌, subst, ◌==◌, not, AllByRecursion, flat_map, filter, IsUtf8, trim, lines, Doc, Document, IsTreeOf, walk_document, Leaf, changed, leaves, docs_leaf, of_leaves, unchanged, Gives, document_composed, document_implied, document_any_spans}
use Rattle.wac_ast_grammar.proofs.Listed.{document_listed}
use Rattle.wac_printer_layout.specs.Printed.{text}
use Rattle.wac_printer_layout.specs.StatementLayout.{document_layout}
use Rattle.wac_printer_layout.specs.Joins.{IsDocLine, AreBlanks}
use Rattle.wac_printer_layout.specs.Bare.{nowhere, Keep, no_docs, doc_lines, bare, bare_document, bare_leaves}
use Rattle.wac_printer_layout.specs.Texts.{Spelled, DocsHave, DocumentHas, leaves_have}
use Rattle.wac_printer_layout.specs.Settled.{settle_document}
use Rattle.wac_printer_layout.specs.Reread.{read_docs, printed, IsReread}
use Rattle.wac_printer_layout.specs.TreeLines.{bare_tree, docs_among, docs_in, lines_of, tree_lines, texts_of, tree_docs, is_not_empty, settled}
use Rattle.wac_printer_layout.proofs.Refilled.{fill, filled_again, docs_of_changed}
use Rattle.wac_printer_layout.proofs.Settling.{bare_docs, lines_bare, one_doc, line_docs}
use Rattle.wac_printer_layout.proofs.TreesBack.{spelled, reads_back}

-- ---- lists

map_map : {A B C : Type 0} (g : B → C) (f : A → B) (h : A → C) → ((x : A) → g (f x) ≡ h x) → (xs : List A) → map g (map f xs) ≡ map h xs
map_map g f h e [] = refl
map_map g f h e (x ∷ xs) = λ i. e x i ∷ map_map g f h e xs i

map_same : {A B : Type 0} (f g : A → B) → ((x : A) → f x ≡ g x) → (xs : List A) → map f xs ≡ map g xs
map_same f g e [] = refl
map_same f g e (x ∷ xs) = λ i. e x i ∷ map_same f g e xs i

-- ---- docs

bare_append : (a b : List (List ℕ)) → bare_docs (a ++ b) ≡ bare_docs a ++ bare_docs b
bare_append [] b = refl
bare_append (l ∷ a) b = ap (λ ds. record { comment = l; span = nowhere } ∷ ds) (bare_append a b)

-- docs that are cut are their lines
cut : (docs : List Doc) → doc_lines docs ≡ bare_docs (lines_of docs)
unfolding doc_lines
cut [] = refl
cut (d ∷ docs) = (λ i. lines_bare (lines d.comment) i ++ cut docs i) ∙ sym (bare_append (map trim (lines d.comment)) (lines_of docs))

-- docs as they are read are their texts
as_read : (docs : List Doc) → read_docs docs ≡ bare_docs (texts_of docs)
as_read [] = refl
as_read (d ∷ docs) = ap (λ ds. record { comment = d.comment; span = nowhere } ∷ ds) (as_read docs)

texts_back : (ls : List (List ℕ)) → texts_of (bare_docs ls) ≡ ls
texts_back [] = refl
texts_back (l ∷ ls) = ap (λ rest. l ∷ rest) (texts_back ls)

-- lines that are cut again lose the empty ones
abbrev kept : Bool → List ℕ → List (List ℕ) → List (List ℕ)
kept empty l rest = cond (not empty) (l ∷ rest) rest

kept_docs : (empty : Bool) (l : List ℕ) (rest : List (List ℕ)) → one_doc empty l ++ bare_docs rest ≡ bare_docs (kept empty l rest)
kept_docs true l rest = refl
kept_docs false l rest = refl

cut_again : (ls : List (List ℕ)) → AllByRecursion IsDocLine ls → doc_lines (bare_docs ls) ≡ bare_docs (filter is_not_empty ls)
unfolding doc_lines
cut_again [] h = refl
cut_again (l ∷ ls) h = (λ i. line_docs l h.0 i ++ cut_again ls h.1 i) ∙ kept_docs (length l == 0) l (filter is_not_empty ls)

are_lines : (ls : List (List ℕ)) → DocsHave Spelled (bare_docs ls) → AllByRecursion IsDocLine ls
are_lines [] h = tt
are_lines (l ∷ ls) h = (h.0, are_lines ls h.1)

settles : (docs : List Doc) → DocsHave Spelled (doc_lines docs) → texts_of (doc_lines (doc_lines docs)) ≡ filter is_not_empty (lines_of docs)
settles docs h =
    let ls = lines_of docs in
    ap (λ ds. texts_of (doc_lines ds)) (cut docs) ∙ ap texts_of (cut_again ls (are_lines ls (subst (DocsHave Spelled) (cut docs) h))) ∙ texts_back (filter is_not_empty ls)

-- ---- trees

-- without docs, whatever was kept of them
pub dropped : (keep : Keep) (source : List ℕ) (x : Document) → walk_document (changed unchanged) no_docs (bare_document keep source x) ≡ bare_tree source x
dropped keep source x =
    document_composed unchanged (bare_leaves source) (bare_leaves source) no_docs keep no_docs (record { ident = λ x. refl; string = λ x. refl; name = λ x. refl; path = λ x. refl; span = λ x. refl }) (λ ds. refl) x

docs_kept : (keep : Keep) (source : List ℕ) (x : Document) → docs_in (bare_document keep source x) ≡ map keep (docs_in x)
docs_kept keep source x = docs_of_changed keep (bare_leaves source) x

-- the bare tree and the lines are all
filled_lines : (source : List ℕ) (x : Document) → fill (bare_tree source x) (map bare_docs (tree_lines x)) ≡ bare_document doc_lines source x
filled_lines source x =
    ap (fill (bare_tree source x)) (map_map bare_docs lines_of doc_lines (λ ds. sym (cut ds)) (docs_in x)) ∙ filled_again doc_lines source x

filled_texts : (source : List ℕ) (x : Document) → fill (bare_tree source x) (map bare_docs (tree_docs x)) ≡ bare_document read_docs source x
filled_texts source x =
    ap (fill (bare_tree source x)) (map_map bare_docs texts_of read_docs (λ ds. sym (as_read ds)) (docs_in x)) ∙ filled_again read_docs source x

pub same_texts : (space source other : List ℕ) (x y : Document) → bare_tree source x ≡ bare_tree other y → tree_lines x ≡ tree_lines y → printed space source x ≡ printed space other y
same_texts space source other x y trees docs =
    let same : bare_document doc_lines source x ≡ bare_document doc_lines other y = sym (filled_lines source x) ∙ (λ i. fill (trees i) (map bare_docs (docs i))) ∙ filled_lines other y in
    ap (λ d. text space true (document_layout 0 d)) same

-- the texts of docs, and the lines of docs, read off a bare tree
abbrev texts_in : Document → List (List (List ℕ))
texts_in b = map texts_of (docs_in b)

read_texts : (source : List ℕ) (x : Document) → texts_in (bare_document read_docs source x) ≡ tree_docs x
read_texts source x =
    ap (map texts_of) (docs_kept read_docs source x) ∙ map_map texts_of read_docs texts_of (λ ds. ap texts_of (as_read ds) ∙ texts_back (texts_of ds)) (docs_in x)

line_texts : (source : List ℕ) (x : Document) → texts_in (bare_document doc_lines source x) ≡ tree_lines x
line_texts source x =
    ap (map texts_of) (docs_kept doc_lines source x) ∙ map_map texts_of doc_lines lines_of (λ ds. ap texts_of (cut ds) ∙ texts_back (lines_of ds)) (docs_in x)

pub reread_parts : (t source : List ℕ) (again tree : Document) → IsReread t again source tree ↔ ((bare_tree t again ≡ bare_tree source tree) × (tree_docs again ≡ tree_lines tree))
reread_parts t source again tree = (
  λ e. (
    sym (dropped read_docs t again) ∙ ap (walk_document (changed unchanged) no_docs) e ∙ dropped doc_lines source tree,
    sym (read_texts t again) ∙ ap texts_in e ∙ line_texts source tree,
  ),
  λ p. sym (filled_texts t again) ∙ (λ i. fill (p.0 i) (map bare_docs (p.1 i))) ∙ filled_lines source tree,
)

-- ---- settled

-- what is asked of docs alone
module _ (D : List Doc → Type 0) where
  abbrev of_docs : Leaf → Type 0
  of_docs (Leaf.docs ds) = D ds
  of_docs other = Unit {0}

  among : (ls : List Leaf) → AllByRecursion of_docs ls → AllByRecursion D (flat_map docs_among ls)
  among [] h = tt
  among (Leaf.docs ds ∷ ls) h = (h.0, among ls h.1)
  among (Leaf.ident x ∷ ls) h = among ls h.1
  among (Leaf.string x ∷ ls) h = among ls h.1
  among (Leaf.name x ∷ ls) h = among ls h.1
  among (Leaf.path x ∷ ls) h = among ls h.1
  among (Leaf.span x ∷ ls) h = among ls h.1

  docs_alone : Gives (leaves_have Spelled) (of_leaves of_docs)
  docs_alone = record { ident = λ x h. tt; string = λ x h. tt; name = λ x h. tt; path = λ x h. tt; filled = λ b h. tt }

  each_holder : (x : Document) → ((ds : List Doc) → DocsHave Spelled ds → D ds) → DocumentHas Spelled x → AllByRecursion D (docs_in x)
  each_holder x give h =
      let asked = document_implied (leaves_have Spelled) (of_leaves of_docs) (DocsHave Spelled) D docs_alone give x h in
      among (walk_document leaves docs_leaf x) ((document_listed of_docs x).0 (document_any_spans (of_leaves of_docs) (λ s. Unit {0}) (λ s. tt) D x asked))

all_settle : (holders : List (List Doc)) → AllByRecursion (DocsHave Spelled) (map doc_lines holders) → map texts_of (map doc_lines (map doc_lines holders)) ≡ settled (map lines_of holders)
all_settle [] h = refl
all_settle (ds ∷ holders) h = λ i. settles ds h.0 i ∷ all_settle holders h.1 i

-- the docs of a settled bare tree
settled_texts : (source : List ℕ) (x : Document) → DocumentHas Spelled (bare_document doc_lines source x) → texts_in (settle_document (bare_document doc_lines source x)) ≡ settled (tree_lines x)
settled_texts source x h =
    let b = bare_document doc_lines source x in
    let spelled = subst (AllByRecursion (DocsHave Spelled)) (docs_kept doc_lines source x) (each_holder (DocsHave Spelled) b (λ ds d. d) h) in
    ap (map texts_of) (docs_of_changed doc_lines unchanged b) ∙ ap (λ holders. map texts_of (map doc_lines holders)) (docs_kept doc_lines source x) ∙ all_settle (docs_in x) spelled

settled_bare : (source : List ℕ) (x : Document) → walk_document (changed unchanged) no_docs (settle_document (bare_document doc_lines source x)) ≡ bare_tree source x
settled_bare source x =
    document_composed unchanged unchanged unchanged no_docs doc_lines no_docs (record { ident = λ x. refl; string = λ x. refl; name = λ x. refl; path = λ x. refl; span = λ x. refl }) (λ ds. refl) (bare_document doc_lines source x)
    ∙ dropped doc_lines source x

pub settled_parts : (space source : List ℕ) (tree again third : Document) → AreBlanks space → IsUtf8 source → IsTreeOf source tree → IsTreeOf (printed space source tree) again → IsTreeOf (printed space (printed space source tree) again) third
    → (bare_tree (printed space (printed space source tree) again) third ≡ bare_tree source tree) × (tree_docs third ≡ settled (tree_lines tree))
settled_parts space source tree again third blanks utf8 is a t =
    let twice = printed space (printed space source tree) again in
    let e = (reads_back space source tree blanks utf8 is).settled again third a t in (
      sym (dropped read_docs twice third) ∙ ap (walk_document (changed unchanged) no_docs) e ∙ settled_bare source tree,
      sym (read_texts twice third) ∙ ap texts_in e ∙ settled_texts source tree (spelled source tree utf8 is),
    )

-- Names are read back.
use Rattle.std.proofs.Common.{◌≡◌, ℕ, List, [], ◌∷◌, ◌++◌, map, sym as back, refl, ap, ◌∙◌, subst, Some, Ok, inl, inr, append_assoc, append-nil}
use Rattle.wac_ast_grammar.specs.Walk.{walk_extern_name}
use Rattle.wac_printer_layout.proofs.Common.{lines, Item, Doc, slice, token_of, Token, unversioned, path_name, path_segments, version_of, reads_version, is_token, Ident, String, PackageName, PackagePath, ExternName, build, Derives, extern_name, docs_of, by_rule}
use Rattle.wac_lexer.specs.declared.token.Token.TheVariants as kinds
use Rattle.wac_ast_grammar.specs.Tree as tree
use Rattle.wac_ast_grammar.specs.Grammar.{identifier, string, package_name, package_path}
use Rattle.wac_printer_layout.specs.Printed.{Piece}
use Rattle.wac_printer_layout.specs.Bare.{nowhere, doc_line, doc_lines, bare_ident, bare_string, bare_package_name, bare_package_path, bare}
use Rattle.wac_printer_layout.specs.Reread.{read_docs}
use Rattle.wac_printer_layout.specs.Parts.{docs_layout}
use Rattle.wac_printer_layout.specs.TypeLayout.{extern_name_layout}
use Rattle.wac_printer_layout.specs.Texts.{Spelled, IdentHas, StringHas, PackageNameHas, PackagePathHas, has}
use Rattle.wac_printer_layout.proofs.ReadBack.{kind_is}
use Rattle.wac_printer_layout.proofs.Means.{texts_of, Says, Means}

pub alone : (y : Item) (zs ys : List Item) → ys ≡ y ∷ zs → zs ≡ [] → ys ≡ y ∷ []
alone y zs ys e none = e ∙ ap (λ xs. y ∷ xs) none

module _ (S P : List ℕ) where
  pub is_kind : (k : Token) (ds : List (List ℕ)) (t : List ℕ) (y : Item) → Says P ds t y → token_of t ≡ Some k → is_token k y.token ≡ is_token k (Ok k)
  is_kind k ds t y says is = ap (is_token k) (says.0 ∙ kind_is t k is)

  pub word_back : (x : Ident) (ds : List (List ℕ)) (y : Item) → IdentHas Spelled (bare_ident S x) → Says P ds (slice S x.span) y
      → (u : Ident) × Derives identifier (y ∷ []) u × (bare_ident P u ≡ bare_ident S x)
  word_back x ds y is says =
      (build identifier y, by_rule identifier (y ∷ []) y (refl, is_kind kinds.Ident ds (slice S x.span) y says is, refl), ap (λ t. record { string = t; span = nowhere }) says.2)

  pub string_back : (x : String) (ds : List (List ℕ)) (y : Item) → StringHas Spelled (bare_string S x) → Says P ds (slice S x.span) y
      → (u : String) × Derives string (y ∷ []) u × (bare_string P u ≡ bare_string S x)
  string_back x ds y is says =
      (build string y, by_rule string (y ∷ []) y (refl, is_kind kinds.String ds (slice S x.span) y says is.0, refl), ap (λ t. record { value = t; span = nowhere }) says.2)

  pub name_back : (x : PackageName) (ds : List (List ℕ)) (y : Item) → PackageNameHas Spelled (bare_package_name S x) → Says P ds (slice S x.span) y
      → (u : PackageName) × Derives package_name (y ∷ []) u × (bare_package_name P u ≡ bare_package_name S x)
  name_back x ds y is says =
      let n : unversioned y.text ≡ x.name = ap unversioned says.1 ∙ back is.1 in
      let v : version_of y.text ≡ x.version = ap version_of says.1 ∙ back is.2 in (
        build package_name y,
        by_rule package_name (y ∷ []) y (refl, is_kind kinds.PackageName ds (slice S x.span) y says is.0.0, ap reads_version says.1 ∙ is.0.1),
        (λ i. record { string = says.2 i; name = n i; version = v i; span = nowhere }),
      )

  pub path_back : (x : PackagePath) (ds : List (List ℕ)) (y : Item) → PackagePathHas Spelled (bare_package_path S x) → Says P ds (slice S x.span) y
      → (u : PackagePath) × Derives package_path (y ∷ []) u × (bare_package_path P u ≡ bare_package_path S x)
  path_back x ds y is says =
      let n : path_name y.text ≡ x.name = ap path_name says.1 ∙ back is.1 in
      let g : path_segments y.text ≡ x.segments = ap path_segments says.1 ∙ back is.2 in
      let v : version_of y.text ≡ x.version = ap version_of says.1 ∙ back is.3 in (
        build package_path y,
        by_rule package_path (y ∷ []) y (refl, is_kind kinds.PackagePath ds (slice S x.span) y says is.0.0, ap reads_version says.1 ∙ is.0.1),
        (λ i. record { span = nowhere; string = says.2 i; name = n i; segments = g i; version = v i }),
      )

  pub extern_name_back : (x : ExternName) (ds : List (List ℕ)) (ys : List Item) → walk_extern_name (has Spelled) (walk_extern_name (bare S) x) → Means P ds ys (extern_name_layout (walk_extern_name (bare S) x))
      → (u : ExternName) × Derives extern_name ys u × (walk_extern_name (bare P) u ≡ walk_extern_name (bare S) x)
  extern_name_back (tree.ExternName.ident x) ds ys is h =
      let r = word_back x ds h.0 is h.3 in
      (tree.ExternName.ident r.0, by_rule extern_name ys (inl r.0) (subst (λ zs. Derives identifier zs r.0) (back (alone h.0 h.1 ys h.2 h.4)) r.1), ap tree.ExternName.ident r.2)
  extern_name_back (tree.ExternName.string x) ds ys is h =
      let r = string_back x ds h.0 is h.3 in
      (tree.ExternName.string r.0, by_rule extern_name ys (inr r.0) (subst (λ zs. Derives string zs r.0) (back (alone h.0 h.1 ys h.2 h.4)) r.1), ap tree.ExternName.string r.2)

  -- docs
  from_texts : List (List ℕ) → List Doc
  from_texts ts = map (λ t. record { comment = t; span = nowhere }) ts

  read_is : (docs : List Doc) → read_docs docs ≡ map (λ t. record { comment = t; span = nowhere }) (texts_of docs)
  read_is [] = refl
  read_is (d ∷ docs) = ap (λ ds. record { comment = d.comment; span = nowhere } ∷ ds) (read_is docs)

  kept-append : (a b : List Doc) → read_docs (a ++ b) ≡ read_docs a ++ read_docs b
  kept-append [] b = refl
  kept-append (d ∷ a) b = ap (λ ds. record { comment = d.comment; span = nowhere } ∷ ds) (kept-append a b)

  one_kept : (ls : List (List ℕ)) → read_docs (map doc_line ls) ≡ map doc_line ls
  one_kept [] = refl
  one_kept (l ∷ ls) = ap (λ ds. doc_line l ∷ ds) (one_kept ls)

  lines_kept : (docs : List Doc) → read_docs (doc_lines docs) ≡ doc_lines docs
  unfolding doc_lines
  lines_kept [] = refl
  lines_kept (d ∷ docs) = kept-append (map doc_line (lines d.comment)) (doc_lines docs) ∙ (λ i. one_kept (lines d.comment) i ++ lines_kept docs i)

  docs_past : (depth : ℕ) (docs : List Doc) (ds : List (List ℕ)) (ys : List Item) (qs : List Piece) → Means P ds ys (docs_layout depth docs ++ qs) → Means P (ds ++ texts_of docs) ys qs
  unfolding docs_layout
  docs_past depth [] ds ys qs h = subst (λ ts. Means P ts ys qs) (back (append-nil ds)) h
  docs_past depth (d ∷ docs) ds ys qs h =
      subst (λ ts. Means P ts ys qs) (append_assoc ds (d.comment ∷ []) (texts_of docs)) (docs_past depth docs (ds ++ d.comment ∷ []) ys qs h)

  -- past the docs of a node
  pub documented : (depth : ℕ) (docs : List Doc) (ys : List Item) (qs : List Piece) → Means P [] ys (docs_layout depth (doc_lines docs) ++ qs) → Means P (texts_of (doc_lines docs)) ys qs
  documented depth docs ys qs h = docs_past depth (doc_lines docs) [] ys qs h

  -- they are the docs of its first item
  pub docs_back : (docs : List Doc) (y : Item) (zs ys : List Item) → ys ≡ y ∷ zs → texts_of y.docs ≡ texts_of (doc_lines docs) → read_docs (docs_of ys) ≡ doc_lines docs
  docs_back docs y zs ys e same =
      let at = λ (ts : List (List ℕ)). map (λ t. record { comment = t; span = nowhere }) ts in
      ap (λ xs. read_docs (docs_of xs)) e ∙ read_is y.docs ∙ ap at same ∙ back (read_is (doc_lines docs)) ∙ lines_kept docs

-- What a derived tree is made of is spelled as its sort.
use Rattle.std.proofs.Common.{◌≡◌, ℕ, true, List, [], sym as back, refl, ap, ◌∙◌, subst, Some, Result, Ok, Err}
use Rattle.wac_printer_layout.proofs.Common.{AllByRecursion, false≢true, Item, Doc, slice, token_of, Token, Error, unversioned, path_name, path_segments, version_of, reads_version, is_token, valid, Document, asked_after, build, Derives, document, document_asked}
use Rattle.wac_lexer.specs.declared.token.Token.TheVariants as kinds
use Rattle.wac_ast_grammar.specs.Grammar.{package_name, package_path}
use Rattle.wac_ast_grammar.proofs.Derived.{Made, derived_document}
use Rattle.wac_printer_layout.specs.Accepted.{IsAccepted}
use Rattle.wac_printer_layout.specs.Bare.{doc_lines, bare_leaves, bare_package_name, bare_package_path, bare_document}
use Rattle.wac_printer_layout.specs.Texts.{Spelled, DocsHave, PackageNameHas, PackagePathHas, DocumentHas, leaves_have}

module _ (S : List ℕ) where
  -- what is known of an item: its token's text, its place, and the lines of its docs
  abbrev pub ItemFine : Item → Type 0
  ItemFine y = ((k : Token) → y.token ≡ Ok k → token_of y.text ≡ Some k) × (y.text ≡ slice S y.span) × IsAccepted y.text × DocsHave Spelled (doc_lines y.docs)

  abbrev Leaf : Token → Item → Type 0
  Leaf k y = ItemFine y × (is_token k y.token ≡ true) × (valid k y.text ≡ true)

  -- the token of a leaf
  text_is : (k : Token) (y : Item) → ((a : Token) → is_token k (Ok a) ≡ true → a ≡ k) → ItemFine y → is_token k y.token ≡ true → token_of (slice S y.span) ≡ Some k
  text_is k y same h held = go y.token refl held
    where
      go : (t : Result Token Error) → y.token ≡ t → is_token k y.token ≡ true → token_of (slice S y.span) ≡ Some k
      go (Ok a) e is = let found : token_of y.text ≡ Some a = h.0 a e in ap token_of (back h.1) ∙ found ∙ ap Some (same a (back (ap (is_token k) e) ∙ is))
      go (Err x) e is = absurd (false≢true (back (ap (is_token k) e) ∙ is))

  only_word : (a : Token) → is_token kinds.Ident (Ok a) ≡ true → a ≡ kinds.Ident
  only_word kinds.Ident e = refl
  only_word a e = absurd (false≢true e)

  only_string : (a : Token) → is_token kinds.String (Ok a) ≡ true → a ≡ kinds.String
  only_string kinds.String e = refl
  only_string a e = absurd (false≢true e)

  only_name : (a : Token) → is_token kinds.PackageName (Ok a) ≡ true → a ≡ kinds.PackageName
  only_name kinds.PackageName e = refl
  only_name a e = absurd (false≢true e)

  only_path : (a : Token) → is_token kinds.PackagePath (Ok a) ≡ true → a ≡ kinds.PackagePath
  only_path kinds.PackagePath e = refl
  only_path a e = absurd (false≢true e)

  is_word : (y : Item) → ItemFine y → is_token kinds.Ident y.token ≡ true → token_of (slice S y.span) ≡ Some kinds.Ident
  is_word y h e = text_is kinds.Ident y only_word h e

  is_string : (y : Item) → ItemFine y → is_token kinds.String y.token ≡ true → (token_of (slice S y.span) ≡ Some kinds.String) × IsAccepted (slice S y.span)
  is_string y h e = (text_is kinds.String y only_string h e, subst IsAccepted h.1 h.2)

  name_fine : (y : Item) → Leaf kinds.PackageName y → PackageNameHas Spelled (bare_package_name S (build package_name y))
  name_fine y h = ((text_is kinds.PackageName y only_name h.0 h.1, ap reads_version (back h.0.1) ∙ h.2), ap unversioned h.0.1, ap version_of h.0.1)

  path_fine : (y : Item) → Leaf kinds.PackagePath y → PackagePathHas Spelled (bare_package_path S (build package_path y))
  path_fine y h = ((text_is kinds.PackagePath y only_path h.0 h.1, ap reads_version (back h.0.1) ∙ h.2), ap path_name h.0.1, ap path_segments h.0.1, ap version_of h.0.1)

  -- what is asked of docs
  abbrev DocsFine : List Doc → Type 0
  DocsFine ds = DocsHave Spelled (doc_lines ds)

  no_docs_fine : DocsFine []
  unfolding doc_lines
  no_docs_fine = tt

  made : Made (asked_after (leaves_have Spelled) (bare_leaves S)) DocsFine
  made =
      record {
        Known = ItemFine;
        ident = λ y h e. is_word y h e;
        string = λ y h e. is_string y h e;
        name = λ y h e v. name_fine y (h, e, v);
        path = λ y h e v. path_fine y (h, e, v);
        docs = λ y h. h.3;
        no_docs = no_docs_fine;
        filled = tt;
      }

  pub derived_fine : (xs : List Item) (x : Document) → AllByRecursion ItemFine xs → Derives document xs x → DocumentHas Spelled (bare_document doc_lines S x)
  unfolding made
  derived_fine xs x h d =
      subst (λ A. A) (back (document_asked (leaves_have Spelled) (DocsHave Spelled) (bare_leaves S) doc_lines x)) (derived_document (asked_after (leaves_have Spelled) (bare_leaves S)) DocsFine made xs x h d)

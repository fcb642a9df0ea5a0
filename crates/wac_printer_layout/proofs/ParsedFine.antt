-- The items of a source without rejected characters are what a derivation needs to be printed.
use Rattle.wac_printer_layout.proofs.Common.{◌≡◌, ℕ, ◌+◌, List, [], ◌∷◌, ◌++◌, map, take, drop, sym, refl, ap, ◌∙◌, subst, Option, Some, None, Result, Ok, AllByRecursion, trim, lines, take-append-drop, Item, Doc, first_item, items_from, items, slice, token_of, Token, Error, bytes_back, ordered, AreBytes, token_found, start_of, items_none, items_some, Document, Derives, document}
use Rattle.wac_lexer.proofs.Unfolded.{made}
use Rattle.wac_lexer.specs.First.{IsFirst}
use Rattle.wac_lexer.specs.First.IsFirst.{comment, quote, token, character}
use Rattle.wac_lexer.proofs.Firsts.{first_meant}
use Rattle.wac_printer_layout.specs.Accepted.{IsAccepted, ItemIsAccepted}
use Rattle.wac_printer_layout.specs.Joins.{IsDocLine}
use Rattle.wac_printer_layout.specs.Bare.{doc_line, doc_lines, bare_document}
use Rattle.wac_printer_layout.specs.Texts.{Spelled, DocsHave, DocumentHas}
use Rattle.wac_printer_layout.proofs.Accepted.{doc_lines_are}
use Rattle.wac_printer_layout.proofs.AcceptedItems.{items_accepted}
use Rattle.wac_printer_layout.proofs.Bytes.{utf8_bytes}
use Rattle.wac_printer_layout.proofs.DocumentsBack.{texts_sliced}
use Rattle.wac_printer_layout.proofs.Fined.{ItemFine, derived_fine}

-- the token of an item is its text's
abbrev IsTokenOf : Item → Type 0
IsTokenOf y = (k : Token) → y.token ≡ Ok k → token_of y.text ≡ Some k

first_token : (text : List ℕ) (item : Result Token Error) (n : ℕ) → IsFirst text item n → (k : Token) → item ≡ Ok k → token_of (take n text) ≡ Some k
first_token text item n (comment o) k e = absurd cc
first_token text item n (quote q) k e = absurd cc
first_token text item n (token {found = found} o l) k e = let same : found ≡ k = cc in token_found (take n text) found l.is ∙ ap Some same
first_token text item n (character o q none) k e = absurd cc

tokens_known : (source : List ℕ) → AreBytes source → (xs : List Item) (place : ℕ) → items_from source place ≡ xs → AllByRecursion IsTokenOf xs
tokens_known source bytes [] place e = tt
tokens_known source bytes (x ∷ xs) place e = go (first_item text) refl (λ next e. tokens_known source bytes xs next e)
  where
    start : ℕ
    start = start_of source place

    text : List ℕ
    text = drop start source

    known : AreBytes text
    known = bytes_back (take start source) text (subst AreBytes (sym (take-append-drop start source)) bytes)

    go : (found : Option (Result Token Error × ℕ)) → first_item text ≡ found → ((next : ℕ) → items_from source next ≡ xs → AllByRecursion IsTokenOf xs) → AllByRecursion IsTokenOf (x ∷ xs)
    go None f later = let none : [] ≡ x ∷ xs = sym (items_none source place f) ∙ e in absurd cc
    go (Some found) f later =
        let same : made source place found ∷ items_from source (start + found.1) ≡ x ∷ xs = sym (items_some source place found f) ∙ e in
        let first : made source place found ≡ x = cc in
        let others : items_from source (start + found.1) ≡ xs = cc in
        (subst IsTokenOf first (first_token text found.0 found.1 (first_meant text found.0 found.1 known f)), later (start + found.1) others)

-- the lines of accepted docs
lines_of_one : (ls : List (List ℕ)) → AllByRecursion (λ l. IsDocLine (trim l)) ls → DocsHave Spelled (map doc_line ls)
lines_of_one [] h = tt
lines_of_one (l ∷ ls) h = (h.0, lines_of_one ls h.1)

both : (a b : List Doc) → DocsHave Spelled a → DocsHave Spelled b → DocsHave Spelled (a ++ b)
both [] b ha hb = hb
both (d ∷ a) b ha hb = (ha.0, both a b ha.1 hb)

docs_spelled : (docs : List Doc) → AllByRecursion (λ d. IsAccepted d.comment) docs → DocsHave Spelled (doc_lines docs)
unfolding doc_lines
docs_spelled [] h = tt
docs_spelled (d ∷ docs) h = both (map doc_line (lines d.comment)) (doc_lines docs) (lines_of_one (lines d.comment) (doc_lines_are d.comment h.0)) (docs_spelled docs h.1)

together : (source : List ℕ) (xs : List Item) → AllByRecursion IsTokenOf xs → AllByRecursion (λ y. y.text ≡ slice source y.span) xs → AllByRecursion ItemIsAccepted xs → AllByRecursion (ItemFine source) xs
together source [] t s a = tt
together source (x ∷ xs) t s a = ((t.0, s.0, a.0.0, docs_spelled x.docs a.0.1), together source xs t.1 s.1 a.1)

pub items_fine : (source : List ℕ) → IsAccepted source → AllByRecursion (ItemFine source) (items source)
items_fine source h =
    together source (items source) (tokens_known source (utf8_bytes source h.0) (items source) 0 refl) (texts_sliced source (items source) 0 (ordered source h.0)) (items_accepted source h)

pub parsed_spelled : (source : List ℕ) (tree : Document) → IsAccepted source → Derives document (items source) tree → DocumentHas Spelled (bare_document doc_lines source tree)
parsed_spelled source tree h d = derived_fine source (items source) tree (items_fine source h) d

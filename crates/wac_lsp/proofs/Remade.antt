-- The documents after changes.
use Rattle.std.proofs.Common.{◌≡◌, refl, sym, subst, ℕ, Bool, List, [], ◌∷◌, ◌++◌, Some, None}
use Rattle.std.specs.Prelude.{MatchOption, Option, String, ℤ, string_bytes}
use Rattle.std.specs.declared.alloc.Global.{Global}
use Rattle.wac_positions.specs.declared.place.ColumnUnit.{ColumnUnit}
use Rattle.wac_lsp_messages.specs.declared.notice.Change.{Change}
use Rattle.wac_lsp_texts.specs.Changed.{Changes}
use Rattle.wac_lsp.specs.declared.documents.Document.{Document}
use Rattle.wac_lsp.specs.Opened.{Makes, Puts, Remakes, others, text_in}

-- a document comes last
pub put_last : (uri text : String Global) (version : Option ℤ) (faulty : Bool) (old new : List Document)
    → new ≡ others (string_bytes uri) old ++ record { uri = uri; version = version; text = text; is_faulty = faulty } ∷ [] → Puts (string_bytes uri) (string_bytes text) old new
put_last uri text version faulty old new last = record { document = record { uri = uri; version = version; text = text; is_faulty = faulty }; named = refl; holds = refl; last = last }

-- the changes are of the text that is found
pub makes_of : (unit : ColumnUnit) (uri : List ℕ) (changes : List Change) (documents : List Document) (before after : List ℕ) → text_in uri documents ≡ Some before → Changes unit before changes after → Makes unit uri changes documents after
makes_of unit uri changes documents before after found makes = record { before = before; found = found; makes = makes }

-- the document of the name is changed
pub remade : (unit : ColumnUnit) (uri : List ℕ) (changes : List Change) (old new : List Document) (after : List ℕ) → Makes unit uri changes old after → Puts uri after old new → Remakes unit uri changes old new
remade unit uri changes old new after makes puts =
    subst (λ found. MatchOption found (new ≡ old) (λ before. (after : List ℕ) × Changes unit before changes after × Puts uri after old new)) (sym makes.found) (after, makes.makes, puts)

-- there is none
pub none_remade : (unit : ColumnUnit) (uri : List ℕ) (changes : List Change) (old new : List Document) → text_in uri old ≡ None → new ≡ old → Remakes unit uri changes old new
none_remade unit uri changes old new none same =
    subst (λ found. MatchOption found (new ≡ old) (λ before. (after : List ℕ) × Changes unit before changes after × Puts uri after old new)) (sym none) same

-- The documents that a client has open.
use Rattle.std.specs.Prelude.{◌≡◌, ℕ, List, [], ◌∷◌, ◌++◌, Bool, not, filter, find, Option, Some, None, is_none, option_map, MatchOption, string_bytes, if◌then◌else◌}
use Rattle.std.specs.Str.{bytes_eq}
use Rattle.wac_positions.specs.declared.place.ColumnUnit.{ColumnUnit}
use Rattle.wac_lsp_messages.specs.declared.message.Message.{Message}
use Rattle.wac_lsp_messages.specs.declared.message.Message.TheVariants as messages
use Rattle.wac_lsp_messages.specs.declared.notice.Change.{Change}
use Rattle.wac_lsp_messages.specs.declared.notice.Notice.{Notice}
use Rattle.wac_lsp_messages.specs.declared.notice.Notice.TheVariants as notices
use Rattle.wac_lsp_texts.specs.Changed.{Changes}
use Rattle.wac_lsp.specs.declared.documents.Document.{Document}
use Rattle.wac_lsp.specs.declared.server.Phase.{Phase}
use Rattle.wac_lsp.specs.declared.server.Phase.TheVariants as phases
use Rattle.wac_lsp.specs.declared.server.Server.{Server}

-- whether a document has this name
abbrev pub is_named : List ℕ → Document → Bool
is_named uri document = bytes_eq (string_bytes document.uri) uri

-- the document of a name
abbrev pub document_in : List ℕ → List Document → Option Document
document_in uri documents = find (is_named uri) documents

-- whether a change of a document couldn't be read, so that its text isn't the client's
abbrev pub is_lost : Document → Bool
is_lost document = is_none document.version

-- a document, if its text is known
abbrev pub known : Option Document → Option Document
known None = None
known (Some document) = if is_lost document then None else Some document

-- the text of the document of a name
abbrev pub text_in : List ℕ → List Document → Option (List ℕ)
text_in uri documents = option_map (λ document. string_bytes document.text) (document_in uri documents)

-- the documents of other names
abbrev pub others : List ℕ → List Document → List Document
others uri documents = filter (λ document. not (is_named uri document)) documents

-- the documents with this one in the place of the one of its name, if there is one
abbrev pub with_document : Document → List Document → List Document
with_document document documents = others (string_bytes document.uri) documents ++ document ∷ []

-- a document of this name and this text comes in the place of the one of its name, or is added
pub record Puts (uri text : List ℕ) (old new : List Document) : Type 0 where
  pub document : Document
  pub named : string_bytes document.uri ≡ uri
  pub holds : string_bytes document.text ≡ text
  pub last : new ≡ others uri old ++ document ∷ []

-- the changes make this text of that of the document of a name
pub record Makes (unit : ColumnUnit) (uri : List ℕ) (changes : List Change)
    (documents : List Document) (after : List ℕ) : Type 0 where
  pub before : List ℕ
  pub found : text_in uri documents ≡ Some before
  pub makes : Changes unit before changes after

-- the document of a name has the text that the changes make of its old one; where there is none, all stay
abbrev pub Remakes : ColumnUnit → List ℕ → List Change → List Document → List Document → Type 0
Remakes unit uri changes old new =
    MatchOption (text_in uri old) (new ≡ old)
    (λ before. (after : List ℕ) × Changes unit before changes after × Puts uri after old new)

-- what a notification makes of the open documents
abbrev pub Leaves : ColumnUnit → Notice → List Document → List Document → Type 0
Leaves unit (notices.Opened uri version text) old new = Puts (string_bytes uri) (string_bytes text) old new
Leaves unit (notices.Changed uri version changes) old new = Remakes unit (string_bytes uri) changes.items old new
-- of a change that can't be read nothing is known: the text stays
Leaves unit (notices.Lost uri) old new = Remakes unit (string_bytes uri) [] old new
Leaves unit (notices.Closed uri) old new = new ≡ others (string_bytes uri) old
Leaves unit notices.Initialized old new = new ≡ old
Leaves unit notices.Exit old new = new ≡ old
Leaves unit (notices.FilesChanged uris) old new = new ≡ old
Leaves unit (notices.FoldersChanged added removed) old new = new ≡ old
Leaves unit notices.Other old new = new ≡ old

-- the same in each phase: all stay before initialize and after shutdown
abbrev pub LeavesIn : Phase → ColumnUnit → Notice → List Document → List Document → Type 0
LeavesIn phases.New unit notice old new = new ≡ old
LeavesIn phases.Running unit notice old new = Leaves unit notice old new
LeavesIn phases.ShutDown unit notice old new = new ≡ old

-- what a message makes of the open documents: only notifications change them
abbrev pub Holds : Phase → ColumnUnit → Message → List Document → List Document → Type 0
Holds phase unit (messages.Notification notice) old new = LeavesIn phase unit notice old new
Holds phase unit (messages.Request id call) old new = new ≡ old
Holds phase unit messages.Reply old new = new ≡ old
Holds phase unit (messages.Wrong why) old new = new ≡ old

-- what a message makes of the open documents of a server
abbrev pub ServerHolds : Server → Server → Message → Type 0
ServerHolds old new message = Holds old.phase old.unit message old.documents.items new.documents.items

-- What notifications tell, by their JSON.
use Rattle.std.specs.Prelude.{◌≡◌, ◌⊎◌, ℕ, List, codes, map, Option, Some, None, option_and_then, option_map, string_bytes}
use Rattle.std.specs.Option.{option_zip}
use Rattle.serde_json.specs.Data.{Data, null}
use Rattle.serde_json.specs.Find.{get}
use Rattle.wac_lsp_messages.specs.Reading.{document_text_in, each_in, range_of, text_in, uri_in, version_in}
use Rattle.wac_lsp_messages.specs.declared.notice.Change.{Change}
use Rattle.wac_lsp_messages.specs.declared.notice.Notice.{Notice}
use Rattle.wac_lsp_messages.specs.declared.notice.Notice.TheVariants as notices
use Rattle.wac_lsp_messages.specs.declared.notice.Range.{Range}

-- the notifications that the server knows
pub data KnownNotice : Type 0 where
  initialized : KnownNotice
  exit : KnownNotice
  opened : KnownNotice
  changed : KnownNotice
  closed : KnownNotice
  files_changed : KnownNotice
  folders_changed : KnownNotice

-- the method of each
abbrev pub notice_method : KnownNotice → List ℕ
notice_method initialized = codes "initialized"
notice_method exit = codes "exit"
notice_method opened = codes "textDocument/didOpen"
notice_method changed = codes "textDocument/didChange"
notice_method closed = codes "textDocument/didClose"
notice_method files_changed = codes "workspace/didChangeWatchedFiles"
notice_method folders_changed = codes "workspace/didChangeWorkspaceFolders"

-- what a change replaces: all, where its range is missing or null
abbrev pub replaced : Option Data → Option (Option Range)
replaced None = Some None
replaced (Some null) = Some None
replaced (Some given) = option_map Some (range_of given)

-- a change: what it replaces, and the text in its place
abbrev pub change_of : Data → Option (Option Range × List ℕ)
change_of given = option_zip (replaced (get (codes "range") given)) (text_in (codes "text") given)

-- the changes of a notification
abbrev pub changes_in : Data → Option (List (Option Range × List ℕ))
changes_in params = each_in change_of (codes "contentChanges") params

-- what a change says
abbrev pub said : Change → Option Range × List ℕ
said change = (change.range, string_bytes change.text)

-- the URIs of the folders that a field of the event lists
abbrev pub folders_in : List ℕ → Data → Option (List (List ℕ))
folders_in name params = option_and_then (each_in (text_in (codes "uri")) name) (get (codes "event") params)

-- the URIs of the files that were changed
abbrev pub files_in : Data → Option (List (List ℕ))
files_in params = each_in (text_in (codes "uri")) (codes "changes") params

-- parameters lack what a notification needs
abbrev pub NoticeLacks : KnownNotice → Data → Type 0
NoticeLacks initialized params = ⊥
NoticeLacks exit params = ⊥
NoticeLacks opened params =
    (uri_in params ≡ None) ⊎ ((version_in params ≡ None) ⊎ (document_text_in (codes "text") params ≡ None))
NoticeLacks changed params = uri_in params ≡ None
NoticeLacks closed params = uri_in params ≡ None
NoticeLacks files_changed params = ⊥
NoticeLacks folders_changed params =
    (folders_in (codes "added") params ≡ None) ⊎ (folders_in (codes "removed") params ≡ None)

-- What a notification tells, by its method and the fields of its parameters. A change whose version or whose changes
-- can't be read leaves the text unknown; another method, and one that lacks what it needs, tells nothing.
abbrev pub IsNoticeOf : List ℕ → Data → Notice → Type 0
IsNoticeOf method params notices.Initialized = method ≡ notice_method initialized
IsNoticeOf method params notices.Exit = method ≡ notice_method exit
IsNoticeOf method params (notices.Opened uri version text) =
    (method ≡ notice_method opened) × (uri_in params ≡ Some (string_bytes uri)) × (version_in params ≡ Some version)
    × (document_text_in (codes "text") params ≡ Some (string_bytes text))
IsNoticeOf method params (notices.Changed uri version changes) =
    (method ≡ notice_method changed) × (uri_in params ≡ Some (string_bytes uri)) × (version_in params ≡ Some version)
    × (changes_in params ≡ Some (map said changes.items))
IsNoticeOf method params (notices.Lost uri) =
    (method ≡ notice_method changed) × (uri_in params ≡ Some (string_bytes uri))
    × ((version_in params ≡ None) ⊎ (changes_in params ≡ None))
IsNoticeOf method params (notices.Closed uri) =
    (method ≡ notice_method closed) × (uri_in params ≡ Some (string_bytes uri))
IsNoticeOf method params (notices.FilesChanged uris) =
    (method ≡ notice_method files_changed) × (option_map (λ all. map string_bytes all.items) uris ≡ files_in params)
IsNoticeOf method params (notices.FoldersChanged added removed) =
    (method ≡ notice_method folders_changed)
    × (folders_in (codes "added") params ≡ Some (map string_bytes added.items))
    × (folders_in (codes "removed") params ≡ Some (map string_bytes removed.items))
IsNoticeOf method params notices.Other =
    ((known : KnownNotice) → ¬ (method ≡ notice_method known))
    ⊎ ((known : KnownNotice) × (method ≡ notice_method known) × NoticeLacks known params)

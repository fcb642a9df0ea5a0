-- Notifications that tell nothing, since they lack something.
use Rattle.std.proofs.Common.{◌≡◌, sym, refl, inl, inr, None}
use Rattle.std.specs.Prelude.{codes}
use Rattle.serde_json.specs.Data.{Data}
use Rattle.wac_lsp_messages.specs.Notices.{IsNoticeOf, NoticeLacks, KnownNotice, folders_in, notice_method}
use Rattle.wac_lsp_messages.specs.Reading.{document_text_in, uri_in, version_in}
use Rattle.wac_lsp_messages.specs.Notices.{opened, changed, closed, folders_changed}
use Rattle.wac_lsp_messages.specs.declared.notice.Notice.TheVariants.{Other}

-- what lacks something tells nothing
lacks : (known : KnownNotice) (params : Data) → NoticeLacks known params → IsNoticeOf (notice_method known) params Other
lacks known params why = inr (known, refl, why)

-- what was opened has no version
pub opened_no_version : (params : Data) → None ≡ version_in params → IsNoticeOf (codes "textDocument/didOpen") params Other
opened_no_version params none = lacks opened params (inr (inl (sym none)))

-- it has no text
pub opened_no_text : (params : Data) → None ≡ document_text_in (codes "text") params → IsNoticeOf (codes "textDocument/didOpen") params Other
opened_no_text params none = lacks opened params (inr (inr (sym none)))

-- it has no URI
pub opened_no_uri : (params : Data) → None ≡ uri_in params → IsNoticeOf (codes "textDocument/didOpen") params Other
opened_no_uri params none = lacks opened params (inl (sym none))

-- what was changed has no URI
pub changed_no_uri : (params : Data) → None ≡ uri_in params → IsNoticeOf (codes "textDocument/didChange") params Other
changed_no_uri params none = lacks changed params (sym none)

-- what was closed has no URI
pub closed_no_uri : (params : Data) → None ≡ uri_in params → IsNoticeOf (codes "textDocument/didClose") params Other
closed_no_uri params none = lacks closed params (sym none)

-- what was opened among folders isn't listed
pub folders_none_added : (params : Data) → None ≡ folders_in (codes "added") params → IsNoticeOf (codes "workspace/didChangeWorkspaceFolders") params Other
folders_none_added params none = lacks folders_changed params (inl (sym none))

-- what was closed among folders isn't
pub folders_none_removed : (params : Data) → None ≡ folders_in (codes "removed") params → IsNoticeOf (codes "workspace/didChangeWorkspaceFolders") params Other
folders_none_removed params none = lacks folders_changed params (inr (sym none))

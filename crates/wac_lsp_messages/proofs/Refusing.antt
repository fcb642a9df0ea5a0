-- Requests that are refused: for what their parameters lack, or for their method.
use Rattle.std.proofs.Common.{◌≡◌, sym, refl, subst, ℕ, List, inl, inr, None, Ok, Err}
use Rattle.std.specs.Prelude.{Result, IfOk, codes}
use Rattle.serde_json.specs.Data.{Data}
use Rattle.wac_lsp_messages.specs.Calls.{DocumentLacks, IsCallOf, IsDocumentRead, IsPlaceRead, IsQuestionOf, IsRefusedBy, IsTopicRead, KnownRequest, PlaceLacks, PlaceTopic, RequestLacks, Topic, TopicLacks, declaration_in, options_in, place_method, position_in, positions_in, request_method, topic_method}
use Rattle.wac_lsp_messages.specs.Calls.{code_actions, completions, definition, folding_ranges, formatting, highlights, hover, initialize, of_document, of_places, prepare_rename, range_formatting, references, rename, selection_ranges, semantic_tokens, shutdown, symbols, workspace_symbols}
use Rattle.wac_lsp_messages.specs.Reading.{range_in, text_in, uri_in}
use Rattle.wac_lsp_messages.specs.declared.call.Call.{Call}
use Rattle.wac_lsp_messages.specs.declared.question.Question.{Question}
use Rattle.wac_lsp_messages.specs.declared.question.Question.TheVariants as questions
use Rattle.wac_lsp_messages.specs.declared.refusal.Code.{Code}
use Rattle.wac_lsp_messages.specs.declared.refusal.Code.TheVariants as refusals
use Rattle.wac_lsp_messages.specs.declared.refusal.Refusal.{Refusal}

place_lacks : (topic : PlaceTopic) (params : Data) → PlaceLacks topic params → IsRefusedBy place_method PlaceLacks (place_method topic) params refusals.InvalidParams
place_lacks topic params why = (topic, refl, why)

topic_lacks : (topic : Topic) (params : Data) → TopicLacks topic params → IsRefusedBy topic_method TopicLacks (topic_method topic) params refusals.InvalidParams
topic_lacks topic params why = (topic, refl, why)

-- questions about no place
pub selections_nowhere : (params : Data) → None ≡ positions_in params → IsRefusedBy place_method PlaceLacks (codes "textDocument/selectionRange") params refusals.InvalidParams
selections_nowhere params none = place_lacks selection_ranges params (sym none)

pub completions_nowhere : (params : Data) → None ≡ position_in params → IsRefusedBy place_method PlaceLacks (codes "textDocument/completion") params refusals.InvalidParams
completions_nowhere params none = place_lacks completions params (sym none)

pub definition_nowhere : (params : Data) → None ≡ position_in params → IsRefusedBy place_method PlaceLacks (codes "textDocument/definition") params refusals.InvalidParams
definition_nowhere params none = place_lacks definition params (sym none)

pub references_nowhere : (params : Data) → None ≡ position_in params → IsRefusedBy place_method PlaceLacks (codes "textDocument/references") params refusals.InvalidParams
references_nowhere params none = place_lacks references params (inl (sym none))

pub highlights_nowhere : (params : Data) → None ≡ position_in params → IsRefusedBy place_method PlaceLacks (codes "textDocument/documentHighlight") params refusals.InvalidParams
highlights_nowhere params none = place_lacks highlights params (sym none)

pub hover_nowhere : (params : Data) → None ≡ position_in params → IsRefusedBy place_method PlaceLacks (codes "textDocument/hover") params refusals.InvalidParams
hover_nowhere params none = place_lacks hover params (sym none)

pub prepare_rename_nowhere : (params : Data) → None ≡ position_in params → IsRefusedBy place_method PlaceLacks (codes "textDocument/prepareRename") params refusals.InvalidParams
prepare_rename_nowhere params none = place_lacks prepare_rename params (sym none)

pub rename_nowhere : (params : Data) → None ≡ position_in params → IsRefusedBy place_method PlaceLacks (codes "textDocument/rename") params refusals.InvalidParams
rename_nowhere params none = place_lacks rename params (inl (sym none))

-- it isn't said whether the place where the name is bound is asked for
pub references_undecided : (params : Data) → None ≡ declaration_in params → IsRefusedBy place_method PlaceLacks (codes "textDocument/references") params refusals.InvalidParams
references_undecided params none = place_lacks references params (inr (sym none))

-- there is no new name
pub rename_unnamed : (params : Data) → None ≡ text_in (codes "newName") params → IsRefusedBy place_method PlaceLacks (codes "textDocument/rename") params refusals.InvalidParams
rename_unnamed params none = place_lacks rename params (inr (sym none))

-- it isn't said how a document is to be laid out, or which part
pub formatting_anyhow : (params : Data) → None ≡ options_in params → IsRefusedBy topic_method TopicLacks (codes "textDocument/formatting") params refusals.InvalidParams
formatting_anyhow params none = topic_lacks formatting params (sym none)

pub range_formatting_anyhow : (params : Data) → None ≡ options_in params → IsRefusedBy topic_method TopicLacks (codes "textDocument/rangeFormatting") params refusals.InvalidParams
range_formatting_anyhow params none = topic_lacks range_formatting params (inl (sym none))

pub range_formatting_nowhere : (params : Data) → None ≡ range_in (codes "range") params → IsRefusedBy topic_method TopicLacks (codes "textDocument/rangeFormatting") params refusals.InvalidParams
range_formatting_nowhere params none = topic_lacks range_formatting params (inr (sym none))

-- or which part is to be mended
pub code_actions_nowhere : (params : Data) → None ≡ range_in (codes "range") params → IsRefusedBy topic_method TopicLacks (codes "textDocument/codeAction") params refusals.InvalidParams
code_actions_nowhere params none = topic_lacks code_actions params (sym none)

-- which symbols are asked for isn't said
pub symbols_of_nothing : (params : Data) → None ≡ text_in (codes "query") params → IsRefusedBy request_method RequestLacks (codes "workspace/symbol") params refusals.InvalidParams
symbols_of_nothing params none = (workspace_symbols, refl, sym none)

-- a method that asks nothing else about a document
pub record IsOfPlaces (method : List ℕ) : Type 0 where
  pub no_formatting : ¬ (method ≡ codes "textDocument/formatting")
  pub no_range_formatting : ¬ (method ≡ codes "textDocument/rangeFormatting")
  pub no_symbols : ¬ (method ≡ codes "textDocument/documentSymbol")
  pub no_semantic_tokens : ¬ (method ≡ codes "textDocument/semanticTokens/full")
  pub no_folding_ranges : ¬ (method ≡ codes "textDocument/foldingRange")
  pub no_code_actions : ¬ (method ≡ codes "textDocument/codeAction")

no_topic : (method : List ℕ) → IsOfPlaces method → ((topic : PlaceTopic) → ¬ (method ≡ place_method topic)) → (topic : Topic) → ¬ (method ≡ topic_method topic)
no_topic method none of_no_place formatting = none.no_formatting
no_topic method none of_no_place range_formatting = none.no_range_formatting
no_topic method none of_no_place symbols = none.no_symbols
no_topic method none of_no_place semantic_tokens = none.no_semantic_tokens
no_topic method none of_no_place folding_ranges = none.no_folding_ranges
no_topic method none of_no_place code_actions = none.no_code_actions
no_topic method none of_no_place (of_places topic) = of_no_place topic

topic_refused : (method : List ℕ) (params : Data) → IsOfPlaces method → (code : Code) → IsRefusedBy place_method PlaceLacks method params code → IsRefusedBy topic_method TopicLacks method params code
topic_refused method params none refusals.MethodNotFound refused = no_topic method none refused
topic_refused method params none refusals.InvalidParams refused = (of_places refused.0, refused.1, refused.2)
topic_refused method params none code refused = absurd refused

-- what is read of such a method is what is read of the request
pub topic_of_places : {E : Type 0} (method : List ℕ) (params : Data) (result : Result (Result Question Refusal) E) → IsOfPlaces method → IfOk result (IsPlaceRead method params) → IfOk result (IsTopicRead method params)
topic_of_places method params (Ok (Ok question)) none read = read
topic_of_places method params (Ok (Err why)) none read = topic_refused method params none why.code read
topic_of_places method params (Err error) none read = tt

-- each question has the method of a topic
topic_of : (method : List ℕ) (params : Data) (question : Question) → IsQuestionOf method params question → (topic : Topic) × (method ≡ topic_method topic)
topic_of method params (questions.Formatting options) asked = (formatting, asked.0)
topic_of method params (questions.RangeFormatting range options) asked = (range_formatting, asked.0)
topic_of method params questions.Symbols asked = (symbols, asked)
topic_of method params questions.SemanticTokens asked = (semantic_tokens, asked)
topic_of method params questions.FoldingRanges asked = (folding_ranges, asked)
topic_of method params (questions.SelectionRanges places) asked = (of_places selection_ranges, asked.0)
topic_of method params (questions.CodeActions range) asked = (code_actions, asked.0)
topic_of method params (questions.Completions place) asked = (of_places completions, asked.0)
topic_of method params (questions.Definition place) asked = (of_places definition, asked.0)
topic_of method params (questions.References place declaration) asked = (of_places references, asked.0)
topic_of method params (questions.Highlights place) asked = (of_places highlights, asked.0)
topic_of method params (questions.Hover place) asked = (of_places hover, asked.0)
topic_of method params (questions.PrepareRename place) asked = (of_places prepare_rename, asked.0)
topic_of method params (questions.Rename place name) asked = (of_places rename, asked.0)

-- a question about no document
pub question_of_nothing : (method : List ℕ) (params : Data) (read : Result Question Refusal) (question : Question) → read ≡ Ok question → IsTopicRead method params read → None ≡ uri_in params → IsRefusedBy topic_method DocumentLacks method params refusals.InvalidParams
question_of_nothing method params read question is asked none =
    let topic = topic_of method params question (subst (λ it. IsTopicRead method params it) is asked) in
    (topic.0, topic.1, inl (sym none))

-- a method that doesn't ask something else
pub record IsOfDocument (method : List ℕ) : Type 0 where
  pub no_initialize : ¬ (method ≡ codes "initialize")
  pub no_shutdown : ¬ (method ≡ codes "shutdown")
  pub no_workspace_symbols : ¬ (method ≡ codes "workspace/symbol")

no_request : (method : List ℕ) → IsOfDocument method → ((topic : Topic) → ¬ (method ≡ topic_method topic)) → (known : KnownRequest) → ¬ (method ≡ request_method known)
no_request method none of_no_document initialize = none.no_initialize
no_request method none of_no_document shutdown = none.no_shutdown
no_request method none of_no_document workspace_symbols = none.no_workspace_symbols
no_request method none of_no_document (of_document topic) = of_no_document topic

request_refused : (method : List ℕ) (params : Data) → IsOfDocument method → (code : Code) → IsRefusedBy topic_method DocumentLacks method params code → IsRefusedBy request_method RequestLacks method params code
request_refused method params none refusals.MethodNotFound refused = no_request method none refused
request_refused method params none refusals.InvalidParams refused = (of_document refused.0, refused.1, refused.2)
request_refused method params none code refused = absurd refused

-- what is read of such a method is what the request asks for
pub request_of_document : {E : Type 0} (method : List ℕ) (params : Data) (result : Result (Result Call Refusal) E) → IsOfDocument method → IfOk result (IsDocumentRead method params) → IfOk result (IsCallOf method params)
request_of_document method params (Ok (Ok call)) none read = read
request_of_document method params (Ok (Err why)) none read = request_refused method params none why.code read
request_of_document method params (Err error) none read = tt

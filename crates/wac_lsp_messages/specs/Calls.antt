-- What requests ask for, by their JSON.
use Rattle.std.specs.Prelude.{◌≡◌, ◌⊎◌, ℕ, Bool, List, codes, Option, Some, None, Result, Ok, Err, is_some, option_and_then, string_bytes}
use Rattle.serde_json.specs.Data.{Data}
use Rattle.serde_json.specs.Find.{as_object, get}
use Rattle.wac_positions.specs.declared.place.Place.{Place}
use Rattle.wac_lsp_messages.specs.Reading.{each_in, flag_in, options_of, place_in, place_of, range_in, text_in, uri_in}
use Rattle.wac_lsp_messages.specs.declared.call.Call.{Call}
use Rattle.wac_lsp_messages.specs.declared.call.Call.TheVariants as calls
use Rattle.wac_lsp_messages.specs.declared.question.FormattingOptions.{FormattingOptions}
use Rattle.wac_lsp_messages.specs.declared.question.Question.{Question}
use Rattle.wac_lsp_messages.specs.declared.question.Question.TheVariants as questions
use Rattle.wac_lsp_messages.specs.declared.refusal.Code.{Code}
use Rattle.wac_lsp_messages.specs.declared.refusal.Code.TheVariants as refusals
use Rattle.wac_lsp_messages.specs.declared.refusal.Refusal.{Refusal}

-- the place that a question is about
abbrev pub position_in : Data → Option Place
position_in params = place_in (codes "position") params

-- the places that a question is about
abbrev pub positions_in : Data → Option (List Place)
positions_in params = each_in place_of (codes "positions") params

-- how a document is to be laid out
abbrev pub options_in : Data → Option FormattingOptions
options_in params = option_and_then options_of (get (codes "options") params)

-- whether the place where a name is bound is asked for too
abbrev pub declaration_in : Data → Option Bool
declaration_in params = option_and_then (flag_in (codes "includeDeclaration")) (get (codes "context") params)

-- what is asked about places of a document
pub data PlaceTopic : Type 0 where
  selection_ranges : PlaceTopic
  completions : PlaceTopic
  definition : PlaceTopic
  references : PlaceTopic
  highlights : PlaceTopic
  hover : PlaceTopic
  prepare_rename : PlaceTopic
  rename : PlaceTopic

-- what is asked about a document
pub data Topic : Type 0 where
  formatting : Topic
  range_formatting : Topic
  symbols : Topic
  semantic_tokens : Topic
  folding_ranges : Topic
  code_actions : Topic
  of_places : PlaceTopic → Topic

-- the requests that the server knows
pub data KnownRequest : Type 0 where
  initialize : KnownRequest
  shutdown : KnownRequest
  workspace_symbols : KnownRequest
  of_document : Topic → KnownRequest

-- the method that asks it about places of a document
abbrev pub place_method : PlaceTopic → List ℕ
place_method selection_ranges = codes "textDocument/selectionRange"
place_method completions = codes "textDocument/completion"
place_method definition = codes "textDocument/definition"
place_method references = codes "textDocument/references"
place_method highlights = codes "textDocument/documentHighlight"
place_method hover = codes "textDocument/hover"
place_method prepare_rename = codes "textDocument/prepareRename"
place_method rename = codes "textDocument/rename"

-- the method that asks it about a document
abbrev pub topic_method : Topic → List ℕ
topic_method formatting = codes "textDocument/formatting"
topic_method range_formatting = codes "textDocument/rangeFormatting"
topic_method symbols = codes "textDocument/documentSymbol"
topic_method semantic_tokens = codes "textDocument/semanticTokens/full"
topic_method folding_ranges = codes "textDocument/foldingRange"
topic_method code_actions = codes "textDocument/codeAction"
topic_method (of_places topic) = place_method topic

-- the method of a request that the server knows
abbrev pub request_method : KnownRequest → List ℕ
request_method initialize = codes "initialize"
request_method shutdown = codes "shutdown"
request_method workspace_symbols = codes "workspace/symbol"
request_method (of_document topic) = topic_method topic

-- The parameters lack what a question about places needs: the place, or what else it is about.
abbrev pub PlaceLacks : PlaceTopic → Data → Type 0
PlaceLacks selection_ranges params = positions_in params ≡ None
PlaceLacks references params = (position_in params ≡ None) ⊎ (declaration_in params ≡ None)
PlaceLacks rename params = (position_in params ≡ None) ⊎ (text_in (codes "newName") params ≡ None)
PlaceLacks topic params = position_in params ≡ None

-- The parameters lack what a question about a document needs, beside the document.
abbrev pub TopicLacks : Topic → Data → Type 0
TopicLacks formatting params = options_in params ≡ None
TopicLacks range_formatting params = (options_in params ≡ None) ⊎ (range_in (codes "range") params ≡ None)
TopicLacks code_actions params = range_in (codes "range") params ≡ None
TopicLacks (of_places topic) params = PlaceLacks topic params
TopicLacks topic params = ⊥

-- The parameters lack the document, or what the question about it needs.
abbrev pub DocumentLacks : Topic → Data → Type 0
DocumentLacks topic params = (uri_in params ≡ None) ⊎ TopicLacks topic params

-- The parameters lack what a request that the server knows needs.
abbrev pub RequestLacks : KnownRequest → Data → Type 0
RequestLacks workspace_symbols params = text_in (codes "query") params ≡ None
RequestLacks (of_document topic) params = DocumentLacks topic params
RequestLacks known params = ⊥

-- what a request asks about a document, by its method and the fields of its parameters
abbrev pub IsQuestionOf : List ℕ → Data → Question → Type 0
IsQuestionOf method params (questions.Formatting options) =
    (method ≡ topic_method formatting) × (options_in params ≡ Some options)
IsQuestionOf method params (questions.RangeFormatting range options) =
    (method ≡ topic_method range_formatting) × (range_in (codes "range") params ≡ Some range)
    × (options_in params ≡ Some options)
IsQuestionOf method params questions.Symbols = method ≡ topic_method symbols
IsQuestionOf method params questions.SemanticTokens = method ≡ topic_method semantic_tokens
IsQuestionOf method params questions.FoldingRanges = method ≡ topic_method folding_ranges
IsQuestionOf method params (questions.SelectionRanges places) =
    (method ≡ place_method selection_ranges) × (positions_in params ≡ Some places.items)
IsQuestionOf method params (questions.CodeActions range) =
    (method ≡ topic_method code_actions) × (range_in (codes "range") params ≡ Some range)
IsQuestionOf method params (questions.Completions place) =
    (method ≡ place_method completions) × (position_in params ≡ Some place)
IsQuestionOf method params (questions.Definition place) =
    (method ≡ place_method definition) × (position_in params ≡ Some place)
IsQuestionOf method params (questions.References place declaration) =
    (method ≡ place_method references) × (position_in params ≡ Some place) × (declaration_in params ≡ Some declaration)
IsQuestionOf method params (questions.Highlights place) =
    (method ≡ place_method highlights) × (position_in params ≡ Some place)
IsQuestionOf method params (questions.Hover place) =
    (method ≡ place_method hover) × (position_in params ≡ Some place)
IsQuestionOf method params (questions.PrepareRename place) =
    (method ≡ place_method prepare_rename) × (position_in params ≡ Some place)
IsQuestionOf method params (questions.Rename place name) =
    (method ≡ place_method rename) × (position_in params ≡ Some place)
    × (text_in (codes "newName") params ≡ Some (string_bytes name))

-- Why a request is refused, by those who know some methods: it has none of them, or its parameters lack what its method
-- needs.
abbrev pub IsRefusedBy : {K : Type 0} → (K → List ℕ) → (K → Data → Type 0) → List ℕ → Data → Code → Type 0
IsRefusedBy {K} method_of Lacks method params refusals.MethodNotFound = (known : K) → ¬ (method ≡ method_of known)
IsRefusedBy {K} method_of Lacks method params refusals.InvalidParams =
    (known : K) × (method ≡ method_of known) × Lacks known params
IsRefusedBy method_of Lacks method params code = ⊥

-- what is asked about places of a document, or why nothing is
abbrev pub IsPlaceRead : List ℕ → Data → Result Question Refusal → Type 0
IsPlaceRead method params (Ok question) = IsQuestionOf method params question
IsPlaceRead method params (Err why) = IsRefusedBy place_method PlaceLacks method params why.code

-- what is asked about a document, or why nothing is
abbrev pub IsTopicRead : List ℕ → Data → Result Question Refusal → Type 0
IsTopicRead method params (Ok question) = IsQuestionOf method params question
IsTopicRead method params (Err why) = IsRefusedBy topic_method TopicLacks method params why.code

-- a client says what it is where its capabilities are an object
abbrev pub has_capabilities : Data → Bool
has_capabilities params = is_some (option_and_then as_object (get (codes "capabilities") params))

-- What a request asks for, by its method and the fields of its parameters, or why it is refused. What a client says of
-- itself is left open, but that it says it.
abbrev pub IsCallOf : List ℕ → Data → Result Call Refusal → Type 0
IsCallOf method params (Ok (calls.Initialize said)) =
    (method ≡ request_method initialize) × (is_some said ≡ has_capabilities params)
IsCallOf method params (Ok calls.Shutdown) = method ≡ request_method shutdown
IsCallOf method params (Ok (calls.Document uri question)) =
    (uri_in params ≡ Some (string_bytes uri)) × IsQuestionOf method params question
IsCallOf method params (Ok (calls.WorkspaceSymbols query)) =
    (method ≡ request_method workspace_symbols) × (text_in (codes "query") params ≡ Some (string_bytes query))
IsCallOf method params (Err why) = IsRefusedBy request_method RequestLacks method params why.code

-- a request about a document, or why it is none
abbrev pub IsDocumentRead : List ℕ → Data → Result Call Refusal → Type 0
IsDocumentRead method params (Ok call) = IsCallOf method params (Ok call)
IsDocumentRead method params (Err why) = IsRefusedBy topic_method DocumentLacks method params why.code

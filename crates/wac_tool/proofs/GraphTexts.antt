-- What is written of a graph, and what is returned for an error.
use Rattle.wac_tool.proofs.Common.{◌≡◌, ℕ, suc, List, [], ◌∷◌, ◌++◌, map, ⊎_elim, refl, sym, subst, ap, inr, Ok, Err, ◌⊎◌, Result, IfOk, IfErr, alloc_error, document_of, IsTreeOf, Document}
use Rattle.wac_ast.specs.declared.document.Document.{Document as CodeDocument}
use Rattle.wac_graph.specs.Graph.{Parts}
use Rattle.wac_graph.specs.Node.{Node as GraphNode, arguments_in}
use Rattle.wac_graph.specs.Origin.{Numbering}
use Rattle.wac_graph.specs.declared.package_key.PackageKey.{PackageKey}
use Rattle.wac_graph_types.specs.Package.{PackageParts}
use Rattle.wac_resolution.specs.Resolved.{Resolved}
use Rattle.wac_resolution.specs.Resolves.{Resolves}
use Rattle.wac_resolution_errors.specs.Error.{memory}
use Rattle.wac_resolution_errors.specs.ErrorModel.{error_model}
use Rattle.wac_resolution_errors.specs.declared.error.Error.{Error}
use Rattle.wac_resolution_errors.specs.declared.error.Error.TheVariants as errors
use Rattle.wac_resolution_rules.specs.ResolvedDocument.{FirstFailing, EveryNumbering}
use Rattle.wac_resolution_state.specs.Nodes.{composition_of, node_of}
use Rattle.wac_tool_graphs.specs.Lines.{node_line, node_lines, argument_lines, export_lines, graph_lines}
use Rattle.wac_tool_graphs.specs.Alone.{alone, same_rules}
use Rattle.wac_tool.specs.Resolving.{IsGraphText, IsGraphOf, HasGraph, IsRejection, IsErrorOf}
use Rattle.wac_tool.specs.Running.{Writes, Rejects}
use Rattle.wac_tool.specs.declared.command.Command.TheVariants.{Resolve}
use Rattle.wac_tool.specs.declared.error.RunError.{RunError}
use Rattle.wac_tool.specs.declared.error.RunError.TheVariants.{Refused, Input, Output, Memory, NotUtf8}

-- ---- the lines of a graph

-- A numbering of origins for which a graph is read: its lines are the same under each.
abbrev pub any_numbering : Numbering
any_numbering = λ origin. 0

abbrev pub lines_of : Parts → List ℕ
lines_of g = graph_lines (composition_of any_numbering g [])

same_lines : (numbering other : Numbering) (g : Parts) (n : ℕ) (ns : List GraphNode) → node_lines n (map (node_of numbering g) ns) ≡ node_lines n (map (node_of other g) ns)
same_lines numbering other g n [] = refl
same_lines numbering other g n (x ∷ ns) = ap (λ l. node_line n (node_of numbering g x) ++ (argument_lines (arguments_in x.form) ++ l)) (same_lines numbering other g (suc n) ns)

is_text : (document : Document) (g : Parts) → IsGraphOf document g → IsGraphText document (lines_of g)
is_text document g is = λ numbering one. (composition_of numbering g is.0, is.1 numbering one, ap (λ l. l ++ export_lines g.exports) (same_lines any_numbering numbering g 0 g.nodes))

-- The lines of the graph of a source's document are what is written of the source.
pub writes_graph : (source : List ℕ) (g : Parts) → HasGraph source g → Writes Resolve source (lines_of g)
writes_graph source g has = (has.0, has.1, is_text has.0 g has.2)

-- ---- errors

is_memory : (e : Error) → error_model e ≡ memory → e ≡ errors.Memory alloc_error
is_memory (errors.Memory a) h = refl
is_memory _ h = absurd (cc h)

-- An error of resolving names a rule that the document breaks, and has that error's place and text.
pub is_error : (document : Document) (e : Error) (answer : RunError) → EveryNumbering (λ numbering. (error_model e ≡ memory) ⊎ FirstFailing (alone numbering document) document (error_model e)) → IsRejection e answer → IsErrorOf document answer
is_error document e (Refused place message) first is = (error_model e, ((λ m. is.1 (is_memory e m)), (λ numbering one. ⊎_elim (λ m. absurd (is.1 (is_memory e m))) (λ x. x) (first numbering one))), is.0, is.2)
is_error document e (Memory a) first is = tt
is_error document e Input first is = absurd is
is_error document e Output first is = absurd is
is_error document e NotUtf8 first is = absurd is

-- ---- what resolving returns where no package is supplied

-- The graph is the document's.
pub is_graph : (packages : List (PackageKey × PackageParts)) (document : CodeDocument) (r : Resolved) (g : Parts) → packages ≡ [] → g ≡ r.graph
    → Resolves packages same_rules document (Ok r) → IsGraphOf (document_of document) g
is_graph packages document r g none same resolves =
    let alone : Resolves [] same_rules document (Ok r) = subst (λ ps. Resolves ps same_rules document (Ok r)) none resolves in
    subst (λ x. IsGraphOf (document_of document) x) (sym same) alone.graph

-- The error names a rule that the document breaks.
pub is_rejected : (packages : List (PackageKey × PackageParts)) (document : CodeDocument) (e : Error) (answer : RunError) → packages ≡ []
    → Resolves packages same_rules document (Err e) → IsRejection e answer → IsErrorOf (document_of document) answer
is_rejected packages document e answer none resolves is =
    let alone : Resolves [] same_rules document (Err e) = subst (λ ps. Resolves ps same_rules document (Err e)) none resolves in
    is_error (document_of document) e answer (alone.first []) is

-- ---- of a source that has a document

pub has_graph : (source : List ℕ) (document resolver : CodeDocument) (result : Result Parts RunError) → IsTreeOf source (document_of document) → resolver ≡ document
    → IfOk result (λ g. IsGraphOf (document_of resolver) g) → IfOk result (λ g. HasGraph source g)
has_graph source document resolver (Ok g) tree same is = (document_of document, tree, subst (λ d. IsGraphOf (document_of d) g) same is)
has_graph source document resolver (Err e) tree same is = tt

rejects_error : (source : List ℕ) (document : Document) (answer : RunError) → IsTreeOf source document → IsErrorOf document answer → Rejects Resolve source answer
rejects_error source document (Refused place message) tree is = inr (document, tree, is)
rejects_error source document (Memory a) tree is = tt
rejects_error source document Input tree is = absurd is
rejects_error source document Output tree is = absurd is
rejects_error source document NotUtf8 tree is = absurd is

pub rejects_document : (source : List ℕ) (document resolver : CodeDocument) (result : Result Parts RunError) → IsTreeOf source (document_of document) → resolver ≡ document
    → IfErr result (λ e. IsErrorOf (document_of resolver) e) → IfErr result (λ e. Rejects Resolve source e)
rejects_document source document resolver (Ok g) tree same is = tt
rejects_document source document resolver (Err e) tree same is = rejects_error source (document_of document) e tree (subst (λ d. IsErrorOf (document_of d) e) same is)

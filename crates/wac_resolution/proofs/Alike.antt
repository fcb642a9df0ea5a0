-- Layout carries no meaning.
use Rattle.wac_resolution.proofs.Common.{◌≡◌, ℕ, List, [], Result, Ok, Err, sym, PackageParts, Named, PackageKey, Numbering, IsOneToOne, Key, Error, memory, error_model, Composition, Rules, given_to, Describes, DescribeAlike, GraphClause, OnlyClause, describes_once, composition_of}
use Rattle.std.specs.Str.{IsUtf8}
use Rattle.wac_ast_grammar.specs.Slices.{DocumentSlices}
use Rattle.wac_ast_grammar.specs.Spelled.{DocumentSpelled}
use Rattle.wac_ast_grammar.specs.TextTree.{IsTreeOf}
use Rattle.wac_ast_grammar.specs.Tree.{Document}
use Rattle.wac_printer_layout.specs.Bare.{doc_lines}
use Rattle.wac_printer_layout.specs.Reread.{IsReread, read_docs}
use Rattle.wac_resolution_errors.specs.declared.error.Error.{Error as CodeError}
use Rattle.wac_resolution_rules.proofs.Alike.{bare_alike}
use Rattle.wac_resolution.specs.Layout.{SameBareTree, DescribedClause, ReturnedAlike}
use Rattle.wac_resolution.specs.Resolved.{Resolved, by_key, Promised, call}
use Rattle.wac_resolution.proofs.Ending.{Described}

pub same_alike : (document other : Document) → SameBareTree document other → DescribeAlike document other
same_alike document other h = bare_alike h.keep h.other_keep h.source h.text document other h.spelled h.other_spelled h.bare

-- ---- what is returned for one document

-- what is right for a document is right for one that describes the same
described_alike : (numbering : Numbering) (packages : List (Key × PackageParts)) (rules : Rules) (document other : Document) (r : Result Composition Error) → DescribeAlike document other
    → DescribedClause (given_to numbering packages rules document) document r → DescribedClause (given_to numbering packages rules other) other r
described_alike numbering packages rules document other (Ok c) alike h = ((alike numbering packages rules c).0 h.0, tt)
described_alike numbering packages rules document other (Err e) alike h = (tt, λ c d. h.1 c ((alike numbering packages rules c).1 d))

-- with some names at root, what is returned is right for each document with the same bare tree
abbrev pub RightForSame : List (PackageKey × PackageParts) → Rules → Document → Result Resolved CodeError → Type 0
RightForSame packages rules document result = (declared : Named ℕ) × ((other : Document) → SameBareTree document other → Promised DescribedClause (call packages rules other result) declared)

graph_is_right : (packages : List (PackageKey × PackageParts)) (rules : Rules) (document : Document) (r : Resolved) → Described packages rules document r.graph → RightForSame packages rules document (Ok r)
graph_is_right packages rules document r h =
    (h.0, λ other same numbering one. described_alike numbering (by_key packages) rules document other (Ok (composition_of numbering r.graph h.0)) (same_alike document other same) (h.1 numbering one, tt))

-- what is described is rejected only where memory ran out
abbrev pub OnlyMemory : List (PackageKey × PackageParts) → Rules → Document → Error → Type 0
OnlyMemory packages rules document e = (numbering : Numbering) → IsOneToOne numbering → (c : Composition) → Describes (given_to numbering (by_key packages) rules document) document c → e ≡ memory

pub error_is_right : (packages : List (PackageKey × PackageParts)) (rules : Rules) (document : Document) (e : CodeError) → OnlyMemory packages rules document (error_model e) → RightForSame packages rules document (Err e)
error_is_right packages rules document e h =
    ([], λ other same numbering one. described_alike numbering (by_key packages) rules document other (Err (error_model e)) (same_alike document other same) (tt, h numbering one))

-- a result is right for these documents where it is described, and where what is described is returned
pub result_is_right : (packages : List (PackageKey × PackageParts)) (rules : Rules) (document : Document) (result : Result Resolved CodeError) (declared : Named ℕ) → Promised GraphClause (call packages rules document result) declared
    → ((names : Named ℕ) → Promised OnlyClause (call packages rules document result) names) → RightForSame packages rules document result
result_is_right packages rules document (Ok r) declared graph only = graph_is_right packages rules document r (declared, graph)
result_is_right packages rules document (Err e) declared graph only = error_is_right packages rules document e (only [])

-- ---- what is returned for two documents

pub results_alike : (numbering : Numbering) (packages : List (Key × PackageParts)) (rules : Rules) (a b : Document) (r s : Result Composition Error) → DescribeAlike a b
    → DescribedClause (given_to numbering packages rules a) a r → DescribedClause (given_to numbering packages rules b) b s → ReturnedAlike r s
results_alike numbering packages rules a b (Ok c) (Ok d) alike h k = describes_once (given_to numbering packages rules b) b c d ((alike numbering packages rules c).0 h.0) k.0
results_alike numbering packages rules a b (Ok c) (Err e) alike h k = k.1 c ((alike numbering packages rules c).0 h.0)
results_alike numbering packages rules a b (Err e) (Ok d) alike h k = h.1 d ((alike numbering packages rules d).1 k.0)
results_alike numbering packages rules a b (Err e) (Err f) alike h k = tt

-- ---- what is printed

-- names, strings and paths of a text's tree are spelled in the text
abbrev pub Stand : Type 0
Stand = (text : List ℕ) (tree : Document) → IsUtf8 text → IsTreeOf text tree → DocumentSlices text tree × DocumentSpelled text tree

pub reread_same : Stand → (source text : List ℕ) (document again : Document) → IsUtf8 source → IsTreeOf source document → IsUtf8 text → IsTreeOf text again → IsReread text again source document → SameBareTree document again
reread_same stand source text document again utf8 is text_utf8 text_is e = record {
  source = source;
  spelled = (stand source document utf8 is).1;
  text = text;
  other_spelled = (stand text again text_utf8 text_is).1;
  keep = doc_lines;
  other_keep = read_docs;
  bare = sym e;
}

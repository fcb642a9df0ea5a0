-- Layout carries no meaning.
use Rattle.wac_resolution_rules.proofs.Common.{◌≡◌, ℕ, List, sym, ap, ◌∙◌, subst, ◌↔◌, IsUtf8, Key, Numbering, Document, Keep, bare_document, plain_document}
use Rattle.wac_graph_types.specs.Package.{PackageParts}
use Rattle.wac_ast_grammar.specs.TextTree.{IsTreeOf}
use Rattle.wac_ast_grammar.specs.Spelled.{DocumentSpelled}
use Rattle.wac_printer_layout.specs.Reread.{IsReread}
use Rattle.wac_printer_layout.proofs.PlainTrees.{plain_of_bare, plain_of_reread}
use Rattle.wac_resolution_rules.specs.Given.{Rules}
use Rattle.wac_resolution_rules.specs.Composition.{Composition}
use Rattle.wac_resolution_rules.specs.ResolvedDocument.{Describes, DescribeAlike, given_to}
use Rattle.wac_resolution_rules.proofs.StatementsPlain.{describes_plain}

both_ways : {A B : Type 0} → A ≡ B → A ↔ B
both_ways e = (subst (λ (T : Type 0). T) e, subst (λ (T : Type 0). T) (sym e))

same : (numbering : Numbering) (packages : List (Key × PackageParts)) (rules : Rules) (a b : Document) (c : Composition) → plain_document a ≡ plain_document b
    → Describes (given_to numbering packages rules a) a c ≡ Describes (given_to numbering packages rules b) b c
same numbering packages rules a b c e =
    sym (describes_plain (given_to numbering packages rules a) a c) ∙ ap (λ (d : Document). Describes (given_to numbering packages rules d) d c) e ∙ describes_plain (given_to numbering packages rules b) b c

pub plain_alike : (a b : Document) → plain_document a ≡ plain_document b → DescribeAlike a b
plain_alike a b e numbering packages rules c = both_ways (same numbering packages rules a b c e)

pub bare_alike : (keep other : Keep) (source text : List ℕ) (a b : Document) → DocumentSpelled source a → DocumentSpelled text b → bare_document keep source a ≡ bare_document other text b → DescribeAlike a b
bare_alike keep other source text a b h k e = plain_alike a b (plain_of_bare keep other source text a b h k e)

pub printed_alike : (source text : List ℕ) (a b : Document) → IsUtf8 source → IsTreeOf source a → IsUtf8 text → IsTreeOf text b → IsReread text b source a → DescribeAlike b a
printed_alike source text a b utf8 is text_utf8 text_is e = plain_alike b a (plain_of_reread source text a b utf8 is text_utf8 text_is e)

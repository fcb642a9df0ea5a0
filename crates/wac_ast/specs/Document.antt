-- What parsing a whole text returns, in the words of its public contract.
use Rattle.std.specs.Prelude.{◌≡◌, ℕ, List, [], ◌⊎◌, Option, Some, None, Result, Ok, Err, MatchResult, alloc_error}
use Rattle.wac_lexer.specs.Span.{Span, span}
use Rattle.wac_lexer.specs.Items.{items}
use Rattle.wac_lexer.specs.Characters.{refused}
use Rattle.wac_lexer.specs.declared.error.Error.{Error as Fault}
use Rattle.wac_ast_grammar.specs.Tree.{Document}
use Rattle.wac_ast_grammar.specs.Grammar.{document}
use Rattle.wac_ast_grammar.specs.Reading.{read}
use Rattle.wac_ast_base.specs.declared.error.Error.{Error}
use Rattle.wac_ast_base.specs.declared.error.Error.TheVariants.{Memory}
use Rattle.wac_ast_base.specs.Error.{Told, told_by, faulty, no_memory}
use Rattle.wac_ast_base.specs.Answer.{End, final_span, told_in}
use Rattle.wac_ast_base.specs.FirstFault.{TellsFirstFault}

-- where the end of the input is reported, as seen from the beginning of a text
abbrev pub end_of_text : List ℕ → End
end_of_text text = record { source = text; final = final_span (span 0 0) (items text) }

-- what is reported of the first rejected character, or else this
abbrev pub refused_or : Option (Fault × Span) → Option Told → Option Told
refused_or (Some found) told = Some (faulty found.0 found.1)
refused_or None told = told

-- what is reported of a text that has no tree: its first rejected character, or the place where reading its items stops
abbrev pub told_of_text : List ℕ → Option Told
told_of_text text = refused_or (refused text) (told_in (end_of_text text) (read document (items text)))

-- A character is rejected, and reported.
abbrev pub TellsRefused : List ℕ → Told → Type 0
TellsRefused text told = (fault : Fault) × (s : Span) × (refused text ≡ Some (fault, s)) × (told ≡ faulty fault s)

-- What an error reports of a text depends on the text alone, and it lies at the first rejected character, or else at the first fault.
pub record ErrorOf (told : Told) (text : List ℕ) : Type 0 where
  pub is : told_of_text text ≡ Some told
  pub lies : TellsRefused text told ⊎ ((refused text ≡ None) × TellsFirstFault document (end_of_text text) (items text) told)

-- This tree is returned, as view sees it, unless memory ran out.
abbrev pub ReturnsTree : {D : Type 0} → (D → Document) → Result D Error → Document → Type 0
ReturnsTree view result tree = MatchResult result (λ d. view d ≡ tree) (λ e. e ≡ Memory alloc_error)

-- ---- the result, by reading

-- What parsing returns is what reading all items gives, unless memory ran out.
abbrev pub Parses : {D : Type 0} → (D → Document) → Result D Error → List ℕ → Type 0
Parses view (Ok d) text = (refused text ≡ None) × (read document (items text) ≡ Ok (view d, []))
Parses view (Err e) text =
    (told_by e ≡ no_memory)
    ⊎ TellsRefused text (told_by e)
    ⊎ ((refused text ≡ None) × (told_in (end_of_text text) (read document (items text)) ≡ Some (told_by e)))

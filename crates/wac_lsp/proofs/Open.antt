-- Documents of a name: open or not, and their text known or not.
use Rattle.std.proofs.Common.{◌≡◌, refl, sym, subst, Bool, true, false, Option, Some, None}
use Rattle.std.specs.Prelude.{string_bytes, if◌then◌else◌}
use Rattle.wac_positions.specs.declared.place.ColumnUnit.{ColumnUnit}
use Rattle.wac_lsp_messages.specs.declared.question.Question.{Question}
use Rattle.wac_lsp_messages.specs.declared.refusal.Code.TheVariants.{InvalidParams, RequestFailed}
use Rattle.wac_lsp.specs.Answers.{Answer, AnswersAbout, AnswersOpen, AnswersQuestion, IsRefused}
use Rattle.wac_lsp.specs.Opened.{is_lost, known}
use Rattle.wac_lsp.specs.declared.documents.Document.{Document}

-- none is open
pub about_none : (unit : ColumnUnit) (found : Option Document) (question : Question) (answer : Answer) → found ≡ None → IsRefused InvalidParams answer → AnswersAbout unit found question answer
about_none unit found question answer none refused = subst (λ f. AnswersAbout unit f question answer) (sym none) refused

-- a change of it was lost
pub about_lost : (unit : ColumnUnit) (found : Option Document) (document : Document) (question : Question) (answer : Answer) → found ≡ Some document → is_lost document ≡ true
    → IsRefused RequestFailed answer → AnswersAbout unit found question answer
about_lost unit found document question answer is lost refused =
    subst (λ f. AnswersAbout unit f question answer) (sym is)
    (subst (λ b. AnswersOpen b unit (string_bytes document.text) question answer) (sym lost) refused)

-- its text is known
pub about_known : (unit : ColumnUnit) (found : Option Document) (document : Document) (question : Question) (answer : Answer) → found ≡ Some document → is_lost document ≡ false
    → AnswersQuestion unit (string_bytes document.text) question answer → AnswersAbout unit found question answer
about_known unit found document question answer is kept answers =
    subst (λ f. AnswersAbout unit f question answer) (sym is)
    (subst (λ b. AnswersOpen b unit (string_bytes document.text) question answer) (sym kept) answers)

-- the document of a name, by whether a change of it was lost
pub known_is : (found : Option Document) (document : Document) → found ≡ Some document → is_lost document ≡ false → Some document ≡ known found
known_is found document is kept = cc

pub lost_is_unknown : (found : Option Document) (document : Document) → found ≡ Some document → is_lost document ≡ true → None ≡ known found
lost_is_unknown found document is lost = cc

-- a question gets this about a document whose text is known
pub about_asked : (unit : ColumnUnit) (found : Option Document) (document : Document) (question : Question) (answer : Answer) → known found ≡ Some document
    → AnswersQuestion unit (string_bytes document.text) question answer → AnswersAbout unit found question answer
about_asked unit None document question answer is answers = cc
about_asked unit (Some d) document question answer is answers = by (is_lost d) is
  where
    by : (lost : Bool) → (if lost then None else Some d) ≡ Some document → AnswersOpen lost unit (string_bytes d.text) question answer
    by true is = cc
    by false is = subst (λ x. AnswersQuestion unit (string_bytes x.text) question answer) (let same : document ≡ d = cc in same) answers

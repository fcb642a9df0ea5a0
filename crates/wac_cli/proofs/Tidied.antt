-- What `tidy` ensures, as one fact of its result.
use Rattle.wac_cli.proofs.Common.{◌≡◌, ℕ, List, Result, Ok, Err, IfOk}
use Rattle.wac_comments.specs.Comments.{comment_texts, doc_texts}
use Rattle.wac_comments.specs.Tidied.{IsPlain, Kept, SameTree}
use Rattle.wac_comments.specs.declared.options.Options.{Options}
use Rattle.wac_cli.specs.Tidying.{IsLayoutOf, IsTidiedAs}
use Rattle.wac_cli.specs.declared.options.FormatOptions.{FormatOptions}

pub tidied : {A E : Type 0} (bytes : A → List ℕ) (options : FormatOptions) (layout : Options) (source : List ℕ) (r : Result A E) → IsLayoutOf options layout
    → IfOk r (λ text. comment_texts (bytes text) ≡ comment_texts source)
    → IfOk r (λ text. Kept source (bytes text))
    → IfOk r (λ text. SameTree source (bytes text))
    → IfOk r (λ text. doc_texts (bytes text) ≡ doc_texts source)
    → IfOk r (λ text. IsPlain layout source (bytes text))
    → IfOk r (λ text. IsTidiedAs options source (bytes text))
tidied bytes options layout source (Ok text) is comments kept tree docs plain =
    (layout, is, record { comments = comments; kept = kept; tree = tree; docs = docs; plain = plain })
tidied bytes options layout source (Err e) is comments kept tree docs plain = tt

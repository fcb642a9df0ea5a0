-- Places of the names that a statement adds.
use Rattle.wac_resolution_statements.proofs.Common.{◌≡◌, ◌∙◌, ℕ, List, [], ◌∷◌, ap, length, drop, Span, Named, with_named, Places, names_at, more_at}
use Rattle.std.proofs.Math.Seq.{drop-append_seam, drop-length}

-- one more name, at its place
pub one_more_at : {X : Type 0} (span : Span) (l : Named X) (m : Named X) (name : List ℕ) (x : X) → m ≡ with_named l name x → more_at span l m ≡ (name, span) ∷ []
one_more_at {X} span l m name x is = ap (λ (n : Named X). names_at span (drop (length l) n)) is ∙ ap (λ (n : Named X). names_at span n) (drop-append_seam l ((name, x) ∷ []))

-- no name was added
pub no_more_at : {X : Type 0} (span : Span) (l m : Named X) → m ≡ l → more_at span l m ≡ []
no_more_at {X} span l m is = ap (λ (n : Named X). names_at span (drop (length l) n)) is ∙ ap (λ (n : Named X). names_at span n) (drop-length l)

pub same_places : (p q : Places) → p.bound ≡ q.bound → p.imported ≡ q.imported → p.exported ≡ q.exported → p ≡ q
same_places p q b i e =
    ap (λ (l : Named Span). record { bound = l; imported = p.imported; exported = p.exported }) b
    ∙ ap (λ (l : Named Span). record { bound = q.bound; imported = l; exported = p.exported }) i
    ∙ ap (λ (l : Named Span). record { bound = q.bound; imported = q.imported; exported = l }) e

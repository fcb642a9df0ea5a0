-- Mentions are there where first mentions are.
use Rattle.std.proofs.Common.{◌≡◌, ◌↔◌, Bool, true, false, List, [], ◌∷◌, length, refl}
use Rattle.std.specs.Prelude.{IsTrue, not}
use Rattle.wac_graph.specs.declared.package_key.PackageKey.{PackageKey}
use Rattle.wac_lexer.specs.Span.{Span}
use Rattle.wac_resolution_rules.specs.Mentions.{Mention}
use Rattle.wac_resolution.specs.FirstMentions.{first_mentions}
use Rattle.wac_resolution.specs.Noted.{mentions_in}
use Rattle.wac_first_error.specs.Mentioned.{is_any}

pub any_mentioned : (es : List (PackageKey × Span)) (ms : List Mention) (empty : Bool) → mentions_in es ≡ first_mentions ms
    → (IsTrue empty ↔ (length es ≡ 0)) → not empty ≡ is_any ms
any_mentioned [] [] true same is = refl
any_mentioned [] [] false same is = absurd (cc (is.1 refl))
any_mentioned [] (m ∷ ms) empty same is = absurd (cc same)
any_mentioned (e ∷ es) [] empty same is = absurd (cc same)
any_mentioned (e ∷ es) (m ∷ ms) true same is = absurd (cc (is.0 refl))
any_mentioned (e ∷ es) (m ∷ ms) false same is = refl

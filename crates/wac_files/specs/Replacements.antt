-- What a file system replaced.
use Rattle.std.specs.Prelude.{◌≡◌, ℕ, List, [], ◌∷◌, ◌++◌, refl}
use Rattle.std.specs.Coded.{Coded, code_by, coded×, coded_list, coded_ℕ}

-- the file that a path leads to held some bytes, and was made to hold a text
pub record Replacement : Type 0 where
  pub path : List ℕ
  pub held : List ℕ
  pub text : List ℕ

-- a replacement is stored as the tuple of its fields
abbrev pub replacement_code : Coded Replacement
replacement_code =
    code_by (List ℕ × (List ℕ × List ℕ)) (coded× (coded_list coded_ℕ) (coded× (coded_list coded_ℕ) (coded_list coded_ℕ)))
    (λ r. (r.path, (r.held, r.text))) (λ p. record { path = p.0; held = p.1.0; text = p.1.1 }) (λ _. refl)

abbrev pub replacement : List ℕ → List ℕ → List ℕ → Replacement
replacement path held text = record { path = path; held = held; text = text }

-- after the replacements comes one more
abbrev pub Appends : List Replacement → List Replacement → List ℕ → List ℕ → List ℕ → Type 0
Appends old new path held text = new ≡ old ++ replacement path held text ∷ []

-- What writing the JSON form of a document, and a line feed after it, gives.
use Rattle.wac_tool.proofs.Common.{◌≡◌, ◌≤◌, ℕ, true, List, ◌∷◌, ◌++◌, take, drop, append_assoc, length, length-append, arith, ap, ◌∙◌, subst, take-append-drop}
use Rattle.wac_json_text.specs.Pieces.{IsBegun}
use Rattle.wac_tool.specs.Front.{is_front, Began}
use Rattle.wac_tool.proofs.Fronts.{is_front-append, is_front-longer}
use Rattle.wac_tool.proofs.Printing.{front_of}

-- a text went into the sink, and then another
pub put_both : (old mid new text rest : List ℕ) → mid ≡ old ++ text → new ≡ mid ++ rest → new ≡ old ++ (text ++ rest)
put_both old mid new text rest e k = k ∙ ap (λ x. x ++ rest) e ∙ append_assoc old text rest

-- a text went into the sink, and a prefix of what follows it
pub cut_after : (old mid new text rest : List ℕ) (n : ℕ) → mid ≡ old ++ text → new ≡ mid ++ take n rest → Began old new (text ++ rest)
cut_after old mid new text rest n e k =
    let whole : new ++ drop n rest ≡ old ++ (text ++ rest) =
    ap (λ x. x ++ drop n rest) k
    ∙ append_assoc mid (take n rest) (drop n rest)
    ∙ ap (λ x. mid ++ x) (take-append-drop n rest)
    ∙ ap (λ x. x ++ rest) e
    ∙ append_assoc old text rest in (
      subst (λ x. is_front new x ≡ true) whole (is_front-append new (drop n rest)),
      omega (arith, ap length k, ap length e, length-append mid (take n rest), length-append old text),
    )

-- a prefix of a text is one of what begins with that text
pub begun_before : (old new text rest : List ℕ) → IsBegun old new text → Began old new (text ++ rest)
begun_before old new text rest h = (
  subst (λ x. is_front new x ≡ true) (append_assoc old text rest) (is_front-longer new (old ++ text) rest (front_of _ new (old ++ text) h.0)),
  h.1,
)

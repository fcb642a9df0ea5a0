-- The first frame of a buffer.
use Rattle.std.proofs.Common.{◌≡◌, ◌∙◌, ℕ, ◌+◌, ◌<◌, ◌≤◌, List, ◌++◌, length, take, drop, sym, ap, ap₂, append_assoc, Option, Some, None, MatchOption, IfSome}
use Rattle.std.proofs.lemmas.List.{take-append-drop}
use Rattle.std.specs.Int.{w64, to_le_bytes}
use Rattle.std.specs.List.{IsSplitAt}
use denote.Bor.{Bor}
use Rattle.wac_calls.specs.Frames.{frame}

-- a frame, where a buffer begins with a length and so many bytes
pub first_frame : (buffer head rest text after : List ℕ) (len : ℕ) → to_le_bytes w64 len ≡ head → length text ≡ len → buffer ≡ head ++ rest
    → rest ≡ text ++ after → buffer ≡ frame text ++ after
first_frame buffer head rest text after len is count b r =
    let bytes : to_le_bytes w64 (length text) ≡ head = ap (λ n. to_le_bytes w64 n) count ∙ is in
    b ∙ ap (λ xs. head ++ xs) r ∙ sym (append_assoc head text after) ∙ ap (λ xs. xs ++ text ++ after) (sym bytes)

-- the same of what cutting a buffer twice returns
pub frame_of : (buffer head rest : List ℕ) (len : ℕ) (r : Option (Bor (List ℕ) × Bor (List ℕ))) → to_le_bytes w64 len ≡ head
    → (head ≡ take 8 buffer) × (rest ≡ drop 8 buffer) × (length rest + 8 ≡ length buffer)
    → MatchOption r (length rest < len) (λ p. IsSplitAt rest len p.0.now p.1.now) → IfSome r (λ f. buffer ≡ frame f.0.now ++ f.1.now)
frame_of buffer head rest len None is cut split = tt
frame_of buffer head rest len (Some p) is cut split =
    let halves : buffer ≡ head ++ rest = sym (ap₂ (λ xs ys. xs ++ ys) cut.0 cut.1 ∙ take-append-drop 8 buffer) in
    let parts : rest ≡ p.0.now ++ p.1.now = sym (ap₂ (λ xs ys. xs ++ ys) split.1 split.2 ∙ take-append-drop len rest) in
    first_frame buffer head rest p.0.now p.1.now len is split.3 halves parts

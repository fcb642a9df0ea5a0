-- Texts that are compared one by one.
use Rattle.std.proofs.Common.{◌≡◌, ℕ, ◌+◌, ◌<◌, ◌≤◌, List, ◌∷◌, drop, length, get_or, sym, ap, ◌∙◌, arith, Some}
use Rattle.std.specs.Prelude.{slice_get}
use Rattle.std.proofs.lemmas.List.{drop_more, drop_all, length-map}
use Rattle.std.proofs.lemmas.Option.{slice_get_within, get_or_from_slice_get}
use Rattle.wac_comments_layout.specs.Texts.{texts_of}
use Rattle.wac_comments_layout.specs.declared.pieces.Piece.{Piece}
use Rattle.wac_comments_layout.proofs.Guided.{texts_at}

-- the texts are the same from an index on where those after it are, and both have this one
pub same_more : (found : List Piece) (wanted : List (List ℕ)) (i : ℕ) (piece : Piece) → i < length found → piece ≡ get_or found i piece → slice_get wanted i ≡ Some piece.text.now
    → drop (i + 1) (texts_of found) ≡ drop (i + 1) wanted → drop i (texts_of found) ≡ drop i wanted
same_more found wanted i piece lt is there later =
    let x = piece.text.now in
    texts_at found i piece lt is
    ∙ ap (λ rest. x ∷ rest) later
    ∙ ap (λ y. y ∷ drop (i + 1) wanted) (sym (get_or_from_slice_get wanted i x x there))
    ∙ sym (drop_more wanted i x (slice_get_within wanted i x there))

-- there are none after the end of both
pub same_end : (found wanted : List Piece) (i : ℕ) → length found ≤ i → length found ≡ length wanted → drop i (texts_of found) ≡ drop i (texts_of wanted)
same_end found wanted i past same =
    let text = λ (p : Piece). p.text.now in
    drop_all i (texts_of found) (omega (arith, past, length-map found text))
    ∙ sym (drop_all i (texts_of wanted) (omega (arith, past, same, length-map wanted text)))

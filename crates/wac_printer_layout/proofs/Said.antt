-- What the placed items say is what the pieces are meant to say.
use Rattle.wac_printer_layout.proofs.Common.{◌≡◌, ℕ, ◌+◌, Bool, List, [], ◌∷◌, map, length, refl, ap, ◌∙◌, span, Item, Doc}
use Rattle.wac_printer_layout.specs.Printed.{Piece, token, blank, line, doc, text_of, fresh_after}
use Rattle.wac_printer_layout.specs.Placed.{with_docs, placed_before, placed, said_of, before_said, said_before, said}

said_docs : (d : Doc) (items : List Item) → map said_of (with_docs (d ∷ []) items) ≡ before_said (d.comment ∷ []) (map said_of items)
said_docs d [] = refl
said_docs d (item ∷ items) = refl

said_piece : (place : ℕ) (p : Piece) (items : List Item) → map said_of (placed_before place p items) ≡ said_before p (map said_of items)
said_piece place (token t) items = refl
said_piece place (blank t) items = refl
said_piece place (line depth) items = refl
said_piece place (doc t) items = said_docs (record { comment = t; span = span place (4 + length t) }) items

pub placed_said : (place : ℕ) (space : List ℕ) (fresh : Bool) (ps : List Piece) → map said_of (placed place space fresh ps) ≡ said ps
placed_said place space fresh [] = refl
placed_said place space fresh (p ∷ ps) =
    let t = text_of space fresh p in
    let others = placed (place + length t) space (fresh_after fresh t) ps in
    said_piece place p others ∙ ap (said_before p) (placed_said (place + length t) space (fresh_after fresh t) ps)

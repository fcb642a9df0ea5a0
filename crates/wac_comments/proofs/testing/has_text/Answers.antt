use Rattle.std.proofs.Common.{length, Some, sym, refl, ap, ◌∙◌}
use Rattle.std.specs.Option.{option_map}
use Rattle.std.proofs.lemmas.Option.{slice_get-map, slice_get_read}
use Rattle.wac_lexer.proofs.Texts.{bytes_eq_is}
use Rattle.wac_comments_layout.specs.declared.pieces.Piece.{Piece}
use Rattle.wac_comments.proofs.testing.has_text.Goals as goal

pub returns-in-Some : goal.returns-in-Some
returns-in-Some c = λ same.
    let text = λ (p : Piece). p.text.now in
    let pieces = c.args.pieces.now in
    let piece = c.in-Some.piece.now in
    let found = c.in-Some.ensures.lookup in
    slice_get-map text pieces c.args.index
    ∙ ap (option_map text) (slice_get_read pieces (length pieces) c.args.index piece refl found.3.0 found.1)
    ∙ ap Some (bytes_eq_is piece.text.now c.args.text.now (sym c.eq.ensures ∙ same))

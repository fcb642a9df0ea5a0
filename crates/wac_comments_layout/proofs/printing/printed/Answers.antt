use Rattle.wac_comments_layout.proofs.Common.{◌≡◌, ◌+◌, drop, length, sym, ap, ◌∙◌, arith, length-map}
use Rattle.wac_comments_layout.specs.Printing.{Progress, now_of, tokens_of, with_piece}
use Rattle.wac_comments_layout.specs.Texts.{texts_of}
use Rattle.wac_comments_layout.proofs.Progressing.{texts_more, piece_step, tokens_left, token_within, whole}
use Rattle.wac_comments_layout.proofs.printing.printed.Goals as goal

pub add-requires : goal.add-requires
add-requires c = λ token.
    let tokens = now_of c.in_ok-tokens.tokens.items in
    let i = c.loop-piece.piece-index in
    let more = texts_more c.args.pieces.now i c.piece-item.result c.loop-piece-test.true c.piece-item.is in
    let within = token_within tokens c.loop-piece.printing c.piece-item.result.text.now (texts_of (drop (i + 1) c.args.pieces.now)) (c.loop-piece.invariant.tokens ∙ ap tokens_of more) token in
    omega (arith, within, length-map c.in_ok-tokens.tokens.items (λ t. t.now), ap length c.as_slice.ensures.value)

pub loop-piece-preserved : goal.loop-piece-preserved
loop-piece-preserved c =
    let tokens = now_of c.in_ok-tokens.tokens.items in
    let i = c.loop-piece.piece-index in
    let text = c.piece-item.result.text.now in
    let rest = texts_of (drop (i + 1) c.args.pieces.now) in
    let more = texts_more c.args.pieces.now i c.piece-item.result c.loop-piece-test.true c.piece-item.is in
    let is : c.add.new.self ≡ with_piece tokens text c.loop-piece.printing = c.in_ok-add.ensures ∙ ap (λ l. with_piece (now_of l) text c.loop-piece.printing) c.as_slice.ensures.value in
    record {
      tokens = ap (λ (p : Progress). drop p.at tokens) is ∙ tokens_left tokens c.loop-piece.printing text rest (c.loop-piece.invariant.tokens ∙ ap tokens_of more);
      printed = ap (λ (p : Progress). whole tokens p rest) is ∙ piece_step tokens c.loop-piece.printing text rest ∙ sym (ap (whole tokens c.loop-piece.printing) more) ∙ c.loop-piece.invariant.printed;
    }

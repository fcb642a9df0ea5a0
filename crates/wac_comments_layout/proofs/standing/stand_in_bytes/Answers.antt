use Rattle.wac_comments_layout.proofs.Common.{◌∷◌, sym, ap, ◌∙◌, subst, AllByRecursion}
use Rattle.wac_comments_layout.specs.Following.{IsPieceText}
use Rattle.wac_comments_layout.proofs.Guided.{texts_at}
use Rattle.wac_comments_layout.proofs.standing.stand_in_bytes.Goals as goal

pub after_piece-requires-clause-text : goal.after_piece-requires-clause-text
after_piece-requires-clause-text c =
    let here = texts_at c.args.pieces.now c.loop-index.index c.index-pieces-index.result c.loop-index-test.true c.index-pieces-index.is in
    (subst (AllByRecursion IsPieceText) here c.loop-index.invariant.known).0

pub loop-index-preserved : goal.loop-index-preserved
loop-index-preserved c =
    let here = texts_at c.args.pieces.now c.loop-index.index c.index-pieces-index.result c.loop-index-test.true c.index-pieces-index.is in
    let first = c.in-Some.ensures in
    record {
      within = first.0;
      known = (subst (AllByRecursion IsPieceText) here c.loop-index.invariant.known).1;
      found = λ later. c.loop-index.invariant.found (first.1 ∙ ap (λ rest. c.index-pieces-index.result.text.now ∷ rest) later ∙ sym here);
    }

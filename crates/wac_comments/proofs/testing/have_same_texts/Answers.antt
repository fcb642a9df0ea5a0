use Rattle.wac_comments_layout.specs.Texts.{texts_of}
use Rattle.wac_comments.proofs.Same.{same_more}
use Rattle.wac_comments.proofs.testing.have_same_texts.Goals as goal

pub loop-index-preserved : goal.loop-index-preserved
loop-index-preserved c = λ later.
    let there = c.has_text.ensures c.if-not-has_text.false in
    c.loop-index.invariant (same_more c.args.found.now (texts_of c.args.wanted.now) c.loop-index.index c.index-found-index.result c.loop-index-test.true c.index-found-index.is there later)

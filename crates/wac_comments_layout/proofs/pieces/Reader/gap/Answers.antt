use Rattle.wac_comments_layout.proofs.Common.{◌+◌, ◌++◌, take, drop, length, sym, refl, ap, ◌∙◌, subst, arith, append-nil, append_assoc, IsCharBoundary, part_boundary}
use Rattle.wac_comments_layout.specs.Pieces.{comment_of_part, comments_at, comments_upto}
use Rattle.wac_comments_layout.specs.Texts.{pieces_of}
use Rattle.wac_comments_layout.proofs.Commented.{comments_done, comments_end, comments_more, short_part}
use Rattle.wac_comments_layout.proofs.pieces.Reader.gap.Goals as goal

pub loop-start-init : goal.loop-start-init
unfolding comments_at
loop-start-init c = record { boundary = c.requires; found = (length c.args.source.now, omega arith, refl) }

pub returns-then-len-eq0 : goal.returns-then-len-eq0
returns-then-len-eq0 c =
    let found = c.loop-start.invariant.found in
    let start = c.loop-start.start in
    let none = comments_done c.args.source.now found.0 start (sym c.in_ok-len.ensures.len ∙ c.if-len-eq0.true) in
    let before = pieces_of c.loop-start.self.pieces.items in
    let rest = drop start c.args.source.now in
    c.in_ok-len.ensures.added
    ∙ ap (λ n. before ++ comment_of_part start (take n rest)) c.if-len-eq0.true
    ∙ ap (λ more. before ++ more) (short_part start 0 rest (omega arith) ∙ sym none)
    ∙ found.2

pub loop-start-preserved : goal.loop-start-preserved
loop-start-preserved c =
    let source = c.args.source.now in
    let start = c.loop-start.start in
    let len = c.in_ok-len.len in
    let before = pieces_of c.loop-start.self.pieces.items in
    let is = c.in_ok-len.ensures.len in
    let found = c.loop-start.invariant.found in
    let more = comments_more source found.0 start len (sym is) (omega arith) c.loop-start-test.true found.1 in
    record {
      boundary = subst (λ n. IsCharBoundary source (start + n)) (sym is) (part_boundary source c.utf8.source start c.loop-start.invariant.boundary);
      found = (
        more.0,
        more.1,
        ap (λ pieces. pieces ++ comments_upto more.0 source (start + len)) c.in_ok-len.ensures.added
            ∙ append_assoc before (comment_of_part start (take len (drop start source))) (comments_upto more.0 source (start + len))
            ∙ ap (λ pieces. before ++ pieces) (sym more.2)
            ∙ found.2,
      );
    }

pub returns : goal.returns
returns c =
    let found = c.loop-start.invariant.found in
    let none = comments_end c.args.source.now found.0 c.loop-start.start c.loop-start-test.false in
    sym (append-nil (pieces_of c.loop-start.self.pieces.items)) ∙ ap (λ more. pieces_of c.loop-start.self.pieces.items ++ more) (sym none) ∙ found.2

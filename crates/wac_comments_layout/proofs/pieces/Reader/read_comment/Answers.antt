use Rattle.wac_comments_layout.proofs.Common.{drop, sym, ap, ◌∙◌, subst, zero-add, IsCharBoundary, IsUtf8-drop, IsCharBoundary-start, part_len, part_boundary}
use Rattle.wac_comments_layout.proofs.pieces.Reader.read_comment.Goals as goal

pub split_at-requires-2 : goal.split_at-requires-2
split_at-requires-2 c =
    let source = c.args.source.now in
    let rest = drop c.args.start source in
    let len = c.part_len-len.result in
    let is = c.part_len-len.ensures.len ∙ ap part_len (c.as_bytes.ensures.value ∙ c.split_at.ensures.back) in
    let here = part_boundary rest (IsUtf8-drop source c.args.start c.utf8.source c.requires.boundary) 0 (IsCharBoundary-start rest (IsUtf8-drop source c.args.start c.utf8.source c.requires.boundary)) in
    subst (λ text. IsCharBoundary text len) (sym c.split_at.ensures.back) (subst (IsCharBoundary rest) (zero-add (part_len rest) ∙ sym is) here)

use Rattle.wac_lexer.proofs.Common.{◌≡◌, ◌+◌, ◌++◌, map, take, drop, length, sym, ap, ◌∙◌, subst, arith, append-nil, append_assoc, zero-add, IsCharBoundary, IsUtf8-drop, IsCharBoundary-start}
use Rattle.wac_lexer.specs.Comments.{part_len}
use Rattle.wac_lexer.specs.Docs.{doc_of_part, docs_at, docs_upto}
use Rattle.wac_lexer.specs.Item.{doc_of}
use Rattle.wac_lexer.proofs.Boundaries.{part_boundary}
use Rattle.wac_lexer.proofs.Trimmed.{docs_done, docs_end, docs_more}
use Rattle.wac_lexer.proofs.docs.docs_at.Goals as goal
use Rattle.wac_lexer.proofs.docs.docs_at.Goals.{After-part_len-len}

part_is : (c : After-part_len-len) → c.part_len-len.result ≡ part_len (drop c.loop-start.start c.args.source.now)
part_is c = c.part_len-len.ensures.len ∙ ap part_len (c.as_bytes.ensures.value ∙ c.split_at.ensures.back)

pub loop-start-init : goal.loop-start-init
unfolding docs_at
loop-start-init c =
    record {
      boundary = c.requires;
      found = (length c.args.source.now, omega arith, ap (λ docs. map doc_of docs ++ docs_upto (length c.args.source.now) c.args.source.now c.args.place) c.new-docs.ensures.items);
    }

pub returns-then-len-eq0 : goal.returns-then-len-eq0
returns-then-len-eq0 c =
    let found = c.loop-start.invariant.found in
    let none = docs_done c.args.source.now found.0 c.loop-start.start (sym (part_is (goal.at.returns-then-len-eq0 c).After-part_len-len) ∙ c.if-len-eq0.true) in
    sym (append-nil (map doc_of c.loop-start.docs.items)) ∙ ap (λ docs. map doc_of c.loop-start.docs.items ++ docs) (sym none) ∙ found.2

pub split_at-requires-in-loop-start : goal.split_at-requires-in-loop-start
split_at-requires-in-loop-start c =
    let source = c.args.source.now in
    let start = c.loop-start.start in
    let rest = drop start source in
    let utf8 = IsUtf8-drop source start c.utf8.source c.loop-start.invariant.boundary in
    let here = part_boundary rest utf8 0 (IsCharBoundary-start rest utf8) in
    let at : IsCharBoundary rest c.part_len-len.result =
    subst (IsCharBoundary rest) (zero-add (part_len rest) ∙ sym (part_is (goal.at.split_at-requires-in-loop-start c).After-part_len-len)) here in
    subst (λ text. IsCharBoundary text c.part_len-len.result) (sym c.split_at.ensures.back) at

pub loop-start-preserved : goal.loop-start-preserved
loop-start-preserved c =
    let source = c.args.source.now in
    let start = c.loop-start.start in
    let len = c.part_len-len.result in
    let is = part_is (goal.at.loop-start-preserved c).After-part_len-len in
    let found = c.loop-start.invariant.found in
    let more = docs_more source found.0 start len (sym is) (omega arith) c.loop-start-test.true found.1 in
    let part : c.split_at-in-loop-start.result.0.now ≡ take len (drop start source) = c.split_at-in-loop-start.ensures.front ∙ ap (take len) c.split_at.ensures.back in
    record {
      boundary = subst (λ n. IsCharBoundary source (start + n)) (sym is) (part_boundary source c.utf8.source start c.loop-start.invariant.boundary);
      found = (
        more.0,
        more.1,
        ap (λ docs. docs ++ docs_upto more.0 source (start + len)) (c.in_ok-add_doc.ensures ∙ ap (λ t. map doc_of c.loop-start.docs.items ++ doc_of_part start t) part)
            ∙ append_assoc (map doc_of c.loop-start.docs.items) (doc_of_part start (take len (drop start source))) (docs_upto more.0 source (start + len))
            ∙ ap (λ docs. map doc_of c.loop-start.docs.items ++ docs) (sym more.2)
            ∙ found.2,
      );
    }

pub returns : goal.returns
returns c =
    let found = c.loop-start.invariant.found in
    let none = docs_end c.args.source.now found.0 c.loop-start.start c.loop-start-test.false in
    sym (append-nil (map doc_of c.loop-start.docs.items)) ∙ ap (λ docs. map doc_of c.loop-start.docs.items ++ docs) (sym none) ∙ found.2

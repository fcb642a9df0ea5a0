use Rattle.wac_ast_base.proofs.Common.{◌≡◌, map, doc_of}
use Rattle.wac_ast_base.specs.Names.{doc_comment_of}
use Rattle.wac_ast_base.proofs.parse.parse_docs.Given as goal

-- each comment has its doc so far
abbrev pub invariant-loop-comment : goal.invariant-loop-comment
invariant-loop-comment l = map doc_comment_of l.docs.items ≡ map doc_of l.yielded

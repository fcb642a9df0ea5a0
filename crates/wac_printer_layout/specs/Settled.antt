-- Trees whose docs are cut into lines again: an empty line is no doc.
use Rattle.wac_ast_grammar.specs.Tree.{Document}
use Rattle.wac_ast_grammar.specs.Walk.{walk_document}
use Rattle.wac_ast_grammar.specs.Leaves.{changed, unchanged}
use Rattle.wac_printer_layout.specs.Bare.{doc_lines}

abbrev pub settle_document : Document → Document
settle_document x = walk_document (changed unchanged) doc_lines x

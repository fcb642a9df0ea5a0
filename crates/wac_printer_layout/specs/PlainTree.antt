-- Plain trees: names and texts alone. Spans and docs are gone, and `%x` is `x`.
use Rattle.std.specs.Prelude.{◌≡◌, codes, refl}
use Rattle.wac_lexer.specs.Span.{span}
use Rattle.wac_ast_grammar.specs.Tree.{Document}
use Rattle.wac_ast_grammar.specs.Walk.{walk_document}
use Rattle.wac_ast_grammar.specs.Leaves.{Change, changed}
use Rattle.wac_printer_layout.specs.Bare.{nowhere, no_docs}

-- what becomes of the leaves of a tree
abbrev pub plain : Change
plain =
    record {
      ident = λ x. record { string = x.string; span = nowhere };
      string = λ x. record { value = x.value; span = nowhere };
      name = λ x. record { string = x.string; name = x.name; version = x.version; span = nowhere };
      path = λ x. record { span = nowhere; string = x.string; name = x.name; segments = x.segments; version = x.version };
      span = λ s. nowhere;
    }

abbrev pub plain_document : Document → Document
plain_document x = walk_document (changed plain) no_docs x

-- `%x` at any place is `x`
plain_1 : plain.ident (record { string = codes "x"; span = span 4 2 }) ≡ record { string = codes "x"; span = nowhere }
plain_1 = refl

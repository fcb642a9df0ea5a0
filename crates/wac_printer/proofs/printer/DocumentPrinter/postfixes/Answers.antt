use Rattle.wac_ast_grammar.specs.Walk.{walk_postfix_expr}
use Rattle.wac_printer.specs.Sliced.{printable}
use Rattle.wac_printer.proofs.Common.{postfix_expr_of, All-of-map}
use Rattle.wac_printer.proofs.printer.DocumentPrinter.postfixes.Goals as goal

pub each-requires : goal.each-requires
each-requires g c = All-of-map (walk_postfix_expr (printable c.args.self.now.source)) postfix_expr_of c.args.postfixes.now c.requires

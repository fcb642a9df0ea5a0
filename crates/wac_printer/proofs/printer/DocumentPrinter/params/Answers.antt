use Rattle.wac_ast_grammar.specs.Walk.{walk_named_type}
use Rattle.wac_printer.specs.Sliced.{printable}
use Rattle.wac_printer_layout.specs.Bare.{bare}
use Rattle.wac_printer.proofs.Common.{named_type_of, All-at, first, last, printed_as, printed_at, named_type_layout}
use Rattle.wac_printer_layout.specs.Parts.{joined}
use Rattle.wac_printer_pieces.proofs.Sequence.{after}
use Rattle.wac_printer.proofs.BareLists.{joined_bare}
use Rattle.wac_printer.proofs.printer.DocumentPrinter.params.Goals as goal

pub joined-requires : goal.joined-requires
joined-requires g c = All-at (λ source. walk_named_type (printable source)) named_type_of c.args.params.now _ _ (c.token.ensures.keeps.0) c.requires

pub returns : goal.returns
returns g c = last c.and-2.ensures (after c.and.ensures (first c.token.ensures) (printed_as (joined_bare named_type_layout (walk_named_type (bare c.args.self.now.source)) named_type_of c.args.params.now) (printed_at (λ source. joined (λ x. named_type_layout (walk_named_type (bare source) (named_type_of x))) c.args.params.now) (c.token.ensures.keeps.0) c.joined.ensures))) c.token-2.ensures

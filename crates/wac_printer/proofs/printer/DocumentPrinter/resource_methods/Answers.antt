use Rattle.wac_ast_grammar.specs.Walk.{walk_resource_method}
use Rattle.wac_printer.specs.Sliced.{any_docs, printable}
use Rattle.wac_printer.proofs.Common.{map, sym, subst, ◌∙◌, resource_method_of, Prints, All-of-map}
use Rattle.wac_printer_layout.specs.DeclarationLayout.{resource_method_layout}
use Rattle.wac_printer_layout.specs.Bare.{doc_lines, bare}
use Rattle.wac_printer.proofs.PartsOf.{body-of}
use Rattle.wac_printer.proofs.printer.DocumentPrinter.resource_methods.Goals as goal

pub body-requires : goal.body-requires
body-requires g c = All-of-map (walk_resource_method (printable c.args.self.now.source) any_docs) resource_method_of c.args.items.now c.requires

pub returns : goal.returns
returns g c =
    let s = c.args.self.now in
    subst (Prints s c.body.result c.body.new.self) (sym (body-of resource_method_layout (walk_resource_method (bare s.source) doc_lines) s.depth (map resource_method_of c.args.items.now) ∙ body-of (λ d x. resource_method_layout d ((walk_resource_method (bare s.source) doc_lines) x)) resource_method_of s.depth c.args.items.now)) c.body.ensures

use Rattle.wac_ast_grammar.specs.Walk.{walk_resource_method}
use Rattle.wac_printer.specs.Sliced.{any_docs, printable}
use Rattle.wac_printer.proofs.Common.{sym, subst, resource_method_of, Prints}
use Rattle.wac_printer_layout.specs.DeclarationLayout.{resource_method_layout}
use Rattle.wac_printer_layout.specs.Bare.{doc_lines, bare}
use Rattle.wac_printer.proofs.printer.DocumentPrinter.resource_method.Goals as goal

pub constructor-requires : goal.constructor-requires
constructor-requires g c = subst (λ x. walk_resource_method (printable c.args.self.now.source) any_docs (resource_method_of x)) c.in-Constructor.is c.requires

pub returns-in-Constructor : goal.returns-in-Constructor
unfolding resource_method_layout
returns-in-Constructor g c =
    subst (λ x. Prints c.args.self.now c.constructor.result c.constructor.new.self (resource_method_layout c.args.self.now.depth (walk_resource_method (bare c.args.self.now.source) doc_lines (resource_method_of x)))) (sym c.in-Constructor.is) c.constructor.ensures

pub method-requires : goal.method-requires
method-requires g c = subst (λ x. walk_resource_method (printable c.args.self.now.source) any_docs (resource_method_of x)) c.in-Method.is c.requires

pub returns-in-Method : goal.returns-in-Method
unfolding resource_method_layout
returns-in-Method g c =
    subst (λ x. Prints c.args.self.now c.method.result c.method.new.self (resource_method_layout c.args.self.now.depth (walk_resource_method (bare c.args.self.now.source) doc_lines (resource_method_of x)))) (sym c.in-Method.is) c.method.ensures

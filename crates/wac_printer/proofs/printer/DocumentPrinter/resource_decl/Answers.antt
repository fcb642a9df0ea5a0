use Rattle.wac_ast_grammar.specs.Walk.{walk_resource_method}
use Rattle.wac_printer.proofs.Common.{codes, map, ◌∙◌, head_layout, bare_ident, first, last, printed_at, there, resource_method_of, ident_of}
use Rattle.wac_printer_layout.specs.Parts.{body}
use Rattle.wac_printer_layout.specs.Bare.{doc_lines, bare}
use Rattle.wac_printer_layout.specs.DeclarationLayout.{resource_method_layout}
use Rattle.wac_printer_pieces.proofs.Sequence.{after}
use Rattle.wac_printer.proofs.BareLists.{of_docs}
use Rattle.wac_printer.proofs.printer.DocumentPrinter.resource_decl.Goals as goal

pub returns : goal.returns
returns g c = last c.and-2.ensures (after c.and.ensures (first (of_docs c.deref.ensures.value c.docs.ensures)) (there (λ source depth. head_layout depth (codes "resource") (bare_ident source (ident_of c.args.decl.now.id))) (c.docs.ensures.keeps.0) (c.docs.ensures.keeps.2) c.resource_head.ensures)) (printed_at (λ xs. body resource_method_layout c.args.self.now.depth (map (walk_resource_method (bare c.args.self.now.source) doc_lines) (map resource_method_of xs))) c.deref-2.ensures.value (there (λ source depth. body resource_method_layout depth (map (walk_resource_method (bare source) doc_lines) (map resource_method_of c.deref-2.result.now))) (c.resource_head.ensures.keeps.0 ∙ c.docs.ensures.keeps.0) (c.resource_head.ensures.keeps.2 ∙ c.docs.ensures.keeps.2) c.resource_methods.ensures))

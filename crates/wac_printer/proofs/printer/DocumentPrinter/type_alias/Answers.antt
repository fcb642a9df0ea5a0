use Rattle.wac_ast_grammar.specs.Walk.{walk_type_alias_kind}
use Rattle.wac_printer_layout.specs.Bare.{bare}
use Rattle.wac_printer.proofs.Common.{first, last, printed_at, there, bare_ident, head_layout, codes, ◌∙◌, type_alias_kind_of, ident_of}
use Rattle.wac_printer_layout.specs.DeclarationLayout.{alias_kind_layout}
use Rattle.wac_printer_pieces.proofs.Sequence.{after}
use Rattle.wac_printer.proofs.BareLists.{of_docs}
use Rattle.wac_printer.proofs.printer.DocumentPrinter.type_alias.Goals as goal

pub returns : goal.returns
returns g c = last c.and-6.ensures (after c.and-5.ensures (after c.and-4.ensures (after c.and-3.ensures (after c.and-2.ensures (after c.and.ensures (first (of_docs c.deref.ensures.value c.docs.ensures)) (there (λ source depth. head_layout depth (codes "type") (bare_ident source (ident_of c.args.alias.now.id))) (c.docs.ensures.keeps.0) (c.docs.ensures.keeps.2) c.head.ensures)) c.blank.ensures) c.token.ensures) c.blank-2.ensures) (printed_at (λ source. alias_kind_layout (walk_type_alias_kind (bare source) (type_alias_kind_of c.args.alias.now.kind))) (c.blank-2.ensures.keeps.0 ∙ c.token.ensures.keeps.0 ∙ c.blank.ensures.keeps.0 ∙ c.head.ensures.keeps.0 ∙ c.docs.ensures.keeps.0) c.alias_kind.ensures)) c.token-2.ensures

use Rattle.wac_ast_grammar.specs.Walk.{walk_type_decl}
use Rattle.wac_printer.specs.Sliced.{any_docs, printable}
use Rattle.wac_printer.proofs.Common.{sym, subst, type_decl_of, Prints}
use Rattle.wac_printer_layout.specs.DeclarationLayout.{type_decl_layout}
use Rattle.wac_printer_layout.specs.Bare.{doc_lines, bare}
use Rattle.wac_printer.proofs.printer.DocumentPrinter.type_decl.Goals as goal

pub variant_decl-requires : goal.variant_decl-requires
variant_decl-requires g c = subst (λ x. walk_type_decl (printable c.args.self.now.source) any_docs (type_decl_of x)) c.in-Variant.is c.requires

pub returns-in-Variant : goal.returns-in-Variant
unfolding type_decl_layout
returns-in-Variant g c =
    subst (λ x. Prints c.args.self.now c.variant_decl.result c.variant_decl.new.self (type_decl_layout c.args.self.now.depth (walk_type_decl (bare c.args.self.now.source) doc_lines (type_decl_of x)))) (sym c.in-Variant.is) c.variant_decl.ensures

pub record_decl-requires : goal.record_decl-requires
record_decl-requires g c = subst (λ x. walk_type_decl (printable c.args.self.now.source) any_docs (type_decl_of x)) c.in-Record.is c.requires

pub returns-in-Record : goal.returns-in-Record
unfolding type_decl_layout
returns-in-Record g c =
    subst (λ x. Prints c.args.self.now c.record_decl.result c.record_decl.new.self (type_decl_layout c.args.self.now.depth (walk_type_decl (bare c.args.self.now.source) doc_lines (type_decl_of x)))) (sym c.in-Record.is) c.record_decl.ensures

pub flags_decl-requires : goal.flags_decl-requires
flags_decl-requires g c = subst (λ x. walk_type_decl (printable c.args.self.now.source) any_docs (type_decl_of x)) c.in-Flags.is c.requires

pub returns-in-Flags : goal.returns-in-Flags
unfolding type_decl_layout
returns-in-Flags g c =
    subst (λ x. Prints c.args.self.now c.flags_decl.result c.flags_decl.new.self (type_decl_layout c.args.self.now.depth (walk_type_decl (bare c.args.self.now.source) doc_lines (type_decl_of x)))) (sym c.in-Flags.is) c.flags_decl.ensures

pub enum_decl-requires : goal.enum_decl-requires
enum_decl-requires g c = subst (λ x. walk_type_decl (printable c.args.self.now.source) any_docs (type_decl_of x)) c.in-Enum.is c.requires

pub returns-in-Enum : goal.returns-in-Enum
unfolding type_decl_layout
returns-in-Enum g c =
    subst (λ x. Prints c.args.self.now c.enum_decl.result c.enum_decl.new.self (type_decl_layout c.args.self.now.depth (walk_type_decl (bare c.args.self.now.source) doc_lines (type_decl_of x)))) (sym c.in-Enum.is) c.enum_decl.ensures

pub type_alias-requires : goal.type_alias-requires
type_alias-requires g c = subst (λ x. walk_type_decl (printable c.args.self.now.source) any_docs (type_decl_of x)) c.in-Alias.is c.requires

pub returns-in-Alias : goal.returns-in-Alias
unfolding type_decl_layout
returns-in-Alias g c =
    subst (λ x. Prints c.args.self.now c.type_alias.result c.type_alias.new.self (type_decl_layout c.args.self.now.depth (walk_type_decl (bare c.args.self.now.source) doc_lines (type_decl_of x)))) (sym c.in-Alias.is) c.type_alias.ensures

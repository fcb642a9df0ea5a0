use Rattle.wac_ast_grammar.specs.Walk.{walk_named_type, walk_result_list}
use Rattle.wac_printer_layout.specs.Bare.{bare}
use Rattle.wac_printer.proofs.Common.{named_type_of, result_list_of, map, ◌∙◌, first, last, printed_at, params_layout, results_layout}
use Rattle.wac_printer_pieces.proofs.Sequence.{after}
use Rattle.wac_printer.proofs.printer.DocumentPrinter.func_type.Goals as goal

pub returns : goal.returns
returns g c = last c.and-3.ensures (after c.and-2.ensures (after c.and.ensures (first c.async_keyword.ensures) c.token.ensures) (printed_at (λ xs. params_layout (map (walk_named_type (bare c.args.self.now.source)) (map named_type_of xs))) c.deref.ensures.value (printed_at (λ source. params_layout (map (walk_named_type (bare source)) (map named_type_of c.deref.result.now))) (c.token.ensures.keeps.0 ∙ c.async_keyword.ensures.keeps.0) c.params.ensures))) (printed_at (λ source. results_layout (walk_result_list (bare source) (result_list_of c.args.ty.now.results))) (c.params.ensures.keeps.0 ∙ c.token.ensures.keeps.0 ∙ c.async_keyword.ensures.keeps.0) c.result_list.ensures)

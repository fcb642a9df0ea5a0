use Rattle.wac_ast_grammar.specs.Walk.{walk_named_type, walk_result_list, walk_ty}
use Rattle.wac_printer.specs.Sliced.{printable}
use Rattle.wac_printer_layout.specs.Bare.{bare}
use Rattle.wac_printer.proofs.Common.{map, subst, sym, All, ty_of, named_type_of, result_list_of, params_layout, results_layout, ty_layout, first, last, printed_at}
use Rattle.wac_printer.proofs.printer.DocumentPrinter.result_list.Goals as goal

pub returns-in-Scalar : goal.returns-in-Scalar
returns-in-Scalar g c = printed_at (λ z. results_layout (walk_result_list (bare c.args.self.now.source) (result_list_of z))) (sym c.in-Scalar.is)
    (last c.and.ensures (first c.arrow.ensures) (printed_at (λ source. ty_layout (walk_ty (bare source) (ty_of c.in-Scalar.ty))) c.arrow.ensures.keeps.0 c.ty.ensures))

pub params-requires : goal.params-requires
params-requires g c =
    let sliced = subst (λ z. walk_result_list (printable c.args.self.now.source) (result_list_of z)) c.in-Named.is c.requires in
    subst (λ source. All (walk_named_type (printable source)) (map named_type_of c.deref.result.now)) (sym c.arrow-in-Named.ensures.keeps.0)
    (subst (λ xs. All (walk_named_type (printable c.args.self.now.source)) (map named_type_of xs)) (sym c.deref.ensures.value) sliced)

pub returns-in-Named : goal.returns-in-Named
returns-in-Named g c = printed_at (λ z. results_layout (walk_result_list (bare c.args.self.now.source) (result_list_of z))) (sym c.in-Named.is)
    (last c.and-in-Named.ensures (first c.arrow-in-Named.ensures) (printed_at (λ xs. params_layout (map (walk_named_type (bare c.args.self.now.source)) (map named_type_of xs))) c.deref.ensures.value (printed_at (λ source. params_layout (map (walk_named_type (bare source)) (map named_type_of c.deref.result.now))) c.arrow-in-Named.ensures.keeps.0 c.params.ensures)))

pub returns-in-Empty : goal.returns-in-Empty
returns-in-Empty g c = printed_at (λ z. results_layout (walk_result_list (bare c.args.self.now.source) (result_list_of z))) (sym c.in-Empty.is) c.ready.ensures

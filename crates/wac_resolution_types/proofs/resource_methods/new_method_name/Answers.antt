use Rattle.wac_resolution_types.proofs.Common.{◌∙◌, sym, ident_of, inr}
use Rattle.wac_resolution_types.specs.Lists.{lists_of}
use Rattle.wac_resolution_types.proofs.Methods.{method_taken, static_taken}
use Rattle.wac_resolution_types.proofs.resource_methods.new_method_name.Goals as goal

pub returns-then-is_some-clause-err : goal.returns-then-is_some-clause-err
returns-then-is_some-clause-err c = inr (λ numbering g.
    method_taken numbering g c.args.side (lists_of c.args.body.now) c.args.resource.now c.deref.result.now (ident_of c.args.method.now.id) _ c.find.result
    (c.deref.ensures ∙ c.in_ok-full.ensures) c.find.ensures (sym c.is_some.ensures ∙ c.if-is_some.true) c.in_ok-second_method.ensures)

pub returns-then-is_some-2-clause-err : goal.returns-then-is_some-2-clause-err
returns-then-is_some-2-clause-err c = inr (λ numbering g.
    static_taken numbering g c.args.side (lists_of c.args.body.now) c.args.resource.now c.deref-2.result.now (ident_of c.args.method.now.id) _ c.find-2.result
    (c.deref-2.ensures ∙ c.in_ok-fixed.ensures) c.find-2.ensures (sym c.is_some-2.ensures ∙ c.if-is_some-2.true) c.in_ok-second_method-2.ensures)

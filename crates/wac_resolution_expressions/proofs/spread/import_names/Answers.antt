use Rattle.wac_resolution_expressions.proofs.Common.{◌≡◌, ◌∙◌, List, ap, subst, map, IfOk, string_bytes, Entry, ItemKind, world_imports, Named, names_of}
use Rattle.wac_resolution_expressions.proofs.spread.import_names.Goals as goal

pub returns-in-Some : goal.returns-in-Some
returns-in-Some c =
    subst (λ (l : Named ItemKind). IfOk c.copied_names.result (λ names. map string_bytes names.items ≡ names_of l))
    (c.in-Some.ensures ∙ ap (λ (es : List Entry). world_imports es c.args.world.0) c.types-types.ensures.types) c.copied_names.ensures

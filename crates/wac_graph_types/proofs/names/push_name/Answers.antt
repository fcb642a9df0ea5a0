use Rattle.wac_graph_types.proofs.Common.{◌≡◌, ◌∙◌, ℕ, List, [], ◌∷◌, ◌++◌, false, map, subst, sym, ap, string_bytes, list_any, bytes_eq}
use Rattle.wac_graph_types.proofs.Maps.{inserted_text}
use Rattle.wac_graph_types.proofs.names.push_name.Goals as goal

pub returns-clause-ok : goal.returns-clause-ok
returns-clause-ok c =
    let name = c.in_ok-key.ensures.ok in
    ap (map string_bytes) c.in_ok-insert.ensures.keys
    ∙ inserted_text c.in_ok-key.key c.args.all.now.keys (subst (λ (x : List ℕ). list_any (bytes_eq x) (map string_bytes c.args.all.now.keys) ≡ false) (sym name) c.requires)
    ∙ ap (λ (x : List ℕ). map string_bytes c.args.all.now.keys ++ x ∷ []) name

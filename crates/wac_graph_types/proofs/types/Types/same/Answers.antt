use Rattle.wac_graph_types.proofs.Common.{◌≡◌, ℕ, List, ◌∙◌, subst, IsTrue, ◌↔◌}
use Rattle.wac_graph_types.specs.declared.entry.Entry.{Entry}
use Rattle.wac_graph_types.specs.Meaning.{IsOneToOne, meaning}
use Rattle.wac_graph_types.proofs.types.Types.same.Goals as goal

pub returns : goal.returns
returns c = subst (λ (es : List Entry). (o : ℕ → ℕ) → IsOneToOne es o → (IsTrue c.same.result ↔ (meaning o es c.args.a ≡ meaning o es c.args.b))) (c.deref.ensures.value ∙ c.self.view_is) c.same.ensures

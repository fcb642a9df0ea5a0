use Rattle.wac_resolution_state.proofs.Common.{◌∙◌, ◌∷◌, ◌++◌, [], List, ℕ, ap, string_bytes, append_assoc}
use Rattle.wac_resolution_state.proofs.foreign.push_segment.Goals as goal

pub returns : goal.returns
unfolding lib.Utf8.encode
returns c = c.in_ok-push_str.ensures.bytes ∙ ap (λ (l : List ℕ). l ++ c.args.segment.now) c.in_ok-push.ensures.bytes ∙ append_assoc (string_bytes c.args.text.now) (47 ∷ []) c.args.segment.now

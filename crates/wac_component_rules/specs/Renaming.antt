-- The origins of resources don't count.
use Rattle.std.specs.Prelude.{◌≡◌, ℕ}
use Rattle.std.proofs.Common.{refl, ap, ◌∙◌}
use Rattle.wac_graph_types.specs.Label.{Label, plain, resource}
use Rattle.wac_graph_types.specs.Meaning.{Meaning, node, Row, done, more}
use Rattle.wac_graph_types.specs.Rules.{renamed, renamed_row, renamed_label}
use Rattle.wac_component_rules.specs.Seen.{What, Items, Seen, seen, what, entry_seen, items, kind_seen, entry_what, item}
use Rattle.wac_component_rules.specs.Fits.{component_passes, unless, does_not_fit, fits}

label_kind : (f : ℕ → ℕ) (l : Label) (w : What) → kind_seen (renamed_label f l) w ≡ kind_seen l w
label_kind f (plain p) w = refl
label_kind f (resource o n) w = refl

label_what : (f : ℕ → ℕ) (l : Label) (xs : Items) → entry_what (renamed_label f l) xs ≡ entry_what l xs
label_what f (plain p) xs = refl
label_what f (resource o n) xs = refl

mutual
  seen_renamed : (f : ℕ → ℕ) (m : Meaning) → seen (renamed f m) ≡ seen m
  seen_renamed f (node l r) = ap (kind_seen (renamed_label f l)) (entry_renamed f r) ∙ label_kind f l (entry_seen r)

  what_renamed : (f : ℕ → ℕ) (m : Meaning) → what (renamed f m) ≡ what m
  what_renamed f (node l r) = ap (entry_what (renamed_label f l)) (items_renamed f r) ∙ label_what f l (items r)

  entry_renamed : (f : ℕ → ℕ) (r : Row) → entry_seen (renamed_row f r) ≡ entry_seen r
  entry_renamed f done = refl
  entry_renamed f (more s m r) = what_renamed f m

  items_renamed : (f : ℕ → ℕ) (r : Row) → items (renamed_row f r) ≡ items r
  items_renamed f done = refl
  items_renamed f (more s m r) = ap (λ (x : Seen). item s x (items (renamed_row f r))) (seen_renamed f m) ∙ ap (item s (seen m)) (items_renamed f r)

-- what the rules say is the same under other origins
pub passes_renamed : (f : ℕ → ℕ) (a b : Meaning) → component_passes (renamed f a) (renamed f b) ≡ component_passes a b
unfolding component_passes
passes_renamed f a b =
    ap (λ (x : Seen). unless does_not_fit (fits x (seen (renamed f b)))) (seen_renamed f a) ∙ ap (λ (y : Seen). unless does_not_fit (fits (seen a) y)) (seen_renamed f b)

-- Kinds and entries mean the same where their forms are the same and what they name means the same.
use Rattle.wac_tool_graphs.proofs.Common.{◌≡◌, ◌≢◌, ℕ, List, Bool, true, false, Some, refl, sym, ap, ◌∙◌, slice_get, Meaning, node, plain, dangling, done, named, label, row, children, entry_over, Entry, ItemKind}
use Rattle.std.specs.Prelude.{Result, Ok, Err, IfOk}
use Rattle.wac_graph_types.specs.Kind.{form, named_by}
use Rattle.wac_graph_types.specs.Label.{Label, kind}
use Rattle.wac_graph_types.specs.Meaning.{Row, more, of_kind}
use Rattle.wac_tool_graphs.specs.Pairs.{AreAlikeOver, Reduces}
use Rattle.wac_tool_graphs.proofs.Agreeing.{denied}

abbrev label_in : Meaning → Label
label_in (node l r) = l

abbrev row_in : Meaning → Row
row_in (node l r) = r

abbrev first_in : Row → Meaning
first_in done = node (plain dangling) done
first_in (more s m r) = m

-- two kinds of one form
pub kinds_reduce : (a b : ItemKind) (i j : ℕ) (old new : List (ℕ × ℕ)) → form a ≡ form b → named_by a ≡ Some i → named_by b ≡ Some j
    → Reduces (λ means. means i ≡ means j) true old new → Reduces (λ means. of_kind means a ≡ of_kind means b) true old new
kinds_reduce a b i j old new forms first second r = record {
  keeps = r.keeps;
  needed = λ means h same. r.needed means h (sym (ap (λ x. first_in (named means x)) first) ∙ ap (λ m. first_in (row_in m)) same ∙ ap (λ x. first_in (named means x)) second);
  enough = λ means yes h.
      let rows : named means (named_by a) ≡ named means (named_by b) = ap (named means) first ∙ ap (λ m. named (λ _. m) (Some i)) (r.enough means yes h) ∙ sym (ap (named means) second) in
      ap (λ x. node (plain (kind x)) (named means (named_by a))) forms ∙ ap (node (plain (kind (form b)))) rows;
}

-- two entries of different labels
pub labels_deny : (d e : Entry) (p q : ℕ) (old : List (ℕ × ℕ)) → label p d ≢ label q e → Reduces (λ means. entry_over means p d ≡ entry_over means q e) false old old
labels_deny d e p q old differ = denied (λ means. entry_over means p d ≡ entry_over means q e) old old (λ k x is. is) (λ means h same. differ (ap label_in same))

-- two entries of one label
pub entries_reduce : (d e : Entry) (p q : ℕ) (same : Bool) (old new : List (ℕ × ℕ)) → label p d ≡ label q e
    → Reduces (λ means. row means (children d) ≡ row means (children e)) same old new → Reduces (λ means. entry_over means p d ≡ entry_over means q e) same old new
entries_reduce d e p q same old new labels r = record {
  keeps = r.keeps;
  needed = λ means h alike. r.needed means h (ap row_in alike);
  enough = λ means yes h. ap (λ l. node l (row means (children d))) labels ∙ ap (node (label q e)) (r.enough means yes h);
}

-- an entry and itself
pub itself_reduces : (o : ℕ → ℕ) (es : List Entry) (i : ℕ) (old : List (ℕ × ℕ)) → Reduces (AreAlikeOver o es i i) true old old
itself_reduces o es i old = record {
  keeps = λ k p is. is;
  needed = λ means h alike. (refl, h);
  enough = λ means yes h d e isd ise. (let one : d ≡ e = cc in ap (entry_over means (o i)) one);
}

-- the entries of a pair
pub pair_reduces : (o : ℕ → ℕ) (es : List Entry) (i j : ℕ) (d e : Entry) (same : Bool) (old new : List (ℕ × ℕ)) → slice_get es i ≡ Some d → slice_get es j ≡ Some e
    → Reduces (λ means. entry_over means (o i) d ≡ entry_over means (o j) e) same old new → Reduces (AreAlikeOver o es i j) same old new
pair_reduces o es i j d e same old new isd ise r = record {
  keeps = r.keeps;
  needed = λ means h alike. r.needed means h (alike d e isd ise);
  enough = λ means yes h x y isx isy.
      let first : x ≡ d = cc in
      let second : y ≡ e = cc in
      ap (entry_over means (o i)) first ∙ r.enough means yes h ∙ sym (ap (entry_over means (o j)) second);
}

pub if_ok_leads : {X E : Type 0} (P Q : X → Type 0) (r : Result X E) → ((x : X) → P x → Q x) → IfOk r P → IfOk r Q
if_ok_leads P Q (Ok x) leads h = leads x h
if_ok_leads P Q (Err e) leads h = tt

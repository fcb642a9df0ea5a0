-- What was found of pairs stays right, also after others are added.
use Rattle.std.proofs.Common.{◌≡◌, [], ℕ, List, Option, Some, None, Bool, sym, subst, set, replicate}
use Rattle.std.specs.Prelude.{IfSome}
use Rattle.std.specs.List.{All}
use Rattle.std.proofs.lemmas.List.Elements.{All-nil, All-replicate, All-set}
use Rattle.wac_graph_types.specs.declared.entry.Entry.{Entry}
use Rattle.wac_component_rules.specs.Found.{AllFit, EntryFits, EntryTells}

-- what holds of a slot, and of an answer that is kept
abbrev pub HeldFits : List Entry → Option (ℕ × ℕ) → Type 0
HeldFits es p = IfSome p (λ q. EntryFits es q.0 q.1)

abbrev pub IsTold : List Entry → (ℕ × ℕ) × Bool → Type 0
IsTold es a = EntryTells es a.0.0 a.0.1 a.1

pub none_held : (es : List Entry) (n : ℕ) (answers : List ((ℕ × ℕ) × Bool)) → answers ≡ [] → AllFit es (replicate n None, answers)
none_held es n answers none = record {
  slots = All-replicate (HeldFits es) n None tt;
  answers = subst (All (IsTold es)) (sym none) (All-nil (IsTold es));
}

pub fits_set : (es : List Entry) (slots : List (Option (ℕ × ℕ))) (k i j : ℕ) → All (HeldFits es) slots → EntryFits es i j → All (HeldFits es) (set slots k (Some (i, j)))
fits_set es slots k i j all fit = All-set (HeldFits es) slots k (Some (i, j)) fit all

-- Which items can begin something that derives: by kinds and texts, not by spans and docs.
use Rattle.std.specs.Prelude.{◌≡◌, List, [], ◌∷◌}
use Rattle.std.proofs.Common.{inl, inr}
use Rattle.wac_lexer.specs.Item.{Item}
use Rattle.wac_ast_grammar.specs.Grammar.{Sym, Grammar, token, sym, then, either, nothing, to_end, docs, not_empty, more, or_told, rule, TreeOf, Parts, build, Derives}

-- the same token with the same text
abbrev pub Same : Item → Item → Type 0
Same x y = (x.token ≡ y.token) × (x.text ≡ y.text)

abbrev pub Similar : List Item → List Item → Type 0
Similar [] [] = Unit {0}
Similar [] (y ∷ ys) = ⊥
Similar (x ∷ xs) [] = ⊥
Similar (x ∷ xs) (y ∷ ys) = Same x y × Similar xs ys

-- the second list begins with the tokens and texts of the first
abbrev pub Leads : List Item → List Item → Type 0
Leads [] ys = Unit {0}
Leads (x ∷ xs) [] = ⊥
Leads (x ∷ xs) (y ∷ ys) = Same x y × Leads xs ys

-- Some list that begins with these tokens and texts is derived.
abbrev pub Viable : Sym → List Item → Type 0
Viable s front = (ys : List Item) × (t : TreeOf s) × Leads front ys × Derives s ys t

-- parts of one shape, whose trees are alike
abbrev pub LikeIn : ((s : Sym) → TreeOf s → TreeOf s → Type 0) → (g : Grammar) → Parts g → Parts g → Type 0
LikeIn L (token k) p q = Same p q
LikeIn L (sym s) p q = L s p q
LikeIn L (then g h) p q = LikeIn L g p.0 q.0 × LikeIn L h p.1 q.1
LikeIn L (either loud g h) (inl p) (inl q) = LikeIn L g p q
LikeIn L (either loud g h) (inl p) (inr q) = ⊥
LikeIn L (either loud g h) (inr p) (inl q) = ⊥
LikeIn L (either loud g h) (inr p) (inr q) = LikeIn L h p q
LikeIn L (nothing b) p q = Unit {0}
LikeIn L (to_end g) (inl p) (inl q) = Unit {0}
LikeIn L (to_end g) (inl p) (inr q) = ⊥
LikeIn L (to_end g) (inr p) (inl q) = ⊥
LikeIn L (to_end g) (inr p) (inr q) = LikeIn L g p q
LikeIn L (docs g) p q = LikeIn L g p.1 q.1
LikeIn L (not_empty e k g) p q = LikeIn L g p q
LikeIn L (more k s g) p q = LikeIn L g p q
LikeIn L (or_told g k h) (inl p) (inl q) = LikeIn L g p q
LikeIn L (or_told g k h) (inl p) (inr q) = ⊥
LikeIn L (or_told g k h) (inr p) (inl q) = ⊥
LikeIn L (or_told g k h) (inr p) (inr q) = Same p.0 q.0 × LikeIn L h p.1 q.1

-- what is built of alike parts is alike
abbrev pub Respects : ((s : Sym) → TreeOf s → TreeOf s → Type 0) → Type 0
Respects L = (s : Sym) (p q : Parts (rule s)) → LikeIn L (rule s) p q → L s (build s p) (build s q)

-- A declaration whose docs, keyword and name were read together.
use Rattle.wac_ast_types.proofs.Common.{◌≡◌, List, [], Result, Ok, Err, ap, subst, ◌∙◌, Token, Item, Doc, Reading, left, Ident, Grammar, Parts, token, then, docs, docs_of, identifier, Stop, pair_with, two, read, read_in, read_token, Error, End, end_of_input, Fails, GivesPart, fails_bind, same_fails, same, Stops, Yields}
use Rattle.wac_ast_grammar.specs.Grammar.{sym}
use Rattle.wac_ast_base.proofs.Exits as x

module _ {A B C D : Type 0} (d : D) (g : B → List Item → Result (C × List Item) Stop) where
  -- two parts, and a third one after them
  abbrev longer : Result (A × List Item) Stop → (A → List Item → Result (B × List Item) Stop) → Result ((D × (A × (B × C))) × List Item) Stop
  longer m f = pair_with d (two m (λ a ys. two (f a ys) g))

  longer_fails : (e : Error) (end : End) (m : Result (A × List Item) Stop) (f : A → List Item → Result (B × List Item) Stop) → Fails e end (pair_with d (two m f)) → Fails e end (longer m f)
  longer_fails e end (Err s) f h = h
  longer_fails e end (Ok x) f h = go (f x.0 x.1) h
    where
      go : (r : Result (B × List Item) Stop) → Fails e end (pair_with d (pair_with x.0 r)) → Fails e end (pair_with d (pair_with x.0 (two r g)))
      go (Err s) h = h
      go (Ok b) h = fails_bind {A = (D × (A × B)) × List Item} e end (Ok ((d, (x.0, b.0)), b.1)) (λ q. pair_with d (pair_with x.0 (two (Ok b) g))) h

  longer_reads : (m : Result (A × List Item) Stop) (f : A → List Item → Result (B × List Item) Stop) (p : D × (A × B)) (ys : List Item) → pair_with d (two m f) ≡ Ok (p, ys) → longer m f ≡ pair_with p.0 (pair_with p.1.0 (pair_with p.1.1 (g p.1.1 ys)))
  longer_reads (Err s) f p ys r = absurd cc
  longer_reads (Ok x) f p ys r = go (f x.0 x.1) r
    where
      go : (w : Result (B × List Item) Stop) → pair_with d (pair_with x.0 w) ≡ Ok (p, ys) → pair_with d (pair_with x.0 (two w g)) ≡ pair_with p.0 (pair_with p.1.0 (pair_with p.1.1 (g p.1.1 ys)))
      go (Err s) r = absurd cc
      go (Ok b) r = ap (λ (z : (D × (A × B)) × List Item). pair_with z.0.0 (pair_with z.0.1.0 (pair_with z.0.1.1 (g z.0.1.1 z.1)))) (same {A = (D × (A × B)) × List Item} ((d, (x.0, b.0)), b.1) (p, ys) r)

abbrev head : Token → Grammar
head k = docs (then (token k) (sym identifier))

abbrev headed : Token → Grammar → Grammar
headed k h = docs (then (token k) (then (sym identifier) h))

-- the head fails
pub head_fails : {X Y : Type 0} {k : Token} {h : Grammar} {of : Parts (head k) → Y} {view : X → Y} {e : Error} {l m : Reading} → GivesPart (head k) of (λ e x. x ≡ e) view (Err e) l m → Stops e (headed k h) [] l
head_fails {k = k} {h = h} {e = e} {l = l} p = x.last (longer_fails (docs_of (left l)) (λ b. read_in read h []) e (end_of_input l) (read_token [] k (left l)) (λ a. read identifier) (x.same_error _ _ _ p.part))

-- it was read, and what follows it fails
pub head_past : {X Y E : Type 0} {k : Token} {h : Grammar} {of : Parts (head k) → Y} {made : Error → E → Type 0} {view : X → Y} {v : X} {e : Error} {l m : Reading} → GivesPart (head k) of made view (Ok v) l m → Stops e h [] m → Stops e (headed k h) [] l
head_past {k = k} {h = h} {e = e} {l = l} {m = m} p f =
    let here = subst (λ (end : End). Fails e end (read_in read h [] (left m))) p.part.3 f.fails in
    x.last (same_fails e (end_of_input l) _ _ (longer_reads (docs_of (left l)) (λ b. read_in read h []) (read_token [] k (left l)) (λ a. read identifier) p.part.0 (left m) p.part.1)
    (fails_bind e (end_of_input l) _ _ (fails_bind e (end_of_input l) _ _ (fails_bind e (end_of_input l) (read_in read h [] (left m)) _ here))))

-- it was read, and what follows it
pub head_and : {X Y E : Type 0} {k : Token} {h : Grammar} {of : Parts (head k) → Y} {made : Error → E → Type 0} {view : X → Y} {v : X} {l m n : Reading} {q : Parts h} (p : GivesPart (head k) of made view (Ok v) l m) → Yields h [] m q n → Yields (headed k h) [] l (p.part.0.0, (p.part.0.1.0, (p.part.0.1.1, q))) n
head_and {k = k} {h = h} {l = l} {m = m} p f = record {
  reads = longer_reads (docs_of (left l)) (λ b. read_in read h []) (read_token [] k (left l)) (λ a. read identifier) p.part.0 (left m) p.part.1 ∙ rw f.reads;
  ends = f.ends ∙ p.part.3;
}

-- what the head gives
pub head_docs : {X E : Type 0} {k : Token} {made : Error → E → Type 0} {view : X → List Doc × Ident} {v : X} {l m : Reading} (p : GivesPart (head k) (λ (p : Parts (head k)). (p.0, p.1.1)) made view (Ok v) l m) → p.part.0.0 ≡ (view v).0
head_docs p = ap (λ (q : List Doc × Ident). q.0) p.part.2

pub head_id : {X E : Type 0} {k : Token} {made : Error → E → Type 0} {view : X → List Doc × Ident} {v : X} {l m : Reading} (p : GivesPart (head k) (λ (p : Parts (head k)). (p.0, p.1.1)) made view (Ok v) l m) → p.part.0.1.1 ≡ (view v).1
head_id p = ap (λ (q : List Doc × Ident). q.1) p.part.2

-- A table's meanings stay as it grows, and each is a label over the meanings of what it names.
use Rattle.wac_graph_types.proofs.Common.{◌≡◌, ◌+◌, ◌<◌, ◌≤◌, ℕ, zero, suc, List, [], ◌∷◌, ◌++◌, length, refl, sym, ◌∙◌, ap, arith, length-append, Option, Some, None, subst, slice_get, IfSome, get_or_append_left}
use Rattle.std.proofs.Math.Seq.{get_or-append_seam}
use Rattle.wac_graph_types.specs.declared.kind.ItemKind.{ItemKind}
use Rattle.wac_graph_types.specs.declared.entry.Entry.{Entry}
use Rattle.wac_graph_types.specs.Kind.{form, named_by}
use Rattle.wac_graph_types.specs.Entry.{Slot, children, label}
use Rattle.wac_graph_types.specs.Label.{plain, kind, dangling}
use Rattle.wac_graph_types.specs.Meaning.{Meaning, node, done, look, named, of_child, row, over, meanings_from, meaning_at, meaning, NamesBefore, ChildrenBefore, EarlierFrom, IsEarlier}

-- older meanings stay
pub look_kept : (o : ℕ → ℕ) (es : List Entry) (ms : List Meaning) (i : ℕ) → i < length ms → look (meanings_from o ms es) i ≡ look ms i
look_kept o [] ms i h = refl
look_kept o (e ∷ es) ms i h =
    let within : i < length (ms ++ over o ms e ∷ []) = omega (arith, length-append ms (over o ms e ∷ [])) in
    look_kept o es (ms ++ over o ms e ∷ []) i within ∙ get_or_append_left ms (over o ms e ∷ []) (node (plain dangling) done) i h

named_agree : (f g : ℕ → Meaning) (n : ℕ) → ((k : ℕ) → k < n → f k ≡ g k) → (x : Option ℕ) → IfSome x (λ i. i < n) → named f x ≡ named g x
named_agree f g n same None h = refl
named_agree f g n same (Some i) h = rw (same i h)

child_agree : (f g : ℕ → Meaning) (n : ℕ) → ((k : ℕ) → k < n → f k ≡ g k) → (x : Option ItemKind) → IfSome x (NamesBefore n) → of_child f x ≡ of_child g x
child_agree f g n same None h = refl
child_agree f g n same (Some k) h = ap (node (plain (kind (form k)))) (named_agree f g n same (named_by k) h)

row_agree : (f g : ℕ → Meaning) (n : ℕ) → ((k : ℕ) → k < n → f k ≡ g k) → (cs : List (Slot × Option ItemKind)) → ChildrenBefore n cs → row f cs ≡ row g cs
row_agree f g n same [] h = refl
row_agree f g n same (c ∷ cs) h = let one = child_agree f g n same c.1 h.0 in let rest = row_agree f g n same cs h.1 in cc

-- the first entry, over the meanings of the whole table
at_here : (o : ℕ → ℕ) (es : List Entry) (ms : List Meaning) (x : Entry) → ChildrenBefore (length ms) (children x)
    → look (meanings_from o ms (x ∷ es)) (length ms) ≡ node (label (o (length ms)) x) (row (look (meanings_from o ms (x ∷ es))) (children x))
at_here o es ms x h =
    let within : length ms < length (ms ++ over o ms x ∷ []) = omega (arith, length-append ms (over o ms x ∷ [])) in
    look_kept o es (ms ++ over o ms x ∷ []) (length ms) within ∙ get_or-append_seam ms (over o ms x) [] (node (plain dangling) done)
    ∙ ap (node (label (o (length ms)) x)) (row_agree (look ms) (look (meanings_from o ms (x ∷ es))) (length ms) (λ k l. sym (look_kept o (x ∷ es) ms k l)) (children x) h)

-- the entry at i, over the meanings of the whole table
at_from : (o : ℕ → ℕ) (es : List Entry) (ms : List Meaning) (i n : ℕ) (e : Entry) → n ≡ length ms + i → EarlierFrom (length ms) es → slice_get es i ≡ Some e
    → look (meanings_from o ms es) n ≡ node (label (o n) e) (row (look (meanings_from o ms es)) (children e))
at_from o [] ms i n e at h is = absurd (cc)
at_from o (x ∷ es) ms zero n e at h is =
    let first : x ≡ e = cc in
    let number : length ms ≡ n = omega arith in
    let P : Entry → Type 0 = λ y. look (meanings_from o ms (x ∷ es)) n ≡ node (label (o n) y) (row (look (meanings_from o ms (x ∷ es))) (children y)) in
    let Q : ℕ → Type 0 = λ m. look (meanings_from o ms (x ∷ es)) m ≡ node (label (o m) x) (row (look (meanings_from o ms (x ∷ es))) (children x)) in
    subst P first (subst Q number (at_here o es ms x h.0))
at_from o (x ∷ es) ms (suc i) n e at h is =
    let len : suc (length ms) ≡ length (ms ++ over o ms x ∷ []) = omega (arith, length-append ms (over o ms x ∷ [])) in
    let earlier : EarlierFrom (length (ms ++ over o ms x ∷ [])) es = (let P : ℕ → Type 0 = λ m. EarlierFrom m es in subst P len h.1) in
    at_from o es (ms ++ over o ms x ∷ []) i n e (omega arith) earlier is

-- an entry means its label, over the meanings of what it names
pub meaning_at_entry : (o : ℕ → ℕ) (es : List Entry) (i : ℕ) (e : Entry) → IsEarlier es → slice_get es i ≡ Some e
    → meaning_at o es i ≡ node (label (o i) e) (row (meaning_at o es) (children e))
unfolding meaning_at
meaning_at_entry o es i e h is = at_from o es [] i i e (omega arith) h is

pub split : (o : ℕ → ℕ) (es fs : List Entry) (ms : List Meaning) → meanings_from o ms (es ++ fs) ≡ meanings_from o (meanings_from o ms es) fs
split o [] fs ms = refl
split o (e ∷ es) fs ms = split o es fs (ms ++ over o ms e ∷ [])

pub meanings_length : (o : ℕ → ℕ) (es : List Entry) (ms : List Meaning) → length (meanings_from o ms es) ≡ length ms + length es
meanings_length o [] ms = omega arith
meanings_length o (e ∷ es) ms = omega (arith, meanings_length o es (ms ++ over o ms e ∷ []), length-append ms (over o ms e ∷ []))

-- no entry's meaning changes as the table grows
pub grown_at : (o : ℕ → ℕ) (es fs : List Entry) (i : ℕ) → i < length es → meaning_at o (es ++ fs) i ≡ meaning_at o es i
unfolding meaning_at
grown_at o es fs i h =
    let within : i < length (meanings_from o [] es) = omega (arith, meanings_length o es []) in
    ap (λ ms. look ms i) (split o es fs []) ∙ look_kept o fs (meanings_from o [] es) i within

-- nor does a kind's
pub grown : (o : ℕ → ℕ) (es fs : List Entry) (k : ItemKind) → NamesBefore (length es) k → meaning o (es ++ fs) k ≡ meaning o es k
grown o es fs k h = child_agree (meaning_at o (es ++ fs)) (meaning_at o es) (length es) (grown_at o es fs) (Some k) h

-- only the origins of the entries count
origins_agree : (o p : ℕ → ℕ) (es : List Entry) (ms : List Meaning) → ((k : ℕ) → k < length ms + length es → o k ≡ p k) → meanings_from o ms es ≡ meanings_from p ms es
origins_agree o p [] ms same = refl
origins_agree o p (e ∷ es) ms same =
    let here : over o ms e ≡ over p ms e = ap (λ (n : ℕ). node (label n e) (row (look ms) (children e))) (same (length ms) (omega arith)) in
    ap (λ (m : Meaning). meanings_from o (ms ++ m ∷ []) es) here
    ∙ origins_agree o p es (ms ++ over p ms e ∷ []) (λ k h. same k (omega (arith, length-append ms (over p ms e ∷ []))))

pub same_origins : (o p : ℕ → ℕ) (es : List Entry) (i : ℕ) → ((k : ℕ) → k < length es → o k ≡ p k) → meaning_at o es i ≡ meaning_at p es i
unfolding meaning_at
same_origins o p es i same = ap (λ ms. look ms i) (origins_agree o p es [] (λ k h. same k (omega arith)))

-- a kind's meaning stays as the table and the origins grow
pub grown_under : (o p : ℕ → ℕ) (es fs : List Entry) (k : ItemKind) → ((i : ℕ) → i < length es → p i ≡ o i) → NamesBefore (length es) k → meaning p (es ++ fs) k ≡ meaning o es k
grown_under o p es fs k same h = child_agree (meaning_at p (es ++ fs)) (meaning_at o es) (length es)
    (λ i w. grown_at p es fs i w ∙ same_origins p o es i same) (Some k) h

-- one more entry that names earlier ones
earlier_more : (n : ℕ) (es : List Entry) (e : Entry) → EarlierFrom n es → ChildrenBefore (n + length es) (children e) → EarlierFrom n (es ++ e ∷ [])
earlier_more n [] e h here = let at : n + 0 ≡ n = omega arith in (subst (λ (m : ℕ). ChildrenBefore m (children e)) at here, tt)
earlier_more n (x ∷ es) e h here = (h.0, earlier_more (suc n) es e h.1 (let at : n + length (x ∷ es) ≡ suc n + length es = omega arith in subst (λ (m : ℕ). ChildrenBefore m (children e)) at here))

pub is_earlier_more : (es : List Entry) (e : Entry) → IsEarlier es → ChildrenBefore (length es) (children e) → IsEarlier (es ++ e ∷ [])
is_earlier_more es e h here = earlier_more 0 es e h (let at : length es ≡ 0 + length es = omega arith in subst (λ (m : ℕ). ChildrenBefore m (children e)) at here)

before_id_grows : (i n : ℕ) (x : Option ℕ) → i ≤ n → IfSome x (λ m. m < i) → IfSome x (λ m. m < n)
before_id_grows i n None le h = tt
before_id_grows i n (Some m) le h = omega arith

pub names_before_more : (i n : ℕ) (k : ItemKind) → i ≤ n → NamesBefore i k → NamesBefore n k
names_before_more i n k le h = before_id_grows i n (named_by k) le h

get_seam : (es : List Entry) (e : Entry) → slice_get (es ++ e ∷ []) (length es) ≡ Some e
get_seam [] e = refl
get_seam (x ∷ es) e = get_seam es e

-- a new entry means its label, over what its kinds meant before
pub added : (o p : ℕ → ℕ) (es : List Entry) (e : Entry) → ((i : ℕ) → i < length es → p i ≡ o i) → IsEarlier es → ChildrenBefore (length es) (children e)
    → meaning_at p (es ++ e ∷ []) (length es) ≡ node (label (p (length es)) e) (row (meaning_at o es) (children e))
added o p es e same h here =
    meaning_at_entry p (es ++ e ∷ []) (length es) e (is_earlier_more es e h here) (get_seam es e)
    ∙ ap (node (label (p (length es)) e)) (row_agree (meaning_at p (es ++ e ∷ [])) (meaning_at o es) (length es) (λ k w. grown_at p es (e ∷ []) k w ∙ same_origins p o es k same) (children e) here)

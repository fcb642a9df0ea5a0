-- Where reading stops: what comes before can be completed, and each token that was looked for can occur there.
use Rattle.std.proofs.Common.{◌≡◌, List, [], ◌∷◌, ◌++◌, map, Result, Ok, Err, Bool, true, false, cond, refl, sym as back, ap, subst, ◌∙◌, ◌⊎◌, inl, inr, append_assoc}
use Rattle.wac_ast_grammar.proofs.Common.{Token, append-nil, Item}
use Rattle.wac_lexer.specs.declared.token.Token.TheVariants as t
use Rattle.wac_ast_grammar.specs.Tokens.{is_token, valid, at}
use Rattle.wac_ast_grammar.specs.Grammar.{Sym, Parts, Grammar, token, sym, then, either, nothing, to_end, docs, not_empty, more, or_told, docs_of, DerivesIn, Derives}
use Rattle.wac_ast_grammar.specs.Reading.{Standing, at_once, closing, after_comma, Tried, can, closes, follows, Stop, Why, other, version, empty_body, told, before, refuse, ◌>>=◌, mapped, pair_with, read_in, read_token, read_sym, led, two, is_empty, begins, first, at_one_of, may_leave}
use Rattle.wac_ast_grammar.specs.Possible.{named, IsOf}
use Rattle.wac_ast_grammar.proofs.Fixed.{Reader, both, both_left, both_right, ranked}
use Rattle.wac_ast_grammar.proofs.Tables.{always, among, same_token, within, back_token, continues, negated, apart, pickable, clash, lawful, both_lawful}
use Rattle.wac_ast_grammar.proofs.Sound.{Fronted, OfToken, sound_in}
use Rattle.wac_ast_grammar.proofs.Completed.{Sample, FirstOf, named_split, cans_once, follows_later, one_only, of_token, self_token, same_is, by_nil, within_is, by_first, sample_in, first_in}

-- each item of the token can occur after `lead`
abbrev pub AtOnce : {A : Type 0} → (List Item → A → Type 0) → List Item → Token → Type 0
AtOnce {A = A} D lead k = (x : Item) → IsOf k x → (zs : List Item) × (p : A) × D (lead ++ (x ∷ zs)) p

-- and after a comma there
abbrev pub AfterComma : {A : Type 0} → (List Item → A → Type 0) → List Item → Token → Type 0
AfterComma {A = A} D lead k = (c x : Item) → IsOf t.Comma c → IsOf k x → (zs : List Item) × (p : A) × D (lead ++ (c ∷ x ∷ zs)) p

-- How the token can occur after `lead`, where `left` is left.
abbrev pub Goes : {A : Type 0} → (List Item → A → Type 0) → List Item → List Item → Standing → Token → Type 0
Goes D lead left at_once k = AtOnce D lead k
Goes D lead left closing k = Unit {0}
Goes D lead left after_comma k = (left ≡ []) × (close : Token) × AtOnce D lead close × AfterComma D lead close × AfterComma D lead k

abbrev pub Early : {A : Type 0} → (List Item → A → Type 0) → Standing → Token → Type 0
Early D m k = (left : List Item) → Goes D [] left m k

pub early_first : {A : Type 0} (D : List Item → A → Type 0) (k : Token) → FirstOf D k → Early D at_once k
early_first D k f = λ left x i. f x i

-- After `lead`, perhaps after the item that it is reported at, reading stopped: these items can be
-- completed, and each token that was looked for can occur after `lead`, but for those that were looked
-- for before, at the very place where this reading began.
abbrev pub Stops : {A : Type 0} → (List Item → A → Type 0) → List Tried → List Item → Result (A × List Item) Stop → Type 0
Stops D tried xs (Ok x) = Unit {0}
Stops {A = A} D tried xs (Err s) = (lead : List Item) × (xs ≡ lead ++ (before s.why ++ s.left)) × ((ys : List Item) × (p : A) × D (lead ++ (before s.why ++ ys)) p) × ((m : Standing) (k : Token) → named m k s.expected ≡ true → ((named m k tried ≡ true) × (lead ≡ [])) ⊎ Goes D lead s.left m k)

stops_cond : {A : Type 0} (D : List Item → A → Type 0) (tried : List Tried) (b : Bool) (xs : List Item) (m n : Result (A × List Item) Stop) → Stops D tried xs m → Stops D tried xs n → Stops D tried xs (cond b m n)
stops_cond D tried true xs m n h k = h
stops_cond D tried false xs m n h k = k

-- what continues with one family continues with another, after what comes before it
abbrev Carries : {A B : Type 0} → (List Item → A → Type 0) → (List Item → B → Type 0) → List Item → List Item → Type 0
Carries {A = A} {B = B} D E lead front = (zs : List Item) (a : A) → D (lead ++ zs) a → (ys : List Item) × (b : B) × ((us : List Item) × ((front ++ lead) ++ (zs ++ ys) ≡ us) × E us b)

once_on : {A B : Type 0} (D : List Item → A → Type 0) (E : List Item → B → Type 0) (lead front : List Item) → Carries D E lead front → (k : Token) → AtOnce D lead k → AtOnce E (front ++ lead) k
once_on D E lead front h k g = λ x i. let a = g x i in let b = h (x ∷ a.0) a.1 a.2 in (a.0 ++ b.0, b.1, subst (λ (us : List Item). E us b.1) (back b.2.1) b.2.2)

comma_on : {A B : Type 0} (D : List Item → A → Type 0) (E : List Item → B → Type 0) (lead front : List Item) → Carries D E lead front → (k : Token) → AfterComma D lead k → AfterComma E (front ++ lead) k
comma_on D E lead front h k g = λ c x n i. let a = g c x n i in let b = h (c ∷ x ∷ a.0) a.1 a.2 in (a.0 ++ b.0, b.1, subst (λ (us : List Item). E us b.1) (back b.2.1) b.2.2)

goes_on : {A B : Type 0} (D : List Item → A → Type 0) (E : List Item → B → Type 0) (lead front left : List Item) → Carries D E lead front → (m : Standing) (k : Token) → Goes D lead left m k → Goes E (front ++ lead) left m k
goes_on D E lead front left h at_once k g = once_on D E lead front h k g
goes_on D E lead front left h closing k g = tt
goes_on D E lead front left h after_comma k g = (g.0, g.1, once_on D E lead front h g.1 g.2, comma_on D E lead front h g.1 g.3, comma_on D E lead front h k g.4)

goes_map : {A B : Type 0} (D : List Item → A → Type 0) (E : List Item → B → Type 0) → ((ys : List Item) (a : A) → D ys a → (b : B) × E ys b) → (lead left : List Item) (m : Standing) (k : Token) → Goes D lead left m k → Goes E lead left m k
goes_map D E h lead left m k g = goes_on D E lead [] left (λ zs a d. let b = h (lead ++ zs) a d in ([], b.0, (lead ++ zs, ap (λ (us : List Item). lead ++ us) (append-nil zs), b.1))) m k g

-- the tokens tried before are others, or can occur there
pub stops_pass : {A B : Type 0} (D : List Item → A → Type 0) (E : List Item → B → Type 0) (f : A → B) (tried ts : List Tried) → ((ys : List Item) (a : A) → D ys a → (b : B) × E ys b) → ((m : Standing) (k : Token) → named m k ts ≡ true → (named m k tried ≡ true) ⊎ Early E m k)
    → (xs : List Item) (m : Result (A × List Item) Stop) → Stops D ts xs m → Stops E tried xs (mapped f m)
stops_pass D E f tried ts h j xs (Ok x) d = tt
stops_pass {A = A} {B = B} D E f tried ts h j xs (Err s) d = (d.0, d.1, (let c = h (d.0 ++ (before s.why ++ d.2.0)) d.2.1 d.2.2 in (d.2.0, c.0, c.1)), λ m k n. go m k (d.3 m k n))
  where
    first_of : (m : Standing) (k : Token) → d.0 ≡ [] → (named m k tried ≡ true) ⊎ Early E m k → ((named m k tried ≡ true) × (d.0 ≡ [])) ⊎ Goes E d.0 s.left m k
    first_of m k e (inl n) = inl (n, e)
    first_of m k e (inr a) = inr (subst (λ (us : List Item). Goes E us s.left m k) (back e) (a s.left))

    go : (m : Standing) (k : Token) → ((named m k ts ≡ true) × (d.0 ≡ [])) ⊎ Goes D d.0 s.left m k → ((named m k tried ≡ true) × (d.0 ≡ [])) ⊎ Goes E d.0 s.left m k
    go m k (inl n) = first_of m k n.1 (j m k n.0)
    go m k (inr a) = inr (goes_map D E h d.0 s.left m k a)

stops_keep : {A : Type 0} (D : List Item → A → Type 0) (tried ts : List Tried) → ((m : Standing) (k : Token) → named m k ts ≡ true → (named m k tried ≡ true) ⊎ Early D m k)
    → (xs : List Item) (m : Result (A × List Item) Stop) → Stops D ts xs m → Stops D tried xs m
stops_keep D tried ts j xs (Ok x) d = tt
stops_keep D tried ts j xs (Err s) d = stops_pass D D (λ a. a) tried ts (λ ys a e. (a, e)) j xs (Err s) d

abbrev no_items : List Item
no_items = []

-- rejected at once
pub stops_here : {A : Type 0} (D : List Item → A → Type 0) (tried ts : List Tried) (w : Why) → before w ≡ [] → Sample D → (xs : List Item) → ((m : Standing) (k : Token) → named m k ts ≡ true → (named m k tried ≡ true) ⊎ Goes D [] xs m k) → Stops D tried xs (Err (record { left = xs; expected = ts; why = w }))
stops_here {A = A} D tried ts w e some xs j = ([], ap (λ (us : List Item). us ++ xs) (back e), (some.0, some.1, subst (λ (us : List Item). D (us ++ some.0) some.1) (back e) some.2), λ m k n. go m k (j m k n))
  where
    go : (m : Standing) (k : Token) → (named m k tried ≡ true) ⊎ Goes D [] xs m k → ((named m k tried ≡ true) × (no_items ≡ no_items)) ⊎ Goes D [] xs m k
    go m k (inl n) = inl (n, refl)
    go m k (inr a) = inr a

-- after items that were read
stops_after : {A B : Type 0} (E : List Item → A → Type 0) (F : List Item → B → Type 0) (f : A → B) (tried : List Tried) (front : List Item) → ((zs : List Item) (a : A) → E zs a → (b : B) × F (front ++ zs) b)
    → (xs ys : List Item) → xs ≡ front ++ ys → (m : Result (A × List Item) Stop) → Stops E [] ys m → Stops F tried xs (mapped f m)
stops_after E F f tried front h xs ys e (Ok x) d = tt
stops_after {A = A} {B = B} E F f tried front h xs ys e (Err s) d = (
  front ++ d.0,
  e ∙ ap (λ (us : List Item). front ++ us) d.1 ∙ back (append_assoc front d.0 (before s.why ++ s.left)),
  (let c = h (d.0 ++ (before s.why ++ d.2.0)) d.2.1 d.2.2 in (d.2.0, c.0, subst (λ (us : List Item). F us c.0) (back (append_assoc front d.0 (before s.why ++ d.2.0))) c.1)),
  λ m k n. go m k (d.3 m k n),
)
  where
    go : (m : Standing) (k : Token) → ((named m k [] ≡ true) × (d.0 ≡ [])) ⊎ Goes E d.0 s.left m k → ((named m k tried ≡ true) × (front ++ d.0 ≡ [])) ⊎ Goes F (front ++ d.0) s.left m k
    go m k (inl n) = let a = n.0 in absurd cc
    go m k (inr a) = inr (goes_on E F d.0 front s.left (λ zs b q. let c = h (d.0 ++ zs) b q in ([], c.0, (front ++ (d.0 ++ zs), ap (λ (us : List Item). (front ++ d.0) ++ us) (append-nil zs) ∙ append_assoc front d.0 zs, c.1))) m k a)

stops_two : {A B : Type 0} (D : List Item → A → Type 0) (E : List Item → B → Type 0) (F : List Item → A × B → Type 0) (tried : List Tried) → ((ys zs : List Item) (a : A) (b : B) → D ys a → E zs b → F (ys ++ zs) (a, b)) → Sample E
    → (xs : List Item) (m : Result (A × List Item) Stop) (f : A → List Item → Result (B × List Item) Stop) → Fronted D xs m → Stops D tried xs m → ((a : A) (ys : List Item) → Stops E [] ys (f a ys)) → Stops F tried xs (two m f)
stops_two {A = A} {B = B} D E F tried h some xs (Err s) f r d e = (
  d.0,
  d.1,
  (d.2.0 ++ some.0, (d.2.1, some.1), subst (λ (us : List Item). F us (d.2.1, some.1)) (append_assoc d.0 (before s.why ++ d.2.0) some.0 ∙ ap (λ (us : List Item). d.0 ++ us) (append_assoc (before s.why) d.2.0 some.0)) (h (d.0 ++ (before s.why ++ d.2.0)) some.0 d.2.1 some.1 d.2.2 some.2)),
  λ m k n. go m k (d.3 m k n),
)
  where
    go : (m : Standing) (k : Token) → ((named m k tried ≡ true) × (d.0 ≡ [])) ⊎ Goes D d.0 s.left m k → ((named m k tried ≡ true) × (d.0 ≡ [])) ⊎ Goes F d.0 s.left m k
    go m k (inl n) = inl n
    go m k (inr a) = inr (goes_on D F d.0 [] s.left (λ zs b q. (some.0, (b, some.1), ((d.0 ++ zs) ++ some.0, back (append_assoc d.0 zs some.0), h (d.0 ++ zs) some.0 b some.1 q some.2))) m k a)
stops_two D E F tried h some xs (Ok x) f r d e = stops_after E F (λ b. (x.0, b)) tried r.0 (λ zs b q. ((x.0, b), h r.0 zs x.0 b r.2 q)) xs x.1 r.1 (f x.0 x.1) (e x.0 x.1)

pub no_named : {P : Type 0} (m : Standing) (k : Token) → named m k [] ≡ true → P
no_named m k h = absurd cc

-- what can occur at once
early : {A : Type 0} (D : List Item → A → Type 0) (m : Standing) (k : Token) → m ≡ at_once → FirstOf D k → Early D m k
early D m k e f = subst (λ (o : Standing). Early D o k) (back e) (early_first D k f)

named_firsts : {A : Type 0} (D : List Item → A → Type 0) (tried : List Tried) (ks : List Token) → ((k : Token) → among k ks ≡ true → FirstOf D k) → (m : Standing) (k : Token) → named m k (tried ++ map can ks) ≡ true → (named m k tried ≡ true) ⊎ Early D m k
named_firsts D tried ks f m k h = go (named_split m k tried (map can ks) h)
  where
    go : (named m k tried ≡ true) ⊎ (named m k (map can ks) ≡ true) → (named m k tried ≡ true) ⊎ Early D m k
    go (inl n) = inl n
    go (inr n) = let o = cans_once m k ks n in inr (early D m k o.0 (f k o.1))

-- a last token that was looked for
named_last : {A : Type 0} (D : List Item → A → Type 0) (tried : List Tried) (l : Token) → FirstOf D l → (m : Standing) (k : Token) → named m k (tried ++ (can l ∷ [])) ≡ true → (named m k tried ≡ true) ⊎ Early D m k
named_last D tried l some m k h = named_firsts D tried (l ∷ []) (λ k a. subst (λ (o : Token). FirstOf D o) (same_is l k (one_only (same_token l k) a)) some) m k h

now : {A : Type 0} (D : List Item → A → Type 0) (m : Standing) (k : Token) (P : Type 0) (left : List Item) → P ⊎ Early D m k → P ⊎ Goes D [] left m k
now D m k P left (inl n) = inl n
now D m k P left (inr a) = inr (a left)

token_some : (l : Token) → FirstOf (OfToken l) l
token_some l = λ x i. ([], x, of_token l l x (self_token l) i)

abbrev and_then : {A B : Type 0} → Result (A × List Item) Stop → (A → List Item → Result (B × List Item) Stop) → Result (B × List Item) Stop
and_then m f = m >>= λ a. f a.0 a.1

-- a token, from which the other family is made
token_stops : {B : Type 0} (E : List Item → B → Type 0) (tried ts : List Tried) (k : Token) → Sample E → FirstOf E k → ((m : Standing) (l : Token) → named m l ts ≡ true → (named m l tried ≡ true) ⊎ Early E m l) → (f : Item → List Item → Result (B × List Item) Stop)
    → ((x : Item) (xs : List Item) → is_token k x.token ≡ true → valid k x.text ≡ true → Stops E tried (x ∷ xs) (f x xs)) → (xs : List Item) → Stops E tried xs (and_then (read_token ts k xs) f)
token_stops E tried ts k some one j f h [] = stops_here E tried (ts ++ (can k ∷ [])) other refl some [] (λ m l n. go m l (named_last E ts k one m l n))
  where
    go : (m : Standing) (l : Token) → (named m l ts ≡ true) ⊎ Early E m l → (named m l tried ≡ true) ⊎ Goes E [] [] m l
    go m l (inl n) = now E m l (named m l tried ≡ true) [] (j m l n)
    go m l (inr a) = inr (a [])
token_stops {B = B} E tried ts k some one j f h (x ∷ xs) = pick (is_token k x.token) refl (valid k x.text) refl
  where
    go : (m : Standing) (l : Token) → (named m l ts ≡ true) ⊎ Early E m l → (named m l tried ≡ true) ⊎ Goes E [] (x ∷ xs) m l
    go m l (inl n) = now E m l (named m l tried ≡ true) (x ∷ xs) (j m l n)
    go m l (inr a) = inr (a (x ∷ xs))

    only : (m : Standing) (l : Token) → (named m l [] ≡ true) ⊎ Early E m l → (named m l tried ≡ true) ⊎ Goes E [] (x ∷ xs) m l
    only m l (inl n) = no_named m l n
    only m l (inr a) = inr (a (x ∷ xs))

    pick : (b : Bool) → is_token k x.token ≡ b → (c : Bool) → valid k x.text ≡ c → Stops E tried (x ∷ xs) (and_then {A = Item} (cond b (cond c (Ok (x, xs)) (Err (record { left = x ∷ xs; expected = can k ∷ []; why = version }))) (refuse (x ∷ xs) (ts ++ (can k ∷ [])))) f)
    pick true e true v = h x xs e v
    pick true e false v = stops_here E tried (can k ∷ []) version refl some (x ∷ xs) (λ m l n. only m l (named_last E [] k one m l n))
    pick false e c v = stops_here E tried (ts ++ (can k ∷ [])) other refl some (x ∷ xs) (λ m l n. go m l (named_last E ts k one m l n))

id_bind : {A : Type 0} (m : Result (A × List Item) Stop) → and_then m (λ x ys. Ok (x, ys)) ≡ m
id_bind (Ok x) = refl
id_bind (Err s) = refl

module _ (sample : (s : Sym) → Sample (Derives s)) (item : (k : Token) → (x : Item) × IsOf k x) where
  firsts_of : (g : Grammar) → ranked 5 g ≡ true → (k : Token) → among k (first g) ≡ true → FirstOf (DerivesIn Derives g) k
  firsts_of g ok k h = first_in Derives sample item 5 (by_nil 5) (by_first sample item 5) g ok k h

  some_of : (g : Grammar) → Sample (DerivesIn Derives g)
  some_of g = sample_in Derives sample item g

  module _ (rec : Reader) (some : (g : Grammar) (p : Parts g) → is_empty g ≡ false → DerivesIn Derives g [] p → ⊥) (sounds : (s : Sym) (xs : List Item) → Fronted (Derives s) xs (rec s xs)) (all_rank : (g : Grammar) → ranked 5 g ≡ true) (goes : (s : Sym) (xs : List Item) → Stops (Derives s) [] xs (rec s xs)) where
    sym_stops : (s : Sym) (tried : List Tried) (xs : List Item) → Stops (Derives s) tried xs (read_sym (rec s) (begins s) tried xs)
    sym_stops s [] xs = goes s xs
    sym_stops s (t ∷ ts) xs = stops_cond (Derives s) (t ∷ ts) (at_one_of (begins s) xs) xs (rec s xs) (refuse xs ((t ∷ ts) ++ map can (begins s)))
        (stops_keep (Derives s) (t ∷ ts) [] (λ m k n. no_named m k n) xs (rec s xs) (goes s xs))
        (stops_here (Derives s) (t ∷ ts) ((t ∷ ts) ++ map can (begins s)) other refl (sample s) xs (λ m k n. now (Derives s) m k (named m k (t ∷ ts) ≡ true) xs (named_firsts (Derives s) (t ∷ ts) (begins s) (λ k h. firsts_of (sym s) (all_rank (sym s)) k h) m k n)))

    loud_firsts : {A : Type 0} (D : List Item → A → Type 0) (tried : List Tried) (loud : Bool) (ks : List Token) → ((k : Token) → among k ks ≡ true → FirstOf D k) → (m : Standing) (k : Token) → named m k (tried ++ cond loud (map can ks) []) ≡ true → (named m k tried ≡ true) ⊎ Early D m k
    loud_firsts D tried true ks f m k h = named_firsts D tried ks f m k h
    loud_firsts D tried false ks f m k h = named_firsts D tried [] (λ l a. absurd (cc a)) m k h

    -- each of the tokens may come after a comma
    comma_goes : (ks : List Token) (g : Grammar) → continues ks g ≡ true → (k : Token) → among k ks ≡ true → (c x : Item) → IsOf t.Comma c → IsOf k x → (zs : List Item) × (p : Parts g) × DerivesIn Derives g (c ∷ x ∷ zs) p
    comma_goes ks (either loud g (then (token c) (sym s))) ok k a comma x n i =
        let ok_c = both_left (same_token t.Comma c) (within ks (begins s)) ok in
        let f = firsts_of (sym s) (all_rank (sym s)) k (within_is k ks (begins s) a (both_right (same_token t.Comma c) (within ks (begins s)) ok)) x i in
        let o = of_token c t.Comma comma (back_token t.Comma c ok_c) n in
        (f.0, inr (comma, f.1), (comma ∷ [], x ∷ f.0, refl, o, f.2))
    comma_goes ks _ ok k a comma x n i = absurd cc

    pub stops_in : (g : Grammar) (tried : List Tried) (xs : List Item) → lawful g ≡ true → Stops (DerivesIn Derives g) tried xs (read_in rec g tried xs)
    stops_in (token k) tried xs ok = subst (λ (m : Result (Item × List Item) Stop). Stops (OfToken k) tried xs m) (id_bind (read_token tried k xs))
        (token_stops (OfToken k) tried tried k (some_of (token k)) (token_some k) (λ m l n. inl n) (λ x ys. Ok (x, ys)) (λ x ys e v. tt) xs)
    stops_in (sym s) tried xs ok = sym_stops s tried xs
    stops_in (then g h) tried xs ok =
        let oks = both_lawful (lawful g) (lawful h) (apart (first h) (clash g)) ok in
        stops_two (DerivesIn Derives g) (DerivesIn Derives h) (DerivesIn Derives (then g h)) tried (λ ys zs a b d e. (ys, zs, refl, d, e)) (some_of h) xs (read_in rec g tried xs) (λ a. read_in rec h [])
        (sound_in Derives some rec sounds g tried xs oks.0) (stops_in g tried xs oks.0) (λ a ys. stops_in h [] ys oks.1)
    stops_in (either loud g h) tried xs ok =
        let oks = both_lawful (lawful g) (lawful h) (both (negated (is_empty g)) (both (apart (first h) (first g)) (pickable h))) ok in
        stops_cond (DerivesIn Derives (either loud g h)) tried (at_one_of (first g) xs) xs _ _
        (stops_pass (DerivesIn Derives g) (DerivesIn Derives (either loud g h)) inl tried [] (λ ys a d. (inl a, d)) (λ m k n. no_named m k n) xs (read_in rec g [] xs) (stops_in g [] xs oks.0))
        (stops_pass (DerivesIn Derives h) (DerivesIn Derives (either loud g h)) inr tried (tried ++ cond loud (map can (first g)) []) (λ ys a d. (inr a, d))
        (loud_firsts (DerivesIn Derives (either loud g h)) tried loud (first g) (λ k n. λ x i. let a = firsts_of g (all_rank g) k n x i in (a.0, inl a.1, a.2)))
        xs (read_in rec h (tried ++ cond loud (map can (first g)) []) xs) (stops_in h (tried ++ cond loud (map can (first g)) []) xs oks.1))
    stops_in (nothing b) tried xs ok = stops_cond (DerivesIn Derives (nothing b)) tried (may_leave b xs) xs (Ok (tt, xs)) (refuse xs tried) tt (stops_here (DerivesIn Derives (nothing b)) tried tried other refl ([], tt, refl) xs (λ m k n. inl n))
    stops_in (to_end g) tried [] ok = tt
    stops_in (to_end g) tried (x ∷ xs) ok = stops_pass (DerivesIn Derives g) (DerivesIn Derives (to_end g)) inr tried [] (λ ys a d. (inr a, d)) (λ m k n. no_named m k n) (x ∷ xs) (read_in rec g [] (x ∷ xs)) (stops_in g [] (x ∷ xs) (both_left (lawful g) (negated (is_empty g)) ok))
    stops_in (docs g) tried xs ok = stops_pass (DerivesIn Derives g) (DerivesIn Derives (docs g)) (λ b. (docs_of xs, b)) tried tried (λ ys a d. ((docs_of ys, a), (refl, d))) (λ m k n. inl n) xs (read_in rec g tried xs) (stops_in g tried xs (both_left (lawful g) (negated (is_empty g)) ok))
    stops_in (not_empty e k g) tried xs ok =
        let ok_g = (both_lawful (lawful g) (negated (is_empty g)) (both (apart (first g) (k ∷ [])) (pickable g)) ok).0 in
        stops_cond (DerivesIn Derives g) tried (at k xs) xs _ _
        (stops_here (DerivesIn Derives g) tried [] (empty_body e) refl (some_of g) xs (λ m l n. no_named m l n))
        (stops_keep (DerivesIn Derives g) tried (tried ++ (closes k ∷ [])) (λ m l n. go m l (named_split m l tried (closes k ∷ []) n)) xs (read_in rec g (tried ++ (closes k ∷ [])) xs) (stops_in g (tried ++ (closes k ∷ [])) xs ok_g))
      where
        go : (m : Standing) (l : Token) → (named m l tried ≡ true) ⊎ (named m l (closes k ∷ []) ≡ true) → (named m l tried ≡ true) ⊎ Early (DerivesIn Derives g) m l
        go m l (inl n) = inl n
        go at_once l (inr n) = absurd cc
        go closing l (inr n) = inr (λ left. tt)
        go after_comma l (inr n) = absurd cc
    stops_in (more k s g) tried [] ok =
        let in_g = both_right (both (lawful g) (negated (is_empty g))) (both (among k (first g)) (continues (k ∷ begins s) g)) ok in
        let closer = firsts_of g (all_rank g) k (both_left (among k (first g)) (continues (k ∷ begins s) g) in_g) in
        stops_here (DerivesIn Derives g) tried (can k ∷ map follows (begins s)) other refl (some_of g) []
        (λ m l n. inr (go m l (named_split m l (can k ∷ []) (map follows (begins s)) n) (both_right (among k (first g)) (continues (k ∷ begins s) g) in_g) closer))
      where
        go : (m : Standing) (l : Token) → (named m l (can k ∷ []) ≡ true) ⊎ (named m l (map follows (begins s)) ≡ true) → continues (k ∷ begins s) g ≡ true → FirstOf (DerivesIn Derives g) k → Goes (DerivesIn Derives g) [] [] m l
        go m l (inl n) ok a = let o = cans_once m l (k ∷ []) n in early (DerivesIn Derives g) m l o.0 (subst (λ (o : Token). FirstOf (DerivesIn Derives g) o) (same_is k l (one_only (same_token k l) o.1)) a) []
        go m l (inr n) ok a = let o = follows_later m l (begins s) n in subst (λ (o : Standing). Goes (DerivesIn Derives g) [] [] o l) (back o.0)
            (refl, k, a, (λ c x i j. comma_goes (k ∷ begins s) g ok k (ap (λ b. cond b true (among k (begins s))) (self_token k)) c x i j), (λ c x i j. comma_goes (k ∷ begins s) g ok l (rw o.1 (always (same_token k l))) c x i j))
    stops_in (more k s g) tried (x ∷ xs) ok = stops_in g tried (x ∷ xs) (both_lawful (lawful g) (negated (is_empty g)) (both (among k (first g)) (continues (k ∷ begins s) g)) ok).0
    stops_in (or_told g k h) tried xs ok =
        let oks = both_lawful (lawful g) (lawful h) (both (negated (is_empty g)) (both (apart (k ∷ []) (first g)) (negated (is_empty h)))) ok in
        stops_cond E tried (at_one_of (first g) xs) xs _ _
        (stops_pass (DerivesIn Derives g) E inl tried [] (λ ys a d. (inl a, d)) (λ m l n. no_named m l n) xs (read_in rec g [] xs) (stops_in g [] xs oks.0))
        (subst (λ (m : Result (Parts (or_told g k h) × List Item) Stop). Stops E tried xs m) (joined (read_token (tried ++ map can (first g)) k xs))
        (token_stops E tried (tried ++ map can (first g)) k (let a = some_of g in (a.0, inl a.1, a.2)) told_some (named_firsts E tried (first g) g_firsts) (λ x ys. mapped {B = Parts (or_told g k h)} inr (pair_with x (led (first h) (map can (first g)) (read_in rec h []) x ys)))
        (λ x ys e v. after x ys e v (at_one_of (first h) ys) (stops_in h [] ys oks.1)) xs))
      where
        E : List Item → Parts (or_told g k h) → Type 0
        E = DerivesIn Derives (or_told g k h)

        g_firsts : (l : Token) → among l (first g) ≡ true → FirstOf E l
        g_firsts l n = λ x i. let a = firsts_of g (all_rank g) l n x i in (a.0, inl a.1, a.2)

        told_some : FirstOf E k
        told_some = λ x i. let b = some_of h in let o = of_token k k x (self_token k) i in (b.0, inr (x, b.1), (b.0, refl, o.1, o.2, b.2))

        joined : (m : Result (Item × List Item) Stop) → and_then {B = Parts (or_told g k h)} m (λ x ys. mapped {B = Parts (or_told g k h)} inr (pair_with x (led (first h) (map can (first g)) (read_in rec h []) x ys))) ≡ mapped {B = Parts (or_told g k h)} inr (two m (led (first h) (map can (first g)) (read_in rec h [])))
        joined (Ok x) = refl
        joined (Err s) = refl

        put : (x : Item) → is_token k x.token ≡ true → valid k x.text ≡ true → (zs : List Item) (b : Parts h) → DerivesIn Derives h zs b → (c : Parts (or_told g k h)) × E (x ∷ zs) c
        put x e v zs b d = (inr (x, b), (zs, refl, e, v, d))

        twice : (x : Item) (n : Result (Parts h × List Item) Stop) → mapped {B = Parts (or_told g k h)} (λ b. inr (x, b)) n ≡ mapped {B = Parts (or_told g k h)} inr (pair_with x n)
        twice x (Ok y) = refl
        twice x (Err s) = refl

        after : (x : Item) (ys : List Item) → is_token k x.token ≡ true → valid k x.text ≡ true → (b : Bool) → Stops (DerivesIn Derives h) [] ys (read_in rec h [] ys) → Stops E tried (x ∷ ys) (mapped {B = Parts (or_told g k h)} inr (pair_with x (cond b (read_in rec h [] ys) (Err (record { left = ys; expected = map can (first g); why = told x })))))
        after x ys e v true d = subst (λ (m : Result (Parts (or_told g k h) × List Item) Stop). Stops E tried (x ∷ ys) m) (twice x (read_in rec h [] ys)) (stops_after (DerivesIn Derives h) E (λ b. inr (x, b)) tried (x ∷ []) (put x e v) (x ∷ ys) ys refl (read_in rec h [] ys) d)
        after x ys e v false d = ([], refl, (let b = some_of h in let c = put x e v b.0 b.1 b.2 in (b.0, c.0, c.1)), λ m l n. inr (let o = cans_once m l (first g) n in early E m l o.0 (g_firsts l o.1) ys))

-- The laws of a rejection, put together.
use Rattle.std.proofs.Common.{◌≡◌, ℕ, zero, suc, ◌+◌, ◌-◌, arith, List, [], ◌∷◌, ◌++◌, length, Result, Ok, Err, Bool, true, false, refl, sym as back, ap, subst, ◌∙◌, ◌⊎◌, inl, inr, append_assoc}
use Rattle.wac_ast_grammar.proofs.Common.{append-nil, length-append, Token, Item, Doc}
use Rattle.wac_lexer.specs.declared.token.Token.TheVariants as t
use Rattle.wac_ast_grammar.specs.Tokens.{is_token}
use Rattle.wac_ast_grammar.specs.Grammar.{Sym, argument, rule, build, TreeOf, Parts, Grammar, DerivesIn, DerivesBy, Derives}
use Rattle.wac_ast_grammar.specs.Reading.{Standing, at_once, closing, after_comma, Stop, before, other, read, read_by, read_in, is_empty, enough}
use Rattle.wac_ast_grammar.specs.Viable.{Viable, Similar, Leads}
use Rattle.wac_ast_grammar.specs.Possible.{named}
use Rattle.wac_ast_grammar.specs.Stopped.{Fault, CanStand, CanFollowComma, Stands, Stopped}
use Rattle.wac_ast_grammar.proofs.Fixed.{all_ranked}
use Rattle.wac_ast_grammar.proofs.Tables.{clashes, needs_more, rule_lawful}
use Rattle.wac_ast_grammar.proofs.Complete.{may_follow, complete, complete_before, begins_in, by_begins}
use Rattle.wac_ast_grammar.proofs.Sound.{Fronted, by_sound}
use Rattle.wac_ast_grammar.proofs.Similar.{leads_similar, leads_self, derives_similar}
use Rattle.wac_ast_grammar.proofs.Local.{Alike, Nearly, Seen, Ends, reads_alike, not_derived}
use Rattle.wac_ast_grammar.proofs.Completed.{by_rule}
use Rattle.wac_ast_grammar.proofs.Stops.{Stops, stops_in, stops_here, stops_pass, no_named, Goes, AtOnce, AfterComma}
use Rattle.wac_ast_grammar.proofs.Samples.{sample, item, some_item}

nothing_of : (g : Grammar) (p : Parts g) → is_empty g ≡ false → DerivesIn Derives g [] p → ⊥
nothing_of g p e d = let b = begins_in Derives (λ s xs t h. by_begins h.0 s xs t h.1) g [] p d in absurd cc

first_is : (x y : Item) (xs ys : List Item) → x ∷ xs ≡ y ∷ ys → x ≡ y
first_is x y xs ys e = ap head_of e
  where
    head_of : List Item → Item
    head_of [] = x
    head_of (z ∷ zs) = z

fronted : (n : ℕ) (s : Sym) (xs : List Item) → Fronted (Derives s) xs (read_by n s xs)
fronted n s xs = go (read_by n s xs) (by_sound n s xs)
  where
    go : (m : Result (TreeOf s × List Item) Stop) → Fronted (DerivesBy n s) xs m → Fronted (Derives s) xs m
    go (Ok x) d = (d.0, d.1, (n, d.2))
    go (Err q) d = tt

by_stops : (n : ℕ) (s : Sym) (xs : List Item) → Stops (Derives s) [] xs (read_by n s xs)
by_stops zero s xs = stops_here (Derives s) [] [] other refl (sample s) xs (λ m k n. no_named m k n)
by_stops (suc n) s xs = stops_pass (DerivesIn Derives (rule s)) (Derives s) (build s) [] [] (λ ys p d. (build s p, by_rule s ys p d)) (λ m k n. no_named m k n) xs (read_in (read_by n) (rule s) [] xs)
    (stops_in sample some_item (read_by n) nothing_of (fronted n) all_ranked (by_stops n) (rule s) [] xs (rule_lawful s))

stops : (s : Sym) (xs : List Item) → Stops (Derives s) [] xs (read s xs)
unfolding read
stops s xs = by_stops (suc (enough xs)) s xs

viable_of : (s : Sym) (front ys : List Item) (t : TreeOf s) → Derives s (front ++ ys) t → Viable s front
viable_of s front ys t d = (front ++ ys, t, leads_self front ys, d)

alike_front : (whole : Bool) (front : List Item) (x y : Item) (rest tail : List Item) → Nearly whole x y → Alike whole (suc (length front)) (front ++ (x ∷ rest)) ((front ++ (y ∷ [])) ++ tail)
alike_front whole [] x y rest tail h = h
alike_front whole (z ∷ front) x y rest tail h = (refl, alike_front whole front x y rest tail h)

-- What may follow a part that this item does not continue: nothing, and after an argument another token.
after : (s : Sym) (x : Item) → (tail : List Item) × (may_follow (needs_more s) (clashes s) tail ≡ true) × ((z : Item) (zs : List Item) → tail ≡ z ∷ zs → x ≡ z → ⊥)
after argument x = go (is_token t.Comma x.token) refl
  where
    go : (b : Bool) → is_token t.Comma x.token ≡ b → (tail : List Item) × (may_follow (needs_more argument) (clashes argument) tail ≡ true) × ((z : Item) (zs : List Item) → tail ≡ z ∷ zs → x ≡ z → ⊥)
    go true h = (item t.CloseBrace ∷ [], refl, λ z zs e i. let k : is_token t.Comma x.token ≡ false = ap (λ (y : Item). is_token t.Comma y.token) (i ∙ back (first_is (item t.CloseBrace) z [] zs e)) in absurd cc)
    go false h = (item t.Comma ∷ [], refl, λ z zs e i. let k : is_token t.Comma x.token ≡ true = ap (λ (y : Item). is_token t.Comma y.token) (i ∙ back (first_is (item t.Comma) z [] zs e)) in absurd cc)
after _ x = ([], refl, λ z zs e i. absurd cc)

-- What is viable with an item continues to a whole part, which begins like the items that were read.
continued : (s : Sym) (front : List Item) (y : Item) → Viable s (front ++ (y ∷ []))
    → (ys : List Item) × (t : TreeOf s) × Derives s ys t × ((whole : Bool) (x : Item) (rest xs tail : List Item) → Nearly whole x y → xs ≡ front ++ (x ∷ rest) → Alike whole (suc (length front)) xs (ys ++ tail))
continued s front y v =
    let r = leads_similar (front ++ (y ∷ [])) v.0 v.2 in
    let u = derives_similar s v.0 ((front ++ (y ∷ [])) ++ r.0) v.1 r.1 v.3 in (
      (front ++ (y ∷ [])) ++ r.0,
      u.0,
      u.1,
      λ whole x rest xs tail m e. subst (λ (zs : List Item). Alike whole (suc (length front)) zs (((front ++ (y ∷ [])) ++ r.0) ++ tail)) (back e)
          (subst (λ (zs : List Item). Alike whole (suc (length front)) (front ++ (x ∷ rest)) zs) (back (append_assoc (front ++ (y ∷ [])) r.0 tail)) (alike_front whole front x y rest (r.0 ++ tail) m)),
    )

-- With the item at which reading stopped, or one nearly the same, nothing that begins like `front` continues.
no_way : (whole : Bool) (s : Sym) (xs front : List Item) (stop : Stop) → read s xs ≡ Err stop → (x : Item) (rest : List Item) → stop.left ≡ x ∷ rest → xs ≡ front ++ (x ∷ rest) → Seen whole stop.why 0 → (y : Item) → Nearly whole x y → Viable s (front ++ (y ∷ [])) → ⊥
no_way whole s xs front stop h x rest l e seen y m v =
    let u = continued s front y v in
    let b = after s x in
    let len = ap length e ∙ length-append front (x ∷ rest) in
    let left_len = ap length l in
    let i : suc (length front) ≡ suc 0 + (length xs - length stop.left) = omega arith in
    let alike = u.3 whole x rest xs b.0 m e in
    not_derived whole s xs stop 0 u.0 b.0 u.1 b.1 h (subst (λ (j : ℕ). Alike whole j xs (u.0 ++ b.0)) i alike) seen (omega arith) u.2

-- The items are not derived as they are.
abbrev pub NotWhole : Sym → List Item → Type 0
NotWhole s xs = (t : TreeOf s) → Derives s xs t → ⊥

faulty : (s : Sym) (xs front : List Item) (stop : Stop) → read s xs ≡ Err stop → (left : List Item) → (left ≡ [] → NotWhole s xs) → stop.left ≡ left → xs ≡ front ++ left → Fault s front left
faulty s xs front stop h [] n l e = λ ys t m d.
    let f : front ≡ xs = back (append-nil front) ∙ back e in
    let u = derives_similar s ys xs t (subst (λ (zs : List Item). Similar ys zs) f m) d in
    n refl u.0 u.1
faulty s xs front stop h (x ∷ rest) n l e = λ v. no_way true s xs front stop h x rest l e tt x refl v

-- Where the rejection does not depend on the item's text, no item of its token can occur there.
pub no_such : (s : Sym) (xs front : List Item) (stop : Stop) → read s xs ≡ Err stop → (x : Item) (rest : List Item) → stop.left ≡ x ∷ rest → xs ≡ front ++ (x ∷ rest) → Seen false stop.why 0 → (y : Item) → x.token ≡ y.token → Viable s (front ++ (y ∷ [])) → ⊥
no_such s xs front stop h x rest l e seen y t v =
    let z : Item = record { token = y.token; text = y.text; span = y.span; docs = x.docs } in
    no_way false s xs front stop h x rest l e seen z (t, refl) (v.0, v.1, leads_other front y x.docs v.0 v.2, v.3)
  where
    leads_other : (front : List Item) (y : Item) (ds : List Doc) (ys : List Item) → Leads (front ++ (y ∷ [])) ys → Leads (front ++ (record { token = y.token; text = y.text; span = y.span; docs = ds } ∷ [])) ys
    leads_other [] y ds [] l = l
    leads_other [] y ds (u ∷ us) l = l
    leads_other (w ∷ front) y ds [] l = l
    leads_other (w ∷ front) y ds (u ∷ us) l = (l.0, leads_other front y ds us l.1)

-- CORRECT PREFIX AND POSSIBLE TOKENS
pub stopped_in : (s : Sym) (xs : List Item) (stop : Stop) → read s xs ≡ Err stop → (stop.left ≡ [] → NotWhole s xs) → Stopped s xs stop
stopped_in s xs stop h n =
    let d = subst (λ (m : Result (TreeOf s × List Item) Stop). Stops (Derives s) [] xs m) h (stops s xs) in
    let e : xs ≡ (d.0 ++ before stop.why) ++ stop.left = d.1 ∙ back (append_assoc d.0 (before stop.why) stop.left) in (
      d.0,
      e,
      viable_of s (d.0 ++ before stop.why) d.2.0 d.2.1 (subst (λ (ys : List Item). Derives s ys d.2.1) (back (append_assoc d.0 (before stop.why) d.2.0)) d.2.2),
      faulty s xs (d.0 ++ before stop.why) stop h stop.left n refl e,
      λ m k n. go d.0 m k (d.3 m k n),
    )
  where
    once : (lead : List Item) (k : Token) → AtOnce (Derives s) lead k → CanStand s lead k
    once lead k f = λ x i. let a = f x i in viable_of s (lead ++ (x ∷ [])) a.0 a.1 (subst (λ (ys : List Item). Derives s ys a.1) (back (append_assoc lead (x ∷ []) a.0)) a.2)

    comma : (lead : List Item) (k : Token) → AfterComma (Derives s) lead k → CanFollowComma s lead k
    comma lead k f = λ c x n i. let a = f c x n i in viable_of s (lead ++ (c ∷ x ∷ [])) a.0 a.1 (subst (λ (ys : List Item). Derives s ys a.1) (back (append_assoc lead (c ∷ x ∷ []) a.0)) a.2)

    go : (lead : List Item) (m : Standing) (k : Token) → ((named m k [] ≡ true) × (lead ≡ [])) ⊎ Goes (Derives s) lead stop.left m k → Stands s lead stop.left k m
    go lead m k (inl n) = no_named m k n.0
    go lead at_once k (inr f) = once lead k f
    go lead closing k (inr f) = tt
    go lead after_comma k (inr f) = ((f.0, f.1, once lead f.1 f.2, comma lead f.1 f.3), comma lead k f.4)

pub stopped : (s : Sym) → needs_more s ≡ false → (xs : List Item) (stop : Stop) → read s xs ≡ Err stop → Stopped s xs stop
stopped s n xs stop h = stopped_in s xs stop h (λ e t d. let k = back (complete s xs t n d) ∙ h in absurd cc)

-- THE NEXT ITEM does not continue a tree that was read
pub stays : (s : Sym) (xs front rest : List Item) (t : TreeOf s) (x : Item) → read s xs ≡ Ok (t, x ∷ rest) → xs ≡ front ++ (x ∷ rest) → Viable s (front ++ (x ∷ [])) → ⊥
stays s xs front rest t x h e v =
    let u = continued s front x v in
    let b = after s x in
    let alike = u.3 true x rest xs b.0 refl e in
    let ends = subst (λ (m : Result (TreeOf s × List Item) Stop). Ends true (suc (length front)) xs m (read s (u.0 ++ b.0))) h (reads_alike true s (suc (length front)) xs (u.0 ++ b.0) alike) in
    let len = ap length e ∙ length-append front (x ∷ rest) in
    let q = ends 0 (omega arith) in
    go q.0 q.2 (ap rest_of (back (complete_before s u.0 u.1 b.0 u.2 b.1) ∙ q.1))
  where
    rest_of : Result (TreeOf s × List Item) Stop → List Item
    rest_of (Ok y) = y.1
    rest_of (Err q) = []

    go : (zs : List Item) → Alike true 1 (x ∷ rest) zs → (after s x).0 ≡ zs → ⊥
    go [] a k = a
    go (z ∷ zs) a k = (after s x).2 z zs k a

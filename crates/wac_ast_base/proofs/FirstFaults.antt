-- What is reported of a rejection, from where reading its part stopped.
use Rattle.std.proofs.Common.{◌≡◌, suc, List, [], ◌∷◌, ◌++◌, length, map, take, Option, Some, None, Result, Ok, Err, Bool, true, false, cond, refl, sym as back, ap, subst, ◌∙◌, ◌⊎◌, inl, inr, arith}
use Rattle.wac_ast_base.proofs.Common.{alloc_error, Span, Item, Reading, left, Token, is_token, at, Sym, argument, Body, TreeOf}
use Rattle.std.proofs.lemmas.List.{append-nil}
use Rattle.wac_lexer.specs.declared.token.Token.TheVariants as t
use Rattle.wac_lexer.specs.declared.error.Error.{Error as Fault}
use Rattle.wac_ast_grammar.specs.Reading.{Standing, at_once, closing, after_comma, Tried, can, Stop, Why, other, version, empty_body, told as told_of_item, before, read}
use Rattle.wac_ast_grammar.specs.Viable.{Viable}
use Rattle.wac_ast_grammar.specs.Possible.{same_standing, named}
use Rattle.wac_ast_grammar.specs.Bodies.{Opens}
use Rattle.wac_ast_grammar.specs.Arguments.{EndsArgued, CutShort}
use Rattle.wac_ast_grammar.specs.Stopped.{Fault as IsFault, CanStand, Stands, Stopped}
use Rattle.wac_ast_base.specs.declared.error.Error.{Error}
use Rattle.wac_ast_base.specs.declared.error.Error.TheVariants as errors
use Rattle.wac_ast_base.specs.Error.{Told, told_by, faulty, empty_type, no_memory, expected}
use Rattle.wac_ast_base.specs.Lookahead.{refusal}
use Rattle.wac_ast_base.specs.Answer.{End, end_of_input, end_span, body_name, part_name, version_told, told_at, told, told_in, Gives}
use Rattle.wac_ast_base.specs.FirstFault.{FirstFault, Expects, AllExpected, Finds, Holds, Tells, TellsFirstFault, TellsRefusal, Answers}
use Rattle.wac_ast_grammar.proofs.Tables.{same_token, needs_more}
use Rattle.wac_ast_grammar.proofs.Sound.{sound}
use Rattle.wac_ast_grammar.proofs.Completed.{same_is, self_token}
use Rattle.wac_ast_grammar.proofs.Bodies.{empty_exactly, closes_body}
use Rattle.wac_ast_grammar.proofs.Strings.{is_told, told_exactly}
use Rattle.wac_ast_grammar.proofs.Reasons.{Reason, reason}
use Rattle.wac_ast_grammar.proofs.Refused.{stopped, no_such, stays}
use Rattle.wac_ast_grammar.proofs.Arguments.{stopped_argument}
use Rattle.wac_ast_grammar.proofs.Local.{Seen}

-- ---- the tokens that are named

abbrev names : List Tried → List Token
names ts = map (λ t. t.token) ts

same_way : (m : Standing) → same_standing m m ≡ true
same_way at_once = refl
same_way closing = refl
same_way after_comma = refl

named_here : (x : Tried) (ts : List Tried) → named x.standing x.token (x ∷ ts) ≡ true
named_here x ts = ap (λ b. cond (cond b (same_token x.token x.token) false) true (named x.standing x.token ts)) (same_way x.standing) ∙ ap (λ b. cond b true (named x.standing x.token ts)) (self_token x.token)

named_more : (x y : Tried) (ts : List Tried) → named x.standing x.token ts ≡ true → named x.standing x.token (y ∷ ts) ≡ true
named_more x y ts h = go (cond (same_standing x.standing y.standing) (same_token y.token x.token) false)
  where
    go : (b : Bool) → cond b true (named x.standing x.token ts) ≡ true
    go true = refl
    go false = h

abbrev AllNamed : List Tried → List Tried → Type 0
AllNamed [] all = Unit {0}
AllNamed (x ∷ ts) all = (named x.standing x.token all ≡ true) × AllNamed ts all

wider : (ts all : List Tried) (y : Tried) → AllNamed ts all → AllNamed ts (y ∷ all)
wider [] all y h = tt
wider (x ∷ ts) all y h = (named_more x y all h.0, wider ts all y h.1)

all_named : (ts : List Tried) → AllNamed ts ts
all_named [] = tt
all_named (x ∷ ts) = (named_here x ts, wider ts ts x (all_named ts))

-- ---- what is reported holds

-- what is reported of the tokens that were tried
abbrev tried_told : List Tried → Option Token → Span → Told
tried_told ts found at = expected (take 10 (names ts)) (length ts) found at

names_length : (ts : List Tried) → length (names ts) ≡ length ts
names_length [] = refl
names_length (x ∷ ts) = ap (λ n. suc n) (names_length ts)

same_fault : (f g : Fault) (r : Result Token Fault) → r ≡ Err f → r ≡ Err g → f ≡ g
same_fault f g r p q = ap fault_in (back p ∙ q)
  where
    fault_in : Result Token Fault → Fault
    fault_in (Ok n) = f
    fault_in (Err e) = e

first_is : (x y : Item) (xs ys : List Item) → x ∷ xs ≡ y ∷ ys → x ≡ y
first_is x y xs ys e = ap head_of e
  where
    head_of : List Item → Item
    head_of [] = x
    head_of (z ∷ zs) = z

same_body : (b c : Body) → empty_body b ≡ empty_body c → b ≡ c
same_body b c e = ap body_in e
  where
    body_in : Why → Body
    body_in (empty_body d) = d
    body_in w = b

at_first : (k : Token) (x : Item) (others left : List Item) → left ≡ x ∷ others → is_token k x.token ≡ true → at k left ≡ true
at_first k x others left e h = ap (at k) e ∙ h

no_body : (w : Why) (b : Body) → (w ≡ other) ⊎ (w ≡ version) → w ≡ empty_body b → ⊥
no_body w b (inl e) h = let k = back e ∙ h in absurd cc
no_body w b (inr e) h = let k = back e ∙ h in absurd cc

module _ (s : Sym) (end : End) where
  all_expected : (lead left : List Item) (ts all : List Tried) → ((m : Standing) (k : Token) → named m k all ≡ true → Expects s lead left k) → AllNamed ts all → AllExpected s lead left (names ts)
  all_expected lead left [] all h n = tt
  all_expected lead left (x ∷ ts) all h n = (h x.standing x.token n.0, all_expected lead left ts all h n.1)

  tried_holds : (lead left : List Item) (ts : List Tried) (found : Option Token) (at : Span) → Finds left (end_span end ts) found at → ((m : Standing) (k : Token) → named m k ts ≡ true → Expects s lead left k) → (tried_told ts found at ≡ no_memory) ⊎ Holds s end lead left (tried_told ts found at)
  tried_holds lead left [] found at f h = inl refl
  tried_holds lead left (a ∷ []) found at f h = inr (f, h a.standing a.token (named_here a []))
  tried_holds lead left (a ∷ b ∷ []) found at f h = inr (f, h a.standing a.token (named_here a (b ∷ [])), h b.standing b.token (named_more b a (b ∷ []) (named_here b [])))
  tried_holds lead left (a ∷ b ∷ c ∷ ts) found at f h =
      let ks = names (a ∷ b ∷ c ∷ ts) in
      let long : length ks ≡ length (a ∷ b ∷ c ∷ ts) = names_length (a ∷ b ∷ c ∷ ts) in
      inr (ks, f, omega arith, back long, refl, all_expected lead left (a ∷ b ∷ c ∷ ts) (a ∷ b ∷ c ∷ ts) h (all_named (a ∷ b ∷ c ∷ ts)))

  -- what is known of a rejection after `lead`
  record Known (lead left : List Item) (ts : List Tried) (w : Why) : Type 0 where
    expects : (m : Standing) (k : Token) → named m k ts ≡ true → Expects s lead left k
    can_stand : (k : Token) → named at_once k ts ≡ true → CanStand s lead k
    empties : (b : Body) → (w ≡ empty_body b → Opens b lead × (at t.CloseBrace left ≡ true)) × (Opens b lead → at t.CloseBrace left ≡ true → w ≡ empty_body b)
    no_text : Seen false w 0 → (x y : Item) (others : List Item) → left ≡ x ∷ others → x.token ≡ y.token → Viable s (lead ++ (y ∷ [])) → ⊥
    why : Reason w left ts
    no_string : EndsArgued s lead → is_told w ≡ true

  -- where no text and no empty body is reported
  other_tells : (lead left : List Item) (ts : List Tried) (told : Told) → Known lead left ts other → Holds s end lead left told → ((x : Item) (others : List Item) (fault : Fault) → left ≡ x ∷ others → x.token ≡ Err fault → told ≡ faulty fault x.span) → Tells s end lead left told
  other_tells lead left ts told k h f = record {
    holds = h;
    of_fault = f;
    of_empty = λ b x others e o c. absurd (no_body other b (inl refl) ((k.empties b).1 o (at_first t.CloseBrace x others left e c)));
    of_version = λ x y others e s v. absurd (k.no_text tt x y others e s v);
    no_string = λ o. let e = k.no_string o in absurd cc;
  }

  tells_other : (lead left : List Item) (ts : List Tried) → Known lead left ts other → (told_at end other left ts ≡ no_memory) ⊎ Tells s end lead left (told_at end other left ts)
  tells_other lead [] ts k = go (tried_holds lead [] ts None (end_span end ts) (refl, refl) k.expects)
    where
      go : (tried_told ts None (end_span end ts) ≡ no_memory) ⊎ Holds s end lead [] (tried_told ts None (end_span end ts)) → (told_at end other [] ts ≡ no_memory) ⊎ Tells s end lead [] (told_at end other [] ts)
      go (inl e) = inl e
      go (inr h) = inr (other_tells lead [] ts (told_at end other [] ts) k h (λ x others fault e f. absurd cc))
  tells_other lead (x ∷ left) ts k = by_token x.token refl
    where
      first : (y : Item) (others : List Item) → x ∷ left ≡ y ∷ others → x ≡ y
      first y others e = first_is x y left others e

      at_token : (n : Token) → x.token ≡ Ok n → (tried_told ts (Some n) x.span ≡ no_memory) ⊎ Holds s end lead (x ∷ left) (tried_told ts (Some n) x.span) → (refusal (Some (Ok n, x.span)) (end_span end ts) (expected (take 10 (names ts)) (length ts)) ≡ no_memory) ⊎ Tells s end lead (x ∷ left) (refusal (Some (Ok n, x.span)) (end_span end ts) (expected (take 10 (names ts)) (length ts)))
      at_token n e (inl m) = inl m
      at_token n e (inr h) = inr (other_tells lead (x ∷ left) ts (tried_told ts (Some n) x.span) k h (λ y others fault q f. absurd (let s : Ok n ≡ Err fault = back e ∙ ap (λ (z : Item). z.token) (first y others q) ∙ f in cc)))

      by_token : (r : Result Token Fault) → x.token ≡ r → (refusal (Some (x.token, x.span)) (end_span end ts) (expected (take 10 (names ts)) (length ts)) ≡ no_memory) ⊎ Tells s end lead (x ∷ left) (refusal (Some (x.token, x.span)) (end_span end ts) (expected (take 10 (names ts)) (length ts)))
      by_token (Ok n) e = subst (λ (r : Result Token Fault). (refusal (Some (r, x.span)) (end_span end ts) (expected (take 10 (names ts)) (length ts)) ≡ no_memory) ⊎ Tells s end lead (x ∷ left) (refusal (Some (r, x.span)) (end_span end ts) (expected (take 10 (names ts)) (length ts)))) (back e)
          (at_token n e (tried_holds lead (x ∷ left) ts (Some n) x.span (n, e, refl, refl) k.expects))
      by_token (Err fault) e = subst (λ (r : Result Token Fault). (refusal (Some (r, x.span)) (end_span end ts) (expected (take 10 (names ts)) (length ts)) ≡ no_memory) ⊎ Tells s end lead (x ∷ left) (refusal (Some (r, x.span)) (end_span end ts) (expected (take 10 (names ts)) (length ts)))) (back e)
          (inr (other_tells lead (x ∷ left) ts (faulty fault x.span) k (x, left, refl, e, refl) (λ y others other_fault q f.
          let p = first y others q in
          let s : fault ≡ other_fault = same_fault fault other_fault x.token e (ap (λ (z : Item). z.token) p ∙ f) in
          ap (λ (g : Fault). faulty g x.span) s ∙ ap (λ (z : Item). faulty other_fault z.span) p)))

  tells_empty : (lead left : List Item) (ts : List Tried) (b : Body) → Known lead left ts (empty_body b) → Tells s end lead left (told_at end (empty_body b) left ts)
  tells_empty lead [] ts b k = absurd (let a = ((k.empties b).0 refl).1 in cc)
  tells_empty lead (x ∷ left) ts b k =
      let o = (k.empties b).0 refl in
      record {
        holds = (b, x, left, refl, o.0, o.1, refl, refl, refl);
        of_fault = λ y others fault e f. absurd (let a : at t.CloseBrace (x ∷ left) ≡ false = ap (at t.CloseBrace) e ∙ ap (is_token t.CloseBrace) f in cc);
        of_empty = λ c y others e p q. let w : empty_body b ≡ empty_body c = (k.empties c).1 p o.1 in ap (λ (d : Body). empty_type (body_name d) (part_name d) x.span) (same_body b c w) ∙ ap (λ (z : Item). empty_type (body_name c) (part_name c) z.span) (first_is x y left others e);
        of_version = λ y z others e s v. absurd (k.no_text tt y z others e s v);
        no_string = λ o. let e = k.no_string o in absurd cc;
      }

  tells_version : (lead left : List Item) (ts : List Tried) → Known lead left ts version → Tells s end lead left (told_at end version left ts)
  tells_version lead left ts k = go k.why
    where
      go : Reason version left ts → Tells s end lead left (told_at end version left ts)
      go r = subst (λ (us : List Item). Tells s end lead us (told_at end version us ts)) (back r.3)
          (record {
            holds = (r.0, r.1, r.2, refl, r.4, r.5, can_stand r.0 r.6, refl);
            of_fault = λ y others fault e f. absurd (let p = first_is r.1 y r.2 others e in let q : is_token r.0 r.1.token ≡ false = ap (λ (z : Item). is_token r.0 z.token) p ∙ ap (is_token r.0) f in cc (q, r.4));
            of_empty = λ c y others e o q. absurd (no_body version c (inr refl) ((k.empties c).1 o (at_first t.CloseBrace y others left (r.3 ∙ e) q)));
            of_version = λ y z others e s v. ap (λ (u : Item). version_told u.text u.span) (first_is r.1 y r.2 others e);
            no_string = λ o. let e = k.no_string o in absurd cc;
          })
        where
          can_stand : (n : Token) → ts ≡ can n ∷ [] → CanStand s lead n
          can_stand n e = k.can_stand n (ap (named at_once n) e ∙ named_here (can n) [])

  -- at the first fault
  tells : (lead left : List Item) (ts : List Tried) (w : Why) → before w ≡ [] → Known lead left ts w → (told_at end w left ts ≡ no_memory) ⊎ Tells s end lead left (told_at end w left ts)
  tells lead left ts other n k = tells_other lead left ts k
  tells lead left ts (empty_body b) n k = inr (tells_empty lead left ts b k)
  tells lead left ts version n k = inr (tells_version lead left ts k)
  tells lead left ts (told_of_item x) n k = absurd cc

  -- ---- where reading stopped

  module _ (xs : List Item) (stop : Stop) (h : read s xs ≡ Err stop) where
    expecting : (lead : List Item) → xs ≡ lead ++ stop.left → ((m : Standing) (k : Token) → named m k stop.expected ≡ true → Stands s lead stop.left k m) → (m : Standing) (k : Token) → named m k stop.expected ≡ true → Expects s lead stop.left k
    expecting lead e stands m k n = go m k n (stands m k n)
      where
        go : (m : Standing) (k : Token) → named m k stop.expected ≡ true → Stands s lead stop.left k m → Expects s lead stop.left k
        go at_once k n f = inl f
        go closing k n f = let c = closes_body s xs lead stop h e k n in inr (inl (c.0, c.1, c.2))
        go after_comma k n f = inr (inr f)

    known : (lead : List Item) → FirstFault s xs lead stop.left → ((m : Standing) (k : Token) → named m k stop.expected ≡ true → Stands s lead stop.left k m) → Known lead stop.left stop.expected stop.why
    known lead f stands = record {
      expects = expecting lead f.splits stands;
      can_stand = stands at_once;
      empties = empty_exactly s xs lead stop h f.splits;
      no_text = λ seen y z others e t v. no_such s xs lead stop h y others e (f.splits ∙ ap (λ (us : List Item). lead ++ us) e) seen z t v;
      why = reason s xs stop h;
      no_string = (told_exactly s xs lead stop h f.splits).1;
    }

    -- reported at the next item
    tells_next : Stopped s xs stop → before stop.why ≡ [] → (told end stop ≡ no_memory) ⊎ TellsFirstFault s end xs (told end stop)
    unfolding told
    tells_next d none =
        let same : d.0 ++ before stop.why ≡ d.0 = ap (λ (us : List Item). d.0 ++ us) none ∙ append-nil d.0 in
        let splits : xs ≡ d.0 ++ stop.left = d.1 ∙ ap (λ (us : List Item). us ++ stop.left) same in
        let f : FirstFault s xs d.0 stop.left = record { splits = splits; viable = subst (λ (us : List Item). Viable s us) same d.2; fault = subst (λ (us : List Item). IsFault s us stop.left) same d.3 } in
        put f (tells d.0 stop.left stop.expected stop.why none (known d.0 f d.4))
      where
        put : FirstFault s xs d.0 stop.left → (told_at end stop.why stop.left stop.expected ≡ no_memory) ⊎ Tells s end d.0 stop.left (told_at end stop.why stop.left stop.expected) → (told_at end stop.why stop.left stop.expected ≡ no_memory) ⊎ TellsFirstFault s end xs (told_at end stop.why stop.left stop.expected)
        put f (inl e) = inl e
        put f (inr r) = inr (inl (d.0, stop.left, f, r))

    -- or reported at the string before it
    tells_string : Stopped s xs stop → (x : Item) → stop.why ≡ told_of_item x → TellsFirstFault s end xs (told end stop)
    unfolding told
    tells_string d x w =
        let same : before stop.why ≡ x ∷ [] = ap before w in
        let r : Reason (told_of_item x) stop.left stop.expected = subst (λ (v : Why). Reason v stop.left stop.expected) w (reason s xs stop h) in
        let splits : xs ≡ (d.0 ++ (x ∷ [])) ++ stop.left = d.1 ∙ ap (λ (us : List Item). (d.0 ++ us) ++ stop.left) same in
        inr (
          d.0,
          x,
          stop.left,
          record { splits = splits; viable = subst (λ (us : List Item). Viable s (d.0 ++ us)) same d.2; fault = subst (λ (us : List Item). IsFault s (d.0 ++ us) stop.left) same d.3 },
          (told_exactly s xs (d.0 ++ (x ∷ [])) stop h splits).0 (ap is_told w),
          d.4 at_once t.Ident (ap (named at_once t.Ident) r.1),
          ap (λ (v : Why). told_at end v stop.left stop.expected) w ∙ at_string x.token r.0 ∙ ap (λ (ts : List Tried). tried_told ts (Some t.String) x.span) r.1,
        )
      where
        at_string : (q : Result Token Fault) → is_token t.String q ≡ true → refusal (Some (q, x.span)) (end_span end stop.expected) (expected (take 10 (names stop.expected)) (length stop.expected)) ≡ tried_told stop.expected (Some t.String) x.span
        at_string (Ok n) e = ap (λ (m : Token). tried_told stop.expected (Some m) x.span) (back (same_is t.String n e))
        at_string (Err f) e = absurd cc

    tells_stopped : Stopped s xs stop → (told end stop ≡ no_memory) ⊎ TellsFirstFault s end xs (told end stop)
    tells_stopped d = go stop.why refl
      where
        go : (w : Why) → stop.why ≡ w → (told end stop ≡ no_memory) ⊎ TellsFirstFault s end xs (told end stop)
        go other e = tells_next d (ap before e)
        go (empty_body b) e = tells_next d (ap before e)
        go version e = tells_next d (ap before e)
        go (told_of_item x) e = inr (tells_string d x e)

-- ---- rejections

-- what is reported of a rejection lies at the first fault
pub tells_first : (s : Sym) → needs_more s ≡ false → (end : End) (xs : List Item) (stop : Stop) → read s xs ≡ Err stop → (told end stop ≡ no_memory) ⊎ TellsFirstFault s end xs (told end stop)
tells_first s n end xs stop h = tells_stopped s end xs stop h (stopped s n xs stop h)

tells_argument : (end : End) (xs : List Item) (stop : Stop) → read argument xs ≡ Err stop → (told end stop ≡ no_memory) ⊎ TellsRefusal argument end xs (told end stop)
unfolding told
tells_argument end xs stop h = go (stopped_argument xs stop h)
  where
    put : (told end stop ≡ no_memory) ⊎ TellsFirstFault argument end xs (told end stop) → (told end stop ≡ no_memory) ⊎ TellsRefusal argument end xs (told end stop)
    put (inl m) = inl m
    put (inr f) = inr (inl f)

    go : Stopped argument xs stop ⊎ CutShort xs stop → (told end stop ≡ no_memory) ⊎ TellsRefusal argument end xs (told end stop)
    go (inl d) = put (tells_stopped argument end xs stop h d)
    go (inr c) = inr (inr (c.0, ap (λ (q : Stop). told_at end q.why q.left q.expected) c.1))

tells_refusal : (s : Sym) (end : End) (xs : List Item) (stop : Stop) → read s xs ≡ Err stop → (told end stop ≡ no_memory) ⊎ TellsRefusal s end xs (told end stop)
tells_refusal argument end xs stop h = tells_argument end xs stop h
tells_refusal _ end xs stop h = tells_first _ refl end xs stop h

-- ---- results

pub no_memory_is : (e : Error) → told_by e ≡ no_memory → e ≡ errors.Memory alloc_error
no_memory_is (errors.Memory _) h = refl
no_memory_is (errors.Lexer a b) h = absurd cc
no_memory_is (errors.Expected a b c) h = absurd cc
no_memory_is (errors.ExpectedEither a b c d) h = absurd cc
no_memory_is (errors.ExpectedMultiple a b c d) h = absurd cc
no_memory_is (errors.EmptyType a b c) h = absurd cc
no_memory_is (errors.InvalidVersion a b) h = absurd cc

-- what an error reports of a reading, where it reports the place at which this stopped
pub told_of_reading : {A : Type 0} (e : Error) (end : End) (m : Result A Stop) (P : Told → Type 0) → ((stop : Stop) → m ≡ Err stop → (told end stop ≡ no_memory) ⊎ P (told end stop)) → told_in end m ≡ Some (told_by e) → (e ≡ errors.Memory alloc_error) ⊎ P (told_by e)
told_of_reading e end (Ok x) P h q = absurd cc
told_of_reading e end (Err stop) P h q = go (h stop refl)
  where
    inside : Option Told → Told
    inside None = told_by e
    inside (Some u) = u

    is : told end stop ≡ told_by e
    is = ap inside q

    go : (told end stop ≡ no_memory) ⊎ P (told end stop) → (e ≡ errors.Memory alloc_error) ⊎ P (told_by e)
    go (inl m) = inl (no_memory_is e (back is ∙ m))
    go (inr p) = inr (subst P is p)

-- THE RESULT is a tree that ends where it must, or reports the first fault
pub answers : {X : Type 0} (s : Sym) (view : X → TreeOf s) (result : Result X Error) (old new : Reading) → Gives view result old new (read s (left old)) → Answers s view result old new
answers s view (Ok x) old new h =
    let d = sound s (left old) (view x) (left new) h.0 in
    record {
      taken = d.0;
      splits = d.1;
      derives = d.2;
      ends = λ y rest e v. stays s (left old) d.0 rest (view x) y (h.0 ∙ ap (λ (ys : List Item). Ok (view x, ys)) e) (d.1 ∙ ap (λ (ys : List Item). d.0 ++ ys) e) v;
    }
answers s view (Err e) old new (inl m) = inl (no_memory_is e m)
answers s view (Err e) old new (inr q) = told_of_reading e (end_of_input old) (read s (left old)) (TellsRefusal s (end_of_input old) (left old)) (λ stop h. tells_refusal s (end_of_input old) (left old) stop h) q

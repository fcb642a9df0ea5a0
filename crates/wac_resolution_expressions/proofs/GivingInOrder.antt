-- Arguments that are given in order.
use Rattle.wac_resolution_expressions.proofs.Common.{◌≡◌, ◌∙◌, ◌+◌, ◌<◌, ◌≤◌, ℕ, suc, List, [], ◌∷◌, ◌++◌, inl, inr, refl, sym, ap, subst, take, drop, length, get_or, take_more, take_all, take-append-drop, drop_all, drop-cons, arguments_from, Meaning, Named, Error, ArgumentBroken, ArgumentsBroken, Giving, Gives, GivesOne, Given}
use Rattle.wac_ast_grammar.specs.Tree.{InstantiationArgument}

module _ (s : Given) (imports : Named Meaning) where
  -- the first arguments give this, with the rest after them
  abbrev pub GivesFirst : Giving → List InstantiationArgument → List InstantiationArgument → Giving → Type 0
  GivesFirst old [] rest new = new ≡ old
  GivesFirst old (x ∷ xs) rest new = (mid : Giving) × GivesOne s imports (arguments_from (xs ++ rest)) old x mid × GivesFirst mid xs rest new

  first_more : (xs rest : List InstantiationArgument) (x : InstantiationArgument) (old mid new : Giving) → GivesFirst old xs (x ∷ rest) mid → GivesOne s imports (arguments_from rest) mid x new → GivesFirst old (xs ++ x ∷ []) rest new
  first_more [] rest x old mid new p q = (new, subst (λ (g : Giving). GivesOne s imports (arguments_from rest) g x new) p q, refl)
  first_more (y ∷ xs) rest x old mid new p q = (p.0, subst (λ (l : List InstantiationArgument). GivesOne s imports (arguments_from l) old y p.0) (sym (joined xs)) p.1, first_more xs rest x p.0 mid new p.2 q)
    where
      joined : (xs : List InstantiationArgument) → (xs ++ x ∷ []) ++ rest ≡ xs ++ x ∷ rest
      joined [] = refl
      joined (z ∷ xs) = ap (λ (l : List InstantiationArgument). z ∷ l) (joined xs)

  first_all : (xs : List InstantiationArgument) (old new : Giving) → GivesFirst old xs [] new → Gives s imports old (arguments_from xs) new
  first_all [] old new p = p
  first_all (x ∷ xs) old new p = (p.0, subst (λ (l : List InstantiationArgument). GivesOne s imports (arguments_from l) old x p.0) (nothing_after xs) p.1, first_all xs p.0 new p.2)
    where
      nothing_after : (xs : List InstantiationArgument) → xs ++ [] ≡ xs
      nothing_after [] = refl
      nothing_after (z ∷ xs) = ap (λ (l : List InstantiationArgument). z ∷ l) (nothing_after xs)

  first_breaks : (e : Error) (xs rest : List InstantiationArgument) (x : InstantiationArgument) (old mid : Giving) → GivesFirst old xs (x ∷ rest) mid → ArgumentBroken s imports (arguments_from rest) mid e x → ArgumentsBroken s imports old e (arguments_from (xs ++ x ∷ rest))
  first_breaks e [] rest x old mid p b = inl (subst (λ (g : Giving). ArgumentBroken s imports (arguments_from rest) g e x) p b)
  first_breaks e (y ∷ xs) rest x old mid p b = inr (p.0, p.1, first_breaks e xs rest x p.0 mid p.2 b)

  -- the same in a loop
  module _ (ys : List InstantiationArgument) (i : ℕ) (x : InstantiationArgument) (within : i < length ys) (is : get_or ys i x ≡ x) where
    after : drop i ys ≡ x ∷ drop (suc i) ys
    after = drop-cons ys i x within ∙ ap (λ (y : InstantiationArgument). y ∷ drop (suc i) ys) is

    pub gives_next : (old mid new : Giving) → GivesFirst old (take i ys) (drop i ys) mid → GivesOne s imports (arguments_from (drop (suc i) ys)) mid x new → GivesFirst old (take (i + 1) ys) (drop (suc i) ys) new
    gives_next old mid new p q =
        subst (λ (l : List InstantiationArgument). GivesFirst old l (drop (suc i) ys) new) (sym (take_more ys i x within ∙ ap (λ (y : InstantiationArgument). take i ys ++ y ∷ []) is))
        (first_more (take i ys) (drop (suc i) ys) x old mid new (subst (λ (l : List InstantiationArgument). GivesFirst old (take i ys) l mid) after p) q)

    pub gives_breaks : (e : Error) (old mid : Giving) → GivesFirst old (take i ys) (drop i ys) mid → ArgumentBroken s imports (arguments_from (drop (suc i) ys)) mid e x → ArgumentsBroken s imports old e (arguments_from ys)
    gives_breaks e old mid p b =
        subst (λ (l : List InstantiationArgument). ArgumentsBroken s imports old e (arguments_from l)) (ap (λ (l : List InstantiationArgument). take i ys ++ l) (sym after) ∙ take-append-drop i ys)
        (first_breaks e (take i ys) (drop (suc i) ys) x old mid (subst (λ (l : List InstantiationArgument). GivesFirst old (take i ys) l mid) after p) b)

  pub gives_end : (ys : List InstantiationArgument) (i : ℕ) (old new : Giving) → length ys ≤ i → GivesFirst old (take i ys) (drop i ys) new → Gives s imports old (arguments_from ys) new
  gives_end ys i old new past p =
      first_all ys old new (subst (λ (l : List InstantiationArgument). GivesFirst old l [] new) (take_all i ys past) (subst (λ (l : List InstantiationArgument). GivesFirst old (take i ys) l new) (drop_all i ys past) p))

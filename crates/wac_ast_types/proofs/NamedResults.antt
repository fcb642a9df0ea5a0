-- Results with names: an identifier is tried first, and then they are a list of parameters.
use Rattle.std.proofs.Common.{◌≡◌, List, [], ◌∷◌, Ok, Bool, true, false, refl, ap, subst, ◌∙◌, sym as back}
use Rattle.wac_lexer.specs.declared.token.Token.TheVariants as k
use Rattle.wac_ast_types.proofs.Common.{Token, Item, Reading, left, at, NamedType, Listed, then, can, read, read_token, refuse, at_one_of, begins, Error, Fails, end_of_input, comma_list, body_fails, filled_ends, Stops, Yields}
use Rattle.wac_ast_grammar.specs.Grammar as g
use Rattle.wac_ast_grammar.specs.Grammar.{sym}
use Rattle.wac_ast_base.proofs.Exits as x
use Rattle.wac_ast_base.proofs.Yields as y
use Rattle.wac_ast_types.proofs.TypeParts.{token_at}

-- a token that was taken was next
pub taken_at : (a : Token) (xs : List Item) (x : Item) (rest : List Item) → read_token [] a xs ≡ Ok (x, rest) → at a xs ≡ true
taken_at a [] x rest h = absurd cc
taken_at a (i ∷ xs) x rest h = go (at a (i ∷ xs)) refl
  where
    go : (b : Bool) → at a (i ∷ xs) ≡ b → b ≡ true
    go true e = refl
    go false e = let refused : read_token [] a (i ∷ xs) ≡ refuse (i ∷ xs) (can a ∷ []) = rw e refl in absurd cc

-- where an identifier is next no parenthesis closes the list, and it may begin with that identifier
name_begins : (xs : List Item) → at k.Ident xs ≡ true → (at k.CloseParen xs ≡ false) × (at_one_of (begins g.named_type) xs ≡ true)
name_begins [] h = absurd cc
name_begins (i ∷ xs) h = rw (token_at k.Ident i xs h) (refl, refl)

-- no name is next
pub no_name : {e : Error} {l : Reading} → Fails e (end_of_input l) (read_token [] k.Ident (left l)) → Stops e (then (sym g.named_type) (sym (g.more_items g.params))) [] l
no_name {l = l} f = x.here (x.leaves g.named_type l (x.here (x.leaves g.identifier l (x.last f))))

-- the list fails, after the test
pub names_fail : {e : Error} {l : Reading} (m : Reading) → m ≡ l → at k.Ident (left l) ≡ true → Fails e (end_of_input m) (read (g.list_items g.params) (left m)) → Stops e (then (sym g.named_type) (sym (g.more_items g.params))) [] l
names_fail {e = e} {l = l} m same there f =
    let begun = name_begins (left l) there in
    let body = body_fails e (end_of_input l) (left l) (comma_list g.named_type k.CloseParen refl).is_list begun.0 (subst (λ (r : Reading). Fails e (end_of_input r) (read (g.list_items g.params) (left r))) same f) in
    record { fails = rw begun.1 at body }

-- its parts are read
pub names_yield : {l n : Reading} {front : List NamedType} {last : Item} (m : Reading) → m ≡ l → at k.Ident (left l) ≡ true → read (g.list_items g.params) (left m) ≡ Ok ((front, last), left n) → end_of_input n ≡ end_of_input m
    → (first : NamedType) × (others : Listed NamedType) × Yields (then (sym g.named_type) (sym (g.more_items g.params))) [] l (first, others) n × (first ∷ others.0 ≡ front)
names_yield {l = l} {n = n} {last = last} m same there r ends =
    let begun = name_begins (left l) there in
    let body = filled_ends (comma_list g.named_type k.CloseParen refl).is_list begun.0 (ap (λ (r : Reading). read (g.list_items g.params) (left r)) (back same) ∙ r) in
    (body.0, (body.1, last), record { reads = rw begun.1 at body.2; ends = ends ∙ ap end_of_input same }, body.3)

-- Bodies that may not be empty.
use Rattle.std.proofs.Common.{◌≡◌, List, [], ◌∷◌, Some, inr, Ok, true, false, refl, ap, sym as back, ◌∙◌}
use Rattle.wac_ast_base.proofs.Common.{Item, Reading, left, at, Sym, TreeOf, Parts, Grammar, Body, not_empty}
use Rattle.wac_lexer.specs.declared.token.Token.TheVariants as t
use Rattle.wac_ast_base.specs.declared.error.Error.{Error}
use Rattle.wac_ast_grammar.specs.Grammar as g
use Rattle.wac_ast_grammar.specs.Reading.{read, read_in, read_token, closes as closing}
use Rattle.wac_ast_base.specs.Error.{told_by, empty_type}
use Rattle.wac_ast_base.specs.Answer.{body_name, part_name, first_span, end_of_input, told, Fails}
use Rattle.wac_ast_base.specs.Lists.{closes, list_of}
use Rattle.wac_ast_base.specs.Pieces.{body_of_items, filled, filled_items}
use Rattle.wac_ast_base.proofs.Lists.{comma_list, body_fails, filled_ends}
use Rattle.wac_ast_base.proofs.Exits.{Stops, here, took}
use Rattle.wac_ast_base.proofs.Yields as y
use Rattle.wac_ast_base.proofs.Yields.{Yields}

pub filled_closes : (s : Sym) (b : Body) → body_of_items s ≡ Some b → closes s ≡ Some t.CloseBrace
filled_closes g.variant_case b h = refl
filled_closes g.field b h = refl
filled_closes g.flag b h = refl
filled_closes g.enum_case b h = refl
filled_closes _ b h = absurd cc

-- no brace opens it
pub no_brace : {e : Error} {l : Reading} (s : Sym) (b : Body) → body_of_items s ≡ Some b → Fails e (end_of_input l) (read_token [] t.OpenBrace (left l)) → Stops e (filled s) [] l
no_brace g.variant_case b h f = here f
no_brace g.field b h f = here f
no_brace g.flag b h f = here f
no_brace g.enum_case b h f = here f
no_brace _ b h f = absurd cc

-- a brace closes it at once
empty : {e : Error} {l : Reading} {a b : Body} {g : Grammar} → Some a ≡ Some b → at t.CloseBrace (left l) ≡ true → told_by e ≡ empty_type (body_name b) (part_name b) (first_span (left l)) → Stops e (not_empty a t.CloseBrace g) [] l
unfolding told
empty {l = l} {a = a} {b = b} same there tells =
    let is : b ≡ a = cc in
    record { fails = rw there (inr (ap Some (back (tells ∙ ap (λ (c : Body). empty_type (body_name c) (part_name c) (first_span (left l))) is)))) }

pub filled_empty : {e : Error} {l : Reading} {i : Item} {P : Type 0} (m : Reading) (s : Sym) (b : Body) → body_of_items s ≡ Some b → (read_token [] t.OpenBrace (left l) ≡ Ok (i, left m)) × P × (end_of_input m ≡ end_of_input l)
    → at t.CloseBrace (left m) ≡ true → told_by e ≡ empty_type (body_name b) (part_name b) (first_span (left m)) → Stops e (filled s) [] l
filled_empty m g.variant_case b h taken there tells = took taken (empty h there tells)
filled_empty m g.field b h taken there tells = took taken (empty h there tells)
filled_empty m g.flag b h taken there tells = took taken (empty h there tells)
filled_empty m g.enum_case b h taken there tells = took taken (empty h there tells)
filled_empty m _ b h taken there tells = absurd cc

open_body : {e : Error} {l : Reading} {b : Body} {g : Grammar} → at t.CloseBrace (left l) ≡ false → Fails e (end_of_input l) (read_in read g (closing t.CloseBrace ∷ []) (left l)) → Stops e (not_empty b t.CloseBrace g) [] l
open_body shut f = record { fails = rw shut f }

-- its list fails
pub filled_fails : {e : Error} {l : Reading} {i : Item} {P : Type 0} (m : Reading) (s : Sym) (b : Body) → body_of_items s ≡ Some b → (read_token [] t.OpenBrace (left l) ≡ Ok (i, left m)) × P × (end_of_input m ≡ end_of_input l)
    → at t.CloseBrace (left m) ≡ false → Fails e (end_of_input m) (list_of s (left m)) → Stops e (filled s) [] l
filled_fails m g.variant_case b h taken shut f = took taken (open_body shut (body_fails _ _ _ (comma_list g.variant_case t.CloseBrace refl).is_list shut f))
filled_fails m g.field b h taken shut f = took taken (open_body shut (body_fails _ _ _ (comma_list g.field t.CloseBrace refl).is_list shut f))
filled_fails m g.flag b h taken shut f = took taken (open_body shut (body_fails _ _ _ (comma_list g.flag t.CloseBrace refl).is_list shut f))
filled_fails m g.enum_case b h taken shut f = took taken (open_body shut (body_fails _ _ _ (comma_list g.enum_case t.CloseBrace refl).is_list shut f))
filled_fails m _ b h taken shut f = absurd cc

yields_body : {l n : Reading} {b : Body} {g : Grammar} {p : Parts g} → at t.CloseBrace (left l) ≡ false → read_in read g (closing t.CloseBrace ∷ []) (left l) ≡ Ok (p, left n) → end_of_input n ≡ end_of_input l → Yields (not_empty b t.CloseBrace g) [] l p n
yields_body shut r ends = record { reads = rw (shut, r) refl; ends = ends }

-- its parts are read
pub filled_yields : {l n : Reading} {i : Item} {P : Type 0} {last : Item} (m : Reading) (s : Sym) {items : List (TreeOf s)} (b : Body) → body_of_items s ≡ Some b → (read_token [] t.OpenBrace (left l) ≡ Ok (i, left m)) × P × (end_of_input m ≡ end_of_input l)
    → at t.CloseBrace (left m) ≡ false → list_of s (left m) ≡ Ok ((items, last), left n) → end_of_input n ≡ end_of_input m → (p : Parts (filled s)) × Yields (filled s) [] l p n × (filled_items s p ≡ items)
filled_yields m g.variant_case b h taken shut r ends = let body = filled_ends (comma_list g.variant_case t.CloseBrace refl).is_list shut r in (_, y.took taken (yields_body shut body.2 ends), body.3)
filled_yields m g.field b h taken shut r ends = let body = filled_ends (comma_list g.field t.CloseBrace refl).is_list shut r in (_, y.took taken (yields_body shut body.2 ends), body.3)
filled_yields m g.flag b h taken shut r ends = let body = filled_ends (comma_list g.flag t.CloseBrace refl).is_list shut r in (_, y.took taken (yields_body shut body.2 ends), body.3)
filled_yields m g.enum_case b h taken shut r ends = let body = filled_ends (comma_list g.enum_case t.CloseBrace refl).is_list shut r in (_, y.took taken (yields_body shut body.2 ends), body.3)
filled_yields m _ b h taken shut r ends = absurd cc

-- A symbol that may be left out, after a token.
use Rattle.wac_ast_types.proofs.Common.{◌≡◌, Bool, true, Result, Ok, Err, inl, refl, Token, Item, Reading, left, Sym, TreeOf, Parts, token, then, optional, read, Error, Gives, TakesOptional, GivesPart}
use Rattle.wac_ast_grammar.specs.Grammar.{sym}
use Rattle.wac_ast_base.proofs.Exits as x
use Rattle.wac_ast_base.proofs.Yields as y

-- the token was taken, and what the symbol's parser returned is returned
pub passed_on : {X : Type 0} {b : Bool} (k : Token) (s : Sym) (of : Parts (optional (then (token k) (sym s))) → TreeOf s) (view : X → TreeOf s) (old mid new : Reading) (r : Result X Error)
    → ((i : Item) (t : TreeOf s) → of (inl (i, t)) ≡ t) → b ≡ true → TakesOptional k (Ok b) old mid → Gives view r mid new (read s (left mid)) → GivesPart (optional (then (token k) (sym s))) of (λ e x. x ≡ e) view r old new
passed_on k s of view old mid new (Ok v) same there taken g = y.part (y.option mid there taken (y.last g)) (same _ _)
passed_on k s of view old mid new (Err e) same there taken f = x.part_exits e refl (x.option mid there taken (x.last f))

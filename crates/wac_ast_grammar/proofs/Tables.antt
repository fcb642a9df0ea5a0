-- Tests on tokens, and the tables that the laws need of a rule.
use Rattle.std.proofs.Common.{◌≡◌, List, [], ◌∷◌, ◌++◌, Result, Ok, Err, Bool, true, false, cond, refl, sym as back, ap, ◌∙◌, eq-eqb}
use Rattle.wac_ast_grammar.proofs.Common.{eqb-true, Error, Token, Item}
use Rattle.wac_lexer.specs.declared.token.Token.TheVariants as t
use Rattle.wac_ast_grammar.specs.Tokens.{is_token}
use Rattle.wac_ast_grammar.specs.Grammar.{Sym, document, statements, import_type, export_options, expr, argument, named_argument, postfixes, variant_case, field, type_alias_kind, func_type_ref, func_type, result_list, named_type, ty, result_type, stream_type, future_type, result_part, payload, use_item, world_item_path, named_world_item, extern_type, rule, After, anything, no_fault, one_among, Grammar, token, sym, then, either, nothing, to_end, docs, not_empty, more, or_told, list_items, more_items, arguments}
use Rattle.wac_ast_grammar.specs.Reading.{empty, is_empty, begins, first, at_one_of}
use Rattle.wac_ast_grammar.proofs.Fixed.{both, both_left, both_right}

-- ---- tests

abbrev pub one_of : List Token → Item → Bool
one_of ks x = at_one_of ks (x ∷ [])

pub at_one_of_head : (ks : List Token) (x : Item) (xs : List Item) → at_one_of ks (x ∷ xs) ≡ one_of ks x
at_one_of_head [] x xs = refl
at_one_of_head (k ∷ ks) x xs = ap (λ b. cond (is_token k x.token) true b) (at_one_of_head ks x xs)

pub at_one_of_nil : (ks : List Token) → at_one_of ks [] ≡ false
at_one_of_nil [] = refl
at_one_of_nil (k ∷ ks) = at_one_of_nil ks

pub one_of_append : (ks ls : List Token) (x : Item) → one_of (ks ++ ls) x ≡ cond (one_of ks x) true (one_of ls x)
one_of_append [] ls x = refl
one_of_append (k ∷ ks) ls x = go (is_token k x.token) (one_of_append ks ls x)
  where
    go : (b : Bool) → one_of (ks ++ ls) x ≡ cond (one_of ks x) true (one_of ls x) → cond b true (one_of (ks ++ ls) x) ≡ cond (cond b true (one_of ks x)) true (one_of ls x)
    go true h = refl
    go false h = h

abbrev pub same_token : Token → Token → Bool
same_token k l = is_token k (Ok l)

abbrev pub among : Token → List Token → Bool
among k [] = false
among k (l ∷ ls) = cond (same_token l k) true (among k ls)

abbrev pub negated : Bool → Bool
negated b = cond b false true

abbrev pub apart : List Token → List Token → Bool
apart [] ls = true
apart (k ∷ ks) ls = both (negated (among k ls)) (apart ks ls)

pub same_token_of : (k l : Token) (x : Item) → is_token k x.token ≡ true → is_token l x.token ≡ true → same_token l k ≡ true
same_token_of k l x h e = go k l x.token h e
  where
    go : (k l : Token) (r : Result Token Error) → is_token k r ≡ true → is_token l r ≡ true → same_token l k ≡ true
    go k l (Ok a) h e = eq-eqb _ _ (back (eqb-true _ _ h) ∙ eqb-true _ _ e)
    go k l (Err f) h e = absurd cc

pub always : (b : Bool) → cond b true true ≡ true
always true = refl
always false = refl

pub among_one_of : (k : Token) (ls : List Token) (x : Item) → is_token k x.token ≡ true → one_of ls x ≡ true → among k ls ≡ true
among_one_of k [] x h e = e
among_one_of k (l ∷ ls) x h e = go (is_token l x.token) refl e (among_one_of k ls x h)
  where
    go : (b : Bool) → is_token l x.token ≡ b → cond b true (one_of ls x) ≡ true → (one_of ls x ≡ true → among k ls ≡ true) → cond (same_token l k) true (among k ls) ≡ true
    go true eq f r = rw (same_token_of k l x h eq) refl
    go false eq f r = rw (r f) (always (same_token l k))

pub same_token_is : (k l : Token) (x : Item) → same_token l k ≡ true → is_token k x.token ≡ true → is_token l x.token ≡ true
same_token_is k l x h e = go x.token e
  where
    go : (r : Result Token Error) → is_token k r ≡ true → is_token l r ≡ true
    go (Ok a) e = eq-eqb _ _ (eqb-true _ _ e ∙ eqb-true _ _ h)
    go (Err f) e = absurd cc

pub among_is : (k : Token) (ls : List Token) (x : Item) → among k ls ≡ true → is_token k x.token ≡ true → one_of ls x ≡ true
among_is k [] x a e = a
among_is k (l ∷ ls) x a e = go (same_token l k) refl a (λ b. among_is k ls x b e)
  where
    go : (b : Bool) → same_token l k ≡ b → cond b true (among k ls) ≡ true → (among k ls ≡ true → one_of ls x ≡ true) → cond (is_token l x.token) true (one_of ls x) ≡ true
    go true h a r = rw (same_token_is k l x h e) refl
    go false h a r = rw (r a) (always (is_token l x.token))

pub back_token : (k l : Token) → same_token k l ≡ true → same_token l k ≡ true
back_token k l h = eq-eqb _ _ (back (eqb-true _ _ h))

pub not_true : (b : Bool) → negated b ≡ true → b ≡ false
not_true true h = absurd cc
not_true false h = refl

-- lists that are apart have no common item
pub apart_not : (ks ls : List Token) (x : Item) → apart ks ls ≡ true → one_of ks x ≡ true → one_of ls x ≡ false
apart_not [] ls x h e = absurd cc
apart_not (k ∷ ks) ls x h e = first_case (is_token k x.token) refl e (one_of ls x) refl (apart_not ks ls x (both_right (negated (among k ls)) (apart ks ls) h))
  where
    first_case : (b : Bool) → is_token k x.token ≡ b → cond b true (one_of ks x) ≡ true → (c : Bool) → one_of ls x ≡ c → (one_of ks x ≡ true → one_of ls x ≡ false) → one_of ls x ≡ false
    first_case true eq f true eq2 r = let a = among_one_of k ls x eq eq2 in let b = not_true (among k ls) (both_left (negated (among k ls)) (apart ks ls) h) in absurd cc
    first_case true eq f false eq2 r = eq2
    first_case false eq f c eq2 r = r f

-- ---- the tables

abbrev pub all_tokens : List Token
all_tokens = t.Comment ∷ t.BlockComment ∷ t.Ident ∷ t.String ∷ t.PackageName ∷ t.PackagePath ∷ t.ImportKeyword ∷ t.WithKeyword ∷ t.TypeKeyword ∷ t.TupleKeyword ∷ t.ListKeyword ∷ t.OptionKeyword ∷ t.ResultKeyword ∷ t.BorrowKeyword ∷ t.ResourceKeyword ∷ t.VariantKeyword ∷ t.RecordKeyword ∷ t.FlagsKeyword ∷ t.EnumKeyword ∷ t.FuncKeyword ∷ t.StaticKeyword ∷ t.ConstructorKeyword ∷ t.U8Keyword ∷ t.S8Keyword ∷ t.U16Keyword ∷ t.S16Keyword ∷ t.U32Keyword ∷ t.S32Keyword ∷ t.U64Keyword ∷ t.S64Keyword ∷ t.F32Keyword ∷ t.F64Keyword ∷ t.CharKeyword ∷ t.BoolKeyword ∷ t.StringKeyword ∷ t.InterfaceKeyword ∷ t.WorldKeyword ∷ t.ExportKeyword ∷ t.NewKeyword ∷ t.LetKeyword ∷ t.UseKeyword ∷ t.IncludeKeyword ∷ t.AsKeyword ∷ t.PackageKeyword ∷ t.TargetsKeyword ∷ t.AsyncKeyword ∷ t.StreamKeyword ∷ t.FutureKeyword ∷ t.ErrorContextKeyword ∷ t.Semicolon ∷ t.OpenBrace ∷ t.CloseBrace ∷ t.Colon ∷ t.Equals ∷ t.OpenParen ∷ t.CloseParen ∷ t.Arrow ∷ t.OpenAngle ∷ t.CloseAngle ∷ t.Underscore ∷ t.OpenBracket ∷ t.CloseBracket ∷ t.Dot ∷ t.Ellipsis ∷ t.Comma ∷ t.Slash ∷ t.At ∷ []

-- the tokens but these
abbrev pub away_from : List Token → List Token → List Token
away_from ks [] = []
away_from ks (l ∷ ls) = cond (among l ks) (away_from ks ls) (l ∷ away_from ks ls)

abbrev pub others : List Token → List Token
others ks = away_from ks all_tokens

-- the tokens that would continue what a symbol derives
abbrev pub clashes : Sym → List Token
clashes document = all_tokens
clashes statements = all_tokens
clashes import_type = t.Arrow ∷ t.OpenAngle ∷ begins result_list
clashes export_options = t.AsKeyword ∷ t.Ellipsis ∷ []
clashes expr = t.OpenBracket ∷ t.Dot ∷ []
clashes argument = others (t.CloseBrace ∷ t.Comma ∷ [])
clashes named_argument = t.OpenBracket ∷ t.Dot ∷ []
clashes postfixes = t.OpenBracket ∷ t.Dot ∷ []
clashes variant_case = t.OpenParen ∷ []
clashes field = t.OpenAngle ∷ []
clashes type_alias_kind = t.Arrow ∷ t.OpenAngle ∷ begins result_list
clashes func_type_ref = t.Arrow ∷ t.OpenAngle ∷ begins result_list
clashes func_type = t.Arrow ∷ t.OpenAngle ∷ begins result_list
clashes result_list = t.OpenAngle ∷ begins result_list
clashes named_type = t.OpenAngle ∷ []
clashes ty = t.OpenAngle ∷ []
clashes result_type = t.OpenAngle ∷ []
clashes stream_type = t.OpenAngle ∷ []
clashes future_type = t.OpenAngle ∷ []
clashes result_part = t.OpenAngle ∷ []
clashes payload = t.OpenAngle ∷ []
clashes use_item = t.AsKeyword ∷ []
clashes world_item_path = t.Colon ∷ t.Arrow ∷ t.OpenAngle ∷ begins result_list
clashes named_world_item = t.Arrow ∷ t.OpenAngle ∷ begins result_list
clashes extern_type = t.Arrow ∷ t.OpenAngle ∷ begins result_list
clashes _ = []

-- something must follow
abbrev pub needs_more : Sym → Bool
needs_more argument = true
needs_more _ = false

abbrev pub clash_after : After → List Token
clash_after anything = []
clash_after no_fault = []
clash_after (one_among ks) = others ks

abbrev pub needs_after : After → Bool
needs_after anything = false
needs_after no_fault = false
needs_after (one_among ks) = true

abbrev pub clash : Grammar → List Token
clash (token k) = []
clash (sym s) = clashes s
clash (then g h) = clash h ++ cond (is_empty h) (clash g) []
clash (either loud g h) = (clash g ++ clash h) ++ cond (is_empty h) (first g) []
clash (nothing b) = clash_after b
clash (to_end g) = all_tokens
clash (docs g) = clash g
clash (not_empty e k g) = clash g
clash (more k s g) = clash g
clash (or_told g k h) = clash g ++ clash h

-- something must follow
abbrev pub needs : Grammar → Bool
needs (token k) = false
needs (sym s) = needs_more s
needs (then g h) = cond (needs h) true (both (is_empty h) (needs g))
needs (either loud g h) = cond (needs g) true (needs h)
needs (nothing b) = needs_after b
needs (to_end g) = needs g
needs (docs g) = needs g
needs (not_empty e k g) = needs g
needs (more k s g) = needs g
needs (or_told g k h) = cond (needs g) true (needs h)

-- the reading of it may come after other alternatives were tried
abbrev pub pickable : Grammar → Bool
pickable (token k) = true
pickable (sym s) = negated (empty s)
pickable (then g h) = both (negated (is_empty g)) (pickable g)
pickable (either loud g h) = true
pickable (nothing b) = true
pickable (to_end g) = true
pickable (docs g) = pickable g
pickable (not_empty e k g) = true
pickable (more k s g) = pickable g
pickable (or_told g k h) = true

abbrev pub within : List Token → List Token → Bool
within [] ls = true
within (k ∷ ks) ls = both (among k ls) (within ks ls)

-- each of these tokens may come after a comma
abbrev pub continues : List Token → Grammar → Bool
continues ks (either loud g (then (token c) (sym s))) = both (same_token t.Comma c) (within ks (begins s))
continues ks _ = false

abbrev pub lawful : Grammar → Bool
lawful (token k) = true
lawful (sym s) = true
lawful (then g h) = both (both (lawful g) (lawful h)) (apart (first h) (clash g))
lawful (either loud g h) = both (both (lawful g) (lawful h)) (both (negated (is_empty g)) (both (apart (first h) (first g)) (pickable h)))
lawful (nothing b) = true
lawful (to_end g) = both (lawful g) (negated (is_empty g))
lawful (docs g) = both (lawful g) (negated (is_empty g))
lawful (not_empty e k g) = both (both (lawful g) (negated (is_empty g))) (both (apart (first g) (k ∷ [])) (pickable g))
lawful (more k s g) = both (both (lawful g) (negated (is_empty g))) (both (among k (first g)) (continues (k ∷ begins s) g))
lawful (or_told g k h) = both (both (lawful g) (lawful h)) (both (negated (is_empty g)) (both (apart (k ∷ []) (first g)) (negated (is_empty h))))

pub rule_lawful : (s : Sym) → lawful (rule s) ≡ true
rule_lawful (list_items arguments) = refl
rule_lawful (more_items arguments) = refl
rule_lawful _ = refl

pub begins_is : (s : Sym) → first (rule s) ≡ begins s
begins_is (list_items arguments) = refl
begins_is (more_items arguments) = refl
begins_is _ = refl

pub clashes_is : (s : Sym) → within (clash (rule s)) (clashes s) ≡ true
clashes_is (list_items arguments) = refl
clashes_is (more_items arguments) = refl
clashes_is _ = refl

pub needs_is : (s : Sym) → needs (rule s) ≡ needs_more s
needs_is (list_items arguments) = refl
needs_is (more_items arguments) = refl
needs_is _ = refl

-- each token is among all
pub every_token : (k : Token) → among k all_tokens ≡ true
every_token t.Comment = refl
every_token _ = refl

-- the first two parts of a lawful grammar are
pub both_lawful : (a b c : Bool) → both (both a b) c ≡ true → (a ≡ true) × (b ≡ true)
both_lawful a b c h = (both_left a b (both_left (both a b) c h), both_right a b (both_left (both a b) c h))

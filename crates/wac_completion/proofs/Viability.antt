-- An error says whether some document begins with the items of a text.
use Rattle.std.proofs.Common.{◌≡◌, refl, sym, ap, ◌∙◌, subst, ℕ, List, [], ◌∷◌, ◌++◌, Bool, true, false, Option, Some, None, Ok, Err, inl, inr, ⊎_elim}
use Rattle.std.specs.Prelude.{◌⊎◌, ◌≢◌, IfOk, Result, alloc_error}
use Rattle.std.proofs.lemmas.List.{append-nil, append_assoc}
use Rattle.wac_lexer.specs.Characters.{refused}
use Rattle.wac_lexer.specs.Item.{Item}
use Rattle.wac_lexer.specs.Items.{items}
use Rattle.wac_lexer.specs.Span.{Span}
use Rattle.wac_lexer.specs.declared.token.Token.{Token}
use Rattle.wac_ast_grammar.specs.Arguments.{EndsArgued}
use Rattle.wac_ast_grammar.specs.Grammar.{Sym, document}
use Rattle.wac_ast_grammar.specs.Stopped.{Fault as IsFault}
use Rattle.wac_ast_grammar.specs.TextTree.{IsTreeOf}
use Rattle.wac_ast_grammar.specs.Tree.{Document}
use Rattle.wac_ast_grammar.specs.Viable.{Viable, Leads}
use Rattle.wac_ast.specs.Document.{ErrorOf, TellsRefused, end_of_text}
use Rattle.wac_ast_base.specs.Answer.{End}
use Rattle.wac_ast_base.specs.declared.error.Error.{Error as CodeError}
use Rattle.wac_ast_base.specs.declared.error.Error.TheVariants as errors
use Rattle.wac_ast_base.specs.Error.{Told, told_by, faulty, expected_one, expected_either, expected_many, empty_type, invalid_version, no_memory}
use Rattle.wac_ast_base.specs.FirstFault.{Finds, FirstFault, Holds, TellsFirstFault, end_in_sequence, end_of_choice}
use Rattle.wac_completion.specs.Faults.{ends_early, is_end}

-- what begins like some items begins like the first of them
leads_less : (a b ys : List Item) → Leads (a ++ b) ys → Leads a ys
leads_less [] b ys h = tt
leads_less (x ∷ a) b [] h = absurd h
leads_less (x ∷ a) b (y ∷ ys) h = (h.0, leads_less a b ys h.1)

viable_less : (s : Sym) (a b : List Item) → Viable s (a ++ b) → Viable s a
viable_less s a b v = (v.0, v.1, leads_less a b v.0 v.2, v.3)

-- the items of a list are similar to themselves
leads_same : (xs : List Item) → Leads xs xs
leads_same [] = tt
leads_same (x ∷ xs) = ((refl, refl), leads_same xs)

-- the items of a text that has a tree
pub tree_viable : (text : List ℕ) (tree : Document) → IsTreeOf text tree → Viable document (items text)
tree_viable text tree is = (items text, tree, leads_same (items text), is.derives)

-- nothing was found at the end alone
finds_end : (left : List Item) (end : Span) (found : Option Token) (at : Span) → Finds left end found at → is_end found ≡ true → left ≡ []
finds_end [] end found at h e = refl
finds_end (x ∷ left) end found at h e = let f : is_end found ≡ false = ap is_end h.2 in absurd cc

finds_item : (left : List Item) (end : Span) (found : Option Token) (at : Span) → Finds left end found at → is_end found ≡ false → (x : Item) × (others : List Item) × (left ≡ x ∷ others)
finds_item [] end found at h e = let f : is_end found ≡ true = ap is_end h.0 in absurd cc
finds_item (x ∷ left) end found at h e = (x, left, refl)

held_end : (end : End) (lead left : List Item) (told : Told) → Holds document end lead left told → ends_early told ≡ true → left ≡ []
held_end end lead left (faulty fault at) h e = absurd cc
held_end end lead left (expected_one k found at) h e = finds_end left (end_in_sequence end) found at h.0 e
held_end end lead left (expected_either k l found at) h e = finds_end left (end_of_choice end) found at h.0 e
held_end end lead left (expected_many kept count found at) h e = finds_end left (end_of_choice end) found at h.1 e
held_end end lead left (empty_type ty kind at) h e = absurd cc
held_end end lead left (invalid_version version at) h e = absurd cc
held_end end lead left no_memory h e = absurd h

held_item : (end : End) (lead left : List Item) (told : Told) → Holds document end lead left told → ends_early told ≡ false → (x : Item) × (others : List Item) × (left ≡ x ∷ others)
held_item end lead left (faulty fault at) h e = (h.0, h.1, h.2)
held_item end lead left (expected_one k found at) h e = finds_item left (end_in_sequence end) found at h.0 e
held_item end lead left (expected_either k l found at) h e = finds_item left (end_of_choice end) found at h.0 e
held_item end lead left (expected_many kept count found at) h e = finds_item left (end_of_choice end) found at h.1 e
held_item end lead left (empty_type ty kind at) h e = (h.1, h.2, h.3)
held_item end lead left (invalid_version version at) h e = (h.1, h.2, h.3)
held_item end lead left no_memory h e = absurd h

-- an item with which no document goes on
stops : (xs lead left : List Item) → FirstFault document xs lead left → (x : Item) (others : List Item) → left ≡ x ∷ others → Viable document xs → ⊥
stops xs lead left first x others e v =
    let at : xs ≡ (lead ++ (x ∷ [])) ++ others = first.splits ∙ ap (λ (ys : List Item). lead ++ ys) e ∙ sym (append_assoc lead (x ∷ []) others) in
    let fault = subst (λ (ys : List Item). IsFault document lead ys) e first.fault in
    fault (viable_less document (lead ++ (x ∷ [])) others (subst (Viable document) at v))

-- where the end was found
ends_viable_told : (text : List ℕ) (told : Told) → TellsRefused text told ⊎ ((refused text ≡ None) × TellsFirstFault document (end_of_text text) (items text) told) → ends_early told ≡ true → Viable document (items text)
ends_viable_told text told (inl (fault, at, is, same)) e = let f : ends_early told ≡ false = ap ends_early same in absurd cc
ends_viable_told text told (inr (clean, inl (lead, left, first, tells))) e =
    let none = held_end (end_of_text text) lead left told tells.holds e in
    subst (Viable document) (sym (first.splits ∙ ap (λ (ys : List Item). lead ++ ys) none ∙ append-nil lead)) first.viable
ends_viable_told text told (inr (clean, inr (lead, string, left, first, argued, can, same))) e = let f : ends_early told ≡ false = ap ends_early same in absurd cc

pub ends_viable : (text : List ℕ) (told : Told) → ErrorOf told text → ends_early told ≡ true → Viable document (items text)
ends_viable text told error e = ends_viable_told text told error.lies e

-- where it wasn't
argued_at_end : (xs all left : List Item) → FirstFault document xs all left → EndsArgued document all → Viable document xs → EndsArgued document xs
argued_at_end xs all [] first argued v = subst (EndsArgued document) (sym (first.splits ∙ append-nil all)) argued
argued_at_end xs all (x ∷ others) first argued v = absurd (stops xs all (x ∷ others) first x others refl v)

not_viable_told : (text : List ℕ) (told : Told) → TellsRefused text told ⊎ ((refused text ≡ None) × TellsFirstFault document (end_of_text text) (items text) told) → ends_early told ≡ false → refused text ≡ None
    → Viable document (items text) → EndsArgued document (items text)
not_viable_told text told (inl (fault, at, is, same)) e clean v = let f : Some (fault, at) ≡ None = sym is ∙ clean in absurd cc
not_viable_told text told (inr (same, inl (lead, left, first, tells))) e clean v =
    let some = held_item (end_of_text text) lead left told tells.holds e in
    absurd (stops (items text) lead left first some.0 some.1 some.2 v)
not_viable_told text told (inr (same, inr (lead, string, left, first, argued, can, is))) e clean v = argued_at_end (items text) (lead ++ (string ∷ [])) left first argued v

pub not_viable : (text : List ℕ) (told : Told) → ErrorOf told text → ends_early told ≡ false → refused text ≡ None → Viable document (items text) → EndsArgued document (items text)
not_viable text told error e clean v = not_viable_told text told error.lies e clean v

-- the same of what an error comes to, unless memory ran out
abbrev pub AtEnd : CodeError → Bool → Type 0
AtEnd e b = (e ≢ errors.Memory alloc_error) × (b ≡ ends_early (told_by e))

reported : (text : List ℕ) (e : CodeError) → (e ≡ errors.Memory alloc_error) ⊎ ErrorOf (told_by e) text → e ≢ errors.Memory alloc_error → ErrorOf (told_by e) text
reported text e told other = ⊎_elim (λ m. absurd (other m)) (λ x. x) told

pub ends_viable_by : {E : Type 0} (text : List ℕ) (e : CodeError) (r : Result Bool E) → (e ≡ errors.Memory alloc_error) ⊎ ErrorOf (told_by e) text → IfOk r (AtEnd e) → IfOk r (λ b. b ≡ true → Viable document (items text))
ends_viable_by text e (Ok b) told h = λ is. ends_viable text (told_by e) (reported text e told h.0) (sym h.1 ∙ is)
ends_viable_by text e (Err x) told h = tt

pub not_viable_by : {E : Type 0} (text : List ℕ) (e : CodeError) (r : Result Bool E) → (e ≡ errors.Memory alloc_error) ⊎ ErrorOf (told_by e) text → IfOk r (AtEnd e)
    → IfOk r (λ b. b ≡ false → refused text ≡ None → Viable document (items text) → EndsArgued document (items text))
not_viable_by text e (Ok b) told h = λ is. not_viable text (told_by e) (reported text e told h.0) (sym h.1 ∙ is)
not_viable_by text e (Err x) told h = tt

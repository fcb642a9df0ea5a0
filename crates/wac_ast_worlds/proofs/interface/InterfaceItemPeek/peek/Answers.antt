use Rattle.wac_ast_worlds.proofs.Common.{refl, [], ◌∷◌, ◌∙◌, Peeks, peeks_met, peeks_on}
use Rattle.wac_lexer.specs.declared.token.Token.TheVariants as tokens
use Rattle.wac_ast_worlds.proofs.interface.InterfaceItemPeek.peek.Goals as goal
use Rattle.wac_ast_worlds.proofs.interface.InterfaceItemPeek.peek.Goals.{then-peek, else-peek}

pub returns-then-peek-2 : goal.returns-then-peek-2
returns-then-peek-2 c =
    let two : Peeks (tokens.UseKeyword ∷ tokens.Ident ∷ []) c.if-peek.value c.args.lookahead.now c.if-peek.lookahead = elim c.if-peek.branch [
      | then-peek w ↦ peeks_met (tokens.Ident ∷ []) c.peek.ensures w.if-peek.true w.lookahead-is (w.value-is ∙ w.if-peek.true)
      | else-peek w ↦ peeks_on c.peek.ensures w.if-peek.false w.peek-else-peek.ensures w.lookahead-is w.value-is
    ] in
    peeks_met (tokens.ResourceKeyword ∷ tokens.VariantKeyword ∷ tokens.RecordKeyword ∷ tokens.FlagsKeyword ∷ tokens.EnumKeyword ∷ tokens.TypeKeyword ∷ []) two c.if-peek-2.true refl c.if-peek-2.true

pub returns-else-peek-2 : goal.returns-else-peek-2
returns-else-peek-2 c =
    let two : Peeks (tokens.UseKeyword ∷ tokens.Ident ∷ []) c.if-peek.value c.args.lookahead.now c.if-peek.lookahead = elim c.if-peek.branch [
      | then-peek w ↦ peeks_met (tokens.Ident ∷ []) c.peek.ensures w.if-peek.true w.lookahead-is (w.value-is ∙ w.if-peek.true)
      | else-peek w ↦ peeks_on c.peek.ensures w.if-peek.false w.peek-else-peek.ensures w.lookahead-is w.value-is
    ] in
    peeks_on two c.if-peek-2.false c.peek-else-peek-2.ensures refl refl

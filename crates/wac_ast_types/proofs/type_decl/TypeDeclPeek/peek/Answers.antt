use Rattle.wac_ast_types.proofs.Common.{refl, [], ◌∷◌, ◌∙◌, peeks_met, peeks_on}
use Rattle.wac_lexer.specs.declared.token.Token.TheVariants as tokens
use Rattle.wac_ast_base.specs.Lookahead.{Peeks}
use Rattle.wac_ast_types.proofs.type_decl.TypeDeclPeek.peek.Goals as goal
use Rattle.wac_ast_types.proofs.type_decl.TypeDeclPeek.peek.Goals.{then-peek, else-peek, then-peek-2, else-peek-2, then-peek-3, else-peek-3}

pub returns-then-peek-4 : goal.returns-then-peek-4
returns-then-peek-4 c =
    let two : Peeks (tokens.VariantKeyword ∷ tokens.RecordKeyword ∷ []) c.if-peek.value c.args.lookahead.now c.if-peek.lookahead = elim c.if-peek.branch [
      | then-peek w ↦ peeks_met (tokens.RecordKeyword ∷ []) c.peek.ensures w.if-peek.true w.lookahead-is (w.value-is ∙ w.if-peek.true)
      | else-peek w ↦ peeks_on c.peek.ensures w.if-peek.false w.peek-else-peek.ensures w.lookahead-is w.value-is
    ] in
    let three : Peeks (tokens.VariantKeyword ∷ tokens.RecordKeyword ∷ tokens.FlagsKeyword ∷ []) c.if-peek-2.value c.args.lookahead.now c.if-peek-2.lookahead = elim c.if-peek-2.branch [
      | then-peek-2 w ↦ peeks_met (tokens.FlagsKeyword ∷ []) two w.if-peek-2.true w.lookahead-is (w.value-is ∙ w.if-peek-2.true)
      | else-peek-2 w ↦ peeks_on two w.if-peek-2.false w.peek-else-peek-2.ensures w.lookahead-is w.value-is
    ] in
    let four : Peeks (tokens.VariantKeyword ∷ tokens.RecordKeyword ∷ tokens.FlagsKeyword ∷ tokens.EnumKeyword ∷ []) c.if-peek-3.value c.args.lookahead.now c.if-peek-3.lookahead = elim c.if-peek-3.branch [
      | then-peek-3 w ↦ peeks_met (tokens.EnumKeyword ∷ []) three w.if-peek-3.true w.lookahead-is (w.value-is ∙ w.if-peek-3.true)
      | else-peek-3 w ↦ peeks_on three w.if-peek-3.false w.peek-else-peek-3.ensures w.lookahead-is w.value-is
    ] in
    peeks_met (tokens.TypeKeyword ∷ []) four c.if-peek-4.true refl c.if-peek-4.true

pub returns-else-peek-4 : goal.returns-else-peek-4
returns-else-peek-4 c =
    let two : Peeks (tokens.VariantKeyword ∷ tokens.RecordKeyword ∷ []) c.if-peek.value c.args.lookahead.now c.if-peek.lookahead = elim c.if-peek.branch [
      | then-peek w ↦ peeks_met (tokens.RecordKeyword ∷ []) c.peek.ensures w.if-peek.true w.lookahead-is (w.value-is ∙ w.if-peek.true)
      | else-peek w ↦ peeks_on c.peek.ensures w.if-peek.false w.peek-else-peek.ensures w.lookahead-is w.value-is
    ] in
    let three : Peeks (tokens.VariantKeyword ∷ tokens.RecordKeyword ∷ tokens.FlagsKeyword ∷ []) c.if-peek-2.value c.args.lookahead.now c.if-peek-2.lookahead = elim c.if-peek-2.branch [
      | then-peek-2 w ↦ peeks_met (tokens.FlagsKeyword ∷ []) two w.if-peek-2.true w.lookahead-is (w.value-is ∙ w.if-peek-2.true)
      | else-peek-2 w ↦ peeks_on two w.if-peek-2.false w.peek-else-peek-2.ensures w.lookahead-is w.value-is
    ] in
    let four : Peeks (tokens.VariantKeyword ∷ tokens.RecordKeyword ∷ tokens.FlagsKeyword ∷ tokens.EnumKeyword ∷ []) c.if-peek-3.value c.args.lookahead.now c.if-peek-3.lookahead = elim c.if-peek-3.branch [
      | then-peek-3 w ↦ peeks_met (tokens.EnumKeyword ∷ []) three w.if-peek-3.true w.lookahead-is (w.value-is ∙ w.if-peek-3.true)
      | else-peek-3 w ↦ peeks_on three w.if-peek-3.false w.peek-else-peek-3.ensures w.lookahead-is w.value-is
    ] in
    peeks_on four c.if-peek-4.false c.peek-else-peek-4.ensures refl refl

use Rattle.wac_ast_worlds.proofs.Common.{refl, [], ◌∷◌, ◌∙◌, Peeks, peeks_met, peeks_on}
use Rattle.wac_lexer.specs.declared.token.Token.TheVariants as tokens
use Rattle.wac_ast_worlds.proofs.world.WorldItemPeek.peek.Goals as goal
use Rattle.wac_ast_worlds.proofs.world.WorldItemPeek.peek.Goals.{then-peek, else-peek, then-peek-2, else-peek-2, then-peek-3, else-peek-3}

pub returns-then-peek-4 : goal.returns-then-peek-4
returns-then-peek-4 c =
    let two : Peeks (tokens.UseKeyword ∷ tokens.ImportKeyword ∷ []) c.if-peek.value c.args.lookahead.now c.if-peek.lookahead = elim c.if-peek.branch [
      | then-peek w ↦ peeks_met (tokens.ImportKeyword ∷ []) c.peek.ensures w.if-peek.true w.lookahead-is (w.value-is ∙ w.if-peek.true)
      | else-peek w ↦ peeks_on c.peek.ensures w.if-peek.false w.peek-else-peek.ensures w.lookahead-is w.value-is
    ] in
    let three : Peeks (tokens.UseKeyword ∷ tokens.ImportKeyword ∷ tokens.ExportKeyword ∷ []) c.if-peek-2.value c.args.lookahead.now c.if-peek-2.lookahead = elim c.if-peek-2.branch [
      | then-peek-2 w ↦ peeks_met (tokens.ExportKeyword ∷ []) two w.if-peek-2.true w.lookahead-is (w.value-is ∙ w.if-peek-2.true)
      | else-peek-2 w ↦ peeks_on two w.if-peek-2.false w.peek-else-peek-2.ensures w.lookahead-is w.value-is
    ] in
    let four : Peeks (tokens.UseKeyword ∷ tokens.ImportKeyword ∷ tokens.ExportKeyword ∷ tokens.IncludeKeyword ∷ []) c.if-peek-3.value c.args.lookahead.now c.if-peek-3.lookahead = elim c.if-peek-3.branch [
      | then-peek-3 w ↦ peeks_met (tokens.IncludeKeyword ∷ []) three w.if-peek-3.true w.lookahead-is (w.value-is ∙ w.if-peek-3.true)
      | else-peek-3 w ↦ peeks_on three w.if-peek-3.false w.peek-else-peek-3.ensures w.lookahead-is w.value-is
    ] in
    peeks_met (tokens.ResourceKeyword ∷ tokens.VariantKeyword ∷ tokens.RecordKeyword ∷ tokens.FlagsKeyword ∷ tokens.EnumKeyword ∷ tokens.TypeKeyword ∷ []) four c.if-peek-4.true refl c.if-peek-4.true

pub returns-else-peek-4 : goal.returns-else-peek-4
returns-else-peek-4 c =
    let two : Peeks (tokens.UseKeyword ∷ tokens.ImportKeyword ∷ []) c.if-peek.value c.args.lookahead.now c.if-peek.lookahead = elim c.if-peek.branch [
      | then-peek w ↦ peeks_met (tokens.ImportKeyword ∷ []) c.peek.ensures w.if-peek.true w.lookahead-is (w.value-is ∙ w.if-peek.true)
      | else-peek w ↦ peeks_on c.peek.ensures w.if-peek.false w.peek-else-peek.ensures w.lookahead-is w.value-is
    ] in
    let three : Peeks (tokens.UseKeyword ∷ tokens.ImportKeyword ∷ tokens.ExportKeyword ∷ []) c.if-peek-2.value c.args.lookahead.now c.if-peek-2.lookahead = elim c.if-peek-2.branch [
      | then-peek-2 w ↦ peeks_met (tokens.ExportKeyword ∷ []) two w.if-peek-2.true w.lookahead-is (w.value-is ∙ w.if-peek-2.true)
      | else-peek-2 w ↦ peeks_on two w.if-peek-2.false w.peek-else-peek-2.ensures w.lookahead-is w.value-is
    ] in
    let four : Peeks (tokens.UseKeyword ∷ tokens.ImportKeyword ∷ tokens.ExportKeyword ∷ tokens.IncludeKeyword ∷ []) c.if-peek-3.value c.args.lookahead.now c.if-peek-3.lookahead = elim c.if-peek-3.branch [
      | then-peek-3 w ↦ peeks_met (tokens.IncludeKeyword ∷ []) three w.if-peek-3.true w.lookahead-is (w.value-is ∙ w.if-peek-3.true)
      | else-peek-3 w ↦ peeks_on three w.if-peek-3.false w.peek-else-peek-3.ensures w.lookahead-is w.value-is
    ] in
    peeks_on four c.if-peek-4.false c.peek-else-peek-4.ensures refl refl

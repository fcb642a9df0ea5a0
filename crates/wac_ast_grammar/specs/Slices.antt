-- The spans of a tree slice the source, those of its names, strings, paths and docs and those of its nodes: each lies in it and cuts no character.
use Rattle.std.specs.Prelude.{ℕ, List}
use Rattle.std.specs.List.{AllByRecursion}
use Rattle.wac_lexer.specs.Item.{Doc}
use Rattle.wac_lexer.specs.Reading.{Slices}
use Rattle.wac_ast_grammar.specs.Tree.{Document}
use Rattle.wac_ast_grammar.specs.Walk.{walk_document}
use Rattle.wac_ast_grammar.specs.Leaves.{Asked, holds_with_spans}

abbrev pub sliced : List ℕ → Asked
sliced source =
    record {
      ident = λ x. Slices source x.span;
      string = λ x. Slices source x.span;
      name = λ x. Slices source x.span;
      path = λ x. Slices source x.span;
      filled = λ b. Unit {0};
    }

abbrev pub DocsSlice : List ℕ → List Doc → Type 0
DocsSlice source docs = AllByRecursion (λ d. Slices source d.span) docs

abbrev pub DocumentSlices : List ℕ → Document → Type 0
DocumentSlices source x = walk_document (holds_with_spans (sliced source) (Slices source)) (DocsSlice source) x

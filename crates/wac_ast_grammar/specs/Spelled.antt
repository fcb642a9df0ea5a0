-- The texts of a tree are those of the source at its spans: of a name, a string and a path.
use Rattle.std.specs.Prelude.{◌≡◌, ℕ, List}
use Rattle.wac_lexer.specs.Reading.{slice}
use Rattle.wac_ast_grammar.specs.Version.{unversioned, path_name, path_segments, version_of}
use Rattle.wac_ast_grammar.specs.Tree.{without_percent, between_quotes, Document}
use Rattle.wac_ast_grammar.specs.Walk.{walk_document}
use Rattle.wac_ast_grammar.specs.Leaves.{Asked, holds}

abbrev pub spelled : List ℕ → Asked
spelled source =
    record {
      ident = λ x. x.string ≡ without_percent (slice source x.span);
      string = λ x. x.value ≡ between_quotes (slice source x.span);
      name = λ x. (x.string ≡ slice source x.span) × (x.name ≡ unversioned (slice source x.span)) × (x.version ≡ version_of (slice source x.span));
      path = λ x. (x.string ≡ slice source x.span) × (x.name ≡ path_name (slice source x.span)) × (x.segments ≡ path_segments (slice source x.span)) × (x.version ≡ version_of (slice source x.span));
      filled = λ b. Unit {0};
    }

abbrev pub DocumentSpelled : List ℕ → Document → Type 0
DocumentSpelled source x = walk_document (holds (spelled source)) (λ ds. Unit {0}) x

use Rattle.serde_json.specs.View.{view}
use Rattle.wac_lsp_messages.proofs.Refusing.{topic_of_places}
use Rattle.wac_lsp_messages.proofs.question.read_question.Goals as goal

pub returns-in_default : goal.returns-in_default
returns-in_default c =
    topic_of_places c.args.method.now (view c.args.params.now) c.read_question_at.result
    (record {
      no_formatting = c.in_default.not-text;
      no_range_formatting = c.in_default.not-text-2;
      no_symbols = c.in_default.not-text-3;
      no_semantic_tokens = c.in_default.not-text-4;
      no_folding_ranges = c.in_default.not-text-5;
      no_code_actions = c.in_default.not-text-6;
    })
    c.read_question_at.ensures

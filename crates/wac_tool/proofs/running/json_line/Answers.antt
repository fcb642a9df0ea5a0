use Rattle.wac_tool.proofs.Common.{◌∙◌, ◌+◌, ap, codes, document_of}
use Rattle.serde_json.specs.Written.{compact_text}
use Rattle.wac_json_forms.specs.Forms.{json_of}
use Rattle.wac_tool.proofs.JsonLines.{begun_before, cut_after, put_both}
use Rattle.wac_tool.proofs.running.json_line.Goals as goal

pub returns-in-Ok-clause-taken : goal.returns-in-Ok-clause-taken
returns-in-Ok-clause-taken g c taken =
    let p = c.put_all.ensures.taken taken in
    (put_both _ _ _ (compact_text (json_of (document_of c.args.page))) (codes "\n") c.in-Ok.ensures.written p.0, p.1 ∙ c.in-Ok.ensures.works)

pub returns-in-Ok-clause-failed : goal.returns-in-Ok-clause-failed
returns-in-Ok-clause-failed g c failed =
    let p = c.put_all.ensures.failed failed in
    (cut_after _ _ _ (compact_text (json_of (document_of c.args.page))) (codes "\n") p.0 c.in-Ok.ensures.written p.2, p.3 ∙ ap (λ n. n + 1) c.in-Ok.ensures.works)

pub returns-in-Err-clause-failed : goal.returns-in-Err-clause-failed
returns-in-Err-clause-failed g c failed =
    (begun_before _ _ (compact_text (json_of (document_of c.args.page))) (codes "\n") c.in-Err.ensures.began, c.in-Err.ensures.failed)

use Rattle.wac_json_text.proofs.Common.{rules, document_of}
use Rattle.wac_json_forms.specs.Forms.{json_of}
use Rattle.wac_json_text.proofs.NewSink.{begun_at, wrote_at}
use Rattle.wac_json_text.proofs.written.write_json.Goals as goal

pub returns-clause-written : goal.returns-clause-written
returns-clause-written g c =
    wrote_at c.new-out.result c.document-result.new.out c.document-result.result (json_of (document_of c.args.page)) _ _ _ _ _ _ c.new-out.ensures c.document-result.ensures (search rules)

pub returns-clause-began : goal.returns-clause-began
returns-clause-began g c =
    begun_at c.new-out.result c.document-result.new.out c.document-result.result (json_of (document_of c.args.page)) _ _ _ _ _ _ c.new-out.ensures c.document-result.ensures (search rules)

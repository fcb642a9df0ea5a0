use Rattle.wac_json_text.proofs.value_type.result_end.Goals as goal

pub returns : goal.returns
returns g c = c.enclosed.ensures

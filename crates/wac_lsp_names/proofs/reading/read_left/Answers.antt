use Rattle.wac_lsp_names.proofs.Finding.{without_names}
use Rattle.wac_lsp_names.proofs.reading.read_left.Goals as goal

pub returns-in-None : goal.returns-in-None
returns-in-None c = without_names _ _ _ c.as_str.ensures.value c.in_ok-names.ensures.names c.in-None.is

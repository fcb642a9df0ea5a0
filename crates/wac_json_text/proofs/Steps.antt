-- What the writer's functions cite.
use Rattle.wac_json_text.proofs.Common.{List, map, sym, Result, Option, option_map, Data, Printer, Prints, PrintError, seq, printed_at, optional, list_of-map, optional-map}
use Rattle.wac_json_forms.specs.Forms.{list_json}
use Rattle.wac_json_text.specs.Pieces.{pieces}

pub ruleset steps = (seq, list_of-map, optional-map)

-- a list of values is written as the list of their trees
pub of_items : {A X Y : Type 0} {old new : Printer} {r : Result A PrintError} (form : Y → Data) (g : X → Y) (xs : List X) → Prints old r new (pieces (list_json (λ x. form (g x)) xs)) → Prints old r new (pieces (list_json form (map g xs)))
of_items form g xs h = printed_at pieces (sym (list_of-map form g xs)) h

-- a part that may be absent, as its tree
pub of_option : {A X Y : Type 0} {old new : Printer} {r : Result A PrintError} (form : Y → Data) (g : X → Y) (o : Option X) → Prints old r new (pieces (optional (λ x. form (g x)) o)) → Prints old r new (pieces (optional form (option_map g o)))
of_option form g o h = printed_at pieces (sym (optional-map form g o)) h

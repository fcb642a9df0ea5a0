-- Edits in JSON.
use Rattle.std.specs.Prelude.{List, map, codes, Option, Some, None, string_bytes}
use Rattle.serde_json.specs.Data.{Data, null, number, unsigned, string, array, object, member, no_members}
use Rattle.serde_json.specs.View.{items_of}
use Rattle.wac_positions.specs.declared.place.Place.{Place}
use Rattle.wac_lsp_messages.specs.declared.notice.Range.{Range}
use Rattle.wac_lsp_messages.specs.declared.notice.Change.{Change}

abbrev pub position_data : Place → Data
position_data place =
    object (member (codes "character") (number (unsigned place.column))
    (member (codes "line") (number (unsigned place.line)) no_members))

-- from one place to another
abbrev pub between_data : Place → Place → Data
between_data start end =
    object (member (codes "end") (position_data end) (member (codes "start") (position_data start) no_members))

abbrev pub range_data : Option Range → Data
range_data None = null
range_data (Some range) = between_data range.start range.end

-- a change as an edit of the protocol
abbrev pub edit_data : Change → Data
edit_data change =
    object (member (codes "newText") (string (string_bytes change.text))
    (member (codes "range") (range_data change.range) no_members))

abbrev pub edits_data : List Change → Data
edits_data changes = array (items_of (map edit_data changes))

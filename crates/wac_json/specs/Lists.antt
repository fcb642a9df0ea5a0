-- The forms of lists whose trees have list types of their own: the types of a tuple, and the arguments of an instantiation.
use Rattle.std.specs.Prelude.{List, map}
use Rattle.serde_json.specs.Data.{Data, array}
use Rattle.wac_ast_grammar.specs.Tree.{arguments_from, types_from}
use Rattle.wac_ast_types.specs.Types.{ty_of}
use Rattle.wac_ast_types.specs.declared.types.«Type».{«Type»}
use Rattle.wac_ast_statements.specs.Expressions.{argument_of}
use Rattle.wac_ast_statements.specs.declared.expr.InstantiationArgument.{InstantiationArgument}
use Rattle.wac_json_forms.specs.Forms.{arguments_json, types_json}

abbrev pub type_list : List «Type» → Data
type_list types = array (types_json (types_from (map ty_of types)))

abbrev pub argument_list : List InstantiationArgument → Data
argument_list arguments = array (arguments_json (arguments_from (map argument_of arguments)))

-- How types are printed.
use Rattle.std.specs.Prelude.{◌≡◌, Bool, true, false, List, [], ◌∷◌, ◌++◌, codes, refl}
use Rattle.wac_ast_grammar.specs.Tree as tree
use Rattle.wac_ast_grammar.specs.Tree.{Ident, PackageName, PackagePath, ExternName, Ty, OptionalTy, Types, NamedType, ResultList, FuncType, FuncTypeRef}
use Rattle.wac_printer_layout.specs.Printed.{Piece, token, text}
use Rattle.wac_printer_layout.specs.Parts.{space, joined}
use Rattle.wac_printer_layout.specs.Bare.{nowhere}

abbrev pub package_path_layout : PackagePath → List Piece
package_path_layout x = token x.string ∷ []

abbrev pub extern_name_layout : ExternName → List Piece
extern_name_layout (tree.ExternName.ident x) = token x.string ∷ []
extern_name_layout (tree.ExternName.string x) = token x.value ∷ []

abbrev mutual
  pub ty_layout : Ty → List Piece
  ty_layout (tree.Ty.u8 s) = token (codes "u8") ∷ []
  ty_layout (tree.Ty.s8 s) = token (codes "s8") ∷ []
  ty_layout (tree.Ty.u16 s) = token (codes "u16") ∷ []
  ty_layout (tree.Ty.s16 s) = token (codes "s16") ∷ []
  ty_layout (tree.Ty.u32 s) = token (codes "u32") ∷ []
  ty_layout (tree.Ty.s32 s) = token (codes "s32") ∷ []
  ty_layout (tree.Ty.u64 s) = token (codes "u64") ∷ []
  ty_layout (tree.Ty.s64 s) = token (codes "s64") ∷ []
  ty_layout (tree.Ty.f32 s) = token (codes "f32") ∷ []
  ty_layout (tree.Ty.f64 s) = token (codes "f64") ∷ []
  ty_layout (tree.Ty.char s) = token (codes "char") ∷ []
  ty_layout (tree.Ty.bool s) = token (codes "bool") ∷ []
  ty_layout (tree.Ty.string s) = token (codes "string") ∷ []
  ty_layout (tree.Ty.tuple xs s) = token (codes "tuple") ∷ token (codes "<") ∷ (types_layout xs ++ token (codes ">") ∷ [])
  ty_layout (tree.Ty.list x s) = token (codes "list") ∷ token (codes "<") ∷ (ty_layout x ++ token (codes ">") ∷ [])
  ty_layout (tree.Ty.option x s) = token (codes "option") ∷ token (codes "<") ∷ (ty_layout x ++ token (codes ">") ∷ [])
  ty_layout (tree.Ty.result tree.OptionalTy.absent tree.OptionalTy.absent s) = token (codes "result") ∷ []
  ty_layout (tree.Ty.result tree.OptionalTy.absent (tree.OptionalTy.present err) s) =
      token (codes "result") ∷ token (codes "<") ∷ token (codes "_") ∷ token (codes ",") ∷ space ∷ (ty_layout err ++ token (codes ">") ∷ [])
  ty_layout (tree.Ty.result (tree.OptionalTy.present ok) tree.OptionalTy.absent s) =
      token (codes "result") ∷ token (codes "<") ∷ (ty_layout ok ++ token (codes ">") ∷ [])
  ty_layout (tree.Ty.result (tree.OptionalTy.present ok) (tree.OptionalTy.present err) s) =
      token (codes "result") ∷ token (codes "<") ∷ (ty_layout ok ++ token (codes ",") ∷ space ∷ (ty_layout err ++ token (codes ">") ∷ []))
  ty_layout (tree.Ty.borrow x s) = token (codes "borrow") ∷ token (codes "<") ∷ token x.string ∷ token (codes ">") ∷ []
  ty_layout (tree.Ty.stream x s) = token (codes "stream") ∷ element_layout x
  ty_layout (tree.Ty.future x s) = token (codes "future") ∷ element_layout x
  ty_layout (tree.Ty.error_context s) = token (codes "error-context") ∷ []
  ty_layout (tree.Ty.ident x) = token x.string ∷ []

  -- nothing, or a type in angle brackets
  pub element_layout : OptionalTy → List Piece
  element_layout tree.OptionalTy.absent = []
  element_layout (tree.OptionalTy.present x) = token (codes "<") ∷ (ty_layout x ++ token (codes ">") ∷ [])

  -- types joined by a comma and a blank
  pub types_layout : Types → List Piece
  types_layout tree.Types.none = []
  types_layout (tree.Types.more x xs) = ty_layout x ++ further_types_layout xs

  pub further_types_layout : Types → List Piece
  further_types_layout tree.Types.none = []
  further_types_layout (tree.Types.more x xs) = token (codes ",") ∷ space ∷ (ty_layout x ++ further_types_layout xs)

-- `ID: type`
abbrev pub named_type_layout : NamedType → List Piece
named_type_layout x = token x.id.string ∷ token (codes ":") ∷ space ∷ ty_layout x.ty

-- parameters, or results with names, in parentheses
abbrev pub params_layout : List NamedType → List Piece
params_layout params = token (codes "(") ∷ (joined named_type_layout params ++ token (codes ")") ∷ [])

abbrev pub results_layout : ResultList → List Piece
results_layout tree.ResultList.empty = []
results_layout (tree.ResultList.scalar x) = space ∷ token (codes "->") ∷ space ∷ ty_layout x
results_layout (tree.ResultList.named xs) = space ∷ token (codes "->") ∷ space ∷ params_layout xs

abbrev pub async_layout : Bool → List Piece
async_layout true = token (codes "async") ∷ space ∷ []
async_layout false = []

abbrev pub func_type_layout : FuncType → List Piece
func_type_layout x = async_layout x.is_async ++ token (codes "func") ∷ (params_layout x.params ++ results_layout x.results)

unfoldable pub func_type_ref_layout : FuncTypeRef → List Piece
func_type_ref_layout (tree.FuncTypeRef.func x) = func_type_layout x
func_type_ref_layout (tree.FuncTypeRef.ident x) = token x.string ∷ []

result_1 : text [] false (ty_layout (tree.Ty.result tree.OptionalTy.absent (tree.OptionalTy.present (tree.Ty.u8 nowhere)) nowhere)) ≡ codes "result<_, u8>"
result_1 = refl

func_1 : text [] false (func_type_layout (record { is_async = true; params = record { id = record { string = codes "x"; span = nowhere }; ty = tree.Ty.u8 nowhere } ∷ []; results = tree.ResultList.scalar (tree.Ty.bool nowhere) })) ≡ codes "async func(x: u8) -> bool"
unfolding joined
func_1 = refl

func_2 : text [] false (func_type_layout (record { is_async = false; params = []; results = tree.ResultList.named (record { id = record { string = codes "a"; span = nowhere }; ty = tree.Ty.u32 nowhere } ∷ record { id = record { string = codes "b"; span = nowhere }; ty = tree.Ty.string nowhere } ∷ []) })) ≡ codes "func() -> (a: u32, b: string)"
unfolding joined
func_2 = refl

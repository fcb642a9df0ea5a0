-- Function types with named results: what one means, and which rules others break.
use Rattle.wac_resolution_rules.proofs.Common.{◌+◌, ℕ, List, [], ◌∷◌, refl, false, codes, inl, inr, span, a_resource, Meaning, Scope, kind_of, primitive_value, borrow_of, named_results, func_entry, Ty, NamedType, ResultList, FuncType, duplicate_result, borrow_in_result}
use Rattle.wac_graph_types.specs.declared.kind.FuncKind.TheVariants as funcs
use Rattle.wac_graph_types.specs.declared.kind.PrimitiveType.TheVariants as primitives
use Rattle.wac_resolution_rules.specs.Types.{IsFunc}
use Rattle.wac_resolution_rules.specs.BrokenTypes.{FuncBroken}
use Rattle.wac_resolution_rules.proofs.StatementRows.{ident}

-- `NAME: u8` at an offset
abbrev u8_named : List ℕ → ℕ → NamedType
u8_named name offset = record { id = ident name offset 1; ty = Ty.u8 (span (offset + 3) 2) }

abbrev giving : List NamedType → FuncType
giving xs = record { is_async = false; params = []; results = ResultList.named xs }

abbrev u8 : Meaning
u8 = primitive_value primitives.U8

-- func() -> (a: u8, b: u8)
two_results : (scope : Scope) → IsFunc scope (giving (u8_named (codes "a") 11 ∷ u8_named (codes "b") 18 ∷ [])) (func_entry false (named_results ((codes "a", u8) ∷ (codes "b", u8) ∷ [])) [])
two_results scope = ([], named_results ((codes "a", u8) ∷ (codes "b", u8) ∷ []), refl, ((codes "a", u8) ∷ (codes "b", u8) ∷ [], ((codes "a", u8) ∷ [], (u8, (refl, refl), refl, refl), ((codes "a", u8) ∷ (codes "b", u8) ∷ [], (u8, (refl, refl), refl, refl), refl)), refl), refl)

-- func() -> (a: u8, a: u8)
repeated_result : (scope : Scope) → FuncBroken funcs.Free scope [] (giving (u8_named (codes "a") 11 ∷ u8_named (codes "a") 18 ∷ [])) (duplicate_result funcs.Free (codes "a") (span 18 1))
repeated_result scope =
    inr ([], refl, record { before = u8_named (codes "a") 11 ∷ []; failing = u8_named (codes "a") 18; after = []; split = refl; reached = (codes "a", u8) ∷ []; leads = ((codes "a", u8) ∷ [], (u8, (refl, refl), refl, refl), refl); breaks = inr (u8, (refl, refl), (u8, refl, refl)) })

-- func() -> (a: u8, a: borrow<r>), where r is a resource: the borrow is reported, at its type
borrow_first : (entry : Meaning) → FuncBroken funcs.Free ((codes "r", kind_of a_resource entry) ∷ []) [] (giving (u8_named (codes "a") 11 ∷ record { id = ident (codes "a") 18 1; ty = Ty.borrow (ident (codes "r") 28 1) (span 21 9) } ∷ [])) (borrow_in_result (span 21 9))
borrow_first entry =
    inr (
      [],
      refl,
      record {
        before = u8_named (codes "a") 11 ∷ [];
        failing = record { id = ident (codes "a") 18 1; ty = Ty.borrow (ident (codes "r") 28 1) (span 21 9) };
        after = [];
        split = refl;
        reached = (codes "a", u8) ∷ [];
        leads = ((codes "a", u8) ∷ [], (u8, (refl, refl), refl, refl), refl);
        breaks = inl (inr (borrow_of entry, (kind_of a_resource entry, refl, refl, refl), refl, refl));
      },
    )

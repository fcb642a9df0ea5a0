use Rattle.std.proofs.Common.{◌≡◌, ◌∙◌, [], Some, None, true, false, refl, sym, ap, subst, arith}
use Rattle.std.specs.Prelude.{option_map, unwrap_or, string_bytes}
use Rattle.wac_graph_types.specs.Entry.{sort_of}
use Rattle.wac_graph_types.specs.Kind.{named_by}
use Rattle.wac_graph_types.specs.Meaning.{meaning_at}
use Rattle.wac_graph_types.specs.Names.{by_name}
use Rattle.wac_graph_types.specs.Scope.{look_up}
use Rattle.wac_graph_types.proofs.Rows.{stands, none_within}
use Rattle.wac_graph_types.proofs.Views.{mapped_at}
use Rattle.wac_component_rules.specs.Parts.{IsSided, parts_of, part_view, side_items}
use Rattle.wac_component_rules.specs.Sides.{side_fits, parts_fit}
use Rattle.wac_component_rules.proofs.Compared.{forms_differ, without_entries, types_fit, items_fit}
use Rattle.wac_component_rules.proofs.Entries.{IsMade}
use Rattle.wac_component_rules.proofs.Measures.{above_both}
use Rattle.wac_component_rules.proofs.PartRows.{rest_fits_step, slot_refuses, part_refuses, rest_fits_end, lengths_refuse}
use Rattle.wac_component_rules.proofs.SideRows.{rest_found_step, rest_found_end, item_missing, item_unfit}
use Rattle.wac_component_rules.proofs.Stand.{same_entries, one_entry, named_length, made_answer, interface_answer, world_answer, world_refuses, constructors_differ, rows_refuse, rows_fit, part_below, of_parts, sides_fit, nothing_given, offer_below, asked_below}
use Rattle.wac_component_rules.proofs.fitting.+fitting.Goals as goal

pub compared-returns-in-Defined-clause-fits : goal.compared-returns-in-Defined-clause-fits
compared-returns-in-Defined-clause-fits t c = λ o.
    made_answer o c.args.entries.now c.args.i c.args.j c.index-entries-i.result c.parts_fit.result c.requires.table.0 (stands c.args.entries.now c.args.i c.index-entries-i.result c.requires.first c.index-entries-i.is) c.requires.sorts (subst IsMade (sym c.in-Defined.is) tt) (c.parts_fit.ensures.fits o)

pub compared-returns-in-Func-clause-fits : goal.compared-returns-in-Func-clause-fits
compared-returns-in-Func-clause-fits t c = λ o.
    made_answer o c.args.entries.now c.args.i c.args.j c.index-entries-i.result c.parts_fit-in-Func.result c.requires.table.0 (stands c.args.entries.now c.args.i c.index-entries-i.result c.requires.first c.index-entries-i.is) c.requires.sorts (subst IsMade (sym c.in-Func.is) tt) (c.parts_fit-in-Func.ensures.fits o)

pub compared-returns-in-Interface-clause-fits : goal.compared-returns-in-Interface-clause-fits
compared-returns-in-Interface-clause-fits t c = λ o.
    interface_answer o c.args.entries.now c.args.i c.args.j c.index-entries-i.result c.side_fits.result c.requires.table.0 (stands c.args.entries.now c.args.i c.index-entries-i.result c.requires.first c.index-entries-i.is) c.requires.sorts (ap sort_of c.in-Interface.is) (c.side_fits.ensures.fits o)

pub compared-returns-then-side_fits-clause-fits : goal.compared-returns-then-side_fits-clause-fits
compared-returns-then-side_fits-clause-fits t c = λ o.
    world_answer o c.args.entries.now c.args.i c.args.j c.index-entries-i.result c.side_fits-then-side_fits.result c.requires.table.0 (stands c.args.entries.now c.args.i c.index-entries-i.result c.requires.first c.index-entries-i.is) c.requires.sorts (ap sort_of c.in-World.is) (c.if-side_fits.ensures.fits o) (c.side_fits-then-side_fits.ensures.fits o)

pub compared-returns-else-side_fits-clause-fits : goal.compared-returns-else-side_fits-clause-fits
compared-returns-else-side_fits-clause-fits t c = λ o.
    world_refuses o c.args.entries.now c.args.i c.args.j c.index-entries-i.result c.requires.table.0 (stands c.args.entries.now c.args.i c.index-entries-i.result c.requires.first c.index-entries-i.is) c.requires.sorts (ap sort_of c.in-World.is) (c.if-side_fits.ensures.fits o)

pub entry_fits-returns-then-compared-clause-found : goal.entry_fits-returns-then-compared-clause-found
entry_fits-returns-then-compared-clause-found t c = c.add.ensures c.args.entries.now c.if-compared.ensures.found (λ o. sym (c.if-compared.ensures.fits o))

pub kind_fits-plain_fits-requires : goal.kind_fits-plain_fits-requires
kind_fits-plain_fits-requires t c =
    let p = c.in-Some-Some.is-0 in
    let q = c.in-Some-Some.is-1 in
    let isa : c.args.a ≡ Some c.in-Some-Some.a = cc in
    let isb : c.args.b ≡ Some c.in-Some-Some.b = cc in
    let both = above_both c.args.a c.args.b c.in-Some-Some.a c.in-Some-Some.b c.plain_kind-first.result c.plain_kind-second-in-Some-Some.result isa isb c.plain_kind-first.ensures.before c.plain_kind-second-in-Some-Some.ensures.before in
    (omega (arith, both), (c.requires.table, (c.plain_kind-first.ensures.named, (c.plain_kind-second-in-Some-Some.ensures.named, c.requires.found))))

pub parts_fit-returns-then-not-same_constructor-clause-fits : goal.parts_fit-returns-then-not-same_constructor-clause-fits
parts_fit-returns-then-not-same_constructor-clause-fits t c = λ o. same_entries (λ d e. false ≡ parts_fit (meaning_at o c.args.entries.now) d e) c.args.entries.now c.args.i c.args.j c.index-entries-i.result c.index-entries-j.result (stands c.args.entries.now c.args.i c.index-entries-i.result c.requires.first c.index-entries-i.is) (stands c.args.entries.now c.args.j c.index-entries-j.result c.requires.second c.index-entries-j.is)
    (constructors_differ (meaning_at o c.args.entries.now) c.index-entries-i.result c.index-entries-j.result (λ e. let f = c.if-not-same_constructor.ensures.1 e in cc))

pub parts_fit-returns-then-part_count-count-clause-fits : goal.parts_fit-returns-then-part_count-count-clause-fits
parts_fit-returns-then-part_count-count-clause-fits t c = λ o. same_entries (λ d e. false ≡ parts_fit (meaning_at o c.args.entries.now) d e) c.args.entries.now c.args.i c.args.j c.index-entries-i.result c.index-entries-j.result (stands c.args.entries.now c.args.i c.index-entries-i.result c.requires.first c.index-entries-i.is) (stands c.args.entries.now c.args.j c.index-entries-j.result c.requires.second c.index-entries-j.is)
    (rows_refuse (meaning_at o c.args.entries.now) c.index-entries-i.result c.index-entries-j.result (lengths_refuse (meaning_at o c.args.entries.now) (parts_of c.index-entries-i.result) (parts_of c.index-entries-j.result) (λ e. omega (arith, e))))

pub parts_fit-returns-then-not-same-clause-fits : goal.parts_fit-returns-then-not-same-clause-fits
parts_fit-returns-then-not-same-clause-fits t c = λ o. same_entries (λ d e. false ≡ parts_fit (meaning_at o c.args.entries.now) d e) c.args.entries.now c.args.i c.args.j c.index-entries-i.result c.index-entries-j.result (stands c.args.entries.now c.args.i c.index-entries-i.result c.requires.first c.index-entries-i.is) (stands c.args.entries.now c.args.j c.index-entries-j.result c.requires.second c.index-entries-j.is)
    (rows_refuse (meaning_at o c.args.entries.now) c.index-entries-i.result c.index-entries-j.result (slot_refuses (meaning_at o c.args.entries.now) (parts_of c.index-entries-i.result) (parts_of c.index-entries-j.result) c.loop-at.at (part_view c.in-Some-Some.c) (part_view c.in-Some-Some.d) (sym c.in-Some-Some.ensures) (sym c.in-Some-Some.ensures') (λ slot. let f = c.if-not-same.ensures.1 slot in cc) (c.loop-at.invariant.1 o)))

pub parts_fit-kind_fits-requires : goal.parts_fit-kind_fits-requires
parts_fit-kind_fits-requires t c =
    let given = part_below c.args.entries.now c.args.i c.index-entries-i.result c.loop-at.at (part_view c.in-Some-Some.c) c.value_kind-given.result c.requires.table (stands c.args.entries.now c.args.i c.index-entries-i.result c.requires.first c.index-entries-i.is) (sym c.in-Some-Some.ensures) c.value_kind-given.ensures in
    let expected = part_below c.args.entries.now c.args.j c.index-entries-j.result c.loop-at.at (part_view c.in-Some-Some.d) c.value_kind-expected.result c.requires.table (stands c.args.entries.now c.args.j c.index-entries-j.result c.requires.second c.index-entries-j.is) (sym c.in-Some-Some.ensures') c.value_kind-expected.ensures in
    (omega (arith, given.0, expected.0), (c.requires.table, (given.1, (expected.1, c.loop-at.invariant.0))))

pub parts_fit-returns-then-not-kind_fits-clause-fits : goal.parts_fit-returns-then-not-kind_fits-clause-fits
parts_fit-returns-then-not-kind_fits-clause-fits t c = λ o. same_entries (λ d e. false ≡ parts_fit (meaning_at o c.args.entries.now) d e) c.args.entries.now c.args.i c.args.j c.index-entries-i.result c.index-entries-j.result (stands c.args.entries.now c.args.i c.index-entries-i.result c.requires.first c.index-entries-i.is) (stands c.args.entries.now c.args.j c.index-entries-j.result c.requires.second c.index-entries-j.is)
    (rows_refuse (meaning_at o c.args.entries.now) c.index-entries-i.result c.index-entries-j.result (part_refuses (meaning_at o c.args.entries.now) (parts_of c.index-entries-i.result) (parts_of c.index-entries-j.result) c.loop-at.at (part_view c.in-Some-Some.c) (part_view c.in-Some-Some.d) (sym c.in-Some-Some.ensures) (sym c.in-Some-Some.ensures') (of_parts (meaning_at o c.args.entries.now) c.value_kind-given.result c.value_kind-expected.result (part_view c.in-Some-Some.c).1 (part_view c.in-Some-Some.d).1 false c.value_kind-given.ensures c.value_kind-expected.ensures (c.if-not-kind_fits.ensures.fits o)) (c.loop-at.invariant.1 o)))

pub parts_fit-returns-in_default-clause-fits : goal.parts_fit-returns-in_default-clause-fits
parts_fit-returns-in_default-clause-fits t c = absurd (none_within (parts_of c.index-entries-j.result) c.loop-at.at (sym c.in_default.ensures') (omega arith))

pub parts_fit-returns-in_default-2-clause-fits : goal.parts_fit-returns-in_default-2-clause-fits
parts_fit-returns-in_default-2-clause-fits t c = absurd (none_within (parts_of c.index-entries-i.result) c.loop-at.at (sym c.in_default.ensures) (omega arith))

pub parts_fit-loop-at-preserved : goal.parts_fit-loop-at-preserved
parts_fit-loop-at-preserved t c = (
  c.if-not-kind_fits.ensures.found,
  λ o. rest_fits_step (meaning_at o c.args.entries.now) (parts_of c.index-entries-i.result) (parts_of c.index-entries-j.result) c.loop-at.at (part_view c.in-Some-Some.c) (part_view c.in-Some-Some.d) (sym c.in-Some-Some.ensures) (sym c.in-Some-Some.ensures') (c.if-not-same.ensures.0 refl) (of_parts (meaning_at o c.args.entries.now) c.value_kind-given.result c.value_kind-expected.result (part_view c.in-Some-Some.c).1 (part_view c.in-Some-Some.d).1 true c.value_kind-given.ensures c.value_kind-expected.ensures (c.if-not-kind_fits.ensures.fits o)) (c.loop-at.invariant.1 o),
)

pub parts_fit-returns-clause-fits : goal.parts_fit-returns-clause-fits
parts_fit-returns-clause-fits t c = λ o. same_entries (λ d e. true ≡ parts_fit (meaning_at o c.args.entries.now) d e) c.args.entries.now c.args.i c.args.j c.index-entries-i.result c.index-entries-j.result (stands c.args.entries.now c.args.i c.index-entries-i.result c.requires.first c.index-entries-i.is) (stands c.args.entries.now c.args.j c.index-entries-j.result c.requires.second c.index-entries-j.is)
    (rows_fit (meaning_at o c.args.entries.now) c.index-entries-i.result c.index-entries-j.result (c.if-not-same_constructor.ensures.0 refl) (rest_fits_end (meaning_at o c.args.entries.now) (parts_of c.index-entries-i.result) (parts_of c.index-entries-j.result) c.loop-at.at (omega arith) (omega arith) (c.loop-at.invariant.1 o)))

pub plain_fits-returns-then-not-same_form-clause-fits : goal.plain_fits-returns-then-not-same_form-clause-fits
plain_fits-returns-then-not-same_form-clause-fits t c = λ o. forms_differ (meaning_at o c.args.entries.now) c.args.a c.args.b (λ e. let f = c.if-not-same_form.ensures.1 e in cc)

pub plain_fits-returns-in-None-None-clause-fits : goal.plain_fits-returns-in-None-None-clause-fits
plain_fits-returns-in-None-None-clause-fits t c =
    let first : None ≡ named_by c.args.a = cc in
    let second : None ≡ named_by c.args.b = cc in
    λ o. without_entries (meaning_at o c.args.entries.now) c.args.a c.args.b (c.if-not-same_form.ensures.0 refl) first second

pub plain_fits-returns-then-is_type-clause-fits : goal.plain_fits-returns-then-is_type-clause-fits
plain_fits-returns-then-is_type-clause-fits t c = λ o. types_fit (meaning_at o c.args.entries.now) c.args.a c.args.b c.in-Some-Some.i c.in-Some-Some.j c.entry_fits-then-is_type.result (c.if-not-same_form.ensures.0 refl) c.in-Some-Some.ensures c.in-Some-Some.ensures' (sym c.if-is_type.ensures) (sym (c.if-not-entry_fits.ensures.fits o)) (c.entry_fits-then-is_type.ensures.fits o)

pub plain_fits-returns-else-is_type-clause-fits : goal.plain_fits-returns-else-is_type-clause-fits
plain_fits-returns-else-is_type-clause-fits t c = λ o. items_fit (meaning_at o c.args.entries.now) c.args.a c.args.b c.in-Some-Some.i c.in-Some-Some.j (c.if-not-same_form.ensures.0 refl) c.in-Some-Some.ensures c.in-Some-Some.ensures' (sym c.if-is_type.ensures) (sym (c.if-not-entry_fits.ensures.fits o))

pub side_fits-returns-in-None-clause-fits : goal.side_fits-returns-in-None-clause-fits
side_fits-returns-in-None-clause-fits t c = λ o d e isd ise. sides_fit (meaning_at o c.args.entries.now) c.args.side (side_items c.args.side d) [] true d e refl
    (sym (ap (λ x. unwrap_or (option_map (λ m. by_name m.now.entries) x) []) c.in-None.is) ∙ c.items.ensures ∙ ap (side_items c.args.side) (one_entry c.args.entries.now c.args.expected c.index-entries-expected.result e (stands c.args.entries.now c.args.expected c.index-entries-expected.result c.requires.second c.index-entries-expected.is) ise)) refl

pub side_fits-returns-in-None-items-clause-fits : goal.side_fits-returns-in-None-items-clause-fits
side_fits-returns-in-None-items-clause-fits t c = λ o. same_entries (λ d e. IsSided d → IsSided e → c.is_empty.result ≡ side_fits (meaning_at o c.args.entries.now) c.args.side d e) c.args.entries.now c.args.given c.args.expected c.index-entries-given.result c.index-entries-expected.result (stands c.args.entries.now c.args.given c.index-entries-given.result c.requires.first c.index-entries-given.is) (stands c.args.entries.now c.args.expected c.index-entries-expected.result c.requires.second c.index-entries-expected.is)
    (sides_fit (meaning_at o c.args.entries.now) c.args.side [] (by_name c.in-Some.asked.now.entries) c.is_empty.result c.index-entries-given.result c.index-entries-expected.result (sym (ap (λ x. unwrap_or (option_map (λ m. by_name m.now.entries) x) []) c.in-None-items.is) ∙ c.items-2.ensures) (sym (ap (λ x. unwrap_or (option_map (λ m. by_name m.now.entries) x) []) c.in-Some.is) ∙ c.items.ensures)
    (nothing_given (meaning_at o c.args.entries.now) c.in-Some.asked.now.entries c.is_empty.result c.is_empty.ensures))

pub side_fits-returns-in-None-find-clause-fits : goal.side_fits-returns-in-None-find-clause-fits
side_fits-returns-in-None-find-clause-fits t c = λ o. same_entries (λ d e. IsSided d → IsSided e → false ≡ side_fits (meaning_at o c.args.entries.now) c.args.side d e) c.args.entries.now c.args.given c.args.expected c.index-entries-given.result c.index-entries-expected.result (stands c.args.entries.now c.args.given c.index-entries-given.result c.requires.first c.index-entries-given.is) (stands c.args.entries.now c.args.expected c.index-entries-expected.result c.requires.second c.index-entries-expected.is)
    (sides_fit (meaning_at o c.args.entries.now) c.args.side (by_name c.in-Some-items.offered.now.entries) (by_name c.in-Some.asked.now.entries) false c.index-entries-given.result c.index-entries-expected.result (sym (ap (λ x. unwrap_or (option_map (λ m. by_name m.now.entries) x) []) c.in-Some-items.is) ∙ c.items-2.ensures) (sym (ap (λ x. unwrap_or (option_map (λ m. by_name m.now.entries) x) []) c.in-Some.is) ∙ c.items.ensures)
    (sym (item_missing (meaning_at o c.args.entries.now) (by_name c.in-Some-items.offered.now.entries) (by_name c.in-Some.asked.now.entries) c.loop-at.at (string_bytes c.in-Some-get_index.name.now, c.in-Some-get_index.kind.now) (sym (mapped_at (λ e. (string_bytes e.0, e.1)) c.in-Some.asked.now.entries c.loop-at.at (Some (c.in-Some-get_index.name.now, c.in-Some-get_index.kind.now)) (c.in-Some-get_index.ensures.entry))) (sym c.in-None-find.is ∙ c.find.ensures ∙ ap (λ n. look_up n (by_name c.in-Some-items.offered.now.entries)) c.as_str.ensures.value) (c.loop-at.invariant.1 o))))

pub side_fits-kind_fits-requires : goal.side_fits-kind_fits-requires
side_fits-kind_fits-requires t c =
    let offer = offer_below c.args.entries.now c.args.given c.index-entries-given.result c.args.side (by_name c.in-Some-items.offered.now.entries) (string_bytes c.in-Some-get_index.name.now) c.in-Some-find.offer c.requires.table (stands c.args.entries.now c.args.given c.index-entries-given.result c.requires.first c.index-entries-given.is) (sym (ap (λ x. unwrap_or (option_map (λ m. by_name m.now.entries) x) []) c.in-Some-items.is) ∙ c.items-2.ensures) (sym c.in-Some-find.is ∙ c.find.ensures ∙ ap (λ n. look_up n (by_name c.in-Some-items.offered.now.entries)) c.as_str.ensures.value) in
    let asked = asked_below c.args.entries.now c.args.expected c.index-entries-expected.result c.args.side (by_name c.in-Some.asked.now.entries) c.loop-at.at (string_bytes c.in-Some-get_index.name.now, c.in-Some-get_index.kind.now) c.requires.table (stands c.args.entries.now c.args.expected c.index-entries-expected.result c.requires.second c.index-entries-expected.is) (sym (ap (λ x. unwrap_or (option_map (λ m. by_name m.now.entries) x) []) c.in-Some.is) ∙ c.items.ensures) (sym (mapped_at (λ e. (string_bytes e.0, e.1)) c.in-Some.asked.now.entries c.loop-at.at (Some (c.in-Some-get_index.name.now, c.in-Some-get_index.kind.now)) (c.in-Some-get_index.ensures.entry))) in
    (omega (arith, offer.0, asked.0), (c.requires.table, (offer.1, (asked.1, c.loop-at.invariant.0))))

pub side_fits-returns-then-not-kind_fits-clause-fits : goal.side_fits-returns-then-not-kind_fits-clause-fits
side_fits-returns-then-not-kind_fits-clause-fits t c = λ o. same_entries (λ d e. IsSided d → IsSided e → false ≡ side_fits (meaning_at o c.args.entries.now) c.args.side d e) c.args.entries.now c.args.given c.args.expected c.index-entries-given.result c.index-entries-expected.result (stands c.args.entries.now c.args.given c.index-entries-given.result c.requires.first c.index-entries-given.is) (stands c.args.entries.now c.args.expected c.index-entries-expected.result c.requires.second c.index-entries-expected.is)
    (sides_fit (meaning_at o c.args.entries.now) c.args.side (by_name c.in-Some-items.offered.now.entries) (by_name c.in-Some.asked.now.entries) false c.index-entries-given.result c.index-entries-expected.result (sym (ap (λ x. unwrap_or (option_map (λ m. by_name m.now.entries) x) []) c.in-Some-items.is) ∙ c.items-2.ensures) (sym (ap (λ x. unwrap_or (option_map (λ m. by_name m.now.entries) x) []) c.in-Some.is) ∙ c.items.ensures)
    (sym (item_unfit (meaning_at o c.args.entries.now) (by_name c.in-Some-items.offered.now.entries) (by_name c.in-Some.asked.now.entries) c.loop-at.at (string_bytes c.in-Some-get_index.name.now, c.in-Some-get_index.kind.now) c.in-Some-find.offer (sym (mapped_at (λ e. (string_bytes e.0, e.1)) c.in-Some.asked.now.entries c.loop-at.at (Some (c.in-Some-get_index.name.now, c.in-Some-get_index.kind.now)) (c.in-Some-get_index.ensures.entry))) (sym c.in-Some-find.is ∙ c.find.ensures ∙ ap (λ n. look_up n (by_name c.in-Some-items.offered.now.entries)) c.as_str.ensures.value) (c.if-not-kind_fits.ensures.fits o) (c.loop-at.invariant.1 o))))

pub side_fits-loop-at-preserved : goal.side_fits-loop-at-preserved
side_fits-loop-at-preserved t c = (
  c.if-not-kind_fits.ensures.found,
  λ o. rest_found_step (meaning_at o c.args.entries.now) (by_name c.in-Some-items.offered.now.entries) (by_name c.in-Some.asked.now.entries) c.loop-at.at (string_bytes c.in-Some-get_index.name.now, c.in-Some-get_index.kind.now) c.in-Some-find.offer (sym (mapped_at (λ e. (string_bytes e.0, e.1)) c.in-Some.asked.now.entries c.loop-at.at (Some (c.in-Some-get_index.name.now, c.in-Some-get_index.kind.now)) (c.in-Some-get_index.ensures.entry))) (sym c.in-Some-find.is ∙ c.find.ensures ∙ ap (λ n. look_up n (by_name c.in-Some-items.offered.now.entries)) c.as_str.ensures.value) (c.if-not-kind_fits.ensures.fits o) (c.loop-at.invariant.1 o),
)

pub side_fits-returns-clause-fits : goal.side_fits-returns-clause-fits
side_fits-returns-clause-fits t c = λ o. same_entries (λ d e. IsSided d → IsSided e → true ≡ side_fits (meaning_at o c.args.entries.now) c.args.side d e) c.args.entries.now c.args.given c.args.expected c.index-entries-given.result c.index-entries-expected.result (stands c.args.entries.now c.args.given c.index-entries-given.result c.requires.first c.index-entries-given.is) (stands c.args.entries.now c.args.expected c.index-entries-expected.result c.requires.second c.index-entries-expected.is)
    (sides_fit (meaning_at o c.args.entries.now) c.args.side (by_name c.in-Some-items.offered.now.entries) (by_name c.in-Some.asked.now.entries) true c.index-entries-given.result c.index-entries-expected.result (sym (ap (λ x. unwrap_or (option_map (λ m. by_name m.now.entries) x) []) c.in-Some-items.is) ∙ c.items-2.ensures) (sym (ap (λ x. unwrap_or (option_map (λ m. by_name m.now.entries) x) []) c.in-Some.is) ∙ c.items.ensures)
    (sym (rest_found_end (meaning_at o c.args.entries.now) (by_name c.in-Some-items.offered.now.entries) (by_name c.in-Some.asked.now.entries) c.loop-at.at (let l = named_length c.in-Some.asked.now.entries in omega (arith, l)) (c.loop-at.invariant.1 o))))

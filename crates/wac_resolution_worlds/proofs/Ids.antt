-- The id of an interface of a graph.
use Rattle.wac_resolution_worlds.proofs.Common.{◌≡◌, ◌∙◌, ℕ, List, [], Option, Some, None, sym, ap, slice_get, option_map, option_and_then, unwrap_or, string_bytes, InterfaceId, Entry, as_interface, id_of, Parts, entry_means, EntriesMean, origin_at, Numbering}
use Rattle.wac_graph_types.specs.declared.entry.Entry.TheVariants as entries
use Rattle.wac_graph_types.specs.declared.entry.Interface.{Interface}
use Rattle.wac_graph_types.proofs.Parts as parts

interface_entry_is : (o : Option Entry) (i : Interface) → option_and_then as_interface o ≡ Some i → o ≡ Some (entries.Interface i)
interface_entry_is None i h = absurd (cc)
interface_entry_is (Some (entries.Defined d)) i h = absurd (cc)
interface_entry_is (Some (entries.Resource r)) i h = absurd (cc)
interface_entry_is (Some (entries.Func f)) i h = absurd (cc)
interface_entry_is (Some (entries.Interface j)) i h = cc
interface_entry_is (Some (entries.World w)) i h = absurd (cc)

pub id_is : (g : Parts) (i : InterfaceId) (x : Interface) (text : List ℕ) → EntriesMean g → Some x ≡ option_and_then as_interface (slice_get g.types i.0) → text ≡ unwrap_or (option_map string_bytes x.id) [] → (numbering : Numbering) → text ≡ unwrap_or (id_of (entry_means numbering g i.0)) []
id_is g i x text mean read is numbering =
    let at : slice_get g.types i.0 ≡ Some (entries.Interface x) = interface_entry_is (slice_get g.types i.0) x (sym read) in
    is ∙ sym (ap (λ (o : Option (List ℕ)). unwrap_or o []) (parts.interface_id (entry_means numbering g) (entry_means numbering g i.0) (numbering (origin_at g i.0)) x (mean numbering i.0 (entries.Interface x) at)))

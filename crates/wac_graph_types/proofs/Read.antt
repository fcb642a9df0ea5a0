-- An entry of a table read as one of its sort.
use Rattle.wac_graph_types.proofs.Common.{◌≡◌, ◌∙◌, ◌<◌, ◌≤◌, ℕ, List, Option, None, length, get_or, refl, sym, ap, slice_get, option_and_then, slice_get_past}
use Rattle.wac_graph_types.specs.declared.entry.Entry.{Entry}
use Rattle.wac_graph_types.specs.declared.entry.Entry.TheVariants as entries
use Rattle.wac_graph_types.specs.declared.entry.DefinedType.{DefinedType}
use Rattle.wac_graph_types.specs.declared.entry.Resource.{Resource}
use Rattle.wac_graph_types.specs.declared.entry.FuncType.{FuncType}
use Rattle.wac_graph_types.specs.declared.entry.Interface.{Interface}
use Rattle.wac_graph_types.specs.declared.entry.World.{World}
use Rattle.wac_graph_types.specs.Readings.{as_defined, as_resource, as_func, as_interface, as_world}
use Rattle.wac_graph_types.proofs.Rows.{stands}

pub read_at : {Y : Type 0} (f : Entry → Option Y) (es : List Entry) (n : ℕ) (e : Entry) (o : Option Y)
    → n < length es → e ≡ get_or es n e → f e ≡ o → o ≡ option_and_then f (slice_get es n)
read_at f es n e o within read is = sym (ap (option_and_then f) (stands es n e within read) ∙ is)

pub read_past : {Y : Type 0} (f : Entry → Option Y) (es : List Entry) (n : ℕ) → length es ≤ n → None ≡ option_and_then f (slice_get es n)
read_past f es n past = sym (ap (option_and_then f) (slice_get_past es n past))

-- an entry of another sort is read as nothing
pub no_defined : (e : Entry) → ((d : DefinedType) → e ≡ entries.Defined d → ⊥) → as_defined e ≡ None
no_defined (entries.Defined d) other = absurd (other d refl)
no_defined (entries.Resource r) other = refl
no_defined (entries.Func f) other = refl
no_defined (entries.Interface i) other = refl
no_defined (entries.World w) other = refl

pub no_resource : (e : Entry) → ((r : Resource) → e ≡ entries.Resource r → ⊥) → as_resource e ≡ None
no_resource (entries.Defined d) other = refl
no_resource (entries.Resource r) other = absurd (other r refl)
no_resource (entries.Func f) other = refl
no_resource (entries.Interface i) other = refl
no_resource (entries.World w) other = refl

pub no_func : (e : Entry) → ((f : FuncType) → e ≡ entries.Func f → ⊥) → as_func e ≡ None
no_func (entries.Defined d) other = refl
no_func (entries.Resource r) other = refl
no_func (entries.Func f) other = absurd (other f refl)
no_func (entries.Interface i) other = refl
no_func (entries.World w) other = refl

pub no_interface : (e : Entry) → ((i : Interface) → e ≡ entries.Interface i → ⊥) → as_interface e ≡ None
no_interface (entries.Defined d) other = refl
no_interface (entries.Resource r) other = refl
no_interface (entries.Func f) other = refl
no_interface (entries.Interface i) other = absurd (other i refl)
no_interface (entries.World w) other = refl

pub no_world : (e : Entry) → ((w : World) → e ≡ entries.World w → ⊥) → as_world e ≡ None
no_world (entries.Defined d) other = refl
no_world (entries.Resource r) other = refl
no_world (entries.Func f) other = refl
no_world (entries.Interface i) other = refl
no_world (entries.World w) other = absurd (other w refl)

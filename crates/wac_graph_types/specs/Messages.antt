-- What messages say of the faults of packages.
use Rattle.std.specs.Prelude.{ℕ, List, codes}
use Rattle.wac_graph_types.specs.declared.package.PackageError.{PackageError}
use Rattle.wac_graph_types.specs.declared.package.PackageError.TheVariants as errors

abbrev pub text_of : PackageError → List ℕ
text_of errors.OutOfRange = codes "id out of range"
text_of errors.OtherSort = codes "id of another sort"
text_of errors.NotEarlier = codes "id is not earlier"
text_of errors.NoInterfaceId = codes "interface type without an id"
text_of errors.InstanceExports = codes "instance exports differ from the exports of the world"
text_of (errors.Memory refused) = codes "out of memory"

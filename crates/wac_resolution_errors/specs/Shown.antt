-- The text that a `Message` denotes.
use Rattle.std.specs.Prelude.{ℕ, List, ◌++◌, codes, string_bytes}
use Rattle.wac_resolution_errors.specs.declared.message.Message.{Message}
use Rattle.wac_resolution_errors.specs.declared.message.Message.TheVariants as messages
use Rattle.wac_resolution_errors.specs.Messages.{operation_word}
use Rattle.wac_resolution_errors.specs.Shapes.{quoted, pair, kinded, kinded_within, part_of_function, missing_export, world_item, include_conflict, export_conflict, extern_name, invalid_name, use_conflict, target_mismatch}
use Rattle.wac_resolution_errors.specs.ErrorModel.{operation_of}

abbrev pub shown : Message → List ℕ
shown (messages.Plain text) = text.now
shown (messages.Quoted before name after) = quoted before.now (string_bytes name.now) after.now
shown (messages.Pair before first between second) = pair before.now (string_bytes first.now) between.now (string_bytes second.now)
shown (messages.Kinded name kind fault) = kinded (string_bytes name.now) kind.now fault.now
shown (messages.KindedWithin name kind fault second) = kinded_within (string_bytes name.now) kind.now fault.now (string_bytes second.now)
shown (messages.PartOfFunction kind part name) = part_of_function kind part.now (string_bytes name.now)
shown (messages.MissingExport kind path component export) = missing_export kind.now (string_bytes path.now) (string_bytes component.now) (string_bytes export.now)
shown (messages.WorldItem kind name world) = world_item kind (string_bytes name.now) (string_bytes world.now)
shown (messages.IncludeConflict kind name from to) = include_conflict kind (string_bytes name.now) (string_bytes from.now) (string_bytes to.now)
shown (messages.ExportConflict name kind) = export_conflict (string_bytes name.now) kind.now
shown (messages.ExternName kind name) = extern_name kind (string_bytes name.now)
shown (messages.InvalidName kind name) = invalid_name kind (string_bytes name.now)
shown (messages.UseConflict kind name) = use_conflict kind (string_bytes name.now)
shown (messages.TargetMismatch kind name world) = target_mismatch kind (string_bytes name.now) (string_bytes world.now)
shown (messages.InstanceRequired operation) = codes "an instance is required to perform " ++ operation_word (operation_of operation)

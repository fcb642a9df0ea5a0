-- The words of other crates that proofs of this crate cite, given on from one place. It declares nothing.
pub use Rattle.std.proofs.Common.{List, [], ap, append-nil, append_assoc, arith, get_or, inl, inr, length, refl, string_bytes, subst, sym, take, ℕ, ◌++◌, ◌+◌, ◌<◌, ◌∙◌, ◌∷◌, ◌≡◌, ◌≢◌}
pub use Rattle.std.proofs.lemmas.List.{take_all, take_more}
pub use Rattle.std.specs.Prelude.{Err, IfOk, MatchOption, None, Ok, Option, Result, Some, String, Vec, false, true}
pub use Rattle.std.specs.declared.alloc.Global.{Global}
pub use Rattle.wac_cli_console.specs.Outcomes.{IsFailure, failure_of}
pub use Rattle.wac_cli_console.specs.declared.outcome.Outcome.{Outcome}
pub use Rattle.wac_cli_console.specs.declared.outcome.Outcome.TheVariants.{Failed, Good, OutOfMemory, Rejected, Unresolved, Untidy}
pub use Rattle.wac_files.specs.Replacements.{Replacement}
pub use Rattle.wac_files.specs.declared.error.FileError.{FileError}
pub use Rattle.wac_files.specs.declared.walk.Found.{Found}

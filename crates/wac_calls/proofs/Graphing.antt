-- What holds of a graph that is shown, or of the error in its place.
use Rattle.std.proofs.Common.{ℕ, List, Ok, Err}
use Rattle.std.specs.Prelude.{Result, IfOk, IfErr}
use Rattle.wac_calls.specs.Graphs.{IsDocument, IsErrorOf, IsErrorOfDocument}
use Rattle.wac_calls.specs.declared.error.GraphError.{GraphError}
use Rattle.wac_calls.specs.declared.error.GraphError.TheVariants.{Parse, Resolution, Package, Component, Memory}

-- what holds anyhow holds where a graph is shown
pub on_ok : {A E : Type 0} {P : Type 0} (r : Result A E) → P → IfOk r (λ _. P)
on_ok (Ok a) holds = holds
on_ok (Err e) holds = tt

-- an error of another kind than of parsing is one of a document's text
pub on_err : {A : Type 0} (source : List ℕ) (r : Result A GraphError) → IsDocument source → IfErr r IsErrorOfDocument → IfErr r (λ e. IsErrorOf source e)
on_err source (Ok a) is known = tt
on_err source (Err (Parse e)) is known = absurd known
on_err source (Err (Resolution e)) is known = is
on_err source (Err (Package fault)) is known = is
on_err source (Err (Component fault)) is known = is
on_err source (Err (Memory e)) is known = tt

-- What is said of a result, said in other words.
use Rattle.wac_resolution_statements.proofs.Common.{Result, Ok, Err, OnOk, IfErr}

pub on_ok : {T E : Type 0} (P Q : Type 0) (r : Result T E) → (P → Q) → OnOk r P → OnOk r Q
on_ok P Q (Ok x) to h = to h
on_ok P Q (Err e) to h = tt

pub if_err : {T E : Type 0} (P Q : E → Type 0) (r : Result T E) → ((e : E) → P e → Q e) → IfErr r P → IfErr r Q
if_err P Q (Ok x) to h = tt
if_err P Q (Err e) to h = to e h

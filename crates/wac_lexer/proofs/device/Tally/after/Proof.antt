-- The ghost fields of the tally that is made are chosen here. Assumes `Logic`.
use Rattle.wac_lexer.proofs.Common.{List, [], ◌∷◌, refl}
use Rattle.std.proofs.raw_atomic.Walks.{proved}
use mir.Syntax.{named}
use mir.Val.{Val, vstruct, vnil}
use types.Kit.{‵, raw, ◌⊛◌, ◌$◌, ◌∵◌, !, qed, move, keep, split, fjoin, fpack, feq_i, suffices, done}
use types.Part.{agg}
use types.Run.{enter, returns, no_more}
use types.ByLocal.{alloc_all, pass_all, free_all, look_at, sets}
use denote.Builtin.{RefOf}
use denote.Exit.{yes}
use denote.RattleType.{owns, Valss}
use denote.Ref.{shr_vals, shr_Tells}
use denote.Signature.{Slot, plain, named_lft, types_at}
use denote.Steps.{nothing}
use denote.Struct.Struct.{Shape, within}
use denote.Triple.Entry.{alive}
use denote.Triple.Walked.{Stays, says, stay_dropped, Goes-dropped, walk_of, ends_at}
use Rattle.wac_lexer.specs.Tally.{moved_by, failures_by}
use Rattle.wac_lexer.specs.contracts.device.Step.{the_row as Step}
use Rattle.wac_lexer.specs.contracts.device.Tally.{the_row as Tally}
use Rattle.wac_lexer.specs.contracts.device.Tally.after as f
use Rattle.wac_lexer.proofs.device.Tally.after.Statement.{statement}
use Rattle.wac_lexer.proofs.device.Tally.after.Code as code

abbrev empty : Val
empty = vstruct vnil

abbrev fieldless : Shape
fieldless = record { name = []; args = []; types = []; fields = [] }

abbrev step : Slot 2
step = RefOf (0 ∷ []) tt (plain (λ κs. Step (named_lft 2 1 tt κs))) (λ _. tt)

abbrev stayed : Stays f.ended.signature.params f.ended.kept
stayed = (stay_dropped step yes, tt)

pub after_spec : {M : Type 1} → statement M
after_spec 𝓤 𝓛 𝓜 𝓡 wired =
    let c = f.clauses 𝓛 𝓜.mem 𝓡.returns in let W = walk_of 𝓛 f.ended stayed c in
    proved 𝓛 f.ended stayed c 𝓜 𝓡 (Goes-dropped 𝓛 2 step yes (λ κs x w. refl), tt)
    f.Key.name code.function (code.unfolded 𝓤 𝓛.H 𝓜 𝓡 wired)
    (λ κs. (shr_vals, tt)) (λ κs. (shr_Tells (named 0) κs.0 (Step (named_lft 2 1 tt κs)), tt)) (λ κs qs bounds a g are.
    let y : W.Ghost = ((κs, qs, bounds, a, (shr_vals a.0, tt)), g) in
    let tally : Tally.Denot = record { moved = moved_by a.0.now; failures = failures_by a.0.now } in
    qed 𝓛 ((raw (alive 𝓛 f.signature κs qs) ⊛ ‵ (owns (types_at f.signature.params κs) a y.0.4)) ∷ raw ((c κs a).requires g) ∷ []) ∵
    keep ! (0 ∷ []) $ split ! $ keep ! (0 ∷ []) $ enter ! _ _ _ _ _ $ alloc_all ! (λ l. pass_all ! refl ((tt, tt), tt) $
    sets ! (agg ! (no_more !)) refl (tt, tt) $
    -- a struct without fields at run time owns nothing
    nothing ! $ nothing ! $ feq_i ! (List Val) (empty ∷ []) (empty ∷ []) refl $ fjoin ! $ fpack ! (Valss []) (within fieldless tt (empty ∷ [])) tt $ fjoin ! $
    returns ! (look_at ! 0 refl) $ free_all ! refl $
    suffices ! _ (ends_at 𝓛 f.ended stayed c y empty tally (tt, tt) (tt, tt)) $ says ! (refl, refl) $
    nothing ! $ nothing ! $ fjoin ! $ move ! (2 ∷ 0 ∷ 1 ∷ []) $ done !))

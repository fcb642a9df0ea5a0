-- What a type means, by what its parts mean.
use Rattle.wac_resolution_types.proofs.Common.{◌≡◌, ◌∙◌, ◌+◌, ◌<◌, ℕ, zero, suc, List, [], ◌∷◌, ◌++◌, Option, refl, sym, ap, subst, map, inl, inr, take, drop, length, get_or, arith, take_more, map_push, Vec, Box, Global, Ty, Types, OptionalTy, types_from, ItemKind, ValueType, Entry, optional, tuple_children, Plain, Meaning, EachKind, Named, Scope, types_mean, optional_means, defined_value, Names, ItemsNamed, Parts, means, entry_means, Numbering, ty_of, optional_of, Error, HasType, HasOptional, HaveTypes, TypeBroken, OptionalBroken, TypesBroken, Grows, AddsDefined, scope_of, ValueIs, grows_self, plainly_on, scope_kept, child_kept, each_still_named}
use Rattle.wac_lexer.specs.Span.{Span}
use Rattle.wac_ast_grammar.specs.Tree as tree
use Rattle.wac_graph_types.specs.declared.kind.ItemKind.TheVariants as kinds
use Rattle.wac_graph_types.specs.declared.entry.DefinedType.TheVariants as defined
use Rattle.wac_graph_types.specs.Shape.{result_children}
use Rattle.wac_ast_types.proofs.TypeParts.{tuple_is as tuple_tree, result_is as result_tree, stream_is as stream_tree, future_is as future_tree}
use Rattle.wac_ast_types.specs.declared.types.Type as code
use Rattle.wac_ast_types.specs.declared.types.«Type».{«Type»}
use Rattle.wac_resolution_types.specs.Types.{TypeIs, OptionalIs, TypesAre}

-- the type of the tree is that of the value
pub as_ty : (old new : Parts) (ks : Named ItemKind) (v : ValueType) (x : «Type») (t : Ty) → ty_of x ≡ t → TypeIs old new ks t v → TypeIs old new ks (ty_of x) v
as_ty old new ks v x t e h = subst (λ (u : Ty). TypeIs old new ks u v) (sym e) h

-- nothing was added
pub value_type_is : (g : Parts) (ks : Named ItemKind) (t : Ty) (v : ValueType) → ItemsNamed g.types ks → ValueIs ks t v → TypeIs g g ks t v
value_type_is g ks t v named h = record { grows = grows_self g; named = h.named g.types named; is = λ numbering. h.is numbering g }

pub tuple_is : (old mid new : Parts) (ks : Named ItemKind) (ts : Types) (s : Span) (vs : Vec ValueType Global) (v : ValueType)
    → TypesAre old mid ks ts vs.items → AddsDefined mid new (defined.Tuple vs) v → TypeIs old new ks (Ty.tuple ts s) v
tuple_is old mid new ks ts s vs v h a = record {
  grows = plainly_on old mid new h.grows a.grows;
  named = a.named;
  is = λ numbering. (types_mean (entry_means numbering mid) vs.items, h.are numbering, a.is numbering);
}

pub result_is : (old first second new : Parts) (ks : Named ItemKind) (t u : OptionalTy) (s : Span) (x y : Option ValueType) (v : ValueType)
    → ItemsNamed old.types ks → OptionalIs old first ks t x → OptionalIs first second ks u y → AddsDefined second new (defined.Result x y) v → TypeIs old new ks (Ty.result t u s) v
result_is old first second new ks t u s x y v named p q a = record {
  grows = plainly_on old first new p.grows (plainly_on first second new q.grows a.grows);
  named = a.named;
  is = λ numbering.
      let scope : scope_of numbering first ks ≡ scope_of numbering old ks = scope_kept old first ks numbering p.grows.grows named in
      let kept : optional_means (entry_means numbering second) x ≡ optional_means (entry_means numbering first) x = child_kept first second (optional x) numbering q.grows.grows p.named in (
        optional_means (entry_means numbering first) x,
        optional_means (entry_means numbering second) y,
        p.is numbering,
        subst (λ (sc : Scope). HasOptional sc u (optional_means (entry_means numbering second) y)) scope (q.is numbering),
        a.is numbering ∙ ap (λ (m : Meaning). defined_value Plain.result (result_children m (optional_means (entry_means numbering second) y))) kept,
      );
}

pub no_types : (g : Parts) (ks : Named ItemKind) → TypesAre g g ks tree.Types.none []
no_types g ks = record { grows = grows_self g; named = tt; are = λ numbering. refl }

-- one more type
more_types : (scope : Scope) (ts : List Ty) (ms : List Meaning) (t : Ty) (m : Meaning) → HaveTypes scope (types_from ts) ms → HasType scope t m → HaveTypes scope (types_from (ts ++ t ∷ [])) (ms ++ m ∷ [])
more_types scope [] ms t m h is = (m, [], is, refl, ap (λ (l : List Meaning). l ++ m ∷ []) h)
more_types scope (u ∷ ts) ms t m h is = (h.0, h.1 ++ m ∷ [], h.2, more_types scope ts h.1 t m h.3 is, ap (λ (l : List Meaning). l ++ m ∷ []) h.4)

more_named : (es : List Entry) (vs : List ValueType) (v : ValueType) → EachKind (Names es) (tuple_children vs) → Names es (kinds.Value v) → EachKind (Names es) (tuple_children (vs ++ v ∷ []))
more_named es [] v h here = (here, tt)
more_named es (w ∷ vs) v h here = (h.0, more_named es vs v h.1 here)

types_kept : (old new : Parts) (vs : List ValueType) (numbering : Numbering) → Grows old new → EachKind (Names old.types) (tuple_children vs) → types_mean (entry_means numbering new) vs ≡ types_mean (entry_means numbering old) vs
types_kept old new [] numbering g h = refl
types_kept old new (v ∷ vs) numbering g h =
    let one : means numbering new (kinds.Value v) ≡ means numbering old (kinds.Value v) = g.kinds numbering (kinds.Value v) h.0 in
    let rest : types_mean (entry_means numbering new) vs ≡ types_mean (entry_means numbering old) vs = types_kept old new vs numbering g h.1 in
    cc

types_more : (old mid new : Parts) (ks : Named ItemKind) (ts : List Ty) (vs : List ValueType) (t : Ty) (v : ValueType)
    → ItemsNamed old.types ks → TypesAre old mid ks (types_from ts) vs → TypeIs mid new ks t v → TypesAre old new ks (types_from (ts ++ t ∷ [])) (vs ++ v ∷ [])
types_more old mid new ks ts vs t v named p q = record {
  grows = plainly_on old mid new p.grows q.grows;
  named = more_named new.types vs v (each_still_named mid new (tuple_children vs) q.grows.grows p.named) q.named;
  are = λ numbering.
      let f : ℕ → Meaning = entry_means numbering new in
      let scope : scope_of numbering mid ks ≡ scope_of numbering old ks = scope_kept old mid ks numbering p.grows.grows named in
      let kept : types_mean f vs ≡ types_mean (entry_means numbering mid) vs = types_kept mid new vs numbering q.grows.grows p.named in
      subst (HaveTypes (scope_of numbering old ks) (types_from (ts ++ t ∷ []))) (sym (map_push (λ w. means numbering new (kinds.Value w)) vs v ∙ ap (λ (l : List Meaning). l ++ means numbering new (kinds.Value v) ∷ []) kept))
      (more_types (scope_of numbering old ks) ts (types_mean (entry_means numbering mid) vs) t (means numbering new (kinds.Value v)) (p.are numbering) (subst (λ (sc : Scope). HasType sc t (means numbering new (kinds.Value v))) scope (q.is numbering)));
}

-- the types up to the next one
pub types_step : (old mid new : Parts) (ks : Named ItemKind) (xs : List «Type») (i : ℕ) (x : «Type») (vs ws : List ValueType) (v : ValueType)
    → i < length xs → x ≡ get_or xs i x → ws ≡ vs ++ v ∷ []
    → ItemsNamed old.types ks → TypesAre old mid ks (types_from (map ty_of (take i xs))) vs → TypeIs mid new ks (ty_of x) v → TypesAre old new ks (types_from (map ty_of (take (i + 1) xs))) ws
types_step old mid new ks xs i x vs ws v within read pushed named p q =
    let at : map ty_of (take (i + 1) xs) ≡ map ty_of (take i xs) ++ ty_of x ∷ []
    = ap (map ty_of) (take_more xs i x within ∙ ap (λ (y : «Type»). take i xs ++ y ∷ []) (sym read)) ∙ map_push ty_of (take i xs) x in
    subst (λ (l : List Ty). TypesAre old new ks (types_from l) ws) (sym at)
    (subst (TypesAre old new ks (types_from (map ty_of (take i xs) ++ ty_of x ∷ []))) (sym pushed) (types_more old mid new ks (map ty_of (take i xs)) vs (ty_of x) v named p q))

-- one of them is broken
breaks_later : (scope : Scope) (ts us : List Ty) (t : Ty) (ms : List Meaning) (e : Error) → HaveTypes scope (types_from ts) ms → TypeBroken scope t e → TypesBroken scope (types_from (ts ++ t ∷ us)) e
breaks_later scope [] us t ms e h b = inl b
breaks_later scope (x ∷ ts) us t ms e h b = inr (h.0, h.2, breaks_later scope ts us t h.1 e h.3 b)

split_at : (xs : List «Type») (i : ℕ) (x : «Type») → i < length xs → x ≡ get_or xs i x → map ty_of xs ≡ map ty_of (take i xs) ++ (ty_of x ∷ map ty_of (drop (suc i) xs))
split_at [] i x h is = absurd (omega arith)
split_at (y ∷ xs) zero x h is = ap (λ (z : «Type»). ty_of z ∷ map ty_of xs) (sym is)
split_at (y ∷ xs) (suc i) x h is = ap (λ (l : List Ty). ty_of y ∷ l) (split_at xs i x (omega arith) is)

pub types_break : (old mid : Parts) (ks : Named ItemKind) (xs : List «Type») (i : ℕ) (x : «Type») (vs : List ValueType) (e : Error)
    → i < length xs → x ≡ get_or xs i x → ItemsNamed old.types ks → TypesAre old mid ks (types_from (map ty_of (take i xs))) vs
    → ((numbering : Numbering) → TypeBroken (scope_of numbering mid ks) (ty_of x) e)
    → (numbering : Numbering) → TypesBroken (scope_of numbering old ks) (types_from (map ty_of xs)) e
types_break old mid ks xs i x vs e within read named p b numbering =
    let scope : scope_of numbering mid ks ≡ scope_of numbering old ks = scope_kept old mid ks numbering p.grows.grows named in
    subst (λ (l : List Ty). TypesBroken (scope_of numbering old ks) (types_from l) e) (sym (split_at xs i x within read))
    (breaks_later (scope_of numbering old ks) (map ty_of (take i xs)) (map ty_of (drop (suc i) xs)) (ty_of x) (types_mean (entry_means numbering mid) vs) e (p.are numbering)
    (subst (λ (sc : Scope). TypeBroken sc (ty_of x) e) scope (b numbering)))

-- ---- by the code's trees

pub tuple_type_is : (old mid new : Parts) (ks : Named ItemKind) (x : «Type») (xs : Vec «Type» Global) (s : Span) (ys : List «Type») (vs : Vec ValueType Global) (v : ValueType)
    → x ≡ code.Tuple xs s → ys ≡ xs.items → TypesAre old mid ks (types_from (map ty_of ys)) vs.items → AddsDefined mid new (defined.Tuple vs) v → TypeIs old new ks (ty_of x) v
tuple_type_is old mid new ks x xs s ys vs v is same h a =
    as_ty old new ks v x (Ty.tuple (types_from (map ty_of xs.items)) s) (ap ty_of is ∙ tuple_tree xs s)
    (tuple_is old mid new ks (types_from (map ty_of xs.items)) s vs v (subst (λ (l : List «Type»). TypesAre old mid ks (types_from (map ty_of l)) vs.items) same h) a)

pub tuple_breaks : (g : Parts) (ks : Named ItemKind) (x : «Type») (xs : Vec «Type» Global) (s : Span) (ys : List «Type») (e : Error)
    → x ≡ code.Tuple xs s → ys ≡ xs.items → ((numbering : Numbering) → TypesBroken (scope_of numbering g ks) (types_from (map ty_of ys)) e) → (numbering : Numbering) → TypeBroken (scope_of numbering g ks) (ty_of x) e
tuple_breaks g ks x xs s ys e is same h numbering =
    subst (λ (t : Ty). TypeBroken (scope_of numbering g ks) t e) (sym (ap ty_of is ∙ tuple_tree xs s))
    (subst (λ (l : List «Type»). TypesBroken (scope_of numbering g ks) (types_from (map ty_of l)) e) same (h numbering))

pub result_type_is : (old first second new : Parts) (ks : Named ItemKind) (x : «Type») (o u : Option (Box «Type» Global)) (s : Span) (v w : Option ValueType) (z : ValueType)
    → x ≡ code.Result o u s → ItemsNamed old.types ks → OptionalIs old first ks (optional_of o) v → OptionalIs first second ks (optional_of u) w → AddsDefined second new (defined.Result v w) z → TypeIs old new ks (ty_of x) z
result_type_is old first second new ks x o u s v w z is named p q a =
    as_ty old new ks z x (Ty.result (optional_of o) (optional_of u) s) (ap ty_of is ∙ result_tree o u s)
    (result_is old first second new ks (optional_of o) (optional_of u) s v w z named p q a)

pub result_breaks : (g : Parts) (ks : Named ItemKind) (x : «Type») (o u : Option (Box «Type» Global)) (s : Span) (e : Error)
    → x ≡ code.Result o u s → ((numbering : Numbering) → OptionalBroken (scope_of numbering g ks) (optional_of o) e) → (numbering : Numbering) → TypeBroken (scope_of numbering g ks) (ty_of x) e
result_breaks g ks x o u s e is h numbering =
    subst (λ (t : Ty). TypeBroken (scope_of numbering g ks) t e) (sym (ap ty_of is ∙ result_tree o u s)) (inl (h numbering))

pub result_breaks_later : (old mid : Parts) (ks : Named ItemKind) (x : «Type») (o u : Option (Box «Type» Global)) (s : Span) (v : Option ValueType) (e : Error)
    → x ≡ code.Result o u s → ItemsNamed old.types ks → OptionalIs old mid ks (optional_of o) v → ((numbering : Numbering) → OptionalBroken (scope_of numbering mid ks) (optional_of u) e)
    → (numbering : Numbering) → TypeBroken (scope_of numbering old ks) (ty_of x) e
result_breaks_later old mid ks x o u s v e is named p h numbering =
    let scope : scope_of numbering mid ks ≡ scope_of numbering old ks = scope_kept old mid ks numbering p.grows.grows named in
    subst (λ (t : Ty). TypeBroken (scope_of numbering old ks) t e) (sym (ap ty_of is ∙ result_tree o u s))
    (inr (optional_means (entry_means numbering mid) v, p.is numbering, subst (λ (sc : Scope). OptionalBroken sc (optional_of u) e) scope (h numbering)))

pub stream_breaks : (g : Parts) (ks : Named ItemKind) (x : «Type») (o : Option (Box «Type» Global)) (s : Span) (e : Error)
    → x ≡ code.Stream o s → ((numbering : Numbering) → OptionalBroken (scope_of numbering g ks) (optional_of o) e) → (numbering : Numbering) → TypeBroken (scope_of numbering g ks) (ty_of x) e
stream_breaks g ks x o s e is h numbering = subst (λ (t : Ty). TypeBroken (scope_of numbering g ks) t e) (sym (ap ty_of is ∙ stream_tree o s)) (h numbering)

pub future_breaks : (g : Parts) (ks : Named ItemKind) (x : «Type») (o : Option (Box «Type» Global)) (s : Span) (e : Error)
    → x ≡ code.Future o s → ((numbering : Numbering) → OptionalBroken (scope_of numbering g ks) (optional_of o) e) → (numbering : Numbering) → TypeBroken (scope_of numbering g ks) (ty_of x) e
future_breaks g ks x o s e is h numbering = subst (λ (t : Ty). TypeBroken (scope_of numbering g ks) t e) (sym (ap ty_of is ∙ future_tree o s)) (h numbering)

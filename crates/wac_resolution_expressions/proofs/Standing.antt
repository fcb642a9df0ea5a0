-- What expressions denote, and the rules that they break.
use Rattle.wac_resolution_expressions.proofs.Common.{◌≡◌, ◌∙◌, ◌+◌, ◌-◌, ◌<◌, ◌≤◌, ℕ, suc, List, [], ◌∷◌, Bool, false, inl, inr, Result, refl, sym, ap, subst, map, take, drop, length, get_or, arith, rules, IfErr, IsSome, nat_eq, AllByRecursion, length-map, get_or-map, length-drop, IfErr-weaker, Span, Ident, PackageName, PostfixExpr, Expr, PrimaryExpr, Arguments, InstantiationArgumentName, arguments_from, argument_name_span, WorldId, Meaning, Named, look_up, IsFresh, Steps, Fails, Names, argument_of, NodeId, Parts, Numbering, IsOneToOne, Key, HeldPackage, Contents, contents_in, Error, error_model, AccessBroken, ArgumentBroken, ArgumentsBroken, IsFillNotLast, IsGivenAlready, IsUnknownPackage, own_places, Composition, at, Accesses, nothing_given, given_too, Gives, GivesOne, name_meant, has_fill, Instantiates, IsEmpty, Spreads, spreads_of, Given, Rules, imports_in, Root, AccessSteps, composition_of, NodesStand, numbers_of, Agrees, NodeIs, Context, AllSupplied, packages_in, context_of, fresh_read}
use Rattle.wac_ast_grammar.specs.Tree.{InstantiationArgument}
use Rattle.wac_ast_grammar.specs.Grammar.{primary_span}
use Rattle.wac_graph_types.specs.declared.kind.ItemKind.TheVariants as kinds
use Rattle.wac_ast_statements.specs.declared.expr.InstantiationArgument.{InstantiationArgument as CodeArgument}
use Rattle.wac_resolution_errors.specs.declared.error.Error.{Error as CodeError}
use Rattle.wac_resolution_expressions.specs.Arguments.{given_nodes}
use Rattle.wac_resolution_expressions.specs.GivenByNodes.{Gave}
use Rattle.wac_resolution_expressions.specs.Spreads.{giving_of, imports_at, GivenThere}
use Rattle.wac_resolution_expressions.specs.declared.packages.Loaded.{Loaded}
use Rattle.wac_resolution_expressions.specs.Completing.{Completes, FailsToComplete}
use Rattle.wac_resolution_expressions.specs.Giving.{is_none, GivesFor, IsGivenFor, GivesOn, ArgumentStep, ArgumentBreaks, ArgumentSteps, ArgumentsBreak}
use Rattle.wac_resolution_expressions.specs.Growth.{Extends, given_in, ExprStep, ExprBreaks}
use Rattle.wac_resolution_expressions.specs.Loaded.{IsLoaded, IsInstantiable}
use Rattle.wac_resolution_expressions.specs.Places.{StandThemselves}
use Rattle.wac_resolution_expressions.specs.Primaries.{PrimaryStep, PrimaryBreaks}
use Rattle.wac_resolution_expressions.proofs.Extending.{extends_self, extends_on, nodes_extend, given_extended, imports_extended, contents_extended}
use Rattle.wac_resolution_expressions.proofs.GivingInOrder.{GivesFirst, gives_next, gives_breaks, gives_end}
use Rattle.wac_resolution_expressions.proofs.GivingNodes.{after_more, there_more}
use Rattle.wac_resolution_expressions.proofs.Placing.{each_own}

-- whether arguments are left by their number
none_left : (l : List InstantiationArgument) → is_none (arguments_from l) ≡ nat_eq (length l) 0
none_left [] = refl
none_left (y ∷ l) = (let some : nat_eq (length (y ∷ l)) 0 ≡ false = search rules in sym some)

-- some numbering
all_zero : Numbering
all_zero = λ o. 0

module _ (s : Context) (rules : Rules) where
  -- ---- accesses

  pub expr_goes : (old mid new : Parts) (declared : Named ℕ) (span : Span) (first : PrimaryExpr) (others : List PostfixExpr) (n m : ℕ) → PrimaryStep s rules old mid declared first n → AccessSteps mid new n others m
      → ExprStep s rules old new declared (Expr.expr span first others) m
  expr_goes old mid new declared span first others n m p a = record {
    extends = extends_on (packages_in s) old mid new p.extends (nodes_extend (packages_in s) mid new a.grows p.extends.supplied);
    there = a.there;
    stands = λ numbering one. (at (composition_of numbering mid declared) n, p.stands numbering one, a.go numbering declared);
  }

  pub expr_breaks_first : (old : Parts) (declared : Named ℕ) (span : Span) (first : PrimaryExpr) (others : List PostfixExpr) (e : Error) → PrimaryBreaks s rules old declared first e → ExprBreaks s rules old declared (Expr.expr span first others) e
  expr_breaks_first old declared span first others e h numbering one = inl (h numbering one)

  -- accesses, one of which is broken
  abbrev pub AccessesBreak : Parts → Span → ℕ → List PostfixExpr → Error → Type 0
  AccessesBreak g span n others e = (numbering : Numbering) (declared : Named ℕ) → Fails Accesses (AccessBroken span e) (at (composition_of numbering g declared) n) others

  pub expr_breaks_later : (old mid : Parts) (declared : Named ℕ) (span : Span) (first : PrimaryExpr) (others : List PostfixExpr) (n : ℕ) (r : Result NodeId CodeError) → PrimaryStep s rules old mid declared first n
      → IfErr r (λ e. AccessesBreak mid (primary_span first) n others (error_model e)) → IfErr r (λ e. ExprBreaks s rules old declared (Expr.expr span first others) (error_model e))
  expr_breaks_later old mid declared span first others n r p h =
      IfErr-weaker r (λ e. AccessesBreak mid (primary_span first) n others (error_model e)) (λ e. ExprBreaks s rules old declared (Expr.expr span first others) (error_model e))
      (λ e f numbering one. inr (at (composition_of numbering mid declared) n, p.stands numbering one, f numbering declared)) h

  -- ---- what comes first

  pub ident_goes : (g : Parts) (root : Root) (x : Ident) (node : NodeId) → Agrees g root → AllSupplied (packages_in s) g → NodeIs root x node → PrimaryStep s rules g g (numbers_of root.nodes) (PrimaryExpr.ident x) node.0
  ident_goes g root x node agrees supplied is = record {
    extends = extends_self (packages_in s) g agrees.nodes supplied;
    there = is.there g agrees;
    stands = λ numbering one. (node.0, is.is, refl);
  }

  pub nested_goes : (old new : Parts) (declared : Named ℕ) (span : Span) (x : Expr) (n : ℕ) → ExprStep s rules old new declared x n → PrimaryStep s rules old new declared (PrimaryExpr.nested span x) n
  nested_goes old new declared span x n p = record { extends = p.extends; there = p.there; stands = p.stands }

  -- ---- an instance

  -- a package that is loaded stays in the graph
  pub loaded_still : (old new : Parts) (p : Loaded) (held : HeldPackage) → Extends (packages_in s) old new → IsLoaded old p held → IsLoaded new p held
  loaded_still old new p held e l = record { found = e.held p.id.0 held l.found; world = l.world; named = e.named (kinds.Component p.world) l.named }

  module _ (old loaded mid : Parts) (declared : Named ℕ) (span : Span) (x : PackageName) (args : Arguments) (p : Loaded) (given : Named NodeId) (l : IsInstantiable s old loaded x p) (a : ArgumentSteps s rules loaded mid [] given declared p.world args) where
    -- what it imports is what its world imports
    same_imports : (numbering : Numbering) → imports_in (contents_in numbering loaded l.held) ≡ imports_at numbering loaded p.world
    same_imports numbering = ap (λ (v : WorldId). imports_at numbering loaded v) l.loaded.world

    gives : (numbering : Numbering) → IsOneToOne numbering → Gives (given_in numbering s rules) (imports_in (contents_in numbering loaded l.held)) (nothing_given (composition_of numbering old declared)) args (giving_of numbering mid declared given)
    gives numbering one =
        subst (λ (i : Named Meaning). Gives (given_in numbering s rules) i (nothing_given (composition_of numbering old declared)) args (giving_of numbering mid declared given)) (sym (same_imports numbering))
        (subst (λ (c : Composition). Gives (given_in numbering s rules) (imports_at numbering loaded p.world) (nothing_given c) args (giving_of numbering mid declared given)) (l.composition numbering declared) (a.is numbering one))

    pub themselves : StandThemselves mid declared p.world args given
    themselves numbering one =
        subst (λ (i : Named Meaning). AllOwn i) (sym (imports_extended (packages_in s) loaded mid a.extends p.world l.loaded.named numbering))
        (each_own (given_in numbering s rules) (imports_at numbering loaded p.world) args (composition_of numbering loaded declared) (giving_of numbering mid declared given) (a.is numbering one))
      where
        AllOwn : Named Meaning → Type 0
        AllOwn i = AllByRecursion (λ (y : List ℕ × ℕ). IsSome (look_up y.0 (own_places (composition_of numbering mid declared) i args))) (given_nodes given)

    contents_same : (numbering : Numbering) → contents_in numbering mid l.held ≡ contents_in numbering loaded l.held
    contents_same numbering = contents_extended (packages_in s) loaded mid a.extends l.extends.supplied p.id.0 l.held l.loaded.found numbering

    imports_same : (numbering : Numbering) → imports_in (contents_in numbering loaded l.held) ≡ imports_at numbering mid p.world
    imports_same numbering = same_imports numbering ∙ sym (imports_extended (packages_in s) loaded mid a.extends p.world l.loaded.named numbering)

    pub new_goes : (new : Parts) (n : ℕ) → Completes rules mid new declared p args given n → PrimaryStep s rules old new declared (PrimaryExpr.new span x args) n
    new_goes new n c = record {
      extends = extends_on (packages_in s) old loaded new l.extends (extends_on (packages_in s) loaded mid new a.extends (nodes_extend (packages_in s) mid new c.grows a.extends.supplied));
      there = c.there;
      stands = λ numbering one. (
        contents_in numbering loaded l.held,
        giving_of numbering mid declared given,
        giving_of numbering c.mid declared c.all,
        l.is numbering rules,
        gives numbering one,
        subst (λ (i : Named Meaning). Steps (Spreads i) (giving_of numbering mid declared given) (spreads_of args) (giving_of numbering c.mid declared c.all)) (sym (imports_same numbering)) (c.spread numbering),
        subst (λ (k : Key). Instantiates rules (contents_in numbering loaded l.held) k (has_fill args) (giving_of numbering c.mid declared c.all) (at (composition_of numbering new declared) n)) l.key
            (subst (λ (q : Contents). Instantiates rules q l.held.key (has_fill args) (giving_of numbering c.mid declared c.all) (at (composition_of numbering new declared) n)) (contents_same numbering) (c.made l.held (loaded_still loaded mid p l.held a.extends l.loaded) numbering one)),
      );
    }

    pub completing_breaks : (e : Error) → FailsToComplete rules mid declared p.world x args given e → PrimaryBreaks s rules old declared (PrimaryExpr.new span x args) e
    completing_breaks e f numbering one =
        elim (f numbering (context_of numbering s) (contents_in numbering loaded l.held) one (imports_same numbering)) [
          | inl spread ↦ inr (inr (inl (contents_in numbering loaded l.held, giving_of numbering mid declared given, l.is numbering rules, gives numbering one, spread)))
          | inr b ↦ inr (inr (inr (contents_in numbering loaded l.held, giving_of numbering mid declared given, b.0, l.is numbering rules, gives numbering one, b.1, b.2)))
        ]

  pub unknown_breaks : (old : Parts) (declared : Named ℕ) (span : Span) (x : PackageName) (args : Arguments) (e : Error) → ((numbering : Numbering) (r : Rules) → IsUnknownPackage (given_in numbering s r) x e) → PrimaryBreaks s rules old declared (PrimaryExpr.new span x args) e
  unknown_breaks old declared span x args e h numbering one = inl (h numbering rules)

  pub arguments_break : (old loaded : Parts) (declared : Named ℕ) (span : Span) (x : PackageName) (args : Arguments) (p : Loaded) (e : Error) → IsInstantiable s old loaded x p → ArgumentsBreak s rules loaded [] declared p.world args e
      → PrimaryBreaks s rules old declared (PrimaryExpr.new span x args) e
  arguments_break old loaded declared span x args p e l h numbering one = inr (inl (
    contents_in numbering loaded l.held,
    l.is numbering rules,
    subst (λ (i : Named Meaning). ArgumentsBroken (given_in numbering s rules) i (nothing_given (composition_of numbering old declared)) e args) (sym (ap (λ (v : WorldId). imports_at numbering loaded v) l.loaded.world))
        (subst (λ (c : Composition). ArgumentsBroken (given_in numbering s rules) (imports_at numbering loaded p.world) (nothing_given c) e args) (l.composition numbering declared) (h numbering one)),
  ))

  -- ---- arguments in order

  module _ (old : Parts) (before : Named NodeId) (declared : Named ℕ) (w : WorldId) where
    -- this many arguments were given
    abbrev pub SoFar : Parts → Named NodeId → List CodeArgument → ℕ → Type 0
    SoFar now given xs i = GivesOn (packages_in s) old now before given declared
        (λ numbering a b. GivesFirst (given_in numbering s rules) (imports_at numbering old w) a (take i (map argument_of xs)) (drop i (map argument_of xs)) b)

    -- the same in a loop, with this many left
    pub record InLoop (now : Parts) (given : Named NodeId) (xs : List CodeArgument) (i count : ℕ) : Type 0 where
      pub so_far : SoFar now given xs i
      pub left : count + i ≡ length xs

    pub none_yet : (xs : List CodeArgument) → NodesStand old → AllSupplied (packages_in s) old → GivenThere old before → SoFar old before xs 0
    none_yet xs stand supplied there = record { extends = extends_self (packages_in s) old stand supplied; there = there; is = λ numbering one. refl }

    module _ (mid : Parts) (between : Named NodeId) (xs : List CodeArgument) (i : ℕ) (x : CodeArgument) (within : i < length xs) (is : x ≡ get_or xs i x) (named : Names old.types (kinds.Component w)) (f : SoFar mid between xs i) where
      inside : i < length (map argument_of xs)
      inside = subst (λ (k : ℕ). i < k) (sym (length-map xs argument_of)) within

      here : get_or (map argument_of xs) i (argument_of x) ≡ argument_of x
      here = get_or-map argument_of xs i x (argument_of x) within ∙ ap argument_of (sym is)

      -- whether it is the last one
      last_is : (last : Bool) → last ≡ nat_eq (length xs - suc i) 0 → is_none (arguments_from (drop (suc i) (map argument_of xs))) ≡ last
      last_is last h = none_left (drop (suc i) (map argument_of xs)) ∙ ap (λ (k : ℕ). nat_eq k 0) (length-drop (suc i) (map argument_of xs) ∙ ap (λ (k : ℕ). k - suc i) (length-map xs argument_of)) ∙ sym h

      pub arguments_next : (new : Parts) (after : Named NodeId) (last : Bool) → last ≡ nat_eq (length xs - suc i) 0 → ArgumentStep s rules mid new between after declared w last (argument_of x) → SoFar new after xs (i + 1)
      arguments_next new after last h g = record {
        extends = extends_on (packages_in s) old mid new f.extends g.extends;
        there = g.there;
        is = λ numbering one.
            let step = subst (λ (l : Named Meaning). GivesOne (given_in numbering s rules) l (arguments_from (drop (suc i) (map argument_of xs))) (giving_of numbering mid declared between) (argument_of x) (giving_of numbering new declared after))
            (imports_extended (packages_in s) old mid f.extends w named numbering) (g.is numbering one (arguments_from (drop (suc i) (map argument_of xs))) (last_is last h)) in
            let next : suc i ≡ i + 1 = omega arith in
            subst (λ (k : ℕ). GivesFirst (given_in numbering s rules) (imports_at numbering old w) (giving_of numbering old declared before) (take (i + 1) (map argument_of xs)) (drop k (map argument_of xs)) (giving_of numbering new declared after)) next
            (gives_next (given_in numbering s rules) (imports_at numbering old w) (map argument_of xs) i (argument_of x) inside here (giving_of numbering old declared before) (giving_of numbering mid declared between) (giving_of numbering new declared after) (f.is numbering one) step);
      }

      pub argument_breaks : (last : Bool) (e : Error) → last ≡ nat_eq (length xs - suc i) 0 → ArgumentBreaks s rules mid between declared w last (argument_of x) e → ArgumentsBreak s rules old before declared w (arguments_from (map argument_of xs)) e
      argument_breaks last e h b numbering one =
          let rest : Arguments = arguments_from (drop (suc i) (map argument_of xs)) in
          gives_breaks (given_in numbering s rules) (imports_at numbering old w) (map argument_of xs) i (argument_of x) inside here e (giving_of numbering old declared before) (giving_of numbering mid declared between) (f.is numbering one)
          (subst (λ (l : Named Meaning). ArgumentBroken (given_in numbering s rules) l rest (giving_of numbering mid declared between) e (argument_of x)) (imports_extended (packages_in s) old mid f.extends w named numbering) (b numbering rest one (last_is last h)))

    pub arguments_end : (new : Parts) (after : Named NodeId) (xs : List CodeArgument) (i : ℕ) → length xs ≤ i → SoFar new after xs i → ArgumentSteps s rules old new before after declared w (arguments_from (map argument_of xs))
    arguments_end new after xs i past f = record {
      extends = f.extends;
      there = f.there;
      is = λ numbering one. gives_end (given_in numbering s rules) (imports_at numbering old w) (map argument_of xs) i (giving_of numbering old declared before) (giving_of numbering new declared after) (subst (λ (k : ℕ). k ≤ i) (sym (length-map xs argument_of)) past) (f.is numbering one);
    }

    -- ---- an argument

    pub spread_goes : (last : Bool) (x : Ident) → NodesStand old → AllSupplied (packages_in s) old → GivenThere old before → ArgumentStep s rules old old before before declared w last (InstantiationArgument.spread x)
    spread_goes last x stand supplied there = record { extends = extends_self (packages_in s) old stand supplied; there = there; is = λ numbering one rest h. refl }

    pub fill_goes : (last : Bool) (span : Span) → NodesStand old → AllSupplied (packages_in s) old → GivenThere old before → ((rest : Arguments) → is_none rest ≡ last → IsEmpty rest) → ArgumentStep s rules old old before before declared w last (InstantiationArgument.fill span)
    fill_goes last span stand supplied there h = record { extends = extends_self (packages_in s) old stand supplied; there = there; is = λ numbering one rest is. (h rest is, refl) }

    pub named_goes : (mid : Parts) (after : Named NodeId) (last : Bool) (name : InstantiationArgumentName) (x : Expr) (node : NodeId) → Names old.types (kinds.Component w) → GivenThere old before → ExprStep s rules old mid declared x node.0
        → GivesFor before after (λ numbering. name_meant name (imports_at numbering mid w)) node → ArgumentStep s rules old mid before after declared w last (InstantiationArgument.named name x)
    named_goes mid after last name x node named there e g = record {
      extends = e.extends;
      there = there_more mid before after (name_meant name (imports_at all_zero mid w)) node (g.is all_zero).is (given_extended (packages_in s) old mid e.extends before there) e.there;
      is = λ numbering one rest h.
          let text : List ℕ = name_meant name (imports_at numbering mid w) in
          let same : name_meant name (imports_at numbering old w) ≡ text = ap (name_meant name) (sym (imports_extended (packages_in s) old mid e.extends w named numbering)) in
          let fresh : IsFresh text (given_nodes before) = fresh_read (λ (m : NodeId). m.0) before text (g.is numbering).fresh in
          let c : Composition = composition_of numbering mid declared in (
            at c node.0,
            e.stands numbering one,
            subst (λ (l : List ℕ). IsFresh l (given_nodes before)) (sym same) fresh,
            ap (λ (l : Named ℕ). record { composition = c; arguments = l }) (after_more before after text node (g.is numbering).is) ∙ ap (λ (l : List ℕ). given_too (giving_of numbering old declared before) l (at c node.0)) (sym same),
          );
    }

    pub named_breaks_first : (last : Bool) (name : InstantiationArgumentName) (x : Expr) (e : Error) → ExprBreaks s rules old declared x e → ArgumentBreaks s rules old before declared w last (InstantiationArgument.named name x) e
    named_breaks_first last name x e h numbering rest one is = inl (h numbering one)

    pub named_breaks_later : (mid : Parts) (last : Bool) (name : InstantiationArgumentName) (x : Expr) (node : ℕ) (r : Result (Unit {0}) CodeError) → Names old.types (kinds.Component w) → ExprStep s rules old mid declared x node
        → IfErr r (λ e. IsGivenFor before (λ numbering. name_meant name (imports_at numbering mid w)) (argument_name_span name) (error_model e)) → IfErr r (λ e. ArgumentBreaks s rules old before declared w last (InstantiationArgument.named name x) (error_model e))
    named_breaks_later mid last name x node r named p h =
        IfErr-weaker r (λ e. IsGivenFor before (λ numbering. name_meant name (imports_at numbering mid w)) (argument_name_span name) (error_model e)) (λ e. ArgumentBreaks s rules old before declared w last (InstantiationArgument.named name x) (error_model e))
        (λ e given numbering rest one is.
        let same : imports_at numbering mid w ≡ imports_at numbering old w = imports_extended (packages_in s) old mid p.extends w named numbering in
        inr (
          at (composition_of numbering mid declared) node,
          p.stands numbering one,
          subst (λ (i : Named Meaning). IsGivenAlready (giving_of numbering old declared before) (name_meant name i) (argument_name_span name) (error_model e)) same (given numbering),
        )) h

    pub fill_breaks : (last : Bool) (span : Span) (r : Result (Unit {0}) CodeError) → IfErr r (λ e. (rest : Arguments) → is_none rest ≡ last → IsFillNotLast rest span (error_model e)) → IfErr r (λ e. ArgumentBreaks s rules old before declared w last (InstantiationArgument.fill span) (error_model e))
    fill_breaks last span r h =
        IfErr-weaker r (λ e. (rest : Arguments) → is_none rest ≡ last → IsFillNotLast rest span (error_model e)) (λ e. ArgumentBreaks s rules old before declared w last (InstantiationArgument.fill span) (error_model e)) (λ e b numbering rest one is. b rest is) h

    -- an identifier alone, whose node was given in the same graph
    pub inferred_goes_on : (after : Named NodeId) (last : Bool) (x : Ident) → AllSupplied (packages_in s) old → Gave old old before after declared (λ numbering a b. (t : Given) (rest : Arguments) → GivesOne t (imports_at numbering old w) rest a (InstantiationArgument.inferred x) b)
        → ArgumentStep s rules old old before after declared w last (InstantiationArgument.inferred x)
    inferred_goes_on after last x supplied g = record { extends = extends_self (packages_in s) old g.grows.stand supplied; there = g.there; is = λ numbering one rest is. g.is numbering (given_in numbering s rules) rest }

    pub inferred_breaks_on : (last : Bool) (x : Ident) (r : Result (Unit {0}) CodeError)
        → IfErr r (λ e. (numbering : Numbering) (t : Given) (rest : Arguments) → ArgumentBroken t (imports_at numbering old w) rest (giving_of numbering old declared before) (error_model e) (InstantiationArgument.inferred x))
        → IfErr r (λ e. ArgumentBreaks s rules old before declared w last (InstantiationArgument.inferred x) (error_model e))
    inferred_breaks_on last x r h =
        IfErr-weaker r (λ e. (numbering : Numbering) (t : Given) (rest : Arguments) → ArgumentBroken t (imports_at numbering old w) rest (giving_of numbering old declared before) (error_model e) (InstantiationArgument.inferred x))
        (λ e. ArgumentBreaks s rules old before declared w last (InstantiationArgument.inferred x) (error_model e)) (λ e b numbering rest one is. b numbering (given_in numbering s rules) rest) h

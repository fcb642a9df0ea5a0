-- What resolving promises, from what its parts do.
use Rattle.wac_resolution.proofs.Common.{◌≡◌, List, [], Result, Ok, Err, IfOk, IfErr, IfOk-weaker, inl, refl, sym, subst, map, option_map, PackageParts, document_of, statement_of, package_path_of, PackageKey, Parts, Reports, error_model, memory, Rules, mentions, Context}
use Rattle.wac_ast.specs.declared.document.Document.{Document as CodeDocument}
use Rattle.wac_ast.specs.declared.statement.Statement.{Statement as CodeStatement}
use Rattle.wac_ast_grammar.specs.Tree.{Document}
use Rattle.wac_resolution_errors.specs.declared.error.Error.{Error as CodeError}
use Rattle.wac_resolution.specs.Resolved.{HoldsMentioned, HoldsSupplied, Resolved, in_resolution}
use Rattle.wac_resolution.specs.Resolves.{IsKept, Resolves, ResolvesOver}
use Rattle.wac_resolution.specs.Steps.{Breaks, Composed}
use Rattle.wac_resolution.proofs.Alike.{error_is_right, result_is_right}
use Rattle.wac_resolution.proofs.Ending.{IsLent, lent_described, lent_fails, lent_supplied, lent_only}
use Rattle.wac_resolution.proofs.Kept.{holds_mentioned, holds_supplied, promised_first, promised_graph, promised_only}

-- ---- with all of the packages

-- what is returned for a borrowed document
pub resolved_over : (context : Context) (rules : Rules) (packages : List (PackageKey × PackageParts)) (lent doc : CodeDocument) (statements : List CodeStatement) (r : Result Parts CodeError) → IsLent context packages lent doc statements
    → IfOk r (λ g. Composed context rules (map statement_of statements) (option_map package_path_of lent.directive.targets) g)
    → IfErr r (λ e. Reports (error_model e) (Breaks context rules (map statement_of statements) (option_map package_path_of lent.directive.targets) (error_model e)))
    → ResolvesOver packages rules (document_of doc) (in_resolution doc r)
resolved_over context rules packages lent doc statements (Ok g) is composed said = record {
  supplied = lent_supplied context rules packages lent doc statements g is composed;
  graph = lent_described context rules packages lent doc statements g is composed;
  only = λ declared numbering one. tt;
  first = λ declared numbering one. tt;
}
resolved_over context rules packages lent doc statements (Err e) is composed said = record {
  supplied = tt;
  graph = ([], λ numbering one. tt);
  only = λ declared. lent_only context rules packages lent doc statements (error_model e) is said;
  first = λ declared. lent_fails context rules packages lent doc statements (error_model e) is said;
}

-- ---- with those that the document mentions

document_is : (doc : CodeDocument) (r : Result Parts CodeError) → IfOk (in_resolution doc r) (λ x. x.document ≡ doc)
document_is doc (Ok g) = refl
document_is doc (Err e) = tt

with_all : (doc : CodeDocument) (packages others : List (PackageKey × PackageParts)) (rules : Rules) (r : Result Resolved CodeError) → IsKept (document_of doc) packages others → IfOk r (λ x. x.document ≡ doc)
    → ResolvesOver others rules (document_of doc) r → Resolves packages rules doc r
with_all doc packages others rules r kept is over =
    let d : Document = document_of doc in
    record {
      document = is;
      held = IfOk-weaker r (λ x. HoldsSupplied others x.graph) (λ x. HoldsMentioned (mentions d) x.graph) (λ x. holds_mentioned d packages others x.graph kept) over.supplied;
      supplied = IfOk-weaker r (λ x. HoldsSupplied others x.graph) (λ x. HoldsSupplied packages x.graph) (λ x. holds_supplied d packages others x.graph kept) over.supplied;
      graph = (over.graph.0, promised_graph d packages others kept rules over.graph.0 r over.graph.1);
      only = λ declared. promised_only d packages others kept rules declared r (over.only declared);
      first = λ declared. promised_first d packages others kept rules declared r (over.first declared);
      layout = result_is_right packages rules d r over.graph.0
          (promised_graph d packages others kept rules over.graph.0 r over.graph.1)
          (λ declared. promised_only d packages others kept rules declared r (over.only declared));
    }

-- the packages are kept for one borrowed document and resolved for another, where both are the document
pub resolves : (doc a b : CodeDocument) (packages others : List (PackageKey × PackageParts)) (rules : Rules) (r : Result Parts CodeError) → a ≡ doc → b ≡ doc → IsKept (document_of a) packages others
    → ResolvesOver others rules (document_of b) (in_resolution b r) → Resolves packages rules doc (in_resolution doc r)
resolves doc a b packages others rules r a_is b_is kept over =
    with_all doc packages others rules (in_resolution doc r) (subst (λ (d : CodeDocument). IsKept (document_of d) packages others) a_is kept) (document_is doc r)
    (subst (λ (d : CodeDocument). ResolvesOver others rules (document_of d) (in_resolution d r)) b_is over)

-- the packages that are mentioned can't be listed
pub ran_out : (doc : CodeDocument) (packages : List (PackageKey × PackageParts)) (rules : Rules) (e : CodeError) → error_model e ≡ memory → Resolves packages rules doc (Err e)
ran_out doc packages rules e out = record {
  document = tt;
  held = tt;
  supplied = tt;
  graph = ([], λ numbering one. tt);
  only = λ declared numbering one composition described. out;
  first = λ declared numbering one. inl out;
  layout = error_is_right packages rules (document_of doc) e (λ numbering one composition described. out);
}

-- ---- in a resolution

-- the graph of a borrowed document makes a resolution of it
pub resolution : (doc lent : CodeDocument) (packages : List (PackageKey × PackageParts)) (rules : Rules) (g : Parts) (r : Resolved) → lent ≡ doc → r.document ≡ doc → r.graph ≡ g
    → Resolves packages rules lent (in_resolution lent (Ok g)) → Resolves packages rules doc (Ok r)
resolution doc lent packages rules g r same is graph h =
    let of_doc : Resolves packages rules doc (Ok (record { document = doc; graph = g })) = subst (λ (d : CodeDocument). Resolves packages rules d (in_resolution d (Ok g))) same h in
    let r_is : r ≡ record { document = doc; graph = g } = λ i. record { document = is i; graph = graph i } in
    subst (λ (x : Resolved). Resolves packages rules doc (Ok x)) (sym r_is) of_doc

-- so is an error
pub rejection : (doc lent : CodeDocument) (packages : List (PackageKey × PackageParts)) (rules : Rules) (e : CodeError) → lent ≡ doc → Resolves packages rules lent (in_resolution lent (Err e))
    → Resolves packages rules doc (Err e)
rejection doc lent packages rules e same h = subst (λ (d : CodeDocument). Resolves packages rules d (Err e)) same h

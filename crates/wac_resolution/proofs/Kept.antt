-- What is right with the packages that are mentioned is right with all that were supplied.
use Rattle.wac_resolution.proofs.Common.{◌≡◌, ◌∙◌, ◌↔◌, ℕ, List, [], ◌∷◌, filter, Some, Result, Ok, Err, Bool, true, false, cond, inl, inr, refl, sym, ap, subst, AllByRecursion, PackageParts, Named, version_text, PackageKey, Parts, Numbering, HeldPackage, Key, key_of, same_key, Contents, Packages, contents_in, contents_of, supplied_packages, package_of, Error, Composition, Given, Rules, IsMentioned, Mention, given_over, is_mentioned, kept, mentions, Describes, FirstClause, FirstFailing, GraphClause, OnlyClause, given_to, AllSupplied, IsSuppliedAs}
use Rattle.wac_resolution.specs.Packages.{OnlyTheseMatter}
use Rattle.wac_ast_grammar.specs.Tree.{Document}
use Rattle.wac_graph.proofs.Keys.{keys_same}
use Rattle.wac_resolution_errors.specs.declared.error.Error.{Error as CodeError}
use Rattle.wac_resolution.specs.Resolves.{IsKept}
use Rattle.wac_resolution.specs.Resolved.{HoldsMentioned, HoldsSupplied, Promised, Resolved, by_key, returned, call}

-- ---- what is kept

pub by_key_kept : (ms : List Mention) (es : List (PackageKey × PackageParts)) → by_key (filter (λ e. is_mentioned ms (key_of e.0)) es) ≡ kept ms (by_key es)
by_key_kept ms [] = refl
by_key_kept ms (e ∷ es) = go (is_mentioned ms (key_of e.0)) (by_key_kept ms es)
  where
    go : (b : Bool) → by_key (filter (λ e. is_mentioned ms (key_of e.0)) es) ≡ kept ms (by_key es)
        → by_key (cond b (e ∷ filter (λ e. is_mentioned ms (key_of e.0)) es) (filter (λ e. is_mentioned ms (key_of e.0)) es)) ≡ cond b ((key_of e.0, e.1) ∷ kept ms (by_key es)) (kept ms (by_key es))
    go true same = ap (λ (l : List (Key × PackageParts)). (key_of e.0, e.1) ∷ l) same
    go false same = same

supplied_kept : (numbering : Numbering) (ms : List Mention) (ps : List (Key × PackageParts)) → supplied_packages numbering (kept ms ps) ≡ kept ms (supplied_packages numbering ps)
supplied_kept numbering ms [] = refl
supplied_kept numbering ms (p ∷ ps) = go (is_mentioned ms p.0) (supplied_kept numbering ms ps)
  where
    go : (b : Bool) → supplied_packages numbering (kept ms ps) ≡ kept ms (supplied_packages numbering ps)
        → supplied_packages numbering (cond b (p ∷ kept ms ps) (kept ms ps)) ≡ cond b ((p.0, contents_of numbering p.0 p.1) ∷ kept ms (supplied_packages numbering ps)) (kept ms (supplied_packages numbering ps))
    go true same = ap (λ (l : Packages). (p.0, contents_of numbering p.0 p.1) ∷ l) same
    go false same = same

-- a package that is found among those that are kept is mentioned
found_mentioned : (ms : List Mention) (key : Key) (ps : Packages) (p : Contents) → package_of key (kept ms ps) ≡ Some p → IsMentioned ms key
found_mentioned ms key [] p h = absurd (cc)
found_mentioned ms key (e ∷ es) p h = go (is_mentioned ms e.0) (same_key key e.0) refl refl h (found_mentioned ms key es p)
  where
    go : (b same : Bool) → is_mentioned ms e.0 ≡ b → same_key key e.0 ≡ same → package_of key (cond b (e ∷ kept ms es) (kept ms es)) ≡ Some p
        → (package_of key (kept ms es) ≡ Some p → IsMentioned ms key) → IsMentioned ms key
    go false same m s found later = later found
    go true true m s found later = ap (is_mentioned ms) (keys_same key e.0 s) ∙ m
    go true false m s found later = later (sym (ap (λ (b : Bool). cond b (Some e.1) (package_of key (kept ms es))) s) ∙ found)

-- a package that is found among those that are kept is found among all
found_in_all : (ms : List Mention) (key : Key) (ps : Packages) (p : Contents) → package_of key (kept ms ps) ≡ Some p → package_of key ps ≡ Some p
found_in_all ms key [] p h = h
found_in_all ms key (e ∷ es) p h = go (is_mentioned ms e.0) (same_key key e.0) refl refl h (found_in_all ms key es p)
  where
    go : (b same : Bool) → is_mentioned ms e.0 ≡ b → same_key key e.0 ≡ same → package_of key (cond b (e ∷ kept ms es) (kept ms es)) ≡ Some p
        → (package_of key (kept ms es) ≡ Some p → package_of key es ≡ Some p) → cond same (Some e.1) (package_of key es) ≡ Some p
    go true true m s found later = sym (ap (λ (b : Bool). cond b (Some e.1) (package_of key (kept ms es))) s) ∙ found
    go true false m s found later = later (sym (ap (λ (b : Bool). cond b (Some e.1) (package_of key (kept ms es))) s) ∙ found)
    go false false m s found later = later found
    go false true m s found later = (let there : IsMentioned ms key = found_mentioned ms key es p found in let same : is_mentioned ms key ≡ is_mentioned ms e.0 = ap (is_mentioned ms) (keys_same key e.0 s) in absurd cc)

-- ---- a document

-- any numbering serves, since keys do not depend on it
some_numbering : Numbering
some_numbering origin = 0

pub holds_mentioned : (doc : Document) (packages others : List (PackageKey × PackageParts)) (g : Parts) → IsKept doc packages others → AllSupplied (by_key others) g → HoldsMentioned (mentions doc) g
holds_mentioned doc packages others g k h = each g.packages (subst (λ (l : List (Key × PackageParts)). AllSupplied l g) k.are h)
  where
    each : (held : List HeldPackage) → AllByRecursion (IsSuppliedAs (kept k.these (by_key packages)) g) held → AllByRecursion (λ (p : HeldPackage). IsMentioned (mentions doc) p.key) held
    each [] all = tt
    each (p ∷ held) all =
        let contents : Contents = contents_in some_numbering g p in
        let found = subst (λ (ps : Packages). package_of p.key ps ≡ Some contents) (supplied_kept some_numbering k.these (by_key packages)) (all.0.contents some_numbering) in
        ((k.first.keys p.key).0 (found_mentioned k.these p.key (supplied_packages some_numbering (by_key packages)) contents found), each held all.1)

pub holds_supplied : (doc : Document) (packages others : List (PackageKey × PackageParts)) (g : Parts) → IsKept doc packages others → HoldsSupplied others g → HoldsSupplied packages g
holds_supplied doc packages others g k h = each g.packages (subst (λ (l : List (Key × PackageParts)). AllSupplied l g) k.are h)
  where
    found : (numbering : Numbering) (p : HeldPackage) → IsSuppliedAs (kept k.these (by_key packages)) g p → package_of p.key (supplied_packages numbering (by_key packages)) ≡ Some (contents_in numbering g p)
    found numbering p is =
        found_in_all k.these p.key (supplied_packages numbering (by_key packages)) (contents_in numbering g p)
        (subst (λ (ps : Packages). package_of p.key ps ≡ Some (contents_in numbering g p)) (supplied_kept numbering k.these (by_key packages)) (is.contents numbering))

    each : (held : List HeldPackage) → AllByRecursion (IsSuppliedAs (kept k.these (by_key packages)) g) held → AllByRecursion (IsSuppliedAs (by_key packages) g) held
    each [] all = tt
    each (p ∷ held) all = (record { there = all.0.there; contents = λ numbering. found numbering p all.0 }, each held all.1)

given_kept : (numbering : Numbering) (ms : List Mention) (ps : List (Key × PackageParts)) (rules : Rules) (doc : Document) → given_to numbering (kept ms ps) rules doc ≡ given_over (given_to numbering ps rules doc) (kept ms (supplied_packages numbering ps))
given_kept numbering ms ps rules doc = λ i. record {
  context = record { numbering = numbering; own = doc.directive.package_name.name; version = version_text doc.directive.package_name.string; packages = supplied_kept numbering ms ps i };
  rules = rules;
}

describes_with_all : (doc : Document) (these : List Mention) → OnlyTheseMatter doc these → (numbering : Numbering) (ps : List (Key × PackageParts)) (rules : Rules) (c : Composition)
    → Describes (given_to numbering (kept these ps) rules doc) doc c ↔ Describes (given_to numbering ps rules doc) doc c
describes_with_all doc these only numbering ps rules c =
    subst (λ (s : Given). Describes s doc c ↔ Describes (given_to numbering ps rules doc) doc c) (sym (given_kept numbering these ps rules doc)) (only.describes (given_to numbering ps rules doc) (supplied_packages numbering ps) c refl)

fails_with_all : (doc : Document) (these : List Mention) → OnlyTheseMatter doc these → (numbering : Numbering) (ps : List (Key × PackageParts)) (rules : Rules) (e : Error)
    → FirstFailing (given_to numbering (kept these ps) rules doc) doc e ↔ FirstFailing (given_to numbering ps rules doc) doc e
fails_with_all doc these only numbering ps rules e =
    subst (λ (s : Given). FirstFailing s doc e ↔ FirstFailing (given_to numbering ps rules doc) doc e) (sym (given_kept numbering these ps rules doc)) (only.fails (given_to numbering ps rules doc) (supplied_packages numbering ps) e refl)

-- ---- what is promised

abbrev Clauses : Type 1
Clauses = Given → Document → Result Composition Error → Type 0

-- a clause that holds with these packages holds with all of them
abbrev WithAll : Clauses → Document → Type 0
WithAll Clause doc = (these : List Mention) → OnlyTheseMatter doc these → (numbering : Numbering) (ps : List (Key × PackageParts)) (rules : Rules) (r : Result Composition Error)
    → Clause (given_to numbering (kept these ps) rules doc) doc r → Clause (given_to numbering ps rules doc) doc r

graph_with_all : (doc : Document) → WithAll GraphClause doc
graph_with_all doc these only numbering ps rules (Ok c) h = (describes_with_all doc these only numbering ps rules c).0 h
graph_with_all doc these only numbering ps rules (Err e) h = h

only_with_all : (doc : Document) → WithAll OnlyClause doc
only_with_all doc these only numbering ps rules (Ok c) h = h
only_with_all doc these only numbering ps rules (Err e) h = λ c described. h c ((describes_with_all doc these only numbering ps rules c).1 described)

first_with_all : (doc : Document) → WithAll FirstClause doc
first_with_all doc these only numbering ps rules (Ok c) h = h
first_with_all doc these only numbering ps rules (Err e) (inl m) = inl m
first_with_all doc these only numbering ps rules (Err e) (inr f) = inr ((fails_with_all doc these only numbering ps rules e).0 f)

promised_with_all : (Clause : Clauses) (doc : Document) → WithAll Clause doc → (packages others : List (PackageKey × PackageParts)) → IsKept doc packages others → (rules : Rules) (declared : Named ℕ) (result : Result Resolved CodeError)
    → Promised Clause (call others rules doc result) declared → Promised Clause (call packages rules doc result) declared
promised_with_all Clause doc step packages others k rules declared result h = λ numbering one.
    step k.these k.matter numbering (by_key packages) rules (returned numbering declared result) (subst (λ (l : List (Key × PackageParts)). Clause (given_to numbering l rules doc) doc (returned numbering declared result)) k.are (h numbering one))

pub promised_graph : (doc : Document) (packages others : List (PackageKey × PackageParts)) → IsKept doc packages others → (rules : Rules) (declared : Named ℕ) (result : Result Resolved CodeError)
    → Promised GraphClause (call others rules doc result) declared → Promised GraphClause (call packages rules doc result) declared
promised_graph doc packages others k rules declared result h = promised_with_all GraphClause doc (graph_with_all doc) packages others k rules declared result h

pub promised_only : (doc : Document) (packages others : List (PackageKey × PackageParts)) → IsKept doc packages others → (rules : Rules) (declared : Named ℕ) (result : Result Resolved CodeError)
    → Promised OnlyClause (call others rules doc result) declared → Promised OnlyClause (call packages rules doc result) declared
promised_only doc packages others k rules declared result h = promised_with_all OnlyClause doc (only_with_all doc) packages others k rules declared result h

pub promised_first : (doc : Document) (packages others : List (PackageKey × PackageParts)) → IsKept doc packages others → (rules : Rules) (declared : Named ℕ) (result : Result Resolved CodeError)
    → Promised FirstClause (call others rules doc result) declared → Promised FirstClause (call packages rules doc result) declared
promised_first doc packages others k rules declared result h = promised_with_all FirstClause doc (first_with_all doc) packages others k rules declared result h

-- The tests of a statement's name and identifier.
use Rattle.wac_resolution_statements.proofs.Common.{◌≡◌, ◌∙◌, ℕ, List, Option, None, inl, inr, refl, sym, ap, subst, Span, ImportStatement, ItemKind, Named, Parts, Numbering, Error, IsImportedAlready, IsInvalidName, help_unless, ImportNameBroken, IsBound, Places, import_span, Root, composition_of, numbers_of, composed, places}
use Rattle.wac_resolution_statements.specs.declared.externs.Externs.{Externs}
use Rattle.wac_resolution_statements.specs.Externs.{imported_in, places_in, Under}
use Rattle.wac_graph_types.specs.declared.kind.ExternKind.TheVariants as sides
use Rattle.wac_graph_types.specs.declared.rules.Reason.{Reason}
use Rattle.wac_resolution_statements.specs.Imports.{IsUnimported, AddsImport, ImportsAs}

-- the name that is tested is the statement's, with its place and help
pub record IsNameOf (s : ImportStatement) (name text : List ℕ) (span : Span) (help : Option (List ℕ)) : Type 0 where
  pub of_text : text ≡ name
  pub of_span : span ≡ import_span s
  pub of_help : help ≡ help_unless s.name

-- a rule that the statement's name breaks, under a numbering and with these rules for names
abbrev pub NameBreaks : (List ℕ → Option Reason) → Parts → Root → Externs → ImportStatement → List ℕ → Error → Type 0
NameBreaks named g root x s name e = (numbering : Numbering) → Under named (λ given. ImportNameBroken given (composed numbering g root) (places_in root x) e s name)

module _ (named : List ℕ → Option Reason) (g : Parts) (root : Root) (x : Externs) (s : ImportStatement) (name text : List ℕ) (span : Span) (help : Option (List ℕ)) (is : IsNameOf s name text span help) where
  pub imported_breaks : (e : Error) → ((numbering : Numbering) (declared : Named ℕ) (all : Places) → all.imported ≡ imported_in x → IsImportedAlready (composition_of numbering g declared) all text span help e) → NameBreaks named g root x s name e
  imported_breaks e h numbering given same = inl (
      subst (λ (t : List ℕ). IsImportedAlready (composed numbering g root) (places_in root x) t (import_span s) (help_unless s.name) e) is.of_text
      (subst (λ (p : Span). IsImportedAlready (composed numbering g root) (places_in root x) text p (help_unless s.name) e) is.of_span
      (subst (λ (o : Option (List ℕ)). IsImportedAlready (composed numbering g root) (places_in root x) text span o e) is.of_help
      (h numbering (numbers_of root.nodes) (places_in root x) refl)))
      )

  pub invalid_breaks : (e : Error) → IsUnimported g text → Under named (λ given. IsInvalidName given text sides.Import span e) → NameBreaks named g root x s name e
  invalid_breaks e new h numbering given same = inr (
    (subst (IsUnimported g) is.of_text new).in_composition numbering (numbers_of root.nodes),
    inl (subst (λ (t : List ℕ). IsInvalidName given t sides.Import (import_span s) e) is.of_text (subst (λ (p : Span). IsInvalidName given text sides.Import p e) is.of_span (h given same))),
  )

  pub bound_breaks : (e : Error) → IsUnimported g text → named text ≡ None → ((numbering : Numbering) (all : Places) → all.bound ≡ places root → IsBound (composed numbering g root) all s.id e) → NameBreaks named g root x s name e
  bound_breaks e new passes h numbering given same = inr (
    (subst (IsUnimported g) is.of_text new).in_composition numbering (numbers_of root.nodes),
    inr (ap given.rules.named (sym is.of_text) ∙ ap (λ (f : List ℕ → Option Reason). f text) same ∙ passes, h numbering (places_in root x) refl),
  )

  pub imports_as : (new : Parts) (after : Root) (y : Externs) (k : ItemKind) → IsUnimported g text → named text ≡ None → AddsImport g new root after x y s.id text span k → ImportsAs named g new root after x y s name k
  imports_as new after y k unimported passes adds = record {
    unimported = subst (IsUnimported g) is.of_text unimported;
    passes = ap named (sym is.of_text) ∙ passes;
    adds =
        subst (λ (t : List ℕ). AddsImport g new root after x y s.id t (import_span s) k) is.of_text
        (subst (λ (p : Span). AddsImport g new root after x y s.id text p k) is.of_span adds);
  }

use Rattle.wac_ast_base.proofs.Common.{◌≡◌, ◌+◌, ◌-◌, ◌^◌, inl, inr, min, ◌∷◌, [], ap, ◌∙◌}
use Rattle.std.proofs.Common.{sym}
use Rattle.wac_ast_base.specs.Lookahead.{tried}
use Rattle.wac_ast_base.proofs.Places.{Keeps, keeps}
use Rattle.wac_ast_base.proofs.lookahead.Lookahead.keep.Goals.{then-self-lt-KEPT, else-self-lt-KEPT}
use Rattle.wac_ast_base.proofs.lookahead.Lookahead.keep.Goals as goal

kept : (c : goal.After-self-1) → Keeps c.self.inside.attempts c.if-self-lt-KEPT.self-inside.attempts c.args.token (min (c.self.inside.count + 1) (2 ^ 64 - 1))
kept c =
    keeps c.self.inside.attempts c.if-self-lt-KEPT.self-inside.attempts c.self.inside.count c.args.token c.self.invariant.0 c.self.invariant.1 (elim c.if-self-lt-KEPT.branch [
      | then-self-lt-KEPT w ↦ inl (w.if-self-lt-KEPT.true, ap (λ i. i.attempts) w.self-inside-is)
      | else-self-lt-KEPT w ↦ inr (w.if-self-lt-KEPT.false, ap (λ i. i.attempts) w.self-inside-is)
    ])

same : (c : goal.After-self-1) → (c.if-self-lt-KEPT.self-inside.next ≡ c.self.inside.next) × (c.if-self-lt-KEPT.self-inside.span ≡ c.self.inside.span) × (c.if-self-lt-KEPT.self-inside.count ≡ c.self.inside.count)
same c =
    elim c.if-self-lt-KEPT.branch [
      | then-self-lt-KEPT w ↦ (ap (λ i. i.next) w.self-inside-is, ap (λ i. i.span) w.self-inside-is, ap (λ i. i.count) w.self-inside-is)
      | else-self-lt-KEPT w ↦ (ap (λ i. i.next) w.self-inside-is, ap (λ i. i.span) w.self-inside-is, ap (λ i. i.count) w.self-inside-is)
    ]

counted : (c : goal.After-self-1) → c.saturating_add-self-inside.result ≡ min (c.self.inside.count + 1) (2 ^ 64 - 1)
counted c = c.saturating_add-self-inside.ensures ∙ ap (λ n. min (n + 1) (2 ^ 64 - 1)) (same c).2

pub invariant_of-self : goal.invariant_of-self
invariant_of-self c = let k = kept c in (k.in_front, k.counted ∙ ap (λ n. min n 10) (sym (counted c)))

pub returns : goal.returns
returns c =
    let view = ap (tried (c.args.token ∷ [])) c.self.view_is in
    rw ((same c).0, (same c).1, counted c, (kept c).kept) view
